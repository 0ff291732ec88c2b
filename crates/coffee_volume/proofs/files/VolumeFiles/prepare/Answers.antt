use Rattle.std.proofs.Common.{◌≡◌, ◌∙◌, ◌&&◌, not, ℕ, None, IsTrue, ap, arith, rules, subst, sym}
use Rattle.std.specs.Prelude.{Err}
use Rattle.std.proofs.lemmas.Result.{err_from_is_err_and}
use Rattle.padded.proofs.Facts.{false_true}
use Rattle.coffee_volume.specs.Rooms.{pages_asked}
use Rattle.coffee_volume.specs.Lowest.{LooksFor, log_for}
use Rattle.coffee_volume.specs.Steps.{step_for}
use Rattle.coffee_volume.specs.Volumes.{AtEntry, EntryTable, IsEntry, places, state_seen}
use Rattle.coffee_volume.proofs.Asking.{asks_alike}
use Rattle.coffee_volume.proofs.MendedFiles.{between_mends}
use Rattle.coffee_volume.proofs.Moved.{none_wanted}
use Rattle.coffee_volume.proofs.Stepped.{asked_step}
use Rattle.coffee_volume.proofs.Tables.{entry_seen, space_with}
use Rattle.coffee_volume.proofs.Takings.{handed_on, nothing_taken, same_more, space_handed, steps_taken, stops_first, stops_log, turns_lowest}
use Rattle.coffee_volume.proofs.files.VolumeFiles.prepare.Goals as goal

pub returns-in_err-reshape-clause-unasked : goal.returns-in_err-reshape-clause-unasked
returns-in_err-reshape-clause-unasked g c never =
    let v = c.args.self.now in
    let w : ℕ = c.args.overwrites in
    let b : ℕ = c.args.bytes in
    let had = entry_seen (g.F.Flash.tells && not v.failed) (g.F.Flash.image v.flash) v.table c.args.id c.requires.live in
    let none : pages_asked had.0.at w b ≡ None = none_wanted v.table c.args.id had.0 w b had.1 never in
    let nowhere = c.reshape.ensures.unasked had.0 had.1 (asked_step had.0.at w b none) in
    let said = err_from_is_err_and c.from_residual.result c.from_residual.ensures.1 in
    record {
      store = nowhere.image;
      fits = space_handed c.reshape.result c.from_residual.result c.in_err-reshape.field-0.0 _ c.in_err-reshape.was (said.1 ∙ ap (λ e. Err e) said.2) nowhere.fits;
      still = search rules;
    }

pub returns-in_err-provide_log-clause-unasked : goal.returns-in_err-provide_log-clause-unasked
returns-in_err-provide_log-clause-unasked g c never =
    let v = c.args.self.now in
    let w : ℕ = c.args.overwrites in
    let b : ℕ = c.args.bytes in
    let had = entry_seen (g.F.Flash.tells && not v.failed) (g.F.Flash.image v.flash) v.table c.args.id c.requires.live in
    let none : pages_asked had.0.at w b ≡ None = none_wanted v.table c.args.id had.0 w b had.1 never in
    let first = c.reshape.ensures.unasked had.0 had.1 (asked_step had.0.at w b none) in
    let still : IsEntry c.reshape.new.self.table c.args.id had.0 = subst (λ (t : EntryTable). IsEntry t c.args.id had.0) (sym first.table) had.1 in
    let second = c.provide_log.ensures.unasked had.0 still none in
    let said = err_from_is_err_and c.from_residual-in_err-provide_log.result c.from_residual-in_err-provide_log.ensures.1 in
    record {
      store = second.image ∙ first.image;
      fits = space_handed c.provide_log.result c.from_residual-in_err-provide_log.result c.in_err-provide_log.field-0.0 _ c.in_err-provide_log.was (said.1 ∙ ap (λ e. Err e) said.2) second.fits;
      still = search rules;
    }

pub returns-clause-unasked : goal.returns-clause-unasked
returns-clause-unasked g c never =
    let v = c.args.self.now in
    let w : ℕ = c.args.overwrites in
    let b : ℕ = c.args.bytes in
    let had = entry_seen (g.F.Flash.tells && not v.failed) (g.F.Flash.image v.flash) v.table c.args.id c.requires.live in
    let none : pages_asked had.0.at w b ≡ None = none_wanted v.table c.args.id had.0 w b had.1 never in
    let first = c.reshape.ensures.unasked had.0 had.1 (asked_step had.0.at w b none) in
    let still : IsEntry c.reshape.new.self.table c.args.id had.0 = subst (λ (t : EntryTable). IsEntry t c.args.id had.0) (sym first.table) had.1 in
    let second = c.provide_log.ensures.unasked had.0 still none in
    let same = ap g.F.Flash.image c.grant.ensures.flash ∙ second.image ∙ first.image in
    record {
      store = same;
      fits = tt;
      still = record { store = same; asks_less = asks_alike v.table c.grant.new.self.table (c.grant.ensures.places ∙ ap places (second.table ∙ first.table)) };
    }

pub returns-in_err-reshape-clause-pages : goal.returns-in_err-reshape-clause-pages
returns-in_err-reshape-clause-pages g c =
    let v = c.args.self.now in
    let w : ℕ = c.args.overwrites in
    let b : ℕ = c.args.bytes in
    let id : ℕ = c.args.id in
    let old = g.F.Flash.image v.flash in
    let new = g.F.Flash.image c.reshape.new.self.flash in
    let said = err_from_is_err_and c.from_residual.result c.from_residual.ensures.1 in
    let same = said.1 ∙ ap (λ e. Err e) said.2 in
    record {
      taken = handed_on c.reshape.result c.from_residual.result c.in_err-reshape.field-0.0 _ _ _ _ c.in_err-reshape.was same
          c.reshape.ensures.contents c.reshape.ensures.chooses.untaken c.reshape.ensures.chooses.untaken
          (λ _ none _ told p was now. absurd (false_true _ now (none told p was)));
      lowest = search rules;
      looked = space_handed c.reshape.result c.from_residual.result c.in_err-reshape.field-0.0 _ c.in_err-reshape.was same
          (space_with c.reshape.result (λ need. IsTrue (g.F.Flash.tells && not v.failed) → AtEntry v.table id (λ e. LooksFor (step_for e w b) e need old new)) (λ need. IsTrue (g.F.Flash.tells && not v.failed) → AtEntry v.table id (λ e. LooksFor (step_for e w b) e need old new)) _
          (λ need looks _. stops_first g.F.Flash.tells v.failed old new v.table v.draft id w b need c.requires.live v.told looks)
          c.reshape.ensures.chooses.looked c.reshape.ensures.chooses.looked);
    }

pub returns-in_err-provide_log-clause-pages : goal.returns-in_err-provide_log-clause-pages
returns-in_err-provide_log-clause-pages g c =
    let v = c.args.self.now in
    let m = c.reshape.new.self in
    let n = c.provide_log.new.self in
    let mid = g.F.Flash.image m.flash in
    let new = g.F.Flash.image n.flash in
    let first = c.in_ok-reshape.ensures.contents in
    let said = err_from_is_err_and c.from_residual-in_err-provide_log.result c.from_residual-in_err-provide_log.ensures.1 in
    let w : ℕ = c.args.overwrites in
    let b : ℕ = c.args.bytes in
    let id : ℕ = c.args.id in
    let same = said.1 ∙ ap (λ e. Err e) said.2 in
    record {
      taken = handed_on c.provide_log.result c.from_residual-in_err-provide_log.result c.in_err-provide_log.field-0.0 _ _ _ _ c.in_err-provide_log.was same
          c.provide_log.ensures.contents c.provide_log.ensures.kept c.provide_log.ensures.chooses.untaken
          (λ second kept none told. steps_taken g.F.Flash.tells v.failed m.failed n.failed (g.F.Flash.image v.flash) mid new v.table m.table n.table v.draft m.draft n.draft c.args.id
          (record {
            first = first;
            second = second;
            told = n.told;
            taken = c.in_ok-reshape.ensures.chooses.taken;
            more = same_more m.table n.table c.args.id kept;
            then_taken = λ then d is. nothing_taken mid new d.at (none then);
          }) told);
      lowest = search rules;
      looked = space_handed c.provide_log.result c.from_residual-in_err-provide_log.result c.in_err-provide_log.field-0.0 _ c.in_err-provide_log.was same
          (space_with c.provide_log.result (λ need. IsTrue (g.F.Flash.tells && not m.failed) → AtEntry m.table id (λ e. LooksFor (log_for e w b) e need mid new)) (λ need. IsTrue (g.F.Flash.tells && not m.failed) → AtEntry m.table id (λ e. LooksFor (log_for e w b) e need mid new)) _
          (λ need looks _. stops_log g.F.Flash.tells v.failed m.failed (g.F.Flash.image v.flash) mid new v.table m.table v.draft m.draft id w b need
          (record {
            live = c.requires.live;
            held = v.told;
            first = c.in_ok-reshape.ensures.contents;
            between_held = m.told;
            lowest = c.in_ok-reshape.ensures.chooses.lowest;
            looks = looks;
          }))
          c.provide_log.ensures.chooses.looked c.provide_log.ensures.chooses.looked);
    }

pub returns-clause-pages : goal.returns-clause-pages
returns-clause-pages g c =
    let v = c.args.self.now in
    let m = c.reshape.new.self in
    let n = c.provide_log.new.self in
    record {
      taken = rw c.grant.ensures.flash
          (steps_taken g.F.Flash.tells v.failed m.failed n.failed (g.F.Flash.image v.flash) (g.F.Flash.image m.flash) (g.F.Flash.image n.flash) v.table m.table n.table v.draft m.draft n.draft c.args.id
          (record {
            first = c.in_ok-reshape.ensures.contents;
            second = c.in_ok-provide_log.ensures.contents;
            told = n.told;
            taken = c.in_ok-reshape.ensures.chooses.taken;
            more = c.in_ok-provide_log.ensures.more;
            then_taken = c.in_ok-provide_log.ensures.chooses.taken;
          }));
      lowest = rw c.grant.ensures.flash
          (turns_lowest g.F.Flash.tells v.failed m.failed n.failed (g.F.Flash.image v.flash) (g.F.Flash.image m.flash) (g.F.Flash.image n.flash) v.table m.table n.table v.draft m.draft n.draft c.args.id c.args.overwrites c.args.bytes
          (record {
            live = c.requires.live;
            held = v.told;
            first = c.in_ok-reshape.ensures.contents;
            second = c.in_ok-provide_log.ensures.contents;
            between_held = m.told;
            told = n.told;
            lowest = c.in_ok-reshape.ensures.chooses.lowest;
            then_lowest = c.in_ok-provide_log.ensures.chooses.lowest;
          }));
      looked = tt;
    }

pub returns-in_err-provide_log-clause-cut : goal.returns-in_err-provide_log-clause-cut
returns-in_err-provide_log-clause-cut g c = λ u told failed.
    let v = c.args.self.now in
    let mid = c.reshape.new.self in
    let old = state_seen (g.F.Flash.tells && not v.failed) (g.F.Flash.image v.flash) v.table v.draft in
    let now = state_seen (g.F.Flash.tells && not mid.failed) (g.F.Flash.image mid.flash) mid.table mid.draft in
    let kept = c.in_ok-reshape.ensures.contents in
    let said = err_from_is_err_and c.from_residual-in_err-provide_log.result c.from_residual-in_err-provide_log.ensures.1 in
    between_mends old now c.args.id (g.F.Flash.image c.provide_log.new.self.flash) told c.requires.live kept
    (c.provide_log.ensures.cut u (subst IsTrue (sym kept.tells) told) (c.in_err-provide_log.was ∙ sym (said.1 ∙ ap (λ e. Err e) said.2) ∙ failed))

pub returns-in_err-reshape-clause-few : goal.returns-in_err-reshape-clause-few
returns-in_err-reshape-clause-few g c =
    let said = err_from_is_err_and c.from_residual.result c.from_residual.ensures.1 in
    space_handed c.reshape.result c.from_residual.result c.in_err-reshape.field-0.0 _ c.in_err-reshape.was (said.1 ∙ ap (λ e. Err e) said.2) c.reshape.ensures.few

pub returns-in_err-provide_log-clause-few : goal.returns-in_err-provide_log-clause-few
returns-in_err-provide_log-clause-few g c =
    let said = err_from_is_err_and c.from_residual-in_err-provide_log.result c.from_residual-in_err-provide_log.ensures.1 in
    space_handed c.provide_log.result c.from_residual-in_err-provide_log.result c.in_err-provide_log.field-0.0 _ c.in_err-provide_log.was (said.1 ∙ ap (λ e. Err e) said.2)
    (space_with c.provide_log.result (λ need. need ≡ 16) (λ need. need ≡ 16) _
    (λ need is _. record { growing = λ grows. search (rules, is); fixed = λ n fixed. omega (arith, is) })
    c.provide_log.ensures.need c.provide_log.ensures.need)
