use Rattle.std.proofs.Common.{◌≡◌, ◌<◌, ◌&&◌, not, ℕ, Some, length, Err, ap, rules, subst, arith}
use Rattle.coffee_layout.specs.Files.{FitsIn}
use Rattle.coffee_layout.specs.Units.{pages_of}
use Rattle.coffee_layout.specs.declared.file.FileAt.{FileAt}
use Rattle.coffee_volume.specs.Lowest.{LooksFor, StepsTo}
use Rattle.coffee_volume.specs.Steps.{need_of}
use Rattle.coffee_volume.specs.Taking.{LiesIn}
use Rattle.coffee_volume.specs.Volumes.{IsEntry, IsRegular, places, roomless}
use Rattle.coffee_volume.specs.declared.entry.Entry.{Entry}
use Rattle.coffee_volume.proofs.MendedFiles.{off_mends}
use Rattle.coffee_volume.proofs.Moved.{kept_becomes, moved_becomes}
use Rattle.coffee_volume.proofs.Standing.{Stands, holds_idle, same_pages, stands_idle, stands_still, where_told}
use Rattle.coffee_volume.proofs.Stepped.{after_regular, after_same}
use Rattle.coffee_volume.proofs.Tables.{in_places, one_entry, regular_same, told_by}
use Rattle.coffee_volume.proofs.Takings.{none_taken, set_entry}
use Rattle.coffee_volume.proofs.Windows.{none_held}
use Rattle.coffee_volume.proofs.volume.Volume.take.Goals as goal

pub invariant_of-self-in-Ok : goal.invariant_of-self-in-Ok
invariant_of-self-in-Ok g c =
    let v = c.args.self.now in
    let old = g.F.Flash.image v.flash in
    let new = g.F.Flash.image c.take_step.new.flash in
    let e : Entry = c.entry-at.result in
    let to : FileAt = c.in-Ok.to in
    let i : ℕ = c.number.result in
    let s : Stands g.F.Flash.tells v.failed old v.table v.draft = record { count = v.count; big = v.big; whole = v.whole; regular = v.regular; pending = v.pending; space = v.space; told = v.told } in
    let is : IsEntry v.table i e = rw c.number.ensures.value c.entry-at.ensures.entry in
    let inside : i < length v.table = omega (arith, v.count, c.number.ensures.below) in
    let fits : FitsIn (pages_of old) to = subst (λ (n : ℕ). FitsIn n to) (same_pages old new c.take_step.ensures.frame.size) c.in-Ok.ensures.inside in
    let fine : IsRegular (pages_of old) (roomless to) = after_regular (pages_of old) c.args.step e to c.entry-at.ensures.regular (c.requires.may e c.entry-at.ensures.entry) c.in-Ok.ensures.after fits in
    let same = after_same c.args.step e.at to c.in-Ok.ensures.after in
    let k = stands_idle g.F.Flash.tells v.failed old new v.table v.draft i (Some (roomless to)) s c.requires.idle c.take_step.ensures.frame.size (regular_same (pages_of old) v.table i e (roomless to) v.regular inside is same.name fine)
    (λ told fine. (c.in-Ok.ensures.moved told (places v.table) i (holds_idle g.F.Flash.tells v.failed old v.table v.draft s c.requires.idle told fine) (in_places v.table i e is)).moves.sets.holds) in
    record { count = k.count; big = k.big; whole = k.whole; regular = k.regular; pending = k.pending; space = k.space; told = k.told; shown = λ told e is k low. absurd (none_held _ k c.clear.ensures low) }

pub invariant_of-self-in-Err-Space : goal.invariant_of-self-in-Err-Space
invariant_of-self-in-Err-Space g c =
    let v = c.args.self.now in
    let old = g.F.Flash.image v.flash in
    let new = g.F.Flash.image c.take_step.new.flash in
    let s : Stands g.F.Flash.tells v.failed old v.table v.draft = record { count = v.count; big = v.big; whole = v.whole; regular = v.regular; pending = v.pending; space = v.space; told = v.told } in
    let k = stands_still g.F.Flash.tells v.failed old new v.table v.draft s c.requires.idle c.take_step.ensures.frame.size
    (λ told fine. (rw c.in-Err-Space.field-0-is at (c.in-Err-Space.ensures.left told) (places v.table) (holds_idle g.F.Flash.tells v.failed old v.table v.draft s c.requires.idle told fine)).stays.holds) in
    record { count = k.count; big = k.big; whole = k.whole; regular = k.regular; pending = k.pending; space = k.space; told = k.told; shown = λ told e is k low. absurd (none_held _ k c.clear.ensures low) }

pub returns-in-Ok-clause-contents : goal.returns-in-Ok-clause-contents
returns-in-Ok-clause-contents g c =
    let v = c.args.self.now in
    let old = g.F.Flash.image v.flash in
    let new = g.F.Flash.image c.take_step.new.flash in
    let e : Entry = c.entry-at.result in
    let id : ℕ = c.args.id in
    let s : Stands g.F.Flash.tells v.failed old v.table v.draft = record { count = v.count; big = v.big; whole = v.whole; regular = v.regular; pending = v.pending; space = v.space; told = v.told } in
    let holds = holds_idle g.F.Flash.tells v.failed old v.table v.draft s c.requires.idle in
    let inside : id < length v.table = omega (arith, v.count, c.number.ensures.below, c.number.ensures.value) in
    rw c.number.ensures.value
    (moved_becomes (g.F.Flash.tells && not v.failed) old new v.table v.draft id e c.in-Ok.to inside c.requires.idle c.entry-at.ensures.entry (after_same c.args.step e.at c.in-Ok.to c.in-Ok.ensures.after)
    (where_told g.F.Flash.tells v.failed _ holds)
    (where_told g.F.Flash.tells v.failed _ (λ told fine. (c.in-Ok.ensures.moved told (places v.table) id (holds told fine) (in_places v.table id e c.entry-at.ensures.entry)).moves)))

pub returns-in-Err-Space-clause-contents : goal.returns-in-Err-Space-clause-contents
returns-in-Err-Space-clause-contents g c =
    let v = c.args.self.now in
    let old = g.F.Flash.image v.flash in
    let new = g.F.Flash.image c.take_step.new.flash in
    let e : Entry = c.entry-at.result in
    let s : Stands g.F.Flash.tells v.failed old v.table v.draft = record { count = v.count; big = v.big; whole = v.whole; regular = v.regular; pending = v.pending; space = v.space; told = v.told } in
    kept_becomes (g.F.Flash.tells && not v.failed) old new v.table v.draft c.args.id e c.requires.idle c.entry-at.ensures.entry
    (where_told g.F.Flash.tells v.failed _ (λ told fine. (rw c.in-Err-Space.field-0-is at (c.in-Err-Space.ensures.left told) (places v.table) (holds_idle g.F.Flash.tells v.failed old v.table v.draft s c.requires.idle told fine)).stays.kept))

pub returns-in-Err-Space-clause-frame : goal.returns-in-Err-Space-clause-frame
returns-in-Err-Space-clause-frame g c =
    let v = c.args.self.now in
    let old = g.F.Flash.image v.flash in
    let s : Stands g.F.Flash.tells v.failed old v.table v.draft = record { count = v.count; big = v.big; whole = v.whole; regular = v.regular; pending = v.pending; space = v.space; told = v.told } in
    record {
      store = search rules;
      lent = search rules;
      later = search rules;
      lacks = λ told.
          let both = told_by g.F.Flash.tells v.failed told in
          rw c.in-Err-Space.need-is (rw c.in-Err-Space.field-0-is at (c.in-Err-Space.ensures.left both.0) (places v.table) (holds_idle g.F.Flash.tells v.failed old v.table v.draft s c.requires.idle both.0 both.1)).cramped;
      cause = search rules;
    }

pub returns-in-Ok-clause-chooses : goal.returns-in-Ok-clause-chooses
returns-in-Ok-clause-chooses g c =
    let v = c.args.self.now in
    let old = g.F.Flash.image v.flash in
    let new = g.F.Flash.image c.take_step.new.flash in
    let e : Entry = c.entry-at.result in
    let id : ℕ = c.args.id in
    let s : Stands g.F.Flash.tells v.failed old v.table v.draft = record { count = v.count; big = v.big; whole = v.whole; regular = v.regular; pending = v.pending; space = v.space; told = v.told } in
    let inside : id < length v.table = omega (arith, v.count, c.number.ensures.below, c.number.ensures.value) in
    record {
      taken = λ told d is p free taken.
          let both = told_by g.F.Flash.tells v.failed told in
          let same = set_entry v.table id (roomless c.in-Ok.to) d inside (rw c.number.ensures.value at is) in
          subst (λ (x : Entry). LiesIn x.at p) same
          ((c.in-Ok.ensures.moved both.0 (places v.table) id (holds_idle g.F.Flash.tells v.failed old v.table v.draft s c.requires.idle both.0 both.1) (in_places v.table id e c.entry-at.ensures.entry)).taken p free taken);
      lowest = λ told x d was is.
          let both = told_by g.F.Flash.tells v.failed told in
          let one : e ≡ x = one_entry v.table id e x c.entry-at.ensures.entry was in
          let same : roomless c.in-Ok.to ≡ d = set_entry v.table id (roomless c.in-Ok.to) d inside (rw c.number.ensures.value at is) in
          subst (λ (y : Entry). StepsTo (Some c.args.step) old new x.at y.at) same
          (subst (λ (y : Entry). StepsTo (Some c.args.step) old new y.at c.in-Ok.to) one (
            c.in-Ok.ensures.after,
            (c.in-Ok.ensures.moved both.0 (places v.table) id (holds_idle g.F.Flash.tells v.failed old v.table v.draft s c.requires.idle both.0 both.1) (in_places v.table id e c.entry-at.ensures.entry)).lowest,
          ));
      looked = search rules;
      untaken = search rules;
    }

pub returns-in-Err-Space-clause-chooses : goal.returns-in-Err-Space-clause-chooses
returns-in-Err-Space-clause-chooses g c =
    let v = c.args.self.now in
    let old = g.F.Flash.image v.flash in
    let new = g.F.Flash.image c.take_step.new.flash in
    let e : Entry = c.entry-at.result in
    let s : Stands g.F.Flash.tells v.failed old v.table v.draft = record { count = v.count; big = v.big; whole = v.whole; regular = v.regular; pending = v.pending; space = v.space; told = v.told } in
    let need : c.in-Err-Space.need ≡ need_of c.args.step e.at = rw c.in-Err-Space.field-0-is at c.in-Err-Space.ensures.need in
    record {
      taken = search rules;
      lowest = search rules;
      looked = rw c.in-Err-Space.field-0-is
          (λ told x is.
          let both = told_by g.F.Flash.tells v.failed told in
          let one : e ≡ x = one_entry v.table c.args.id e x c.entry-at.ensures.entry is in
          let left = rw c.in-Err-Space.field-0-is at (c.in-Err-Space.ensures.left both.0) (places v.table) (holds_idle g.F.Flash.tells v.failed old v.table v.draft s c.requires.idle both.0 both.1) in
          subst (λ (y : Entry). LooksFor (Some c.args.step) y.at c.in-Err-Space.need old new) one (need, left.looked));
      untaken = λ told.
          let both = told_by g.F.Flash.tells v.failed told in
          none_taken old new
          (rw c.in-Err-Space.field-0-is at (c.in-Err-Space.ensures.left both.0) (places v.table) (holds_idle g.F.Flash.tells v.failed old v.table v.draft s c.requires.idle both.0 both.1)).untaken;
    }

pub returns-in-Err-Failed-clause-cut : goal.returns-in-Err-Failed-clause-cut
returns-in-Err-Failed-clause-cut g c = λ u told failed.
    let v = c.args.self.now in
    let old = g.F.Flash.image v.flash in
    let e : Entry = c.entry-at.result in
    let id : ℕ = c.args.id in
    let both = told_by g.F.Flash.tells v.failed told in
    let s : Stands g.F.Flash.tells v.failed old v.table v.draft = record { count = v.count; big = v.big; whole = v.whole; regular = v.regular; pending = v.pending; space = v.space; told = v.told } in
    off_mends g.F.Flash.tells v.failed old (g.F.Flash.image c.take_step.new.flash) v.table v.draft s told c.requires.idle c.take_step.ensures.frame.size
    (c.in-Err-Failed.ensures.cut both.0 u (ap Err c.in-Err-Failed.field-0-is) (places v.table) id (holds_idle g.F.Flash.tells v.failed old v.table v.draft s c.requires.idle both.0 both.1) (in_places v.table id e c.entry-at.ensures.entry))
