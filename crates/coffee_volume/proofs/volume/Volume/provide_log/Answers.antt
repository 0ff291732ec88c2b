use Rattle.std.proofs.Common.{◌≡◌, ◌&&◌, not, ℕ, Bool, true, false, Option, None, Some, IsTrue, refl, subst, sym, ◌∙◌, if◌then◌else◌}
use Rattle.std.proofs.lemmas.Result.{on_ok_weaker}
use Rattle.coffee_volume.specs.Lowest.{LooksFor, StepsTo, log_for}
use Rattle.coffee_volume.specs.Rooms.{records_needed}
use Rattle.coffee_volume.specs.Volumes.{AtEntry}
use Rattle.coffee_volume.specs.declared.entry.Entry.{Entry}
use Rattle.coffee_volume.specs.declared.step.Step.{Step}
use Rattle.coffee_volume.specs.declared.step.Step.TheVariants.{Log}
use Rattle.coffee_volume.proofs.Stepped.{lacking, log_done}
use Rattle.coffee_volume.proofs.Tables.{one_entry, space_with}
use Rattle.coffee_volume.proofs.Takings.{log_lies}
use Rattle.coffee_volume.proofs.volume.Volume.provide_log.Goals as goal

pub returns-then-lacks_log-clause-ready : goal.returns-then-lacks_log-clause-ready
returns-then-lacks_log-clause-ready g c =
    let e : Entry = c.entry-at.result in
    let bare : e.at.log ≡ None = lacking e.at.log (records_needed e.at.log c.args.overwrites c.args.bytes) (sym c.lacks_log.ensures ∙ c.if-lacks_log.true) in
    on_ok_weaker c.take.result
    (λ after d is. log_done _ e d.at c.args.overwrites c.args.bytes c.entry-at.ensures.regular (c.requires.shaped e c.entry-at.ensures.entry) bare c.requires.overwrites (after e d c.entry-at.ensures.entry is))
    c.take.ensures.after

pub returns-then-lacks_log-clause-more : goal.returns-then-lacks_log-clause-more
returns-then-lacks_log-clause-more g c =
    let v = c.args.self.now in
    let e : Entry = c.entry-at.result in
    let bare : e.at.log ≡ None = lacking e.at.log (records_needed e.at.log c.args.overwrites c.args.bytes) (sym c.lacks_log.ensures ∙ c.if-lacks_log.true) in
    on_ok_weaker c.take.result
    (λ after x d was is p.
    let same = one_entry v.table c.args.id e x c.entry-at.ensures.entry was in
    log_lies x.at d.at p (after x d was is).0 (subst (λ (y : Entry). y.at.log ≡ None) same bare))
    c.take.ensures.after

log_asked : (lacks : Bool) → lacks ≡ true → (if lacks then Some Log else None) ≡ Some Log
log_asked true is = refl
log_asked false is = absurd (cc)

pub returns-then-lacks_log-clause-chooses : goal.returns-then-lacks_log-clause-chooses
returns-then-lacks_log-clause-chooses g c =
    let v = c.args.self.now in
    let e : Entry = c.entry-at.result in
    let w : ℕ = c.args.overwrites in
    let b : ℕ = c.args.bytes in
    let old = g.F.Flash.image v.flash in
    let new = g.F.Flash.image c.take.new.self.flash in
    let asked : log_for e.at w b ≡ Some Log = log_asked _ (sym c.lacks_log.ensures ∙ c.if-lacks_log.true) in
    record {
      taken = c.take.ensures.chooses.taken;
      lowest = on_ok_weaker c.take.result
          (λ lowest told x d was is.
          let one = one_entry v.table c.args.id e x c.entry-at.ensures.entry was in
          let asks : log_for x.at w b ≡ Some Log = subst (λ (y : Entry). log_for y.at w b ≡ Some Log) one asked in
          subst (λ (o : Option Step). StepsTo o old new x.at d.at) (sym asks) (lowest told x d was is))
          c.take.ensures.chooses.lowest;
      looked = space_with c.take.result (λ need. IsTrue (g.F.Flash.tells && not v.failed) → AtEntry v.table c.args.id (λ d. LooksFor (Some Log) d need old new)) (λ need. IsTrue (g.F.Flash.tells && not v.failed) → AtEntry v.table c.args.id (λ d. LooksFor (Some Log) d need old new)) _
          (λ need looks _ told x was.
          let one = one_entry v.table c.args.id e x c.entry-at.ensures.entry was in
          let asks : log_for x.at w b ≡ Some Log = subst (λ (y : Entry). log_for y.at w b ≡ Some Log) one asked in
          subst (λ (o : Option Step). LooksFor o x.at need old new) (sym asks) (looks told x was))
          c.take.ensures.chooses.looked c.take.ensures.chooses.looked;
      untaken = c.take.ensures.chooses.untaken;
    }
