use Rattle.std.proofs.Common.{◌≡◌, ◌*◌, ◌≤◌, ◌&&◌, max, not, ℕ, Option, Some, IsTrue, ap, sym, subst, ◌∙◌, arith}
use Rattle.std.proofs.lemmas.Result.{on_ok_weaker}
use Rattle.afl_base.specs.Files.{File}
use Rattle.afl_base.specs.Fit.{fit}
use Rattle.coffee_volume.specs.Lowest.{LooksFor, StepsTo}
use Rattle.coffee_volume.specs.Steps.{MayTake, NeedsFew, need_of, step_for}
use Rattle.coffee_volume.specs.Volumes.{Asks, AtEntry, EntryTable, IsEntry}
use Rattle.coffee_volume.specs.declared.entry.Entry.{Entry}
use Rattle.coffee_volume.specs.declared.step.Step.{Step}
use Rattle.coffee_volume.proofs.Stepped.{step_asks, step_done, step_may, step_needs}
use Rattle.coffee_volume.proofs.Tables.{one_entry, space_with}
use Rattle.coffee_volume.proofs.volume.Volume.reshape.Goals as goal

pub take-requires-clause-may : goal.take-requires-clause-may
take-requires-clause-may g c =
    let v = c.args.self.now in
    let e : Entry = c.entry-at.result in
    let step : Step = c.in-Some.step in
    let may : MayTake step e.at =
    step_may _ e c.args.overwrites c.args.bytes step c.entry-at.ensures.regular (sym c.step_for.ensures ∙ c.in-Some.is) c.requires.bytes (omega (arith, c.requires.most, c.entry-at.ensures.size))
    (λ n is. omega (arith, c.requires.fixed n (ap (λ (f : File). f.kind) c.entry-at.ensures.file ∙ is), c.entry-at.ensures.size)) in
    λ d is. subst (λ (x : Entry). MayTake step x.at) (one_entry v.table c.args.id e d c.entry-at.ensures.entry is) may

pub returns-in-Some-clause-shaped : goal.returns-in-Some-clause-shaped
returns-in-Some-clause-shaped g c =
    let e : Entry = c.entry-at.result in
    let step : Step = c.in-Some.step in
    let may : MayTake step e.at =
    step_may _ e c.args.overwrites c.args.bytes step c.entry-at.ensures.regular (sym c.step_for.ensures ∙ c.in-Some.is) c.requires.bytes (omega (arith, c.requires.most, c.entry-at.ensures.size))
    (λ n is. omega (arith, c.requires.fixed n (ap (λ (f : File). f.kind) c.entry-at.ensures.file ∙ is), c.entry-at.ensures.size)) in
    on_ok_weaker c.take.result
    (λ after d is. step_done _ e d.at c.args.overwrites c.args.bytes step c.entry-at.ensures.regular (sym c.step_for.ensures ∙ c.in-Some.is) may c.requires.bytes (after e d c.entry-at.ensures.entry is))
    c.take.ensures.after

pub returns-in-Some-clause-asked : goal.returns-in-Some-clause-asked
returns-in-Some-clause-asked g c =
    let v = c.args.self.now in
    let e : Entry = c.entry-at.result in
    let step : Step = c.in-Some.step in
    let same : EntryTable = c.take.new.self.table in
    space_with c.take.result (λ _. same ≡ v.table) (λ need. (x : Entry) → IsEntry v.table c.args.id x → need ≡ need_of step x.at) (λ need. Asks same c.args.id c.args.overwrites c.args.bytes need)
    (λ n kept need d is.
    let here : IsEntry v.table c.args.id d = subst (λ (t : EntryTable). IsEntry t c.args.id d) kept is in
    let one = one_entry v.table c.args.id e d c.entry-at.ensures.entry here in
    let asks : step_for d.at c.args.overwrites c.args.bytes ≡ Some step = subst (λ (x : Entry). step_for x.at c.args.overwrites c.args.bytes ≡ Some step) one (sym c.step_for.ensures ∙ c.in-Some.is) in
    step_asks d.at c.args.overwrites c.args.bytes step asks ∙ ap (λ (k : ℕ). Some k) (sym (need d here)))
    c.take.ensures.kept c.take.ensures.need

pub returns-in-Some-clause-few : goal.returns-in-Some-clause-few
returns-in-Some-clause-few g c =
    let v = c.args.self.now in
    let e : Entry = c.entry-at.result in
    let step : Step = c.in-Some.step in
    let may : MayTake step e.at =
    step_may _ e c.args.overwrites c.args.bytes step c.entry-at.ensures.regular (sym c.step_for.ensures ∙ c.in-Some.is) c.requires.bytes (omega (arith, c.requires.most, c.entry-at.ensures.size))
    (λ n is. omega (arith, c.requires.fixed n (ap (λ (f : File). f.kind) c.entry-at.ensures.file ∙ is), c.entry-at.ensures.size)) in
    let needs : NeedsFew e.at (need_of step e.at) = step_needs _ e step c.entry-at.ensures.regular may in
    let kind = sym (ap (λ (f : File). f.kind) c.entry-at.ensures.file) in
    space_with c.take.result (λ need. (x : Entry) → IsEntry v.table c.args.id x → need ≡ need_of step x.at) (λ need. (x : Entry) → IsEntry v.table c.args.id x → need ≡ need_of step x.at) _
    (λ n need _.
    let is = need e c.entry-at.ensures.entry in
    record {
      growing = λ grows. subst (λ (s : ℕ). n ≤ max 16 (2 * fit s)) (sym c.entry-at.ensures.size) (omega (arith, is, needs.doubling (kind ∙ grows)));
      fixed = λ m fixed. omega (arith, is, needs.fixed m (kind ∙ fixed));
    })
    c.take.ensures.need c.take.ensures.need

pub returns-in-Some-clause-chooses : goal.returns-in-Some-clause-chooses
returns-in-Some-clause-chooses g c =
    let v = c.args.self.now in
    let e : Entry = c.entry-at.result in
    let step : Step = c.in-Some.step in
    let old = g.F.Flash.image v.flash in
    let new = g.F.Flash.image c.take.new.self.flash in
    record {
      taken = c.take.ensures.chooses.taken;
      lowest = on_ok_weaker c.take.result
          (λ lowest told x d was is.
          let one = one_entry v.table c.args.id e x c.entry-at.ensures.entry was in
          let asks : step_for x.at c.args.overwrites c.args.bytes ≡ Some step = subst (λ (y : Entry). step_for y.at c.args.overwrites c.args.bytes ≡ Some step) one (sym c.step_for.ensures ∙ c.in-Some.is) in
          subst (λ (o : Option Step). StepsTo o old new x.at d.at) (sym asks) (lowest told x d was is))
          c.take.ensures.chooses.lowest;
      looked = space_with c.take.result (λ need. IsTrue (g.F.Flash.tells && not v.failed) → AtEntry v.table c.args.id (λ d. LooksFor (Some step) d need old new)) (λ need. IsTrue (g.F.Flash.tells && not v.failed) → AtEntry v.table c.args.id (λ d. LooksFor (Some step) d need old new)) _
          (λ need looks _ told x was.
          let one = one_entry v.table c.args.id e x c.entry-at.ensures.entry was in
          let asks : step_for x.at c.args.overwrites c.args.bytes ≡ Some step = subst (λ (y : Entry). step_for y.at c.args.overwrites c.args.bytes ≡ Some step) one (sym c.step_for.ensures ∙ c.in-Some.is) in
          subst (λ (o : Option Step). LooksFor o x.at need old new) (sym asks) (looks told x was))
          c.take.ensures.chooses.looked c.take.ensures.chooses.looked;
      untaken = c.take.ensures.chooses.untaken;
    }
