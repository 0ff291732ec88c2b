use Rattle.std.proofs.Common.{arith, rules, ◌∙◌, refl, ℕ, IsTrue, subst}
use Rattle.padded.proofs.Facts.{false_true}
use Rattle.stored.specs.CutTables.{index_read}
use Rattle.afl_base.specs.Files.{State}
use Rattle.stored_survey.specs.Asked.{IsReadAs}
use Rattle.stored_survey.specs.Shown.{IsSettledIndex, ShowsIndex}
use Rattle.stored_survey.proofs.Seen.{each_next}
use Rattle.stored_survey.proofs.finding.half_of_indexes.Goals as goal

pub returns-then-not-is_nothing-clause-shows : goal.returns-then-not-is_nothing-clause-shows
returns-then-not-is_nothing-clause-shows g c = λ told read. (
  (λ e. absurd (false_true c.is_nothing.result c.if-not-is_nothing.true (c.is_nothing.ensures.1 e))),
  (λ differs. ((rw c.loop-slot.invariant.same at c.in_ok-half.ensures.shows) told read).1 differs),
)

pub loop-slot-preserved : goal.loop-slot-preserved
loop-slot-preserved g c =
    let inv = c.loop-slot.invariant in
    let files = (g.V.Files.state c.args.files.now).files in
    record {
      same = c.in_ok-half.ensures.frame.same ∙ inv.same;
      settled = λ told read. each_next (λ (k : ℕ). IsSettledIndex files k (index_read files k)) c.loop-slot.slot (inv.settled told read)
          (((subst (λ (s : State). IsTrue s.tells → IsReadAs s.files c.args.catalog.now → ShowsIndex s.files c.loop-slot.slot c.in_ok-half.half) inv.same c.in_ok-half.ensures.shows) told read).0 (c.is_nothing.ensures.0 c.if-not-is_nothing.false));
      lent = c.in_ok-half.ensures.frame.lent ∙ inv.lent;
      later = search rules;
      faults = search rules;
    }

pub returns-clause-shows : goal.returns-clause-shows
returns-clause-shows g c = λ told read. (
  (λ e k below. c.loop-slot.invariant.settled told read k (omega (arith, below, c.loop-slot-test.false))),
  (λ differs. absurd (differs refl)),
)

pub loop-slot-init : goal.loop-slot-init
loop-slot-init g c = record { same = refl; settled = λ told read k below. absurd (omega (arith, below)); lent = refl; later = omega arith; faults = refl }
