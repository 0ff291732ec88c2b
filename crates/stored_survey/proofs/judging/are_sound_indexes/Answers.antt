use Rattle.std.proofs.Common.{arith, rules, ◌∙◌, ℕ, refl}
use Rattle.stored_survey.specs.Asked.{IsKeptBeside}
use Rattle.stored_survey.proofs.Seen.{accepted, each_next, not_ok, refuted}
use Rattle.stored_survey.proofs.judging.are_sound_indexes.Goals as goal

pub returns-then-not-sound-clause-sound : goal.returns-then-not-sound-clause-sound
returns-then-not-sound-clause-sound g c = λ told read beside.
    refuted c.in_ok-sound.sound ((rw c.loop-slot.invariant.same at c.in_ok-sound.ensures.kept) told read beside) c.if-not-sound.true (λ all. all c.loop-slot.slot c.loop-slot-test.true)

pub loop-slot-preserved : goal.loop-slot-preserved
loop-slot-preserved g c =
    let inv = c.loop-slot.invariant in
    record {
      same = c.in_ok-sound.ensures.frame.same ∙ inv.same;
      kept = λ told read beside. each_next (λ (i : ℕ). IsKeptBeside (g.V.Files.state c.args.files.now).files c.args.half.now i) c.loop-slot.slot (inv.kept told read beside)
          (((rw inv.same at c.in_ok-sound.ensures.kept) told read beside).0 c.if-not-sound.false);
      lent = c.in_ok-sound.ensures.frame.lent ∙ inv.lent;
      later = search rules;
      faults = search rules;
    }

pub returns-clause-sound : goal.returns-clause-sound
returns-clause-sound g c = λ told read beside. accepted (λ i below. c.loop-slot.invariant.kept told read beside i (omega (arith, below, c.loop-slot-test.false)))

pub loop-slot-init : goal.loop-slot-init
loop-slot-init g c = record { same = refl; kept = λ told read beside i below. absurd (omega (arith, below)); lent = refl; later = omega arith; faults = refl }

pub returns-in_err-sound-clause-sound : goal.returns-in_err-sound-clause-sound
returns-in_err-sound-clause-sound g c = λ told read beside. not_ok _ _ c.from_residual.result c.from_residual.ensures.1
