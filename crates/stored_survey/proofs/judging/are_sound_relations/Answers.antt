use Rattle.std.proofs.Common.{arith, rules, ◌∙◌, ℕ, refl}
use Rattle.stored_survey.specs.Asked.{IsSoundBeside}
use Rattle.stored_survey.proofs.Seen.{accepted, each_next, refuted}
use Rattle.stored_survey.proofs.judging.are_sound_relations.Goals as goal

pub returns-then-not-sound-clause-sound : goal.returns-then-not-sound-clause-sound
returns-then-not-sound-clause-sound g c = λ told read.
    refuted c.in_ok-sound.sound ((rw c.loop-slot.invariant.same at c.in_ok-sound.ensures.sound) told read) c.if-not-sound.true (λ all. all c.loop-slot.slot c.loop-slot-test.true)

pub loop-slot-preserved : goal.loop-slot-preserved
loop-slot-preserved g c =
    let inv = c.loop-slot.invariant in
    record {
      same = c.in_ok-sound.ensures.frame.same ∙ inv.same;
      sound = λ told read. each_next (λ (k : ℕ). IsSoundBeside (g.V.Files.state c.args.files.now).files c.args.half.now k) c.loop-slot.slot (inv.sound told read)
          (((rw inv.same at c.in_ok-sound.ensures.sound) told read).0 c.if-not-sound.false);
      lent = c.in_ok-sound.ensures.frame.lent ∙ inv.lent;
      later = search rules;
      faults = search rules;
    }

pub returns-clause-sound : goal.returns-clause-sound
returns-clause-sound g c = λ told read. accepted (λ k below. c.loop-slot.invariant.sound told read k (omega (arith, below, c.loop-slot-test.false)))

pub loop-slot-init : goal.loop-slot-init
loop-slot-init g c = record { same = refl; sound = λ told read k below. absurd (omega (arith, below)); lent = refl; later = omega arith; faults = refl }
