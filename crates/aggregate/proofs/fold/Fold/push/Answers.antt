use Rattle.std.proofs.Common.{rules, [], ◌∷◌, arith, length-append}
use Rattle.std.specs.Prelude.{FitsSigned}
use Rattle.std.specs.Int.{w64}
use Rattle.std.proofs.lemmas.Int.{to_z-of_z}
use Rattle.db_model.specs.Answers.{numbers}
use Rattle.aggregate.specs.Fold.{numbers_for}
use Rattle.aggregate.proofs.Numbers.{numbers-more, numbers_for-more}
use Rattle.aggregate.proofs.fold.Fold.push.Goals as goal
use Rattle.aggregate.proofs.fold.Fold.push.Goals.{in-Gathering, in-Searching, in-Done}

pub returns-clause-told : goal.returns-clause-told
returns-clause-told c = λ all so_far k.
    let f : FitsSigned w64 c.in-Some.number = search rules in
    let h = rw (← c.self.view_is) at k in
    elim c.match-self.branch [
      | in-Gathering w ↦
          let g = rw w.in-Gathering.is at h.stage_is in
          rw w.self-inside-is (record {
            pushed_is = omega (arith, h.pushed_is, length-append so_far (c.args.value.now ∷ []));
            stage_is = rw (numbers_for-more c.self.inside.agg so_far c.args.value.now c.in-Some.number c.in-Some.ensures.value) (rw (to_z-of_z w64 c.in-Some.number f) at (w.with.ensures.told (numbers_for c.self.inside.agg so_far) g));
          })
      | in-Searching w ↦
          let g = rw w.in-Searching.is at h.stage_is in
          rw w.self-inside-is (record {
            pushed_is = omega (arith, h.pushed_is, length-append so_far (c.args.value.now ∷ []));
            stage_is = rw (numbers-more c.self.inside.agg so_far c.args.value.now c.in-Some.number c.in-Some.ensures.value) (rw (to_z-of_z w64 c.in-Some.number f) at (w.take.ensures.told (numbers all) (numbers so_far) _ g));
          })
      | in-Done w ↦
          rw w.self-inside-is (record {
            pushed_is = omega (arith, h.pushed_is, length-append so_far (c.args.value.now ∷ []));
            stage_is = rw w.in-Done.is (rw w.in-Done.is at h.stage_is);
          })
    ]
