use Rattle.std.proofs.Common.{arith, ◌≡◌, ◌<◌, ℤ, List, [], ◌∷◌, ◌++◌, Option, length, take, ap, sym, ◌∙◌, subst, length-append}
use Rattle.db_model.specs.declared.commands.Agg.{Agg}
use Rattle.db_model.specs.Answers.{aggregate}
use Rattle.aggregate.specs.Fold.{Folds, wants_pass}
use Rattle.session_queries.specs.declared.tally.Tally.{Tally}
use Rattle.std.specs.Prelude.{IsFalse}
use Rattle.session_model.proofs.Running.{same_default}
use Rattle.session_plans.specs.Aggregates.{answers, column_values}
use Rattle.session_queries.specs.Folded.{item_at, no_tally, tally_at}
use Rattle.session_queries.proofs.FoldSteps.{answers_more}
use Rattle.session_queries.proofs.folding.answers_of.Goals as goal

pub loop-i-preserved : goal.loop-i-preserved
loop-i-preserved c =
    let inv = c.loop-i.invariant in
    let i = c.loop-i.i in
    let tallies = c.args.tallies.now in
    let items = c.args.items.now in
    let tally = c.index-tallies-i.result in
    let inside : i < length tallies = omega (arith, c.requires.many) in
    let read : tally ≡ tally_at tallies i = c.index-tallies-i.is ∙ same_default tallies i tally no_tally inside in
    record {
      size = let e = ap (λ (l : List (Option ℤ)). length l) c.push.ensures in omega (arith, e, length-append c.loop-i.answers (c.answer.result ∷ []), inv.size);
      few = inv.few;
      told = λ all aggs are done.
          let cells = column_values (item_at items i).1 all in
          let known : Folds cells [] tally.fold = subst (λ (t : Tally). Folds cells [] t.fold) (sym read) (are i c.loop-i-test.true) in
          let ended : IsFalse (wants_pass tally.fold) = subst (λ (t : Tally). IsFalse (wants_pass t.fold)) (sym read) (done i c.loop-i-test.true) in
          let agg : tally.fold.agg ≡ (item_at items i).0 = ap (λ (t : Tally). t.fold.agg) read ∙ aggs i c.loop-i-test.true in
          let answered = c.answer.ensures.told cells [] known ended ∙ ap (λ (a : Agg). aggregate a cells) agg in
          c.push.ensures
          ∙ ap (λ (l : List (Option ℤ)). l ++ c.answer.result ∷ []) (inv.told all aggs are done)
          ∙ ap (λ (z : Option ℤ). answers (take i items) all ++ z ∷ []) answered
          ∙ sym (answers_more items i all c.loop-i-test.true);
    }
