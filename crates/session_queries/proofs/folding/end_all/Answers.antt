use Rattle.std.proofs.Common.{rules, arith, ◌≡◌, ◌<◌, ◌||◌, length, sym, ◌∙◌, subst, ap, refl}
use Rattle.std.specs.Prelude.{IsFalse}
use Rattle.std.proofs.Math.Logic.{⊎_elim}
use Rattle.std.proofs.lemmas.Grind.{get_or-set_at}
use Rattle.session_queries.specs.declared.tally.Tally.{Tally}
use Rattle.session_queries.specs.Folded.{EndsPass, tally_at}
use Rattle.session_queries.proofs.FoldSteps.{either_true, median_of, set_before, set_behind, tally_read}
use Rattle.session_queries.proofs.folding.end_all.Goals as goal
use Rattle.padded.proofs.Facts.{neither}

pub loop-i-preserved : goal.loop-i-preserved
loop-i-preserved c =
    let inv = c.loop-i.invariant in
    let i = c.loop-i.i in
    let new = c.end_pass.new.tally in
    let inside : i < length c.loop-i.tallies = omega (arith, inv.many, c.requires.many) in
    let read = tally_read c.args.tallies.now c.loop-i.tallies i c.index-tallies-i.result inside c.index-tallies-i.is inv.behind in
    let ended = subst (λ (t : Tally). EndsPass t new) (sym c.index-tallies-i.is ∙ read) c.end_pass.ensures in
    let some : c.either-is_open.result ≡ (c.loop-i.is_open || new.is_open) =
    c.either-is_open.ensures ∙ ap (λ (t : Tally). c.loop-i.is_open || t.is_open) (get_or-set_at c.loop-i.tallies i i new _ refl inside) in
    record {
      many = search rules;
      behind = set_behind c.args.tallies.now c.loop-i.tallies i new inv.behind;
      ends = set_before (λ j tally. EndsPass (tally_at c.args.tallies.now j) tally) c.loop-i.tallies i new inside inv.ends ended;
      closed = λ none.
          let neither = neither c.loop-i.is_open new.is_open (sym some ∙ none) in
          set_before (λ j tally. IsFalse tally.is_open) c.loop-i.tallies i new inside (inv.closed neither.0) neither.1;
      median = λ aggs more.
          ⊎_elim (λ before. inv.median aggs before)
          (λ now. median_of c.args.items.now i (tally_at c.args.tallies.now i).fold.agg new.is_open c.loop-i-test.true (aggs i c.loop-i-test.true) ended.once now)
          (either_true c.loop-i.is_open new.is_open (sym some ∙ more));
    }
