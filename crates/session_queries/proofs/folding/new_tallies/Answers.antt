use Rattle.std.proofs.Common.{rules, arith}
use Rattle.session_queries.specs.Folded.{IsNew, item_at}
use Rattle.session_queries.proofs.FoldSteps.{set_before}
use Rattle.session_queries.proofs.folding.new_tallies.Goals as goal

pub loop-i-preserved : goal.loop-i-preserved
loop-i-preserved c =
    let inv = c.loop-i.invariant in
    record {
      few = inv.few;
      eight = search rules;
      fresh = set_before (λ j tally. IsNew (item_at c.args.items.now j).0 tally) c.loop-i.tallies c.loop-i.i c.new_tally.result (omega (arith, inv.eight, inv.few)) inv.fresh c.new_tally.ensures;
    }
