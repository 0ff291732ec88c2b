use Rattle.std.proofs.Common.{rules, arith, List, ◌<◌, length, subst, sym, ◌∙◌, get_or}
use Rattle.db_model.specs.declared.values.Value.{Value}
use Rattle.db_model.specs.Row.{tuple_of}
use Rattle.session_model.specs.View.{value_at}
use Rattle.session_queries.specs.declared.tally.Tally.{Tally}
use Rattle.session_queries.specs.Folded.{TakesValue, item_at, tally_at}
use Rattle.session_queries.proofs.FoldSteps.{set_before, set_behind, tally_read}
use Rattle.session_queries.proofs.folding.push_all.Goals as goal

pub loop-i-preserved : goal.loop-i-preserved
loop-i-preserved c =
    let inv = c.loop-i.invariant in
    let i = c.loop-i.i in
    let new = c.push.new.tally in
    let tuple : List Value = tuple_of c.args.attributes.now c.args.row.now in
    let inside : i < length c.loop-i.tallies = omega (arith, inv.many, c.requires.many) in
    let read = tally_read c.args.tallies.now c.loop-i.tallies i c.index-tallies-i.result inside c.index-tallies-i.is inv.behind in
    record {
      many = search rules;
      behind = set_behind c.args.tallies.now c.loop-i.tallies i new inv.behind;
      takes = set_before (λ j tally. TakesValue (value_at tuple (item_at c.args.items.now j).1) (tally_at c.args.tallies.now j) tally) c.loop-i.tallies i new inside inv.takes
          (subst (λ (t : Tally). TakesValue (value_at tuple (item_at c.args.items.now i).1) t new) (sym c.index-tallies-i.is ∙ read)
          (subst (λ (v : Value). TakesValue v (get_or c.loop-i.tallies i c.index-tallies-i.result) new) c.value_or_zero.ensures c.push.ensures));
    }
