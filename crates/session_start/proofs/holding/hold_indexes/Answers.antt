use Rattle.std.proofs.Common.{arith, ◌∙◌}
use Rattle.std.proofs.lemmas.List.{length-set}
use Rattle.session_start.proofs.Placed.{index_next}
use Rattle.session_start.proofs.holding.hold_indexes.Goals as goal

pub loop-slot-preserved : goal.loop-slot-preserved
loop-slot-preserved g c =
    let inv = c.loop-slot.invariant in
    record {
      long = length-set c.loop-slot.indexes c.loop-slot.slot c.hold_index.result ∙ inv.long;
      held = index_next (g.V.Files.state c.args.files.now).files c.args.entries.now c.loop-slot.indexes c.loop-slot.slot c.index-entries-place.result c.hold_index.result
          (omega (arith, c.type_inv.entries, c.loop-slot-test.true)) (omega (arith, inv.long, c.loop-slot-test.true)) inv.held c.hold_index.ensures.index;
    }
