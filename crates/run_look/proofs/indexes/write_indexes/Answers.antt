use Rattle.std.proofs.Common.{rules, ◌<◌, None, arith, length}
use Rattle.dump.proofs.Items.{less_item}
use Rattle.run_look.specs.Text.{index_line_text, slot_text}
use Rattle.run_look.proofs.indexes.write_indexes.Goals as goal

pub returns-in_err-write_index-clause-failed : goal.returns-in_err-write_index-clause-failed
returns-in_err-write_index-clause-failed g c = λ sound.
    let db = c.args.session.now.database in
    let below : c.loop-slot.slot < length db.indexes = omega (arith, sound.eight_indexes, c.loop-slot-test.true) in
    let less = less_item (slot_text (index_line_text db.relations)) db.indexes c.loop-slot.slot None below (g.K.Sink.held c.args.out.now) (g.K.Sink.held c.loop-slot.out) _ (c.loop-slot.invariant.wrote sound) (rw c.index_id.ensures at c.in_err-write_index.ensures.failed) in
    search (rules, less)
