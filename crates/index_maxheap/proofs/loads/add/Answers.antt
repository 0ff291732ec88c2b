use Rattle.std.proofs.Common.{refl, ◌+◌, ◌%◌, ◌∙◌, get_or}
use Rattle.index_tree.proofs.Loaded.{loads_some, opened_none, opened_some}
use Rattle.index_maxheap.proofs.loads.add.Goals as goal

pub returns-then-load-eq0-clause-loads : goal.returns-then-load-eq0-clause-loads
returns-then-load-eq0-clause-loads c = loads_some c.args.loads.now c.args.key.now c.level_with_room.result c.from-node.result (get_or c.args.loads.now c.from-node.result 0 + 1) 1 c.level_with_room.ensures (c.from-node.ensures ∙ c.node.ensures.value) refl (opened_none (get_or c.args.loads.now c.from-node.result 0 % 32) c.if-load-eq0.true)

pub returns-else-load-eq0-clause-loads : goal.returns-else-load-eq0-clause-loads
returns-else-load-eq0-clause-loads c = loads_some c.args.loads.now c.args.key.now c.level_with_room.result c.from-node.result (get_or c.args.loads.now c.from-node.result 0 + 1) 0 c.level_with_room.ensures (c.from-node.ensures ∙ c.node.ensures.value) refl (opened_some (get_or c.args.loads.now c.from-node.result 0 % 32) c.if-load-eq0.false)
