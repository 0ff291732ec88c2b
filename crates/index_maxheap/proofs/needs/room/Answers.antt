use Rattle.std.proofs.Common.{arith, ◌∙◌}
use Rattle.afl_base.specs.Files.{bytes_at}
use Rattle.index_tree.specs.Trees.{numbered}
use Rattle.index_tree.proofs.Inserted.{tree_small}
use Rattle.index_maxheap.proofs.Told.{room_found}
use Rattle.index_maxheap.proofs.needs.room.Goals as goal

pub returns-then-size-gt268000-clause-room : goal.returns-then-size-gt268000-clause-room
returns-then-size-gt268000-clause-room g c = λ told keys tree.
    let small = tree_small (bytes_at (g.V.Files.state c.args.files.now).files c.args.index) (numbered 0 keys) tree in
    absurd (omega (arith, small, c.if-size-gt268000.true, c.size-size.ensures))

pub returns-clause-room : goal.returns-clause-room
returns-clause-room g c = λ told keys tree.
    c.room_for-room.ensures.room ∙ room_found c.in_ok-end.end (bytes_at (g.V.Files.state c.args.files.now).files c.args.index) keys c.args.key.now tree (c.in_ok-end.ensures.finds told keys tree)
