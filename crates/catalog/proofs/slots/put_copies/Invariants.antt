use Rattle.std.proofs.Common.{◌≡◌, ◌+◌, ◌*◌, length}
use Rattle.afl_base.specs.Fields.{put_at}
use Rattle.catalog.specs.Copies.{copies}
use Rattle.catalog.proofs.slots.put_copies.Given as goal

abbrev pub invariant-loop-copy : goal.invariant-loop-copy
invariant-loop-copy l = record {
  next : l.next ≡ l.fn.at + l._copy * length l.part;
  bytes : l.bytes ≡ put_at l.fn.bytes l.fn.at (copies l._copy l.part);
}
