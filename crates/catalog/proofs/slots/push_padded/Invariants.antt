use Rattle.std.proofs.Common.{◌≡◌, ◌+◌, ◌++◌, length, take}
use Rattle.catalog.proofs.slots.push_padded.Given as goal

abbrev pub invariant-loop-byte : goal.invariant-loop-byte
invariant-loop-byte l = record {
  pushed : l.slot ≡ l.fn.slot ++ take l.byte-index l.bytes;
  long : length l.slot ≡ length l.fn.slot + l.byte-index;
}
