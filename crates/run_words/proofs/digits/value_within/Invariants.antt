use Rattle.std.proofs.Common.{◌≡◌, ◌≤◌, drop}
use Rattle.run_words.specs.Words.{value_from}
use Rattle.run_words.proofs.digits.value_within.Given as goal

abbrev pub invariant-loop-byte : goal.invariant-loop-byte
invariant-loop-byte l = record {
  value : value_from l.value (drop l.byte-index l.word) ≡ value_from 0 l.word;
  within : l.value ≤ l.fn.most;
}
