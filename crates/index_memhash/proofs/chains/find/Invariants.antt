use Rattle.std.proofs.Common.{◌≡◌, ◌≤◌, ◌<◌, ◌-◌, ℕ, true, take}
use Rattle.index_memhash.specs.Chains.{hash}
use Rattle.afl_base.specs.Keys.{is_key_at, key_in}
use Rattle.index_memhash.proofs.chains.find.Given as goal

abbrev pub invariant-chain : goal.invariant-chain
invariant-chain l = record {
  own : l.entry < l.len → hash (key_in (take l.len l.keys) l.entry) ≡ hash l.key;
  rest : (i : ℕ) → l.from ≤ i → i < l.len → is_key_at l.key (take l.len l.keys) i ≡ true → l.entry ≤ i;
}

abbrev pub decreases-chain : goal.decreases-chain
decreases-chain l = l.len - l.entry
