use Rattle.std.proofs.Common.{◌≡◌, ◌<◌, ℕ, length, get_or}
use Rattle.index_memhash.proofs.chains.empty.Given as goal

abbrev pub invariant-loop-chain : goal.invariant-loop-chain
invariant-loop-chain l = record {
  links_size : length l.links ≡ 2560;
  last_size : length l.last ≡ 512;
  heads : (i : ℕ) → i < l.chain → get_or l.links i 0 ≡ 0;
  last : (i : ℕ) → i < l.chain → get_or l.last i 0 ≡ 0;
}
