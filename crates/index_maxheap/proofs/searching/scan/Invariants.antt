use Rattle.std.proofs.Common.{◌≡◌, ◌≤◌, List, length, drop}
use Rattle.std.specs.List.{filter}
use Rattle.index_tree.specs.Pairs.{Pair}
use Rattle.index_tree.specs.Places.{is_wanted}
use Rattle.index_tree.specs.TreeFile.{HoldsPairs}
use Rattle.index_maxheap.proofs.searching.scan.Given as goal

abbrev pub invariant-loop-pair : goal.invariant-loop-pair
invariant-loop-pair l = (rest : List Pair) → HoldsPairs l.bytes 0 rest → l.start ≤ length rest → filter (is_wanted l.key l.from) (drop l.start rest) ≡ filter (is_wanted l.key l.from) (drop l.pair rest)
