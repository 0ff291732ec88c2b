use Rattle.std.proofs.Common.{◌≡◌, ◌≤◌}
use Rattle.coffee_layout.specs.FileBytes.{last_in}
use Rattle.coffee_layout.proofs.bytes.last_record.Given as goal

abbrev pub invariant-loop-n : goal.invariant-loop-n
invariant-loop-n l = record {
  within : l.n ≤ 30;
  same : last_in l.table l.region l.n ≡ last_in l.table l.region 30;
}

abbrev pub decreases-loop-n : goal.decreases-loop-n
decreases-loop-n l = l.n
