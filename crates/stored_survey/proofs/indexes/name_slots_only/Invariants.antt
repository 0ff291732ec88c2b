use Rattle.std.proofs.Common.{◌≤◌, ◌<◌, ◌+◌, ◌*◌, ℕ}
use Rattle.afl_base.specs.Fields.{u16_at}
use Rattle.stored_survey.proofs.indexes.name_slots_only.Given as goal

abbrev pub invariant-loop-pair : goal.invariant-loop-pair
invariant-loop-pair l = record {
  each : (k : ℕ) → k < l.pair → u16_at l.pairs (6 * k + 4) ≤ l.slots;
}
