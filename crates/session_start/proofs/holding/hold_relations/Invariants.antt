use Rattle.std.proofs.Common.{◌≡◌, ◌<◌, ℕ, length, get_or, None}
use Rattle.session_start.specs.Found.{IsRelationOf}
use Rattle.session_start.proofs.holding.hold_relations.Given as goal

abbrev pub invariant-loop-slot : goal.invariant-loop-slot
invariant-loop-slot g l = record {
  long : length l.relations ≡ 8;
  held : (k : ℕ) → k < l.slot → IsRelationOf (g.V.Files.state l.files).files k (get_or l.schemas k None) (get_or l.relations k None);
}
