use Rattle.std.proofs.Common.{◌≡◌, ◌+◌, ◌++◌, length, drop, map, option_map}
use Rattle.db_model.specs.Typing.{first_false}
use Rattle.session_plans.specs.Places as all
use Rattle.session_plans.specs.Places.{is_on_either}
use Rattle.session_plans.proofs.joins.sides_of.Given as goal

abbrev pub invariant-loop-at : goal.invariant-loop-at
invariant-loop-at l = record {
  sides : all.sides_of l.left l.right l.names ≡ option_map (λ ps. l.sides ++ ps) (all.sides_of l.left l.right (drop l.at l.names));
  missing : first_false 1 (map (is_on_either l.left l.right) l.names) ≡ first_false (l.at + 1) (map (is_on_either l.left l.right) (drop l.at l.names));
  room : length l.sides ≡ l.at;
}
