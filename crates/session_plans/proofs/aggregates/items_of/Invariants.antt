use Rattle.std.proofs.Common.{◌≡◌, ◌++◌, length, drop, map, option_map}
use Rattle.db_model.specs.Typing.{first_false}
use Rattle.session_plans.specs.Places as all
use Rattle.session_plans.specs.Places.{is_named}
use Rattle.session_plans.proofs.aggregates.items_of.Given as goal

abbrev pub invariant-loop-at : goal.invariant-loop-at
invariant-loop-at l = record {
  items : all.aggregates_at l.attributes l.list ≡ option_map (λ ps. l.items ++ ps) (all.aggregates_at l.attributes (drop l.at l.list));
  missing : first_false 0 (map (is_named l.attributes) l.list) ≡ first_false l.at (map (is_named l.attributes) (drop l.at l.list));
  room : length l.items ≡ l.at;
}
