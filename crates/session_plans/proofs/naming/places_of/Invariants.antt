use Rattle.std.proofs.Common.{◌≡◌, ◌++◌, length, drop, map, option_map}
use Rattle.db_model.specs.Typing.{first_false, is_attribute}
use Rattle.session_plans.specs.Places as all
use Rattle.session_plans.proofs.naming.places_of.Given as goal

abbrev pub invariant-loop-at : goal.invariant-loop-at
invariant-loop-at l = record {
  places : all.places_named l.attributes l.names ≡ option_map (λ ps. l.places ++ ps) (all.places_named l.attributes (drop l.at l.names));
  missing : first_false 0 (map (is_attribute l.attributes) l.names) ≡ first_false l.at (map (is_attribute l.attributes) (drop l.at l.names));
  room : length l.places ≡ l.at;
}
