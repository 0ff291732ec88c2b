use Rattle.std.proofs.Common.{◌≡◌, drop}
use Rattle.db_model.specs.Item.{place_from, place_of}
use Rattle.session_indexes.proofs.sites.place_of.Given as goal

abbrev pub invariant-loop-i : goal.invariant-loop-i
invariant-loop-i l = place_of l.name l.attributes ≡ place_from l.name l.i (drop l.i l.attributes)
