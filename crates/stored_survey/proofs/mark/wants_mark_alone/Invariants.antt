use Rattle.std.proofs.Common.{◌≡◌, ◌<◌, ℕ, Bool, true, false, get_or, None}
use Rattle.stored.specs.Mended.{has_time}
use Rattle.stored_survey.proofs.Marks.{IsTimedBelow}
use Rattle.stored_survey.proofs.mark.wants_mark_alone.Given as goal

abbrev pub invariant-loop-slot : goal.invariant-loop-slot
invariant-loop-slot g l = IsTimedBelow (g.V.Files.state l.files).files l.catalog.relations l.slot l.found
