use Rattle.std.proofs.Common.{◌≡◌, drop}
use Rattle.std.specs.List.{list_any}
use Rattle.stored.specs.Mended.{is_time_domain}
use Rattle.stored_survey.proofs.reading.has_a_time.Given as goal

abbrev pub invariant-loop-attribute : goal.invariant-loop-attribute
invariant-loop-attribute l = list_any (λ a. is_time_domain a.domain) l.attributes ≡ list_any (λ a. is_time_domain a.domain) (drop l.attribute-index l.attributes)
