use Rattle.std.proofs.Common.{◌≡◌, ◌≤◌, drop, length}
use Rattle.std.specs.List.{list_all}
use Rattle.space_plan.specs.FurtherRows.{is_relation}
use Rattle.space_plan.proofs.further.all_are_relations.Given as goal

abbrev pub invariant-loop-named : goal.invariant-loop-named
invariant-loop-named g l =
    length l.session.database.relations ≤ 8
    → list_all (λ named. is_relation l.session.database named.relation) (drop l.named-index l.all)
    ≡ list_all (λ named. is_relation l.session.database named.relation) l.all
