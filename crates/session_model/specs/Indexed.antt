-- The indexes of a relation, as the machine sees them.
use Rattle.std.specs.Prelude.{◌≡◌, ℕ, false, List, [], ◌∷◌, Option, Some, None, IsTrue, slice_get, get_or, ◌==◌, if◌then◌else◌}
use Rattle.std.specs.List.{AllByRecursion}
use Rattle.std.specs.Option.{option_map_or}
use Rattle.db_model.specs.declared.schemas.Attribute.{Attribute}
use Rattle.db_model.specs.declared.schemas.IndexKind.{IndexKind}
use Rattle.db_model.specs.Catalog.{Index}
use Rattle.db_model.specs.Step.{allows}
use Rattle.index_set.specs.declared.info.IndexInfo.{IndexInfo}
use Rattle.index_set.specs.Plans.{access_kind}
use Rattle.tuple_file.specs.declared.tuples.Tuples.{Tuples}
use Rattle.tuple_file.specs.Column.{IsNumber, column_of}
use Rattle.session_model.specs.declared.held.Indexed.{Indexed}

-- what the machine knows of an index
abbrev pub index_known : Indexed → Index
index_known x = record { kind = access_kind x.access; relation = x.relation; attribute = x.attribute }

abbrev pub index_of_info : ℕ → IndexInfo → Index
index_of_info relation info = record { kind = access_kind info.access; relation = relation; attribute = info.attribute }

-- with the column of its relation's rows
abbrev pub info_of : Tuples → Indexed → IndexInfo
info_of t x = record { attribute = x.attribute; column = column_of t x.attribute; access = x.access }

-- the indexes of the relation in a slot, whose rows these are
abbrev pub infos_of : ℕ → Tuples → List (Option Indexed) → List IndexInfo
infos_of relation t [] = []
infos_of relation t (None ∷ slots) = infos_of relation t slots
infos_of relation t (Some x ∷ slots) =
    if x.relation == relation then info_of t x ∷ infos_of relation t slots else infos_of relation t slots

-- the attribute at a place is of a domain that a kind allows
abbrev pub IsAllowedAt : List Attribute → ℕ → IndexKind → Type 0
IsAllowedAt attributes place kind = IsTrue (option_map_or (λ a. allows kind a.domain) (slice_get attributes place) false)

abbrev pub IsAllowed : List Attribute → IndexInfo → Type 0
IsAllowed attributes info = IsAllowedAt attributes info.attribute (access_kind info.access)

abbrev pub AreAllowed : List Attribute → List IndexInfo → Type 0
AreAllowed attributes infos = AllByRecursion (IsAllowed attributes) infos

-- each index of the relation in a slot is on a number
abbrev pub AreNumbers : ℕ → Tuples → List (Option Indexed) → Type 0
AreNumbers relation t slots =
    (i : ℕ) (x : Indexed) → get_or slots i None ≡ Some x → x.relation ≡ relation → IsNumber t.schema.attributes x.attribute
