-- Where an index stands, or comes to stand.
use Rattle.std.specs.Prelude.{◌≡◌, ◌<◌, ℕ, ◌+◌, is_some, Bool, true, false, not, ◌&&◌, ◌==◌, nat_lt, List, [], ◌∷◌, Option, Some, None, if◌then◌else◌}
use Rattle.db_model.specs.declared.schemas.IndexKind.{IndexKind}
use Rattle.db_model.specs.Database.{free_from, most_tables}
use Rattle.db_model.specs.Item.{place_of}
use Rattle.index_set.specs.declared.info.Access.{Access}
use Rattle.index_set.specs.declared.info.Access.TheVariants.{Table}
use Rattle.index_set.specs.declared.info.TableId.{TableId}
use Rattle.index_set.specs.declared.info.TableId.TheVariants.{First, Second}
use Rattle.index_set.specs.Tables.{number}
use Rattle.session_model.specs.declared.held.Held.{Held}
use Rattle.session_model.specs.declared.held.Indexed.{Indexed}
use Rattle.session_model.specs.Indexed.{IsAllowedAt}
use Rattle.tuple_file.specs.declared.tuples.Tuples.{Tuples}
use Rattle.session_indexes.specs.declared.sites.Site.{Site}

-- ---- indexes that are held

-- whether an index is on the attribute at a place of the relation in a slot
abbrev pub is_held_on : ℕ → ℕ → Option Indexed → Bool
is_held_on relation attribute None = false
is_held_on relation attribute (Some x) = x.relation == relation && x.attribute == attribute

-- the slot of the index there, the list's first being slot n
abbrev pub slot_from : ℕ → ℕ → ℕ → List (Option Indexed) → Option ℕ
slot_from relation attribute n [] = None
slot_from relation attribute n (x ∷ xs) = if is_held_on relation attribute x then Some n else slot_from relation attribute (n + 1) xs

-- ---- hash tables

abbrev pub is_this_table : TableId → Access → Bool
is_this_table First (Table First) = true
is_this_table Second (Table Second) = true
is_this_table number _ = false

abbrev pub is_in_table : TableId → Option Indexed → Bool
is_in_table number None = false
is_in_table number (Some x) = is_this_table number x.access

-- whether an index has the table
abbrev pub is_table_taken : TableId → List (Option Indexed) → Bool
is_table_taken number [] = false
is_table_taken number (x ∷ xs) = if is_in_table number x then true else is_table_taken number xs

-- a table that there is, and that no index has
abbrev pub is_table_free : TableId → List (Option Indexed) → Bool
is_table_free table xs = nat_lt (number table) most_tables && not (is_table_taken table xs)

abbrev pub free_table : List (Option Indexed) → Option TableId
free_table xs = if is_table_free First xs then Some First else if is_table_free Second xs then Some Second else None

-- ---- sites

-- at a place of the relation, whose rows these are, stands an attribute of this name, which may have an index of a kind and has
-- none; and the slot is the first that is unused
pub record IsSite (held : Held) (attribute : List ℕ) (kind : IndexKind) (site : Site) (t : Tuples) : Type 0 where
  pub place : place_of attribute t.schema.attributes ≡ Some site.attribute
  pub below : site.attribute < 8
  pub allowed : IsAllowedAt t.schema.attributes site.attribute kind
  pub new : is_some (slot_from site.relation site.attribute 0 held.indexes) ≡ false
  pub free : free_from 0 held.indexes ≡ Some site.slot
  pub slot : site.slot < 8
