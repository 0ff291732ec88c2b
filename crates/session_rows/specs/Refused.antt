-- What an insert asks of the indexes of a relation and of its last row.
use Rattle.std.specs.Prelude.{◌≡◌, ℕ, ℤ, Bool, true, false, ◌&&◌, ◌==◌, List, Option, Some, None, Result, Ok, Err, int_lt, if◌then◌else◌}
use Rattle.std.specs.List.{list_any}
use Rattle.db_model.specs.declared.values.Value.{Value}
use Rattle.db_model.specs.declared.values.Value.TheVariants as value
use Rattle.db_model.specs.declared.refusals.Refusal.{Refusal}
use Rattle.db_model.specs.Database.{Relation}
use Rattle.db_model.specs.Step.{Reply, Fine}
use Rattle.index_set.specs.declared.info.Access.{Access}
use Rattle.index_set.specs.declared.info.Access.TheVariants.{Order, Tree, Table}
use Rattle.index_set.specs.declared.info.IndexInfo.{IndexInfo}

abbrev pub is_order : Access → Bool
is_order Order = true
is_order (Tree file) = false
is_order (Table number) = false

abbrev pub is_memhash : Access → Bool
is_memhash Order = false
is_memhash (Tree file) = false
is_memhash (Table number) = true

-- an index keeps the attribute at a place in order
abbrev pub is_order_on : ℕ → IndexInfo → Bool
is_order_on place info = is_order info.access && info.attribute == place

abbrev pub is_ordered_by : List IndexInfo → ℕ → Bool
is_ordered_by infos place = list_any (is_order_on place) infos

abbrev pub is_order_index : IndexInfo → Bool
is_order_index info = is_order info.access

abbrev pub is_table_index : IndexInfo → Bool
is_table_index info = is_memhash info.access

-- a number before, where the one after it is less
abbrev pub falls_to : Value → Value → Option ℤ
falls_to (value.Number a) (value.Number b) = if int_lt b a then Some a else None
falls_to _ _ = None

-- where the place is one that is kept in order
abbrev pub falls_at : (ℕ → Bool) → ℕ → Value → Value → Option ℤ
falls_at is_ordered place before behind = if is_ordered place then falls_to before behind else None

-- an insert is refused so, or where it is not makes this of the relation
abbrev pub IsRefusedBy : Result (Relation × Reply) Refusal → Option Refusal → Relation → Type 0
IsRefusedBy made (Some refusal) r = made ≡ Err refusal
IsRefusedBy made None r = made ≡ Ok (r, Fine)
