-- The indexes of a list, as the choice of a plan sees them.
use Rattle.std.specs.Prelude.{◌≡◌, ◌<◌, ⊤, ℕ, Bool, List, filter, get_or, length, map, Option}
use Rattle.std.specs.List.{range_with_len}
use Rattle.db_model.specs.declared.schemas.IndexKind.{IndexKind}
use Rattle.db_model.specs.declared.schemas.IndexKind.TheVariants.{Inline, MaxHeap, MemHash}
use Rattle.db_model.specs.declared.schemas.Range.{Range}
use Rattle.db_model.specs.Plan.{Kinds, Nothing, Scan, ByOrder, ByTree, ByTable, by_order, by_table, by_tree, passes, plan}
use Rattle.db_model.specs.Plan as model
use Rattle.db_model.specs.Row.{Row, no_row}
use Rattle.index_set.specs.declared.choices.Plan.{Plan}
use Rattle.index_set.specs.declared.choices.Plan.TheVariants as chosen
use Rattle.index_set.specs.declared.info.Access.{Access}
use Rattle.index_set.specs.declared.info.Access.TheVariants.{Order, Tree, Table}
use Rattle.index_set.specs.declared.info.IndexInfo.{IndexInfo}
use Rattle.index_set.specs.Complete.{key_at_place}

abbrev pub access_kind : Access → IndexKind
access_kind Order = Inline
access_kind (Tree file) = MaxHeap
access_kind (Table number) = MemHash

abbrev pub kinds : List IndexInfo → Kinds
kinds infos = map (λ info. (access_kind info.access, info.attribute)) infos

abbrev pub plan_in : Plan → model.Plan
plan_in chosen.Nothing = Nothing
plan_in chosen.Scan = Scan
plan_in (chosen.Order nth) = ByOrder nth
plan_in (chosen.Tree nth file key) = ByTree nth key
plan_in (chosen.Table nth table key) = ByTable nth key

-- the index with a number of a list finds its keys so
pub record HasAccess (nth : ℕ) (access : Access) (infos : List IndexInfo) : Type 0 where
  pub within : nth < length infos
  pub access_is : (info : IndexInfo) → info ≡ get_or infos nth info → info.access ≡ access

-- the index of a plan is in the list
abbrev pub IsOf : Plan → List IndexInfo → Type 0
IsOf chosen.Nothing infos = ⊤
IsOf chosen.Scan infos = ⊤
IsOf (chosen.Order nth) infos = HasAccess nth Order infos
IsOf (chosen.Tree nth file key) infos = HasAccess nth (Tree file) infos
IsOf (chosen.Table nth table key) infos = HasAccess nth (Table table) infos

-- ---- the choice, kind by kind

-- the plan that an index gives, if it is of a kind
abbrev pub by_kind : IndexKind → List Range → ℕ → IndexKind × ℕ → Option model.Plan
by_kind MemHash ranges nth index = by_table ranges nth index
by_kind MaxHeap ranges nth index = by_tree ranges nth index
by_kind Inline ranges nth index = by_order ranges nth index

-- a plan by one index, with its number and access
abbrev pub IsBy : Plan → ℕ → Access → Type 0
IsBy chosen.Nothing nth access = ⊤
IsBy chosen.Scan nth access = ⊤
IsBy (chosen.Order n) nth access = (n ≡ nth) × (access ≡ Order)
IsBy (chosen.Tree n file key) nth access = (n ≡ nth) × (access ≡ Tree file)
IsBy (chosen.Table n table key) nth access = (n ≡ nth) × (access ≡ Table table)

-- whether the plan that the ranges give passes a row
abbrev pub is_passed : Kinds → List Range → Row → Bool
is_passed indexes ranges row = passes indexes ranges (plan indexes ranges) (λ place. key_at_place place row)

-- the slots below a number whose rows it passes
abbrev pub slots_passed : Kinds → List Range → ℕ → List Row → List ℕ
slots_passed indexes ranges slots all = filter (λ slot. is_passed indexes ranges (get_or all slot no_row)) (range_with_len 0 slots)
