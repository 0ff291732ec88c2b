-- How the rows of a relation are found: the choice of an index by the ranges of its keys.
use Rattle.std.specs.Prelude.{ℕ, ℤ, pos, negsuc, ◌+◌, Bool, true, false, ◌&&◌, List, [], ◌∷◌, map, get_or, Option, Some, None, option_map, unwrap_or, if◌then◌else◌, int_le}
use Rattle.std.specs.List.{list_any, range_with_len}
use Rattle.std.specs.Option.{option_or}
use Rattle.std.specs.Ordering.{int_eq}
use Rattle.db_model.specs.declared.schemas.Attribute.{Attribute}
use Rattle.db_model.specs.declared.schemas.IndexKind.{IndexKind}
use Rattle.db_model.specs.declared.schemas.IndexKind.TheVariants.{Inline, MaxHeap, MemHash}
use Rattle.db_model.specs.declared.schemas.Range.{Range}
use Rattle.db_model.specs.declared.schemas.Range.TheVariants.{Empty, Between}
use Rattle.db_model.specs.Catalog.{Index}
use Rattle.db_model.specs.Cond.{Cond}
use Rattle.db_model.specs.Ranges.{everything, lowest, highest, range_of}

-- nothing to look for; every slot; or by the index with that number in the relation's list, counted from 0
pub data Plan : Type 0 where
  Nothing : Plan
  Scan : Plan
  ByOrder : ℕ → Plan
  ByTree : ℕ → ℤ → Plan
  ByTable : ℕ → ℤ → Plan

-- an index of a relation: its kind, and the place of its attribute
abbrev pub Kinds : Type 0
Kinds = List (IndexKind × ℕ)

abbrev pub kinds_of : List Index → Kinds
kinds_of indexes = map (λ index. (index.kind, index.attribute)) indexes

-- the range of the attribute at a place
abbrev pub range_at : List Range → ℕ → Range
range_at ranges place = get_or ranges place everything

-- the ranges that a condition gives the eight places
unfoldable pub ranges_of : List Attribute → Option Cond → List Range
ranges_of attributes condition = map (λ place. range_of attributes place condition) (range_with_len 0 8)

abbrev pub is_empty : Range → Bool
is_empty Empty = true
is_empty (Between lo hi) = false

abbrev pub is_everything : Range → Bool
is_everything Empty = false
is_everything (Between lo hi) = int_eq lo lowest && int_eq hi highest

-- whether a key lies in a range
abbrev pub lies_in : Range → ℤ → Bool
lies_in Empty key = false
lies_in (Between lo hi) key = int_le lo key && int_le key hi

-- the only number of a range, where it fits 32 bits
abbrev pub only_key : Range → Option ℤ
only_key Empty = None
only_key (Between lo hi) = if int_eq lo hi && int_le (negsuc 2147483647) lo && int_le lo (pos 2147483647) then Some lo else None

-- ---- which indexes are usable

abbrev pub by_table : List Range → ℕ → IndexKind × ℕ → Option Plan
by_table ranges nth (MemHash, place) = option_map (λ key. ByTable nth key) (only_key (range_at ranges place))
by_table ranges nth (MaxHeap, place) = None
by_table ranges nth (Inline, place) = None

abbrev pub by_tree : List Range → ℕ → IndexKind × ℕ → Option Plan
by_tree ranges nth (MaxHeap, place) = option_map (λ key. ByTree nth key) (only_key (range_at ranges place))
by_tree ranges nth (MemHash, place) = None
by_tree ranges nth (Inline, place) = None

abbrev pub by_order : List Range → ℕ → IndexKind × ℕ → Option Plan
by_order ranges nth (Inline, place) = if is_everything (range_at ranges place) then None else Some (ByOrder nth)
by_order ranges nth (MaxHeap, place) = None
by_order ranges nth (MemHash, place) = None

-- the first plan that an index gives, the list's first having the number n
abbrev pub first_plan : (ℕ → IndexKind × ℕ → Option Plan) → ℕ → Kinds → Option Plan
first_plan usable n [] = None
first_plan usable n (index ∷ indexes) = option_or (usable n index) (first_plan usable (n + 1) indexes)

-- Nothing where an indexed attribute has no key in its range; else the first usable hash table, hash tree, or order; else a scan
unfoldable pub plan : Kinds → List Range → Plan
plan indexes ranges =
    if list_any (λ index. is_empty (range_at ranges index.1)) indexes then Nothing else
    unwrap_or
    (option_or (first_plan (by_table ranges) 0 indexes) (option_or (first_plan (by_tree ranges) 0 indexes) (first_plan (by_order ranges) 0 indexes)))
    Scan

-- the place of the attribute of the index with that number
abbrev pub place_at : Kinds → ℕ → ℕ
place_at indexes nth = (get_or indexes nth (Inline, 0)).1

-- whether a plan passes a row with these keys, by place
abbrev pub passes : Kinds → List Range → Plan → (ℕ → ℤ) → Bool
passes indexes ranges Nothing keys = false
passes indexes ranges Scan keys = true
passes indexes ranges (ByOrder nth) keys = lies_in (range_at ranges (place_at indexes nth)) (keys (place_at indexes nth))
passes indexes ranges (ByTree nth key) keys = int_eq (keys (place_at indexes nth)) key
passes indexes ranges (ByTable nth key) keys = int_eq (keys (place_at indexes nth)) key
