-- Which names of a command are attributes, and which of its parts mix numbers and texts.
use Rattle.std.specs.Prelude.{ℕ, ◌+◌, Bool, true, false, List, [], ◌∷◌, ◌++◌, Option, Some, None, option_map, option_and_then, slice_get, is_some, map}
use Rattle.std.specs.Option.{option_map_or}
use Rattle.db_model.specs.declared.commands.Agg.{Agg}
use Rattle.db_model.specs.declared.commands.Agg.TheVariants as agg
use Rattle.db_model.specs.declared.schemas.Attribute.{Attribute}
use Rattle.db_model.specs.declared.schemas.Domain.{Domain}
use Rattle.db_model.specs.declared.schemas.Domain.TheVariants as domain
use Rattle.db_model.specs.Cond.{Number, Text, Attribute as Name, Expr, Tip, Arith, Cond, Comparison, Not, And, Or}
use Rattle.db_model.specs.Item.{place_of}

-- the number of the first that is false, the list's first having the number n + 1
abbrev pub first_false : ℕ → List Bool → Option ℕ
first_false n [] = None
first_false n (true ∷ bs) = first_false (n + 1) bs
first_false n (false ∷ bs) = Some (n + 1)

-- ---- names

abbrev pub names_in : Expr → List (List ℕ)
names_in (Tip (Name name)) = name ∷ []
names_in (Tip (Number z)) = []
names_in (Tip (Text bytes)) = []
names_in (Arith sign a b) = names_in a ++ names_in b

-- the names of a condition, from the left
abbrev pub names : Cond → List (List ℕ)
names (Comparison how a b) = names_in a ++ names_in b
names (Not c) = names c
names (And c d) = names c ++ names d
names (Or c d) = names c ++ names d

abbrev pub names_of : Option Cond → List (List ℕ)
names_of None = []
names_of (Some c) = names c

abbrev pub is_attribute : List Attribute → List ℕ → Bool
is_attribute attributes name = is_some (place_of name attributes)

-- ---- sorts

abbrev pub domain_of : List Attribute → List ℕ → Option Domain
domain_of attributes name = option_map (λ a. a.domain) (option_and_then (slice_get attributes) (place_of name attributes))

-- what an expression is made of, whatever the tuple: none where a text stands under arithmetic
pub data Sort : Type 0 where
  Numbers : Sort
  Texts : Sort

abbrev pub sort_of : Domain → Sort
sort_of (domain.Str n) = Texts
sort_of domain.Int = Numbers
sort_of domain.Long = Numbers
sort_of domain.Time = Numbers

abbrev pub joined_sorts : Option Sort → Option Sort → Option Sort
joined_sorts (Some Numbers) (Some Numbers) = Some Numbers
joined_sorts _ _ = None

abbrev pub sort : List Attribute → Expr → Option Sort
sort attributes (Tip (Number z)) = Some Numbers
sort attributes (Tip (Text bytes)) = Some Texts
sort attributes (Tip (Name name)) = option_map sort_of (domain_of attributes name)
sort attributes (Arith sign a b) = joined_sorts (sort attributes a) (sort attributes b)

abbrev pub are_alike : Option Sort → Option Sort → Bool
are_alike (Some Numbers) (Some Numbers) = true
are_alike (Some Texts) (Some Texts) = true
are_alike _ _ = false

-- for each comparison of a condition, from the left, whether it is well typed
abbrev pub typings : List Attribute → Cond → List Bool
typings attributes (Comparison how a b) = are_alike (sort attributes a) (sort attributes b) ∷ []
typings attributes (Not c) = typings attributes c
typings attributes (And c d) = typings attributes c ++ typings attributes d
typings attributes (Or c d) = typings attributes c ++ typings attributes d

abbrev pub typings_of : List Attribute → Option Cond → List Bool
typings_of attributes None = []
typings_of attributes (Some c) = typings attributes c

-- an aggregate other than COUNT is of numbers, and MEDIAN not of times
abbrev pub aggregates : Agg → Domain → Bool
aggregates agg.Count _ = true
aggregates agg.Median domain.Time = false
aggregates _ (domain.Str n) = false
aggregates _ _ = true

abbrev pub is_aggregable : List Attribute → Agg × List ℕ → Bool
is_aggregable attributes item = option_map_or (aggregates item.0) (domain_of attributes item.1) false

-- ---- the numbers that refusals show

-- the number of the first name of a list, and then of a condition, that is no attribute
abbrev pub missing_name : List Attribute → List (List ℕ) → Option Cond → Option ℕ
missing_name attributes list condition = first_false 0 (map (is_attribute attributes) (list ++ names_of condition))

-- the number of the first part of a list, and then comparison of a condition, that is ill typed; `typed` says it of the list
abbrev pub ill_typed : List Attribute → List Bool → Option Cond → Option ℕ
ill_typed attributes typed condition = first_false 0 (typed ++ typings_of attributes condition)
