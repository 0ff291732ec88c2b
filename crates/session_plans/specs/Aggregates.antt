-- The aggregates of some tuples, by the places of their attributes.
use Rattle.std.specs.Prelude.{ℕ, ℤ, Bool, List, map, Option, slice_get}
use Rattle.std.specs.List.{AllByRecursion, list_any}
use Rattle.db_model.specs.declared.commands.Agg.{Agg}
use Rattle.db_model.specs.declared.commands.Agg.TheVariants.{Count, Sum, Min, Max, Mean, Median}
use Rattle.db_model.specs.declared.schemas.Attribute.{Attribute}
use Rattle.db_model.specs.declared.values.Value.{Value}
use Rattle.db_model.specs.Answers.{aggregate}
use Rattle.db_model.specs.Typing.{aggregates}
use Rattle.session_model.specs.View.{value_at}
use Rattle.std.specs.Option.{option_map_or}
use Rattle.std.specs.Prelude.{IsTrue, false, true}

-- the values at a place of some tuples
abbrev pub column_values : ℕ → List (List Value) → List Value
column_values place tuples = map (λ tuple. value_at tuple place) tuples

abbrev pub answer : List (List Value) → Agg × ℕ → Option ℤ
answer tuples item = aggregate item.0 (column_values item.1 tuples)

-- each aggregate of its attribute's values
abbrev pub answers : List (Agg × ℕ) → List (List Value) → List (Option ℤ)
answers items tuples = map (answer tuples) items

-- an aggregate may be taken of the attribute at its place
abbrev pub suits_fold : List Attribute → Agg × ℕ → Bool
suits_fold attributes item = option_map_or (λ a. aggregates item.0 a.domain) (slice_get attributes item.1) false

abbrev pub SuitsFold : List Attribute → Agg × ℕ → Type 0
SuitsFold attributes item = IsTrue (suits_fold attributes item)

abbrev pub AllSuitFolds : List Attribute → List (Agg × ℕ) → Type 0
AllSuitFolds attributes items = AllByRecursion (SuitsFold attributes) items

-- whether one of them is a median
abbrev pub asks_median : Agg × ℕ → Bool
asks_median item = elim item.0 [ Count ↦ false | Sum ↦ false | Min ↦ false | Max ↦ false | Mean ↦ false | Median ↦ true ]

abbrev pub medians : List (Agg × ℕ) → Bool
medians items = list_any asks_median items
