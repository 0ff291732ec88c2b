-- What suits an attribute suits its aggregates.
use Rattle.std.proofs.Common.{◌≡◌, ℕ, zero, suc, ◌<◌, true, false, List, [], ◌∷◌, length, sym, subst, arith}
use Rattle.std.specs.Prelude.{slice_get}
use Rattle.std.specs.Option.{option_map_or}
use Rattle.std.proofs.lemmas.Int.{ints}
use Rattle.db_model.specs.declared.commands.Agg.{Agg}
use Rattle.db_model.specs.declared.commands.Agg.TheVariants.{Count, Sum, Min, Max, Mean, Median}
use Rattle.db_model.specs.declared.schemas.Attribute.{Attribute}
use Rattle.db_model.specs.declared.schemas.Domain.{Domain}
use Rattle.db_model.specs.declared.schemas.Domain.TheVariants.{Int, Long, Time, Str}
use Rattle.db_model.specs.declared.values.Value.{Value}
use Rattle.db_model.specs.declared.values.Value.TheVariants.{Number, Text}
use Rattle.db_model.specs.Row.{AllSuit, suits}
use Rattle.db_model.specs.Typing.{aggregates}
use Rattle.aggregate.specs.Limits.{Suits}
use Rattle.session_model.specs.View.{value_at}
use Rattle.session_plans.specs.Aggregates.{AllSuitFolds, SuitsFold}
use Rattle.session_queries.specs.declared.tally.Tally.{Tally}
use Rattle.session_queries.specs.Folded.{HaveAggs, item_at, tally_at}

number_suits : (agg : Agg) (d : Domain) (v : Value) → aggregates agg d ≡ true → suits d v ≡ true → Suits agg v
number_suits Count d v a s = tt
number_suits Median Int (Number z) a s = (grind (arith, ints), grind (arith, ints))
number_suits Median Long (Number z) a s = (grind (arith, ints), grind (arith, ints))
number_suits Median Time v a s = absurd (cc)
number_suits Median (Str n) v a s = absurd (cc)
number_suits Sum (Str n) v a s = absurd (cc)
number_suits Min (Str n) v a s = absurd (cc)
number_suits Max (Str n) v a s = absurd (cc)
number_suits Mean (Str n) v a s = absurd (cc)
number_suits agg Int (Text bytes) a s = absurd (cc)
number_suits agg Long (Text bytes) a s = absurd (cc)
number_suits agg Time (Text bytes) a s = absurd (cc)
number_suits Sum Int (Number z) a s = (grind (arith, ints), grind (arith, ints))
number_suits Sum Long (Number z) a s = (grind (arith, ints), grind (arith, ints))
number_suits Sum Time (Number z) a s = (grind (arith, ints), grind (arith, ints))
number_suits Min Int (Number z) a s = (grind (arith, ints), grind (arith, ints))
number_suits Min Long (Number z) a s = (grind (arith, ints), grind (arith, ints))
number_suits Min Time (Number z) a s = (grind (arith, ints), grind (arith, ints))
number_suits Max Int (Number z) a s = (grind (arith, ints), grind (arith, ints))
number_suits Max Long (Number z) a s = (grind (arith, ints), grind (arith, ints))
number_suits Max Time (Number z) a s = (grind (arith, ints), grind (arith, ints))
number_suits Mean Int (Number z) a s = (grind (arith, ints), grind (arith, ints))
number_suits Mean Long (Number z) a s = (grind (arith, ints), grind (arith, ints))
number_suits Mean Time (Number z) a s = (grind (arith, ints), grind (arith, ints))

-- at a place at which an aggregate may be taken
suits_at : (attributes : List Attribute) (tuple : List Value) (agg : Agg) (place : ℕ) → AllSuit attributes tuple
    → option_map_or (λ a. aggregates agg a.domain) (slice_get attributes place) false ≡ true → Suits agg (value_at tuple place)
suits_at [] [] agg place h a = absurd (cc)
suits_at [] (v ∷ values) agg place h a = absurd h
suits_at (b ∷ attributes) [] agg place h a = absurd h
suits_at (b ∷ attributes) (v ∷ values) agg zero h a = number_suits agg b.domain v a h.0
suits_at (b ∷ attributes) (v ∷ values) agg (suc place) h a = suits_at attributes values agg place h.1 a

all_at : (attributes : List Attribute) (items : List (Agg × ℕ)) (i : ℕ) → AllSuitFolds attributes items → i < length items → SuitsFold attributes (item_at items i)
all_at attributes [] i h inside = absurd (omega arith)
all_at attributes (item ∷ items) zero h inside = h.0
all_at attributes (item ∷ items) (suc i) h inside = all_at attributes items i h.1 (omega arith)

pub all_suit : (attributes : List Attribute) (tuple : List Value) (items : List (Agg × ℕ)) (tallies : List Tally) → AllSuitFolds attributes items → AllSuit attributes tuple → HaveAggs items tallies
    → (i : ℕ) → i < length items → Suits (tally_at tallies i).fold.agg (value_at tuple (item_at items i).1)
all_suit attributes tuple items tallies h suit aggs i inside =
    subst (λ (agg : Agg). Suits agg (value_at tuple (item_at items i).1)) (sym (aggs i inside))
    (suits_at attributes tuple (item_at items i).0 (item_at items i).1 suit (all_at attributes items i h inside))
