-- Worked examples of bytes, keys, plans and costs, computed over the definitions.
use Rattle.std.proofs.Common.{◌≡◌, refl, ℕ, pos, negsuc, List, [], ◌∷◌, Some, true, ◌%◌, ◌+◌}
use Rattle.std.specs.Prelude.{codes, replicate, map}
use Rattle.std.specs.List.{range_with_len}
use Rattle.db_model.specs.declared.commands.Command.TheVariants.{CreateRelation, Insert}
use Rattle.db_model.specs.declared.commands.Compare.TheVariants.{Ge, Lt}
use Rattle.db_model.specs.declared.schemas.Attribute.{Attribute}
use Rattle.db_model.specs.declared.schemas.Domain.TheVariants.{Int, Long, Str}
use Rattle.db_model.specs.declared.schemas.IndexKind.TheVariants.{Inline}
use Rattle.db_model.specs.declared.schemas.Range.TheVariants.{Between}
use Rattle.db_model.specs.declared.values.Value.TheVariants.{Number as num, Text as txt}
use Rattle.db_model.specs.Cond.{Cond, Tip, Number, Attribute as Name, Comparison, And}
use Rattle.db_model.specs.Cost.{bits, plan_cost}
use Rattle.db_model.specs.Database.{Database, empty_database}
use Rattle.db_model.specs.HashTree.{buckets, node}
use Rattle.db_model.specs.Plan.{Kinds, ByOrder, plan, ranges_of}
use Rattle.db_model.specs.Ranges.{range}
use Rattle.db_model.specs.Row.{Row, rows_bytes, rows_of}
use Rattle.db_model.specs.Step.{after_all}

-- ---- rows

abbrev two_attributes : List Attribute
two_attributes = record { name = codes "k"; domain = Long } ∷ record { name = codes "t"; domain = Str 3 } ∷ []

abbrev two_rows : List Row
two_rows =
    record { tuple = num (pos 5) ∷ txt (codes "abc") ∷ []; live = true }
    ∷ record { tuple = num (negsuc 0) ∷ txt [] ∷ []; live = true }
    ∷ []

abbrev two_rows_bytes : List ℕ
two_rows_bytes = 5 ∷ 0 ∷ 0 ∷ 0 ∷ 97 ∷ 98 ∷ 99 ∷ 1 ∷ 255 ∷ 255 ∷ 255 ∷ 255 ∷ 0 ∷ 0 ∷ 0 ∷ 1 ∷ []

pub rows_written : rows_bytes two_attributes two_rows ≡ two_rows_bytes
rows_written = refl

pub rows_read : rows_of two_attributes two_rows_bytes ≡ two_rows
rows_read = refl

-- ---- the version

abbrev first_version : Database
first_version = record empty_database { version = 1 }

pub insert_keeps_the_version : (after_all first_version (Insert [] (codes "n") ∷ [])).version ≡ 1
insert_keeps_the_version = refl

pub catalog_change_sets_version_2 : (after_all first_version (CreateRelation (codes "n") ∷ [])).version ≡ 2
catalog_change_sets_version_2 = refl

-- ---- hash trees

pub nodes_of_7 : node (pos 7) 1 ∷ node (pos 7) 2 ∷ node (pos 7) 3 ∷ node (pos 7) 4 ∷ [] ≡ 4 ∷ 18 ∷ 73 ∷ 293 ∷ []
nodes_of_7 = refl

pub nodes_of_minus_1 : node (negsuc 0) 1 ∷ node (negsuc 0) 2 ∷ node (negsuc 0) 3 ∷ node (negsuc 0) 4 ∷ [] ≡ 1 ∷ 5 ∷ 21 ∷ 85 ∷ []
nodes_of_minus_1 = refl

pub tree_of_one_key : buckets (replicate 256 (pos 7)) ≡ 8
tree_of_one_key = refl

-- ---- a day of samples, one a minute

abbrev samples_attributes : List Attribute
samples_attributes =
    record { name = codes "minute"; domain = Long }
    ∷ record { name = codes "node"; domain = Int }
    ∷ record { name = codes "value"; domain = Int }
    ∷ []

abbrev sample : ℕ → Row
sample m = record { tuple = num (pos m) ∷ num (pos (m % 4)) ∷ num (pos (200 + m % 7)) ∷ []; live = true }

abbrev samples_rows : List Row
samples_rows = map sample (range_with_len 0 1440)

-- minute >= 600 AND minute < 610
abbrev ten_minutes : Cond
ten_minutes = And (Comparison Ge (Tip (Name (codes "minute"))) (Tip (Number (pos 600)))) (Comparison Lt (Tip (Name (codes "minute"))) (Tip (Number (pos 610))))

abbrev by_minute : Kinds
by_minute = (Inline, 0) ∷ []

pub ten_minutes_range : range samples_attributes 0 ten_minutes ≡ Between (pos 600) (pos 609)
ten_minutes_range = refl

pub ten_minutes_plan : plan by_minute (ranges_of samples_attributes (Some ten_minutes)) ≡ ByOrder 0
unfolding plan ranges_of
ten_minutes_plan = refl

pub ten_minutes_cost : plan_cost by_minute (ranges_of samples_attributes (Some ten_minutes)) samples_rows (ByOrder 0) ≡ 198
unfolding bits ranges_of
ten_minutes_cost = refl
