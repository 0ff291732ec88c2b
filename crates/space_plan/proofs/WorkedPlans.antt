-- Worked examples of planned sectors, computed over the definitions.
use Rattle.std.proofs.Common.{◌≡◌, refl, ℕ, pos, List, [], ◌∷◌, ◌++◌, Option, Some, None, true, ◌%◌, ◌+◌, ◌-◌}
use Rattle.std.specs.Prelude.{codes, get_or, replicate, map}
use Rattle.std.specs.List.{range_with_len}
use Rattle.afl_base.specs.Fit.{fit}
use Rattle.db_model.specs.declared.schemas.Attribute.{Attribute}
use Rattle.db_model.specs.declared.schemas.Domain.TheVariants.{Int, Long}
use Rattle.db_model.specs.declared.schemas.IndexKind.TheVariants.{Inline, MaxHeap}
use Rattle.db_model.specs.declared.values.Value.TheVariants.{Number}
use Rattle.db_model.specs.Catalog.{Index}
use Rattle.db_model.specs.Database.{Relation, Database, empty_database}
use Rattle.db_model.specs.Row.{Row}
use Rattle.space_plan.specs.declared.further.FurtherRows.TheVariants.{Each, Named}
use Rattle.space_plan.specs.FurtherRows.{rows_to}
use Rattle.space_plan.specs.Planned.{planned}

-- relations and indexes in the first slots
abbrev database : List (Option Relation) → List (Option Index) → Database
database relations indexes = record { version = 2; relations = relations; indexes = indexes; cursors = replicate 4 None }

pub erased_plan : planned empty_database (λ name. 100) ≡ 5
unfolding fit
erased_plan = refl

-- ---- a day of samples, one a minute, with an INLINE index on the minute

abbrev sample : ℕ → Row
sample m = record { tuple = Number (pos m) ∷ Number (pos (m % 4)) ∷ Number (pos (200 + m % 7)) ∷ []; live = true }

abbrev sampled : List Attribute
sampled = record { name = codes "minute"; domain = Long } ∷ record { name = codes "node"; domain = Int } ∷ record { name = codes "value"; domain = Int } ∷ []

abbrev day : Database
day = database
    (Some (record { schema = record { name = codes "samples"; attributes = sampled }; rows = map sample (range_with_len 0 1440) }) ∷ replicate 7 None)
    (Some (record { kind = Inline; relation = 0; attribute = 0 }) ∷ replicate 7 None)

pub day_plan : planned day (λ name. 0) ≡ 51
unfolding fit
day_plan = refl

pub two_days_plan : planned day (λ name. 1440) ≡ 99
unfolding fit
two_days_plan = refl

-- ---- 256 rows of one key under a hash tree

abbrev one_key : Database
one_key = database
    (Some (record {
      schema = record { name = codes "n"; attributes = record { name = codes "v"; domain = Int } ∷ [] };
      rows = replicate 256 (record { tuple = Number (pos 7) ∷ []; live = true });
    })
    ∷ replicate 7 None)
    (Some (record { kind = MaxHeap; relation = 0; attribute = 0 }) ∷ replicate 7 None)

pub one_key_plan : planned one_key (λ name. 0) ≡ 22
unfolding fit
one_key_plan = refl

pub more_keys_plan : planned one_key (λ name. 1000) ≡ 518
unfolding fit
more_keys_plan = refl

-- ---- the same beside an empty relation, and rows for that one alone

abbrev beside : Database
beside = record one_key {
  relations = get_or one_key.relations 0 None
      ∷ Some (record { schema = record { name = codes "m"; attributes = record { name = codes "v"; domain = Int } ∷ [] }; rows = [] })
      ∷ replicate 6 None;
}

abbrev rows_for_m : List ℕ → ℕ
rows_for_m = rows_to (Named (record { relation = codes "m"; rows = 5000 } ∷ []))

pub named_plan : planned beside rows_for_m ≡ 89
unfolding fit
named_plan = refl

pub each_plan : planned beside (rows_to (Each 5000)) ≡ 661
unfolding fit
each_plan = refl

-- ---- a year of samples, one a minute: seven to a row, with the minute of the first, in so many relations

abbrev reading : ℕ → Attribute
reading n = record { name = 118 ∷ (49 + n) ∷ []; domain = Int }

abbrev months : ℕ → Option Relation
months n = Some (record {
  schema = record { name = 109 ∷ (49 + n) ∷ []; attributes = record { name = codes "minute"; domain = Long } ∷ map reading (range_with_len 0 7) };
  rows = [];
})

abbrev year : ℕ → Database
year relations = database (map months (range_with_len 0 relations) ++ replicate (8 - relations) None) (replicate 8 None)

-- two months to a relation: 62 days are 89,280 minutes, and 12,755 rows
pub year_plan : planned (year 6) (λ name. 12755) ≡ 2696
unfolding fit
year_plan = refl

-- four months to a relation: 123 days are 177,120 minutes, and 25,303 rows
pub thirds_plan : planned (year 3) (λ name. 25303) ≡ 3077
unfolding fit
thirds_plan = refl

-- ---- a ring of three days, with a relation of 1,440 rows for each

abbrev turn : ℕ → Option Relation
turn n = Some (record {
  schema = record { name = 100 ∷ (48 + n) ∷ []; attributes = record { name = codes "minute"; domain = Long } ∷ record { name = codes "celsius"; domain = Int } ∷ [] };
  rows = [];
})

pub ring_plan : planned (database (map turn (range_with_len 0 3) ++ replicate 5 None) (replicate 8 None)) (λ name. 1440) ≡ 101
unfolding fit
ring_plan = refl
