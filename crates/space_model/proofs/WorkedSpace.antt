-- Worked examples of the sectors that are enough, computed over the definitions.
use Rattle.std.proofs.Common.{◌≡◌, refl, ℕ, pos, [], ◌∷◌, Some, None, true, ◌%◌, ◌+◌}
use Rattle.std.specs.Prelude.{codes, replicate, map}
use Rattle.std.specs.List.{range_with_len}
use Rattle.afl_base.specs.Fit.{fit}
use Rattle.db_model.specs.declared.commands.Command.TheVariants.{Insert, Ask}
use Rattle.db_model.specs.declared.commands.Query.TheVariants.{Select}
use Rattle.db_model.specs.declared.schemas.Domain.TheVariants.{Int, Long}
use Rattle.db_model.specs.declared.schemas.IndexKind.TheVariants.{Inline, MaxHeap}
use Rattle.db_model.specs.declared.values.Value.TheVariants.{Number}
use Rattle.db_model.specs.Database.{Relation, Database}
use Rattle.db_model.specs.Row.{Row}
use Rattle.space_model.specs.Enough.{enough, most, rows_size}

-- a day of samples, one a minute, with an INLINE index on the minute
abbrev sample : ℕ → Row
sample m = record { tuple = Number (pos m) ∷ Number (pos (m % 4)) ∷ Number (pos (200 + m % 7)) ∷ []; live = true }

abbrev samples : Relation
samples = record {
  schema = record {
    name = codes "samples";
    attributes = record { name = codes "minute"; domain = Long } ∷ record { name = codes "node"; domain = Int } ∷ record { name = codes "value"; domain = Int } ∷ [];
  };
  rows = map sample (range_with_len 0 1440);
}

abbrev day : Database
day = record {
  version = 2;
  relations = Some samples ∷ replicate 7 None;
  indexes = Some (record { kind = Inline; relation = 0; attribute = 0 }) ∷ replicate 7 None;
  cursors = replicate 4 None;
}

pub day_size : rows_size samples ≡ 12960
day_size = refl

pub day_enough : enough day 128 ≡ 51
unfolding fit
day_enough = refl

pub day_most : most day (Insert [] (codes "samples")) ≡ 128
unfolding fit
day_most = refl

pub query_most : most day (Ask (Select [] (codes "samples") [])) ≡ 0
query_most = refl

-- 256 rows of one key under a hash tree
abbrev one_key : Database
one_key = record {
  version = 2;
  relations =
      Some (record {
        schema = record { name = codes "n"; attributes = record { name = codes "v"; domain = Int } ∷ [] };
        rows = replicate 256 (record { tuple = Number (pos 7) ∷ []; live = true });
      })
      ∷ replicate 7 None;
  indexes = Some (record { kind = MaxHeap; relation = 0; attribute = 0 }) ∷ replicate 7 None;
  cursors = replicate 4 None;
}

pub one_key_enough : enough one_key 32 ≡ 22
unfolding fit
one_key_enough = refl
