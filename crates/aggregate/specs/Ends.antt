-- The least and the greatest of some numbers, as bounds.
use Rattle.std.specs.Prelude.{ℤ, ◌≤ℤ◌, Option, Some, None}
use Rattle.std.specs.Int.{int_min, int_max}
use Rattle.db_model.specs.declared.commands.Agg.{Agg}
use Rattle.aggregate.specs.Limits.{least_sum, greatest_sum}

-- the least and the greatest so far are numbers that the aggregate takes
abbrev pub AreEnds : Agg → Option ℤ → Option ℤ → Type 0
AreEnds agg None None = Unit {0}
AreEnds agg (Some least) (Some greatest) = (least_sum agg ≤ℤ least) × (least ≤ℤ greatest) × (greatest ≤ℤ greatest_sum agg)
AreEnds agg None (Some _) = ⊥
AreEnds agg (Some _) None = ⊥

-- the least and the greatest after one more number
abbrev pub lesser : Option ℤ → ℤ → Option ℤ
lesser None n = Some n
lesser (Some m) n = Some (int_min m n)

abbrev pub greater : Option ℤ → ℤ → Option ℤ
greater None n = Some n
greater (Some m) n = Some (int_max m n)
