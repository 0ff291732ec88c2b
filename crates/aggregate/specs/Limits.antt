-- The numbers that a fold takes.
use Rattle.std.specs.Prelude.{ℤ, pos, negsuc, ◌≤ℤ◌}
use Rattle.db_model.specs.declared.commands.Agg.{Agg}
use Rattle.db_model.specs.declared.commands.Agg.TheVariants.{Count, Median}
use Rattle.db_model.specs.declared.values.Value.{Value}
use Rattle.db_model.specs.declared.values.Value.TheVariants.{Number, Text}

-- -2^31 for MEDIAN, and -2^47 for the others
abbrev pub least_sum : Agg → ℤ
least_sum Median = negsuc 2147483647
least_sum _ = negsuc 140737488355327

-- 2^31 - 1 for MEDIAN, and 2^47 for the others
abbrev pub greatest_sum : Agg → ℤ
greatest_sum Median = pos 2147483647
greatest_sum _ = pos 140737488355328

abbrev pub IsNumberFor : Agg → Value → Type 0
IsNumberFor agg (Number n) = (least_sum agg ≤ℤ n) × (n ≤ℤ greatest_sum agg)
IsNumberFor agg (Text _) = ⊥

-- COUNT takes every value. MEDIAN takes the numbers of LONG's domain, the others those from -2^47 to 2^47.
abbrev pub Suits : Agg → Value → Type 0
Suits Count value = Unit {0}
Suits agg value = IsNumberFor agg value
