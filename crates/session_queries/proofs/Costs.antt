-- What a beginning may read is within what the whole may.
use Rattle.std.proofs.Common.{ℕ, ◌+◌, ◌*◌, ◌≤◌, Bool, true, false, List, length, arith}
use Rattle.std.specs.Prelude.{if◌then◌else◌}
use Rattle.db_model.specs.declared.schemas.Range.{Range}
use Rattle.db_model.specs.Cost.{begin_cost, bits, chosen_cost, keys_in, plan_cost}
use Rattle.db_model.specs.Plan.{ByOrder, ByTable, ByTree, Kinds, Nothing, Plan, Scan, place_at, plan, range_at}
use Rattle.db_model.specs.Row.{Row}
use Rattle.db_model.specs.Step.{keys}

begin_within : (indexes : Kinds) (ranges : List Range) (all : List Row) (p : Plan) → begin_cost (length all) p ≤ plan_cost indexes ranges all p
begin_within indexes ranges all Nothing = omega arith
begin_within indexes ranges all Scan = omega arith
begin_within indexes ranges all (ByOrder nth) =
    let b : ℕ = bits (length all) in
    let k : ℕ = keys_in (range_at ranges (place_at indexes nth)) (keys (place_at indexes nth) all) in
    let small : 12 * b + 6 ≤ 6 * (2 * b + k) + 6 = omega arith in
    small
begin_within indexes ranges all (ByTree nth key) = omega arith
begin_within indexes ranges all (ByTable nth key) = omega arith

pub begin_chosen : (indexes : Kinds) (ranges : List Range) (all : List Row) → begin_cost (length all) (plan indexes ranges) ≤ chosen_cost indexes ranges all
begin_chosen indexes ranges all = begin_within indexes ranges all (plan indexes ranges)

-- one pass more than there are pays for the beginning
pub passes_paid : (m : Bool) (begin ahead chosen : ℕ) → begin + ahead ≤ chosen → begin + (if m then 9 else 1) * ahead ≤ (if m then 10 else 1) * chosen
passes_paid true begin ahead chosen h = omega arith
passes_paid false begin ahead chosen h = omega arith

pub pass_paid : (m : Bool) (chosen : ℕ) → chosen ≤ (if m then 10 else 1) * chosen
pass_paid true chosen = omega arith
pass_paid false chosen = omega arith
