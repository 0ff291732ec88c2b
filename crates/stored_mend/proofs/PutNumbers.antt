-- Bytes that are put into a row of which a part is there.
use Rattle.std.proofs.Common.{◌≡◌, refl, ap, sym, subst, ◌∙◌, ℕ, ◌+◌, ◌<◌, ◌≤◌, ℤ, pos, ◌≤ℤ◌, List, [], ◌∷◌, ◌++◌, length, drop, arith}
use Rattle.std.proofs.Math.ListN.{drop_of_length-le}
use Rattle.std.proofs.lemmas.Grind.{common_steps}
use Rattle.std.proofs.lemmas.Int.{ints}
use Rattle.std.proofs.lemmas.List.{append-nil}
use Rattle.afl_base.specs.Fields.{i64_bytes, put_at}
use Rattle.db_model.specs.declared.schemas.Domain.{Domain}
use Rattle.db_model.specs.declared.schemas.Domain.TheVariants.{Int, Long, Time, Str}
use Rattle.stored_mend.specs.Filled.{most_number}

-- bytes that take the place of all
pub put_all : (old bytes : List ℕ) → length bytes ≡ length old → put_at old 0 bytes ≡ bytes
unfolding put_at
put_all old bytes long =
    let short : length old ≤ 0 + length bytes = omega (arith, long) in
    ap (λ (xs : List ℕ). bytes ++ xs) (drop_of_length-le old short) ∙ append-nil bytes

pub length-i64_bytes : (z : ℤ) → length (i64_bytes z) ≡ 8
unfolding i64_bytes
length-i64_bytes z = refl

-- a number that is not above the greatest of 64 bits
pub within_64 : (d : Domain) (z : ℤ) → z ≤ℤ most_number d → z ≤ℤ pos 9223372036854775807
within_64 Int z below = let most : z ≤ℤ pos 32767 = below in omega (arith, ints, most)
within_64 Long z below = let most : z ≤ℤ pos 2147483647 = below in omega (arith, ints, most)
within_64 Time z below = let most : z ≤ℤ pos 140737488355327 = below in omega (arith, ints, most)
within_64 (Str n) z below = let most : z ≤ℤ pos 0 = below in omega (arith, ints, most)
