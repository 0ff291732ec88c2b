-- Runs of digits, and the numbers that they write.
use Rattle.std.proofs.Common.{◌≡◌, ℕ, ◌+◌, ◌-◌, ◌*◌, ◌<◌, ◌≤◌, ◌^◌, List, [], ◌∷◌, length, take, get_or, Bool, true, false, cond, refl, sym, subst, arith}
use Rattle.std.specs.Char.{is_ascii_digit, digit_value}
use Rattle.std.specs.List.{take_while}
use Rattle.std.specs.Str.Parse.{AllDigits, digits_value}
use Rattle.std.proofs.lemmas.Bool.Decides.{nat_tests}
use Rattle.std.proofs.lemmas.Int.Digits.{digits_value_more}
use Rattle.std.proofs.lemmas.List.Sums.{take_while-cons}
use Rattle.std.proofs.lemmas.Str.{digit_value_digit}
use Rattle.std.proofs.lemmas.Str.Parse.{IsNumeralModel, digits_value_short, digits_value-take-le, digit_at}

digit_below : (c : ℕ) → is_ascii_digit c ≡ true → digit_value c < 10
digit_below c h = grind (arith, nat_tests)

-- a run of digits has digits alone
pub run_digits : (bs : List ℕ) → AllDigits 10 (take_while is_ascii_digit bs)
run_digits [] = tt
run_digits (b ∷ bs) = subst (AllDigits 10) (sym (take_while-cons is_ascii_digit b bs)) (go (is_ascii_digit b) refl (run_digits bs))
  where
    go : (t : Bool) → is_ascii_digit b ≡ t → AllDigits 10 (take_while is_ascii_digit bs) → AllDigits 10 (cond t (b ∷ take_while is_ascii_digit bs) [])
    go true e rest = (digit_below b e, rest)
    go false e rest = tt

own : IsNumeralModel (AllDigits 10) (digits_value 10)
own = record { to = λ ds h. h; from = λ ds h. h; same = λ ds h. refl }

-- what one digit more does to the number
pub record Step (digits : List ℕ) (i : ℕ) : Type 0 where
  pub low : 48 ≤ get_or digits i 0
  pub high : get_or digits i 0 ≤ 57
  pub value : 10 * digits_value 10 (take i digits) + (get_or digits i 0 - 48) ≡ digits_value 10 (take (i + 1) digits)
  pub small : digits_value 10 (take (i + 1) digits) < 10 ^ 18

-- at most 18 digits write a number below 10 to the 18th
pub small : (digits : List ℕ) → AllDigits 10 digits → length digits ≤ 18 → digits_value 10 digits < 10 ^ 18
small digits all few = digits_value_short own digits 18 all few

pub step : (digits : List ℕ) (i : ℕ) → AllDigits 10 digits → length digits ≤ 18 → i < length digits → Step digits i
step digits i all few lt =
    let range = digit_at digits i all lt in
    let value = digit_value_digit (get_or digits i 0) range in
    let more = digits_value_more 10 digits i lt in
    let less = digits_value-take-le 10 digits (i + 1) (omega arith) in
    let short = small digits all few in
    record { low = range.0; high = range.1; value = omega (arith, more, value); small = omega (arith, less, short) }
