use Rattle.std.proofs.Common.{◌≡◌, arith, ℕ, List, length, take, ◌∙◌, ap}
use Rattle.std.specs.Str.Parse.{digits_value}
use Rattle.std.proofs.Math.Seq.{take-length}
use Rattle.aql_lex.proofs.Digits.{small, step}
use Rattle.aql_lex.proofs.scan.value_of.Goals as goal

pub overflow_mul-value : goal.overflow_mul-value
overflow_mul-value c =
    let s = step c.args.digits.now c.loop-digit.digit-index c.requires.digits c.requires.few c.loop-digit-test.true in
    omega (arith, s.value, s.small, c.loop-digit.invariant)

pub overflow_sub-digit : goal.overflow_sub-digit
overflow_sub-digit c = (step c.args.digits.now c.loop-digit.digit-index c.requires.digits c.requires.few c.loop-digit-test.true).low

pub overflow_add-value : goal.overflow_add-value
overflow_add-value c =
    let s = step c.args.digits.now c.loop-digit.digit-index c.requires.digits c.requires.few c.loop-digit-test.true in
    omega (arith, s.value, s.small, c.loop-digit.invariant, c.from.ensures)

pub loop-digit-preserved : goal.loop-digit-preserved
loop-digit-preserved c =
    let s = step c.args.digits.now c.loop-digit.digit-index c.requires.digits c.requires.few c.loop-digit-test.true in
    omega (arith, s.value, c.loop-digit.invariant, c.from.ensures)

-- where the loop ends, the number is that of all digits
whole : (digits : List ℕ) (i v : ℕ) → i ≡ length digits → v ≡ digits_value 10 (take i digits) → v ≡ digits_value 10 digits
whole digits i v h e = e ∙ ap (digits_value 10) (ap (λ n. take n digits) h ∙ take-length digits)

pub returns : goal.returns
returns c =
    let all = whole c.args.digits.now c.loop-digit.digit-index c.loop-digit.value (omega arith) c.loop-digit.invariant in
    let below = small c.args.digits.now c.requires.digits c.requires.few in
    record { value = all; small = omega (arith, all, below) }
