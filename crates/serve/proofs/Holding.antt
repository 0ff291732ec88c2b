-- Laws of a sink that stands before another: what is so of it since a time.
use Rattle.std.proofs.Common.{◌≡◌, ℕ, ◌≤◌, ◌<◌, Bool, true, false, List, ◌++◌, length, take, refl, ap, sym, ◌∙◌, arith, length-append, Option, Some, None}
use Rattle.std.proofs.lemmas.List.{length-take, take-append-le}
use Rattle.std.specs.Io.KnownBytes.{append_known}
use Rattle.afl_base.specs.Causes.{Rose}
use Rattle.buffered_sink.specs.Handing.{front_of}
use Rattle.padded.proofs.Facts.{some_same}
use Rattle.serve.specs.Front.{Fronted, HoldsOn, front_bytes, front_faults, seen}

true_false : {P : Type 0} → true ≡ false → P
true_false e = absurd (cc)

-- ---- the bytes in front

long_enough : (xs ys : List ℕ) → take (length xs) ys ≡ xs → length xs ≤ length ys
long_enough xs ys e = let many = ap length e in omega (arith, many, length-take (length xs) ys)

front_more : (h k : Option (List ℕ)) (more : List ℕ) → front_of h k ≡ h → front_of h (append_known k more) ≡ h
front_more None None more e = refl
front_more None (Some ys) more e = absurd (cc)
front_more (Some xs) None more e = absurd (cc)
front_more (Some xs) (Some ys) more e =
    let same = some_same (take (length xs) ys) xs e in
    ap (λ bs. Some bs) (take-append-le (length xs) ys more (long_enough xs ys same) ∙ same)

nothing : (h : Option (List ℕ)) (bytes : List ℕ) → append_known h bytes ≡ None → h ≡ None
nothing None bytes e = refl
nothing (Some xs) bytes e = absurd (cc)

-- more than it held is not what it held
more_told : (h k : Option (List ℕ)) (more : List ℕ) → front_of h k ≡ h → 0 < length more → append_known k more ≡ h → h ≡ None
more_told None k more e some same = refl
more_told (Some xs) None more e some same = absurd (cc)
more_told (Some xs) (Some ys) more e some same =
    let long = long_enough xs ys (some_same (take (length xs) ys) xs e) in
    let many = ap length (some_same (ys ++ more) xs same) in
    let sum = length-append ys more in
    absurd (omega (arith, some, long, many, sum))

-- ---- since a time

-- a call failed, and no more than before is seen
pub holds_failed : (s a b : Fronted) → HoldsOn s a → seen b ≡ seen a → b.failed ≡ true → Rose a.faults b.faults → a.faults ≤ b.faults → HoldsOn s b
holds_failed s a b x same failed rose later = record {
  held = ap (front_of (seen s)) same ∙ x.held;
  silent = λ fine e. true_false (sym failed ∙ fine);
  faultless = λ fine. true_false (sym failed ∙ fine);
  fault = λ fine fails. omega (arith, x.later, rose);
  later = omega (arith, x.later, later);
}

-- some bytes were written
pub holds_written : (s a b : Fronted) (more : List ℕ) → HoldsOn s a → seen b ≡ append_known (seen a) more → 0 < length more → b.failed ≡ a.failed → b.faults ≡ a.faults → HoldsOn s b
holds_written s a b more x wrote some failed faults = record {
  held = ap (front_of (seen s)) wrote ∙ front_more (seen s) (seen a) more x.held;
  silent = λ fine same.
      let none = more_told (seen s) (seen a) more x.held some (sym wrote ∙ same) in
      nothing b.held (front_bytes b.front) (same ∙ none) ∙ sym (nothing s.held (front_bytes s.front) none);
  faultless = λ fine. let e = x.faultless (sym failed ∙ fine) in (e.0, faults ∙ e.1);
  fault = λ fine fails. let rose = x.fault fine (sym failed ∙ fails) in omega (arith, rose, faults);
  later = omega (arith, x.later, faults);
}

-- ---- what its own count says of the sink behind

pub fine_by : (t : Bool) → front_faults t ≡ 0 → t ≡ false
fine_by true e = absurd (omega (arith, e))
fine_by false e = refl

failed_by : (t : Bool) → Rose 0 (front_faults t) → t ≡ true
failed_by true r = refl
failed_by false r = absurd (omega (arith, r))

-- where it counted no fault, nor did the sink behind
pub same_faults : (s b : Fronted) → HoldsOn s b → front_faults b.failed ≡ 0 → b.faults ≡ s.faults
same_faults s b x e = (x.faultless (fine_by b.failed e)).1

-- where it did, so did the sink behind
pub rose_behind : (s b : Fronted) → HoldsOn s b → s.failed ≡ false → Rose 0 (front_faults b.failed) → Rose s.faults b.faults
rose_behind s b x fine rose = x.fault fine (failed_by b.failed rose)
