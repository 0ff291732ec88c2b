-- Bytes that are put in the place of others, and taken back.
use Rattle.std.proofs.Common.{◌≡◌, ℕ, zero, suc, ◌+◌, ◌-◌, ◌≤◌, true, List, [], ◌∷◌, ◌++◌, length, take, drop, replicate, refl, sym, ap, ◌∙◌, arith, append_assoc, length-append}
use Rattle.std.specs.Prelude.{◌==◌, slice_range}
use Rattle.std.proofs.Math.Seq.{drop-append-add}
use Rattle.std.proofs.lemmas.List.{drop-drop, length-take-le, length-drop, take-append-drop}
use Rattle.afl_base.specs.Fields.{put_at}
use Rattle.afl_base.proofs.FieldLaws.{drop-put_at}
use Rattle.afl_base.proofs.PutLaws.{take-put_at}
use Rattle.padded.specs.Zeros.{is_zeros}
use Rattle.padded.proofs.Facts.{all_zeros, both_parts, true_eq}

-- what stands behind the bytes that are put
pub drop_behind : (old part : List ℕ) (at n : ℕ) → at + length part ≤ n → at ≤ length old → drop n (put_at old at part) ≡ drop n old
drop_behind old part at n behind room =
    let k : ℕ = n - (at + length part) in
    let whole : at + (length part + k) ≡ n = omega (arith, behind) in
    let last : at + length part + k ≡ n = omega (arith, behind) in
    ap (λ (m : ℕ). drop m (put_at old at part)) (sym whole)
    ∙ sym (drop-drop (length part + k) at (put_at old at part))
    ∙ ap (drop (length part + k)) (drop-put_at old part at room)
    ∙ drop-append-add part (drop (at + length part) old) k
    ∙ drop-drop k (at + length part) old
    ∙ ap (λ (m : ℕ). drop m old) last

-- what was put before is gone where more is put over it
pub put_over : (old part all : List ℕ) (at m : ℕ) → m ≤ at → at + length part ≤ m + length all → at ≤ length old → put_at (put_at old at part) m all ≡ put_at old m all
unfolding put_at
put_over old part all at m before behind room =
    let front : take m (put_at old at part) ≡ take m old = take-put_at old part at m before room in
    let rest : drop (m + length all) (put_at old at part) ≡ drop (m + length all) old = drop_behind old part at (m + length all) behind room in
    ap (λ (xs : List ℕ). xs ++ all ++ drop (m + length all) (put_at old at part)) front ∙ ap (λ (xs : List ℕ). take m old ++ all ++ xs) rest

pub length-range : (xs : List ℕ) (m n : ℕ) → m + n ≤ length xs → length (slice_range xs m (m + n)) ≡ n
length-range xs m n room =
    let width : m + n - m ≡ n = omega arith in
    ap (λ (k : ℕ). length (take k (drop m xs))) width ∙ length-take-le n (drop m xs) (omega (arith, length-drop m xs, room))

-- what stands there is put
pub put_same : (xs part : List ℕ) (m n : ℕ) → m + n ≤ length xs → part ≡ slice_range xs m (m + n) → put_at xs m part ≡ xs
unfolding put_at
put_same xs part m n room is =
    let width : m + n - m ≡ n = omega arith in
    let long : length part ≡ n = ap length is ∙ length-range xs m n room in
    let front : part ≡ take n (drop m xs) = is ∙ ap (λ (k : ℕ). take k (drop m xs)) width in
    append_assoc (take m xs) part (drop (m + length part) xs)
    ∙ ap (λ (ys : List ℕ). take m xs ++ ys)
    (ap (λ (ys : List ℕ). ys ++ drop (m + length part) xs) front
    ∙ ap (λ (k : ℕ). take n (drop m xs) ++ drop (m + k) xs) long
    ∙ ap (λ (ys : List ℕ). take n (drop m xs) ++ ys) (sym (drop-drop n m xs))
    ∙ take-append-drop n (drop m xs))
    ∙ take-append-drop m xs

-- ---- zeros

pub zeros_are : (xs : List ℕ) → is_zeros xs ≡ true → xs ≡ replicate (length xs) 0
zeros_are [] e = refl
zeros_are (x ∷ xs) e =
    let parts = both_parts (x == 0) (is_zeros xs) e in
    ap (λ (y : ℕ). y ∷ xs) (true_eq x 0 parts.0) ∙ ap (λ (ys : List ℕ). 0 ∷ ys) (zeros_are xs parts.1)

pub are_zeros : (xs : List ℕ) (n : ℕ) → xs ≡ replicate n 0 → is_zeros xs ≡ true
are_zeros xs n e = ap is_zeros e ∙ all_zeros n

-- ---- ends of lists that were joined

pub drop_joined : (n : ℕ) (xs ys : List ℕ) → drop n (xs ++ ys) ≡ drop n xs ++ drop (n - length xs) ys
drop_joined zero xs ys = let e : 0 - length xs ≡ 0 = omega arith in ap (λ (k : ℕ). xs ++ drop k ys) (sym e)
drop_joined (suc n) [] ys = let e : suc n - 0 ≡ suc n = omega arith in ap (λ (k : ℕ). drop k ys) (sym e)
drop_joined (suc n) (x ∷ xs) ys = let e : suc n - suc (length xs) ≡ n - length xs = omega arith in drop_joined n xs ys ∙ ap (λ (k : ℕ). drop n xs ++ drop k ys) (sym e)

pub take_joined : (n : ℕ) (xs ys : List ℕ) → take n (xs ++ ys) ≡ take n xs ++ take (n - length xs) ys
take_joined zero xs ys = let e : 0 - length xs ≡ 0 = omega arith in ap (λ (k : ℕ). take k ys) (sym e)
take_joined (suc n) [] ys = let e : suc n - 0 ≡ suc n = omega arith in ap (λ (k : ℕ). take k ys) (sym e)
take_joined (suc n) (x ∷ xs) ys = let e : suc n - suc (length xs) ≡ n - length xs = omega arith in ap (λ (zs : List ℕ). x ∷ zs) (take_joined n xs ys ∙ ap (λ (k : ℕ). take n xs ++ take k ys) (sym e))

pub drop_zeros : (n k : ℕ) → drop n (replicate {A = ℕ} k 0) ≡ replicate (k - n) 0
drop_zeros zero k = let e : k - 0 ≡ k = omega arith in ap (λ (m : ℕ). replicate {A = ℕ} m 0) (sym e)
drop_zeros (suc n) zero = let e : 0 - suc n ≡ 0 = omega arith in ap (λ (m : ℕ). replicate {A = ℕ} m 0) (sym e)
drop_zeros (suc n) (suc k) = let e : suc k - suc n ≡ k - n = omega arith in drop_zeros n k ∙ ap (λ (m : ℕ). replicate {A = ℕ} m 0) (sym e)

pub take_zeros : (n k : ℕ) → n ≤ k → take n (replicate {A = ℕ} k 0) ≡ replicate n 0
take_zeros zero k few = refl
take_zeros (suc n) zero few = absurd (omega (arith, few))
take_zeros (suc n) (suc k) few = ap (λ (zs : List ℕ). 0 ∷ zs) (take_zeros n k (omega (arith, few)))

-- two parts of a list
pub take_both : (m n : ℕ) (xs : List ℕ) → take m xs ++ take n (drop m xs) ≡ take (m + n) xs
take_both zero n xs = let e : n ≡ 0 + n = omega arith in ap (λ (k : ℕ). take k xs) e
take_both (suc m) n [] = nothing n ∙ sym (nothing (suc m + n))
  where
    nothing : (k : ℕ) → take {A = ℕ} k [] ≡ []
    nothing zero = refl
    nothing (suc k) = refl
take_both (suc m) n (x ∷ xs) = let e : suc (m + n) ≡ suc m + n = omega arith in ap (λ (ys : List ℕ). x ∷ ys) (take_both m n xs) ∙ ap (λ (k : ℕ). take k (x ∷ xs)) e

pub range_both : (xs : List ℕ) (a b c : ℕ) → a ≤ b → b ≤ c → slice_range xs a b ++ slice_range xs b c ≡ slice_range xs a c
range_both xs a b c low high =
    let width : (b - a) + (c - b) ≡ c - a = omega (arith, low, high) in
    let place : a + (b - a) ≡ b = omega (arith, low) in
    let behind : drop b xs ≡ drop (b - a) (drop a xs) = sym (drop-drop (b - a) a xs ∙ ap (λ (n : ℕ). drop n xs) place) in
    ap (λ (ys : List ℕ). take (b - a) (drop a xs) ++ take (c - b) ys) behind ∙ take_both (b - a) (c - b) (drop a xs) ∙ ap (λ (n : ℕ). take n (drop a xs)) width

-- two puts side by side
pub puts_both : (xs first second : List ℕ) (at next : ℕ) → next ≡ at + length first → next ≤ length xs → put_at (put_at xs next second) at first ≡ put_at xs at (first ++ second)
unfolding put_at
puts_both xs first second at next is room =
    let size : at + length (first ++ second) ≡ next + length second = let n = length-append first second in omega (arith, n, is) in
    let behind : drop (at + length first) (put_at xs next second) ≡ second ++ drop (next + length second) xs = ap (λ (n : ℕ). drop n (put_at xs next second)) (sym is) ∙ drop-put_at xs second next room in
    ap (λ (ys : List ℕ). ys ++ first ++ drop (at + length first) (put_at xs next second)) (take-put_at xs second next at (omega (arith, is)) room)
    ∙ ap (λ (ys : List ℕ). take at xs ++ first ++ ys) behind
    ∙ sym (append_assoc (take at xs ++ first) second (drop (next + length second) xs))
    ∙ ap (λ (ys : List ℕ). ys ++ drop (next + length second) xs) (append_assoc (take at xs) first second)
    ∙ ap (λ (n : ℕ). take at xs ++ (first ++ second) ++ drop n xs) (sym size)
