-- Bytes in front of zeros: what a write into the front, or right behind it, leaves.
use Rattle.std.proofs.Common.{◌≡◌, ℕ, ◌+◌, ◌-◌, ◌≤◌, List, [], ◌++◌, length, take, drop, replicate, refl, sym, ap, ◌∙◌, arith, append_assoc}
use Rattle.std.proofs.lemmas.List.{append-nil, drop-append-le, drop-drop, drop-replicate, drop_at, length-append, take-append-le, take_at}
use Rattle.std.proofs.lemmas.Grind.{common_steps}
use Rattle.afl_base.specs.Fields.{put_at}
use Rattle.padded.specs.Padded.{IsPadded, padded}
use Rattle.afl_base.proofs.FieldLaws.{length-put_at}

-- bytes with zeros behind them are padded
pub is_padded : (n : ℕ) (xs : List ℕ) → length xs ≤ n → IsPadded n (length xs) (padded n xs)
is_padded n xs short = record {
  short = short;
  long = grind (arith, common_steps);
  rest = ap (padded n) (sym (take_at xs (replicate (n - length xs) 0) (length xs) refl));
}

-- the bytes in front of the zeros
pub front_of_padded : (n : ℕ) (xs : List ℕ) → take (length xs) (padded n xs) ≡ xs
front_of_padded n xs = take_at xs (replicate (n - length xs) 0) (length xs) refl

-- only zeros
pub padded_none : (n : ℕ) → padded n [] ≡ replicate n 0
padded_none n = ap (λ (m : ℕ). replicate m 0) (omega arith)

-- no zeros
pub padded_all : (n : ℕ) (xs : List ℕ) → length xs ≡ n → padded n xs ≡ xs
padded_all n xs full = let none : n - length xs ≡ 0 = omega arith in ap (λ (m : ℕ). xs ++ replicate m 0) none ∙ append-nil xs

-- a write into the front
pub put_in_front : (n at : ℕ) (xs ys : List ℕ) → at + length ys ≤ length xs → put_at (padded n xs) at ys ≡ padded n (put_at xs at ys)
unfolding put_at
put_in_front n at xs ys inside =
    let zeros : List ℕ = replicate (n - length xs) 0 in
    let same : length (put_at xs at ys) ≡ length xs = length-put_at xs ys at inside in
    rw (same, take-append-le at xs zeros (omega arith), drop-append-le (at + length ys) xs zeros inside) (sym (append_assoc (take at xs ++ ys) (drop (at + length ys) xs) zeros))

-- a write behind the front
pub put_behind : (n : ℕ) (xs ys : List ℕ) → length xs + length ys ≤ n → put_at (padded n xs) (length xs) ys ≡ padded n (xs ++ ys)
unfolding put_at
put_behind n xs ys inside =
    let zeros : List ℕ = replicate (n - length xs) 0 in
    let before : take (length xs) (xs ++ zeros) ≡ xs = take_at xs zeros (length xs) refl in
    let behind : drop (length xs + length ys) (xs ++ zeros) ≡ replicate (n - length (xs ++ ys)) 0 =
    sym (drop-drop (length ys) (length xs) (xs ++ zeros)) ∙ ap (drop (length ys)) (drop_at xs zeros (length xs) refl)
    ∙ drop-replicate (length ys) (n - length xs) 0 ∙ ap (λ (m : ℕ). replicate m 0) (omega (arith, length-append xs ys)) in
    rw (before, behind) refl
