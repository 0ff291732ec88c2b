-- What single writes into a buffer leave, from its front on.
use Rattle.std.proofs.Common.{◌≡◌, ℕ, ◌+◌, ◌-◌, ◌≤◌, List, [], ◌∷◌, ◌++◌, length, take, drop, set, refl, ap, ◌∙◌, arith, append_assoc, length-set}
use Rattle.std.proofs.lemmas.List.{length-append, length-drop, length-take-le, take_at, take_more_set, append-nil, drop_all}
use borrow.Rule.Slice.PartMut.{put_mid}
use Rattle.afl_base.specs.Fields.{put_at}
use Rattle.afl_base.proofs.FieldLaws.{length-put_at}

-- a write behind a front part makes it longer
pub front_put_at : (old written front : List ℕ) (at n : ℕ) → at ≤ length old → n ≡ at + length written → take at old ≡ front → take n (put_at old at written) ≡ front ++ written
unfolding put_at
front_put_at old written front at n fits e is =
    rw is (take_at (front ++ written) (drop (at + length written) old) n
    (let size : length (take at old) ≡ at = length-take-le at old fits in omega (arith, length-append front written, ap length is)))

-- the last write ends the buffer
pub whole_put_mid : (old written front : List ℕ) (at : ℕ) → at + length written ≡ length old → take at old ≡ front → put_mid at (length old - at) old written ≡ front ++ written
whole_put_mid old written front at e is =
    rw (is, drop_all (length old - at) (drop at old) (omega (arith, length-drop at old))) (ap (λ t. front ++ t) (append-nil written))

-- four fields of two bytes, two bytes and the rest, one after the other
pub whole_written : (old a b c d name : List ℕ) (k f : ℕ) → length old ≡ 32 → length a ≡ 2 → length b ≡ 2 → length c ≡ 2 → length d ≡ 2 → length name ≡ 22
    → (x1 x2 x3 x4 : List ℕ) → x1 ≡ put_at old 0 a → x2 ≡ put_at x1 2 b → x3 ≡ put_at x2 4 c → x4 ≡ put_at x3 6 d
    → put_mid 10 (length (set (set x4 8 k) 9 f) - 10) (set (set x4 8 k) 9 f) name ≡ a ++ b ++ c ++ d ++ (k ∷ f ∷ []) ++ name
whole_written old a b c d name k f l la lb lc ld ln x1 x2 x3 x4 e1 e2 e3 e4 =
    let l1 : length x1 ≡ 32 = ap length e1 ∙ length-put_at old a 0 (omega arith) ∙ l in
    let l2 : length x2 ≡ 32 = ap length e2 ∙ length-put_at x1 b 2 (omega arith) ∙ l1 in
    let l3 : length x3 ≡ 32 = ap length e3 ∙ length-put_at x2 c 4 (omega arith) ∙ l2 in
    let l4 : length x4 ≡ 32 = ap length e4 ∙ length-put_at x3 d 6 (omega arith) ∙ l3 in
    let f1 : take 2 x1 ≡ a = ap (λ t. take 2 t) e1 ∙ front_put_at old a [] 0 2 (omega arith) (omega arith) refl in
    let f2 : take 4 x2 ≡ a ++ b = ap (λ t. take 4 t) e2 ∙ front_put_at x1 b a 2 4 (omega arith) (omega arith) f1 in
    let f3 : take 6 x3 ≡ a ++ b ++ c = ap (λ t. take 6 t) e3 ∙ front_put_at x2 c (a ++ b) 4 6 (omega arith) (omega arith) f2 in
    let f4 : take 8 x4 ≡ a ++ b ++ c ++ d = ap (λ t. take 8 t) e4 ∙ front_put_at x3 d (a ++ b ++ c) 6 8 (omega arith) (omega arith) f3 in
    let s5 : length (set x4 8 k) ≡ 32 = length-set x4 8 k ∙ l4 in
    let s6 : length (set (set x4 8 k) 9 f) ≡ 32 = length-set (set x4 8 k) 9 f ∙ s5 in
    let f5 : take 9 (set x4 8 k) ≡ a ++ b ++ c ++ d ++ (k ∷ []) = take_more_set x4 8 k (omega arith) ∙ ap (λ t. t ++ (k ∷ [])) f4 in
    let f6 : take 10 (set (set x4 8 k) 9 f) ≡ a ++ b ++ c ++ d ++ (k ∷ f ∷ []) =
    take_more_set (set x4 8 k) 9 f (omega arith) ∙ ap (λ t. t ++ (f ∷ [])) f5 ∙ append_assoc (a ++ b ++ c ++ d) (k ∷ []) (f ∷ []) in
    whole_put_mid (set (set x4 8 k) 9 f) name (a ++ b ++ c ++ d ++ (k ∷ f ∷ [])) 10 (omega arith) f6
