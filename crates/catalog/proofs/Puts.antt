-- Writes into bytes, and copies of a part one behind the other.
use Rattle.std.proofs.Common.{◌≡◌, ℕ, zero, suc, ◌+◌, ◌*◌, ◌≤◌, List, ◌++◌, length, take, drop, flat_map, replicate, refl, sym, ap, ◌∙◌, arith, append_assoc}
use Rattle.std.proofs.lemmas.List.{append-nil, drop-append-le, length-append, take-append-le}
use Rattle.std.proofs.lemmas.List.Concat.{flat_map-cons}
use Rattle.std.proofs.Math.ListN.{drop_of_length-le}
use Rattle.afl_base.specs.Fields.{put_at}
use Rattle.afl_base.proofs.PutLaws.{put_at-put_at, put_at_nothing}
use Rattle.catalog.specs.Copies.{copies}

-- all is written
pub put_at_all : (old new : List ℕ) → length new ≡ length old → put_at old 0 new ≡ new
unfolding put_at
put_at_all old new e = let h : length old ≤ 0 + length new = omega (arith, e) in rw (drop_of_length-le old h, append-nil new) refl

-- bytes behind what is written into
pub put_at-append : (old rest part : List ℕ) (at : ℕ) → at + length part ≤ length old → put_at (old ++ rest) at part ≡ put_at old at part ++ rest
unfolding put_at
put_at-append old rest part at h =
    let front : take at (old ++ rest) ≡ take at old = take-append-le at old rest (omega (arith, h)) in
    let behind : drop (at + length part) (old ++ rest) ≡ drop (at + length part) old ++ rest = drop-append-le (at + length part) old rest h in
    rw (front, behind) (sym (append_assoc (take at old ++ part) (drop (at + length part) old) rest))

-- ---- copies of a part

pub copies_more : (n : ℕ) (part : List ℕ) → copies (n + 1) part ≡ copies n part ++ part
unfolding copies
copies_more zero part = append-nil part
copies_more (suc n) part = let e : suc n + 1 ≡ suc (n + 1) = omega arith in rw e (ap (λ r. part ++ r) (copies_more n part) ∙ sym (append_assoc part (copies n part) part))

pub length-copies : (n : ℕ) (part : List ℕ) → length (copies n part) ≡ n * length part
unfolding copies
length-copies zero part = omega arith
length-copies (suc n) part = length-append part (copies n part) ∙ omega (arith, length-copies n part)

-- equal slots, each of these bytes
pub copies_of : {X : Type 0} (encoded : X → List ℕ) (x : X) (n : ℕ) → flat_map encoded (replicate n x) ≡ copies n (encoded x)
unfolding copies
copies_of encoded x zero = refl
copies_of encoded x (suc n) = flat_map-cons encoded x (replicate n x) ∙ ap (λ r. encoded x ++ r) (copies_of encoded x n)

-- one copy more is written
pub copy_more : (old part : List ℕ) (at n : ℕ) → at + n * length part ≤ length old → put_at (put_at old at (copies n part)) (at + n * length part) part ≡ put_at old at (copies (n + 1) part)
copy_more old part at n h =
    put_at-put_at old (copies n part) part at (at + n * length part) (ap (λ m. at + m) (sym (length-copies n part))) h ∙ ap (λ c. put_at old at c) (sym (copies_more n part))

-- no copy is written yet
pub copy_none : (old part : List ℕ) (at : ℕ) → old ≡ put_at old at (copies 0 part)
unfolding copies
copy_none old part at = sym (put_at_nothing old at)
