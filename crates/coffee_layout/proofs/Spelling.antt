-- ListsValues: a list is the values of a function below a place, without the zeros at their end.
use Rattle.std.proofs.Common.{◌≡◌, ◌⊎◌, inl, inr, Option, ℕ, zero, suc, ◌-◌, ◌*◌, ◌≤◌, ◌<◌, Bool, true, false, ◌==◌, List, length, take, map, get_or, if◌then◌else◌, refl, ap, sym, ◌∙◌, arith}
use Rattle.std.specs.List.{range_with_len, suffix_len}
use Rattle.std.proofs.lemmas.List.{ext_get_or, get_or-take, length-take-le}
use Rattle.std.proofs.lemmas.Bool.{cases_lt}
use Rattle.std.proofs.lemmas.List.FromFn.{get_or-map-range_with_len, length-map-range_with_len}
use Rattle.afl_base.specs.declared.ids.PageId.{PageId}
use Rattle.coffee_layout.specs.FileBytes.{IsEnd, ListsValues, file_byte, file_bytes, trimmed}
use Rattle.coffee_layout.proofs.Sizes.{end_spelt}
use Rattle.coffee_layout.proofs.Tests.{false_eq}
use Rattle.padded.proofs.Facts.{true_eq}

-- the place after the last of the first n values that is not zero
end_at : (ℕ → ℕ) → ℕ → ℕ
end_at f zero = zero
end_at f (suc n) = if f n == 0 then end_at f n else suc n

end_turn : (f : ℕ → ℕ) (n : ℕ) (t : Bool) (end : ℕ) → f n == 0 ≡ t → IsEnd f n end → IsEnd f (suc n) (if t then end else suc n)
end_turn f n true end e i =
    let z = true_eq (f n) 0 e in
    record {
      within = omega (arith, i.within);
      zeros = λ p from to. zero_more p from to (cases_lt p n);
      last = i.last;
    }
  where
    zero_more : (p : ℕ) → end ≤ p → p < suc n → (p < n) ⊎ (n ≤ p) → f p ≡ 0
    zero_more p from to (inl l) = i.zeros p from l
    zero_more p from to (inr l) = let s : p ≡ n = omega arith in ap f s ∙ true_eq (f n) 0 e
end_turn f n false end e i =
    let ne = false_eq (f n) 0 e in
    record { within = omega arith; zeros = λ p from to. absurd (omega arith); last = λ some. let s : suc n - 1 ≡ n = omega arith in λ z. ne (ap f (sym s) ∙ z) }

end_exists : (f : ℕ → ℕ) (n : ℕ) → IsEnd f n (end_at f n)
unfolding end_at
end_exists f zero = record { within = omega arith; zeros = λ p from to. absurd (omega arith); last = λ some. absurd (omega arith) }
end_exists f (suc n) = end_turn f n (f n == 0) (end_at f n) refl (end_exists f n)

value_at : (f : ℕ → ℕ) (n m p : ℕ) → p < m → m ≤ n → get_or (take m (map f (range_with_len 0 n))) p 0 ≡ f p
value_at f n m p below few = get_or-take m (map f (range_with_len 0 n)) p 0 below ∙ get_or-map-range_with_len f 0 n p p 0 (omega arith) (omega arith)

spells_end : (f : ℕ → ℕ) (n end : ℕ) (bytes : List ℕ) → IsEnd f n end → length bytes ≡ end → ((p : ℕ) → p < end → get_or bytes p 0 ≡ f p) → ListsValues f n bytes
spells_end f n end bytes i size here = record {
  short = omega (arith, i.within);
  here = λ p l. sym (here p (omega arith));
  after = λ p from to. i.zeros p (omega arith) to;
  last = λ some z. i.last (omega arith) (let s : length bytes - 1 ≡ end - 1 = omega arith in sym (here (end - 1) (omega arith)) ∙ ap (λ k. get_or bytes k 0) (sym s) ∙ z);
}

cut : (f : ℕ → ℕ) (n : ℕ) → ℕ
cut f n = length (map f (range_with_len 0 n)) - suffix_len (λ b. b == 0) (map f (range_with_len 0 n))

-- the values without the zeros at their end are spelt
pub spells : (f : ℕ → ℕ) (n : ℕ) → ListsValues f n (trimmed (map f (range_with_len 0 n)))
spells f n =
    let i = end_exists f n in
    let size = end_spelt f n (end_at f n) i in
    let all = length-map-range_with_len f 0 n in
    let m = length (map f (range_with_len 0 n)) - suffix_len (λ b. b == 0) (map f (range_with_len 0 n)) in
    spells_end f n (end_at f n) (trimmed (map f (range_with_len 0 n))) i size
    (λ p l. let cut : length (take m (map f (range_with_len 0 n))) ≡ m = length-take-le m (map f (range_with_len 0 n)) (omega arith) in value_at f n m p (omega arith) (omega arith))

-- and no other list is
pub spelt : (f : ℕ → ℕ) (n : ℕ) (bytes : List ℕ) → ListsValues f n bytes → trimmed (map f (range_with_len 0 n)) ≡ bytes
spelt f n bytes s =
    let i : IsEnd f n (length bytes) = record { within = s.short; zeros = s.after; last = λ some z. s.last some (sym (s.here (length bytes - 1) (omega arith)) ∙ z) } in
    let size = end_spelt f n (length bytes) i in
    let t = spells f n in
    ext_get_or 0 (trimmed (map f (range_with_len 0 n))) bytes size (λ k l. sym (t.here k l) ∙ s.here k (omega arith))

-- the bytes of a file
pub spells_file : (image : List ℕ) (page pages : ℕ) (log : Option PageId) → ListsValues (file_byte image page log) (256 * pages - 32) (file_bytes image page pages log)
unfolding file_bytes
spells_file image page pages log = spells (file_byte image page log) (256 * pages - 32)

pub spelt_file : (image : List ℕ) (page pages : ℕ) (log : Option PageId) (bytes : List ℕ) → ListsValues (file_byte image page log) (256 * pages - 32) bytes → file_bytes image page pages log ≡ bytes
unfolding file_bytes
spelt_file image page pages log bytes s = spelt (file_byte image page log) (256 * pages - 32) bytes s
