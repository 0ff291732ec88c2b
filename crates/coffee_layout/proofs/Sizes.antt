-- The last record of a region, and the size of a file.
use Rattle.std.proofs.Common.{◌≡◌, ℕ, zero, suc, ◌+◌, ◌-◌, ◌*◌, ◌<◌, ◌==◌, List, length, map, Option, None, Some, if◌then◌else◌, refl, sym, ◌∙◌, arith}
use Rattle.std.specs.List.{range_with_len, suffix_len}
use Rattle.std.proofs.lemmas.List.{length-take-le}
use Rattle.std.proofs.lemmas.List.FromFn.{get_or-map-range_with_len, length-map-range_with_len}
use Rattle.std.proofs.lemmas.List.Sums.{suffix_len_is}
use Rattle.afl_base.specs.declared.ids.PageId.{PageId}
use Rattle.coffee_layout.specs.FileBytes.{IsEnd, file_byte, file_bytes, last_in, number_in, trimmed}
use Rattle.coffee_layout.proofs.Tests.{eq_false}
use Rattle.padded.proofs.Facts.{eq_true}

pub last_more : (table : List ℕ) (region n : ℕ) → 0 < n → last_in table region n ≡ (if number_in table (n - 1) == region + 1 then Some (n - 1) else last_in table region (n - 1))
unfolding last_in
last_more table region zero h = absurd (omega arith)
last_more table region (suc n) h = let e : suc n - 1 ≡ n = omega arith in rw e refl

pub last_none : (table : List ℕ) (region : ℕ) → last_in table region 0 ≡ None
unfolding last_in
last_none table region = refl

-- where the values end, and no other place
pub end_spelt : (f : ℕ → ℕ) (n end : ℕ) → IsEnd f n end → length (trimmed (map f (range_with_len 0 n))) ≡ end
end_spelt f n end e =
    let all = length-map-range_with_len f 0 n in
    let is : suffix_len (λ b. b == 0) (map f (range_with_len 0 n)) ≡ length (map f (range_with_len 0 n)) - end =
    suffix_len_is (λ b. b == 0) (map f (range_with_len 0 n)) end 0 (omega (arith, all, e.within))
    (λ k from to. let here : k < n = omega (arith, all) in eq_true _ 0 (get_or-map-range_with_len f 0 n k k 0 here (omega arith) ∙ e.zeros k from here))
    (λ some. let here : end - 1 < n = omega (arith, e.within) in eq_false _ 0 (λ z. e.last some (sym (get_or-map-range_with_len f 0 n (end - 1) (end - 1) 0 here (omega arith)) ∙ z))) in
    length-take-le _ (map f (range_with_len 0 n)) (omega arith) ∙ omega (arith, all, e.within)

-- the size of a file is the length of its bytes
pub size_is : (image : List ℕ) (page pages : ℕ) (log : Option PageId) (n : ℕ) → IsEnd (file_byte image page log) (256 * pages - 32) n → length (file_bytes image page pages log) ≡ n
unfolding file_bytes
size_is image page pages log n e = end_spelt (file_byte image page log) (256 * pages - 32) n e
