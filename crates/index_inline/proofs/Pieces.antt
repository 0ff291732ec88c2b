-- The fields of some slots that were read at once.
use Rattle.std.proofs.Common.{◌≡◌, ◌≢◌, ◌≤◌, ◌<◌, ◌+◌, ◌-◌, ◌*◌, List, length, take, drop, ℕ, ℤ, Bool, true, false, arith, refl, ap, ◌∙◌, sym, subst, ⊎_elim, inl, inr}
use Rattle.std.specs.Prelude.{slice_range}
use Rattle.std.specs.Int.{w16, w32, w64, cast_signed}
use Rattle.std.proofs.lemmas.List.{drop-drop, drop-take, take-take}
use Rattle.std.proofs.Math.Nat.{mul-add, mul-le-mul_left}
use Rattle.std.proofs.lemmas.Bool.{cases_lt}
use Rattle.afl_base.specs.Fields.{i32_at, i64_at, u16_at}
use Rattle.afl_base.specs.KeyColumn.{IsWidth, number_of_width}
use Rattle.db_model.specs.declared.schemas.Range.{Range}
use Rattle.afl_base.proofs.KeyLaws.{two_bytes, four_bytes, eight_bytes}
use Rattle.index_inline.specs.Span.{AreAround, IsSpanTo, KeysRise, passes_end}
use Rattle.index_inline.proofs.Falls.{fails_from}

-- ---- a field in a part of the file

range_in_part : (n at from size : ℕ) (bytes : List ℕ) → at + n ≤ size → slice_range (slice_range bytes from (from + size)) at (at + n) ≡ slice_range bytes (from + at) (from + at + n)
range_in_part n at from size bytes room =
    let all : from + size - from ≡ at + (size - at) = omega arith in
    let few : at + n - at ≡ n = omega arith in
    let same : from + at + n - (from + at) ≡ n = omega arith in
    rw (all, few, same)
    (ap (take n) (drop-take at (size - at) (drop from bytes)) ∙ take-take n (size - at) (drop at (drop from bytes)) (omega arith) ∙ ap (take n) (drop-drop at from bytes))

width_in_part : (w at from size : ℕ) (bytes : List ℕ) → IsWidth w → at + w ≤ size → number_of_width (slice_range bytes from (from + size)) at w ≡ number_of_width bytes (from + at) w
width_in_part w at from size bytes (inl e) room =
    let part : List ℕ = slice_range bytes from (from + size) in
    rw e (sym (two_bytes part (slice_range part at (at + 2)) at refl) ∙ two_bytes bytes (slice_range part at (at + 2)) (from + at) (range_in_part 2 at from size bytes (omega (arith, e))))
width_in_part w at from size bytes (inr (inl e)) room =
    let part : List ℕ = slice_range bytes from (from + size) in
    rw e (sym (four_bytes part (slice_range part at (at + 4)) at refl) ∙ four_bytes bytes (slice_range part at (at + 4)) (from + at) (range_in_part 4 at from size bytes (omega (arith, e))))
width_in_part w at from size bytes (inr (inr e)) room =
    let part : List ℕ = slice_range bytes from (from + size) in
    rw e (sym (eight_bytes part (slice_range part at (at + 8)) at refl) ∙ eight_bytes bytes (slice_range part at (at + 8)) (from + at) (range_in_part 8 at from size bytes (omega (arith, e))))

-- the field of one of the slots that are read from a slot on
pub field_in_piece : (bytes piece : List ℕ) (row slot at count nth width : ℕ) → IsWidth width → nth < count
    → piece ≡ slice_range bytes (row * slot + at) (row * slot + at + (row * (count - 1) + width))
    → number_of_width piece (row * nth) width ≡ number_of_width bytes (row * (slot + nth) + at) width
field_in_piece bytes piece row slot at count nth width wide below is =
    let more : row * nth ≤ row * (count - 1) = mul-le-mul_left row (omega arith) in
    let place : row * slot + at + row * nth ≡ row * (slot + nth) + at = rw (mul-add row slot nth) (omega arith) in
    rw is (width_in_part width (row * nth) (row * slot + at) (row * (count - 1) + width) bytes wide (omega (arith, more)) ∙ ap (λ (p : ℕ). number_of_width bytes p width) place)

-- the number of each width
pub number_two : (bytes : List ℕ) (at w : ℕ) → w ≡ 2 → cast_signed w16 (u16_at bytes at) ≡ number_of_width bytes at w
unfolding number_of_width u16_at
number_two bytes at w e = rw e refl

pub number_four : (bytes : List ℕ) (at w : ℕ) → w ≡ 4 → i32_at bytes at ≡ number_of_width bytes at w
unfolding number_of_width
number_four bytes at w e = rw e refl

pub number_eight : (bytes : List ℕ) (at w : ℕ) → IsWidth w → w ≢ 2 → w ≢ 4 → i64_at bytes at ≡ number_of_width bytes at w
unfolding number_of_width
number_eight bytes at w (inl e) two four = absurd (two e)
number_eight bytes at w (inr (inl e)) two four = absurd (four e)
number_eight bytes at w (inr (inr e)) two four = rw e refl

-- each field lies in the piece
pub fields_in_piece : (row width size count end : ℕ) → size ≡ row * (count - 1) + width → end ≤ count → (nth : ℕ) → nth < end → row * nth + width ≤ size
fields_in_piece row width size count end is most nth h =
    let more : row * nth ≤ row * (count - 1) = mul-le-mul_left row (omega arith) in
    omega (arith, more, is)

-- ---- a look at the keys of a piece

told : (number key : ℕ → ℤ) (test : ℤ → Bool) (low count slot : ℕ) (b : Bool) → ((nth : ℕ) → nth < count → number nth ≡ key (low + nth)) → low ≤ slot → slot < low + count → test (number (slot - low)) ≡ b → test (key slot) ≡ b
told number key test low count slot b is h k e =
    let there : low + (slot - low) ≡ slot = omega arith in
    sym (ap (λ (s : ℕ). test (key s)) there) ∙ sym (ap test (is (slot - low) (omega arith))) ∙ e

told_at : (number key : ℕ → ℤ) (test : ℤ → Bool) (low count nth : ℕ) (b : Bool) → ((nth : ℕ) → nth < count → number nth ≡ key (low + nth)) → nth < count → test (number nth) ≡ b → test (key (low + nth)) ≡ b
told_at number key test low count nth b is h e = sym (ap test (is nth h)) ∙ e

-- what a look finds
pub near_found : (within : Range) (number key : ℕ → ℤ) (slots low high behind count from to : ℕ) → KeysRise key slots → ((nth : ℕ) → nth < count → number nth ≡ key (low + nth))
    → AreAround within key slots low high behind → low ≤ high → high ≤ low + count → low + count ≤ behind
    → from ≤ high - low → from ≤ to → to ≤ count
    → ((nth : ℕ) → nth < from → passes_end false within (number nth) ≡ true)
    → (from < high - low → passes_end false within (number from) ≡ false)
    → ((nth : ℕ) → from ≤ nth → nth < to → passes_end true within (number nth) ≡ true)
    → IsSpanTo within key slots (low + from) (low + to) behind
near_found within number key slots low high behind count from to rises is around order near inner a b c passed failed inside =
    let last = around.end in
    record {
      end = last;
      below = λ slot h. ⊎_elim (λ l. around.below slot l)
          (λ l. told number key (passes_end false within) low count slot true is l (omega (arith, order, a, near)) (passed (slot - low) (omega arith))) (cases_lt slot low);
      reached = λ slot h k. ⊎_elim
          (λ l. fails_from key slots (low + from) false within rises (told_at number key (passes_end false within) low count from false is (omega (arith, order, near)) (failed l)) slot h k)
          (λ l. around.reached slot (omega (arith, order)) k) (cases_lt from (high - low));
      inside = λ slot h k. told number key (passes_end true within) low count slot true is (omega arith) (omega arith) (inside (slot - low) (omega arith) (omega arith));
      above = around.above;
    }

-- the same where the end is among them
pub end_found : (within : Range) (number key : ℕ → ℤ) (slots low count from to behind : ℕ) → KeysRise key slots → ((nth : ℕ) → nth < count → number nth ≡ key (low + nth))
    → to < count → low + count ≤ behind → passes_end true within (number to) ≡ false
    → IsSpanTo within key slots from (low + to) behind → IsSpanTo within key slots from (low + to) (low + to)
end_found within number key slots low count from to behind rises is h k failed near =
    let last = near.end in
    record {
      end = omega (arith, last);
      below = near.below;
      reached = near.reached;
      inside = near.inside;
      above = fails_from key slots (low + to) true within rises (told_at number key (passes_end true within) low count to false is h failed);
    }
