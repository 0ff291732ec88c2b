-- Which slots the pairs of a tree name, from bucket to bucket.
use Rattle.std.proofs.Common.{◌≡◌, ◌⊎◌, inl, inr, ⊎_elim, ℕ, ◌+◌, ◌-◌, ◌*◌, ◌/◌, ◌%◌, ◌<◌, ◌≤◌, List, length, drop, take, refl, ap, sym, subst, ◌∙◌, arith}
use Rattle.std.specs.Prelude.{slice_range}
use Rattle.std.proofs.lemmas.Bool.{cases_lt}
use Rattle.std.proofs.lemmas.List.{length-drop, length-take-le}
use Rattle.afl_base.specs.Fields.{u16_at}
use Rattle.db_model.proofs.Decoded.{number_front}
use Rattle.index_tree.specs.TreeFile.{NamesOnly, bucket_place, slot_at}
use Rattle.tuple_file.proofs.Slots.{slot_field}
use Rattle.stored_survey.specs.Pieces.{NamesWithin}

-- the same of the buckets that begin before a place
abbrev pub AreNamedBelow : ℕ → List ℕ → ℕ → Type 0
AreNamedBelow slots bytes at = (bucket pair : ℕ) → pair < 32 → bucket_place bucket < at → bucket_place bucket + 6 * pair + 6 ≤ length bytes → slot_at bytes (bucket_place bucket) pair ≤ slots

pair_number : (bytes : List ℕ) (at n p : ℕ) → p + 2 ≤ n → u16_at (slice_range bytes at (at + n)) p ≡ u16_at bytes (at + p)
unfolding u16_at
pair_number bytes at n p inside = number_front 2 (drop p (slice_range bytes at (at + n))) (drop (at + p) bytes) (slot_field bytes at n p 2 inside)

-- the pairs in the bytes of a bucket are its pairs
module _ (bytes : List ℕ) (slots bucket n : ℕ) (few : n ≤ 192) (inside : bucket_place bucket + n ≤ length bytes) (all : (n ≡ 192) ⊎ (bucket_place bucket + n ≡ length bytes)) where
  abbrev part : List ℕ
  part = slice_range bytes (bucket_place bucket) (bucket_place bucket + n)

  here : (pair : ℕ) → 6 * pair + 6 ≤ n → u16_at part (6 * pair + 4) ≡ slot_at bytes (bucket_place bucket) pair
  here pair fits =
      let same : bucket_place bucket + (6 * pair + 4) ≡ bucket_place bucket + 6 * pair + 4 = omega arith in
      pair_number bytes (bucket_place bucket) n (6 * pair + 4) (omega (arith, fits)) ∙ ap (u16_at bytes) same

  pub named_more : length part ≡ n → NamesWithin slots part → (pair : ℕ) → pair < 32 → bucket_place bucket + 6 * pair + 6 ≤ length bytes → slot_at bytes (bucket_place bucket) pair ≤ slots
  named_more size within pair less fits =
      let room : 6 * pair + 6 ≤ n = ⊎_elim (λ (e : n ≡ 192). omega (arith, e, less)) (λ (e : bucket_place bucket + n ≡ length bytes). omega (arith, e, fits)) all in
      subst (λ (m : ℕ). m ≤ slots) (here pair room) (within pair (omega (arith, size, room)))

  pub named_here : length part ≡ n → NamesOnly slots bytes → NamesWithin slots part
  named_here size only pair fits =
      let room : 6 * pair + 6 ≤ n = omega (arith, size, fits) in
      subst (λ (m : ℕ). m ≤ slots) (sym (here pair room)) (only bucket pair (omega (arith, room, few)) (omega (arith, room, inside)))

-- a bucket more
pub named_next : (slots : ℕ) (bytes : List ℕ) (bucket at next : ℕ) → at ≡ bucket_place bucket → next ≤ at + 195 → AreNamedBelow slots bytes at
    → ((pair : ℕ) → pair < 32 → bucket_place bucket + 6 * pair + 6 ≤ length bytes → slot_at bytes (bucket_place bucket) pair ≤ slots) → AreNamedBelow slots bytes next
named_next slots bytes bucket at next is far before here other pair less below fits = ⊎_elim
    (λ (early : bucket_place other < at). before other pair less early fits)
    (λ (late : at ≤ bucket_place other).
    let same : bucket ≡ other = omega (arith, is, far, below, late) in
    subst (λ (b : ℕ). slot_at bytes (bucket_place b) pair ≤ slots) same (here pair less (omega (arith, same, fits))))
    (cases_lt (bucket_place other) at)

pub named_all : (slots : ℕ) (bytes : List ℕ) (at : ℕ) → length bytes ≤ at → AreNamedBelow slots bytes at → NamesOnly slots bytes
named_all slots bytes at all below bucket pair less fits = below bucket pair less (omega (arith, all, fits)) fits

pub named_none : (slots : ℕ) (bytes : List ℕ) → AreNamedBelow slots bytes 683
named_none slots bytes bucket pair less below fits = absurd (omega (arith, below))

-- ---- by the place of a bucket

-- the pairs of a bucket are read, or all bytes that are left
pub part_all : (at n left size : ℕ) → at < size → left ≡ size - at → (n ≡ 192) ⊎ (n ≡ left) → (n ≡ 192) ⊎ (at + n ≡ size)
part_all at n left size less is (inl e) = inl e
part_all at n left size less is (inr e) = inr (omega (arith, less, is, e))

-- the next bucket, or the end
pub next_place : (at step left size : ℕ) → 683 ≤ at → (at - 683) % 195 ≡ 0 → at < size → left ≡ size - at → (step ≡ 195) ⊎ (step ≡ left) → at + step < size → (at + step - 683) % 195 ≡ 0
next_place at step left size from whole less is (inl e) more = omega (arith, from, whole, e)
next_place at step left size from whole less is (inr e) more = absurd (omega (arith, less, is, e, more))

module _ (bytes : List ℕ) (slots at n : ℕ) (from : 683 ≤ at) (whole : (at - 683) % 195 ≡ 0) (few : n ≤ 192) (inside : at + n ≤ length bytes) (all : (n ≡ 192) ⊎ (at + n ≡ length bytes)) where
  abbrev bucket_at : ℕ
  bucket_at = (at - 683) / 195

  place_is : at ≡ bucket_place bucket_at
  place_is = omega (arith, from, whole)

  part_size : length (slice_range bytes at (at + n)) ≡ n
  part_size =
      let left = length-drop at bytes in
      let width : at + n - at ≡ n = omega arith in
      ap (λ (m : ℕ). length (take m (drop at bytes))) width ∙ length-take-le n (drop at bytes) (omega (arith, left, inside))

  by_place : (P : ℕ → Type 0) → P (bucket_place bucket_at) → P at
  by_place P p = subst P (sym place_is) p

  all_there : (n ≡ 192) ⊎ (bucket_place bucket_at + n ≡ length bytes)
  all_there = subst (λ (p : ℕ). (n ≡ 192) ⊎ (p + n ≡ length bytes)) place_is all

  pub bucket_only : NamesOnly slots bytes → NamesWithin slots (slice_range bytes at (at + n))
  bucket_only only =
      by_place (λ (p : ℕ). NamesWithin slots (slice_range bytes p (p + n)))
      (named_here bytes slots bucket_at n few (omega (arith, place_is, inside)) all_there (subst (λ (p : ℕ). length (slice_range bytes p (p + n)) ≡ n) place_is part_size) only)

  pub bucket_next : (next : ℕ) → next ≤ at + 195 → AreNamedBelow slots bytes at → NamesWithin slots (slice_range bytes at (at + n)) → AreNamedBelow slots bytes next
  bucket_next next far before within =
      named_next slots bytes bucket_at at next place_is far before
      (named_more bytes slots bucket_at n few (omega (arith, place_is, inside)) all_there (subst (λ (p : ℕ). length (slice_range bytes p (p + n)) ≡ n) place_is part_size)
      (subst (λ (p : ℕ). NamesWithin slots (slice_range bytes p (p + n))) place_is within))
