-- An image in which a record of a log is torn, and the one with zeros in its place: how they differ, and what is the same in both.
use Rattle.std.proofs.Common.{◌≡◌, inl, inr, ⊎_elim, ℕ, ◌+◌, ◌-◌, ◌*◌, ◌/◌, ◌%◌, ◌<◌, ◌≤◌, Bool, List, length, get_or, Option, Some, None, refl, ap, sym, subst, ◌∙◌, arith}
use Rattle.std.proofs.lemmas.Bool.{cases_lt}
use Rattle.afl_base.specs.Image.{page_bytes, zeros_at}
use Rattle.afl_base.proofs.Images.{length_zeros_at, range_same, zeros_at_before, zeros_at_behind, zeros_at_inside}
use Rattle.coffee_header.specs.declared.header.Header.{Header}
use Rattle.coffee_layout.specs.FileBytes.{extent_place, file_byte, last_in, place_or, record_place, table_of}
use Rattle.coffee_layout.specs.Tiling.{IsTiled, units_of}
use Rattle.coffee_layout.specs.Units.{total}
use Rattle.coffee_layout.specs.declared.file.FileAt.{FileAt}
use Rattle.coffee_layout.specs.declared.unit.Unit.TheVariants.{Extent}
use Rattle.coffee_layout.proofs.Frames.{content_stays}
use Rattle.coffee_log.proofs.LastRecords.{last_found}
use Rattle.coffee_merge.specs.Begun.{unit_begun}
use Rattle.coffee_merge.specs.CutMarks.{KeepsHead}
use Rattle.coffee_merge.specs.Holding.{Entries, HoldsTable, IsIn}
use Rattle.coffee_merge.specs.Takes.{KeepsPagesBut}
use Rattle.coffee_merge.proofs.Begun.{begun_split}
use Rattle.coffee_cuts.proofs.MarkedPages.{same_byte}
use Rattle.coffee_mend.proofs.Beside.{table_same, zeros_beside}
use Rattle.coffee_mend.specs.Joined.{IsNextIn, IsSameBut}

-- ---- HOW THEY DIFFER

pub blank_but : (image : List ℕ) (place : ℕ) → place + 128 ≤ length image → IsSameBut (zeros_at image place 128) image place
blank_but image place inside =
    let size = length_zeros_at image place 128 inside in
    record {
      inside = omega (arith, inside, size);
      size = sym size;
      others = λ k out. ⊎_elim
          (λ (l : k < place). sym (zeros_at_before image place 128 k inside l))
          (λ (l : place + 128 ≤ k). sym (zeros_at_behind image place 128 k inside l))
          out;
    }

pub turned_but : (image : List ℕ) (place : ℕ) → place + 128 ≤ length image → IsSameBut image (zeros_at image place 128) place
turned_but image place inside = record {
  inside = inside;
  size = length_zeros_at image place 128 inside;
  others = λ k out. ⊎_elim
      (λ (l : k < place). zeros_at_before image place 128 k inside l)
      (λ (l : place + 128 ≤ k). zeros_at_behind image place 128 k inside l)
      out;
}

-- the place lies behind the first records of the log, and inside it
pub next_low : (size place : ℕ) (e : FileAt) (n : IsNextIn size place e) → 256 * n.log.0 + 96 + 128 * e.used ≤ place
next_low size place e n = let at : place ≡ 256 * n.log.0 + 96 + 128 * e.used = n.next in omega (arith, at)

pub next_high : (size place : ℕ) (e : FileAt) (n : IsNextIn size place e) → place + 128 ≤ 256 * n.log.0 + 4096
next_high size place e n = let at : place ≡ 256 * n.log.0 + 96 + 128 * e.used = n.next in let free = n.free in omega (arith, at, free)

-- an image that holds the table, and differs there alone, is that with zeros
pub shown_is : (shown image : List ℕ) (place : ℕ) (table : Entries) (draft : Option FileAt) (i : ℕ) (e : FileAt) → IsSameBut shown image place → HoldsTable shown table draft → IsIn table i e → (n : IsNextIn (length image) place e) → zeros_at image place 128 ≡ shown
shown_is shown image place table draft i e but h is n =
    let at : place ≡ 256 * n.log.0 + 96 + 128 * e.used = n.next in
    let free = n.free in
    let log_is = (h.stored i e is).file.logged n.log n.logged in
    zeros_beside shown image place but (λ k from to. log_is.clear k (omega (arith, at, from)) (omega (arith, at, free, to)))

-- ---- WHAT STAYS IN BOTH

module _ (old new : List ℕ) (place : ℕ) (long : length new ≡ length old) (inside : place + 128 ≤ length old) where
  inside_new : place + 128 ≤ length new
  inside_new = omega (arith, inside, long)

  pub long_hidden : length (zeros_at new place 128) ≡ length (zeros_at old place 128)
  long_hidden = length_zeros_at new place 128 inside_new ∙ long ∙ sym (length_zeros_at old place 128 inside)

  pub byte_hidden : (k : ℕ) → get_or new k 0 ≡ get_or old k 0 → get_or (zeros_at new place 128) k 0 ≡ get_or (zeros_at old place 128) k 0
  byte_hidden k same = ⊎_elim
      (λ (l : k < place). zeros_at_before new place 128 k inside_new l ∙ same ∙ sym (zeros_at_before old place 128 k inside l))
      (λ (l : place ≤ k). ⊎_elim
      (λ (m : k < place + 128). zeros_at_inside new place 128 k inside_new l m ∙ sym (zeros_at_inside old place 128 k inside l m))
      (λ (m : place + 128 ≤ k). zeros_at_behind new place 128 k inside_new m ∙ same ∙ sym (zeros_at_behind old place 128 k inside m))
      (cases_lt k (place + 128)))
      (cases_lt k place)

  pub page_hidden : (p : ℕ) → page_bytes new p ≡ page_bytes old p → page_bytes (zeros_at new place 128) p ≡ page_bytes (zeros_at old place 128) p
  page_hidden p same = range_same (zeros_at new place 128) (zeros_at old place 128) (256 * p) (256 * p + 256) long_hidden (λ k from to.
      let back : 256 * p + (k - 256 * p) ≡ k = omega (arith, from) in
      byte_hidden k (ap (λ j. get_or new j 0) (sym back) ∙ same_byte new old p (k - 256 * p) same (omega (arith, from, to)) ∙ ap (λ j. get_or old j 0) back))

  pub pages_hidden : (page pages : ℕ) → KeepsPagesBut old new page pages None → KeepsPagesBut (zeros_at old place 128) (zeros_at new place 128) page pages None
  pages_hidden page pages keeps = λ p out apart. page_hidden p (keeps p out apart)

  pub head_hidden : (page : ℕ) → KeepsHead old new page → KeepsHead (zeros_at old place 128) (zeros_at new place 128) page
  head_hidden page keeps = λ k few. byte_hidden (256 * page + k) (keeps k few)

-- units that tile an image tile one that differs in a log alone
pub tiled_like : (building : ℕ → Bool) (a b : List ℕ) (place log : ℕ) (h : Header) → IsSameBut a b place → 256 * log + 96 ≤ place → place + 128 ≤ 256 * log + 4096 → h.max_pages ≡ 16
    → unit_begun (units_of a) 0 log ≡ Some (Extent h) → IsTiled building a (units_of a) → IsTiled building b (units_of a)
tiled_like building a b place log h but low high sixteen begun tiled =
    let s = begun_split (units_of a) log (Extent h) begun in
    let at = s.place in
    subst (IsTiled building b) (sym s.whole)
    (content_stays building a b s.front s.rest h (subst (IsTiled building a) s.whole tiled) but.size
    (λ k out. but.others k (⊎_elim
    (λ (l : k < 256 * total s.front + 32). inl (omega (arith, l, at, low)))
    (λ (l : 256 * (total s.front + h.max_pages) ≤ k). inr (omega (arith, l, at, high, sixteen)))
    out)))

-- ---- THE FILE'S BYTES

module _ (image : List ℕ) (place : ℕ) (table : Entries) (draft : Option FileAt) (i : ℕ) (e : FileAt) (h : HoldsTable (zeros_at image place 128) table draft) (is : IsIn table i e) (n : IsNextIn (length image) place e) where
  abbrev shown : List ℕ
  shown = zeros_at image place 128

  but : IsSameBut shown image place
  but = blank_but image place n.inside

  log_table : table_of image n.log.0 ≡ table_of shown n.log.0
  log_table = table_same image n.log.0 place n.inside (let low = next_low (length image) place e n in omega (arith, low))

  in_extent : (k : ℕ) → 256 * e.page.0 ≤ k → k < 256 * (e.page.0 + e.pages) → get_or image k 0 ≡ get_or shown k 0
  in_extent k from to =
      let low = next_low (length image) place e n in
      let high = next_high (length image) place e n in
      let stored = (h.stored i e is).file in
      but.others k (⊎_elim
      (λ (l : k < place). inl l)
      (λ (l : place ≤ k). ⊎_elim
      (λ (m : k < place + 128). absurd (stored.apart n.log n.logged (k / 256) (omega (arith, from)) (omega (arith, to)) (omega (arith, l, low)) (omega (arith, m, high))))
      (λ (m : place + 128 ≤ k). inr m)
      (cases_lt k (place + 128)))
      (cases_lt k place))

  by_record : (p : ℕ) → p + 32 < 256 * e.pages → (o : Option ℕ) → last_in (table_of shown n.log.0) (p / 128) 30 ≡ o
      → get_or image (place_or (extent_place e.page.0 (128 * (p / 128))) n.log.0 o + p % 128) 0 ≡ get_or shown (place_or (extent_place e.page.0 (128 * (p / 128))) n.log.0 o + p % 128) 0
  by_record p within None found = in_extent (extent_place e.page.0 (128 * (p / 128)) + p % 128) (omega arith) (omega (arith, within))
  by_record p within (Some j) found =
      let f = last_found (table_of shown n.log.0) (p / 128) 30 j found in
      let few = f.0 in
      let number = f.1 in
      let log_is = (h.stored i e is).file.logged n.log n.logged in
      let low = next_low (length image) place e n in
      but.others (record_place n.log.0 j + p % 128) (⊎_elim
      (λ (used : j < e.used). inl (omega (arith, used, low)))
      (λ (free : e.used ≤ j). let none = log_is.free_are j free few in absurd (omega (arith, none, number)))
      (cases_lt j e.used))

  -- a torn record is none of the file's
  pub byte_same : (p : ℕ) → p + 32 < 256 * e.pages → file_byte image e.page.0 e.log p ≡ file_byte shown e.page.0 e.log p
  byte_same p within =
      ap (λ o. file_byte image e.page.0 o p) n.logged
      ∙ ap (λ xs. get_or image (place_or (extent_place e.page.0 (128 * (p / 128))) n.log.0 (last_in xs (p / 128) 30) + p % 128) 0) log_table
      ∙ by_record p within (last_in (table_of shown n.log.0) (p / 128) 30) refl
      ∙ sym (ap (λ o. file_byte shown e.page.0 o p) n.logged)
