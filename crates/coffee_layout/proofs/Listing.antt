-- Listing the active files of an image while walking over its units.
use Rattle.std.proofs.Common.{◌≡◌, ℕ, zero, suc, ◌+◌, ◌≤◌, ◌<◌, Bool, true, false, cond, List, [], ◌∷◌, ◌++◌, length, take, drop, map, Option, Some, None, refl, ap, sym, subst, ◌∙◌, arith, append_assoc}
use Rattle.std.specs.List.{filter}
use Rattle.std.specs.Option.{option_map, option_or}
use Rattle.std.proofs.lemmas.List.{append-nil, length-map, length-take, length-append, map-append, take-append-le, drop-append-le, take_all, drop_all}
use Rattle.afl_base.specs.declared.ids.PageId.{PageId}
use Rattle.coffee_layout.specs.Files.{Placed, entry_with, extents, files_in, is_file}
use Rattle.coffee_layout.specs.Rules.{first_page}
use Rattle.coffee_layout.specs.Tiling.{broken_at, broken_from, broken_tiling, units_from, units_of}
use Rattle.coffee_layout.specs.Units.{is_free, pages_of, size_of, unit_at}
use Rattle.coffee_layout.specs.Walks.{IsSketched, files_of_unit, page_id}
use Rattle.coffee_layout.specs.declared.unit.Unit.{Unit}
use Rattle.coffee_layout.specs.declared.unit.Unit.TheVariants.{Free, Isolated, Extent}
use Rattle.coffee_layout.specs.declared.file.FileAt.{FileAt}
use Rattle.coffee_layout.proofs.Tilings.{units_step, units_end, broken_here}
use Rattle.padded.proofs.Facts.{lt_false}

sketch : Placed → FileAt
sketch f = entry_with f 0 0

first_page_push : (fs : List Placed) (f : Placed) → first_page (fs ++ f ∷ []) ≡ option_or (first_page fs) (Some f.page)
first_page_push [] f = refl
first_page_push (g ∷ fs) f = refl

map_or : (o : Option ℕ) (page : ℕ) → option_map page_id (option_or o (Some page)) ≡ option_or (option_map page_id o) (Some (page_id page))
map_or None page = refl
map_or (Some p) page = refl

-- as many entries as files, up to 32
pub sketched_length : (entries : List FileAt) (extra : Option PageId) (files : List Placed) → IsSketched entries extra files → (32 ≤ length entries → 32 ≤ length files) × (length entries < 32 → length files < 32)
sketched_length entries extra files s =
    let e = ap length s.first ∙ length-map (take 32 files) (λ f. entry_with f 0 0) ∙ length-take 32 files in
    (λ h. omega arith, λ h. omega arith)

-- a further file behind 32
pub sketched_full : (entries : List FileAt) (extra : Option PageId) (files : List Placed) (f : Placed) → 32 ≤ length entries → IsSketched entries extra files → IsSketched entries (option_or extra (Some (page_id f.page))) (files ++ f ∷ [])
sketched_full entries extra files f full s =
    let many = (sketched_length entries extra files s).0 full in
    record {
      first = s.first ∙ ap (λ t. map (λ g. entry_with g 0 0) t) (sym (take-append-le 32 files (f ∷ []) many));
      more = sym (ap (λ t. option_map page_id (first_page t)) (drop-append-le 32 files (f ∷ []) many)
          ∙ ap (option_map page_id) (first_page_push (drop 32 files) f)
          ∙ map_or (first_page (drop 32 files)) f.page
          ∙ ap (λ o. option_or o (Some (page_id f.page))) (sym s.more));
    }

-- a further file behind fewer
pub sketched_more : (entries : List FileAt) (extra : Option PageId) (files : List Placed) (f : Placed) → length entries < 32 → IsSketched entries extra files → IsSketched (entries ++ entry_with f 0 0 ∷ []) extra (files ++ f ∷ [])
sketched_more entries extra files f room s =
    let few = (sketched_length entries extra files s).1 room in
    let all : take 32 (files ++ f ∷ []) ≡ files ++ f ∷ [] = take_all 32 (files ++ f ∷ []) (omega (arith, length-append files (f ∷ []))) in
    let none : drop 32 (files ++ f ∷ []) ≡ [] = drop_all 32 (files ++ f ∷ []) (omega (arith, length-append files (f ∷ []))) in
    record {
      first = rw all (rw (map-append (λ g. entry_with g 0 0) files (f ∷ [])) (ap (λ t. t ++ entry_with f 0 0 ∷ []) (s.first ∙ ap (map (λ g. entry_with g 0 0)) (take_all 32 files (omega arith)))));
      more = rw none (s.more ∙ ap (λ t. option_map page_id (first_page t)) (drop_all 32 files (omega arith)));
    }

file_step : (t : Bool) (e : Placed) (es : List Placed) → cond t (e ∷ es) es ≡ cond t (e ∷ []) [] ++ es
file_step true e es = refl
file_step false e es = refl

-- the files from a page on: that of the unit there, and those behind it
pub files_step : (page : ℕ) (u : Unit) (us : List Unit) → filter is_file (extents page (u ∷ us)) ≡ files_of_unit page u ++ filter is_file (extents (page + size_of u) us)
files_step page Free us = refl
files_step page Isolated us = refl
files_step page (Extent h) us = file_step (is_file (record { page = page; header = h })) (record { page = page; header = h }) (filter is_file (extents (page + h.max_pages) us))

-- how far the judge came: the units from this page on are still to come
pub record Judged (image : List ℕ) (page : ℕ) (after_free : Bool) (entries : List FileAt) (extra : Option PageId) : Type 0 where
  pub turns : ℕ
  pub enough : pages_of image ≤ page + turns
  pub found : List Placed
  pub bad : broken_tiling (λ p. false) image ≡ broken_from (λ p. false) image page after_free (units_from turns image page)
  pub files : files_in (units_of image) ≡ found ++ filter is_file (extents page (units_from turns image page))
  pub listed : IsSketched entries extra found

pub judged_start : (image : List ℕ) → Judged image 0 false [] None
unfolding units_of
judged_start image = record {
  turns = pages_of image;
  enough = omega arith;
  found = [];
  bad = refl;
  files = refl;
  listed = record { first = refl; more = refl };
}

judged_turn : (image : List ℕ) (page : ℕ) (after_free : Bool) (entries new : List FileAt) (extra more : Option PageId) (u : Unit)
    → page < pages_of image → unit_at image page ≡ Some u → broken_at (λ p. false) image page after_free ≡ None → 1 ≤ size_of u
    → ((files : List Placed) → IsSketched entries extra files → IsSketched new more (files ++ files_of_unit page u))
    → (turns : ℕ) → pages_of image ≤ page + turns → (found : List Placed)
    → broken_tiling (λ p. false) image ≡ broken_from (λ p. false) image page after_free (units_from turns image page)
    → files_in (units_of image) ≡ found ++ filter is_file (extents page (units_from turns image page))
    → IsSketched entries extra found → Judged image (page + size_of u) (is_free u) new more
judged_turn image page after_free entries new extra more u before is kept some lists zero enough found bad files listed = absurd (omega arith)
judged_turn image page after_free entries new extra more u before is kept some lists (suc turns) enough found bad files listed =
    let step = units_step turns image page u before is in
    record {
      turns = turns;
      enough = omega arith;
      found = found ++ files_of_unit page u;
      bad = bad ∙ ap (broken_from (λ p. false) image page after_free) step ∙ (rw kept refl);
      files = files ∙ ap (λ us. found ++ filter is_file (extents page us)) step
          ∙ ap (λ t. found ++ t) (files_step page u (units_from turns image (page + size_of u)))
          ∙ sym (append_assoc found (files_of_unit page u) (filter is_file (extents (page + size_of u) (units_from turns image (page + size_of u)))));
      listed = lists found listed;
    }

pub judged_step : (image : List ℕ) (page : ℕ) (after_free : Bool) (entries new : List FileAt) (extra more : Option PageId) (u : Unit)
    → page < pages_of image → unit_at image page ≡ Some u → broken_at (λ p. false) image page after_free ≡ None → 1 ≤ size_of u
    → ((files : List Placed) → IsSketched entries extra files → IsSketched new more (files ++ files_of_unit page u))
    → Judged image page after_free entries extra → Judged image (page + size_of u) (is_free u) new more
judged_step image page after_free entries new extra more u before is kept some lists j =
    judged_turn image page after_free entries new extra more u before is kept some lists j.turns j.enough j.found j.bad j.files j.listed

-- a rule that is broken at the page is the first
pub judged_bad : (image : List ℕ) (page : ℕ) (after_free : Bool) (entries : List FileAt) (extra : Option PageId) (rule : ℕ)
    → page < pages_of image → broken_at (λ p. false) image page after_free ≡ Some rule → Judged image page after_free entries extra
    → broken_tiling (λ p. false) image ≡ Some (record { rule = rule; place = page })
judged_bad image page after_free entries extra rule before broken j =
    j.bad ∙ broken_here (λ p. false) image page after_free (units_from j.turns image page) rule before broken

pub judged_end : (image : List ℕ) (page : ℕ) (after_free : Bool) (entries : List FileAt) (extra : Option PageId)
    → pages_of image ≤ page → Judged image page after_free entries extra → (broken_tiling (λ p. false) image ≡ None) × IsSketched entries extra (files_in (units_of image))
judged_end image page after_free entries extra behind j =
    let none = units_end j.turns image page behind in (
      j.bad ∙ ap (broken_from (λ p. false) image page after_free) none ∙ (rw (lt_false page (pages_of image) behind) refl),
      subst (λ fs. IsSketched entries extra fs) (sym (j.files ∙ ap (λ us. j.found ++ filter is_file (extents page us)) none ∙ append-nil j.found)) j.listed,
    )
