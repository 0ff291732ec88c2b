-- A change of a file leaves the units of the image, and the bytes of other files.
use Rattle.std.proofs.Common.{◌≡◌, ◌⊎◌, inl, inr, ℕ, ◌+◌, ◌-◌, ◌*◌, ◌/◌, ◌≤◌, ◌<◌, Bool, List, ◌∷◌, ◌++◌, length, get_or, slice_range, Option, None, Some, refl, ap, sym, subst, ◌∙◌, arith, ⊎_elim}
use Rattle.std.proofs.lemmas.Bool.{cases_lt}
use Rattle.afl_base.specs.Fields.{put_at}
use Rattle.afl_base.specs.declared.ids.PageId.{PageId}
use Rattle.afl_base.proofs.FieldLaws.{length-put_at}
use Rattle.afl_base.proofs.Images.{length_range, range_at}
use Rattle.flash_range.specs.Range.{Outside}
use Rattle.coffee_header.specs.declared.header.Header.{Header}
use Rattle.coffee_layout.specs.Tiling.{IsTiled}
use Rattle.coffee_layout.specs.Units.{total}
use Rattle.coffee_layout.specs.declared.unit.Unit.{Unit}
use Rattle.coffee_layout.specs.declared.unit.Unit.TheVariants.{Extent}
use Rattle.coffee_layout.proofs.Frames.{KeepsFile, content_stays}
use Rattle.coffee_log.specs.FileChanges.{Apart, OutsideFile}
use Rattle.coffee_log.proofs.ContentLaws.{put_at_outside}
use Rattle.afl_base.proofs.PutLaws.{put_at_here}

-- an extent is a unit of a list, at a page
pub record StandsAt (us : List Unit) (page pages : ℕ) : Type 0 where
  pub front : List Unit
  pub rest : List Unit
  pub header : Header
  pub whole : us ≡ front ++ (Extent header ∷ rest)
  pub place : total front ≡ page
  pub size : header.max_pages ≡ pages

-- bytes of one extent that lie behind its header change, and nothing else
one_stays : (building : ℕ → Bool) (old new : List ℕ) (us : List Unit) (page pages : ℕ) → StandsAt us page pages → IsTiled building old us → length new ≡ length old
    → ((k : ℕ) → k < 256 * page + 32 ⊎ 256 * (page + pages) ≤ k → get_or new k 0 ≡ get_or old k 0) → IsTiled building new us
one_stays building old new us page pages s tiled long same =
    let place = s.place in
    let size = s.size in
    subst (λ vs. IsTiled building new vs) (sym s.whole)
    (content_stays building old new s.front s.rest s.header (subst (λ vs. IsTiled building old vs) s.whole tiled) long
    (λ k out. same k (⊎_elim (λ (a : k < 256 * total s.front + 32). inl (omega arith)) (λ (a : 256 * (total s.front + s.header.max_pages) ≤ k). inr (omega arith)) out)))

-- the image whose extent at a page has the content that it has in another
half : (old new : List ℕ) (page pages : ℕ) → List ℕ
half old new page pages = put_at old (256 * page + 32) (slice_range new (256 * page + 32) (256 * (page + pages)))

two_stay : (building : ℕ → Bool) (old new : List ℕ) (us : List Unit) (page pages l : ℕ) → StandsAt us page pages → StandsAt us l 16 → IsTiled building old us → length new ≡ length old → 1 ≤ pages → 256 * (page + pages) ≤ length old
    → ((k : ℕ) → Outside (256 * page + 32) (256 * pages - 32) k → Outside (256 * l + 32) 4064 k → get_or new k 0 ≡ get_or old k 0) → IsTiled building new us
unfolding half
two_stay building old new us page pages l extent log tiled long some fits same =
    let content : length (slice_range new (256 * page + 32) (256 * (page + pages))) ≡ 256 * (page + pages) - (256 * page + 32) = length_range new (256 * page + 32) (256 * (page + pages)) (omega arith) in
    let inside : 256 * page + 32 + length (slice_range new (256 * page + 32) (256 * (page + pages))) ≤ length old = omega arith in
    let size : length (half old new page pages) ≡ length old = length-put_at old (slice_range new (256 * page + 32) (256 * (page + pages))) (256 * page + 32) inside in
    let first : IsTiled building (half old new page pages) us =
    one_stays building old (half old new page pages) us page pages extent tiled size
    (λ k out. put_at_outside old (slice_range new (256 * page + 32) (256 * (page + pages))) (256 * page + 32) k inside (λ x y. ⊎_elim (λ (a : k < 256 * page + 32). absurd (omega arith)) (λ (a : 256 * (page + pages) ≤ k). absurd (omega arith)) out)) in
    one_stays building (half old new page pages) new us l 16 log first (long ∙ sym size)
    (λ k out.
    let other : Outside (256 * l + 32) 4064 k = λ x y. ⊎_elim (λ (a : k < 256 * l + 32). absurd (omega arith)) (λ (a : 256 * (l + 16) ≤ k). absurd (omega arith)) out in
    ⊎_elim
    (λ (a : k < 256 * page + 32). same k (λ x y. omega arith) other ∙ sym (put_at_outside old (slice_range new (256 * page + 32) (256 * (page + pages))) (256 * page + 32) k inside (λ x y. omega arith)))
    (λ (a : 256 * page + 32 ≤ k). ⊎_elim
    (λ (b : k < 256 * (page + pages)).
    let back : 256 * page + 32 + (k - (256 * page + 32)) ≡ k = omega arith in
    ap (λ j. get_or new j 0) (sym back)
    ∙ sym (range_at new (256 * page + 32) (256 * (page + pages)) (k - (256 * page + 32)) (omega arith))
    ∙ sym (put_at_here old (slice_range new (256 * page + 32) (256 * (page + pages))) (256 * page + 32) (k - (256 * page + 32)) inside (omega arith))
    ∙ ap (λ j. get_or (half old new page pages) j 0) back)
    (λ (b : 256 * (page + pages) ≤ k). same k (λ x y. omega arith) other ∙ sym (put_at_outside old (slice_range new (256 * page + 32) (256 * (page + pages))) (256 * page + 32) k inside (λ x y. omega arith)))
    (cases_lt k (256 * (page + pages))))
    (cases_lt k (256 * page + 32)))

-- the units of an image are those that they were, where only content of a file changes
pub units_stay : (building : ℕ → Bool) (old new : List ℕ) (us : List Unit) (page pages : ℕ) (log : Option PageId) → StandsAt us page pages → ((l : PageId) → log ≡ Some l → StandsAt us l.0 16) → IsTiled building old us → length new ≡ length old → 1 ≤ pages
    → 256 * (page + pages) ≤ length old → ((k : ℕ) → OutsideFile page pages log k → get_or new k 0 ≡ get_or old k 0) → IsTiled building new us
units_stay building old new us page pages None extent logged tiled long some fits same =
    one_stays building old new us page pages extent tiled long
    (λ k out. same k (record {
      extent = λ x y. ⊎_elim (λ (a : k < 256 * page + 32). absurd (omega arith)) (λ (a : 256 * (page + pages) ≤ k). absurd (omega arith)) out;
      logged = λ l e. cc;
    }))
units_stay building old new us page pages (Some l) extent logged tiled long some fits same =
    two_stay building old new us page pages l.0 extent (logged l refl) tiled long some fits
    (λ k a b. same k (record { extent = a; logged = λ m e. let s : l ≡ m = cc in subst (λ x. Outside (256 * x.0 + 32) 4064 k) s b }))

-- extents and logs of two files have no page in common
pub record FilesApart (page pages : ℕ) (log : Option PageId) (other others : ℕ) (second : Option PageId) : Type 0 where
  pub extents : (p : ℕ) → page ≤ p → p < page + pages → other ≤ p → p < other + others → ⊥
  pub first : (l : PageId) → log ≡ Some l → Apart other others l.0
  pub behind : (l : PageId) → second ≡ Some l → Apart page pages l.0
  pub logs : (l m : PageId) → log ≡ Some l → second ≡ Some m → Apart m.0 16 l.0

-- another file keeps its bytes
pub other_kept : (old new : List ℕ) (page pages : ℕ) (log : Option PageId) (other others : ℕ) (second : Option PageId) → FilesApart page pages log other others second
    → ((k : ℕ) → OutsideFile page pages log k → get_or new k 0 ≡ get_or old k 0) → KeepsFile old new other others second
other_kept old new page pages log other others second apart same = record {
  extent = λ k from to. same k (record {
    extent = λ x y. apart.extents (k / 256) (omega arith) (omega arith) (omega arith) (omega arith);
    logged = λ l e x y. apart.first l e (k / 256) (omega arith) (omega arith) (omega arith) (omega arith);
  });
  logged = λ m is k from to. same k (record {
    extent = λ x y. apart.behind m is (k / 256) (omega arith) (omega arith) (omega arith) (omega arith);
    logged = λ l e x y. apart.logs l m e is (k / 256) (omega arith) (omega arith) (omega arith) (omega arith);
  });
}
