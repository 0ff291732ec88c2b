-- Files keep their content where all bytes behind the headers of their extents and logs stay, and a
-- table is held by an image with the same active extents whose files are stored.
use Rattle.std.proofs.Common.{◌≡◌, ℕ, ◌+◌, ◌-◌, ◌*◌, ◌/◌, ◌%◌, ◌≤◌, ◌<◌, List, length, get_or, Option, Some, None, refl, ap, sym, subst, ◌∙◌, arith}
use Rattle.afl_base.specs.declared.ids.PageId.{PageId}
use Rattle.afl_base.proofs.Images.{range_same}
use Rattle.coffee_layout.specs.FileBytes.{extent_place, file_byte, last_in, number_in, place_or, record_place, table_of}
use Rattle.coffee_layout.specs.Files.{FitsIn}
use Rattle.coffee_layout.specs.Tiling.{IsTiled, broken_tiling, units_of}
use Rattle.coffee_layout.specs.Units.{pages_of}
use Rattle.coffee_layout.specs.declared.file.FileAt.{FileAt}
use Rattle.coffee_layout.proofs.Frames.{KeepsFile, last_bound}
use Rattle.coffee_layout.proofs.Tilings.{units_tiled, unbroken_tiled}
use Rattle.coffee_log.specs.FileChanges.{IsFile}
use Rattle.coffee_log.specs.Logs.{IsLog}
use Rattle.coffee_merge.specs.Begun.{active_at}
use Rattle.coffee_merge.specs.Holding.{Entries, HoldsTable, IsDrafted, IsIn, IsStored, KeepsContents, KeepsContent, building_of}

-- all bytes behind the headers of an extent and its log stay
pub record KeepsBody (old new : List ℕ) (page pages : ℕ) (log : Option PageId) : Type 0 where
  pub extent : (k : ℕ) → 256 * page + 32 ≤ k → k < 256 * (page + pages) → get_or new k 0 ≡ get_or old k 0
  pub logged : (l : PageId) → log ≡ Some l → (k : ℕ) → 256 * l.0 + 32 ≤ k → k < 256 * l.0 + 4096 → get_or new k 0 ≡ get_or old k 0

pub body_kept : (old new : List ℕ) (page pages : ℕ) (log : Option PageId) → KeepsFile old new page pages log → KeepsBody old new page pages log
body_kept old new page pages log keeps = record {
  extent = λ k from to. keeps.extent k (omega arith) to;
  logged = λ l is k from to. keeps.logged l is k (omega arith) to;
}

-- LOGS

pub table_kept : (old new : List ℕ) (page pages : ℕ) (log : Option PageId) (l : PageId) → length new ≡ length old → KeepsBody old new page pages log → log ≡ Some l → table_of new l.0 ≡ table_of old l.0
table_kept old new page pages log l long keeps is = range_same new old (256 * l.0 + 32) (256 * l.0 + 92) long (λ k a b. keeps.logged l is k a (omega arith))

log_kept : (old new : List ℕ) (page pages : ℕ) (log : Option PageId) (l : PageId) (used : ℕ) → length new ≡ length old → KeepsBody old new page pages log → log ≡ Some l → IsLog old l.0 used → IsLog new l.0 used
log_kept old new page pages log l used long keeps is log_is =
    let table = table_kept old new page pages log l long keeps is in
    record {
      few = log_is.few;
      used_are = λ i low none. log_is.used_are i low (sym (ap (λ t. number_in t i) table) ∙ none);
      free_are = λ i from to. ap (λ t. number_in t i) table ∙ log_is.free_are i from to;
      gap = λ k from to. keeps.logged l is k (omega arith) (omega arith) ∙ log_is.gap k from to;
      clear = λ k from to. keeps.logged l is k (omega arith) to ∙ log_is.clear k from to;
    }

-- BYTES

-- the place of a region lies behind a header
place_kept : (old new : List ℕ) (page pages : ℕ) (l : PageId) (p : ℕ) (o : Option ℕ) → KeepsBody old new page pages (Some l) → p + 32 < 256 * pages → ((i : ℕ) → o ≡ Some i → i < 30)
    → get_or new (place_or (extent_place page (128 * (p / 128))) l.0 o + p % 128) 0 ≡ get_or old (place_or (extent_place page (128 * (p / 128))) l.0 o + p % 128) 0
place_kept old new page pages l p None keeps within few = keeps.extent (extent_place page (128 * (p / 128)) + p % 128) (omega arith) (omega arith)
place_kept old new page pages l p (Some i) keeps within few = let b = few i refl in keeps.logged l refl (record_place l.0 i + p % 128) (omega arith) (omega arith)

pub body_byte : (old new : List ℕ) (page pages : ℕ) (log : Option PageId) (p : ℕ) → length new ≡ length old → KeepsBody old new page pages log → p + 32 < 256 * pages → file_byte new page log p ≡ file_byte old page log p
body_byte old new page pages None p long keeps within = keeps.extent (extent_place page (128 * (p / 128)) + p % 128) (omega arith) (omega arith)
body_byte old new page pages (Some l) p long keeps within =
    ap (λ t. get_or new (place_or (extent_place page (128 * (p / 128))) l.0 (last_in t (p / 128) 30) + p % 128) 0) (table_kept old new page pages (Some l) l long keeps refl)
    ∙ place_kept old new page pages l p (last_in (table_of old l.0) (p / 128) 30) keeps within (λ i e. last_bound (table_of old l.0) (p / 128) 30 i e)

pub body_content : (old new : List ℕ) (e : FileAt) → length new ≡ length old → KeepsBody old new e.page.0 e.pages e.log → KeepsContent old new e
body_content old new e long keeps = λ p within. body_byte old new e.page.0 e.pages e.log p long keeps within

-- FILES

pub body_file : (old new : List ℕ) (page pages : ℕ) (log : Option PageId) (used size : ℕ) → length new ≡ length old → KeepsBody old new page pages log → IsFile old page pages log used size → IsFile new page pages log used size
body_file old new page pages log used size long keeps is = record {
  apart = is.apart;
  logged = λ l log_is. log_kept old new page pages log l used long keeps log_is (is.logged l log_is);
  below = λ l log_is i low. let b = is.below l log_is i low in rw (table_kept old new page pages log l long keeps log_is) b;
  zeros = λ p from to. body_byte old new page pages log p long keeps (omega arith) ∙ is.zeros p from to;
}

pub fits_kept : (old new : List ℕ) (e : FileAt) → length new ≡ length old → FitsIn (pages_of old) e → FitsIn (pages_of new) e
fits_kept old new e long fits = subst (λ n. FitsIn (n / 256) e) (sym long) fits

pub body_stored : (old new : List ℕ) (e : FileAt) → length new ≡ length old → KeepsBody old new e.page.0 e.pages e.log → IsStored old e → IsStored new e
body_stored old new e long keeps s =
    let room = s.fits.size in
    record {
      fits = fits_kept old new e long s.fits;
      shape = s.shape;
      file = body_file old new e.page.0 e.pages e.log e.used e.size long keeps s.file;
      last = λ some none. s.last some (sym (body_byte old new e.page.0 e.pages e.log (e.size - 1) long keeps (omega arith)) ∙ none);
    }

pub body_drafted : (old new : List ℕ) (d : FileAt) → length new ≡ length old → KeepsBody old new d.page.0 d.pages None → IsDrafted old d → IsDrafted new d
body_drafted old new d long keeps s = record {
  fits = fits_kept old new d long s.fits;
  shape = s.shape;
  file = body_file old new d.page.0 d.pages None 0 d.size long keeps s.file;
  no_log = s.no_log;
}

-- TABLES

abbrev pub KeepsBodies : (old new : List ℕ) → Entries → Type 0
KeepsBodies old new table = (i : ℕ) (e : FileAt) → IsIn table i e → KeepsBody old new e.page.0 e.pages e.log

pub bodies_kept : (old new : List ℕ) (table : Entries) → length new ≡ length old → KeepsBodies old new table → KeepsContents old new table
bodies_kept old new table long keeps = λ i e is. body_content old new e long (keeps i e is)

-- a table is held as it was, where the image has the same active extents and stores the files
pub holds_active : (old new : List ℕ) (table : Entries) (draft : Option FileAt) → HoldsTable old table draft → length new ≡ length old → broken_tiling (building_of draft) new ≡ None
    → ((page : ℕ) → active_at (units_of new) page ≡ active_at (units_of old) page)
    → ((i : ℕ) (e : FileAt) → IsIn table i e → IsStored new e) → ((d : FileAt) → draft ≡ Some d → IsDrafted new d) → HoldsTable new table draft
holds_active old new table draft h long tiled same stored drafted =
    let whole = h.whole in
    record {
      whole = omega arith;
      tiled = tiled;
      files = λ i e is. same e.page.0 ∙ h.files i e is;
      logs = λ i e l is log. same l.0 ∙ h.logs i e l is log;
      begun = λ d is. same d.page.0 ∙ h.begun d is;
      only = λ page g active. h.only page g (sym (same page) ∙ active);
      names = h.names;
      stored = stored;
      drafted = drafted;
    }

-- and where it has the same units
pub holds_units : (old new : List ℕ) (table : Entries) (draft : Option FileAt) → HoldsTable old table draft → length new ≡ length old → IsTiled (building_of draft) new (units_of old)
    → ((i : ℕ) (e : FileAt) → IsIn table i e → IsStored new e) → ((d : FileAt) → draft ≡ Some d → IsDrafted new d) → HoldsTable new table draft
holds_units old new table draft h long tiled stored drafted =
    holds_active old new table draft h long (unbroken_tiled (building_of draft) new (units_of old) tiled)
    (λ page. ap (λ us. active_at us page) (units_tiled (building_of draft) new (units_of old) tiled)) stored drafted

-- where also the files keep their content
pub holds_bodies : (old new : List ℕ) (table : Entries) (draft : Option FileAt) → HoldsTable old table draft → length new ≡ length old → broken_tiling (building_of draft) new ≡ None
    → ((page : ℕ) → active_at (units_of new) page ≡ active_at (units_of old) page) → KeepsBodies old new table → ((d : FileAt) → draft ≡ Some d → IsDrafted new d) → HoldsTable new table draft
holds_bodies old new table draft h long tiled same keeps drafted =
    holds_active old new table draft h long tiled same (λ i e is. body_stored old new e long (keeps i e is) (h.stored i e is)) drafted
