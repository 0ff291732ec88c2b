-- Bytes that are programmed behind the end of a file, where no record hides them.
use Rattle.std.proofs.Common.{◌≡◌, ℕ, ◌+◌, ◌*◌, ◌/◌, ◌%◌, ◌≤◌, ◌<◌, List, length, get_or, Option, None, Some, refl, ap, sym, subst, ◌∙◌, arith, ⊎_elim}
use Rattle.std.proofs.lemmas.Bool.{cases_lt}
use Rattle.afl_base.specs.Image.{or_at}
use Rattle.afl_base.specs.declared.ids.PageId.{PageId}
use Rattle.afl_base.proofs.Images.{length_or_at, range_same}
use Rattle.flash_range.specs.Range.{Outside}
use Rattle.flash_range.proofs.Ranges.{or_on_zero, or_outside}
use Rattle.coffee_layout.specs.FileBytes.{extent_place, file_byte, last_in, number_in, record_place, table_of}
use Rattle.coffee_log.specs.FileChanges.{Apart, FileBecomes, IsFile}
use Rattle.coffee_log.specs.Logs.{IsLog}
use Rattle.coffee_log.proofs.LastRecords.{last_found}
use Rattle.coffee_log.proofs.RecordPuts.{byte_place}

-- a region that is logged begins below the size
logged_below : (image : List ℕ) (page pages : ℕ) (l : PageId) (used size region i : ℕ) → IsFile image page pages (Some l) used size → last_in (table_of image l.0) region 30 ≡ Some i → 128 * region < size
logged_below image page pages l used size region i is e =
    let f = last_found (table_of image l.0) region 30 i e in
    let few = f.0 in
    let number = f.1 in
    ⊎_elim
    (λ (a : i < used). let b = is.below l refl i a in omega arith)
    (λ (a : used ≤ i). let log = is.logged l refl in let z = log.free_are i a few in absurd (omega arith))
    (cases_lt i used)

-- so no region is that begins where the file ends
pub plain_end : (image : List ℕ) (page pages : ℕ) (l : PageId) (used size : ℕ) → IsFile image page pages (Some l) used size → size % 128 ≡ 0 → last_in (table_of image l.0) (size / 128) 30 ≡ None
plain_end image page pages l used size is turn = by_last (last_in (table_of image l.0) (size / 128) 30) refl
  where
    by_last : (o : Option ℕ) → last_in (table_of image l.0) (size / 128) 30 ≡ o → last_in (table_of image l.0) (size / 128) 30 ≡ None
    by_last None e = e
    by_last (Some i) e = let b = logged_below image page pages l used size (size / 128) i is e in absurd (omega arith)

-- and none behind it
plain_behind : (image : List ℕ) (page pages : ℕ) (l : PageId) (used size p : ℕ) → IsFile image page pages (Some l) used size → last_in (table_of image l.0) (size / 128) 30 ≡ None → size ≤ p → last_in (table_of image l.0) (p / 128) 30 ≡ None
plain_behind image page pages l used size p is plain behind = by_last (last_in (table_of image l.0) (p / 128) 30) refl
  where
    by_last : (o : Option ℕ) → last_in (table_of image l.0) (p / 128) 30 ≡ o → last_in (table_of image l.0) (p / 128) 30 ≡ None
    by_last None e = e
    by_last (Some i) e =
        let b = logged_below image page pages l used size (p / 128) i is e in
        let same : p / 128 ≡ size / 128 = omega arith in
        ap (λ r. last_in (table_of image l.0) r 30) same ∙ plain

-- a byte that is not programmed stays, whether it stands in the extent or in the log
same_place : (old bytes : List ℕ) (page pages : ℕ) (l : PageId) (at p : ℕ) (o : Option ℕ) → Apart page pages l.0 → at + length bytes + 32 ≤ 256 * pages → p + 32 < 256 * pages → Outside at (length bytes) p → ((i : ℕ) → o ≡ Some i → i < 30)
    → get_or (or_at old (extent_place page at) bytes) (byte_place page l.0 p o) 0 ≡ get_or old (byte_place page l.0 p o) 0
same_place old bytes page pages l at p None apart fits within out few = or_outside old (extent_place page at) bytes (extent_place page (128 * (p / 128)) + p % 128) (λ a b. out (omega arith) (omega arith))
same_place old bytes page pages l at p (Some i) apart fits within out few =
    let low = few i refl in
    or_outside old (extent_place page at) bytes (record_place l.0 i + p % 128) (λ a b. apart ((256 * l.0 + 96 + 128 * i + p % 128) / 256) (omega arith) (omega arith) (omega arith) (omega arith))

table_stays : (old bytes : List ℕ) (page pages : ℕ) (l : PageId) (at : ℕ) → Apart page pages l.0 → at + length bytes + 32 ≤ 256 * pages → table_of (or_at old (extent_place page at) bytes) l.0 ≡ table_of old l.0
table_stays old bytes page pages l at apart fits =
    range_same (or_at old (extent_place page at) bytes) old (256 * l.0 + 32) (256 * l.0 + 92) (length_or_at old (extent_place page at) bytes)
    (λ k a b. or_outside old (extent_place page at) bytes k (λ x y. apart (k / 256) (omega arith) (omega arith) (omega arith) (omega arith)))

byte_stays : (old bytes : List ℕ) (page pages : ℕ) (log : Option PageId) (at p : ℕ) → ((l : PageId) → log ≡ Some l → Apart page pages l.0) → at + length bytes + 32 ≤ 256 * pages → p + 32 < 256 * pages → Outside at (length bytes) p
    → file_byte (or_at old (extent_place page at) bytes) page log p ≡ file_byte old page log p
byte_stays old bytes page pages None at p apart fits within out = or_outside old (extent_place page at) bytes (extent_place page (128 * (p / 128)) + p % 128) (λ a b. out (omega arith) (omega arith))
byte_stays old bytes page pages (Some l) at p apart fits within out =
    ap (λ t. get_or (or_at old (extent_place page at) bytes) (byte_place page l.0 p (last_in t (p / 128) 30)) 0) (table_stays old bytes page pages l at (apart l refl) fits)
    ∙ same_place old bytes page pages l at p (last_in (table_of old l.0) (p / 128) 30) (apart l refl) fits within out (λ i e. let f = last_found (table_of old l.0) (p / 128) 30 i e in f.0)

-- where no record hides it, a byte behind the end is the one that was programmed
direct_byte : (old bytes : List ℕ) (page at k : ℕ) → k < length bytes → extent_place page at + length bytes ≤ length old → get_or old (extent_place page (128 * ((at + k) / 128)) + (at + k) % 128) 0 ≡ 0
    → get_or (or_at old (extent_place page at) bytes) (extent_place page (128 * ((at + k) / 128)) + (at + k) % 128) 0 ≡ get_or bytes k 0
direct_byte old bytes page at k low exists zero_ =
    let place : extent_place page (128 * ((at + k) / 128)) + (at + k) % 128 ≡ extent_place page at + k = omega arith in
    ap (λ j. get_or (or_at old (extent_place page at) bytes) j 0) place ∙ or_on_zero old (extent_place page at) bytes k low exists (ap (λ j. get_or old j 0) (sym place) ∙ zero_)

byte_here : (old bytes : List ℕ) (page pages : ℕ) (log : Option PageId) (used at k : ℕ) → IsFile old page pages log used at → ((l : PageId) → log ≡ Some l → last_in (table_of old l.0) (at / 128) 30 ≡ None)
    → at + length bytes + 32 ≤ 256 * pages → 256 * (page + pages) ≤ length old → k < length bytes → file_byte (or_at old (extent_place page at) bytes) page log (at + k) ≡ get_or bytes k 0
byte_here old bytes page pages None used at k is plain fits exists low = direct_byte old bytes page at k low (omega arith) (is.zeros (at + k) (omega arith) (omega arith))
byte_here old bytes page pages (Some l) used at k is plain fits exists low =
    let none : last_in (table_of old l.0) ((at + k) / 128) 30 ≡ None = plain_behind old page pages l used at (at + k) is (plain l refl) (omega arith) in
    ap (λ t. get_or (or_at old (extent_place page at) bytes) (byte_place page l.0 (at + k) (last_in t ((at + k) / 128) 30)) 0) (table_stays old bytes page pages l at (is.apart l refl) fits)
    ∙ ap (λ o. get_or (or_at old (extent_place page at) bytes) (byte_place page l.0 (at + k) o) 0) none
    ∙ direct_byte old bytes page at k low (omega arith) (sym (ap (λ o. get_or old (byte_place page l.0 (at + k) o) 0) none) ∙ is.zeros (at + k) (omega arith) (omega arith))

log_stays : (old bytes : List ℕ) (page pages : ℕ) (l : PageId) (used at : ℕ) → Apart page pages l.0 → at + length bytes + 32 ≤ 256 * pages → IsLog old l.0 used → IsLog (or_at old (extent_place page at) bytes) l.0 used
log_stays old bytes page pages l used at apart fits was =
    let table = table_stays old bytes page pages l at apart fits in
    let stays : (k : ℕ) → 256 * l.0 ≤ k → k < 256 * l.0 + 4096 → get_or (or_at old (extent_place page at) bytes) k 0 ≡ get_or old k 0 =
    λ k a b. or_outside old (extent_place page at) bytes k (λ x y. apart (k / 256) (omega arith) (omega arith) (omega arith) (omega arith)) in
    record {
      few = was.few;
      used_are = λ i a z. was.used_are i a (sym (ap (λ t. number_in t i) table) ∙ z);
      free_are = λ i a b. ap (λ t. number_in t i) table ∙ was.free_are i a b;
      gap = λ k a b. stays k (omega arith) (omega arith) ∙ was.gap k a b;
      clear = λ k a b. stays k (omega arith) b ∙ was.clear k a b;
    }

appended : (old bytes : List ℕ) (page pages : ℕ) (log : Option PageId) (used at : ℕ) → IsFile old page pages log used at → ((l : PageId) → log ≡ Some l → 1 ≤ length bytes → last_in (table_of old l.0) (at / 128) 30 ≡ None)
    → at + length bytes + 32 ≤ 256 * pages → 256 * (page + pages) ≤ length old → FileBecomes old (or_at old (extent_place page at) bytes) page pages log used (at + length bytes) at bytes
appended old bytes page pages log used at is plain fits exists =
    let stays : (p : ℕ) → p + 32 < 256 * pages → Outside at (length bytes) p → file_byte (or_at old (extent_place page at) bytes) page log p ≡ file_byte old page log p =
    λ p within out. byte_stays old bytes page pages log at p is.apart fits within out in
    record {
      kept = record {
        apart = is.apart;
        logged = λ l e. log_stays old bytes page pages l used at (is.apart l e) fits (is.logged l e);
        below = λ l e i low.
            let same = ap (λ t. number_in t i) (table_stays old bytes page pages l at (is.apart l e) fits) in
            let b = is.below l e i low in
            omega arith;
        zeros = λ p from to. stays p (omega arith) (λ a b. omega arith) ∙ is.zeros p (omega arith) to;
      };
      put = record {
        here = λ k low. byte_here old bytes page pages log used at k is (λ l e. plain l e (omega arith)) fits exists low;
        others = λ p within out. stays p (omega arith) out;
      };
      others = λ k out. or_outside old (extent_place page at) bytes k (λ a b. out.extent (omega arith) (omega arith));
    }

pub append_becomes : (old new bytes : List ℕ) (page pages : ℕ) (log : Option PageId) (used at place : ℕ) → new ≡ or_at old place bytes → place ≡ extent_place page at → IsFile old page pages log used at
    → ((l : PageId) → log ≡ Some l → 1 ≤ length bytes → last_in (table_of old l.0) (at / 128) 30 ≡ None)
    → at + length bytes + 32 ≤ 256 * pages → 256 * (page + pages) ≤ length old → FileBecomes old new page pages log used (at + length bytes) at bytes
append_becomes old new bytes page pages log used at place programmed here is plain fits exists =
    subst (λ i. FileBecomes old i page pages log used (at + length bytes) at bytes) (sym (programmed ∙ ap (λ k. or_at old k bytes) here)) (appended old bytes page pages log used at is plain fits exists)
