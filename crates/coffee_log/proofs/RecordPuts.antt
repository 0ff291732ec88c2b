-- A further record that holds a region's bytes, with a part of them new, puts that part into the file.
use Rattle.std.proofs.Common.{◌≡◌, ◌≢◌, ℕ, ◌+◌, ◌-◌, ◌*◌, ◌/◌, ◌%◌, ◌≤◌, ◌<◌, ◌==◌, List, length, get_or, Option, None, Some, refl, ap, sym, subst, ◌∙◌, arith, ⊎_elim}
use Rattle.std.proofs.lemmas.Bool.{cases_eq, cases_lt}
use Rattle.afl_base.specs.declared.ids.PageId.{PageId}
use Rattle.flash_range.specs.Range.{Outside}
use Rattle.coffee_layout.specs.FileBytes.{extent_place, file_byte, last_in, number_in, place_or, record_place, table_of}
use Rattle.coffee_layout.proofs.Tests.{eq_same}
use Rattle.coffee_log.specs.FileChanges.{Apart, BeginsBelow, FileBecomes, IsFile}
use Rattle.coffee_log.specs.Logs.{IsLog, PutsRecord}
use Rattle.coffee_log.proofs.LastRecords.{last_found, last_is, last_same}

-- the place of a byte by the last record of its region
abbrev pub byte_place : (page log p : ℕ) → Option ℕ → ℕ
byte_place page log p o = place_or (extent_place page (128 * (p / 128))) log o + p % 128

-- a region with no new record has the bytes that it had
other_place : (old new buffer : List ℕ) (page pages : ℕ) (l : PageId) (used region p : ℕ) (o : Option ℕ) → Apart page pages l.0 → PutsRecord old new l.0 used region buffer → p + 32 < 256 * pages
    → ((i : ℕ) → o ≡ Some i → i < used) → get_or new (byte_place page l.0 p o) 0 ≡ get_or old (byte_place page l.0 p o) 0
other_place old new buffer page pages l used region p None apart puts within found =
    let few = puts.more.few in
    let k : ℕ = 256 * page + 32 + 128 * (p / 128) + p % 128 in
    puts.others (extent_place page (128 * (p / 128)) + p % 128)
    (λ a b. apart ((256 * page + 32 + 128 * (p / 128) + p % 128) / 256) (omega arith) (omega arith) (omega arith) (omega arith))
    (λ a b. apart ((256 * page + 32 + 128 * (p / 128) + p % 128) / 256) (omega arith) (omega arith) (omega arith) (omega arith))
other_place old new buffer page pages l used region p (Some i) apart puts within found =
    let few = puts.more.few in
    let below = found i refl in
    puts.others (record_place l.0 i + p % 128) (λ a b. omega arith) (λ a b. omega arith)

other_region : (old new buffer : List ℕ) (page pages : ℕ) (l : PageId) (used region p : ℕ) → Apart page pages l.0 → IsLog old l.0 used → PutsRecord old new l.0 used region buffer → p + 32 < 256 * pages → p / 128 ≢ region
    → file_byte new page (Some l) p ≡ file_byte old page (Some l) p
other_region old new buffer page pages l used region p apart was puts within other =
    let few = puts.more.few in
    let tests : (i : ℕ) → i < 30 → (number_in (table_of new l.0) i == p / 128 + 1) ≡ (number_in (table_of old l.0) i == p / 128 + 1) =
    λ i low.
    ⊎_elim
    (λ (e : i ≡ used).
    let now : number_in (table_of new l.0) i ≡ region + 1 = ap (λ j. number_in (table_of new l.0) j) e ∙ puts.number in
    let then_ : number_in (table_of old l.0) i ≡ 0 = was.free_are i (omega arith) low in
    eq_same (number_in (table_of new l.0) i) (p / 128 + 1) (number_in (table_of old l.0) i) (p / 128 + 1) (λ x. absurd (other (omega arith))) (λ x. absurd (omega arith)))
    (λ (ne : i ≢ used). ap (λ n. n == p / 128 + 1) (puts.numbers i low ne))
    (cases_eq i used) in
    ap (λ o. get_or new (byte_place page l.0 p o) 0) (last_same (table_of old l.0) (table_of new l.0) (p / 128) 30 tests)
    ∙ other_place old new buffer page pages l used region p (last_in (table_of old l.0) (p / 128) 30) apart puts within
    (λ i e.
    let f = last_found (table_of old l.0) (p / 128) 30 i e in
    let low = f.0 in
    let is = f.1 in
    ⊎_elim (λ (x : i < used). x) (λ (x : used ≤ i). let z = was.free_are i x low in absurd (omega arith)) (cases_lt i used))

-- the region of the new record has the record's bytes
new_region : (old new buffer : List ℕ) (page : ℕ) (l : PageId) (used region p : ℕ) → IsLog old l.0 used → PutsRecord old new l.0 used region buffer → p / 128 ≡ region → file_byte new page (Some l) p ≡ get_or buffer (p % 128) 0
new_region old new buffer page l used region p was puts here =
    let few = puts.more.few in
    let is : number_in (table_of new l.0) used ≡ p / 128 + 1 = puts.number ∙ omega arith in
    let behind : (i : ℕ) → used < i → i < 30 → number_in (table_of new l.0) i ≢ p / 128 + 1 =
    λ i a b x. let z : number_in (table_of new l.0) i ≡ 0 = puts.numbers i b (λ e. omega arith) ∙ was.free_are i (omega arith) b in absurd (omega arith) in
    ap (λ o. get_or new (byte_place page l.0 p o) 0) (last_is (table_of new l.0) (p / 128) 30 used (omega arith) is behind) ∙ puts.here (p % 128) (omega arith)

pub put_becomes : (old new buffer bytes : List ℕ) (page pages : ℕ) (l : PageId) (used size total at : ℕ) → IsFile old page pages (Some l) used size → PutsRecord old new l.0 used (at / 128) buffer
    → 1 ≤ length bytes → at % 128 + length bytes ≤ 128 → size ≤ total → at + length bytes ≤ total → total + 32 ≤ 256 * pages
    → ((k : ℕ) → k < 128 → 128 * (at / 128) + k + 32 < 256 * pages → Outside at (length bytes) (128 * (at / 128) + k) → get_or buffer k 0 ≡ file_byte old page (Some l) (128 * (at / 128) + k))
    → ((k : ℕ) → k < length bytes → get_or buffer (at % 128 + k) 0 ≡ get_or bytes k 0)
    → FileBecomes old new page pages (Some l) (used + 1) total at bytes
put_becomes old new buffer bytes page pages l used size total at is puts some part grows ends fits around here =
    let was = is.logged l refl in
    let apart = is.apart l refl in
    let few = puts.more.few in
    let others : (p : ℕ) → p < 256 * pages - 32 → Outside at (length bytes) p → file_byte new page (Some l) p ≡ file_byte old page (Some l) p =
    λ p within out.
    ⊎_elim
    (λ (e : p / 128 ≡ at / 128).
    let back : 128 * (at / 128) + p % 128 ≡ p = omega arith in
    new_region old new buffer page l used (at / 128) p was puts e
    ∙ around (p % 128) (omega arith) (omega arith) (λ a b. out (omega arith) (omega arith))
    ∙ ap (λ q. file_byte old page (Some l) q) back)
    (λ (ne : p / 128 ≢ at / 128). other_region old new buffer page pages l used (at / 128) p apart was puts (omega arith) ne)
    (cases_eq (p / 128) (at / 128)) in
    let now : (k : ℕ) → k < length bytes → file_byte new page (Some l) (at + k) ≡ get_or bytes k 0 =
    λ k low.
    let there : (at + k) % 128 ≡ at % 128 + k = omega arith in
    new_region old new buffer page l used (at / 128) (at + k) was puts (omega arith) ∙ ap (λ j. get_or buffer j 0) there ∙ here k low in
    record {
      kept = record {
        apart = λ m e. let s : l ≡ m = cc in is.apart m e;
        logged = λ m e. let s : l ≡ m = cc in subst (λ x. IsLog new x.0 (used + 1)) s puts.more;
        below = λ m e.
            let s : l ≡ m = cc in
            subst (λ x. BeginsBelow new x.0 (used + 1) total) s (λ i low.
            ⊎_elim
            (λ (x : i ≡ used). let n : number_in (table_of new l.0) i ≡ at / 128 + 1 = ap (λ j. number_in (table_of new l.0) j) x ∙ puts.number in omega arith)
            (λ (x : i ≢ used).
            let n : number_in (table_of new l.0) i ≡ number_in (table_of old l.0) i = puts.numbers i (omega arith) x in
            let b = is.below l refl i (omega arith) in
            omega arith)
            (cases_eq i used));
        zeros = λ p from to. others p to (λ a b. omega arith) ∙ is.zeros p (omega arith) to;
      };
      put = record { here = now; others = others };
      others = λ k out. puts.others k (λ a b. out.logged l refl (omega arith) (omega arith)) (λ a b. out.logged l refl (omega arith) (omega arith));
    }

-- the same where the record was put into an image that is the old one
pub part_becomes : (old mid new buffer bytes : List ℕ) (page pages : ℕ) (l : PageId) (used size total at region : ℕ) → IsFile old page pages (Some l) used size → mid ≡ old → region ≡ at / 128 → (IsLog mid l.0 used → PutsRecord mid new l.0 used region buffer)
    → 1 ≤ length bytes → at % 128 + length bytes ≤ 128 → size ≤ total → at + length bytes ≤ total → total + 32 ≤ 256 * pages
    → ((k : ℕ) → k < 128 → 128 * (at / 128) + k + 32 < 256 * pages → Outside at (length bytes) (128 * (at / 128) + k) → get_or buffer k 0 ≡ file_byte old page (Some l) (128 * (at / 128) + k))
    → ((k : ℕ) → k < length bytes → get_or buffer (at % 128 + k) 0 ≡ get_or bytes k 0)
    → FileBecomes old new page pages (Some l) (used + 1) total at bytes
part_becomes old mid new buffer bytes page pages l used size total at region is same here puts some part grows ends fits around inside =
    let was : IsLog mid l.0 used = subst (λ i. IsLog i l.0 used) (sym same) (is.logged l refl) in
    put_becomes old new buffer bytes page pages l used size total at is
    (subst (λ r. PutsRecord old new l.0 used r buffer) here (subst (λ i. PutsRecord i new l.0 used region buffer) same (puts was)))
    some part grows ends fits around inside
