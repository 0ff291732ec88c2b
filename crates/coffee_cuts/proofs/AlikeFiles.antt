-- Files in images that have the same bytes, where these are read.
use Rattle.std.proofs.Common.{◌≡◌, ℕ, ◌+◌, ◌-◌, ◌*◌, ◌/◌, ◌%◌, ◌<◌, ◌≤◌, true, ◌==◌, List, get_or, Option, Some, None, refl, ap, sym, subst, ◌∙◌, arith}
use Rattle.afl_base.specs.Fit.{first_fit, fit}
use Rattle.afl_base.specs.declared.ids.PageId.{PageId}
use Rattle.afl_base.specs.declared.kind.Kind.{Kind}
use Rattle.afl_base.specs.declared.kind.Kind.TheVariants.{Doubling, Fixed}
use Rattle.afl_base.proofs.FitLaws.{first_fit_rises}
use Rattle.coffee_layout.specs.FileBytes.{extent_place, file_byte, file_bytes, last_in, number_in, place_or, table_of, trimmed}
use Rattle.coffee_layout.specs.Walks.{has_few_of}
use Rattle.coffee_log.specs.FileChanges.{IsFile}
use Rattle.coffee_log.specs.Logs.{IsLog}
use Rattle.coffee_log.proofs.LastRecords.{last_same}
use Rattle.coffee_log.proofs.RecordLaws.{number_image}
use Rattle.padded.proofs.Facts.{le_true, none_some, true_le}
use Rattle.coffee_layout.proofs.Frames.{map_same as map_alike}

-- ALL BYTES

abbrev pub AreAlike : List ℕ → List ℕ → Type 0
AreAlike a b = (k : ℕ) → get_or a k 0 ≡ get_or b k 0

pub alike_number : (a b : List ℕ) (log i : ℕ) → AreAlike a b → i < 30 → number_in (table_of a log) i ≡ number_in (table_of b log) i
alike_number a b log i same few =
    let first = number_image a log i few in
    let second = number_image b log i few in
    let low = same (256 * log + 32 + 2 * i) in
    let high = same (256 * log + 32 + 2 * i + 1) in
    omega (arith, first, second, low, high)

alike_last : (a b : List ℕ) (log region : ℕ) → AreAlike a b → last_in (table_of a log) region 30 ≡ last_in (table_of b log) region 30
alike_last a b log region same = last_same (table_of b log) (table_of a log) region 30 (λ i few. ap (λ n. n == region + 1) (alike_number a b log i same few))

pub alike_byte : (a b : List ℕ) (page : ℕ) (log : Option PageId) (p : ℕ) → AreAlike a b → file_byte a page log p ≡ file_byte b page log p
alike_byte a b page None p same = same (extent_place page (128 * (p / 128)) + p % 128)
alike_byte a b page (Some l) p same =
    ap (λ o. get_or a (place_or (extent_place page (128 * (p / 128))) l.0 o + p % 128) 0) (alike_last a b l.0 (p / 128) same)
    ∙ same (place_or (extent_place page (128 * (p / 128))) l.0 (last_in (table_of b l.0) (p / 128) 30) + p % 128)

alike_log : (a b : List ℕ) (log used : ℕ) → AreAlike a b → IsLog b log used → IsLog a log used
alike_log a b log used same is =
    let few = is.few in
    record {
      few = is.few;
      used_are = λ i low none. is.used_are i low (sym (alike_number a b log i same (omega (arith, low, few))) ∙ none);
      free_are = λ i from to. alike_number a b log i same to ∙ is.free_are i from to;
      gap = λ k from to. same k ∙ is.gap k from to;
      clear = λ k from to. same k ∙ is.clear k from to;
    }

pub alike_file : (a b : List ℕ) (page pages : ℕ) (log : Option PageId) (used size : ℕ) → AreAlike a b → IsFile b page pages log used size → IsFile a page pages log used size
alike_file a b page pages log used size same is = record {
  apart = is.apart;
  logged = λ l named. alike_log a b l.0 used same (is.logged l named);
  below = λ l named i low.
      let few = (is.logged l named).few in
      let n = alike_number a b l.0 i same (omega (arith, low, few)) in
      subst (λ n. 128 * (n - 1) < size) (sym n) (is.below l named i low);
  zeros = λ p from to. alike_byte a b page log p same ∙ is.zeros p from to;
}

-- THE BYTES OF ONE FILE

pub bytes_alike : (a b : List ℕ) (page pages : ℕ) (log : Option PageId) → ((p : ℕ) → p < 256 * pages - 32 → file_byte a page log p ≡ file_byte b page log p) → file_bytes a page pages log ≡ file_bytes b page pages log
unfolding file_bytes
bytes_alike a b page pages log same = ap trimmed (map_alike (file_byte a page log) (file_byte b page log) 0 (256 * pages - 32) (λ p x y. same p (omega (arith, y))))

-- the records in use of a file that may have no log
abbrev pub used_now : Option PageId → ℕ → ℕ
used_now None used = 0
used_now (Some l) used = used

pub used_file : (image : List ℕ) (page pages : ℕ) (log : Option PageId) (used size : ℕ) → IsFile image page pages log used size → IsFile image page pages log (used_now log used) size
used_file image page pages None used size is = record { apart = is.apart; logged = λ l none. absurd (none_some l none); below = λ l none. absurd (none_some l none); zeros = is.zeros }
used_file image page pages (Some l) used size is = is

-- A LARGER SIZE

-- a larger file needs no fewer pages
pub few_more : (kind : Kind) (pages size more : ℕ) → size ≤ more → has_few_of kind pages size ≡ true → has_few_of kind pages more ≡ true
unfolding fit
few_more Doubling pages size more low few =
    let a = true_le pages (2 * first_fit 11 16 size) few in
    let b = first_fit_rises 11 16 size more low in
    le_true pages (2 * first_fit 11 16 more) (omega (arith, a, b))
few_more (Fixed n) pages size more low few = refl
