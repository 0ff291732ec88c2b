-- The room of a file, and the pages of a doubling one, from one call to the next.
use Rattle.std.proofs.Common.{◌≡◌, ℕ, ◌+◌, ◌-◌, ◌*◌, ◌<◌, ◌≤◌, true, Option, Some, None, refl, ◌∙◌, arith}
use Rattle.std.specs.Prelude.{nat_le, min}
use Rattle.std.proofs.lemmas.Bool.Decides.{nat_tests}
use Rattle.afl_base.specs.Fit.{fit}
use Rattle.afl_base.specs.declared.ids.PageId.{PageId}
use Rattle.afl_base.specs.declared.kind.Kind.{Kind}
use Rattle.afl_base.specs.declared.kind.Kind.TheVariants.{Doubling, Fixed}
use Rattle.afl_base.proofs.FitLaws.{fit_rises}
use Rattle.coffee_layout.specs.Walks.{has_few_of}
use Rattle.coffee_volume.specs.Volumes.{IsRegular}
use Rattle.coffee_volume.specs.declared.entry.Entry.{Entry}

-- a file that grows in its extent keeps rule 13
few_more : (pages a b : ℕ) → nat_le pages (2 * a) ≡ true → a ≤ b → nat_le pages (2 * b) ≡ true
few_more pages a b few more = grind (arith, nat_tests)

pub few_rises : (kind : Kind) (pages size more : ℕ) → has_few_of kind pages size ≡ true → size ≤ more → more ≤ 8388576 → has_few_of kind pages more ≡ true
few_rises Doubling pages size more few less room = few_more pages (fit size) (fit more) few (fit_rises size more less)
few_rises (Fixed n) pages size more few less room = refl

-- an overwrite takes records of the room
pub regular_overwritten : (pages : ℕ) (e : Entry) (l : PageId) (used taken : ℕ) → IsRegular pages e → e.at.log ≡ Some l → used ≡ e.at.used + taken → taken ≤ e.records
    → IsRegular pages (record { at = record e.at { used = used }; records = e.records - taken; room = e.room })
regular_overwritten pages e l used taken r log is few =
    let free = r.room.free in
    record {
      fits = record { some = r.fits.some; placed = r.fits.placed; size = r.fits.size; log = r.fits.log; used = omega arith; unused = λ none. absurd (cc) };
      shape = r.shape;
      few = r.few;
      room = record {
        no_log = λ none. absurd (cc);
        free = omega arith;
        spare = λ k is_k some. let had = r.room.spare k is_k some in omega arith;
        fits = r.room.fits;
        small = λ some. r.room.small (omega arith);
      };
    }

-- an append takes one record at most, where the file has a log
used_up : (log : Option PageId) (used records room n : ℕ) → (log ≡ None → records ≡ 0) → (log ≡ None → used ≡ 0) → ((l : PageId) → log ≡ Some l → 1 ≤ room → used + records < 30) → 1 ≤ room → n ≤ used + 1 → (log ≡ None → n ≡ used) → n + records ≤ 30
used_up None used records room n no_log unused spare some few same = omega (arith, no_log refl, unused refl, same refl)
used_up (Some l) used records room n no_log unused spare some few same = omega (arith, spare l refl some)

pub regular_appended : (pages : ℕ) (e : Entry) (used size len : ℕ) → IsRegular pages e → size ≡ e.at.size + len → 1 ≤ len → len ≤ e.room → used ≤ e.at.used + min len 1 → (e.at.log ≡ None → used ≡ e.at.used)
    → IsRegular pages (record { at = record e.at { size = size; used = used }; records = e.records; room = 0 })
regular_appended pages e used size len r is some room few same =
    let fits = r.room.fits in
    let small = r.room.small (omega arith) in
    let all : used + e.records ≤ 30 = used_up e.at.log e.at.used e.records e.room used r.room.no_log r.fits.unused r.room.spare (omega arith) (omega arith) same in
    record {
      fits = record { some = r.fits.some; placed = r.fits.placed; size = omega arith; log = r.fits.log; used = omega arith; unused = λ none. same none ∙ r.fits.unused none };
      shape = r.shape;
      few = few_rises e.at.kind e.at.pages e.at.size size r.few (omega arith) (omega arith);
      room = record {
        no_log = r.room.no_log;
        free = all;
        spare = λ k is_k none. absurd (omega arith);
        fits = omega arith;
        small = λ any. omega arith;
      };
    }
