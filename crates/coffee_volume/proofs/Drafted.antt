-- Extents under construction, and the files that they become.
use Rattle.std.proofs.Common.{◌≡◌, ◌≢◌, ℕ, ◌+◌, ◌-◌, ◌*◌, ◌^◌, ◌<◌, ◌≤◌, Bool, true, false, List, length, set, get_or, Some, None, refl, sym, ap, ◌∙◌, subst, arith, if◌then◌else◌}
use Rattle.std.specs.Prelude.{nat_le, option_map}
use Rattle.std.proofs.lemmas.Bool.Decides.{nat_tests}
use Rattle.std.proofs.Math.Nat.{one-le-pow}
use Rattle.afl_base.specs.Files.{IsKind, first_pages}
use Rattle.afl_base.specs.Fit.{first_fit, fit}
use Rattle.afl_base.specs.declared.kind.Kind.{Kind}
use Rattle.afl_base.specs.declared.kind.Kind.TheVariants.{Doubling, Fixed}
use Rattle.afl_base.proofs.FitLaws.{is_fit}
use Rattle.coffee_layout.specs.FileBytes.{file_byte}
use Rattle.coffee_layout.specs.Files.{FitsIn}
use Rattle.coffee_layout.specs.Rules.{is_doubling}
use Rattle.coffee_layout.specs.Walks.{has_few_of}
use Rattle.coffee_layout.specs.declared.file.FileAt.{FileAt}
use Rattle.coffee_merge.specs.Holding.{BeginsExtent, CommitsExtent, HoldsTable, Sets, Entries, extent_of, has_shape}
use Rattle.coffee_volume.specs.Volumes.{EntryTable, IsPending, IsRegular, places, roomless}
use Rattle.coffee_volume.specs.declared.entry.Entry.{Entry}
use Rattle.coffee_volume.proofs.Standing.{set_stored}
use Rattle.coffee_volume.proofs.States.{Turns}
use Rattle.coffee_volume.proofs.Stepped.{roomless_room}
use Rattle.coffee_volume.proofs.Tables.{place_is}

-- SHAPES

fixed_is : (n : ℕ) → 1 ≤ n → n ≤ 15 → has_shape (Fixed n) n ≡ true
fixed_is n least most = grind (arith, nat_tests)

-- the pages of a new file are those of its kind
pub first_shape : (kind : Kind) → IsKind kind → has_shape kind (first_pages kind) ≡ true
first_shape Doubling is = refl
first_shape (Fixed n) is = fixed_is n is.0 is.1

pub first_some : (kind : Kind) → IsKind kind → 1 ≤ first_pages kind
first_some Doubling is = omega arith
first_some (Fixed n) is = is.0

sixteen_few : (f : ℕ) → 16 ≤ f → nat_le 16 (2 * f) ≡ true
sixteen_few f least = grind (arith, nat_tests)

least_fit : (size : ℕ) → size ≤ 8388576 → 16 ≤ fit size
least_fit size room =
    let f = is_fit size room in
    let j : ℕ = f.doubled.0 in
    let is : fit size ≡ 16 * 2 ^ j = f.doubled.1 in
    let some : 1 ≤ 2 ^ j = one-le-pow j 2 (omega arith) in
    omega arith

pub first_few : (kind : Kind) → has_few_of kind (first_pages kind) 0 ≡ true
first_few Doubling = sixteen_few (fit 0) (least_fit 0 (omega arith))
first_few (Fixed n) = refl

-- the pages of a draft
pick : (b : Bool) (x y : ℕ) → is_doubling x ≡ true → is_doubling y ≡ true → is_doubling (if b then x else y) ≡ true
pick true x y first second = first
pick false x y first second = second

pub fit_shape : (size : ℕ) → is_doubling (fit size) ≡ true
unfolding fit
fit_shape size =
    pick (nat_le (size + 32) 4096) 16 (first_fit 10 32 size) refl
    (pick (nat_le (size + 32) 8192) 32 (first_fit 9 64 size) refl
    (pick (nat_le (size + 32) 16384) 64 (first_fit 8 128 size) refl
    (pick (nat_le (size + 32) 32768) 128 (first_fit 7 256 size) refl
    (pick (nat_le (size + 32) 65536) 256 (first_fit 6 512 size) refl
    (pick (nat_le (size + 32) 131072) 512 (first_fit 5 1024 size) refl
    (pick (nat_le (size + 32) 262144) 1024 (first_fit 4 2048 size) refl
    (pick (nat_le (size + 32) 524288) 2048 (first_fit 3 4096 size) refl
    (pick (nat_le (size + 32) 1048576) 4096 (first_fit 2 8192 size) refl
    (pick (nat_le (size + 32) 2097152) 8192 (first_fit 1 16384 size) refl
    (pick (nat_le (size + 32) 4194304) 16384 (first_fit 0 32768 size) refl refl))))))))))

own_few : (f : ℕ) → nat_le f (2 * f) ≡ true
own_few f = grind (arith, nat_tests)

-- A NEW FILE

new_fits : (pages page : ℕ) (name : List ℕ) (kind : Kind) (own size : ℕ) → 1 ≤ own → page + own ≤ pages → size + 32 ≤ 256 * own → FitsIn pages (extent_of name kind page own size)
new_fits pages page name kind own size some placed fits = record { some = some; placed = placed; size = fits; log = λ l is. absurd (cc); used = omega arith; unused = λ none. refl }

pub created_regular : (pages page : ℕ) (name : List ℕ) (kind : Kind) → IsKind kind → page + first_pages kind ≤ pages → IsRegular pages (roomless (extent_of name kind page (first_pages kind) 0))
created_regular pages page name kind is placed =
    let some = first_some kind is in
    let fits = new_fits pages page name kind (first_pages kind) 0 some placed (omega arith) in
    record { fits = fits; shape = first_shape kind is; few = first_few kind; room = roomless_room pages (extent_of name kind page (first_pages kind) 0) fits }

pub begun_pending : (pages page : ℕ) (name : List ℕ) (size : ℕ) → size ≤ 4194304 → page + fit size ≤ pages → IsPending pages (extent_of name Doubling page (fit size) size)
begun_pending pages page name size few placed =
    let f = is_fit size (omega arith) in
    let holds : size + 32 ≤ 256 * fit size = f.holds in
    record { fits = new_fits pages page name Doubling (fit size) size (omega arith) placed holds; shape = fit_shape size; few = own_few (fit size); kind = refl; log = refl; used = refl }

-- two steps of the flash: an extent begins, and becomes a file
pub begun_sets : (old mid new : List ℕ) (table : Entries) (i : ℕ) (name : List ℕ) (kind : Kind) (page pages : ℕ) → BeginsExtent old mid table (extent_of name kind page pages 0) → CommitsExtent mid new table i (extent_of name kind page pages 0)
    → Sets old new table i (Some (extent_of name kind page pages 0))
begun_sets old mid new table i name kind page pages begins commits = record {
  holds = commits.sets.holds;
  others = λ k e other is p low. commits.sets.others k e other is p low ∙ begins.kept k e is p low;
}

-- A COMMIT

pub pending_regular : (pages : ℕ) (d : FileAt) → IsPending pages d → IsRegular pages (roomless d)
pending_regular pages d is = record { fits = is.fits; shape = is.shape; few = is.few; room = roomless_room pages d is.fits }

pub same_used : (d : FileAt) → d.used ≡ 0 → record d { used = 0 } ≡ d
same_used d none = ap (λ (n : ℕ). let f : FileAt = record d { used = n } in f) (sym none)

pub commit_holds : (old new : List ℕ) (table : Entries) (i : ℕ) (d : FileAt) → d.used ≡ 0 → CommitsExtent old new table i d → HoldsTable new (set table i (Some d)) None
commit_holds old new table i d none commits = subst (λ (f : FileAt). HoldsTable new (set table i (Some f)) None) (same_used d none) commits.sets.holds

pub commit_turns : (old new : List ℕ) (table : EntryTable) (i : ℕ) (d : FileAt) → i < length table → d.used ≡ 0 → HoldsTable old (places table) (Some d) → (1 ≤ d.size → file_byte old d.page.0 None (d.size - 1) ≢ 0) → CommitsExtent old new (places table) i d → Turns old new d
commit_turns old new table i d inside none holds last commits = record {
  drafted = holds.drafted d refl;
  stored = set_stored new table None i d inside (commit_holds old new (places table) i d none commits);
  content = commits.content;
  last = last;
}

-- a place of the table that holds no entry
pub free_place : (table : EntryTable) (i : ℕ) → get_or table i None ≡ None → get_or (places table) i None ≡ None
free_place table i free = place_is table i ∙ ap (option_map (λ (e : Entry). e.at)) free
