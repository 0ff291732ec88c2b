-- What a step of `prepare` leaves of a file, and which pages it asks for.
use Rattle.std.proofs.Common.{◌≡◌, ◌≢◌, ℕ, zero, suc, ◌+◌, ◌*◌, ◌^◌, ◌<◌, ◌≤◌, Bool, true, false, not, ◌||◌, ◌==◌, max, Option, Some, None, refl, sym, ap, ◌∙◌, subst, arith, if◌then◌else◌}
use Rattle.std.specs.Prelude.{nat_le, nat_lt}
use Rattle.std.proofs.lemmas.Bool.Decides.{nat_tests}
use Rattle.std.proofs.lemmas.Bool.{cases_lt}
use Rattle.std.proofs.Math.Logic.{⊎_elim}
use Rattle.std.proofs.Math.Nat.{one-le-pow, pow-le-pow_right, pow-suc}
use Rattle.afl_base.specs.Fit.{fit}
use Rattle.afl_base.specs.declared.ids.PageId.{PageId}
use Rattle.afl_base.specs.declared.kind.Kind.{Kind}
use Rattle.afl_base.specs.declared.kind.Kind.TheVariants.{Doubling, Fixed}
use Rattle.afl_base.proofs.FitLaws.{is_fit}
use Rattle.coffee_layout.specs.Files.{FitsIn}
use Rattle.coffee_layout.specs.Rules.{is_doubling}
use Rattle.coffee_layout.specs.Walks.{has_few_of}
use Rattle.coffee_layout.specs.declared.file.FileAt.{FileAt}
use Rattle.coffee_merge.specs.Holding.{has_shape}
use Rattle.coffee_volume.specs.Rooms.{HasEntryRoom, has_too_few, lacks_log, pages_asked, records_needed}
use Rattle.coffee_volume.specs.Steps.{IsAfter, MayTake, NeedsFew, need_of, step_for}
use Rattle.coffee_volume.specs.Volumes.{IsRegular, roomless}
use Rattle.coffee_volume.specs.declared.entry.Entry.{Entry}
use Rattle.coffee_volume.specs.declared.step.Step.{Step}
use Rattle.coffee_volume.specs.declared.step.Step.TheVariants.{Grow, Merge, Log}
use Rattle.padded.proofs.Facts.{true_eq}

-- PAGES OF A DOUBLING FILE

either : {P : Type 0} → (a b : Bool) → a || b ≡ true → (a ≡ true → P) → (b ≡ true → P) → P
either true b is first second = first refl
either false b is first second = second is

-- one of 16, 32, 64 .. up to the doubling j
abbrev doubled_to : ℕ → ℕ → Bool
doubled_to p zero = p == 16
doubled_to p (suc j) = doubled_to p j || p == 16 * 2 ^ suc j

power_to : (p j : ℕ) → doubled_to p j ≡ true → (k : ℕ) × (p ≡ 16 * 2 ^ k)
power_to p zero is = (0, true_eq p 16 is)
power_to p (suc j) is = either (doubled_to p j) (p == 16 * 2 ^ suc j) is (power_to p j) (λ here. (suc j, true_eq p (16 * 2 ^ suc j) here))

pub power_of : (p : ℕ) → is_doubling p ≡ true → (k : ℕ) × (p ≡ 16 * 2 ^ k)
power_of p is = power_to p 11 is

-- of two powers, the one that is not less than half of the other is not less
not_half : (p q k j : ℕ) → p ≡ 16 * 2 ^ k → q ≡ 16 * 2 ^ j → p < 2 * q → p ≤ q
not_half p q k j is_p is_q less =
    ⊎_elim
    (λ (below : j < k).
    let up : 2 ^ suc j ≤ 2 ^ k = pow-le-pow_right {n = 2} (omega arith) {i = suc j} {j = k} (omega arith) in
    let twice : 2 ^ suc j ≡ 2 ^ j * 2 = pow-suc 2 j in
    absurd (omega arith))
    (λ (above : k ≤ j).
    let up : 2 ^ k ≤ 2 ^ j = pow-le-pow_right {n = 2} (omega arith) {i = k} {j = j} above in
    omega arith)
    (cases_lt j k)

-- A doubling file in which at most 4,096 bytes more do not fit has at most the pages that its size needs.
pub full_few : (p size more : ℕ) → is_doubling p ≡ true → size + 32 ≤ 256 * p → size ≤ 4194304 → more ≤ 4096 → 256 * p < size + more + 32 → p ≤ fit size
full_few p size more shape holds most few full =
    let a = power_of p shape in
    let b = is_fit size (omega arith) in
    let k : ℕ = a.0 in
    let j : ℕ = b.doubled.0 in
    let is_p : p ≡ 16 * 2 ^ k = a.1 in
    let is_q : fit size ≡ 16 * 2 ^ j = b.doubled.1 in
    let some : 1 ≤ 2 ^ j = one-le-pow j 2 (omega arith) in
    let enough : size + 32 ≤ 256 * fit size = b.holds in
    ⊎_elim
    (λ (small : p < 32). not_half p (fit size) k j is_p is_q (omega arith))
    (λ (large : 32 ≤ p). not_half p (fit size) k j is_p is_q (omega arith))
    (cases_lt p 32)

doubled_shape : (p : ℕ) → is_doubling p ≡ true → p ≤ 16384 → is_doubling (2 * p) ≡ true
doubled_shape p is few = grind (arith, nat_tests)

doubled_few : (p f : ℕ) → p ≤ f → nat_le (2 * p) (2 * f) ≡ true
doubled_few p f few = grind (arith, nat_tests)

few_is : (p f : ℕ) → nat_le p (2 * f) ≡ true → p ≤ 2 * f
few_is p f is = grind (arith, nat_tests)

pub fixed_shape : (n p : ℕ) → has_shape (Fixed n) p ≡ true → (n ≡ p) × (p ≤ 15)
fixed_shape n p is = (grind (arith, nat_tests), grind (arith, nat_tests))

-- AFTER A STEP

pub record IsSame (from to : FileAt) : Type 0 where
  pub name : to.name ≡ from.name
  pub kind : to.kind ≡ from.kind
  pub size : to.size ≡ from.size

pub after_same : (step : Step) (from to : FileAt) → IsAfter step from to → IsSame from to
after_same Grow from to is = record { name = ap (λ (f : FileAt). f.name) is; kind = ap (λ (f : FileAt). f.kind) is; size = ap (λ (f : FileAt). f.size) is }
after_same Merge from to is = record { name = ap (λ (f : FileAt). f.name) is; kind = ap (λ (f : FileAt). f.kind) is; size = ap (λ (f : FileAt). f.size) is }
after_same Log from to is = record { name = ap (λ (f : FileAt). f.name) is.0; kind = ap (λ (f : FileAt). f.kind) is.0; size = ap (λ (f : FileAt). f.size) is.0 }

same_shape : (from to : FileAt) → IsSame from to → to.pages ≡ from.pages → has_shape from.kind from.pages ≡ true → has_shape to.kind to.pages ≡ true
same_shape from to same pages shape = subst (λ (k : Kind). has_shape k to.pages ≡ true) (sym same.kind) (subst (λ (p : ℕ). has_shape from.kind p ≡ true) (sym pages) shape)

same_few : (from to : FileAt) → IsSame from to → to.pages ≡ from.pages → has_few_of from.kind from.pages from.size ≡ true → has_few_of to.kind to.pages to.size ≡ true
same_few from to same pages few =
    subst (λ (k : Kind). has_few_of k to.pages to.size ≡ true) (sym same.kind)
    (subst (λ (n : ℕ). has_few_of from.kind to.pages n ≡ true) (sym same.size) (subst (λ (p : ℕ). has_few_of from.kind p from.size ≡ true) (sym pages) few))

after_shape : (pages : ℕ) (step : Step) (e : Entry) (to : FileAt) → IsRegular pages e → MayTake step e.at → IsAfter step e.at to → has_shape to.kind to.pages ≡ true
after_shape pages Grow e to r may is =
    let was : is_doubling e.at.pages ≡ true = subst (λ (k : Kind). has_shape k e.at.pages ≡ true) may.0 r.shape in
    let kind : to.kind ≡ Doubling = ap (λ (f : FileAt). f.kind) is ∙ may.0 in
    let twice : to.pages ≡ 2 * e.at.pages = ap (λ (f : FileAt). f.pages) is in
    subst (λ (k : Kind). has_shape k to.pages ≡ true) (sym kind) (subst (λ (p : ℕ). is_doubling p ≡ true) (sym twice) (doubled_shape e.at.pages was may.1))
after_shape pages Merge e to r may is = same_shape e.at to (after_same Merge e.at to is) (ap (λ (f : FileAt). f.pages) is) r.shape
after_shape pages Log e to r may is = same_shape e.at to (after_same Log e.at to is) (ap (λ (f : FileAt). f.pages) is.0) r.shape

after_few : (pages : ℕ) (step : Step) (e : Entry) (to : FileAt) → IsRegular pages e → MayTake step e.at → IsAfter step e.at to → has_few_of to.kind to.pages to.size ≡ true
after_few pages Grow e to r may is =
    let kind : to.kind ≡ Doubling = ap (λ (f : FileAt). f.kind) is ∙ may.0 in
    let twice : to.pages ≡ 2 * e.at.pages = ap (λ (f : FileAt). f.pages) is in
    let size : to.size ≡ e.at.size = ap (λ (f : FileAt). f.size) is in
    subst (λ (k : Kind). has_few_of k to.pages to.size ≡ true) (sym kind)
    (subst (λ (n : ℕ). has_few_of Doubling to.pages n ≡ true) (sym size) (subst (λ (p : ℕ). has_few_of Doubling p e.at.size ≡ true) (sym twice) (doubled_few e.at.pages (fit e.at.size) may.2)))
after_few pages Merge e to r may is = same_few e.at to (after_same Merge e.at to is) (ap (λ (f : FileAt). f.pages) is) r.few
after_few pages Log e to r may is = same_few e.at to (after_same Log e.at to is) (ap (λ (f : FileAt). f.pages) is.0) r.few

-- an entry without room
pub roomless_room : (pages : ℕ) (e : FileAt) → FitsIn pages e → HasEntryRoom (roomless e)
roomless_room pages e fits =
    let used = fits.used in
    let size = fits.size in
    record { no_log = λ none. refl; free = omega arith; spare = λ l is some. absurd (omega arith); fits = omega arith; small = λ some. absurd (omega arith) }

pub after_regular : (pages : ℕ) (step : Step) (e : Entry) (to : FileAt) → IsRegular pages e → MayTake step e.at → IsAfter step e.at to → FitsIn pages to → IsRegular pages (roomless to)
after_regular pages step e to r may is fits = record { fits = fits; shape = after_shape pages step e to r may is; few = after_few pages step e to r may is; room = roomless_room pages to fits }

-- WHICH STEP IS ASKED FOR

no_step : (a b : Bool) (x y : Step) → (if a then Some x else (if b then Some y else None)) ≡ None → (a ≡ false) × (b ≡ false)
no_step true b x y none = absurd (cc)
no_step false true x y none = absurd (cc)
no_step false false x y none = (refl, refl)

none_asked : (a b c : Bool) (x y z : ℕ) → (if a then Some x else (if b then Some y else (if c then Some z else None))) ≡ None → (a ≡ false) × (b ≡ false) × (c ≡ false)
none_asked true b c x y z none = absurd (cc)
none_asked false true c x y z none = absurd (cc)
none_asked false false true x y z none = absurd (cc)
none_asked false false false x y z none = (refl, refl, refl)

-- the tests of the three steps
abbrev is_small : FileAt → ℕ → Bool
is_small e bytes = nat_lt (256 * e.pages) (e.size + bytes + 32)

abbrev is_full : FileAt → (overwrites bytes : ℕ) → Bool
is_full e overwrites bytes = has_too_few e.log e.used (records_needed e.log overwrites bytes)

abbrev is_bare : FileAt → (overwrites bytes : ℕ) → Bool
is_bare e overwrites bytes = lacks_log e.log (records_needed e.log overwrites bytes)

-- a step that is asked for asks for its pages
which_step : (a b c : Bool) (e : FileAt) (step : Step) (z : ℕ) → (if a then Some Grow else (if b then Some Merge else None)) ≡ Some step
    → (if a then Some (2 * e.pages) else (if b then Some e.pages else (if c then Some z else None))) ≡ Some (need_of step e)
which_step true b c e step z is = let same : Grow ≡ step = cc in ap (λ (s : Step). Some (need_of s e)) same
which_step false true c e step z is = let same : Merge ≡ step = cc in ap (λ (s : Step). Some (need_of s e)) same
which_step false false c e step z is = absurd (cc)

pub step_asks : (e : FileAt) (overwrites bytes : ℕ) (step : Step) → step_for e overwrites bytes ≡ Some step → pages_asked e overwrites bytes ≡ Some (need_of step e)
step_asks e overwrites bytes step is = which_step (is_small e bytes) (is_full e overwrites bytes) (is_bare e overwrites bytes) e step 16 is

-- where nothing is asked for, no step is
no_first : (a b c : Bool) (x y z : ℕ) (g m : Step) → (if a then Some x else (if b then Some y else (if c then Some z else None))) ≡ None → (if a then Some g else (if b then Some m else None)) ≡ None
no_first true b c x y z g m none = absurd (cc)
no_first false true c x y z g m none = absurd (cc)
no_first false false c x y z g m none = refl

pub asked_step : (e : FileAt) (overwrites bytes : ℕ) → pages_asked e overwrites bytes ≡ None → step_for e overwrites bytes ≡ None
asked_step e overwrites bytes none = no_first (is_small e bytes) (is_full e overwrites bytes) (is_bare e overwrites bytes) (2 * e.pages) e.pages 16 Grow Merge none

-- THE STEPS OF A FILE THAT IS REGULAR

small_is : (pages size bytes : ℕ) → nat_lt (256 * pages) (size + bytes + 32) ≡ true → 256 * pages < size + bytes + 32
small_is pages size bytes is = grind (arith, nat_tests)

holds_is : (pages size bytes : ℕ) → nat_lt (256 * pages) (size + bytes + 32) ≡ false → size + bytes + 32 ≤ 256 * pages
holds_is pages size bytes is = grind (arith, nat_tests)

holds_test : (pages size bytes : ℕ) → size + bytes + 32 ≤ 256 * pages → nat_lt (256 * pages) (size + bytes + 32) ≡ false
holds_test pages size bytes is = grind (arith, nat_tests)

-- the file grows
may_grow : (kind : Kind) (pages size bytes : ℕ) → has_shape kind pages ≡ true → size + 32 ≤ 256 * pages → bytes ≤ 4096 → size + bytes ≤ 4194304 → ((n : ℕ) → kind ≡ Fixed n → size + bytes + 32 ≤ 256 * n) → 256 * pages < size + bytes + 32
    → (kind ≡ Doubling) × (pages ≤ 16384) × (pages ≤ fit size)
may_grow Doubling pages size bytes shape holds few most fixed full = (refl, omega arith, full_few pages size bytes shape holds (omega (arith, most)) few full)
may_grow (Fixed n) pages size bytes shape holds few most fixed full = let s = fixed_shape n pages shape in absurd (omega (arith, fixed n refl, s.0))

may_step : (a b : Bool) (e : FileAt) (step : Step) → (if a then Some Grow else (if b then Some Merge else None)) ≡ Some step → (a ≡ true → (e.kind ≡ Doubling) × (e.pages ≤ 16384) × (e.pages ≤ fit e.size)) → MayTake step e
may_step true b e step is may = let same : Grow ≡ step = cc in subst (λ (s : Step). MayTake s e) same (may refl)
may_step false true e step is may = let same : Merge ≡ step = cc in subst (λ (s : Step). MayTake s e) same tt
may_step false false e step is may = absurd (cc)

pub step_may : (pages : ℕ) (e : Entry) (overwrites bytes : ℕ) (step : Step) → IsRegular pages e → step_for e.at overwrites bytes ≡ Some step → bytes ≤ 4096 → e.at.size + bytes ≤ 4194304 → ((n : ℕ) → e.at.kind ≡ Fixed n → e.at.size + bytes + 32 ≤ 256 * n) → MayTake step e.at
step_may pages e overwrites bytes step r is few most fixed =
    may_step (is_small e.at bytes) (is_full e.at overwrites bytes) e.at step is
    (λ small. may_grow e.at.kind e.at.pages e.at.size bytes r.shape r.fits.size few most fixed (small_is e.at.pages e.at.size bytes small))

-- how many pages a step asks for
few_doubling : (kind : Kind) (pages size : ℕ) → has_few_of kind pages size ≡ true → kind ≡ Doubling → pages ≤ 2 * fit size
few_doubling Doubling pages size few is = few_is pages (fit size) few
few_doubling (Fixed n) pages size few is = absurd (cc)

few_fixed : (kind : Kind) (pages n : ℕ) → has_shape kind pages ≡ true → kind ≡ Fixed n → pages ≤ 15
few_fixed Doubling pages n shape is = absurd (cc)
few_fixed (Fixed m) pages n shape is = (fixed_shape m pages shape).1

at_most : (a b need : ℕ) → need ≤ b → need ≤ max a b
at_most a b need few = omega arith

pub step_needs : (pages : ℕ) (e : Entry) (step : Step) → IsRegular pages e → MayTake step e.at → NeedsFew e.at (need_of step e.at)
step_needs pages e Grow r may = record { doubling = λ is. let few = may.2 in at_most 16 (2 * fit e.at.size) (2 * e.at.pages) (omega arith); fixed = λ n is. let kind : e.at.kind ≡ Doubling = may.0 in absurd (cc) }
step_needs pages e Merge r may = record {
  doubling = λ is. at_most 16 (2 * fit e.at.size) e.at.pages (few_doubling e.at.kind e.at.pages e.at.size r.few is);
  fixed = λ n is. let few = few_fixed e.at.kind e.at.pages n r.shape is in omega arith;
}
step_needs pages e Log r may = record { doubling = λ is. omega arith; fixed = λ n is. omega arith }

-- AFTER THE STEPS

-- a file that was moved needs no further step but a log
moved_step : (e : FileAt) (overwrites bytes : ℕ) → e.log ≡ None → e.size + bytes + 32 ≤ 256 * e.pages → step_for e overwrites bytes ≡ None
moved_step e overwrites bytes none fits = unlogged (is_small e bytes) e.log none (holds_test e.pages e.size bytes fits)
  where
    unlogged : (a : Bool) (log : Option PageId) → log ≡ None → a ≡ false → (if a then Some Grow else (if has_too_few log e.used (records_needed log overwrites bytes) then Some Merge else None)) ≡ None
    unlogged true log none is = absurd (cc)
    unlogged false None none is = refl
    unlogged false (Some l) none is = absurd (cc)

-- the bytes fit into the extent that a step gives
grown_fits : (kind : Kind) (pages size bytes : ℕ) → has_shape kind pages ≡ true → kind ≡ Doubling → size + 32 ≤ 256 * pages → bytes ≤ 4096 → size + bytes + 32 ≤ 256 * (2 * pages)
grown_fits Doubling pages size bytes shape is holds few =
    let a = power_of pages shape in
    let k : ℕ = a.0 in
    let is_p : pages ≡ 16 * 2 ^ k = a.1 in
    let some : 1 ≤ 2 ^ k = one-le-pow k 2 (omega arith) in
    omega arith
grown_fits (Fixed n) pages size bytes shape is holds few = absurd (cc)

not_small : (a b : Bool) → (if a then Some Grow else (if b then Some Merge else None)) ≡ Some Merge → a ≡ false
not_small true b is = absurd (cc)
not_small false b is = refl

no_log_step : (a b : Bool) → (if a then Some Grow else (if b then Some Merge else None)) ≡ Some Log → ⊥
no_log_step true b is = cc
no_log_step false true is = cc
no_log_step false false is = cc

pub step_done : (pages : ℕ) (e : Entry) (to : FileAt) (overwrites bytes : ℕ) (step : Step) → IsRegular pages e → step_for e.at overwrites bytes ≡ Some step → MayTake step e.at → bytes ≤ 4096 → IsAfter step e.at to → step_for to overwrites bytes ≡ None
step_done pages e to overwrites bytes Grow r is may few after =
    let twice : to.pages ≡ 2 * e.at.pages = ap (λ (f : FileAt). f.pages) after in
    let size : to.size ≡ e.at.size = ap (λ (f : FileAt). f.size) after in
    let fits = grown_fits e.at.kind e.at.pages e.at.size bytes r.shape may.0 r.fits.size few in
    moved_step to overwrites bytes (ap (λ (f : FileAt). f.log) after) (omega arith)
step_done pages e to overwrites bytes Merge r is may few after =
    let same : to.pages ≡ e.at.pages = ap (λ (f : FileAt). f.pages) after in
    let size : to.size ≡ e.at.size = ap (λ (f : FileAt). f.size) after in
    let fits = holds_is e.at.pages e.at.size bytes (not_small (is_small e.at bytes) (is_full e.at overwrites bytes) is) in
    moved_step to overwrites bytes (ap (λ (f : FileAt). f.log) after) (omega arith)
step_done pages e to overwrites bytes Log r is may few after = absurd (no_log_step (is_small e.at bytes) (is_full e.at overwrites bytes) is)

-- a file that got a log has room for all records
few_records : (l : PageId) (overwrites bytes : ℕ) → overwrites ≤ 29 → records_needed (Some l) overwrites bytes ≤ 30
few_records l overwrites bytes few = grind (arith, nat_tests)

new_log : (log : Option PageId) (used overwrites bytes : ℕ) → log ≢ None → used ≡ 0 → overwrites ≤ 29 → (has_too_few log used (records_needed log overwrites bytes) ≡ false) × (lacks_log log (records_needed log overwrites bytes) ≡ false)
new_log None used overwrites bytes some none few = absurd (some refl)
new_log (Some l) used overwrites bytes some none few = let n = few_records l overwrites bytes few in (not_less used (records_needed (Some l) overwrites bytes) none n, refl)
  where
    not_less : (used n : ℕ) → used ≡ 0 → n ≤ 30 → nat_lt 30 (used + n) ≡ false
    not_less used n none few = grind (arith, nat_tests)

all_false : (a b c : Bool) (x y : ℕ) → a ≡ false → b ≡ false → c ≡ false → (if a then Some x else (if b then Some y else (if c then Some 16 else None))) ≡ None
all_false true b c x y p q r = absurd (cc)
all_false false true c x y p q r = absurd (cc)
all_false false false true x y p q r = absurd (cc)
all_false false false false x y p q r = refl

pub log_done : (pages : ℕ) (e : Entry) (to : FileAt) (overwrites bytes : ℕ) → IsRegular pages e → step_for e.at overwrites bytes ≡ None → e.at.log ≡ None → overwrites ≤ 29 → IsAfter Log e.at to → pages_asked to overwrites bytes ≡ None
log_done pages e to overwrites bytes r none bare few after =
    let first = no_step (is_small e.at bytes) (is_full e.at overwrites bytes) Grow Merge none in
    let same : to.pages ≡ e.at.pages = ap (λ (f : FileAt). f.pages) after.0 in
    let size : to.size ≡ e.at.size = ap (λ (f : FileAt). f.size) after.0 in
    let used : to.used ≡ 0 = ap (λ (f : FileAt). f.used) after.0 ∙ r.fits.unused bare in
    let fits = holds_is e.at.pages e.at.size bytes first.0 in
    let log = new_log to.log to.used overwrites bytes after.1 used few in
    all_false (is_small to bytes) (is_full to overwrites bytes) (is_bare to overwrites bytes) (2 * to.pages) to.pages (holds_test to.pages to.size bytes (omega arith)) log.0 log.1

-- a log is only lacked where there is none
pub lacking : (log : Option PageId) (n : ℕ) → lacks_log log n ≡ true → log ≡ None
lacking None n is = refl
lacking (Some l) n is = absurd (cc)

-- WHAT IS GRANTED

no_records : (overwrites bytes : ℕ) → not (records_needed None overwrites bytes == 0) ≡ false → overwrites ≡ 0
no_records overwrites bytes none = grind (arith, nat_tests)

free_records : (l : PageId) (used overwrites bytes : ℕ) → nat_lt 30 (used + records_needed (Some l) overwrites bytes) ≡ false → used + overwrites ≤ 30
free_records l used overwrites bytes is = grind (arith, nat_tests)

spare_record : (l : PageId) (used overwrites bytes : ℕ) → nat_lt 30 (used + records_needed (Some l) overwrites bytes) ≡ false → 1 ≤ bytes → used + overwrites < 30
spare_record l used overwrites bytes is some = grind (arith, nat_tests)

record IsFree (log : Option PageId) (used overwrites bytes : ℕ) : Type 0 where
  no_log : log ≡ None → overwrites ≡ 0
  free : used + overwrites ≤ 30
  spare : (l : PageId) → log ≡ Some l → 1 ≤ bytes → used + overwrites < 30

is_free_for : (log : Option PageId) (used overwrites bytes : ℕ) → used ≤ 30 → has_too_few log used (records_needed log overwrites bytes) ≡ false → lacks_log log (records_needed log overwrites bytes) ≡ false → IsFree log used overwrites bytes
is_free_for None used overwrites bytes most few logged = let none = no_records overwrites bytes logged in record { no_log = λ _. none; free = omega arith; spare = λ l is. absurd (cc) }
is_free_for (Some l) used overwrites bytes most few logged = record { no_log = λ is. absurd (cc); free = free_records l used overwrites bytes few; spare = λ k is some. spare_record l used overwrites bytes few some }

pub regular_granted : (pages : ℕ) (e : Entry) (overwrites bytes : ℕ) → IsRegular pages e → pages_asked e.at overwrites bytes ≡ None → e.at.size + bytes ≤ 4194304 → IsRegular pages (record { at = e.at; records = overwrites; room = bytes })
regular_granted pages e overwrites bytes r none most =
    let all = none_asked (is_small e.at bytes) (is_full e.at overwrites bytes) (is_bare e.at overwrites bytes) (2 * e.at.pages) e.at.pages 16 none in
    let free = is_free_for e.at.log e.at.used overwrites bytes r.fits.used all.1 all.2 in
    let fits = holds_is e.at.pages e.at.size bytes all.0 in
    record { fits = r.fits; shape = r.shape; few = r.few; room = record { no_log = free.no_log; free = free.free; spare = free.spare; fits = fits; small = λ some. most } }
