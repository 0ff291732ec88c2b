-- Measuring the files of a table, one by one.
use Rattle.std.proofs.Common.{◌≡◌, ℕ, ◌+◌, ◌*◌, ◌≤◌, ◌<◌, Bool, true, false, not, ◌||◌, ◌==◌, nat_le, List, [], ◌∷◌, ◌++◌, length, take, drop, map, set, get_or, ⊎_elim, Option, None, Some, if◌then◌else◌, refl, ap, sym, subst, ◌∙◌, arith, append_assoc}
use Rattle.std.proofs.lemmas.List.{get_or-set_same, get_or-set_other, get_or_at, length-append, length-drop, length-map, length-take, map-append, set_at}
use Rattle.std.proofs.lemmas.Bool.{cases_eq}
use Rattle.afl_base.specs.declared.ids.PageId.{PageId}
use Rattle.afl_base.specs.declared.kind.Kind.TheVariants.{Doubling, Fixed}
use Rattle.afl_base.specs.Fit.{fit}
use Rattle.afl_base.proofs.FitLaws.{fit_more}
use Rattle.coffee_layout.specs.FileBytes.{file_bytes}
use Rattle.coffee_layout.specs.Files.{Placed, bytes_of, entry_of, entry_with, log_of, used_of}
use Rattle.coffee_layout.specs.Rules.{has_few_pages}
use Rattle.coffee_layout.specs.Units.{pages_of}
use Rattle.coffee_layout.specs.Walks.{IsMeasured, LogFits, LogsFit, fitting, has_few, has_few_of}
use Rattle.coffee_layout.specs.declared.file.FileAt.{FileAt}
use Rattle.coffee_layout.proofs.Sizes.{size_is}
use Rattle.coffee_layout.proofs.Splits.{split, take_here, drop_here, take_behind, drop_behind}
use Rattle.padded.proofs.Facts.{le_true}

-- the entries of which the first i are measured
abbrev pub half_measured : List ℕ → ℕ → List Placed → List FileAt
half_measured image i files = map (entry_of image) (take i files) ++ map (λ f. entry_with f 0 0) (drop i files)

fitting_fits : (pages : ℕ) (log : Option PageId) → LogFits pages log → fitting pages log ≡ log
fitting_fits pages None fits = refl
fitting_fits pages (Some log) fits = rw (le_true (log.0 + 16) pages fits) refl

three_same : (e : FileAt) (size n : ℕ) (log m : Option PageId) (used k : ℕ) → size ≡ n → log ≡ m → used ≡ k → record e { size = size; log = log; used = used } ≡ record e { size = n; log = m; used = k }
three_same e size n log m used k a b c = ap (λ s. record e { size = s; log = log; used = used }) a ∙ ap (λ l. record e { size = n; log = l; used = used }) b ∙ ap (λ u. record e { size = n; log = m; used = u }) c

pub measured_entry : (image : List ℕ) (f : Placed) (new : FileAt) → LogFits (pages_of image) (log_of f.header) → IsMeasured image (entry_with f 0 0) new → new ≡ entry_of image f
measured_entry image f new fits m =
    let log : new.log ≡ log_of f.header = m.log ∙ fitting_fits (pages_of image) (log_of f.header) fits in
    let size : new.size ≡ length (bytes_of image f) = sym (ap (λ l. length (file_bytes image f.page f.header.max_pages l)) (sym log) ∙ size_is image f.page f.header.max_pages new.log new.size m.size) in
    m.is ∙ three_same (entry_with f 0 0) new.size (length (bytes_of image f)) new.log (log_of f.header) new.used (used_of image (log_of f.header)) size log (m.used ∙ ap (used_of image) log)

fits_at : (pages : ℕ) (front rest : List Placed) (f : Placed) → LogsFit pages (front ++ f ∷ rest) → LogFits pages (log_of f.header)
fits_at pages [] rest f fits = fits.0
fits_at pages (g ∷ front) rest f fits = fits_at pages front rest f fits.1

half_turn : (image : List ℕ) (front rest : List Placed) (f : Placed) (i : ℕ) (old new : FileAt) → length front ≡ i → LogFits (pages_of image) (log_of f.header)
    → old ≡ get_or (half_measured image i (front ++ f ∷ rest)) i old → IsMeasured image old new
    → set (half_measured image i (front ++ f ∷ rest)) i new ≡ half_measured image (i + 1) (front ++ f ∷ rest)
half_turn image front rest f i old new size fits is m =
    let sketch = λ (g : Placed). entry_with g 0 0 in
    let before : half_measured image i (front ++ f ∷ rest) ≡ map (entry_of image) front ++ entry_with f 0 0 ∷ map (λ g. entry_with g 0 0) rest =
    ap (λ t. map (entry_of image) t ++ map (λ g. entry_with g 0 0) (drop i (front ++ f ∷ rest))) (take_here front f rest i size)
    ∙ ap (λ t. map (entry_of image) front ++ map (λ g. entry_with g 0 0) t) (drop_here front f rest i size) in
    let long : length (map (entry_of image) front) ≡ i = length-map front (entry_of image) ∙ size in
    let there : old ≡ entry_with f 0 0 = is ∙ ap (λ t. get_or t i old) before ∙ get_or_at (map (entry_of image) front) (entry_with f 0 0) (map (λ g. entry_with g 0 0) rest) old i long in
    let now : new ≡ entry_of image f = measured_entry image f new fits (subst (λ e. IsMeasured image e new) there m) in
    ap (λ t. set t i new) before
    ∙ set_at (map (entry_of image) front) (entry_with f 0 0) (map (λ g. entry_with g 0 0) rest) new i long
    ∙ ap (λ e. map (entry_of image) front ++ e ∷ map (λ g. entry_with g 0 0) rest) now
    ∙ sym (append_assoc (map (entry_of image) front) (entry_of image f ∷ []) (map (λ g. entry_with g 0 0) rest))
    ∙ ap (λ t. t ++ map (λ g. entry_with g 0 0) rest) (sym (map-append (entry_of image) front (f ∷ [])))
    ∙ sym (ap (λ t. map (entry_of image) t ++ map (λ g. entry_with g 0 0) (drop (i + 1) (front ++ f ∷ rest))) (take_behind front f rest i size)
    ∙ ap (λ t. map (entry_of image) (front ++ f ∷ []) ++ map (λ g. entry_with g 0 0) t) (drop_behind front f rest i size))

half_length : (image : List ℕ) (i : ℕ) (files : List Placed) → length (half_measured image i files) ≡ length files
half_length image i files =
    omega (arith, length-append (map (entry_of image) (take i files)) (map (λ f. entry_with f 0 0) (drop i files)), length-map (take i files) (entry_of image), length-map (drop i files) (λ f. entry_with f 0 0), length-take i files, length-drop i files)

-- one more is measured
pub half_more : (image : List ℕ) (files : List Placed) (table : List FileAt) (i : ℕ) (old new : FileAt) → LogsFit (pages_of image) files → table ≡ half_measured image i files → i < length table → old ≡ get_or table i old
    → IsMeasured image old new → set table i new ≡ half_measured image (i + 1) files
half_more image files table i old new fits all within is m =
    let s = split files i (omega (arith, ap length all, half_length image i files)) in
    ap (λ t. set t i new) (all ∙ ap (half_measured image i) s.whole)
    ∙ half_turn image s.front s.rest s.here i old new s.size (fits_at (pages_of image) s.front s.rest s.here (subst (LogsFit (pages_of image)) s.whole fits))
    (is ∙ ap (λ t. get_or t i old) (all ∙ ap (half_measured image i) s.whole)) m
    ∙ ap (half_measured image (i + 1)) (sym s.whole)

-- a file of more than 8,388,576 bytes fits no doubling extent, and is taken to want the largest
pub fit_large : (size : ℕ) → 8388576 < size → fit size ≡ 32768
unfolding fit
fit_large size h =
    fit_more 10 16 size (omega arith) ∙ fit_more 9 32 size (omega arith) ∙ fit_more 8 64 size (omega arith) ∙ fit_more 7 128 size (omega arith)
    ∙ fit_more 6 256 size (omega arith) ∙ fit_more 5 512 size (omega arith) ∙ fit_more 4 1024 size (omega arith) ∙ fit_more 3 2048 size (omega arith)
    ∙ fit_more 2 4096 size (omega arith) ∙ fit_more 1 8192 size (omega arith) ∙ fit_more 0 16384 size (omega arith)

pub few_large : (pages size : ℕ) → pages < 65536 → 8388576 < size → nat_le pages (2 * fit size) ≡ true
few_large pages size small h = let f = fit_large size h in le_true pages (2 * fit size) (omega arith)

few_turn : (t : Bool) (pages size max : ℕ) → has_few_of (if t then Doubling else Fixed max) pages size ≡ (not t || nat_le pages (2 * fit size))
few_turn true pages size max = refl
few_turn false pages size max = refl

-- rule 13, of a file and of its entry
pub few_same : (image : List ℕ) (f : Placed) → has_few (entry_of image f) ≡ has_few_pages image f
few_same image f = few_turn (f.header.kind == 0) f.header.max_pages (length (bytes_of image f)) f.header.max_pages

-- what holds of each entry below i, and of the new one, holds of each below i + 1
pub fits_more : (P : FileAt → Type 0) (table : List FileAt) (i : ℕ) (new : FileAt) → i < length table → P new → ((k : ℕ) (d : FileAt) → k < i → P (get_or table k d)) → (k : ℕ) (d : FileAt) → k < i + 1 → P (get_or (set table i new) k d)
fits_more P table i new within p below k d h =
    ⊎_elim
    (λ (e : k ≡ i). subst P (sym (ap (λ j. get_or (set table i new) j d) e ∙ get_or-set_same table i new d within)) p)
    (λ (ne : k ≡ i → ⊥). subst P (sym (get_or-set_other table i k new d ne)) (below k d (omega arith)))
    (cases_eq k i)
