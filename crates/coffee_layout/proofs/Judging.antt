-- The rules in their order, and what the first of them leaves to the others.
use Rattle.std.proofs.Common.{length, ◌*◌, ◌≡◌, ◌⊎◌, inl, inr, take, drop, map, ℕ, ◌+◌, ◌-◌, ◌≤◌, Bool, true, false, cond, not, ◌||◌, ◌==◌, List, [], ◌∷◌, ◌++◌, Option, None, Some, if◌then◌else◌, ⊎_elim, refl, ap, sym, ◌∙◌, arith}
use Rattle.std.proofs.lemmas.List.{append-nil, take-append-drop}
use Rattle.std.specs.List.{filter, list_any}
use Rattle.std.specs.Option.{option_map, option_or}
use Rattle.padded.proofs.Facts.{both_parts, either_part, true_or_false, true_eq}
use Rattle.afl_base.specs.declared.ids.PageId.{PageId}
use Rattle.coffee_layout.specs.Files.{Placed, entry_with, extents, files_in, is_file, is_log, log_of, logs_in}
use Rattle.coffee_layout.specs.Rules.{broken_files, broken_image, first_failing, first_page, first_repeated, first_some, has_fields, has_log_fields, is_log_of, names_its_log, same_name}
use Rattle.coffee_layout.specs.Tiling.{IsTiled, KeepRules, at_place, broken_tiling, nowhere, units_of}
use Rattle.coffee_layout.specs.Units.{pages_of, total}
use Rattle.coffee_layout.specs.Walks.{IsSketched, LogFits, LogsFit, measured_rules, named_rules, page_id}
use Rattle.coffee_layout.specs.declared.unit.Unit.{Unit}
use Rattle.coffee_layout.specs.declared.unit.Unit.TheVariants.{Free, Isolated, Extent}
use Rattle.coffee_layout.specs.declared.unit.BadImage.{BadImage}
use Rattle.coffee_layout.specs.declared.file.FileAt.{FileAt}
use Rattle.coffee_layout.proofs.Entries.{failing_filter}
use Rattle.coffee_layout.proofs.Namings.{Each}
use Rattle.coffee_layout.proofs.Tilings.{tiled_unbroken}
use Rattle.coffee_layout.proofs.Tests.{false_eq, or_none}

-- a rule of logs, judged at each extent
pub place_logs : (rule : ℕ) (page : Option PageId) (r : Option BadImage) (test : Placed → Bool) (us : List Unit) → ((place : Option ℕ) → page ≡ option_map page_id place → r ≡ at_place rule place)
    → page ≡ option_map page_id (first_failing (λ e. not (is_log e) || test e) (extents 0 us)) → r ≡ at_place rule (first_failing test (logs_in us))
place_logs rule page r test us f is = f (first_failing test (logs_in us)) (is ∙ ap (option_map page_id) (failing_filter test (extents 0 us)))

pub or_nothing : {A : Type 0} (x : Option A) → option_or x None ≡ x
or_nothing None = refl
or_nothing (Some x) = refl

some_append : (xs ys : List (Option BadImage)) → first_some (xs ++ ys) ≡ option_or (first_some xs) (first_some ys)
some_append [] ys = refl
some_append (None ∷ xs) ys = some_append xs ys
some_append (Some x ∷ xs) ys = refl

-- the rules 5 to 13 in three parts
pub three_parts : (image : List ℕ) (us : List Unit) → broken_files image us ≡ option_or (at_place 5 (first_page (drop 32 (files_in us)))) (option_or (first_some (named_rules image us)) (first_some (measured_rules image us)))
three_parts image us = ap (option_or (at_place 5 (first_page (drop 32 (files_in us))))) (some_append (named_rules image us) (measured_rules image us))

-- each extent ends inside the flash
abbrev pub EndsInside : ℕ → Placed → Type 0
EndsInside pages e = e.page + e.header.max_pages ≤ pages

each_inside : (building : ℕ → Bool) (image : List ℕ) (page pages : ℕ) (after_free : Bool) (us : List Unit) → KeepRules building image page after_free us → page + total us ≤ pages → Each (EndsInside pages) (extents page us)
each_inside building image page pages after_free [] k h = tt
each_inside building image page pages after_free (Free ∷ us) k h = each_inside building image (page + 1) pages true us k.2 (omega arith)
each_inside building image page pages after_free (Isolated ∷ us) k h = each_inside building image (page + 1) pages false us k.2 (omega arith)
each_inside building image page pages after_free (Extent g ∷ us) k h = (omega arith, each_inside building image (page + g.max_pages) pages false us k.2 (omega arith))

keep_turn : (t : Bool) (p : ℕ) (o : Option ℕ) → (if t then o else Some p) ≡ None → (t ≡ true) × (o ≡ None)
keep_turn true p o e = (refl, e)
keep_turn false p o e = cc

-- where none fails, each passes
pub each_passes : (test : Placed → Bool) (es : List Placed) → first_failing test es ≡ None → Each (λ e. test e ≡ true) es
each_passes test [] h = tt
each_passes test (e ∷ es) h = let k = keep_turn (test e) e.page (first_failing test es) h in (k.0, each_passes test es k.1)

each_both : (P Q : Placed → Type 0) (es : List Placed) → Each P es → Each Q es → Each (λ e. P e × Q e) es
each_both P Q [] p q = tt
each_both P Q (e ∷ es) p q = ((p.0, q.0), each_both P Q es p.1 q.1)

pub each_map : (P Q : Placed → Type 0) (es : List Placed) → ((e : Placed) → P e → Q e) → Each P es → Each Q es
each_map P Q [] f p = tt
each_map P Q (e ∷ es) f p = (f e p.0, each_map P Q es f p.1)

test_turn : (P : Placed → Type 0) (t : Bool) (e : Placed) (es : List Placed) → (t ≡ true → P e) → Each P es → Each P (cond t (e ∷ es) es)
test_turn P true e es p ps = (p refl, ps)
test_turn P false e es p ps = ps

-- what holds of those that pass the test
each_tested : (P : Placed → Type 0) (test : Placed → Bool) (es : List Placed) → Each (λ e. test e ≡ true → P e) es → Each P (filter test es)
each_tested P test [] ps = tt
each_tested P test (e ∷ es) ps = test_turn P (test e) e (filter test es) ps.0 (each_tested P test es ps.1)

-- one that passes, and what holds of it
any_pick : (P : Placed → Type 0) (R : Type 0) (test : Placed → Bool) (es : List Placed) → list_any test es ≡ true → Each P es → ((e : Placed) → test e ≡ true → P e → R) → R
any_pick P R test [] h ps f = cc
any_pick P R test (e ∷ es) h ps f = ⊎_elim (λ (t : test e ≡ true). f e t ps.0) (λ (t : list_any test es ≡ true). any_pick P R test es t ps.1 f) (either_part (test e) (list_any test es) h)

-- a log has 16 pages
log_pages : (e : Placed) → has_fields e ≡ true → is_log e ≡ true → e.header.max_pages ≡ 16
log_pages e fields log =
    let flags : e.header.flags ≡ 19 = true_eq e.header.flags 19 log in
    let file : is_file e ≡ false = rw flags refl in
    let all : has_log_fields e.header ≡ true = (rw (file, log) at fields) in
    true_eq e.header.max_pages 16 (both_parts _ _ all).1

logs_inside : (image : List ℕ) (us : List Unit) → IsTiled nowhere image us → first_failing has_fields (extents 0 us) ≡ None → Each (λ l. l.page + 16 ≤ pages_of image) (logs_in us)
logs_inside image us t fields =
    let pages = pages_of image in
    each_tested (λ l. l.page + 16 ≤ pages_of image) is_log (extents 0 us)
    (each_map (λ e. EndsInside (pages_of image) e × (has_fields e ≡ true)) (λ e. is_log e ≡ true → e.page + 16 ≤ pages_of image) (extents 0 us)
    (λ e p log. let size = log_pages e p.1 log in omega (arith, p.0, size))
    (each_both (EndsInside (pages_of image)) (λ e. has_fields e ≡ true) (extents 0 us)
    (each_inside nowhere image 0 (pages_of image) false us t.keep (omega (arith, t.whole)))
    (each_passes has_fields (extents 0 us) fields)))

log_fits_one : (pages n : ℕ) → (n ≡ 0) ⊎ (n - 1 + 16 ≤ pages) → LogFits pages (if n == 0 then None else Some (page_id (n - 1)))
log_fits_one pages n h =
    ⊎_elim
    (λ (t : n == 0 ≡ true). rw t tt)
    (λ (t : n == 0 ≡ false). rw t (⊎_elim (λ (z : n ≡ 0). absurd (false_eq n 0 t z)) (λ (l : n - 1 + 16 ≤ pages). l) h))
    (true_or_false (n == 0))

-- a file that names its log: the log lies inside the flash
file_log_fits : (pages : ℕ) (logs : List Placed) (f : Placed) → Each (λ l. l.page + 16 ≤ pages) logs → names_its_log logs f ≡ true → LogFits pages (log_of f.header)
file_log_fits pages logs f inside named = log_fits_one pages f.header.log_page
    (⊎_elim
    (λ (t : f.header.flags == 3 ≡ true). inl (true_eq f.header.log_page 0 (rw t at named)))
    (λ (t : f.header.flags == 3 ≡ false). inr (any_pick (λ l. l.page + 16 ≤ pages) (f.header.log_page - 1 + 16 ≤ pages) (is_log_of f) logs (rw t at named) inside
    (λ l is at. let here = true_eq (l.page + 1) f.header.log_page (both_parts (l.page + 1 == f.header.log_page) (same_name l.header.name f.header.name) is).0 in omega (arith, at, here))))
    (true_or_false (f.header.flags == 3)))

all_logs_fit : (pages : ℕ) (logs files : List Placed) → Each (λ l. l.page + 16 ≤ pages) logs → Each (λ f. names_its_log logs f ≡ true) files → LogsFit pages files
all_logs_fit pages logs [] inside named = tt
all_logs_fit pages logs (f ∷ fs) inside named = (file_log_fits pages logs f inside named.0, all_logs_fit pages logs fs inside named.1)

-- where the rules 1 to 4, 7 and 8 hold, the logs that files name lie inside the flash
pub logs_fit : (image : List ℕ) (us : List Unit) → IsTiled nowhere image us → first_failing has_fields (extents 0 us) ≡ None → first_failing (names_its_log (logs_in us)) (files_in us) ≡ None → LogsFit (pages_of image) (files_in us)
logs_fit image us t fields named =
    all_logs_fit (pages_of image) (logs_in us) (files_in us) (logs_inside image us t fields) (each_passes (names_its_log (logs_in us)) (files_in us) named)

pub place_none : (rule : ℕ) (o : Option ℕ) → at_place rule o ≡ None → o ≡ None
place_none rule None e = refl
place_none rule (Some p) e = cc

pub page_none : (files : List Placed) → first_page files ≡ None → files ≡ []
page_none [] e = refl
page_none (f ∷ fs) e = cc

-- where rule 5 holds, the entries are those of all files
pub entries_all : (entries : List FileAt) (extra : Option PageId) (files : List Placed) → IsSketched entries extra files → at_place 5 (first_page (drop 32 files)) ≡ None → entries ≡ map (λ f. entry_with f 0 0) files
entries_all entries extra files s five =
    let none : drop 32 files ≡ [] = page_none (drop 32 files) (place_none 5 (first_page (drop 32 files)) five) in
    let all : take 32 files ≡ files = sym (append-nil (take 32 files)) ∙ ap (λ t. take 32 files ++ t) (sym none) ∙ take-append-drop 32 files in
    s.first ∙ ap (map (λ f. entry_with f 0 0)) all

-- where the rules 6 to 10 hold, the logs of the files lie inside the flash
pub named_fit : (image : List ℕ) (us : List Unit) → IsTiled nowhere image us → first_some (named_rules image us) ≡ None → LogsFit (pages_of image) (files_in us)
named_fit image us tiled h =
    let seven = or_none (at_place 7 (first_failing has_fields (extents 0 us))) _ (or_none (at_place 6 (first_repeated [] (files_in us))) _ h).1 in
    let eight = or_none (at_place 8 (first_failing (names_its_log (logs_in us)) (files_in us))) _ seven.1 in
    logs_fit image us tiled (place_none 7 _ seven.0) (place_none 8 _ eight.0)

-- what each part says of the whole
pub image_untiled : (image : List ℕ) (bad : BadImage) → broken_tiling nowhere image ≡ Some bad → broken_image image ≡ Some bad
unfolding broken_image
image_untiled image bad e = rw e refl

pub image_tiled : (image : List ℕ) → broken_tiling nowhere image ≡ None
    → broken_image image ≡ option_or (at_place 5 (first_page (drop 32 (files_in (units_of image))))) (option_or (first_some (named_rules image (units_of image))) (first_some (measured_rules image (units_of image))))
unfolding broken_image
image_tiled image e = ap (λ o. option_or o (broken_files image (units_of image))) e ∙ three_parts image (units_of image)

pub image_named : (image : List ℕ) (bad : BadImage) → broken_tiling nowhere image ≡ None → at_place 5 (first_page (drop 32 (files_in (units_of image)))) ≡ None → first_some (named_rules image (units_of image)) ≡ Some bad
    → broken_image image ≡ Some bad
image_named image bad tiling five named =
    image_tiled image tiling ∙ ap (λ o. option_or o (option_or (first_some (named_rules image (units_of image))) (first_some (measured_rules image (units_of image))))) five
    ∙ ap (λ o. option_or o (first_some (measured_rules image (units_of image)))) named

pub image_measured : (image : List ℕ) (r : Option BadImage) → broken_tiling nowhere image ≡ None → at_place 5 (first_page (drop 32 (files_in (units_of image)))) ≡ None → first_some (named_rules image (units_of image)) ≡ None
    → first_some (measured_rules image (units_of image)) ≡ r → broken_image image ≡ r
image_measured image r tiling five named measured =
    image_tiled image tiling ∙ ap (λ o. option_or o (option_or (first_some (named_rules image (units_of image))) (first_some (measured_rules image (units_of image))))) five
    ∙ ap (λ o. option_or o (first_some (measured_rules image (units_of image)))) named ∙ measured

-- a sound image is tiled by its units
pub sound_tiled : (image : List ℕ) → 256 * pages_of image ≡ length image → broken_image image ≡ None → IsTiled nowhere image (units_of image)
unfolding broken_image
sound_tiled image whole e = tiled_unbroken nowhere image whole (or_none (broken_tiling nowhere image) (broken_files image (units_of image)) e).0
