-- An image that a table holds breaks no rule, or only that of the pages that a size needs.
use Rattle.std.proofs.Common.{◌≡◌, inl, inr, ℕ, ◌+◌, ◌≤◌, true, false, ◌&&◌, ◌==◌, nat_le, List, [], ◌∷◌, length, get_or, Option, Some, None, if◌then◌else◌, refl, ap, sym, subst, ◌∙◌, ⊎_elim, arith}
use Rattle.std.specs.List.{list_any}
use Rattle.std.specs.Option.{IfSome}
use Rattle.std.proofs.lemmas.Bool.{and_from}
use Rattle.padded.proofs.Facts.{both_parts, true_or_false, true_eq, eq_true}
use Rattle.afl_base.specs.declared.ids.PageId.{PageId}
use Rattle.afl_base.specs.declared.kind.Kind.{Kind}
use Rattle.afl_base.specs.declared.kind.Kind.TheVariants.{Doubling, Fixed}
use Rattle.coffee_layout.specs.FileBytes.{table_of}
use Rattle.coffee_layout.specs.Files.{Placed, bytes_of, extents, files_in, is_file, is_log, logs_in}
use Rattle.coffee_layout.specs.Rules.{broken_image, first_failing, fits_its_file, has_few_pages, has_fields, has_file_fields, has_regions_inside, is_clear, is_doubling, is_front_filled, is_log_of, names_its_log, names_log, same_name}
use Rattle.coffee_layout.specs.Tiling.{at_place, units_of}
use Rattle.coffee_layout.specs.Walks.{has_few}
use Rattle.coffee_layout.specs.declared.file.FileAt.{FileAt}
use Rattle.coffee_layout.proofs.Measures.{few_same}
use Rattle.coffee_merge.specs.Holding.{Entries, HoldsTable, IsIn, IsStored, has_shape, kind_number, log_number}
use Rattle.coffee_merge.proofs.Holdings.{holds_tiled}
use Rattle.coffee_merge.proofs.SoundEntries.{none_repeated, same_named}
use Rattle.coffee_merge.proofs.SoundHolders.{entry_among, entry_is, file_holder, files_few, files_rising, files_some, log_among, log_holder, placed, placed_log}
use Rattle.coffee_merge.proofs.SoundLogs.{clear_from_log, filled_from_log, regions_from_below}
use Rattle.coffee_merge.proofs.SoundRules.{KeepsRules, rules_sound}
use Rattle.coffee_merge.proofs.SoundUnits.{Among, among_any, among_filter, failing_none}

-- FIELDS

shape_fields : (kind : Kind) (pages : ℕ) → has_shape kind pages ≡ true → (if kind_number kind == 0 then is_doubling pages else nat_le 1 pages && nat_le pages 15) ≡ true
shape_fields Doubling pages e = e
shape_fields (Fixed n) pages e =
    let a = both_parts (n == pages && nat_le 1 n) (nat_le n 15) e in
    let b = both_parts (n == pages) (nat_le 1 n) a.0 in
    let same = true_eq n pages b.0 in
    subst (λ p. nat_le 1 p && nat_le p 15 ≡ true) same (and_from (nat_le 1 n) (nat_le n 15) b.1 a.1)

extent_fields : (image : List ℕ) (table : Entries) (e : Placed) → HoldsTable image table None → Among e (extents 0 (units_of image)) → has_fields e ≡ true
extent_fields image table e holds a = ⊎_elim
    (λ (t : is_file e ≡ true).
    let by = file_holder image table e holds (among_filter is_file e (extents 0 (units_of image)) a t) in
    let fields : has_file_fields e.header ≡ true = subst (λ (g : Placed). has_file_fields g.header ≡ true) (sym by.is) (shape_fields by.entry.kind by.entry.pages (holds.stored by.place by.entry by.is_in).shape) in
    rw t fields)
    (λ (t : is_file e ≡ false). ⊎_elim
    (λ (l : is_log e ≡ true).
    let by = log_holder image table e holds (among_filter is_log e (extents 0 (units_of image)) a l) in
    subst (λ g. has_fields g ≡ true) (sym by.is) refl)
    (λ (l : is_log e ≡ false). rw (t, l) refl)
    (true_or_false (is_log e)))
    (true_or_false (is_file e))

-- LOGS

named_turn : (image : List ℕ) (table : Entries) (i : ℕ) (e : FileAt) (log : Option PageId) → HoldsTable image table None → IsIn table i e → e.log ≡ log → names_its_log (logs_in (units_of image)) (placed e) ≡ true
named_turn image table i e None holds is log = rw log refl
named_turn image table i e (Some l) holds is log =
    let named : is_log_of (placed e) (placed_log e l) ≡ true =
    and_from (l.0 + 1 == log_number e.log) (same_name e.name e.name) (eq_true (l.0 + 1) (log_number e.log) (sym (ap log_number log))) (same_named e.name e.name refl) in
    let any = among_any (is_log_of (placed e)) (placed_log e l) (logs_in (units_of image)) (log_among image table i e l holds is log) named in
    rw log (rw log at any)

file_named : (image : List ℕ) (table : Entries) (f : Placed) → HoldsTable image table None → Among f (files_in (units_of image)) → names_its_log (logs_in (units_of image)) f ≡ true
file_named image table f holds a =
    let by = file_holder image table f holds a in
    subst (λ g. names_its_log (logs_in (units_of image)) g ≡ true) (sym by.is) (named_turn image table by.place by.entry by.entry.log holds by.is_in refl)

log_named : (image : List ℕ) (table : Entries) (g : Placed) → HoldsTable image table None → Among g (logs_in (units_of image)) → list_any (names_log g.page) (files_in (units_of image)) ≡ true
log_named image table g holds a =
    let by = log_holder image table g holds a in
    let page : by.log.0 ≡ g.page = sym (ap (λ (l : Placed). l.page) by.is) in
    among_any (names_log g.page) (placed by.entry) (files_in (units_of image)) (entry_among image table by.place by.entry holds by.is_in)
    (eq_true (log_number by.entry.log) (g.page + 1) (ap log_number by.logged ∙ ap (λ p. p + 1) page))

log_number_some : (log : Option PageId) (page : ℕ) → log_number log ≡ page + 1 → (l : PageId) × (log ≡ Some l) × (l.0 ≡ page)
log_number_some None page e = absurd (omega arith)
log_number_some (Some l) page e = let s : l.0 ≡ page = omega arith in (l, refl, s)

-- rule 11, of a file of the table that names a log
entry_regions : (image : List ℕ) (e : FileAt) (page : ℕ) → IsStored image e → log_number e.log ≡ page + 1 → has_regions_inside e.pages (length (bytes_of image (placed e))) (table_of image page) ≡ true
entry_regions image e page stored named =
    let l = log_number_some e.log page named in
    let size : length (bytes_of image (placed e)) ≡ e.size = ap (λ (d : FileAt). d.size) (entry_is image e stored) in
    subst (λ n. has_regions_inside e.pages n (table_of image page) ≡ true) (sym size)
    (subst (λ p. has_regions_inside e.pages e.size (table_of image p) ≡ true) l.2
    (regions_from_below image l.0.0 e.pages e.used e.size (stored.file.logged l.0 l.1) (stored.file.below l.0 l.1) stored.fits.size))

fits_turn : (image : List ℕ) (files : List Placed) (page : ℕ) → ((f : Placed) → Among f files → names_log page f ≡ true → has_regions_inside f.header.max_pages (length (bytes_of image f)) (table_of image page) ≡ true) → fits_its_file image files page ≡ true
fits_turn image [] page each = refl
fits_turn image (f ∷ fs) page each = ⊎_elim
    (λ (t : names_log page f ≡ true). rw t (each f (inl refl) t))
    (λ (t : names_log page f ≡ false). rw t (fits_turn image fs page (λ g a n. each g (inr a) n)))
    (true_or_false (names_log page f))

log_inside : (image : List ℕ) (table : Entries) (page : ℕ) → HoldsTable image table None → fits_its_file image (files_in (units_of image)) page ≡ true
log_inside image table page holds = fits_turn image (files_in (units_of image)) page
    (λ f a named.
    let by = file_holder image table f holds a in
    let number : log_number by.entry.log ≡ page + 1 = sym (ap (λ (g : Placed). g.header.log_page) by.is) ∙ true_eq f.header.log_page (page + 1) named in
    subst (λ g. has_regions_inside g.header.max_pages (length (bytes_of image g)) (table_of image page) ≡ true) (sym by.is) (entry_regions image by.entry page (holds.stored by.place by.entry by.is_in) number))

-- ALL RULES

one_entry : (table : Entries) (i j : ℕ) (e d : FileAt) → IsIn table i e → IsIn table j d → i ≡ j → e ≡ d
one_entry table i j e d is other same = some_same (sym is ∙ ap (λ k. get_or table k None) same ∙ other)
  where
    some_same : {a b : FileAt} → Some a ≡ Some b → a ≡ b
    some_same e = cc

file_named_once : (image : List ℕ) (table : Entries) (f g : Placed) → HoldsTable image table None → Among f (files_in (units_of image)) → Among g (files_in (units_of image)) → f.header.name ≡ g.header.name → f.page ≡ g.page
file_named_once image table f g holds a b same =
    let first = file_holder image table f holds a in
    let second = file_holder image table g holds b in
    let name : first.entry.name ≡ second.entry.name = sym (ap (λ (x : Placed). x.header.name) first.is) ∙ same ∙ ap (λ (x : Placed). x.header.name) second.is in
    let place = holds.names first.place second.place first.entry second.entry first.is_in second.is_in name in
    let entry = one_entry table first.place second.place first.entry second.entry first.is_in second.is_in place in
    ap (λ (x : Placed). x.page) first.is ∙ ap (λ (e : FileAt). e.page.0) entry ∙ sym (ap (λ (x : Placed). x.page) second.is)

pub holds_rules : (image : List ℕ) (table : Entries) → HoldsTable image table None → length table ≤ 32 → KeepsRules image (units_of image)
holds_rules image table holds few = record {
  tiled = holds_tiled image table None holds;
  few = omega (arith, files_few image table holds);
  names = none_repeated (files_in (units_of image)) (files_rising image table holds) (files_some image table holds) (λ f g a b same. file_named_once image table f g holds a b same);
  fields = λ e a. extent_fields image table e holds a;
  named = λ f a. file_named image table f holds a;
  logs = λ g a. log_named image table g holds a;
  filled = λ g a.
      let by = log_holder image table g holds a in
      subst (λ (l : Placed). is_front_filled (table_of image l.page) ≡ true) (sym by.is) (filled_from_log image by.log.0 by.entry.used ((holds.stored by.place by.entry by.is_in).file.logged by.log by.logged));
  inside = λ g a. log_inside image table g.page holds;
  clear = λ g a.
      let by = log_holder image table g holds a in
      subst (λ (l : Placed). is_clear image l.page ≡ true) (sym by.is) (clear_from_log image by.log.0 by.entry.used ((holds.stored by.place by.entry by.is_in).file.logged by.log by.logged));
}

-- where the entries have few pages, no rule is broken
pub held_sound : (image : List ℕ) (table : Entries) → HoldsTable image table None → length table ≤ 32 → ((i : ℕ) (e : FileAt) → IsIn table i e → has_few e ≡ true) → broken_image image ≡ None
held_sound image table holds few sparing =
    let thirteen : first_failing (has_few_pages image) (files_in (units_of image)) ≡ None = failing_none (has_few_pages image) (files_in (units_of image))
    (λ f a.
    let by = file_holder image table f holds a in
    subst (λ g. has_few_pages image g ≡ true) (sym by.is) (sym (few_same image (placed by.entry)) ∙ ap has_few (entry_is image by.entry (holds.stored by.place by.entry by.is_in)) ∙ sparing by.place by.entry by.is_in)) in
    rules_sound image holds.tiled (holds_rules image table holds few) ∙ ap (at_place 13) thirteen

place_rule : (o : Option ℕ) → IfSome (at_place 13 o) (λ bad. bad.rule ≡ 13)
place_rule None = tt
place_rule (Some p) = refl

-- and else rule 13 is
pub held_rule : (image : List ℕ) (table : Entries) → HoldsTable image table None → length table ≤ 32 → IfSome (broken_image image) (λ bad. bad.rule ≡ 13)
held_rule image table holds few = subst (λ o. IfSome o (λ bad. bad.rule ≡ 13)) (sym (rules_sound image holds.tiled (holds_rules image table holds few))) (place_rule (first_failing (has_few_pages image) (files_in (units_of image))))
