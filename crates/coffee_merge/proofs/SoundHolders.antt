-- The active extents of an image that a table holds, and the places of the table that hold them.
use Rattle.std.proofs.Common.{◌≡◌, ◌⊎◌, inl, inr, ℕ, suc, ◌+◌, ◌-◌, ◌*◌, ◌≤◌, Bool, true, false, not, ◌||◌, ◌==◌, List, [], ◌∷◌, length, Option, Some, None, if◌then◌else◌, refl, ap, sym, ◌∙◌, ⊎_elim, arith}
use Rattle.std.specs.List.{filter, list_any}
use Rattle.std.proofs.lemmas.Bool.{not-true, not_from_false}
use Rattle.std.proofs.lemmas.List.Folds.{list_any_at}
use Rattle.coffee_merge.proofs.Retired.{file_not_log as file_no_log}
use Rattle.padded.proofs.Facts.{both_parts, some_same, true_or_false, true_eq, eq_true}
use Rattle.afl_base.specs.declared.ids.PageId.{PageId}
use Rattle.afl_base.specs.declared.kind.Kind.{Kind}
use Rattle.afl_base.specs.declared.kind.Kind.TheVariants.{Doubling, Fixed}
use Rattle.coffee_header.specs.declared.header.Header.{Header}
use Rattle.coffee_layout.specs.FileBytes.{IsEnd, file_byte, file_bytes}
use Rattle.coffee_layout.specs.Files.{Placed, bytes_of, entry_of, extents, files_in, is_file, is_log, kind_of, log_of, logs_in, named_file, used_of}
use Rattle.coffee_layout.specs.Tiling.{nowhere, units_of}
use Rattle.coffee_layout.specs.declared.file.FileAt.{FileAt}
use Rattle.coffee_layout.proofs.Namings.{Each, each_filter}
use Rattle.coffee_layout.proofs.Sizes.{size_is}
use Rattle.coffee_layout.proofs.Tests.{eq_false}
use Rattle.coffee_log.specs.Logs.{IsLog}
use Rattle.coffee_merge.specs.Begun.{active_at}
use Rattle.coffee_merge.specs.Holding.{Entries, HoldsTable, IsIn, IsStored, file_flags, file_header, has_extent_at, has_shape, kind_number, log_header, log_number}
use Rattle.coffee_merge.specs.TableFiles.{file_of}
use Rattle.coffee_merge.proofs.Holdings.{HeldBy, LogAt, extent_read, file_unit, held_by, holds_tiled, in_table, log_unit}
use Rattle.coffee_merge.proofs.SoundLogs.{used_is}
use Rattle.coffee_merge.proofs.SoundRules.{extent_active, extent_in, file_active, log_active}
use Rattle.coffee_merge.proofs.SoundUnits.{Among, Rising, among_filter, begun_extent, each_all, each_pick, extents_rising, filter_among, or_second, rising_filter}

-- ENTRIES

-- the extent of a file, and that of its log
abbrev pub placed : FileAt → Placed
placed e = record { page = e.page.0; header = file_header e }

abbrev pub placed_log : FileAt → PageId → Placed
placed_log e l = record { page = l.0; header = log_header e.name }

pub kind_is : (kind : Kind) (pages : ℕ) → has_shape kind pages ≡ true → (if kind_number kind == 0 then Doubling else Fixed pages) ≡ kind
kind_is Doubling pages e = refl
kind_is (Fixed n) pages e = let same : n ≡ pages = true_eq n pages (both_parts (n == pages) _ (both_parts _ _ e).0).0 in ap Fixed (sym same)

pub log_is : (log : Option PageId) → (if log_number log == 0 then None else Some (record { 0 = log_number log - 1 })) ≡ log
log_is None = refl
log_is (Some l) =
    let some : l.0 + 1 == 0 ≡ false = eq_false (l.0 + 1) 0 (λ e. absurd (omega arith)) in
    let back : l.0 + 1 - 1 ≡ l.0 = omega arith in
    rw some (ap (λ n. Some (record { 0 = n })) back)

pub stored_end : (image : List ℕ) (e : FileAt) → IsStored image e → IsEnd (file_byte image e.page.0 e.log) (256 * e.pages - 32) e.size
stored_end image e s = let fits = s.fits.size in record { within = omega arith; zeros = s.file.zeros; last = s.last }

-- a file has as many bytes as its entry says
pub stored_size : (image : List ℕ) (e : FileAt) → IsStored image e → length (file_bytes image e.page.0 e.pages e.log) ≡ e.size
stored_size image e s = size_is image e.page.0 e.pages e.log e.size (stored_end image e s)

stored_used : (image : List ℕ) (log : Option PageId) (used : ℕ) → ((l : PageId) → log ≡ Some l → IsLog image l.0 used) → (log ≡ None → used ≡ 0) → used_of image log ≡ used
stored_used image None used logged unused = sym (unused refl)
stored_used image (Some l) used logged unused = used_is image l.0 used (logged l refl)

made : List ℕ → Kind → PageId → (pages size : ℕ) → Option PageId → ℕ → FileAt
made name kind page pages size log used = record { name = name; kind = kind; page = page; pages = pages; size = size; log = log; used = used }

made_same : (name : List ℕ) (kind k : Kind) (page : PageId) (pages size s : ℕ) (log l : Option PageId) (used u : ℕ) → kind ≡ k → size ≡ s → log ≡ l → used ≡ u → made name kind page pages size log used ≡ made name k page pages s l u
made_same name kind k page pages size s log l used u a b c d = cc

-- the entry of a file as it stands in the image is that of the table
pub entry_is : (image : List ℕ) (e : FileAt) → IsStored image e → entry_of image (placed e) ≡ e
unfolding made
entry_is image e s =
    let log = log_is e.log in
    made_same e.name (kind_of (file_header e)) e.kind e.page e.pages (length (bytes_of image (placed e))) e.size (log_of (file_header e)) e.log (used_of image (log_of (file_header e))) e.used
    (kind_is e.kind e.pages s.shape)
    (ap (λ o. length (file_bytes image e.page.0 e.pages o)) log ∙ stored_size image e s)
    log
    (ap (used_of image) log ∙ stored_used image e.log e.used (λ l is. s.file.logged l is) s.fits.unused)

-- and so is its file
pub named_is : (image : List ℕ) (e : FileAt) → IsStored image e → named_file image (placed e) ≡ file_of image e
named_is image e s =
    ap (λ k. record { name = e.name; kind = k; bytes = bytes_of image (placed e) }) (kind_is e.kind e.pages s.shape)
    ∙ ap (λ o. record { name = e.name; kind = e.kind; bytes = file_bytes image e.page.0 e.pages o }) (log_is e.log)

-- HOLDERS

-- an extent is that of a file of the table
pub record IsFileOf (table : Entries) (f : Placed) : Type 0 where
  pub place : ℕ
  pub entry : FileAt
  pub is_in : IsIn table place entry
  pub is : f ≡ placed entry

-- an extent is the log of a file of the table
pub record IsLogOf (table : Entries) (g : Placed) : Type 0 where
  pub place : ℕ
  pub entry : FileAt
  pub log : PageId
  pub is_in : IsIn table place entry
  pub logged : entry.log ≡ Some log
  pub is : g ≡ placed_log entry log

placed_at : ℕ → Header → Placed
placed_at page h = record { page = page; header = h }

placed_same : (p q : ℕ) (g k : Header) → p ≡ q → g ≡ k → placed_at p g ≡ placed_at q k
placed_same p q g k a b = cc

holder : (image : List ℕ) (table : Entries) (page : ℕ) (h : Header) → HoldsTable image table None → active_at (units_of image) page ≡ Some h → IsFileOf table (record { page = page; header = h }) ⊎ IsLogOf table (record { page = page; header = h })
unfolding placed_at
holder image table page h holds active = ⊎_elim
    (λ (by : HeldBy table page). ⊎_elim
    (λ (here : by.entry.page.0 ≡ page).
    let header : h ≡ file_header by.entry = some_same h (file_header by.entry) (sym active ∙ ap (active_at (units_of image)) (sym here) ∙ holds.files by.place by.entry by.is_in) in
    inl (record { place = by.place; entry = by.entry; is_in = by.is_in; is = placed_same page by.entry.page.0 h (file_header by.entry) (sym here) header }))
    (λ (at : LogAt by.entry page).
    let header : h ≡ log_header by.entry.name = some_same h (log_header by.entry.name) (sym active ∙ ap (active_at (units_of image)) (sym at.place) ∙ holds.logs by.place by.entry at.log by.is_in at.is) in
    inr (record { place = by.place; entry = by.entry; log = at.log; is_in = by.is_in; logged = at.is; is = placed_same page at.log.0 h (log_header by.entry.name) (sym at.place) header }))
    (extent_read page by.entry by.extent))
    (λ (no : has_extent_at page None ≡ true). cc)
    (held_by table None page (holds.only page h active))

pub file_is : (log : Option PageId) → (file_flags log == 3 || file_flags log == 11) ≡ true
file_is None = refl
file_is (Some l) = refl

-- each active file is one of the table
pub file_holder : (image : List ℕ) (table : Entries) (f : Placed) → HoldsTable image table None → Among f (files_in (units_of image)) → IsFileOf table f
file_holder image table f holds a =
    let b = filter_among is_file f (extents 0 (units_of image)) a in
    ⊎_elim
    (λ (x : IsFileOf table f). x)
    (λ (x : IsLogOf table f). let none : is_file f ≡ false = ap is_file x.is in let file = b.1 in cc)
    (holder image table f.page f.header holds (extent_active nowhere image (units_of image) f (holds_tiled image table None holds) b.0 (file_active f b.1)))

-- and each active log one of a file's
pub log_holder : (image : List ℕ) (table : Entries) (g : Placed) → HoldsTable image table None → Among g (logs_in (units_of image)) → IsLogOf table g
log_holder image table g holds a =
    let b = filter_among is_log g (extents 0 (units_of image)) a in
    ⊎_elim
    (λ (x : IsFileOf table g). absurd (file_no_log x.entry.log (sym (ap (λ (f : Placed). f.header.flags) x.is) ∙ true_eq g.header.flags 19 b.1)))
    (λ (x : IsLogOf table g). x)
    (holder image table g.page g.header holds (extent_active nowhere image (units_of image) g (holds_tiled image table None holds) b.0 (log_active g b.1)))

-- each entry of the table is an active file, and its log an active log
pub entry_among : (image : List ℕ) (table : Entries) (i : ℕ) (e : FileAt) → HoldsTable image table None → IsIn table i e → Among (placed e) (files_in (units_of image))
entry_among image table i e holds is =
    among_filter is_file (placed e) (extents 0 (units_of image)) (begun_extent (units_of image) 0 e.page.0 (file_header e) (file_unit image table None i e holds is)) (file_is e.log)

pub log_among : (image : List ℕ) (table : Entries) (i : ℕ) (e : FileAt) (l : PageId) → HoldsTable image table None → IsIn table i e → e.log ≡ Some l → Among (placed_log e l) (logs_in (units_of image))
log_among image table i e l holds is log =
    among_filter is_log (placed_log e l) (extents 0 (units_of image)) (begun_extent (units_of image) 0 l.0 (log_header e.name) (log_unit image table None i e l holds is log)) refl

-- COUNTS

begins : ℕ → Option FileAt → Bool
begins page None = false
begins page (Some e) = e.page.0 == page

begins_one : (p q : ℕ) (o : Option FileAt) → begins p o ≡ true → begins q o ≡ true → p ≡ q
unfolding begins
begins_one p q None a b = cc
begins_one p q (Some e) a b = let x = true_eq e.page.0 p a in let y = true_eq e.page.0 q b in omega arith

filter_all : (test : Placed → Bool) (es : List Placed) → Each (λ e. test e ≡ true) es → filter test es ≡ es
filter_all test [] ps = refl
filter_all test (e ∷ es) ps = rw (ps.0) (ap (λ t. e ∷ t) (filter_all test es ps.1))

-- at most one file begins where an entry does
one_less : (o : Option FileAt) (fs : List Placed) → Rising fs → Each (λ f. 1 ≤ f.header.max_pages) fs → length fs ≤ suc (length (filter (λ f. not (begins f.page o)) fs))
one_less o [] r some = omega arith
one_less o (x ∷ xs) r some = ⊎_elim
    (λ (t : begins x.page o ≡ true).
    let here = some.0 in
    let all = filter_all (λ f. not (begins f.page o)) xs (each_all (λ f. not (begins f.page o) ≡ true) xs (λ g a.
    let behind = each_pick (λ f. x.page + x.header.max_pages ≤ f.page) g xs r.0 a in
    not_from_false (begins g.page o) (⊎_elim (λ (s : begins g.page o ≡ true). let same = begins_one x.page g.page o t s in absurd (omega arith)) (λ (s : begins g.page o ≡ false). s) (true_or_false (begins g.page o))))) in
    rw (t, all) (omega arith))
    (λ (t : begins x.page o ≡ false). let more = one_less o xs r.1 some.1 in rw t (omega arith))
    (true_or_false (begins x.page o))

count : (table : Entries) (fs : List Placed) → Rising fs → Each (λ f. 1 ≤ f.header.max_pages) fs → Each (λ f. list_any (begins f.page) table ≡ true) fs → length fs ≤ length table
count [] [] r some held = omega arith
count [] (x ∷ xs) r some held = let h = held.0 in cc
count (o ∷ os) fs r some held =
    let others = filter (λ f. not (begins f.page o)) fs in
    let less = one_less o fs r some in
    let more = count os (filter (λ f. not (begins f.page o)) fs) (rising_filter (λ f. not (begins f.page o)) fs r) (each_filter (λ f. 1 ≤ f.header.max_pages) (λ f. not (begins f.page o)) fs some)
    (each_all (λ f. list_any (begins f.page) os ≡ true) (filter (λ f. not (begins f.page o)) fs) (λ g a.
    let b = filter_among (λ f. not (begins f.page o)) g fs a in
    or_second (begins g.page o) (list_any (begins g.page) os) (each_pick (λ f. list_any (begins f.page) (o ∷ os) ≡ true) g fs held b.0) (not-true (begins g.page o) b.1))) in
    omega arith

pub files_rising : (image : List ℕ) (table : Entries) → HoldsTable image table None → Rising (files_in (units_of image))
files_rising image table holds = rising_filter is_file (extents 0 (units_of image)) (extents_rising nowhere image (units_of image) 0 false (holds_tiled image table None holds).keep)

pub files_some : (image : List ℕ) (table : Entries) → HoldsTable image table None → Each (λ f. 1 ≤ f.header.max_pages) (files_in (units_of image))
files_some image table holds = each_all (λ f. 1 ≤ f.header.max_pages) (files_in (units_of image))
    (λ f a. (extent_in nowhere image (units_of image) f (holds_tiled image table None holds) (filter_among is_file f (extents 0 (units_of image)) a).0).some)

-- there are no more active files than places of the table
pub files_few : (image : List ℕ) (table : Entries) → HoldsTable image table None → length (files_in (units_of image)) ≤ length table
unfolding begins
files_few image table holds =
    count table (files_in (units_of image)) (files_rising image table holds) (files_some image table holds)
    (each_all (λ f. list_any (begins f.page) table ≡ true) (files_in (units_of image)) (λ f a.
    let by = file_holder image table f holds a in
    let here : by.entry.page.0 ≡ f.page = sym (ap (λ (g : Placed). g.page) by.is) in
    list_any_at (begins f.page) table by.place None (in_table table by.place by.entry by.is_in) (ap (begins f.page) by.is_in ∙ eq_true by.entry.page.0 f.page here)))
