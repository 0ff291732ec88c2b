-- The table of the files of a sound image holds it.
use Rattle.std.proofs.Common.{◌≡◌, ◌⊎◌, inl, inr, ℕ, ◌+◌, ◌-◌, ◌*◌, ◌≤◌, Bool, true, false, ◌&&◌, ◌||◌, ◌==◌, nat_le, nat_lt, List, [], ◌∷◌, length, Option, Some, None, if◌then◌else◌, refl, ap, sym, subst, ◌∙◌, ⊎_elim, arith}
use Rattle.std.proofs.lemmas.Bool.{or_right}
use Rattle.std.proofs.lemmas.List.{length-map}
use Rattle.afl_base.specs.Image.{page_bytes}
use Rattle.afl_base.specs.declared.ids.PageId.{PageId}
use Rattle.afl_base.specs.declared.kind.Kind.TheVariants.{Doubling, Fixed}
use Rattle.coffee_header.specs.declared.header.Header.{Header}
use Rattle.coffee_layout.specs.FileBytes.{table_of, used_in}
use Rattle.coffee_layout.specs.Files.{FitsIn, Placed, bytes_of, entry_of, extents, files_in, is_file, is_log, listed, log_of, logs_in, used_of}
use Rattle.coffee_layout.specs.Rules.{broken_image, is_doubling, names_log}
use Rattle.coffee_layout.specs.Tiling.{KeepRules, broken_suffix, broken_unit, nowhere, units_of}
use Rattle.padded.specs.Zeros.{is_zeros}
use Rattle.coffee_layout.specs.Units.{is_active_flags, pages_of}
use Rattle.coffee_layout.specs.Walks.{has_few, is_its_log}
use Rattle.coffee_layout.specs.declared.file.FileAt.{FileAt}
use Rattle.coffee_layout.specs.declared.unit.Unit.{Unit}
use Rattle.coffee_layout.specs.declared.unit.Unit.TheVariants.{Free, Isolated, Extent}
use Rattle.coffee_layout.proofs.Entries.{its_log}
use Rattle.coffee_layout.proofs.Measures.{few_same}
use Rattle.coffee_layout.proofs.Namings.{Each}
use Rattle.coffee_layout.proofs.Spelling.{spells_file}
use Rattle.coffee_layout.proofs.Tests.{none_else}
use Rattle.coffee_layout.proofs.Tilings.{unbroken_tiled}
use Rattle.coffee_log.specs.FileChanges.{Apart, BeginsBelow}
use Rattle.coffee_log.specs.Logs.{IsLog}
use Rattle.coffee_merge.specs.Begun.{active_at}
use Rattle.coffee_merge.specs.Holding.{HoldsTable, IsIn, IsStored, file_header, has_shape, is_held, log_header}
use Rattle.coffee_merge.proofs.Begun.{active_begun}
use Rattle.coffee_merge.proofs.Holdings.{extent_here, held_in}
use Rattle.coffee_merge.proofs.SoundEntries.{among_at, at_among, at_entry, entry_at, one_place, table_by}
use Rattle.coffee_merge.proofs.SoundLogs.{below_from_regions, log_from_rules, used_few}
use Rattle.coffee_merge.proofs.SoundRules.{KeepsRules, entry_header, entry_log, extent_active, extent_in, file_active, file_fields, file_no_log, log_active, log_fields, one_file, regions_here, sound_rules}
use Rattle.coffee_merge.proofs.SoundUnits.{Among, among_filter, any_among, begun_extent, each_pick, extents_rising, filter_among, two_among}
use Rattle.padded.proofs.Facts.{eq_true}

-- FILES

shape_turn : (t : Bool) (pages : ℕ) → (if t then is_doubling pages else nat_le 1 pages && nat_le pages 15) ≡ true → has_shape (if t then Doubling else Fixed pages) pages ≡ true
shape_turn true pages e = e
shape_turn false pages e = rw (eq_true pages pages refl) e

used_turn : (image : List ℕ) (o : Option PageId) → used_of image o ≤ 30
used_turn image None = omega arith
used_turn image (Some l) = used_few (table_of image l.0)

-- the log of a file: its extent, which has 16 pages
log_extent : (image : List ℕ) (us : List Unit) (g : Placed) → KeepsRules image us → Among g (logs_in us) → (Among g (extents 0 us)) × (g.header.max_pages ≡ 16) × (g.page + 16 ≤ pages_of image)
log_extent image us g r a =
    let b = filter_among is_log g (extents 0 us) a in
    let size : g.header.max_pages ≡ 16 = ap (λ (h : Header). h.max_pages) (log_fields g (r.fields g b.0) b.1) in
    let at = extent_in nowhere image us g r.tiled b.0 in
    (b.0, size, omega (arith, at.inside, r.tiled.whole))

fits : (image : List ℕ) (us : List Unit) (f : Placed) → KeepsRules image us → Among f (files_in us) → FitsIn (pages_of image) (entry_of image f)
fits image us f r a =
    let b = filter_among is_file f (extents 0 us) a in
    let at = extent_in nowhere image us f r.tiled b.0 in
    let some = at.some in
    let short = (spells_file image f.page f.header.max_pages (log_of f.header)).short in
    record {
      some = some;
      placed = omega (arith, at.inside, r.tiled.whole);
      size = omega arith;
      log = λ l is. let h = entry_log image us f l r a is in let g = log_extent image us h.0.log r h.0.is in let p = h.1 in omega (arith, g.2);
      used = used_turn image (log_of f.header);
      unused = λ none. ap (used_of image) none;
    }

apart : (image : List ℕ) (us : List Unit) (f : Placed) (l : PageId) → KeepsRules image us → Among f (files_in us) → log_of f.header ≡ Some l → Apart f.page f.header.max_pages l.0
apart image us f l r a is p from to behind before =
    let b = filter_among is_file f (extents 0 us) a in
    let h = entry_log image us f l r a is in
    let page = h.1 in
    let g = log_extent image us h.0.log r h.0.is in
    let size = g.1 in
    ⊎_elim {C = ⊥}
    (λ (s : f ≡ h.0.log). file_no_log f b.1 (ap is_log s ∙ (filter_among is_log h.0.log (extents 0 us) h.0.is).1))
    (λ (o : (f.page + f.header.max_pages ≤ h.0.log.page) ⊎ (h.0.log.page + h.0.log.header.max_pages ≤ f.page)).
    ⊎_elim {C = ⊥} (λ (x : f.page + f.header.max_pages ≤ h.0.log.page). absurd (omega arith)) (λ (x : h.0.log.page + h.0.log.header.max_pages ≤ f.page). absurd (omega arith)) o)
    (two_among f h.0.log (extents 0 us) (extents_rising nowhere image us 0 false r.tiled.keep) b.0 g.0)

logged : (image : List ℕ) (us : List Unit) (f : Placed) (l : PageId) → KeepsRules image us → Among f (files_in us) → log_of f.header ≡ Some l → IsLog image l.0 (used_of image (log_of f.header))
logged image us f l r a is =
    let h = entry_log image us f l r a is in
    subst (λ o. IsLog image l.0 (used_of image o)) (sym is)
    (subst (λ p. IsLog image p (used_in (table_of image p))) h.1 (log_from_rules image h.0.log.page (r.filled h.0.log h.0.is) (r.clear h.0.log h.0.is)))

below : (image : List ℕ) (us : List Unit) (f : Placed) (l : PageId) → KeepsRules image us → Among f (files_in us) → log_of f.header ≡ Some l → BeginsBelow image l.0 (used_of image (log_of f.header)) (length (bytes_of image f))
below image us f l r a is =
    let h = entry_log image us f l r a is in
    let page = h.0.page in
    let named : names_log h.0.log.page f ≡ true = eq_true f.header.log_page (h.0.log.page + 1) (sym page) in
    let regions = regions_here image (files_in us) h.0.log.page f a named (λ g b other. one_file image us h.0.log.page f g r a b named other) (r.inside h.0.log h.0.is) in
    subst (λ o. BeginsBelow image l.0 (used_of image o) (length (bytes_of image f))) (sym is)
    (subst (λ p. BeginsBelow image p (used_in (table_of image p)) (length (bytes_of image f))) h.1
    (below_from_regions image h.0.log.page f.header.max_pages (length (bytes_of image f)) regions (log_from_rules image h.0.log.page (r.filled h.0.log h.0.is) (r.clear h.0.log h.0.is))))

-- each file of a sound image is stored as its entry says
pub file_stored : (image : List ℕ) (us : List Unit) (f : Placed) → KeepsRules image us → Among f (files_in us) → IsStored image (entry_of image f)
file_stored image us f r a =
    let b = filter_among is_file f (extents 0 us) a in
    let s = spells_file image f.page f.header.max_pages (log_of f.header) in
    record {
      fits = fits image us f r a;
      shape = shape_turn (f.header.kind == 0) f.header.max_pages (file_fields f (r.fields f b.0) b.1).shape;
      file = record {
        apart = λ l is. apart image us f l r a is;
        logged = λ l is. logged image us f l r a is;
        below = λ l is. below image us f l r a is;
        zeros = λ p from to. s.after p from to;
      };
      last = λ some z. s.last some (sym (s.here (length (bytes_of image f) - 1) (omega arith)) ∙ z);
    }

-- ACTIVE EXTENTS

none_building : (zeros : Bool) (pages page : ℕ) (free : Bool) (h : Header) → broken_unit false zeros pages page free (Some (Extent h)) ≡ None → h.flags == 2 ≡ false
none_building zeros pages page free h e = turn (h.flags == 2) (none_else (h.flags == 2 && true) 1 (if h.max_pages == 0 || nat_lt pages (page + h.max_pages) then Some 2 else broken_suffix page free) e).0
  where
    turn : (t : Bool) → t && true ≡ false → t ≡ false
    turn true e = cc
    turn false e = refl

-- nothing is under construction
finished : (image : List ℕ) (us : List Unit) (page : ℕ) (free : Bool) → KeepRules nowhere image page free us → Each (λ e. e.header.flags == 2 ≡ false) (extents page us)
finished image [] page free k = tt
finished image (Free ∷ us) page free k = finished image us (page + 1) true k.2
finished image (Isolated ∷ us) page free k = finished image us (page + 1) false k.2
finished image (Extent h ∷ us) page free k = (
  none_building (is_zeros (page_bytes image page)) (pages_of image) page free h (sym (ap (broken_unit false (is_zeros (page_bytes image page)) (pages_of image) page free) k.0) ∙ k.1),
  finished image us (page + h.max_pages) false k.2,
)

flags_cases : (flags : ℕ) → is_active_flags flags ≡ true → flags == 2 ≡ false → (flags == 3 || flags == 11 ≡ true) ⊎ (flags == 19 ≡ true)
flags_cases flags e f = turn (flags == 2) (flags == 3) (flags == 11) (flags == 19) e f
  where
    turn : (a b c d : Bool) → a || b || c || d ≡ true → a ≡ false → (b || c ≡ true) ⊎ (d ≡ true)
    turn true b c d e f = cc
    turn false true c d e f = inl refl
    turn false false true d e f = inl refl
    turn false false false d e f = inr e

-- an active extent is a file's or a log's, and is held
held : (image : List ℕ) (us : List Unit) (n page : ℕ) (h : Header) → KeepsRules image us → active_at us page ≡ Some h → is_held (table_by (entry_of image) (files_in us) n) None page ≡ true
held image us n page h r e =
    let active = active_begun us page h e in
    let a = begun_extent us 0 page h active.0 in
    ⊎_elim
    (λ (file : is_file (record { page = page; header = h }) ≡ true).
    let b = among_filter is_file (record { page = page; header = h }) (extents 0 us) a file in
    let i = among_at (files_in us) (record { page = page; header = h }) b in
    held_in (table_by (entry_of image) (files_in us) n) None i.0 (entry_of image (record { page = page; header = h })) page (entry_at (entry_of image) (files_in us) n i.0 (record { page = page; header = h }) i.1)
    (extent_here page (entry_of image (record { page = page; header = h })) refl))
    (λ (log : is_log (record { page = page; header = h }) ≡ true).
    let b = among_filter is_log (record { page = page; header = h }) (extents 0 us) a log in
    let f = any_among (names_log page) (files_in us) (r.logs (record { page = page; header = h }) b) in
    let i = among_at (files_in us) f.0 f.1 in
    held_in (table_by (entry_of image) (files_in us) n) None i.0 (entry_of image f.0) page (entry_at (entry_of image) (files_in us) n i.0 f.0 i.1)
    (or_right (f.0.page == page) (is_its_log page (log_of f.0.header)) (its_log page f.0.header ∙ f.2)))
    (flags_cases h.flags active.1 (each_pick (λ g. g.header.flags == 2 ≡ false) (record { page = page; header = h }) (extents 0 us) (finished image us 0 false r.tiled.keep) a))

-- THE TABLE

no_draft : (d : FileAt) → None ≡ Some d → ⊥
no_draft d e = cc

pub table_holds : (image : List ℕ) (n : ℕ) → 256 * pages_of image ≡ length image → KeepsRules image (units_of image) → HoldsTable image (table_by (entry_of image) (files_in (units_of image)) n) None
table_holds image n whole r =
    record {
      whole = whole;
      tiled = unbroken_tiled nowhere image (units_of image) r.tiled;
      files = λ i e is.
          let at = at_entry (entry_of image) (files_in (units_of image)) n i e is in
          let a = at_among (files_in (units_of image)) i at.0 at.1 in
          let b = filter_among is_file at.0 (extents 0 (units_of image)) a in
          subst (λ d. active_at (units_of image) d.page.0 ≡ Some (file_header d)) (sym at.2)
          (extent_active nowhere image (units_of image) at.0 r.tiled b.0 (file_active at.0 b.1) ∙ ap (λ h. Some h) (sym (entry_header image (units_of image) at.0 (length (bytes_of image at.0)) (used_of image (log_of at.0.header)) r a)));
      logs = λ i e l is log.
          let at = at_entry (entry_of image) (files_in (units_of image)) n i e is in
          let a = at_among (files_in (units_of image)) i at.0 at.1 in
          let h = entry_log image (units_of image) at.0 l r a (sym (ap (λ (d : FileAt). d.log) at.2) ∙ log) in
          let b = filter_among is_log h.0.log (extents 0 (units_of image)) h.0.is in
          let name : h.0.log.header.name ≡ e.name = h.0.name ∙ sym (ap (λ (d : FileAt). d.name) at.2) in
          ap (λ p. active_at (units_of image) p) (sym h.1) ∙ extent_active nowhere image (units_of image) h.0.log r.tiled b.0 (log_active h.0.log b.1)
          ∙ ap (λ k. Some k) (log_fields h.0.log (r.fields h.0.log b.0) b.1) ∙ ap (λ m. Some (log_header m)) name;
      begun = λ d e. absurd (no_draft d e);
      only = λ page h e. held image (units_of image) n page h r e;
      names = λ i j e d is other same.
          let at = at_entry (entry_of image) (files_in (units_of image)) n i e is in
          let by = at_entry (entry_of image) (files_in (units_of image)) n j d other in
          one_place (files_in (units_of image)) i j at.0 by.0 r.names at.1 by.1 (sym (ap (λ (x : FileAt). x.name) at.2) ∙ same ∙ ap (λ (x : FileAt). x.name) by.2);
      stored = λ i e is.
          let at = at_entry (entry_of image) (files_in (units_of image)) n i e is in
          subst (λ d. IsStored image d) (sym at.2) (file_stored image (units_of image) at.0 r (at_among (files_in (units_of image)) i at.0 at.1));
      drafted = λ d e. absurd (no_draft d e);
    }

pub sound_held : (image : List ℕ) (n : ℕ) → broken_image image ≡ None → 256 * pages_of image ≡ length image → HoldsTable image (table_by (entry_of image) (files_in (units_of image)) n) None
sound_held image n e whole = table_holds image n whole (sound_rules image whole e).0

pub sound_few : (image : List ℕ) → broken_image image ≡ None → 256 * pages_of image ≡ length image → length (listed image) ≤ 32
sound_few image e whole = omega (arith, (sound_rules image whole e).0.few, length-map (files_in (units_of image)) (entry_of image))

pub sound_sparing : (image : List ℕ) (n i : ℕ) (e : FileAt) → broken_image image ≡ None → 256 * pages_of image ≡ length image → IsIn (table_by (entry_of image) (files_in (units_of image)) n) i e → has_few e ≡ true
sound_sparing image n i e sound whole is =
    let at = at_entry (entry_of image) (files_in (units_of image)) n i e is in
    ap has_few at.2 ∙ few_same image at.0 ∙ (sound_rules image whole sound).1 at.0 (at_among (files_in (units_of image)) i at.0 at.1)
