-- The rules of a sound image, one by one, and what they say of each file and each log.
use Rattle.std.proofs.Common.{◌≡◌, ◌⊎◌, inl, inr, ℕ, ◌+◌, ◌-◌, ◌*◌, ◌≤◌, Bool, true, false, ◌&&◌, ◌==◌, nat_le, List, [], ◌∷◌, length, drop, take, Some, None, if◌then◌else◌, refl, ap, sym, subst, ◌∙◌, ⊎_elim, arith}
use Rattle.std.specs.List.{list_any}
use Rattle.std.proofs.lemmas.Bool.{or_cases}
use Rattle.std.proofs.lemmas.List.{drop_all, length-drop}
use Rattle.padded.proofs.Facts.{both_parts, true_eq, eq_true}
use Rattle.afl_base.specs.Image.{page_bytes}
use Rattle.afl_base.specs.declared.ids.PageId.{PageId}
use Rattle.coffee_header.specs.Headers.{is_kind}
use Rattle.coffee_header.specs.declared.header.Header.{Header}
use Rattle.coffee_layout.specs.FileBytes.{table_of}
use Rattle.coffee_layout.specs.Files.{Placed, bytes_of, entry_with, extents, files_in, is_file, is_log, log_of, logs_in}
use Rattle.coffee_layout.specs.Rules.{broken_files, broken_image, first_failing, first_page, first_repeated, fits_its_file, has_few_pages, has_fields, has_file_fields, has_log_fields, has_regions_inside, is_clear, is_doubling, is_front_filled, is_log_of, names_its_log, names_log, same_name}
use Rattle.coffee_layout.specs.Tiling.{IsTiled, at_place, broken_tiling, nowhere, units_of}
use Rattle.coffee_layout.specs.Units.{is_active_flags, pages_of, unit_at}
use Rattle.coffee_layout.specs.declared.unit.Unit.{Unit}
use Rattle.coffee_layout.specs.declared.unit.Unit.TheVariants.{Extent}
use Rattle.coffee_layout.proofs.Judging.{or_nothing, place_none, page_none}
use Rattle.coffee_layout.proofs.Namings.{each_stands}
use Rattle.coffee_layout.proofs.Tests.{or_none}
use Rattle.coffee_layout.proofs.Tilings.{tiled_unbroken}
use Rattle.coffee_merge.specs.Begun.{active_at}
use Rattle.coffee_merge.specs.Holding.{file_header, log_header}
use Rattle.coffee_merge.proofs.Begun.{begun_active}
use Rattle.coffee_merge.proofs.HeaderMarks.{unit_header}
use Rattle.coffee_merge.proofs.SoundEntries.{IsAt, among_at, at_same, header_is, header_kind, kind_back, log_back, log_flags, named_same, no_log_flags, one_place}
use Rattle.coffee_merge.proofs.SoundUnits.{Among, IsPlacedIn, any_among, each_pick, extents_placed, extents_rising, failing_none, filter_among, none_failing, two_among}

-- the rules 1 to 12
pub record KeepsRules (image : List ℕ) (us : List Unit) : Type 0 where
  pub tiled : IsTiled nowhere image us
  pub few : length (files_in us) ≤ 32
  pub names : first_repeated [] (files_in us) ≡ None
  pub fields : (e : Placed) → Among e (extents 0 us) → has_fields e ≡ true
  pub named : (f : Placed) → Among f (files_in us) → names_its_log (logs_in us) f ≡ true
  pub logs : (l : Placed) → Among l (logs_in us) → list_any (names_log l.page) (files_in us) ≡ true
  pub filled : (l : Placed) → Among l (logs_in us) → is_front_filled (table_of image l.page) ≡ true
  pub inside : (l : Placed) → Among l (logs_in us) → fits_its_file image (files_in us) l.page ≡ true
  pub clear : (l : Placed) → Among l (logs_in us) → is_clear image l.page ≡ true

few_files : (files : List Placed) → at_place 5 (first_page (drop 32 files)) ≡ None → length files ≤ 32
few_files files e =
    let none : length (drop 32 files) ≡ 0 = ap length (page_none (drop 32 files) (place_none 5 (first_page (drop 32 files)) e)) in
    omega (arith, length-drop 32 files)

-- a sound image keeps them all
rules_from : (image : List ℕ) (us : List Unit) → IsTiled nowhere image us → broken_files image us ≡ None → KeepsRules image us × ((f : Placed) → Among f (files_in us) → has_few_pages image f ≡ true)
rules_from image us tiled e =
    let five = or_none (at_place 5 (first_page (drop 32 (files_in us)))) _ e in
    let six = or_none (at_place 6 (first_repeated [] (files_in us))) _ five.1 in
    let seven = or_none (at_place 7 (first_failing has_fields (extents 0 us))) _ six.1 in
    let eight = or_none (at_place 8 (first_failing (names_its_log (logs_in us)) (files_in us))) _ seven.1 in
    let nine = or_none (at_place 9 (first_failing (λ l. list_any (names_log l.page) (files_in us)) (logs_in us))) _ eight.1 in
    let ten = or_none (at_place 10 (first_failing (λ l. is_front_filled (table_of image l.page)) (logs_in us))) _ nine.1 in
    let eleven = or_none (at_place 11 (first_failing (λ l. fits_its_file image (files_in us) l.page) (logs_in us))) _ ten.1 in
    let twelve = or_none (at_place 12 (first_failing (λ l. is_clear image l.page) (logs_in us))) _ eleven.1 in
    let last = or_none (at_place 13 (first_failing (has_few_pages image) (files_in us))) _ twelve.1 in (
      record {
        tiled = tiled;
        few = few_files (files_in us) five.0;
        names = place_none 6 (first_repeated [] (files_in us)) six.0;
        fields = λ g a. none_failing has_fields g (extents 0 us) (place_none 7 _ seven.0) a;
        named = λ f a. none_failing (names_its_log (logs_in us)) f (files_in us) (place_none 8 _ eight.0) a;
        logs = λ l a. none_failing (λ g. list_any (names_log g.page) (files_in us)) l (logs_in us) (place_none 9 _ nine.0) a;
        filled = λ l a. none_failing (λ g. is_front_filled (table_of image g.page)) l (logs_in us) (place_none 10 _ ten.0) a;
        inside = λ l a. none_failing (λ g. fits_its_file image (files_in us) g.page) l (logs_in us) (place_none 11 _ eleven.0) a;
        clear = λ l a. none_failing (λ g. is_clear image g.page) l (logs_in us) (place_none 12 _ twelve.0) a;
      },
      λ f a. none_failing (has_few_pages image) f (files_in us) (place_none 13 _ last.0) a,
    )

pub sound_rules : (image : List ℕ) → 256 * pages_of image ≡ length image → broken_image image ≡ None → KeepsRules image (units_of image) × ((f : Placed) → Among f (files_in (units_of image)) → has_few_pages image f ≡ true)
unfolding broken_image
sound_rules image whole e =
    let parts = or_none (broken_tiling nowhere image) (broken_files image (units_of image)) e in
    rules_from image (units_of image) (tiled_unbroken nowhere image whole parts.0) parts.1

-- and an image that keeps them breaks no rule but 13
pub rules_sound : (image : List ℕ) → broken_tiling nowhere image ≡ None → KeepsRules image (units_of image) → broken_image image ≡ at_place 13 (first_failing (has_few_pages image) (files_in (units_of image)))
unfolding broken_image
rules_sound image tiling r =
    let us = units_of image in
    rw (
      tiling,
      drop_all 32 (files_in us) r.few,
      r.names,
      failing_none has_fields (extents 0 us) r.fields,
      failing_none (names_its_log (logs_in us)) (files_in us) r.named,
      failing_none (λ l. list_any (names_log l.page) (files_in us)) (logs_in us) r.logs,
      failing_none (λ l. is_front_filled (table_of image l.page)) (logs_in us) r.filled,
      failing_none (λ l. fits_its_file image (files_in us) l.page) (logs_in us) r.inside,
      failing_none (λ l. is_clear image l.page) (logs_in us) r.clear,
    )
    (or_nothing (at_place 13 (first_failing (has_few_pages image) (files_in (units_of image)))))

-- WHAT THE RULES SAY OF ONE EXTENT

pub extent_in : (building : ℕ → Bool) (image : List ℕ) (us : List Unit) (e : Placed) → IsTiled building image us → Among e (extents 0 us) → IsPlacedIn us 0 e
extent_in building image us e t a = each_pick (IsPlacedIn us 0) e (extents 0 us) (extents_placed building image us 0 false t.keep) a

pub extent_kind : (building : ℕ → Bool) (image : List ℕ) (us : List Unit) (e : Placed) → IsTiled building image us → Among e (extents 0 us) → is_kind e.header.kind ≡ true
extent_kind building image us e t a =
    let at = each_pick (λ g. unit_at image g.page ≡ Some (Extent g.header)) e (extents 0 us) (each_stands building image 0 false us t.keep) a in
    header_kind (take 32 (page_bytes image e.page)) e.header (unit_header (take 32 (page_bytes image e.page)) e.header at)

pub file_flags_are : (e : Placed) → is_file e ≡ true → (e.header.flags ≡ 3) ⊎ (e.header.flags ≡ 11)
file_flags_are e t = ⊎_elim
    (λ (a : e.header.flags == 3 ≡ true). inl (true_eq e.header.flags 3 a))
    (λ (b : e.header.flags == 11 ≡ true). inr (true_eq e.header.flags 11 b))
    (or_cases (e.header.flags == 3) (e.header.flags == 11) t)

pub file_active : (e : Placed) → is_file e ≡ true → is_active_flags e.header.flags ≡ true
file_active e t = ⊎_elim (λ (a : e.header.flags ≡ 3). ap is_active_flags a) (λ (b : e.header.flags ≡ 11). ap is_active_flags b) (file_flags_are e t)

pub log_active : (e : Placed) → is_log e ≡ true → is_active_flags e.header.flags ≡ true
log_active e t = ap is_active_flags (true_eq e.header.flags 19 t)

pub file_no_log : (e : Placed) → is_file e ≡ true → is_log e ≡ true → ⊥
file_no_log e t l =
    let log = true_eq e.header.flags 19 l in
    ⊎_elim (λ (a : e.header.flags ≡ 3). absurd (omega arith)) (λ (b : e.header.flags ≡ 11). absurd (omega arith)) (file_flags_are e t)

-- an active extent stands at its page
pub extent_active : (building : ℕ → Bool) (image : List ℕ) (us : List Unit) (e : Placed) → IsTiled building image us → Among e (extents 0 us) → is_active_flags e.header.flags ≡ true → active_at us e.page ≡ Some e.header
extent_active building image us e t a active = begun_active us e.page e.header (extent_in building image us e t a).begun active

-- the fields of a file
pub record HasFileFields (h : Header) : Type 0 where
  pub records : h.log_records ≡ 30
  pub size : h.log_record_size ≡ 128
  pub shape : (if h.kind == 0 then is_doubling h.max_pages else nat_le 1 h.max_pages && nat_le h.max_pages 15) ≡ true

pub file_fields : (f : Placed) → has_fields f ≡ true → is_file f ≡ true → HasFileFields f.header
file_fields f fields file =
    let all : has_file_fields f.header ≡ true = (rw file at fields) in
    let first = both_parts _ _ all in
    let second = both_parts _ _ first.0 in
    record { records = true_eq f.header.log_records 30 second.0; size = true_eq f.header.log_record_size 128 second.1; shape = first.1 }

-- a log has the header that its name says
pub log_fields : (g : Placed) → has_fields g ≡ true → is_log g ≡ true → g.header ≡ log_header g.header.name
log_fields g fields log =
    let flags = true_eq g.header.flags 19 log in
    let file : is_file g ≡ false = rw flags refl in
    let all : has_log_fields g.header ≡ true = (rw (file, log) at fields) in
    let a = both_parts _ _ all in
    let b = both_parts _ _ a.0 in
    let c = both_parts _ _ b.0 in
    let d = both_parts _ _ c.0 in
    sym (header_is g.header 0 0 0 16 1 19 g.header.name (sym (true_eq g.header.log_page 0 c.1)) (sym (true_eq g.header.log_records 0 d.0)) (sym (true_eq g.header.log_record_size 0 d.1))
    (sym (true_eq g.header.max_pages 16 a.1)) (sym (true_eq g.header.kind 1 b.1)) (sym flags) refl)

-- the log that a file names
pub record HasLog (us : List Unit) (f : Placed) : Type 0 where
  pub log : Placed
  pub is : Among log (logs_in us)
  pub page : log.page + 1 ≡ f.header.log_page
  pub name : log.header.name ≡ f.header.name
  pub flags : f.header.flags ≡ 11

flags_no_log : (h : Header) → h.flags ≡ 11 → h.flags == 3 ≡ false
flags_no_log h e = rw e refl

pub file_log : (image : List ℕ) (us : List Unit) (f : Placed) → KeepsRules image us → Among f (files_in us) → (f.header.flags ≡ 3) × (f.header.log_page ≡ 0) ⊎ HasLog us f
file_log image us f r a =
    let named = r.named f a in
    ⊎_elim
    (λ (s : f.header.flags ≡ 3). let t = eq_true f.header.flags 3 s in inl (s, true_eq f.header.log_page 0 (rw t at named)))
    (λ (s : f.header.flags ≡ 11).
    let t = flags_no_log f.header s in
    let g = any_among (is_log_of f) (logs_in us) (rw t at named) in
    let parts = both_parts (g.0.page + 1 == f.header.log_page) (same_name g.0.header.name f.header.name) g.2 in
    inr (record { log = g.0; is = g.1; page = true_eq (g.0.page + 1) f.header.log_page parts.0; name = named_same g.0.header.name f.header.name parts.1; flags = s }))
    (file_flags_are f (filter_among is_file f (extents 0 us) a).1)

log_zero : (n : ℕ) (l : PageId) (t : Bool) → n == 0 ≡ t → n ≡ 0 → (if t then None else Some (record { 0 = n - 1 })) ≡ Some l → ⊥
log_zero n l true e z h = cc
log_zero n l false e z h = let t = eq_true n 0 z in cc

log_some : (n : ℕ) (l : PageId) (t : Bool) → (if t then None else Some (record { 0 = n - 1 })) ≡ Some l → n - 1 ≡ l.0
log_some n l true h = cc
log_some n l false h = ap_page (record { 0 = n - 1 }) l (same h)
  where
    same : {a b : PageId} → Some a ≡ Some b → a ≡ b
    same h = cc

    ap_page : (a b : PageId) → a ≡ b → a.0 ≡ b.0
    ap_page a b e = ap (λ (p : PageId). p.0) e

-- the log of a file's entry
pub entry_log : (image : List ℕ) (us : List Unit) (f : Placed) (l : PageId) → KeepsRules image us → Among f (files_in us) → log_of f.header ≡ Some l → (h : HasLog us f) × (h.log.page ≡ l.0)
entry_log image us f l r a is = ⊎_elim
    (λ (n : (f.header.flags ≡ 3) × (f.header.log_page ≡ 0)). absurd (log_zero f.header.log_page l (f.header.log_page == 0) refl n.1 is))
    (λ (h : HasLog us f). let e = log_some f.header.log_page l (f.header.log_page == 0) is in let p = h.page in (h, omega arith))
    (file_log image us f r a)

-- the header of a file is that of its entry
pub entry_header : (image : List ℕ) (us : List Unit) (f : Placed) (size used : ℕ) → KeepsRules image us → Among f (files_in us) → file_header (entry_with f size used) ≡ f.header
entry_header image us f size used r a =
    let b = filter_among is_file f (extents 0 us) a in
    let fields = file_fields f (r.fields f b.0) b.1 in
    header_is f.header _ 30 128 f.header.max_pages _ _ f.header.name (log_back f.header) (sym fields.records) (sym fields.size) refl
    (kind_back f.header (extent_kind nowhere image us f r.tiled b.0))
    (⊎_elim
    (λ (n : (f.header.flags ≡ 3) × (f.header.log_page ≡ 0)). no_log_flags f.header n.1 ∙ sym n.0)
    (λ (h : HasLog us f). let p = h.page in log_flags f.header (λ z. absurd (omega arith)) ∙ sym h.flags)
    (file_log image us f r a))
    refl

-- two extents that begin at one page are one
pub one_extent : (building : ℕ → Bool) (image : List ℕ) (us : List Unit) (e g : Placed) → IsTiled building image us → Among e (extents 0 us) → Among g (extents 0 us) → e.page ≡ g.page → e ≡ g
one_extent building image us e g t a b same =
    let some = (extent_in building image us e t a).some in
    let other = (extent_in building image us g t b).some in
    ⊎_elim
    (λ (s : e ≡ g). s)
    (λ (o : (e.page + e.header.max_pages ≤ g.page) ⊎ (g.page + g.header.max_pages ≤ e.page)).
    absurd (⊎_elim {C = ⊥} (λ (l : e.page + e.header.max_pages ≤ g.page). absurd (omega arith)) (λ (l : g.page + g.header.max_pages ≤ e.page). absurd (omega arith)) o))
    (two_among e g (extents 0 us) (extents_rising building image us 0 false t.keep) a b)

-- two files that name one log are one
pub one_file : (image : List ℕ) (us : List Unit) (page : ℕ) (f g : Placed) → KeepsRules image us → Among f (files_in us) → Among g (files_in us) → names_log page f ≡ true → names_log page g ≡ true → g ≡ f
one_file image us page f g r a b first second =
    let p = true_eq f.header.log_page (page + 1) first in
    let q = true_eq g.header.log_page (page + 1) second in
    ⊎_elim
    (λ (n : (f.header.flags ≡ 3) × (f.header.log_page ≡ 0)). let z = n.1 in absurd (omega arith))
    (λ (h : HasLog us f). ⊎_elim
    (λ (n : (g.header.flags ≡ 3) × (g.header.log_page ≡ 0)). let z = n.1 in absurd (omega arith))
    (λ (k : HasLog us g).
    let page_of_first = h.page in
    let page_of_second = k.page in
    let log : h.log ≡ k.log = one_extent nowhere image us h.log k.log r.tiled (filter_among is_log h.log (extents 0 us) h.is).0 (filter_among is_log k.log (extents 0 us) k.is).0 (omega arith) in
    let name : g.header.name ≡ f.header.name = sym k.name ∙ ap (λ l. l.header.name) (sym log) ∙ h.name in
    let i = among_at (files_in us) f a in
    let j = among_at (files_in us) g b in
    let place : j.0 ≡ i.0 = one_place (files_in us) j.0 i.0 g f r.names j.1 i.1 name in
    at_same (files_in us) i.0 g f (subst (λ n. IsAt (files_in us) n g) place j.1) i.1)
    (file_log image us g r b))
    (file_log image us f r a)

regions_turn : (image : List ℕ) (page : ℕ) (f x : Placed) (xs : List Placed) (t : Bool) → names_log page x ≡ t → names_log page f ≡ true → (names_log page x ≡ true → x ≡ f) → Among f (x ∷ xs)
    → (Among f xs → fits_its_file image xs page ≡ true → has_regions_inside f.header.max_pages (length (bytes_of image f)) (table_of image page) ≡ true)
    → (if t then has_regions_inside x.header.max_pages (length (bytes_of image x)) (table_of image page) else fits_its_file image xs page) ≡ true
    → has_regions_inside f.header.max_pages (length (bytes_of image f)) (table_of image page) ≡ true
regions_turn image page f x xs true is named one a more h = subst (λ g. has_regions_inside g.header.max_pages (length (bytes_of image g)) (table_of image page) ≡ true) (one is) h
regions_turn image page f x xs false is named one (inl s) more h = let e : names_log page x ≡ true = ap (names_log page) s ∙ named in cc
regions_turn image page f x xs false is named one (inr a) more h = more a h

-- rule 11, of the one file that names a log
pub regions_here : (image : List ℕ) (files : List Placed) (page : ℕ) (f : Placed) → Among f files → names_log page f ≡ true → ((g : Placed) → Among g files → names_log page g ≡ true → g ≡ f) → fits_its_file image files page ≡ true
    → has_regions_inside f.header.max_pages (length (bytes_of image f)) (table_of image page) ≡ true
regions_here image [] page f a named one h = absurd a
regions_here image (x ∷ xs) page f a named one h =
    regions_turn image page f x xs (names_log page x) refl named (λ n. one x (inl refl) n) a (λ b g. regions_here image xs page f b named (λ g c n. one g (inr c) n) g) h
