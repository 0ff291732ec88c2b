-- A file gets an empty log, and all files keep their content.
use Rattle.std.proofs.Common.{◌≡◌, ◌≢◌, inl, ⊎_elim, ℕ, ◌+◌, ◌-◌, ◌*◌, ◌/◌, ◌%◌, ◌≤◌, ◌<◌, true, ◌==◌, List, length, get_or, None, Some, refl, ap, sym, subst, ◌∙◌, arith, bit_or}
use Rattle.std.specs.Prelude.{set}
use Rattle.std.proofs.lemmas.Bool.{cases_eq}
use Rattle.afl_base.specs.Image.{or_at}
use Rattle.afl_base.specs.Names.{is_file_name}
use Rattle.afl_base.specs.declared.ids.PageId.{PageId}
use Rattle.afl_base.proofs.Images.{length_or_at}
use Rattle.coffee_header.specs.Headers.{IsValid, header_bytes, is_flags}
use Rattle.coffee_header.specs.declared.header.Header.{Header}
use Rattle.coffee_layout.specs.FileBytes.{extent_place, file_byte, number_in, place_or, table_of}
use Rattle.coffee_layout.specs.Marks.{IsLowestRun, free_pages}
use Rattle.coffee_layout.specs.Tiling.{IsTiled, nowhere, units_of}
use Rattle.coffee_layout.specs.Units.{is_active_flags, pages_of}
use Rattle.coffee_layout.specs.declared.file.FileAt.{FileAt}
use Rattle.coffee_layout.specs.declared.unit.Unit.{Unit}
use Rattle.coffee_layout.proofs.Tilings.{unbroken_tiled}
use Rattle.coffee_log.specs.Logs.{IsLog}
use Rattle.coffee_log.proofs.LastRecords.{last_absent}
use Rattle.coffee_log.proofs.RecordLaws.{number_image, number_place}
use Rattle.flash_range.specs.Range.{Outside}
use Rattle.coffee_merge.specs.Begun.{active_at, active_header, unit_begun}
use Rattle.coffee_merge.specs.Flags.{flagged}
use Rattle.coffee_merge.specs.Holding.{Entries, HoldsTable, IsIn, IsStored, Logs, Stays, file_flags, file_header, has_extent_at, header_with, is_held, log_header, log_number}
use Rattle.coffee_merge.proofs.Beginning.{IsBegun, begun_lowest}
use Rattle.coffee_merge.proofs.Begun.{active_begun, begun_active}
use Rattle.coffee_merge.proofs.Drafting.{other_place}
use Rattle.coffee_merge.proofs.Holdings.{LogAt, entries_apart, extent_here, extent_read, held_in, held_set, holds_tiled, in_table, is_in_here, is_in_set, log_here}
use Rattle.coffee_merge.proofs.Kept.{KeepsBody, body_byte, body_content, body_stored, fits_kept}
use Rattle.coffee_merge.proofs.Marked.{flagged_extent}
use Rattle.coffee_merge.proofs.Numbered.{numbered, numbered_extent}

-- HEADERS

logged_header : (e : FileAt) (log : PageId) → e.log ≡ None → record (file_header e) { log_page = log.0 + 1; flags = bit_or (file_flags e.log) 8 } ≡ file_header (record e { log = Some log })
logged_header e log none = ap (λ o. record (header_with e (bit_or (file_flags o) 8)) { log_page = log.0 + 1 }) none

pub log_valid : (name : List ℕ) → is_file_name name ≡ true → IsValid (log_header name)
log_valid name good = record { log_page = omega arith; log_records = omega arith; log_record_size = omega arith; max_pages = omega arith; kind = refl; flags = refl; name = good }

-- THE IMAGE

-- a log stands in pages that were free, and a file names it; all else is as before
pub record HasLog (old new : List ℕ) (us : List Unit) (e : FileAt) (log : PageId) : Type 0 where
  pub long : length new ≡ length old
  pub tiled : IsTiled nowhere new (units_of new)
  pub file_at : active_at (units_of new) e.page.0 ≡ Some (file_header (record e { log = Some log }))
  pub log_at : active_at (units_of new) log.0 ≡ Some (log_header e.name)
  pub others : (q : ℕ) → q ≢ e.page.0 → q ≢ log.0 → active_at (units_of new) q ≡ active_at us q
  pub units : (q : ℕ) → q ≢ e.page.0 → (log.0 ≤ q → q < log.0 + 16 → ⊥) → unit_begun (units_of new) 0 q ≡ unit_begun us 0 q
  pub none : active_at us log.0 ≡ None
  pub apart : (q : ℕ) (g : Header) → active_at us q ≡ Some g → (p : ℕ) → q ≤ p → p < q + g.max_pages → log.0 ≤ p → p < log.0 + 16 → ⊥
  pub zeros : (k : ℕ) → 256 * log.0 + 32 ≤ k → k < 256 * log.0 + 4096 → get_or new k 0 ≡ 0
  pub bytes : (k : ℕ) → Outside (256 * log.0) 32 k → Outside (256 * e.page.0) 32 k → get_or new k 0 ≡ get_or old k 0

-- the header of the file, after the log's
renamed : (old one : List ℕ) (us : List Unit) (e : FileAt) (log : PageId) → IsBegun nowhere old one us log.0 (log_header e.name) → length one ≡ length old → active_at us e.page.0 ≡ Some (file_header e) → e.log ≡ None → 1 ≤ e.pages → log.0 + 1 < 65536
    → HasLog old (flagged (numbered one e.page.0 (log.0 + 1)) e.page.0 8) us e log
renamed old one us e log begun long is none some small =
    let there : e.page.0 ≢ log.0 = other_place us log.0 e.page.0 (file_header e) begun.none is in
    let unit = (active_begun (units_of one) e.page.0 (file_header e) (begun.others e.page.0 there ∙ is)).0 in
    let two = numbered_extent nowhere one e.page.0 (file_header e) (log.0 + 1) begun.tiled unit (ap log_number none) small in
    let three = flagged_extent nowhere nowhere (numbered one e.page.0 (log.0 + 1)) e.page.0 (record (file_header e) { log_page = log.0 + 1 }) 8 two.tiled two.here (ap (λ o. is_flags (bit_or (file_flags o) 8)) none) (ap (λ o. bit_or (file_flags o) 8 == 2) none) (λ q other. refl) in
    let new = flagged (numbered one e.page.0 (log.0 + 1)) e.page.0 8 in
    let first : (k : ℕ) → Outside (256 * e.page.0) 32 k → get_or new k 0 ≡ get_or one k 0 = λ k out. three.bytes k (λ e. out (omega arith) (omega arith)) ∙ two.bytes k (λ a b. out a (omega arith)) in
    record {
      long = three.long ∙ length_or_at one (256 * e.page.0) _ ∙ long;
      tiled = three.tiled;
      file_at = begun_active (units_of new) e.page.0 (record (file_header e) { log_page = log.0 + 1; flags = bit_or (file_flags e.log) 8 }) three.here (ap (λ o. is_active_flags (bit_or (file_flags o) 8)) none) ∙ ap Some (logged_header e log none);
      log_at = ap active_header (three.others log.0 (λ x. there (sym x)) ∙ two.others log.0 (λ x. there (sym x))) ∙ begun.here;
      others = λ q a b. ap active_header (three.others q a ∙ two.others q a) ∙ begun.others q b;
      units = λ q a out. three.others q a ∙ two.others q a ∙ begun.units q out;
      none = begun.none;
      apart = begun.apart;
      zeros = λ k a b. first k (λ x y. begun.apart e.page.0 (file_header e) is e.page.0 (omega arith) (omega arith) (omega arith) (omega arith)) ∙ begun.zeros k a (omega arith);
      bytes = λ k a b. first k b ∙ begun.same k a;
    }

-- the header of a log is programmed into the lowest run of 16 free pages, and its page into the file's
pub has_log : (old one new : List ℕ) (table : Entries) (i : ℕ) (e : FileAt) (log : PageId) → HoldsTable old table None → IsIn table i e → e.log ≡ None → IsLowestRun (free_pages (units_of old)) 16 log.0 → is_file_name e.name ≡ true → log.0 + 1 < 65536
    → one ≡ or_at old (256 * log.0) (header_bytes (log_header e.name)) → new ≡ flagged (numbered one e.page.0 (log.0 + 1)) e.page.0 8 → HasLog old new (units_of old) e log
has_log old one new table i e log h is none low good small first second =
    let begun = begun_lowest nowhere nowhere old one (units_of old) log.0 (log_header e.name) (holds_tiled old table None h) (omega arith) low first (log_valid e.name good) refl refl (λ q other. refl) in
    subst (λ image. HasLog old image (units_of old) e log) (sym second)
    (renamed old one (units_of old) e log begun (ap length first ∙ length_or_at old (256 * log.0) (header_bytes (log_header e.name))) (h.files i e is) none (h.stored i e is).fits.some small)

-- CONTENTS

pub in_same : (table : Entries) (i : ℕ) (e d : FileAt) → IsIn table i e → IsIn table i d → e ≡ d
in_same table i e d is at = one (sym is ∙ at)
  where
    one : Some e ≡ Some d → e ≡ d
    one s = cc

-- the files, without the new log, keep their bytes
log_bodies : (old new : List ℕ) (table : Entries) (i : ℕ) (e : FileAt) (log : PageId) → HoldsTable old table None → IsIn table i e → e.log ≡ None → HasLog old new (units_of old) e log
    → (j : ℕ) (d : FileAt) → IsIn table j d → KeepsBody old new d.page.0 d.pages d.log
log_bodies old new table i e log h is none has j d at =
    let some = (h.stored i e is).fits.some in
    record {
      extent = λ k a b. has.bytes k (λ x y. has.apart d.page.0 (file_header d) (h.files j d at) (k / 256) (omega arith) (omega arith) (omega arith) (omega arith))
          (λ x y. ⊎_elim
          (λ (here : i ≡ j). let same : e ≡ d = in_same table j e d (subst (λ n. IsIn table n e) here is) at in let place : e.page.0 ≡ d.page.0 = ap (λ (f : FileAt). f.page.0) same in omega arith)
          (λ (there : i ≢ j). (entries_apart old table None i j e d h is at there).extents (k / 256) (omega arith) (omega arith) (omega arith) (omega arith))
          (cases_eq i j));
      logged = λ l named k a b. has.bytes k (λ x y. has.apart l.0 (log_header d.name) (h.logs j d l at named) (k / 256) (omega arith) (omega arith) (omega arith) (omega arith))
          (λ x y. ⊎_elim
          (λ (here : i ≡ j). let same : e ≡ d = in_same table j e d (subst (λ n. IsIn table n e) here is) at in clash l (sym none ∙ ap (λ (f : FileAt). f.log) same ∙ named))
          (λ (there : i ≢ j). (entries_apart old table None i j e d h is at there).behind l named (k / 256) (omega arith) (omega arith) (omega arith) (omega arith))
          (cases_eq i j));
    }
  where
    clash : (l : PageId) → None ≡ Some l → ⊥
    clash l s = cc

-- an empty log has no number
no_numbers : (new : List ℕ) (log i : ℕ) → ((k : ℕ) → 256 * log + 32 ≤ k → k < 256 * log + 4096 → get_or new k 0 ≡ 0) → i < 30 → number_in (table_of new log) i ≡ 0
no_numbers new log i zeros few =
    let low = zeros (number_place log i) (omega arith) (omega arith) in
    let high = zeros (number_place log i + 1) (omega arith) (omega arith) in
    omega (arith, number_image new log i few, low, high)

empty_log : (new : List ℕ) (log used : ℕ) → ((k : ℕ) → 256 * log + 32 ≤ k → k < 256 * log + 4096 → get_or new k 0 ≡ 0) → used ≡ 0 → IsLog new log used
empty_log new log used zeros none = record {
  few = omega arith;
  used_are = λ i low. absurd (omega arith);
  free_are = λ i from to. no_numbers new log i zeros to;
  gap = λ k from to. zeros k (omega arith) (omega arith);
  clear = λ k from to. zeros k (omega arith) to;
}

-- and a file has with it the content that it had without
empty_content : (new : List ℕ) (page p : ℕ) (log : PageId) → ((k : ℕ) → 256 * log.0 + 32 ≤ k → k < 256 * log.0 + 4096 → get_or new k 0 ≡ 0) → file_byte new page (Some log) p ≡ file_byte new page None p
empty_content new page p log zeros =
    ap (λ o. get_or new (place_or (extent_place page (128 * (p / 128))) log.0 o + p % 128) 0)
    (last_absent (table_of new log.0) (p / 128) 30 (λ i few e. let none = no_numbers new log.0 i zeros few in absurd (omega arith)))

log_content : (old new : List ℕ) (e : FileAt) (log : PageId) → length new ≡ length old → e.log ≡ None → KeepsBody old new e.page.0 e.pages e.log → ((k : ℕ) → 256 * log.0 + 32 ≤ k → k < 256 * log.0 + 4096 → get_or new k 0 ≡ 0)
    → (p : ℕ) → p + 32 < 256 * e.pages → file_byte new e.page.0 (Some log) p ≡ file_byte old e.page.0 e.log p
log_content old new e log long none keeps zeros p within =
    empty_content new e.page.0 p log zeros ∙ ap (λ o. file_byte new e.page.0 o p) (sym none) ∙ body_byte old new e.page.0 e.pages e.log p long keeps within

log_stored : (old new : List ℕ) (e : FileAt) (log : PageId) → IsStored old e → length new ≡ length old → e.log ≡ None → KeepsBody old new e.page.0 e.pages e.log → ((k : ℕ) → 256 * log.0 + 32 ≤ k → k < 256 * log.0 + 4096 → get_or new k 0 ≡ 0)
    → ((p : ℕ) → e.page.0 ≤ p → p < e.page.0 + e.pages → log.0 ≤ p → p < log.0 + 16 → ⊥) → log.0 + 16 ≤ pages_of new → IsStored new (record e { log = Some log })
log_stored old new e log s long none keeps zeros apart inside =
    let fits = fits_kept old new e long s.fits in
    let empty : e.used ≡ 0 = s.fits.unused none in
    let room = s.fits.size in
    record {
      fits = record { some = fits.some; placed = fits.placed; size = fits.size; log = λ l is. let same : log ≡ l = cc in subst (λ m. m.0 + 16 ≤ pages_of new) same inside; used = fits.used; unused = λ is. cc };
      shape = s.shape;
      file = record {
        apart = λ l is. let same : log ≡ l = cc in subst (λ (m : PageId). (p : ℕ) → e.page.0 ≤ p → p < e.page.0 + e.pages → m.0 ≤ p → p < m.0 + 16 → ⊥) same apart;
        logged = λ l is. let same : log ≡ l = cc in subst (λ (m : PageId). IsLog new m.0 e.used) same (empty_log new log.0 e.used zeros empty);
        below = λ l is j low. absurd (omega arith);
        zeros = λ p from to. log_content old new e log long none keeps zeros p (omega arith) ∙ s.file.zeros p from to;
      };
      last = λ some z. s.last some (sym (log_content old new e log long none keeps zeros (e.size - 1) (omega arith)) ∙ z);
    }

-- THE TABLE

-- an extent of a file is one that it has with a log
more_extents : (e : FileAt) (log : PageId) (page : ℕ) → e.log ≡ None → has_extent_at page (Some e) ≡ true → has_extent_at page (Some (record e { log = Some log })) ≡ true
more_extents e log page none at =
    ⊎_elim
    (λ (here : e.page.0 ≡ page). extent_here page (record e { log = Some log }) here)
    (λ (there : LogAt e page). clash there.log (sym none ∙ there.is))
    (extent_read page e at)
  where
    clash : (l : PageId) → None ≡ Some l → has_extent_at page (Some (record e { log = Some log })) ≡ true
    clash l s = cc

-- a file in another place begins at another page
other_page : (image : List ℕ) (table : Entries) (i k : ℕ) (e d : FileAt) → HoldsTable image table None → IsIn table i e → IsIn table k d → k ≢ i → d.page.0 ≢ e.page.0
other_page image table i k e d h is at other same =
    let first = (h.stored i e is).fits.some in
    let second = (h.stored k d at).fits.some in
    (entries_apart image table None i k e d h is at (λ s. other (sym s))).extents e.page.0 (omega arith) (omega arith) (omega arith) (omega arith)

other_log : (image : List ℕ) (table : Entries) (i k : ℕ) (e d : FileAt) (l : PageId) → HoldsTable image table None → IsIn table i e → IsIn table k d → d.log ≡ Some l → k ≢ i → l.0 ≢ e.page.0
other_log image table i k e d l h is at named other same =
    let first = (h.stored i e is).fits.some in
    (entries_apart image table None i k e d h is at (λ s. other (sym s))).behind l named e.page.0 (omega arith) (omega arith) (omega arith) (omega arith)

logged_files : (old new : List ℕ) (table : Entries) (i : ℕ) (e : FileAt) (log : PageId) → HoldsTable old table None → IsIn table i e → HasLog old new (units_of old) e log
    → (k : ℕ) (d : FileAt) → IsIn (set table i (Some (record e { log = Some log }))) k d → active_at (units_of new) d.page.0 ≡ Some (file_header d)
logged_files old new table i e log h is has k d at =
    ⊎_elim
    (λ (here : (k ≡ i) × (Some (record e { log = Some log }) ≡ Some d)). let same : record e { log = Some log } ≡ d = cc in subst (λ f. active_at (units_of new) f.page.0 ≡ Some (file_header f)) same has.file_at)
    (λ (there : (k ≢ i) × IsIn table k d).
    has.others d.page.0 (other_page old table i k e d h is there.1 there.0) (other_place (units_of old) log.0 d.page.0 (file_header d) has.none (h.files k d there.1)) ∙ h.files k d there.1)
    (is_in_set table i (Some (record e { log = Some log })) k d at)

logged_logs : (old new : List ℕ) (table : Entries) (i : ℕ) (e : FileAt) (log : PageId) → HoldsTable old table None → IsIn table i e → HasLog old new (units_of old) e log
    → (k : ℕ) (d : FileAt) (l : PageId) → IsIn (set table i (Some (record e { log = Some log }))) k d → d.log ≡ Some l → active_at (units_of new) l.0 ≡ Some (log_header d.name)
logged_logs old new table i e log h is has k d l at named =
    ⊎_elim
    (λ (here : (k ≡ i) × (Some (record e { log = Some log }) ≡ Some d)).
    let same : record e { log = Some log } ≡ d = cc in
    let one : Some log ≡ Some l = ap (λ (f : FileAt). f.log) same ∙ named in
    let place : log ≡ l = cc in
    subst (λ (m : PageId). active_at (units_of new) m.0 ≡ Some (log_header d.name)) place (subst (λ (f : FileAt). active_at (units_of new) log.0 ≡ Some (log_header f.name)) same has.log_at))
    (λ (there : (k ≢ i) × IsIn table k d).
    has.others l.0 (other_log old table i k e d l h is there.1 named there.0) (other_place (units_of old) log.0 l.0 (log_header d.name) has.none (h.logs k d l there.1 named)) ∙ h.logs k d l there.1 named)
    (is_in_set table i (Some (record e { log = Some log })) k d at)

logged_only : (old new : List ℕ) (table : Entries) (i : ℕ) (e : FileAt) (log : PageId) → HoldsTable old table None → IsIn table i e → e.log ≡ None → HasLog old new (units_of old) e log
    → (page : ℕ) (g : Header) → active_at (units_of new) page ≡ Some g → is_held (set table i (Some (record e { log = Some log }))) None page ≡ true
logged_only old new table i e log h is none has page g active =
    let inside = in_table table i e is in
    let here = is_in_here table i (record e { log = Some log }) inside in
    ⊎_elim
    (λ (a : page ≡ e.page.0). held_in (set table i (Some (record e { log = Some log }))) None i (record e { log = Some log }) page here (extent_here page (record e { log = Some log }) (sym a)))
    (λ (a : page ≢ e.page.0). ⊎_elim
    (λ (b : page ≡ log.0). held_in (set table i (Some (record e { log = Some log }))) None i (record e { log = Some log }) page here (log_here page (record e { log = Some log }) log refl (sym b)))
    (λ (b : page ≢ log.0).
    held_set table i (Some (record e { log = Some log })) None None page inside (h.only page g (sym (has.others page a b) ∙ active))
    (λ d at extent. inl (subst (λ (f : FileAt). f.log ≡ None → has_extent_at page (Some f) ≡ true → has_extent_at page (Some (record e { log = Some log })) ≡ true) (in_same table i e d is at) (more_extents e log page) (ap (λ (f : FileAt). f.log) (sym (in_same table i e d is at)) ∙ none) extent))
    (λ drafted. cc))
    (cases_eq page log.0))
    (cases_eq page e.page.0)

-- an entry of the table afterwards has the name of the one that stood in its place
record WasNamed (table : Entries) (k : ℕ) (name : List ℕ) : Type 0 where
  entry : FileAt
  is_in : IsIn table k entry
  same : entry.name ≡ name

was_named : (table : Entries) (i : ℕ) (e : FileAt) (log : PageId) → IsIn table i e → (k : ℕ) (d : FileAt) → IsIn (set table i (Some (record e { log = Some log }))) k d → WasNamed table k d.name
was_named table i e log is k d at =
    ⊎_elim
    (λ (here : (k ≡ i) × (Some (record e { log = Some log }) ≡ Some d)).
    let same : record e { log = Some log } ≡ d = cc in record { entry = e; is_in = subst (λ n. IsIn table n e) (sym here.0) is; same = ap (λ (f : FileAt). f.name) same })
    (λ (there : (k ≢ i) × IsIn table k d). record { entry = d; is_in = there.1; same = refl })
    (is_in_set table i (Some (record e { log = Some log })) k d at)

same_place : (image : List ℕ) (table : Entries) (j k : ℕ) (name other : List ℕ) → HoldsTable image table None → WasNamed table j name → WasNamed table k other → name ≡ other → j ≡ k
same_place image table j k name other h a b named = h.names j k a.entry b.entry a.is_in b.is_in (a.same ∙ named ∙ sym b.same)

logged_names : (old : List ℕ) (table : Entries) (i : ℕ) (e : FileAt) (log : PageId) → HoldsTable old table None → IsIn table i e
    → (j k : ℕ) (c d : FileAt) → IsIn (set table i (Some (record e { log = Some log }))) j c → IsIn (set table i (Some (record e { log = Some log }))) k d → c.name ≡ d.name → j ≡ k
logged_names old table i e log h is j k c d first second named = same_place old table j k c.name d.name h (was_named table i e log is j c first) (was_named table i e log is k d second) named

logged_stored : (old new : List ℕ) (table : Entries) (i : ℕ) (e : FileAt) (log : PageId) → HoldsTable old table None → IsIn table i e → e.log ≡ None → HasLog old new (units_of old) e log → log.0 + 16 ≤ pages_of new
    → (k : ℕ) (d : FileAt) → IsIn (set table i (Some (record e { log = Some log }))) k d → IsStored new d
logged_stored old new table i e log h is none has inside k d at =
    ⊎_elim
    (λ (here : (k ≡ i) × (Some (record e { log = Some log }) ≡ Some d)).
    let same : record e { log = Some log } ≡ d = cc in
    subst (IsStored new) same
    (log_stored old new e log (h.stored i e is) has.long none (log_bodies old new table i e log h is none has i e is) has.zeros (has.apart e.page.0 (file_header e) (h.files i e is)) inside))
    (λ (there : (k ≢ i) × IsIn table k d). body_stored old new d has.long (log_bodies old new table i e log h is none has k d there.1) (h.stored k d there.1))
    (is_in_set table i (Some (record e { log = Some log })) k d at)

pub logged : (old new : List ℕ) (table : Entries) (i : ℕ) (e : FileAt) (log : PageId) → HoldsTable old table None → IsIn table i e → e.log ≡ None → HasLog old new (units_of old) e log → log.0 + 16 ≤ pages_of new → Logs old new table i e log
logged old new table i e log h is none has inside =
    let whole = h.whole in
    let long = has.long in
    record {
      sets = record {
        holds = record {
          whole = omega arith;
          tiled = unbroken_tiled nowhere new (units_of new) has.tiled;
          files = logged_files old new table i e log h is has;
          logs = logged_logs old new table i e log h is has;
          begun = λ d drafted. cc;
          only = logged_only old new table i e log h is none has;
          names = logged_names old table i e log h is;
          stored = logged_stored old new table i e log h is none has inside;
          drafted = λ d drafted. cc;
        };
        others = λ k d other at. body_content old new d has.long (log_bodies old new table i e log h is none has k d at);
      };
      content = λ p within. log_content old new e log has.long none (log_bodies old new table i e log h is none has i e is) has.zeros p within ∙ ap (λ o. file_byte old e.page.0 o p) none;
    }

-- the same after a change that keeps all files
pub stays_logs : (old mid new : List ℕ) (table : Entries) (i : ℕ) (e : FileAt) (log : PageId) → Stays old mid table → IsIn table i e → e.log ≡ None → Logs mid new table i e log → Logs old new table i e log
stays_logs old mid new table i e log first is none second = record {
  sets = record { holds = second.sets.holds; others = λ k d other at p within. second.sets.others k d other at p within ∙ first.kept k d at p within };
  content = λ p within. second.content p within ∙ ap (λ o. file_byte mid e.page.0 o p) (sym none) ∙ first.kept i e is p within ∙ ap (λ o. file_byte old e.page.0 o p) none;
}
