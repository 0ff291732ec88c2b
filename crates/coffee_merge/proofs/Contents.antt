-- Content that is written: bytes of the extent under construction, and bytes of a file of the table.
use Rattle.std.proofs.Common.{◌≡◌, ◌≢◌, ℕ, ◌+◌, ◌-◌, ◌*◌, ◌/◌, ◌%◌, ◌≤◌, ◌<◌, inl, inr, ⊎_elim, List, length, get_or, Option, Some, None, refl, ap, sym, subst, ◌∙◌, arith}
use Rattle.std.specs.Prelude.{set}
use Rattle.std.proofs.lemmas.Bool.{cases_lt}
use Rattle.afl_base.specs.Image.{or_at}
use Rattle.afl_base.specs.declared.ids.PageId.{PageId}
use Rattle.afl_base.proofs.Images.{length_or_at}
use Rattle.coffee_merge.proofs.Logged.{in_same as one_entry}
use Rattle.flash_range.specs.Range.{Outside}
use Rattle.flash_range.proofs.Ranges.{or_on_zero, or_outside}
use Rattle.coffee_header.specs.declared.header.Header.{Header}
use Rattle.coffee_layout.specs.FileBytes.{extent_place, file_byte}
use Rattle.coffee_layout.specs.Files.{FitsIn}
use Rattle.coffee_layout.specs.Tiling.{IsTiled, units_of}
use Rattle.coffee_layout.specs.Units.{pages_of}
use Rattle.coffee_layout.specs.declared.file.FileAt.{FileAt}
use Rattle.coffee_layout.specs.declared.unit.Unit.TheVariants.{Extent}
use Rattle.coffee_layout.proofs.Tilings.{units_tiled, unbroken_tiled}
use Rattle.coffee_log.specs.FileChanges.{FileBecomes, IsFile, OutsideFile}
use Rattle.coffee_log.proofs.UnitLaws.{StandsAt, other_kept, units_stay}
use Rattle.coffee_merge.specs.Begun.{active_at, unit_begun}
use Rattle.coffee_merge.specs.Holding.{Copies, CopiesPart, Entries, HoldsTable, IsDrafted, IsIn, IsStored, KeepsContent, KeepsOthers, Writes, building_of, file_header, has_extent_at, log_header}
use Rattle.coffee_merge.proofs.Begun.{begun_split}
use Rattle.coffee_merge.proofs.Holdings.{draft_apart, draft_unit, entries_apart, file_unit, held_set, holds_tiled, in_table, is_in_set, log_unit}
use Rattle.coffee_merge.proofs.Kept.{KeepsBodies, KeepsBody, bodies_kept, body_content, body_drafted, body_kept, body_stored, fits_kept, holds_units}

-- EXTENTS

-- an extent that begins at a page stands there
pub stands : (image : List ℕ) (page : ℕ) (h : Header) → unit_begun (units_of image) 0 page ≡ Some (Extent h) → StandsAt (units_of image) page h.max_pages
stands image page h is =
    let s = begun_split (units_of image) page (Extent h) is in
    record { front = s.front; rest = s.rest; header = h; whole = s.whole; place = s.place; size = refl }

-- where no log is read, the bytes of a file are those behind the header
pub direct_byte : (image : List ℕ) (page p : ℕ) → file_byte image page None p ≡ get_or image (256 * page + 32 + p) 0
direct_byte image page p =
    let place : extent_place page (128 * (p / 128)) + p % 128 ≡ 256 * page + 32 + p = omega arith in
    ap (λ k. get_or image k 0) place

-- THE EXTENT UNDER CONSTRUCTION

abbrev pub place_in : FileAt → ℕ → ℕ
place_in d at = 256 * d.page.0 + 32 + at

write_outside : (old : List ℕ) (d : FileAt) (at : ℕ) (bytes : List ℕ) → at + length bytes + 32 ≤ 256 * d.pages → (k : ℕ) → OutsideFile d.page.0 d.pages None k → get_or (or_at old (place_in d at) bytes) k 0 ≡ get_or old k 0
write_outside old d at bytes fits k out = or_outside old (place_in d at) bytes k (λ a b. out.extent (omega arith) (omega arith))

-- a byte of the extent that is not written stays
write_other : (old : List ℕ) (d : FileAt) (at : ℕ) (bytes : List ℕ) (p : ℕ) → Outside at (length bytes) p → file_byte (or_at old (place_in d at) bytes) d.page.0 None p ≡ file_byte old d.page.0 None p
write_other old d at bytes p out =
    direct_byte (or_at old (place_in d at) bytes) d.page.0 p
    ∙ or_outside old (place_in d at) bytes (256 * d.page.0 + 32 + p) (λ a b. out (omega arith) (omega arith))
    ∙ sym (direct_byte old d.page.0 p)

-- a byte that is written where a zero stood is the given one
write_here : (old : List ℕ) (d : FileAt) (at : ℕ) (bytes : List ℕ) (k : ℕ) → k < length bytes → place_in d at + length bytes ≤ length old → file_byte old d.page.0 None (at + k) ≡ 0 → file_byte (or_at old (place_in d at) bytes) d.page.0 None (at + k) ≡ get_or bytes k 0
write_here old d at bytes k low fits zero =
    let place : 256 * d.page.0 + 32 + (at + k) ≡ place_in d at + k = omega arith in
    direct_byte (or_at old (place_in d at) bytes) d.page.0 (at + k)
    ∙ ap (λ j. get_or (or_at old (place_in d at) bytes) j 0) place
    ∙ or_on_zero old (place_in d at) bytes k low fits (ap (λ j. get_or old j 0) (sym place) ∙ sym (direct_byte old d.page.0 (at + k)) ∙ zero)

write_bodies : (old : List ℕ) (table : Entries) (d : FileAt) (at : ℕ) (bytes : List ℕ) → HoldsTable old table (Some d) → at + length bytes + 32 ≤ 256 * d.pages → KeepsBodies old (or_at old (place_in d at) bytes) table
write_bodies old table d at bytes h fits i e is =
    body_kept old (or_at old (place_in d at) bytes) e.page.0 e.pages e.log
    (other_kept old (or_at old (place_in d at) bytes) d.page.0 d.pages None e.page.0 e.pages e.log (draft_apart old table d i e h is) (write_outside old d at bytes fits))

write_drafted : (old : List ℕ) (d : FileAt) (at : ℕ) (bytes : List ℕ) → IsDrafted old d → at + length bytes ≤ d.size → IsDrafted (or_at old (place_in d at) bytes) d
write_drafted old d at bytes s within = record {
  fits = fits_kept old (or_at old (place_in d at) bytes) d (length_or_at old (place_in d at) bytes) s.fits;
  shape = s.shape;
  file = record {
    apart = s.file.apart;
    logged = λ l none. cc;
    below = λ l none. cc;
    zeros = λ p from to. write_other old d at bytes p (λ a b. omega arith) ∙ s.file.zeros p from to;
  };
  no_log = s.no_log;
}

pub write_tiled : (old : List ℕ) (table : Entries) (d : FileAt) (at : ℕ) (bytes : List ℕ) → HoldsTable old table (Some d) → at + length bytes + 32 ≤ 256 * d.pages → IsTiled (building_of (Some d)) (or_at old (place_in d at) bytes) (units_of old)
write_tiled old table d at bytes h fits =
    let whole = h.whole in
    let room = (h.drafted d refl).fits in
    let some = room.some in
    let placed = room.placed in
    units_stay (building_of (Some d)) old (or_at old (place_in d at) bytes) (units_of old) d.page.0 d.pages None (stands old d.page.0 _ (draft_unit old table d h)) (λ l none. cc) (holds_tiled old table (Some d) h)
    (length_or_at old (place_in d at) bytes) some (omega arith) (write_outside old d at bytes fits)

-- bytes are written into the extent under construction, where it has zeros
pub written : (old : List ℕ) (table : Entries) (d : FileAt) (at : ℕ) (bytes : List ℕ) → HoldsTable old table (Some d) → at + length bytes ≤ d.size → ((k : ℕ) → k < length bytes → file_byte old d.page.0 None (at + k) ≡ 0)
    → Writes old (or_at old (place_in d at) bytes) table d at bytes
written old table d at bytes h within zeros =
    let new = or_at old (place_in d at) bytes in
    let long : length new ≡ length old = length_or_at old (place_in d at) bytes in
    let whole = h.whole in
    let drafted = h.drafted d refl in
    let size = drafted.fits.size in
    let placed = drafted.fits.placed in
    let fits : at + length bytes + 32 ≤ 256 * d.pages = omega arith in
    let bodies = write_bodies old table d at bytes h fits in
    record {
      holds = holds_units old new table (Some d) h long (write_tiled old table d at bytes h fits) (λ i e is. body_stored old new e long (bodies i e is) (h.stored i e is))
          (λ c is. let same : d ≡ c = cc in subst (λ f. IsDrafted new f) same (write_drafted old d at bytes drafted within));
      put = record {
        here = λ k low. write_here old d at bytes k low (omega arith) (zeros k low);
        others = λ p low out. write_other old d at bytes p out;
      };
      kept = bodies_kept old new table long bodies;
    }

-- the same of a place and a page that are named otherwise
pub written_there : (old new : List ℕ) (page : PageId) (pages place at : ℕ) (bytes : List ℕ) → place ≡ 256 * page.0 + 32 + at → new ≡ or_at old place bytes → (table : Entries) (d : FileAt) → HoldsTable old table (Some d) → d.page ≡ page → d.pages ≡ pages → at + length bytes ≤ d.size
    → ((k : ℕ) → k < length bytes → file_byte old page.0 None (at + k) ≡ 0) → Writes old new table d at bytes
written_there old new page pages place at bytes there is table d h same_page same_pages within zeros =
    let here : place ≡ place_in d at = there ∙ ap (λ (q : PageId). 256 * q.0 + 32 + at) (sym same_page) in
    subst (λ image. Writes old image table d at bytes) (sym (is ∙ ap (λ k. or_at old k bytes) here))
    (written old table d at bytes h within (λ k low. ap (λ (q : PageId). file_byte old q.0 None (at + k)) same_page ∙ zeros k low))

-- COPIES

-- bytes that were read of a file are written at their place
pub copied_part : (old new : List ℕ) (table : Entries) (d from : FileAt) (at n : ℕ) (bytes : List ℕ) → Writes old new table d at bytes → length bytes ≡ n → ((k : ℕ) → k < n → get_or bytes k 0 ≡ file_byte old from.page.0 from.log (at + k)) → at + n + 32 ≤ 256 * d.pages
    → CopiesPart old new table d from at n
copied_part old new table d from at n bytes w long read fits = record {
  holds = w.holds;
  same = λ p low high.
      let back : at + (p - at) ≡ p = omega arith in
      ap (λ k. file_byte new d.page.0 None k) (sym back) ∙ w.put.here (p - at) (omega arith) ∙ read (p - at) (omega arith) ∙ ap (λ k. file_byte old from.page.0 from.log k) back;
  others = λ p low out. w.put.others p (omega arith) (λ a b. out a (omega arith));
  kept = w.kept;
}

-- the same of what was read and then written by calls
pub copied_there : (old mid new : List ℕ) (page : PageId) (pages at n : ℕ) (from : FileAt) (bytes : List ℕ) → mid ≡ old → length bytes ≡ n → at + n ≤ from.size
    → ((k : ℕ) → k < n → get_or bytes k 0 ≡ file_byte old from.page.0 from.log (at + k))
    → ((table : Entries) (d : FileAt) → HoldsTable mid table (Some d) → d.page ≡ page → d.pages ≡ pages → at + length bytes ≤ d.size → ((k : ℕ) → k < length bytes → file_byte mid page.0 None (at + k) ≡ 0) → Writes mid new table d at bytes)
    → (table : Entries) (d : FileAt) (i : ℕ) → HoldsTable old table (Some d) → d.page ≡ page → d.pages ≡ pages → d.size ≡ from.size → IsIn table i from → ((p : ℕ) → at ≤ p → p + 32 < 256 * pages → file_byte old page.0 None p ≡ 0)
    → CopiesPart old new table d from at n
copied_there old mid new page pages at n from bytes same long within read writes table d i h same_page same_pages same_size is zeros =
    let size = (h.drafted d refl).fits.size in
    copied_part old new table d from at n bytes
    (subst (λ image. Writes image new table d at bytes) same
    (writes table d (subst (λ image. HoldsTable image table (Some d)) (sym same) h) same_page same_pages (omega arith) (λ k low. ap (λ image. file_byte image page.0 None (at + k)) same ∙ zeros (at + k) (omega arith) (omega arith)))) long read (omega arith)

-- nothing is copied yet
pub copied_none : (old : List ℕ) (table : Entries) (d from : FileAt) → HoldsTable old table (Some d) → ((p : ℕ) → p + 32 < 256 * d.pages → file_byte old d.page.0 None p ≡ 0) → Copies old old table d from 0
copied_none old table d from h zeros = record { holds = h; same = λ p low. absurd (omega arith); zeros = λ p from to. zeros p to; kept = λ i e is p low. refl }

-- a part more
pub copied_more : (old mid new : List ℕ) (table : Entries) (d from : FileAt) (i done n : ℕ) → IsIn table i from → done + n + 32 ≤ 256 * d.pages → done + n + 32 ≤ 256 * from.pages → Copies old mid table d from done → CopiesPart mid new table d from done n → Copies old new table d from (done + n)
copied_more old mid new table d from i done n is fits room c part = record {
  holds = part.holds;
  same = λ p low.
      ⊎_elim
      (λ (a : p < done). part.others p (omega arith) (λ x y. omega arith) ∙ c.same p a)
      (λ (a : done ≤ p). part.same p a low ∙ c.kept i from is p (omega arith))
      (cases_lt p done);
  zeros = λ p low high. part.others p high (λ x y. omega arith) ∙ c.zeros p (omega arith) high;
  kept = λ k e there p low. part.kept k e there p low ∙ c.kept k e there p low;
}

-- the same for each table and each extent under construction that stands at a page
abbrev pub CopiesInto : (old new : List ℕ) → PageId → (pages : ℕ) → FileAt → (n : ℕ) → Type 0
CopiesInto old new page pages from n =
    (table : Entries) (d : FileAt) (i : ℕ) → HoldsTable old table (Some d) → d.page ≡ page → d.pages ≡ pages → d.size ≡ from.size → IsIn table i from → ((p : ℕ) → p + 32 < 256 * pages → file_byte old page.0 None p ≡ 0) → Copies old new table d from n

pub copies_none : (old : List ℕ) (page : PageId) (pages : ℕ) (from : FileAt) → CopiesInto old old page pages from 0
copies_none old page pages from = λ table d i h same_page same_pages same_size is zeros.
    copied_none old table d from h (λ p low. ap (λ (q : PageId). file_byte old q.0 None p) same_page ∙ zeros p (omega arith))

pub copies_more : (old mid new : List ℕ) (page : PageId) (pages : ℕ) (from : FileAt) (done n : ℕ) → done + n ≤ from.size → CopiesInto old mid page pages from done
    → ((table : Entries) (d : FileAt) (i : ℕ) → HoldsTable mid table (Some d) → d.page ≡ page → d.pages ≡ pages → d.size ≡ from.size → IsIn table i from → ((p : ℕ) → done ≤ p → p + 32 < 256 * pages → file_byte mid page.0 None p ≡ 0) → CopiesPart mid new table d from done n)
    → CopiesInto old new page pages from (done + n)
copies_more old mid new page pages from done n within copies part = λ table d i h same_page same_pages same_size is zeros.
    let size = (h.drafted d refl).fits.size in
    let room = (h.stored i from is).fits.size in
    let c = copies table d i h same_page same_pages same_size is zeros in
    copied_more old mid new table d from i done n is (omega arith) (omega arith) c
    (part table d i c.holds same_page same_pages same_size is (λ p low high. ap (λ (q : PageId). file_byte mid q.0 None p) (sym same_page) ∙ c.zeros p low (omega arith)))

-- A FILE OF THE TABLE

-- what holds of the entry that was set and of each other, holds of all
each_set : (table : Entries) (i : ℕ) (now : FileAt) (P : ℕ → FileAt → Type 0) → P i now → ((k : ℕ) (d : FileAt) → k ≢ i → IsIn table k d → P k d) → (k : ℕ) (d : FileAt) → IsIn (set table i (Some now)) k d → P k d
each_set table i now P here there k d is =
    ⊎_elim
    (λ (a : (k ≡ i) × (Some now ≡ Some d)). let same : now ≡ d = cc in subst (λ f. P k f) same (subst (λ j. P j now) (sym a.0) here))
    (λ (b : (k ≢ i) × IsIn table k d). there k d b.0 b.1)
    (is_in_set table i (Some now) k d is)

-- a place had an entry of this name
record HadName (table : Entries) (k : ℕ) (d : FileAt) : Type 0 where
  entry : FileAt
  is_in : IsIn table k entry
  name : entry.name ≡ d.name

-- the entry after a change of the file's bytes
abbrev pub resized : FileAt → (used size : ℕ) → FileAt
resized e used size = record e { used = used; size = size }

few_used : (image : List ℕ) (log : Option PageId) (page pages used size : ℕ) → IsFile image page pages log used size → (log ≡ None → used ≡ 0) → used ≤ 30
few_used image None page pages used size is none = let z = none refl in omega arith
few_used image (Some l) page pages used size is none = (is.logged l refl).few

resized_fits : (old new : List ℕ) (e : FileAt) (used total : ℕ) → length new ≡ length old → FitsIn (pages_of old) e → IsFile new e.page.0 e.pages e.log used total → total + 32 ≤ 256 * e.pages → (e.log ≡ None → used ≡ 0) → FitsIn (pages_of new) (resized e used total)
resized_fits old new e used total long fits is room none =
    let f = fits_kept old new e long fits in
    record { some = f.some; placed = f.placed; size = room; log = f.log; used = few_used new e.log e.page.0 e.pages used total is none; unused = none }

-- A change of the bytes of one file leaves the units, all other files and the draft.
pub changed_tiled : (old new : List ℕ) (table : Entries) (draft : Option FileAt) (i : ℕ) (e : FileAt) → HoldsTable old table draft → IsIn table i e → length new ≡ length old → ((k : ℕ) → OutsideFile e.page.0 e.pages e.log k → get_or new k 0 ≡ get_or old k 0)
    → IsTiled (building_of draft) new (units_of old)
changed_tiled old new table draft i e h is long same =
    let whole = h.whole in
    let fits = (h.stored i e is).fits in
    let some = fits.some in
    let placed = fits.placed in
    units_stay (building_of draft) old new (units_of old) e.page.0 e.pages e.log (stands old e.page.0 (file_header e) (file_unit old table draft i e h is))
    (λ l log. stands old l.0 (log_header e.name) (log_unit old table draft i e l h is log)) (holds_tiled old table draft h) long some (omega arith) same

changed_body : (old new : List ℕ) (table : Entries) (draft : Option FileAt) (i : ℕ) (e : FileAt) → HoldsTable old table draft → IsIn table i e → ((k : ℕ) → OutsideFile e.page.0 e.pages e.log k → get_or new k 0 ≡ get_or old k 0) → (k : ℕ) (d : FileAt) → k ≢ i → IsIn table k d
    → KeepsBody old new d.page.0 d.pages d.log
changed_body old new table draft i e h is same k d other there =
    body_kept old new d.page.0 d.pages d.log (other_kept old new e.page.0 e.pages e.log d.page.0 d.pages d.log (entries_apart old table draft i k e d h is there (λ s. other (sym s))) same)

changed_draft : (old new : List ℕ) (table : Entries) (d : FileAt) (i : ℕ) (e : FileAt) → HoldsTable old table (Some d) → IsIn table i e → ((k : ℕ) → OutsideFile e.page.0 e.pages e.log k → get_or new k 0 ≡ get_or old k 0) → KeepsBody old new d.page.0 d.pages None
changed_draft old new table d i e h is same =
    let apart = draft_apart old table d i e h is in
    body_kept old new d.page.0 d.pages None
    (other_kept old new e.page.0 e.pages e.log d.page.0 d.pages None
    (record { extents = λ p a b x y. apart.extents p x y a b; first = λ l log. apart.behind l log; behind = λ l none. cc; logs = λ l m log none. cc }) same)

draft_stays : (old new : List ℕ) (table : Entries) (draft : Option FileAt) (i : ℕ) (e : FileAt) → HoldsTable old table draft → IsIn table i e → ((k : ℕ) → OutsideFile e.page.0 e.pages e.log k → get_or new k 0 ≡ get_or old k 0) → (d : FileAt) → draft ≡ Some d → KeepsBody old new d.page.0 d.pages None
draft_stays old new table draft i e h is same d drafted = changed_draft old new table d i e (subst (λ o. HoldsTable old table o) drafted h) is same

changed_holds : (old new : List ℕ) (table : Entries) (draft : Option FileAt) (i : ℕ) (e : FileAt) (used total : ℕ) → HoldsTable old table draft → IsIn table i e → length new ≡ length old → ((k : ℕ) → OutsideFile e.page.0 e.pages e.log k → get_or new k 0 ≡ get_or old k 0)
    → IsStored new (resized e used total) → HoldsTable new (set table i (Some (resized e used total))) draft
changed_holds old new table draft i e used total h is long same stored =
    let now : FileAt = resized e used total in
    let tiled = changed_tiled old new table draft i e h is long same in
    let units : units_of new ≡ units_of old = units_tiled (building_of draft) new (units_of old) tiled in
    let whole = h.whole in
    let had : (k : ℕ) (d : FileAt) → IsIn (set table i (Some now)) k d → HadName table k d = each_set table i now (HadName table) (record { entry = e; is_in = is; name = refl }) (λ k d other there. record { entry = d; is_in = there; name = refl }) in
    record {
      whole = omega arith;
      tiled = unbroken_tiled (building_of draft) new (units_of old) tiled;
      files = each_set table i now (λ k d. active_at (units_of new) d.page.0 ≡ Some (file_header d)) (ap (λ us. active_at us e.page.0) units ∙ h.files i e is) (λ k d other there. ap (λ us. active_at us d.page.0) units ∙ h.files k d there);
      logs = λ k d l there log.
          each_set table i now (λ k d. (l : PageId) → d.log ≡ Some l → active_at (units_of new) l.0 ≡ Some (log_header d.name)) (λ l log. ap (λ us. active_at us l.0) units ∙ h.logs i e l is log)
          (λ k d other there l log. ap (λ us. active_at us l.0) units ∙ h.logs k d l there log) k d there l log;
      begun = λ d drafted. ap (λ us. active_at us d.page.0) units ∙ h.begun d drafted;
      only = λ page g active.
          held_set table i (Some now) draft draft page (in_table table i e is) (h.only page g (ap (λ us. active_at us page) (sym units) ∙ active))
          (λ d there t. inl (ap (λ f. has_extent_at page (Some f)) (one_entry table i e d is there) ∙ t)) (λ t. inr t);
      names = λ k j a b first second same.
          let x = had k a first in
          let y = had j b second in
          h.names k j x.entry y.entry x.is_in y.is_in (x.name ∙ same ∙ sym y.name);
      stored = each_set table i now (λ k d. IsStored new d) stored (λ k d other there. body_stored old new d long (changed_body old new table draft i e h is same k d other there) (h.stored k d there));
      drafted = λ d drafted. body_drafted old new d long (draft_stays old new table draft i e h is same d drafted) (h.drafted d drafted);
    }

-- a place of the table has another entry for the same file, and all else is as it was
pub record SetsBytes (old new : List ℕ) (table : Entries) (draft : Option FileAt) (i : ℕ) (now : FileAt) : Type 0 where
  pub holds : HoldsTable new (set table i (Some now)) draft
  pub others : KeepsOthers old new table i
  pub drafted : (d : FileAt) → draft ≡ Some d → KeepsContent old new d
  pub units : units_of new ≡ units_of old

-- A file of the table becomes one with bytes from a place on: its entry has another size and other
-- records in use, all other files and the draft stay, and so do the units.
pub holds_written_with : (old new : List ℕ) (table : Entries) (draft : Option FileAt) (i : ℕ) (e : FileAt) (used total at : ℕ) (bytes : List ℕ) → HoldsTable old table draft → IsIn table i e → length new ≡ length old
    → FileBecomes old new e.page.0 e.pages e.log used total at bytes → total + 32 ≤ 256 * e.pages → (e.log ≡ None → used ≡ 0) → (1 ≤ total → file_byte new e.page.0 e.log (total - 1) ≢ 0) → SetsBytes old new table draft i (resized e used total)
holds_written_with old new table draft i e used total at bytes h is long becomes room unused last =
    let s = h.stored i e is in
    record {
      holds = changed_holds old new table draft i e used total h is long becomes.others (record { fits = resized_fits old new e used total long s.fits becomes.kept room unused; shape = s.shape; file = becomes.kept; last = last });
      others = λ k d other there. body_content old new d long (changed_body old new table draft i e h is becomes.others k d other there);
      drafted = λ d drafted. body_content old new d long (subst (λ log. KeepsBody old new d.page.0 d.pages log) (sym (h.drafted d drafted).no_log) (draft_stays old new table draft i e h is becomes.others d drafted));
      units = units_tiled (building_of draft) new (units_of old) (changed_tiled old new table draft i e h is long becomes.others);
    }
