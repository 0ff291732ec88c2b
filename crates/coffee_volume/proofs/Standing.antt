-- What a volume keeps from one call to the next, on every flash and on one that tells its image.
use Rattle.std.proofs.Common.{◌≡◌, ℕ, ◌*◌, ◌/◌, ◌<◌, ◌≤◌, Bool, true, false, not, ◌&&◌, List, length, set, Option, Some, None, IsTrue, refl, sym, ap, ◌∙◌, subst, arith}
use Rattle.std.specs.Prelude.{option_map}
use Rattle.std.proofs.lemmas.List.{get_or-set_same, length-set}
use Rattle.afl_base.specs.Files.{IsUnnamed, used}
use Rattle.coffee_layout.specs.Units.{pages_of}
use Rattle.coffee_layout.specs.declared.file.FileAt.{FileAt}
use Rattle.coffee_merge.specs.Holding.{HoldsTable, IsStored}
use Rattle.coffee_volume.specs.Volumes.{AreRegular, EntryTable, IsEntry, IsPending, IsRegular, files_seen, places}
use Rattle.coffee_volume.specs.declared.entry.Entry.{Entry}
use Rattle.coffee_volume.proofs.States.{space_same}
use Rattle.coffee_volume.proofs.Tables.{length_places, places_set, regular_same}

-- the ghost fields of a volume
pub record Stands (tells failed : Bool) (image : List ℕ) (table : EntryTable) (draft : Option FileAt) : Type 0 where
  pub count : length table ≡ 32
  pub big : length image ≤ 16773120
  pub whole : length image ≡ 4096 * (length image / 4096)
  pub regular : AreRegular (pages_of image) table
  pub pending : (d : FileAt) → draft ≡ Some d → IsPending (pages_of image) d
  pub space : (d : FileAt) → draft ≡ Some d → IsUnnamed (files_seen false image table) d.name → used (files_seen false image table) < 32
  pub told : IsTrue tells → failed ≡ false → HoldsTable image (places table) draft

pub same_pages : (old new : List ℕ) → length new ≡ length old → pages_of new ≡ pages_of old
same_pages old new long = ap (λ (n : ℕ). n / 256) long

pub same_whole : (old new : List ℕ) → length old ≡ 4096 * (length old / 4096) → length new ≡ length old → length new ≡ 4096 * (length new / 4096)
same_whole old new whole long = omega (arith, whole, long)

-- while a call is under way, and after one that failed
pub stands_failed : (tells failed : Bool) (old new : List ℕ) (table : EntryTable) (draft : Option FileAt) → Stands tells failed old table draft → length new ≡ length old → Stands tells true new table draft
stands_failed tells failed old new table draft s long =
    let pages = same_pages old new long in
    let big = s.big in
    record {
      count = s.count;
      big = omega arith;
      whole = same_whole old new s.whole long;
      regular = subst (λ (n : ℕ). AreRegular n table) (sym pages) s.regular;
      pending = λ d is. subst (λ (n : ℕ). IsPending n d) (sym pages) (s.pending d is);
      space = s.space;
      told = λ told no. absurd (cc);
    }

-- no call failed, and all files are as they were
pub stands_kept : (tells failed : Bool) (old new : List ℕ) (table : EntryTable) (draft : Option FileAt) → Stands tells failed old table draft → length new ≡ length old → (IsTrue tells → failed ≡ false → HoldsTable new (places table) draft) → Stands tells failed new table draft
stands_kept tells failed old new table draft s long holds =
    let pages = same_pages old new long in
    let big = s.big in
    record {
      count = s.count;
      big = omega arith;
      whole = same_whole old new s.whole long;
      regular = subst (λ (n : ℕ). AreRegular n table) (sym pages) s.regular;
      pending = λ d is. subst (λ (n : ℕ). IsPending n d) (sym pages) (s.pending d is);
      space = s.space;
      told = holds;
    }

-- a place of the table is set
pub stands_set : (tells failed : Bool) (old new : List ℕ) (table : EntryTable) (draft now : Option FileAt) (i : ℕ) (o : Option Entry) → Stands tells failed old table draft → length new ≡ length old → AreRegular (pages_of old) (set table i o)
    → ((d : FileAt) → now ≡ Some d → IsPending (pages_of old) d)
    → ((d : FileAt) → now ≡ Some d → IsUnnamed (files_seen false old (set table i o)) d.name → used (files_seen false old (set table i o)) < 32)
    → (IsTrue tells → failed ≡ false → HoldsTable new (set (places table) i (option_map (λ (e : Entry). e.at) o)) now) → Stands tells failed new (set table i o) now
stands_set tells failed old new table draft now i o s long regular pending space holds =
    let pages = same_pages old new long in
    let big = s.big in
    record {
      count = length-set table i o ∙ s.count;
      big = omega arith;
      whole = same_whole old new s.whole long;
      regular = subst (λ (n : ℕ). AreRegular n (set table i o)) (sym pages) regular;
      pending = λ d is. subst (λ (n : ℕ). IsPending n d) (sym pages) (pending d is);
      space = space;
      told = λ told no. subst (λ (t : List (Option FileAt)). HoldsTable new t now) (sym (places_set table i o)) (holds told no);
    }

-- an entry in the place of one of its name, also while a draft is begun
pub stands_same : (tells failed : Bool) (old new : List ℕ) (table : EntryTable) (draft : Option FileAt) (i : ℕ) (e f : Entry) → Stands tells failed old table draft → length new ≡ length old → i < 32 → IsEntry table i e → f.at.name ≡ e.at.name
    → IsRegular (pages_of old) f → (IsTrue tells → failed ≡ false → HoldsTable new (set (places table) i (Some f.at)) draft) → Stands tells failed new (set table i (Some f)) draft
stands_same tells failed old new table draft i e f s long below is name fine holds =
    let count = s.count in
    let inside : i < length table = omega arith in
    stands_set tells failed old new table draft draft i (Some f) s long (regular_same (pages_of old) table i e f s.regular inside is name fine) s.pending
    (λ d begun. space_same old table i e f d.name inside is name (s.space d begun)) holds

-- a draft is begun
pub stands_draft : (tells failed : Bool) (old new : List ℕ) (table : EntryTable) (d : FileAt) → Stands tells failed old table None → length new ≡ length old → IsPending (pages_of old) d
    → (IsUnnamed (files_seen false old table) d.name → used (files_seen false old table) < 32) → (IsTrue tells → failed ≡ false → HoldsTable new (places table) (Some d)) → Stands tells failed new table (Some d)
stands_draft tells failed old new table d s long pending space holds =
    let pages = same_pages old new long in
    let big = s.big in
    record {
      count = s.count;
      big = omega arith;
      whole = same_whole old new s.whole long;
      regular = subst (λ (n : ℕ). AreRegular n table) (sym pages) s.regular;
      pending = λ c is. let same : d ≡ c = cc in subst (λ (x : FileAt). IsPending (pages_of new) x) same (subst (λ (n : ℕ). IsPending n d) (sym pages) pending);
      space = λ c is. let same : d ≡ c = cc in subst (λ (x : FileAt). IsUnnamed (files_seen false old table) x.name → used (files_seen false old table) < 32) same space;
      told = holds;
    }

-- where nothing failed, what holds of a flash that tells holds of what the volume tells
pub where_told : (tells failed : Bool) (P : Type 0) → (IsTrue tells → failed ≡ false → P) → IsTrue (tells && not failed) → P
where_told true true P holds told = absurd (cc)
where_told true false P holds told = holds refl refl
where_told false failed P holds told = absurd (cc)

-- the entry in a place that was set is stored
pub set_stored : (image : List ℕ) (table : EntryTable) (draft : Option FileAt) (i : ℕ) (e : FileAt) → i < length table → HoldsTable image (set (places table) i (Some e)) draft → IsStored image e
set_stored image table draft i e inside holds = holds.stored i e (get_or-set_same (places table) i (Some e) None (omega (arith, length_places table)))

-- a place is set while no draft is begun
pub stands_idle : (tells failed : Bool) (old new : List ℕ) (table : EntryTable) (draft : Option FileAt) (i : ℕ) (o : Option Entry) → Stands tells failed old table draft → draft ≡ None → length new ≡ length old → AreRegular (pages_of old) (set table i o)
    → (IsTrue tells → failed ≡ false → HoldsTable new (set (places table) i (option_map (λ (e : Entry). e.at) o)) None) → Stands tells failed new (set table i o) draft
stands_idle tells failed old new table draft i o s idle long regular holds =
    stands_set tells failed old new table draft draft i o s long regular (λ d begun. absurd (cc)) (λ d begun. absurd (cc))
    (λ told no. subst (λ (d : Option FileAt). HoldsTable new (set (places table) i (option_map (λ (e : Entry). e.at) o)) d) (sym idle) (holds told no))

-- what the flash tells, while no draft is begun
pub holds_idle : (tells failed : Bool) (image : List ℕ) (table : EntryTable) (draft : Option FileAt) → Stands tells failed image table draft → draft ≡ None → IsTrue tells → failed ≡ false → HoldsTable image (places table) None
holds_idle tells failed image table draft s idle told none = subst (λ (d : Option FileAt). HoldsTable image (places table) d) idle (s.told told none)

-- all files are as they were, while no draft is begun
pub stands_still : (tells failed : Bool) (old new : List ℕ) (table : EntryTable) (draft : Option FileAt) → Stands tells failed old table draft → draft ≡ None → length new ≡ length old → (IsTrue tells → failed ≡ false → HoldsTable new (places table) None) → Stands tells failed new table draft
stands_still tells failed old new table draft s idle long holds =
    stands_kept tells failed old new table draft s long (λ told fine. subst (λ (d : Option FileAt). HoldsTable new (places table) d) (sym idle) (holds told fine))

-- what a volume tells, where its flash tells and nothing failed
pub tells_by : (tells failed : Bool) → IsTrue tells → failed ≡ false → IsTrue (tells && not failed)
tells_by true true told fine = absurd (cc)
tells_by true false told fine = refl
tells_by false failed told fine = absurd (cc)

-- a draft has become a file, and none is begun
pub stands_committed : (tells failed : Bool) (old new : List ℕ) (table : EntryTable) (draft : Option FileAt) (i : ℕ) (f : Entry) → Stands tells failed old table draft → length new ≡ length old → AreRegular (pages_of old) (set table i (Some f))
    → (IsTrue tells → failed ≡ false → HoldsTable new (set (places table) i (Some f.at)) None) → Stands tells failed new (set table i (Some f)) None
stands_committed tells failed old new table draft i f s long regular holds =
    stands_set tells failed old new table draft None i (Some f) s long regular (λ d begun. absurd (cc)) (λ d begun. absurd (cc)) holds
