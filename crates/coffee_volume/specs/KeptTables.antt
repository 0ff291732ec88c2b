-- The table of a volume: its files are those that its image mends to between calls, and what it asks for is told by what is seen
-- of it: `Files` needs both.
use Rattle.std.proofs.Common.{◌≡◌, ℕ, ◌*◌, ◌/◌, ◌≤◌, Bool, true, false, not, ◌&&◌, List, length, get_or, Option, Some, None, IsTrue, refl, sym, ap, ◌∙◌, subst, arith}
use Rattle.std.specs.Prelude.{option_map, is_some}
use Rattle.std.specs.List.{Contains}
use Rattle.std.proofs.Math.ListN.{get_or-map}
use Rattle.std.proofs.lemmas.List.{length-map}
use Rattle.afl_base.specs.Files.{File, IsLive, State, file_at, place}
use Rattle.afl_base.proofs.FileLaws.{file_here}
use Rattle.coffee_cuts.specs.Mending.{IsTable, MendsToTable}
use Rattle.coffee_cuts.proofs.Drafts.{drafted_mends}
use Rattle.coffee_cuts.proofs.Mended.{whole_mends}
use Rattle.coffee_layout.specs.Files.{Placed, entry_of}
use Rattle.coffee_layout.specs.Units.{pages_of}
use Rattle.coffee_layout.specs.Walks.{has_few}
use Rattle.coffee_layout.specs.declared.file.FileAt.{FileAt}
use Rattle.coffee_merge.specs.Holding.{Entries, HoldsTable, IsIn}
use Rattle.coffee_merge.specs.TableFiles.{file_of as file_of_entry}
use Rattle.coffee_merge.proofs.SoundHolders.{entry_among, entry_is, file_holder, placed}
use Rattle.coffee_volume.specs.Cuts.{MendsToFiles}
use Rattle.coffee_volume.specs.Mounting.{roomless_file}
use Rattle.coffee_volume.specs.Rooms.{pages_asked}
use Rattle.coffee_volume.specs.Volumes.{AreRegular, Asks, EntryTable, IsEntry, draft_seen, file_seen, files_seen, places, state_seen}
use Rattle.coffee_volume.specs.declared.entry.Entry.{Entry}
use Rattle.padded.proofs.Facts.{some_same}

-- ENTRIES AND PLACES

pub place_is : (table : EntryTable) (i : ℕ) → get_or (places table) i None ≡ option_map (λ (e : Entry). e.at) (get_or table i None)
place_is table i = get_or-map (option_map (λ (e : Entry). e.at)) table i None

pub in_places : (table : EntryTable) (i : ℕ) (e : Entry) → IsEntry table i e → IsIn (places table) i e.at
in_places table i e is = place_is table i ∙ ap (option_map (λ (d : Entry). d.at)) is

-- the entry that an option of one holds
held : (o : Option Entry) (d : FileAt) → option_map (λ (e : Entry). e.at) o ≡ Some d → (e : Entry) × (o ≡ Some e) × (e.at ≡ d)
held None d is = absurd (cc)
held (Some e) d is = (e, refl, cc)

pub entry_of_place : (table : EntryTable) (i : ℕ) (d : FileAt) → IsIn (places table) i d → (e : Entry) × IsEntry table i e × (e.at ≡ d)
entry_of_place table i d is = held (get_or table i None) d (sym (place_is table i) ∙ is)

pub length_places : (table : EntryTable) → length (places table) ≡ length table
length_places table = length-map table (option_map (λ (e : Entry). e.at))

-- WHAT CALLERS SEE

pub seen_is : (tells : Bool) (image : List ℕ) (table : EntryTable) (i : ℕ) → place (files_seen tells image table) i ≡ option_map (file_seen tells image) (get_or table i None)
seen_is tells image table i = get_or-map (option_map (file_seen tells image)) table i None

pub seen_here : (tells : Bool) (image : List ℕ) (table : EntryTable) (i : ℕ) (e : Entry) → IsEntry table i e → place (files_seen tells image table) i ≡ Some (file_seen tells image e)
seen_here tells image table i e is = seen_is tells image table i ∙ ap (option_map (file_seen tells image)) is

-- an entry stands where a file is seen
live_entry : (tells : Bool) (image : List ℕ) (o : Option Entry) → is_some (option_map (file_seen tells image) o) ≡ true → (e : Entry) × (o ≡ Some e)
live_entry tells image None live = absurd (cc)
live_entry tells image (Some e) live = (e, refl)

pub entry_seen : (tells : Bool) (image : List ℕ) (table : EntryTable) (i : ℕ) → IsLive (files_seen tells image table) i → (e : Entry) × IsEntry table i e
entry_seen tells image table i live = live_entry tells image (get_or table i None) (ap is_some (sym (seen_is tells image table i)) ∙ live)

pub seen_live : (tells : Bool) (image : List ℕ) (table : EntryTable) (i : ℕ) (e : Entry) → IsEntry table i e → IsLive (files_seen tells image table) i
seen_live tells image table i e is = rw (seen_here tells image table i e is) refl

-- the file under a live id
pub file_of : (tells : Bool) (image : List ℕ) (table : EntryTable) (i : ℕ) (e : Entry) → IsEntry table i e → file_at (files_seen tells image table) i ≡ file_seen tells image e
file_of tells image table i e is = file_here (files_seen tells image table) i (file_seen tells image e) (seen_here tells image table i e is)

-- WHERE NO CALL FAILED

-- what a volume tells
pub told_by : (tells failed : Bool) → IsTrue (tells && not failed) → IsTrue tells × (failed ≡ false)
told_by true true told = absurd (cc)
told_by true false told = (refl, refl)
told_by false failed told = absurd (cc)

-- MENDING

pub kept_table : (tells failed : Bool) (image : List ℕ) (table : EntryTable) (draft : Option FileAt) → length table ≡ 32 → length image ≤ 16773120 → length image ≡ 4096 * (length image / 4096) → AreRegular (pages_of image) table
    → (IsTrue tells → failed ≡ false → HoldsTable image (places table) draft) → IsTrue (tells && not failed) → IsTable image (places table) draft
kept_table tells failed image table draft count big whole regular holds told =
    let both = told_by tells failed told in
    record {
      holds = holds both.0 both.1;
      few = omega (arith, count, length_places table);
      sparing = λ i e is.
          let had = entry_of_place table i e is in
          subst (λ (x : FileAt). has_few x ≡ true) had.2 (regular.each i had.0 had.1).few;
      sectors = length image / 4096;
      size = whole;
      small = omega (arith, big);
    }

pub files_mend : (tells : Bool) (new whole : List ℕ) (table : EntryTable) → IsTrue tells → MendsToTable new whole (places table) → MendsToFiles new (files_seen tells whole table)
files_mend false new whole table told m = absurd (cc)
files_mend true new whole table told m = record {
  named = m.files;
  mends = m.mends;
  each = λ id live.
      let e = entry_seen true whole table id live in
      subst (λ (f : File). Contains m.files (roomless_file f)) (sym (file_of true whole table id e.0 e.1)) (m.each id e.0.at (in_places table id e.0 e.1));
  only = λ n has.
      let r = m.only n has in
      let e = entry_of_place table r.0 r.1 r.2 in
      (r.0, seen_live true whole table r.0 e.0 e.1, ap roomless_file (file_of true whole table r.0 e.0 e.1) ∙ ap (file_of_entry whole) e.2 ∙ sym r.3);
}

by_draft : (image : List ℕ) (table : Entries) (draft : Option FileAt) → IsTable image table draft → MendsToTable image image table
by_draft image table None t = whole_mends image table t
by_draft image table (Some d) t = drafted_mends image table d t

-- what a volume keeps between calls mends to its files
pub kept_mend : (tells failed : Bool) (image : List ℕ) (table : EntryTable) (draft : Option FileAt) → length table ≡ 32 → length image ≤ 16773120 → length image ≡ 4096 * (length image / 4096) → AreRegular (pages_of image) table
    → (IsTrue tells → failed ≡ false → HoldsTable image (places table) draft) → IsTrue (tells && not failed) → MendsToFiles image (files_seen (tells && not failed) image table)
kept_mend tells failed image table draft count big whole regular holds told =
    files_mend (tells && not failed) image image table told (by_draft image (places table) draft (kept_table tells failed image table draft count big whole regular holds told))

-- ASKING

-- tables that one image holds have one entry of a name
one_holding : (image : List ℕ) (t u : Entries) (i : ℕ) (e d : FileAt) → HoldsTable image t None → HoldsTable image u None → IsIn t i e → IsIn u i d → d.name ≡ e.name → d ≡ e
one_holding image t u i e d h k is there same =
    let holder = file_holder image t (placed d) h (entry_among image u i d k there) in
    let named : holder.entry.name ≡ e.name = sym (ap (λ (f : Placed). f.header.name) holder.is) ∙ same in
    let place : holder.place ≡ i = h.names holder.place i holder.entry e holder.is_in is named in
    let one : holder.entry ≡ e = some_same holder.entry e (sym (subst (λ k. IsIn t k holder.entry) place holder.is_in) ∙ is) in
    sym (entry_is image d (k.stored i d there)) ∙ ap (entry_of image) (holder.is ∙ ap placed one) ∙ entry_is image e (h.stored i e is)

no_draft : (tells : Bool) (image : List ℕ) (draft : Option FileAt) → option_map (draft_seen tells image) draft ≡ None → draft ≡ None
no_draft tells image None none = refl
no_draft tells image (Some d) none = absurd (cc)

-- volumes that are seen alike ask for the same, where they tell their bytes and have no draft
pub seen_asks : (tells was now : Bool) (old new : List ℕ) (table other : EntryTable) (draft next : Option FileAt)
    → (IsTrue tells → was ≡ false → HoldsTable old (places table) draft) → (IsTrue tells → now ≡ false → HoldsTable new (places other) next)
    → state_seen (tells && not now) new other next ≡ state_seen (tells && not was) old table draft
    → IsTrue (tells && not was) → option_map (draft_seen (tells && not was) old) draft ≡ None
    → (id overwrites bytes need : ℕ) → Asks other id overwrites bytes need → Asks table id overwrites bytes need
seen_asks tells was now old new table other draft next holds held same told idle id overwrites bytes need asks e is =
    let then = told_by tells was told in
    let still = told_by tells now (subst (λ (s : State). IsTrue s.tells) (sym same) told) in
    let image : new ≡ old = ap (λ (s : State). s.store) same in
    let none : draft ≡ None = no_draft (tells && not was) old draft idle in
    let none_now : next ≡ None = no_draft (tells && not now) new next (ap (λ (s : State). s.draft) same ∙ idle) in
    let h : HoldsTable old (places table) None = subst (HoldsTable old (places table)) none (holds then.0 then.1) in
    let k : HoldsTable old (places other) None = subst (λ i. HoldsTable i (places other) None) image (subst (HoldsTable new (places other)) none_now (held still.0 still.1)) in
    let files : files_seen (tells && not now) new other ≡ files_seen (tells && not was) old table = ap (λ (s : State). s.files) same in
    let live : IsLive (files_seen (tells && not now) new other) id = subst (λ fs. IsLive fs id) (sym files) (seen_live (tells && not was) old table id e is) in
    let r = entry_seen (tells && not now) new other id live in
    let file = sym (file_of (tells && not now) new other id r.0 r.1) ∙ ap (λ fs. file_at fs id) files ∙ file_of (tells && not was) old table id e is in
    let one : r.0.at ≡ e.at = one_holding old (places table) (places other) id e.at r.0.at h k (in_places table id e is) (in_places other id r.0 r.1) (ap (λ (f : File). f.name) file) in
    subst (λ (at : FileAt). pages_asked at overwrites bytes ≡ Some need) one (asks r.0 r.1)
