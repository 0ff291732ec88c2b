-- A file that `prepare` moves, or gives a log or a room: its bytes stay.
use Rattle.std.proofs.Common.{◌≡◌, ℕ, ◌<◌, Bool, true, false, List, length, set, Option, Some, None, IsTrue, refl, sym, ap, ◌∙◌, subst}
use Rattle.std.specs.Prelude.{option_map}
use Rattle.std.proofs.lemmas.List.{set-get_or}
use Rattle.afl_base.specs.Files.{Becomes, File, IsLive, IsUnnamed, State, bytes_at, size_at}
use Rattle.coffee_layout.specs.FileBytes.{file_byte}
use Rattle.coffee_layout.specs.declared.file.FileAt.{FileAt}
use Rattle.coffee_merge.specs.Holding.{HoldsTable, IsIn, IsStored, KeepsContents, Moves, Entries}
use Rattle.coffee_volume.specs.Rooms.{pages_asked}
use Rattle.coffee_volume.specs.Volumes.{Asks, EntryTable, IsEntry, bytes_seen, draft_seen, files_seen, places, roomless, state_seen}
use Rattle.coffee_volume.specs.declared.entry.Entry.{Entry}
use Rattle.coffee_volume.proofs.Standing.{set_stored}
use Rattle.coffee_volume.proofs.States.{seen_becomes}
use Rattle.coffee_volume.proofs.Stepped.{IsSame}
use Rattle.coffee_volume.proofs.Tables.{file_of, in_places, one_entry, seen_kept, seen_live, size_seen}
use Rattle.coffee_merge.proofs.MovedFiles.{bytes_same}

moved_seen : (tells : Bool) (old new : List ℕ) (from to : FileAt) → IsTrue tells → IsStored old from → IsStored new to → to.size ≡ from.size → ((p : ℕ) → p < from.size → file_byte new to.page.0 to.log p ≡ file_byte old from.page.0 from.log p)
    → bytes_seen tells new to ≡ bytes_seen tells old from
moved_seen true old new from to told was now size same = bytes_same old new from to was now size same
moved_seen false old new from to told was now size same = absurd (cc)

-- no draft is seen, where none is begun
no_drafts : (tells : Bool) (old new : List ℕ) (draft : Option FileAt) → draft ≡ None → option_map (draft_seen tells new) draft ≡ option_map (draft_seen tells old) draft
no_drafts tells old new None idle = refl
no_drafts tells old new (Some d) idle = absurd (cc)

-- a file has moved
pub moved_becomes : (tells : Bool) (old new : List ℕ) (table : EntryTable) (draft : Option FileAt) (i : ℕ) (e : Entry) (to : FileAt) → i < length table → draft ≡ None → IsEntry table i e → IsSame e.at to
    → (IsTrue tells → HoldsTable old (places table) None) → (IsTrue tells → Moves old new (places table) i e.at to)
    → Becomes (state_seen tells old table draft) (state_seen tells new (set table i (Some (roomless to))) draft) i (size_at (files_seen tells old table) i) (bytes_at (files_seen tells old table) i)
moved_becomes tells old new table draft i e to inside idle is same holds moves =
    let was : IsTrue tells → IsStored old e.at = λ told. (holds told).stored i e.at (in_places table i e is) in
    let now : IsTrue tells → IsStored new to = λ told. set_stored new table None i to inside (moves told).sets.holds in
    let file : bytes_at (files_seen tells old table) i ≡ bytes_seen tells old e.at = ap (λ (x : File). x.bytes) (file_of tells old table i e is) in
    seen_becomes tells old new table draft i e (roomless to) (size_at (files_seen tells old table) i) (bytes_at (files_seen tells old table) i) inside is same.name same.kind (λ told. (moves told).sets.others)
    (size_seen tells new to now ∙ same.size ∙ sym (size_seen tells old e.at was) ∙ ap length (sym file))
    (λ told. moved_seen tells old new e.at to told (was told) (now told) same.size (moves told).same ∙ sym file) (no_drafts tells old new draft idle)

-- all files are as they were
same_becomes : (old new : State) (id : ℕ) → IsLive old.files id → new.files ≡ old.files → new.draft ≡ old.draft → new.tells ≡ old.tells → Becomes old new id (size_at old.files id) (bytes_at old.files id)
same_becomes old new id live files draft tells = record {
  live = rw files live;
  name = rw files refl;
  kind = rw files refl;
  size = rw files refl;
  bytes = λ told. rw files refl;
  others = λ k other. rw files refl;
  names = λ n none. subst (λ t. IsUnnamed t n) (sym files) none;
  used = rw files refl;
  draft = draft;
  tells = tells;
}

pub kept_becomes : (tells : Bool) (old new : List ℕ) (table : EntryTable) (draft : Option FileAt) (i : ℕ) (e : Entry) → draft ≡ None → IsEntry table i e → (IsTrue tells → KeepsContents old new (places table))
    → Becomes (state_seen tells old table draft) (state_seen tells new table draft) i (size_at (files_seen tells old table) i) (bytes_at (files_seen tells old table) i)
kept_becomes tells old new table draft i e idle is kept =
    same_becomes (state_seen tells old table draft) (state_seen tells new table draft) i (seen_live tells old table i e is) (seen_kept tells old new table kept) (no_drafts tells old new draft idle) refl

-- a file has another room
pub room_becomes : (tells : Bool) (image : List ℕ) (table : EntryTable) (draft : Option FileAt) (i : ℕ) (e : Entry) (records room : ℕ) → i < length table → IsEntry table i e
    → Becomes (state_seen tells image table draft) (state_seen tells image (set table i (Some (record { at = e.at; records = records; room = room }))) draft) i (size_at (files_seen tells image table) i) (bytes_at (files_seen tells image table) i)
room_becomes tells image table draft i e records room inside is =
    let file : bytes_at (files_seen tells image table) i ≡ bytes_seen tells image e.at = ap (λ (x : File). x.bytes) (file_of tells image table i e is) in
    seen_becomes tells image image table draft i e (record { at = e.at; records = records; room = room }) (size_at (files_seen tells image table) i) (bytes_at (files_seen tells image table) i) inside is refl refl
    (λ told k d other there p low. refl) (ap length (sym file)) (λ told. sym file) refl

-- the table of files does not have the rooms
pub same_place : (table : Entries) (i : ℕ) (d : FileAt) → IsIn table i d → set table i (Some d) ≡ table
same_place table i d is = ap (λ (o : Option FileAt). set table i o) (sym is) ∙ set-get_or table i None

-- where no pages are asked for
none_of : (o : Option ℕ) → ((n : ℕ) → o ≡ Some n → ⊥) → o ≡ None
none_of None never = refl
none_of (Some n) never = absurd (never n refl)

pub none_wanted : (table : EntryTable) (i : ℕ) (e : Entry) (overwrites bytes : ℕ) → IsEntry table i e → ((need : ℕ) → Asks table i overwrites bytes need → ⊥) → pages_asked e.at overwrites bytes ≡ None
none_wanted table i e overwrites bytes is never =
    none_of (pages_asked e.at overwrites bytes) (λ n asks. never n (λ d there. ap (λ (x : Entry). pages_asked x.at overwrites bytes) (one_entry table i d e there is) ∙ asks))
