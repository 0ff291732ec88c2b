-- An image that a call left which broke off mends to the files before the call, or to those that it might have left.
use Rattle.std.proofs.Common.{◌≡◌, ◌≢◌, inl, inr, ℕ, ◌+◌, ◌-◌, ◌*◌, ◌<◌, ◌≤◌, Bool, true, not, ◌&&◌, List, ◌++◌, length, take, set, get_or, Option, Some, None, IsTrue, refl, sym, ap, ◌∙◌, subst, arith}
use Rattle.std.specs.Prelude.{is_some, option_map, unwrap_or}
use Rattle.std.specs.List.{Contains}
use Rattle.std.proofs.lemmas.Bool.{cases_eq, cases_lt}
use Rattle.std.proofs.lemmas.List.{get_or-take, get_or_past, length-append, length-take-le, take-take, take_all}
use Rattle.std.proofs.Math.Logic.{⊎_elim}
use Rattle.afl_base.specs.CutFiles.{AppendsFront, MendsToEither, MendsToState, OverwritesFront}
use Rattle.afl_base.specs.Fields.{put_at}
use Rattle.afl_base.specs.Files.{Becomes, Commits, Creates, File, IsLive, IsUnnamed, KeepsBytes, Removes, State, bytes_at, file_at, no_file, size_at}
use Rattle.afl_base.specs.Places.{AreTaken}
use Rattle.afl_base.specs.declared.ids.PageId.{PageId}
use Rattle.afl_base.specs.declared.kind.Kind.{Kind}
use Rattle.afl_base.proofs.FieldLaws.{length-put_at}
use Rattle.afl_base.proofs.FileLaws.{set_becomes}
use Rattle.coffee_cuts.specs.Mending.{IsTable, MendsToTable, as_file}
use Rattle.coffee_cuts.proofs.BrokenOff.{broken_off_mends}
use Rattle.coffee_cuts.proofs.Commits.{added_mends, removed_mends, replacing_mends}
use Rattle.coffee_cuts.proofs.Drafts.{written_mends}
use Rattle.coffee_cuts.proofs.TornContents.{appended_mends, overwritten_mends}
use Rattle.coffee_layout.specs.FileBytes.{file_byte, file_bytes}
use Rattle.coffee_layout.specs.Files.{NamedFile}
use Rattle.coffee_layout.specs.Walks.{has_few}
use Rattle.coffee_layout.specs.declared.file.FileAt.{FileAt}
use Rattle.coffee_layout.proofs.Spelling.{spells_file}
use Rattle.coffee_log.specs.FileChanges.{IsFile, Puts}
use Rattle.coffee_log.specs.FileCuts.{IsFileCut, IsOverwriteCut}
use Rattle.coffee_log.proofs.ContentLaws.{appended_bytes, overwritten_bytes}
use Rattle.coffee_merge.specs.CutMarks.{IsCutObsolete, IsCutReplace, IsOneOf, KeepsHead}
use Rattle.coffee_merge.specs.Flags.{flagged}
use Rattle.coffee_merge.specs.Holding.{BeginsExtent, Entries, HoldsTable, IsDrafted, IsStored, extent_of}
use Rattle.coffee_merge.specs.TableFiles.{file_of}
use Rattle.coffee_merge.specs.Takes.{KeepsPagesBut}
use Rattle.coffee_merge.specs.Torn.{BreaksOff}
use Rattle.coffee_merge.proofs.SoundHolders.{stored_size}
use Rattle.padded.proofs.Facts.{none_some}
use Rattle.coffee_volume.specs.Cuts.{MendsToFiles}
use Rattle.coffee_volume.specs.KeptTables.{files_mend, kept_table}
use Rattle.coffee_volume.specs.Mounting.{roomless_file}
use Rattle.coffee_volume.specs.Volumes.{AreRegular, EntryTable, IsEntry, draft_seen, file_seen, files_seen, places, roomless, state_seen}
use Rattle.coffee_volume.specs.declared.entry.Entry.{Entry}
use Rattle.coffee_volume.proofs.Drafted.{free_place, same_used}
use Rattle.coffee_volume.proofs.Standing.{Stands}
use Rattle.coffee_volume.proofs.States.{Turns, seen_adds, seen_creates, seen_removes, seen_replaces}
use Rattle.coffee_volume.proofs.Tables.{file_of as file_of_entry, in_places, length_places, length_seen, new_name, others_seen, places_set, seen_here, seen_kept}

-- FILES THAT CALLERS SEE

-- what a volume keeps is a table
pub held_table : (tells failed : Bool) (image : List ℕ) (table : EntryTable) (draft : Option FileAt) → Stands tells failed image table draft → IsTrue (tells && not failed) → IsTable image (places table) draft
held_table tells failed image table draft s told =
    kept_table tells failed image table draft s.count s.big s.whole s.regular s.told told

-- one place of the table is set
set_mend : (tells : Bool) (new whole : List ℕ) (table : EntryTable) (i : ℕ) (o : Option Entry) → IsTrue tells → MendsToTable new whole (set (places table) i (option_map (λ (e : Entry). e.at) o)) → MendsToFiles new (files_seen tells whole (set table i o))
set_mend tells new whole table i o told m = files_mend tells new whole (set table i o) told (subst (MendsToTable new whole) (sym (places_set table i o)) m)

-- an entry stands inside the table
entry_inside : (table : EntryTable) (i : ℕ) (e : Entry) → IsEntry table i e → i < length table
entry_inside table i e is = ⊎_elim
    (λ (inside : i < length table). inside)
    (λ (past : length table ≤ i). absurd (none_some e (sym (get_or_past table i None past) ∙ is)))
    (cases_lt i (length table))

-- THE FILES BEFORE

pub off_mends : (tells failed : Bool) (old new : List ℕ) (table : EntryTable) (draft : Option FileAt) → Stands tells failed old table draft → IsTrue (tells && not failed) → draft ≡ None → length new ≡ length old → BreaksOff old new (places table)
    → MendsToFiles new (files_seen (tells && not failed) old table)
off_mends tells failed old new table draft s told idle long off =
    files_mend (tells && not failed) new old table told (broken_off_mends old new (places table) (subst (IsTable old (places table)) idle (held_table tells failed old table draft s told)) long off)

pub written_draft_mends : (tells failed : Bool) (old new : List ℕ) (table : EntryTable) (draft : Option FileAt) (d : FileAt) → Stands tells failed old table draft → IsTrue (tells && not failed) → draft ≡ Some d → length new ≡ length old
    → KeepsHead old new d.page.0 → KeepsPagesBut old new d.page.0 d.pages None → MendsToFiles new (files_seen (tells && not failed) old table)
written_draft_mends tells failed old new table draft d s told is long head others =
    files_mend (tells && not failed) new old table told (written_mends old new (places table) d (subst (IsTable old (places table)) is (held_table tells failed old table draft s told)) long head others)

abbrev with_parts : List ℕ → Kind → List ℕ → NamedFile
with_parts name kind bytes = record { name = name; kind = kind; bytes = bytes }

abbrev file_or : Option File → File
file_or o = unwrap_or o no_file

-- a file kept its bytes, in the state that the files are in between
pub between_mends : (old between : State) (id : ℕ) (image : List ℕ) → IsTrue old.tells → IsLive old.files id → KeepsBytes old between id → MendsToFiles image between.files → MendsToFiles image old.files
between_mends old between id image told live kept m =
    let same : roomless_file (file_at between.files id) ≡ roomless_file (file_at old.files id) =
    ap (λ (name : List ℕ). with_parts name (file_at between.files id).kind (bytes_at between.files id)) kept.name
    ∙ ap (λ (kind : Kind). with_parts (file_at old.files id).name kind (bytes_at between.files id)) kept.kind
    ∙ ap (λ (bytes : List ℕ). with_parts (file_at old.files id).name (file_at old.files id).kind bytes) (kept.bytes told) in
    record {
      named = m.named;
      mends = m.mends;
      each = λ k there. ⊎_elim
          (λ (here : k ≡ id). subst (λ (j : ℕ). Contains m.named (roomless_file (file_at old.files j))) (sym here) (subst (Contains m.named) same (m.each id kept.live)))
          (λ (other : k ≢ id). subst (λ (o : Option File). Contains m.named (roomless_file (file_or o))) (kept.others k other) (m.each k (subst (λ (o : Option File). is_some o ≡ true) (sym (kept.others k other)) there)))
          (cases_eq k id);
      only = λ n has.
          let r = m.only n has in
          ⊎_elim
          (λ (here : r.0 ≡ id). (id, live, sym same ∙ subst (λ (j : ℕ). roomless_file (file_at between.files j) ≡ n) here r.2))
          (λ (other : r.0 ≢ id). (
            r.0,
            subst (λ (o : Option File). is_some o ≡ true) (kept.others r.0 other) r.1,
            subst (λ (o : Option File). roomless_file (file_or o) ≡ n) (kept.others r.0 other) r.2,
          ))
          (cases_eq r.0 id);
    }

-- A FILE THAT IS REMOVED

idle_removal : (tells : Bool) (old new : List ℕ) (pages : ℕ) (table : EntryTable) (i : ℕ) (e : Entry) → IsTrue tells → IsTable old (places table) None → AreRegular pages table → i < length table → IsEntry table i e → IsCutObsolete old new e.at.page.0 e.at.log
    → MendsToEither MendsToFiles (files_seen tells old table) new (λ after. Removes (state_seen tells old table None) after i)
idle_removal tells old new pages table i e told t regular inside is cut = ⊎_elim
    (λ (m : MendsToTable new old (places table)). inl (files_mend tells new old table told m))
    (λ (m : MendsToTable new old (set (places table) i None)). inr (record {
      after = state_seen tells old (set table i None) None;
      mends_to = set_mend tells new old table i None told m;
      is = seen_removes tells old old pages table i e inside is regular (λ t k d other there p low. refl);
    }))
    (removed_mends old (places table) i e.at t (in_places table i e is) new cut)

pub removal_mends : (tells failed : Bool) (old new : List ℕ) (pages : ℕ) (table : EntryTable) (draft : Option FileAt) (i : ℕ) (e : Entry) → Stands tells failed old table draft → IsTrue (tells && not failed) → draft ≡ None → AreRegular pages table → IsEntry table i e
    → IsCutObsolete old new e.at.page.0 e.at.log → MendsToEither MendsToFiles (files_seen (tells && not failed) old table) new (λ after. Removes (state_seen (tells && not failed) old table draft) after i)
removal_mends tells failed old new pages table draft i e s told idle regular is cut =
    let t : IsTable old (places table) None = subst (IsTable old (places table)) idle (held_table tells failed old table draft s told) in
    subst (λ (o : Option FileAt). MendsToEither MendsToFiles (files_seen (tells && not failed) old table) new (λ after. Removes (state_seen (tells && not failed) old table o) after i)) (sym idle)
    (idle_removal (tells && not failed) old new pages table i e told t regular (entry_inside table i e is) is cut)

-- A FILE THAT IS NEW

-- a draft whose last byte is not zero is stored as a file
draft_stored : (image : List ℕ) (d : FileAt) → IsDrafted image d → d.used ≡ 0 → (1 ≤ d.size → file_byte image d.page.0 None (d.size - 1) ≢ 0) → IsStored image d
draft_stored image d s none last = record {
  fits = s.fits;
  shape = s.shape;
  file = subst (λ (n : ℕ). IsFile image d.page.0 d.pages d.log n d.size) (sym none) (subst (λ (log : Option PageId). IsFile image d.page.0 d.pages log 0 d.size) (sym s.no_log) s.file);
  last = λ some. subst (λ (log : Option PageId). file_byte image d.page.0 log (d.size - 1) ≢ 0) (sym s.no_log) (last some);
}

-- an empty file is begun for it
pub record BeginsNew (tells failed : Bool) (old whole : List ℕ) (table : EntryTable) (draft : Option FileAt) (i : ℕ) (name : List ℕ) (kind : Kind) (page : PageId) (pages : ℕ) : Type 0 where
  pub stands : Stands tells failed old table draft
  pub idle : draft ≡ None
  pub inside : i < length table
  pub free : get_or table i None ≡ None
  pub lowest : AreTaken table i
  pub unnamed : IsUnnamed (files_seen (tells && not failed) old table) name
  pub few : has_few (extent_of name kind page.0 pages 0) ≡ true
  pub long : length whole ≡ length old
  pub begun : IsTrue (tells && not failed) → BeginsExtent old whole (places table) (extent_of name kind page.0 pages 0)

pub creation_mends : (tells failed : Bool) (old whole new : List ℕ) (table : EntryTable) (draft : Option FileAt) (i : ℕ) (name : List ℕ) (kind : Kind) (page : PageId) (pages : ℕ) → BeginsNew tells failed old whole table draft i name kind page pages → IsTrue (tells && not failed)
    → IsOneOf new whole (flagged whole page.0 1) → MendsToEither MendsToFiles (files_seen (tells && not failed) old table) new (λ after. (id : ℕ) × Creates (state_seen (tells && not failed) old table draft) after id name kind)
creation_mends tells failed old whole new table draft i name kind page pages b told cut =
    let seen : Bool = tells && not failed in
    let d : FileAt = extent_of name kind page.0 pages 0 in
    let t = held_table tells failed old table draft b.stands told in
    let begun = b.begun told in
    let held : IsTable whole (places table) (Some d) = record { holds = begun.holds; few = t.few; sparing = t.sparing; sectors = t.sectors; size = b.long ∙ t.size; small = t.small } in
    let none : 1 ≤ 0 → file_byte whole page.0 None (0 - 1) ≢ 0 = λ some. absurd (omega (arith, some)) in
    let count = length_places table in
    let inside = b.inside in
    ⊎_elim
    (λ (m : MendsToTable new whole (places table)).
    inl (subst (MendsToFiles new) (seen_kept seen old whole table (λ told. begun.kept)) (files_mend seen new whole table told m)))
    (λ (m : MendsToTable new whole (set (places table) i (Some (as_file d)))).
    inr (record {
      after = state_seen seen whole (set table i (Some (roomless d))) None;
      mends_to = set_mend seen new whole table i (Some (roomless d)) told m;
      is = (
        i,
        subst (λ (o : Option FileAt). Creates (state_seen seen old table o) (state_seen seen whole (set table i (Some (roomless d))) None) i name kind) (sym b.idle)
            (seen_creates seen old whole table i name kind page.0 pages b.inside b.free b.lowest (λ told k e other is. begun.kept k e is) (λ told. draft_stored whole d (begun.holds.drafted d refl) refl none)),
      );
    }))
    (added_mends whole new (places table) d i held b.few none (omega (arith, inside, count)) (free_place table i b.free) (new_name seen old table name b.unnamed) cut)

-- A DRAFT THAT BECOMES A FILE

-- a draft may be committed
pub record MayCommit (tells failed : Bool) (old : List ℕ) (table : EntryTable) (draft : Option FileAt) (d : FileAt) : Type 0 where
  pub stands : Stands tells failed old table draft
  pub is : draft ≡ Some d
  pub last : IsTrue (tells && not failed) → 1 ≤ d.size → file_byte old d.page.0 None (d.size - 1) ≢ 0

turns_still : (old : List ℕ) (table : Entries) (d : FileAt) → HoldsTable old table (Some d) → d.used ≡ 0 → (1 ≤ d.size → file_byte old d.page.0 None (d.size - 1) ≢ 0) → Turns old old d
turns_still old table d holds none last = record { drafted = holds.drafted d refl; stored = draft_stored old d (holds.drafted d refl) none last; content = λ p within. refl; last = last }

-- in the place of a file of its name
pub replacement_mends : (tells failed : Bool) (old new : List ℕ) (table : EntryTable) (draft : Option FileAt) (d : FileAt) (i : ℕ) (e : Entry) → MayCommit tells failed old table draft d → IsTrue (tells && not failed) → IsEntry table i e → e.at.name ≡ d.name
    → IsCutReplace old new d.page.0 e.at.page.0 e.at.log → MendsToEither MendsToFiles (files_seen (tells && not failed) old table) new (λ after. (id : ℕ) × Commits (state_seen (tells && not failed) old table draft) after id)
replacement_mends tells failed old new table draft d i e may told is name cut =
    let inside = entry_inside table i e is in
    let seen : Bool = tells && not failed in
    let s = may.stands in
    let pending = s.pending d may.is in
    let t : IsTable old (places table) (Some d) = subst (IsTable old (places table)) may.is (held_table tells failed old table draft s told) in
    ⊎_elim
    (λ (m : MendsToTable new old (places table)). inl (files_mend seen new old table told m))
    (λ (m : MendsToTable new old (set (places table) i (Some (as_file d)))). inr (record {
      after = state_seen seen old (set table i (Some (roomless d))) None;
      mends_to = set_mend seen new old table i (Some (roomless d)) told (subst (λ (f : FileAt). MendsToTable new old (set (places table) i (Some f))) (same_used d pending.used) m);
      is = (
        i,
        subst (λ (o : Option FileAt). Commits (state_seen seen old table o) (state_seen seen old (set table i (Some (roomless d))) None) i) (sym may.is)
            (seen_replaces seen old old _ table i e d inside is name s.regular pending.kind pending.log (λ told. turns_still old (places table) d t.holds pending.used (may.last told)) (λ told k f other there p low. refl)),
      );
    }))
    (replacing_mends old (places table) d e.at i t (in_places table i e is) name pending.few (may.last told) new cut)

-- in a free place
pub addition_mends : (tells failed : Bool) (old new : List ℕ) (table : EntryTable) (draft : Option FileAt) (d : FileAt) (i : ℕ) → MayCommit tells failed old table draft d → IsTrue (tells && not failed) → i < length table → get_or table i None ≡ None → AreTaken table i
    → IsUnnamed (files_seen (tells && not failed) old table) d.name → IsOneOf new old (flagged old d.page.0 1) → MendsToEither MendsToFiles (files_seen (tells && not failed) old table) new (λ after. (id : ℕ) × Commits (state_seen (tells && not failed) old table draft) after id)
addition_mends tells failed old new table draft d i may told inside free lowest unnamed cut =
    let seen : Bool = tells && not failed in
    let s = may.stands in
    let pending = s.pending d may.is in
    let t : IsTable old (places table) (Some d) = subst (IsTable old (places table)) may.is (held_table tells failed old table draft s told) in
    let count = length_places table in
    ⊎_elim
    (λ (m : MendsToTable new old (places table)). inl (files_mend seen new old table told m))
    (λ (m : MendsToTable new old (set (places table) i (Some (as_file d)))). inr (record {
      after = state_seen seen old (set table i (Some (roomless d))) None;
      mends_to = set_mend seen new old table i (Some (roomless d)) told (subst (λ (f : FileAt). MendsToTable new old (set (places table) i (Some f))) (same_used d pending.used) m);
      is = (
        i,
        subst (λ (o : Option FileAt). Commits (state_seen seen old table o) (state_seen seen old (set table i (Some (roomless d))) None) i) (sym may.is)
            (seen_adds seen old old table i d inside free lowest unnamed pending.kind pending.log (λ told. turns_still old (places table) d t.holds pending.used (may.last told)) (λ told k f other there p low. refl)),
      );
    }))
    (added_mends old new (places table) d i t pending.few (may.last told) (omega (arith, inside, count)) (free_place table i free) (new_name seen old table d.name unnamed) cut)

-- BYTES THAT ARE PUT INTO A FILE

-- one file has these bytes, and all else is as it was
put_state : (old new : List ℕ) → EntryTable → Option FileAt → (i : ℕ) → Entry → State
put_state old new table draft i f = record { tells = true; files = files_seen true new (set table i (Some f)); draft = option_map (draft_seen true old) draft; store = new }

put_becomes : (old new : List ℕ) (table : EntryTable) (draft : Option FileAt) (i : ℕ) (e : Entry) (size used : ℕ) (told : List ℕ) → i < length table → IsEntry table i e
    → ((k : ℕ) (g : FileAt) → k ≢ i → get_or (places table) k None ≡ Some g → file_of new g ≡ file_of old g) → file_bytes new e.at.page.0 e.at.pages e.at.log ≡ told
    → Becomes (state_seen true old table draft) (put_state old new table draft i (record { at = record e.at { size = size; used = used }; records = e.records; room = e.room })) i (length told) told
unfolding put_state
put_becomes old new table draft i e size used told inside is others bytes =
    let f : Entry = record { at = record e.at { size = size; used = used }; records = e.records; room = e.room } in
    set_becomes (state_seen true old table draft) (put_state old new table draft i f) i (file_seen true old e) (file_seen true new f) (length told) told
    (omega (arith, inside, length_seen true old table)) (seen_here true old table i e is)
    (others_seen true old new table i (Some f) inside
    (λ k g other there. ap (λ (n : NamedFile). let w : File = record { name = g.at.name; kind = g.at.kind; bytes = n.bytes; records = g.records; room = g.room } in w) (others k g.at other (in_places table k g there))))
    refl refl (ap length bytes) (λ t. bytes) refl refl

abbrev OverwritesPart : (tells : Bool) (old new : List ℕ) → EntryTable → Option FileAt → (i at : ℕ) → List ℕ → Type 0
OverwritesPart tells old new table draft i at bytes = MendsToState MendsToFiles new (λ after. OverwritesFront (state_seen tells old table draft) after i at bytes)

overwritten_part : (old new : List ℕ) (table : EntryTable) (draft : Option FileAt) (i : ℕ) (e : Entry) (at : ℕ) (bytes : List ℕ) → IsTable old (places table) draft → length new ≡ length old → i < length table → IsEntry table i e → at + length bytes ≤ e.at.size
    → (at + length bytes ≡ e.at.size → get_or bytes (length bytes - 1) 0 ≢ 0) → IsOverwriteCut old new e.at.page.0 e.at.pages e.at.log e.at.size at bytes → OverwritesPart true old new table draft i at bytes
unfolding put_state
overwritten_part old new table draft i e at bytes t long inside is low last part =
    let done : ℕ = part.cut.done in
    let within = part.cut.within in
    let m = overwritten_mends old new (places table) draft i e.at at bytes t (in_places table i e is) long low last part.cut in
    let size = stored_size old e.at (t.holds.stored i e.at (in_places table i e is)) in
    let front : length (take done bytes) ≡ done = length-take-le done bytes within in
    let file : bytes_at (files_seen true old table) i ≡ file_bytes old e.at.page.0 e.at.pages e.at.log = ap (λ (x : File). x.bytes) (file_of_entry true old table i e is) in
    let now : file_bytes new e.at.page.0 e.at.pages e.at.log ≡ put_at (bytes_at (files_seen true old table) i) at (take done bytes) =
    overwritten_bytes old new e.at.page.0 e.at.pages e.at.log at (take done bytes) m.put (omega (arith, front, within, low, size))
    (λ some end.
    let whole : length bytes ≤ done = omega (arith, end, front, low, size) in
    subst (λ (xs : List ℕ). get_or xs (length xs - 1) 0 ≢ 0) (sym (take_all done bytes whole)) (last (omega (arith, end, front, low, size, within))))
    ∙ ap (λ (xs : List ℕ). put_at xs at (take done bytes)) (sym file) in
    let room : at + length (take done bytes) ≤ size_at (files_seen true old table) i = omega (arith, front, within, low, size, ap length file) in
    let same : length (put_at (bytes_at (files_seen true old table) i) at (take done bytes)) ≡ size_at (files_seen true old table) i = length-put_at (bytes_at (files_seen true old table) i) (take done bytes) at room in
    record {
      after = put_state old new table draft i (record { at = record e.at { size = m.size; used = m.used }; records = e.records; room = e.room });
      mends_to = set_mend true new new table i (Some (record { at = record e.at { size = m.size; used = m.used }; records = e.records; room = e.room })) refl m.mends;
      is = record {
        done = done;
        within = within;
        whole = part.whole;
        is = subst (λ (n : ℕ). Becomes (state_seen true old table draft) (put_state old new table draft i (record { at = record e.at { size = m.size; used = m.used }; records = e.records; room = e.room })) i n (put_at (bytes_at (files_seen true old table) i) at (take done bytes))) same
            (put_becomes old new table draft i e m.size m.used (put_at (bytes_at (files_seen true old table) i) at (take done bytes)) inside is m.others now);
      };
    }

pub overwrite_mends : (tells failed : Bool) (old new : List ℕ) (table : EntryTable) (draft : Option FileAt) (i : ℕ) (e : Entry) (l : PageId) (at : ℕ) (bytes : List ℕ) → Stands tells failed old table draft → IsTrue (tells && not failed) → length new ≡ length old → IsEntry table i e
    → e.at.log ≡ Some l → at + length bytes ≤ e.at.size → (at + length bytes ≡ e.at.size → get_or bytes (length bytes - 1) 0 ≢ 0)
    → ((size : ℕ) → IsFile old e.at.page.0 e.at.pages (Some l) e.at.used size → at + length bytes ≤ size → size + 32 ≤ 256 * e.at.pages → IsOverwriteCut old new e.at.page.0 e.at.pages (Some l) size at bytes)
    → MendsToState MendsToFiles new (λ after. OverwritesFront (state_seen (tells && not failed) old table draft) after i at bytes)
overwrite_mends tells failed old new table draft i e l at bytes s told long is log low last cuts =
    let t = held_table tells failed old table draft s told in
    let stored = t.holds.stored i e.at (in_places table i e is) in
    let part : IsOverwriteCut old new e.at.page.0 e.at.pages e.at.log e.at.size at bytes = subst (λ (o : Option PageId). IsOverwriteCut old new e.at.page.0 e.at.pages o e.at.size at bytes) (sym log)
    (cuts e.at.size (subst (λ (o : Option PageId). IsFile old e.at.page.0 e.at.pages o e.at.used e.at.size) log stored.file) low stored.fits.size) in
    subst (λ (seen : Bool). OverwritesPart seen old new table draft i at bytes) (sym told) (overwritten_part old new table draft i e at bytes t long (entry_inside table i e is) is low last part)

-- what a front part of an append makes of the bytes: some of those in front are added
added_bytes : (old new : List ℕ) (e : FileAt) (bytes : List ℕ) → IsStored old e → Puts (file_byte old e.page.0 e.log) (file_byte new e.page.0 e.log) (256 * e.pages - 32) e.size bytes → e.size + length bytes + 32 ≤ 256 * e.pages
    → (n : ℕ) × (n ≤ length bytes) × (file_bytes new e.page.0 e.pages e.log ≡ file_bytes old e.page.0 e.pages e.log ++ take n bytes)
added_bytes old new e bytes s put fits =
    let all : List ℕ = file_bytes new e.page.0 e.pages e.log in
    let spelt = spells_file new e.page.0 e.pages e.log in
    let short = spelt.short in
    let least : e.size ≤ length all = ⊎_elim
    (λ (less : length all < e.size). absurd (s.last (omega (arith, less)) (sym (put.others (e.size - 1) (omega (arith, less, fits)) (λ a b. omega (arith, a, less))) ∙ spelt.after (e.size - 1) (omega (arith, less)) (omega (arith, less, fits)))))
    (λ (good : e.size ≤ length all). good)
    (cases_lt (length all) e.size) in
    let most : length all ≤ e.size + length bytes = ⊎_elim
    (λ (more : e.size + length bytes < length all). absurd (spelt.last (omega (arith, more))
    (sym (spelt.here (length all - 1) (omega (arith, more))) ∙ put.others (length all - 1) (omega (arith, more, short)) (λ a b. omega (arith, b, more)) ∙ s.file.zeros (length all - 1) (omega (arith, more)) (omega (arith, more, short)))))
    (λ (good : length all ≤ e.size + length bytes). good)
    (cases_lt (e.size + length bytes) (length all)) in
    let n : ℕ = length all - e.size in
    let few : n ≤ length bytes = omega (arith, most) in
    let front : length (take n bytes) ≡ n = length-take-le n bytes few in
    let part : Puts (file_byte old e.page.0 e.log) (file_byte new e.page.0 e.log) (256 * e.pages - 32) e.size (take n bytes) = record {
      here = λ k low. put.here k (omega (arith, low, front, few)) ∙ sym (get_or-take n bytes k 0 (omega (arith, low, front)));
      others = λ p low out. ⊎_elim
          (λ (before : p < e.size). put.others p low (λ a b. omega (arith, a, before)))
          (λ (from : e.size ≤ p). ⊎_elim
          (λ (there : p < length all). absurd (out from (omega (arith, there, front, least))))
          (λ (behind : length all ≤ p). spelt.after p behind low ∙ sym (s.file.zeros p from low))
          (cases_lt p (length all)))
          (cases_lt p e.size);
    } in (
      n,
      few,
      appended_bytes old new e.page.0 e.pages e.log e.size (take n bytes) part (sym (stored_size old e s)) (omega (arith, front, few, fits))
          (λ some none.
          let place : e.size + (length (take n bytes) - 1) ≡ length all - 1 = omega (arith, front, some, least) in
          spelt.last (omega (arith, some, front)) (sym (spelt.here (length all - 1) (omega (arith, some, front))) ∙ ap (file_byte new e.page.0 e.log) (sym place) ∙ part.here (length (take n bytes) - 1) (omega (arith, some)) ∙ none)),
    )

abbrev AppendsPart : (tells : Bool) (old new : List ℕ) → EntryTable → Option FileAt → (i : ℕ) → List ℕ → Type 0
AppendsPart tells old new table draft i bytes = MendsToState MendsToFiles new (λ after. AppendsFront (state_seen tells old table draft) after i bytes)

appended_part : (old new : List ℕ) (table : EntryTable) (draft : Option FileAt) (i : ℕ) (e : Entry) (bytes : List ℕ) → IsTable old (places table) draft → length new ≡ length old → i < length table → IsEntry table i e → e.at.size + length bytes + 32 ≤ 256 * e.at.pages
    → IsFileCut old new e.at.page.0 e.at.pages e.at.log e.at.size e.at.size bytes → AppendsPart true old new table draft i bytes
unfolding put_state
appended_part old new table draft i e bytes t long inside is fits cut =
    let within = cut.within in
    let m = appended_mends old new (places table) draft i e.at bytes t (in_places table i e is) long fits cut in
    let front : length (take cut.done bytes) ≡ cut.done = length-take-le cut.done bytes within in
    let r = added_bytes old new e.at (take cut.done bytes) (t.holds.stored i e.at (in_places table i e is)) m.put (omega (arith, front, within, fits)) in
    let n : ℕ = r.0 in
    let less : n ≤ cut.done = omega (arith, r.1, front) in
    let few : n ≤ length bytes = omega (arith, less, within) in
    let file : bytes_at (files_seen true old table) i ≡ file_bytes old e.at.page.0 e.at.pages e.at.log = ap (λ (x : File). x.bytes) (file_of_entry true old table i e is) in
    let now : file_bytes new e.at.page.0 e.at.pages e.at.log ≡ bytes_at (files_seen true old table) i ++ take n bytes =
    r.2 ∙ ap (λ (xs : List ℕ). file_bytes old e.at.page.0 e.at.pages e.at.log ++ xs) (take-take n cut.done bytes less) ∙ ap (λ (xs : List ℕ). xs ++ take n bytes) (sym file) in
    record {
      after = put_state old new table draft i (record { at = record e.at { size = m.size; used = m.used }; records = e.records; room = e.room });
      mends_to = set_mend true new new table i (Some (record { at = record e.at { size = m.size; used = m.used }; records = e.records; room = e.room })) refl m.mends;
      is = record {
        done = n;
        within = few;
        is = subst (λ (k : ℕ). Becomes (state_seen true old table draft) (put_state old new table draft i (record { at = record e.at { size = m.size; used = m.used }; records = e.records; room = e.room })) i k (bytes_at (files_seen true old table) i ++ take n bytes)) (length-append (bytes_at (files_seen true old table) i) (take n bytes))
            (put_becomes old new table draft i e m.size m.used (bytes_at (files_seen true old table) i ++ take n bytes) inside is m.others now);
      };
    }

pub append_mends : (tells failed : Bool) (old new : List ℕ) (table : EntryTable) (draft : Option FileAt) (i : ℕ) (e : Entry) (bytes : List ℕ) → Stands tells failed old table draft → IsTrue (tells && not failed) → length new ≡ length old → IsEntry table i e
    → e.at.size + length bytes + 32 ≤ 256 * e.at.pages → (IsFile old e.at.page.0 e.at.pages e.at.log e.at.used e.at.size → IsFileCut old new e.at.page.0 e.at.pages e.at.log e.at.size e.at.size bytes)
    → MendsToState MendsToFiles new (λ after. AppendsFront (state_seen (tells && not failed) old table draft) after i bytes)
append_mends tells failed old new table draft i e bytes s told long is fits cuts =
    let t = held_table tells failed old table draft s told in
    let stored = t.holds.stored i e.at (in_places table i e is) in
    subst (λ (seen : Bool). AppendsPart seen old new table draft i bytes) (sym told) (appended_part old new table draft i e bytes t long (entry_inside table i e is) is fits (cuts stored.file))
