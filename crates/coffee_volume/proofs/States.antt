-- What a change of the table and of the image is to callers of `Files`.
use Rattle.std.proofs.Common.{◌≡◌, ◌≢◌, ℕ, ◌+◌, ◌-◌, ◌*◌, ◌<◌, ◌≤◌, Bool, true, false, List, [], length, set, get_or, slice_range, replicate, Option, Some, None, IsTrue, refl, sym, ap, ◌∙◌, arith}
use Rattle.std.specs.Prelude.{option_map}
use Rattle.std.proofs.lemmas.List.{ext_get_or, get_or-replicate, get_or-set_other, get_or-set_same, length-replicate, nil_from_length}
use Rattle.std.proofs.lemmas.List.FromFn.{get_or-map-range_with_len, length-map-range_with_len}
use Rattle.std.proofs.lemmas.Bool.{cases_eq, cases_lt}
use Rattle.std.proofs.Math.Logic.{⊎_elim}
use Rattle.afl_base.specs.Fields.{put_at}
use Rattle.afl_base.specs.Files.{Becomes, Commits, Creates, Draft, Drafts, File, IsUnnamed, Keeps, Removes, new_file, place, used}
use Rattle.afl_base.specs.Places.{AreTaken}
use Rattle.afl_base.specs.declared.kind.Kind.{Kind}
use Rattle.afl_base.specs.declared.kind.Kind.TheVariants.{Doubling}
use Rattle.afl_base.proofs.FieldLaws.{length-put_at}
use Rattle.afl_base.proofs.FileLaws.{IsCommitted, set_adds, set_becomes, set_creates, set_removes, set_replaces, used_same}
use Rattle.afl_base.proofs.Images.{range_at}
use Rattle.coffee_layout.specs.FileBytes.{file_byte, file_bytes}
use Rattle.coffee_layout.specs.declared.file.FileAt.{FileAt}
use Rattle.coffee_layout.proofs.Spelling.{spelt_file}
use Rattle.coffee_log.specs.FileChanges.{Puts}
use Rattle.coffee_log.proofs.ContentLaws.{put_at_outside}
use Rattle.coffee_merge.specs.Holding.{IsDrafted, IsStored, KeepsContents, KeepsOthers, extent_of}
use Rattle.coffee_volume.specs.Volumes.{AreRegular, EntryTable, IsEntry, bytes_seen, draft_seen, drafted_bytes, file_seen, files_seen, places, roomless, state_seen}
use Rattle.coffee_volume.specs.declared.entry.Entry.{Entry}
use Rattle.coffee_volume.proofs.Tables.{entry_of_name, length_seen, name_seen, only_named, seen_here, seen_kept, seen_named, seen_none, seen_others, seen_set, size_seen, taken_live}
use Rattle.afl_base.proofs.PutLaws.{put_at_here}

-- DRAFTS

-- a byte of a draft
drafted_at : (image : List ℕ) (d : FileAt) (p : ℕ) → p < d.size → get_or (drafted_bytes true image d) p 0 ≡ file_byte image d.page.0 None p
drafted_at image d p low = get_or-map-range_with_len (file_byte image d.page.0 None) 0 d.size p p 0 low (omega arith)

pub length_drafted : (tells : Bool) (image : List ℕ) (d : FileAt) → length (drafted_bytes tells image d) ≡ d.size
length_drafted true image d = length-map-range_with_len (file_byte image d.page.0 None) 0 d.size
length_drafted false image d = length-replicate {A = ℕ} d.size 0

-- a draft keeps its bytes where the bytes below its size stay
abbrev pub KeepsDraft : (old new : List ℕ) → FileAt → Type 0
KeepsDraft old new d = (p : ℕ) → p < d.size → file_byte new d.page.0 None p ≡ file_byte old d.page.0 None p

kept_drafted : (tells : Bool) (old new : List ℕ) (d : FileAt) → (IsTrue tells → KeepsDraft old new d) → drafted_bytes tells new d ≡ drafted_bytes tells old d
kept_drafted true old new d kept =
    ext_get_or 0 (drafted_bytes true new d) (drafted_bytes true old d) (length_drafted true new d ∙ sym (length_drafted true old d))
    (λ p low. let below : p < d.size = omega (arith, length_drafted true new d) in drafted_at new d p below ∙ kept refl p below ∙ sym (drafted_at old d p below))
kept_drafted false old new d kept = refl

pub draft_kept : (tells : Bool) (old new : List ℕ) (draft : Option FileAt) → ((d : FileAt) → draft ≡ Some d → IsTrue tells → KeepsDraft old new d) → option_map (draft_seen tells new) draft ≡ option_map (draft_seen tells old) draft
draft_kept tells old new None kept = refl
draft_kept tells old new (Some d) kept =
    ap (λ (bytes : List ℕ). let w : Draft = record { name = d.name; bytes = bytes } in Some w) (kept_drafted tells old new d (kept d refl))

pub none_drafted : (tells : Bool) (image : List ℕ) (draft : Option FileAt) → option_map (draft_seen tells image) draft ≡ None → draft ≡ None
none_drafted tells image None none = refl
none_drafted tells image (Some d) none = absurd (cc)

-- CHANGES OF A FILE

pub seen_becomes : (tells : Bool) (old new : List ℕ) (table : EntryTable) (draft : Option FileAt) (i : ℕ) (e f : Entry) (total : ℕ) (told : List ℕ) → i < length table → IsEntry table i e → f.at.name ≡ e.at.name → f.at.kind ≡ e.at.kind
    → (IsTrue tells → KeepsOthers old new (places table) i) → length (bytes_seen tells new f.at) ≡ total → (IsTrue tells → bytes_seen tells new f.at ≡ told)
    → option_map (draft_seen tells new) draft ≡ option_map (draft_seen tells old) draft
    → Becomes (state_seen tells old table draft) (state_seen tells new (set table i (Some f)) draft) i total told
seen_becomes tells old new table draft i e f total told inside is name kind kept long bytes same =
    set_becomes (state_seen tells old table draft) (state_seen tells new (set table i (Some f)) draft) i (file_seen tells old e) (file_seen tells new f) total told
    (omega (arith, length_seen tells old table)) (seen_here tells old table i e is) (seen_others tells old new table i (Some f) inside kept) name kind long bytes same refl

-- the room after a change
pub room_set : (tells : Bool) (image : List ℕ) (table : EntryTable) (i : ℕ) (f : Entry) → i < length table → place (files_seen tells image (set table i (Some f))) i ≡ Some (file_seen tells image f)
room_set tells image table i f inside = seen_here tells image (set table i (Some f)) i f (get_or-set_same table i (Some f) None inside)

pub seen_creates : (tells : Bool) (old new : List ℕ) (table : EntryTable) (i : ℕ) (name : List ℕ) (kind : Kind) (page pages : ℕ) → i < length table → get_or table i None ≡ None → AreTaken table i
    → (IsTrue tells → KeepsOthers old new (places table) i) → (IsTrue tells → IsStored new (extent_of name kind page pages 0))
    → Creates (state_seen tells old table None) (state_seen tells new (set table i (Some (roomless (extent_of name kind page pages 0)))) None) i name kind
seen_creates tells old new table i name kind page pages inside free lowest kept stored =
    let e : FileAt = extent_of name kind page pages 0 in
    let empty : bytes_seen tells new e ≡ [] = nil_from_length (bytes_seen tells new e) (size_seen tells new e stored) in
    let file : file_seen tells new (roomless e) ≡ new_file name kind = ap (λ (bytes : List ℕ). let f : File = record { name = name; kind = kind; bytes = bytes; records = 0; room = 0 } in f) empty in
    set_creates (state_seen tells old table None) (state_seen tells new (set table i (Some (roomless e))) None) i name kind (omega (arith, length_seen tells old table)) (seen_none tells old table i free) (taken_live tells old table i lowest)
    (seen_others tells old new table i (Some (roomless e)) inside kept ∙ ap (λ (f : File). set (files_seen tells old table) i (Some f)) file) refl refl

pub seen_removes : (tells : Bool) (old new : List ℕ) (pages : ℕ) (table : EntryTable) (i : ℕ) (e : Entry) → i < length table → IsEntry table i e → AreRegular pages table
    → (IsTrue tells → KeepsOthers old new (places table) i)
    → Removes (state_seen tells old table None) (state_seen tells new (set table i None) None) i
seen_removes tells old new pages table i e inside is regular kept =
    set_removes (state_seen tells old table None) (state_seen tells new (set table i None) None) i (file_seen tells old e) (omega (arith, length_seen tells old table)) (seen_here tells old table i e is)
    (only_named tells old pages table i e regular is) (seen_others tells old new table i None inside kept) refl refl

-- all files keep their bytes
pub seen_keeps : (tells : Bool) (old new : List ℕ) (table : EntryTable) → (IsTrue tells → KeepsContents old new (places table)) → Keeps (state_seen tells old table None) (state_seen tells new table None)
seen_keeps tells old new table kept = record { files = seen_kept tells old new table kept; draft = refl; tells = refl }

-- CHANGES OF THE DRAFT

zero_drafted : (tells : Bool) (image : List ℕ) (d : FileAt) → IsTrue tells → ((p : ℕ) → p < d.size → file_byte image d.page.0 None p ≡ 0) → drafted_bytes tells image d ≡ replicate d.size 0
zero_drafted true image d told zeros =
    ext_get_or 0 (drafted_bytes true image d) (replicate d.size 0) (length_drafted true image d ∙ sym (length-replicate {A = ℕ} d.size 0))
    (λ p low. let below : p < d.size = omega (arith, length_drafted true image d) in drafted_at image d p below ∙ zeros p below ∙ sym (get_or-replicate d.size p 0 0 below))
zero_drafted false image d told zeros = refl

pub seen_begins : (tells : Bool) (old new : List ℕ) (table : EntryTable) (d : FileAt) → (IsTrue tells → KeepsContents old new (places table)) → (IsTrue tells → (p : ℕ) → p < d.size → file_byte new d.page.0 None p ≡ 0)
    → Drafts (state_seen tells old table None) (state_seen tells new table (Some d)) d.name d.size (replicate d.size 0)
seen_begins tells old new table d kept zeros = record {
  begun = refl;
  name = refl;
  size = length_drafted tells new d;
  bytes = λ told. zero_drafted tells new d told (zeros told);
  files = seen_kept tells old new table kept;
  tells = refl;
}

put_drafted : (tells : Bool) (old new : List ℕ) (d : FileAt) (at : ℕ) (bytes : List ℕ) → IsTrue tells → d.size + 32 ≤ 256 * d.pages → at + length bytes ≤ d.size
    → Puts (file_byte old d.page.0 None) (file_byte new d.page.0 None) (256 * d.pages - 32) at bytes → drafted_bytes tells new d ≡ put_at (drafted_bytes tells old d) at bytes
put_drafted true old new d at bytes told fits within put =
    let all : List ℕ = drafted_bytes true old d in
    let long : length all ≡ d.size = length_drafted true old d in
    let room : at + length bytes ≤ length all = omega arith in
    ext_get_or 0 (drafted_bytes true new d) (put_at all at bytes) (length_drafted true new d ∙ sym long ∙ sym (length-put_at all bytes at room))
    (λ p low.
    let below : p < d.size = omega (arith, length_drafted true new d) in
    ⊎_elim
    (λ (before : p < at). drafted_at new d p below ∙ put.others p (omega arith) (λ a b. omega arith) ∙ sym (drafted_at old d p below) ∙ sym (put_at_outside all bytes at p room (λ a b. omega arith)))
    (λ (from : at ≤ p). ⊎_elim
    (λ (there : p < at + length bytes).
    let back : at + (p - at) ≡ p = omega arith in
    drafted_at new d p below ∙ ap (file_byte new d.page.0 None) (sym back) ∙ put.here (p - at) (omega arith) ∙ sym (put_at_here all bytes at (p - at) room (omega arith)) ∙ ap (λ (k : ℕ). get_or (put_at all at bytes) k 0) back)
    (λ (behind : at + length bytes ≤ p). drafted_at new d p below ∙ put.others p (omega arith) (λ a b. omega arith) ∙ sym (drafted_at old d p below) ∙ sym (put_at_outside all bytes at p room (λ a b. omega arith)))
    (cases_lt p (at + length bytes)))
    (cases_lt p at))
put_drafted false old new d at bytes told fits within put = absurd (cc)

pub seen_writes : (tells : Bool) (old new : List ℕ) (table : EntryTable) (d : FileAt) (at : ℕ) (bytes : List ℕ) → d.size + 32 ≤ 256 * d.pages → at + length bytes ≤ d.size
    → (IsTrue tells → KeepsContents old new (places table)) → (IsTrue tells → Puts (file_byte old d.page.0 None) (file_byte new d.page.0 None) (256 * d.pages - 32) at bytes)
    → Drafts (state_seen tells old table (Some d)) (state_seen tells new table (Some d)) d.name (length (drafted_bytes tells old d)) (put_at (drafted_bytes tells old d) at bytes)
seen_writes tells old new table d at bytes fits within kept put = record {
  begun = refl;
  name = refl;
  size = length_drafted tells new d ∙ sym (length_drafted tells old d);
  bytes = λ told. put_drafted tells old new d at bytes told fits within (put told);
  files = seen_kept tells old new table kept;
  tells = refl;
}

-- a part of the draft is zero
pub zeros_there : (tells : Bool) (image : List ℕ) (d : FileAt) (at n : ℕ) → IsTrue tells → at + n ≤ length (drafted_bytes tells image d) → slice_range (drafted_bytes tells image d) at (at + n) ≡ replicate n 0
    → (k : ℕ) → k < n → file_byte image d.page.0 None (at + k) ≡ 0
zeros_there true image d at n told within zeros k low =
    let below : at + k < d.size = omega (arith, length_drafted true image d) in
    sym (drafted_at image d (at + k) below) ∙ sym (range_at (drafted_bytes true image d) at (at + n) k (omega arith)) ∙ ap (λ (xs : List ℕ). get_or xs k 0) zeros ∙ get_or-replicate n k 0 0 low
zeros_there false image d at n told within zeros k low = absurd (cc)

-- the last byte of the draft
pub last_drafted : (tells : Bool) (image : List ℕ) (d : FileAt) → IsTrue tells → (1 ≤ length (drafted_bytes tells image d) → get_or (drafted_bytes tells image d) (length (drafted_bytes tells image d) - 1) 0 ≢ 0)
    → 1 ≤ d.size → file_byte image d.page.0 None (d.size - 1) ≢ 0
last_drafted true image d told last some zero =
    let long : length (drafted_bytes true image d) ≡ d.size = length_drafted true image d in
    let place : length (drafted_bytes true image d) - 1 ≡ d.size - 1 = omega arith in
    last (omega arith) (ap (λ (k : ℕ). get_or (drafted_bytes true image d) k 0) place ∙ drafted_at image d (d.size - 1) (omega arith) ∙ zero)
last_drafted false image d told last some zero = absurd (cc)

-- COMMITS

-- the bytes of a file that was a draft
committed_bytes : (old new : List ℕ) (d : FileAt) → d.log ≡ None → IsDrafted old d → ((p : ℕ) → p + 32 < 256 * d.pages → file_byte new d.page.0 None p ≡ file_byte old d.page.0 None p)
    → (1 ≤ d.size → file_byte old d.page.0 None (d.size - 1) ≢ 0) → file_bytes new d.page.0 d.pages d.log ≡ drafted_bytes true old d
committed_bytes old new d none drafted content last =
    let fits = drafted.fits.size in
    let long : length (drafted_bytes true old d) ≡ d.size = length_drafted true old d in
    ap (file_bytes new d.page.0 d.pages) none
    ∙ spelt_file new d.page.0 d.pages None (drafted_bytes true old d)
    (record {
      short = omega arith;
      here = λ p low. content p (omega arith) ∙ sym (drafted_at old d p (omega arith));
      after = λ p from to. content p (omega arith) ∙ drafted.file.zeros p (omega arith) to;
      last = λ some zero.
          let place : length (drafted_bytes true old d) - 1 ≡ d.size - 1 = omega arith in
          last (omega arith) (sym (drafted_at old d (d.size - 1) (omega arith)) ∙ ap (λ (k : ℕ). get_or (drafted_bytes true old d) k 0) (sym place) ∙ zero);
    })

-- what is known of the flash when a draft is committed, where it is told
pub record Turns (old new : List ℕ) (d : FileAt) : Type 0 where
  pub drafted : IsDrafted old d
  pub stored : IsStored new d
  pub content : (p : ℕ) → p + 32 < 256 * d.pages → file_byte new d.page.0 None p ≡ file_byte old d.page.0 None p
  pub last : 1 ≤ d.size → file_byte old d.page.0 None (d.size - 1) ≢ 0

committed_seen : (tells : Bool) (old new : List ℕ) (d : FileAt) → IsTrue tells → d.log ≡ None → Turns old new d → bytes_seen tells new d ≡ drafted_bytes tells old d
committed_seen true old new d told none t = committed_bytes old new d none t.drafted t.content t.last
committed_seen false old new d told none t = absurd (cc)

is_committed : (tells : Bool) (old new : List ℕ) (table : EntryTable) (d : FileAt) → d.kind ≡ Doubling → d.log ≡ None → (IsTrue tells → Turns old new d) → IsCommitted (state_seen tells old table (Some d)) (file_seen tells new (roomless d))
is_committed tells old new table d kind none turns = record {
  name = refl;
  kind = kind;
  size = size_seen tells new d (λ told. (turns told).stored) ∙ sym (length_drafted tells old d);
  bytes = λ told. committed_seen tells old new d told none (turns told);
  records = refl;
  room = refl;
}

pub seen_replaces : (tells : Bool) (old new : List ℕ) (pages : ℕ) (table : EntryTable) (i : ℕ) (e : Entry) (d : FileAt) → i < length table → IsEntry table i e → e.at.name ≡ d.name → AreRegular pages table → d.kind ≡ Doubling → d.log ≡ None
    → (IsTrue tells → Turns old new d) → (IsTrue tells → KeepsOthers old new (places table) i)
    → Commits (state_seen tells old table (Some d)) (state_seen tells new (set table i (Some (roomless d))) None) i
seen_replaces tells old new pages table i e d inside is name regular kind none turns kept =
    set_replaces (state_seen tells old table (Some d)) (state_seen tells new (set table i (Some (roomless d))) None) i (file_seen tells old e) (file_seen tells new (roomless d)) (omega (arith, length_seen tells old table))
    (seen_here tells old table i e is) name (only_named tells old pages table i e regular is) (is_committed tells old new table d kind none turns) (seen_others tells old new table i (Some (roomless d)) inside kept) refl refl

pub seen_adds : (tells : Bool) (old new : List ℕ) (table : EntryTable) (i : ℕ) (d : FileAt) → i < length table → get_or table i None ≡ None → AreTaken table i → IsUnnamed (files_seen tells old table) d.name → d.kind ≡ Doubling → d.log ≡ None
    → (IsTrue tells → Turns old new d) → (IsTrue tells → KeepsOthers old new (places table) i)
    → Commits (state_seen tells old table (Some d)) (state_seen tells new (set table i (Some (roomless d))) None) i
seen_adds tells old new table i d inside free lowest unnamed kind none turns kept =
    set_adds (state_seen tells old table (Some d)) (state_seen tells new (set table i (Some (roomless d))) None) i (file_seen tells new (roomless d)) (omega (arith, length_seen tells old table))
    (seen_none tells old table i free) (taken_live tells old table i lowest) unnamed (is_committed tells old new table d kind none turns) (seen_others tells old new table i (Some (roomless d)) inside kept) refl refl

-- THE PLACE OF A DRAFT

-- a file in the place of one of its name leaves the names, and the number of files
pub space_same : (image : List ℕ) (table : EntryTable) (i : ℕ) (e f : Entry) (n : List ℕ) → i < length table → IsEntry table i e → f.at.name ≡ e.at.name
    → (IsUnnamed (files_seen false image table) n → used (files_seen false image table) < 32) → IsUnnamed (files_seen false image (set table i (Some f))) n → used (files_seen false image (set table i (Some f))) < 32
space_same image table i e f n inside is name space none =
    let before : used (files_seen false image table) < 32 =
    space (λ k named.
    let had = entry_of_name table k n (sym (name_seen false image table k) ∙ named) in
    none k (⊎_elim
    (λ (here : k ≡ i).
    let same : e ≡ had.0 = some_same e had.0 (sym is ∙ ap (λ (j : ℕ). get_or table j None) (sym here) ∙ had.1) in
    let there : IsEntry (set table i (Some f)) k f = ap (λ (j : ℕ). get_or (set table i (Some f)) j None) here ∙ get_or-set_same table i (Some f) None inside in
    seen_named false image (set table i (Some f)) k f there ∙ ap (λ (m : List ℕ). Some m) (name ∙ ap (λ (x : Entry). x.at.name) same ∙ had.2))
    (λ (there : k ≢ i).
    let still : IsEntry (set table i (Some f)) k had.0 = get_or-set_other table i k (Some f) None there ∙ had.1 in
    seen_named false image (set table i (Some f)) k had.0 still ∙ ap (λ (m : List ℕ). Some m) had.2)
    (cases_eq k i))) in
    let same : used (files_seen false image (set table i (Some f))) ≡ used (files_seen false image table) =
    ap used (seen_set false image table i (Some f)) ∙ used_same (files_seen false image table) i (file_seen false image e) (file_seen false image f) (seen_here false image table i e is) in
    omega arith
  where
    some_same : (a b : Entry) → Some a ≡ Some b → a ≡ b
    some_same a b eq = cc
