-- The table of a volume that was just mounted, and the image of one that is unmounted.
use Rattle.std.proofs.Common.{◌≡◌, ℕ, zero, suc, ◌+◌, ◌-◌, ◌*◌, ◌<◌, ◌≤◌, Bool, true, false, not, ◌&&◌, List, [], ◌∷◌, ◌++◌, length, map, take, set, get_or, Option, Some, None, IsTrue, refl, sym, ap, ◌∙◌, subst, arith}
use Rattle.std.specs.Prelude.{option_map, replicate, unwrap_or}
use Rattle.std.specs.List.{Contains}
use Rattle.std.proofs.lemmas.List.{append_assoc, get_or-take, length-append, length-map, length-replicate, length-take-le, map_more, set-append_right}
use Rattle.afl_base.specs.Files.{File, IsLive, file_at, no_file}
use Rattle.coffee_layout.specs.Files.{FitsIn, NamedFile, files_of, listed}
use Rattle.coffee_layout.specs.Rules.{broken_image}
use Rattle.coffee_layout.specs.Units.{pages_of}
use Rattle.coffee_layout.specs.Walks.{has_few}
use Rattle.coffee_layout.specs.declared.file.FileAt.{FileAt}
use Rattle.coffee_merge.specs.Holding.{HoldsTable, IsIn, Entries}
use Rattle.coffee_merge.specs.TableFiles.{file_of}
use Rattle.coffee_merge.proofs.SoundFiles.{entry_file, file_entry}
use Rattle.coffee_merge.proofs.SoundImages.{held_sound}
use Rattle.coffee_merge.proofs.SoundTables.{sound_held, sound_sparing}
use Rattle.coffee_volume.proofs.States.{none_drafted as no_draft}
use Rattle.coffee_volume.proofs.Stepped.{roomless_room as no_room}
use Rattle.coffee_volume.specs.Mounting.{KeepFileRules, MayBeListed, mounted_table, roomless_file}
use Rattle.coffee_volume.specs.Volumes.{AreRegular, EntryTable, draft_seen, file_seen, files_seen, places, roomless}
use Rattle.coffee_volume.specs.declared.entry.Entry.{Entry}
use Rattle.coffee_volume.proofs.Tables.{entry_of_place, entry_seen, file_of as file_of_entry, in_places, length_places, of_name as named_entry, regular_new, seen_is, seen_live, told_by}

-- PLACES

no_entry : (n k : ℕ) (e : Entry) → get_or (replicate n None) k None ≡ Some e → ⊥
no_entry zero k e is = cc
no_entry (suc n) zero e is = cc
no_entry (suc n) (suc k) e is = no_entry n k e is

-- files with free places behind them: which entry stands where
entry_in : (files : List FileAt) (n k : ℕ) (e : Entry) → get_or (map (λ (at : FileAt). Some (roomless at)) files ++ replicate n None) k None ≡ Some e → (k < length files) × (e ≡ roomless (get_or files k e.at))
entry_in [] n k e is = absurd (no_entry n k e is)
entry_in (f ∷ fs) n zero e is = let same : roomless f ≡ e = cc in (omega arith, sym same)
entry_in (f ∷ fs) n (suc k) e is = let r = entry_in fs n k e is in let low = r.0 in (omega arith, r.1)

in_entry : (files : List FileAt) (n k : ℕ) (d : FileAt) → k < length files → get_or (map (λ (at : FileAt). Some (roomless at)) files ++ replicate n None) k None ≡ Some (roomless (get_or files k d))
in_entry [] n k d low = absurd (omega arith)
in_entry (f ∷ fs) n zero d low = refl
in_entry (f ∷ fs) n (suc k) d low = in_entry fs n k d (omega arith)

places_in : (files : List FileAt) (n : ℕ) → places (map (λ (at : FileAt). Some (roomless at)) files ++ replicate n None) ≡ map Some files ++ replicate n None
places_in [] zero = refl
places_in [] (suc n) = ap (λ (t : Entries). None ∷ t) (places_in [] n)
places_in (f ∷ fs) n = ap (λ (t : Entries). Some f ∷ t) (places_in fs n)

-- the files of a table that was just mounted
pub mounted_places : (files : List FileAt) → places (mounted_table files) ≡ map Some files ++ replicate (32 - length files) None
mounted_places files = places_in files (32 - length files)

pub mounted_length : (files : List FileAt) → length files ≤ 32 → length (mounted_table files) ≡ 32
mounted_length files few =
    length-append (map (λ (at : FileAt). Some (roomless at)) files) (replicate (32 - length files) None)
    ∙ omega (arith, length-map files (λ (at : FileAt). Some (roomless at)), length-replicate {A = Option Entry} (32 - length files) None)

-- ONE MORE FILE

first_free : (n : ℕ) (e : Entry) → 1 ≤ n → set (replicate n None) 0 (Some e) ≡ Some e ∷ replicate (n - 1) None
first_free zero e some = absurd (omega arith)
first_free (suc n) e some = let less : suc n - 1 ≡ n = omega arith in rw less refl

pub mounted_more : (files : List FileAt) (i : ℕ) (at : FileAt) → i < length files → length files ≤ 32 → get_or files i at ≡ at → set (mounted_table (take i files)) i (Some (roomless at)) ≡ mounted_table (take (i + 1) files)
mounted_more files i at low few is =
    let had : length (take i files) ≡ i = length-take-le i files (omega arith) in
    let has : length (take (i + 1) files) ≡ i + 1 = length-take-le (i + 1) files (omega arith) in
    let entries : List FileAt → EntryTable = map (λ (f : FileAt). Some (roomless f)) in
    let long : length (entries (take i files)) ≡ i = length-map (take i files) (λ (f : FileAt). Some (roomless f)) ∙ had in
    let none : i - i ≡ 0 = omega arith in
    let less : 32 - i - 1 ≡ 32 - (i + 1) = omega arith in
    ap (λ n. set (entries (take i files) ++ replicate (32 - n) None) i (Some (roomless at))) had
    ∙ set-append_right (entries (take i files)) (replicate (32 - i) None) i i (Some (roomless at)) long (omega arith)
    ∙ ap (λ n. entries (take i files) ++ set (replicate (32 - i) None) n (Some (roomless at))) none
    ∙ ap (λ t. entries (take i files) ++ t) (first_free (32 - i) (roomless at) (omega arith))
    ∙ ap (λ n. entries (take i files) ++ (Some (roomless at) ∷ replicate n None)) less
    ∙ sym (append_assoc (entries (take i files)) (Some (roomless at) ∷ []) (replicate (32 - (i + 1)) None))
    ∙ ap (λ (f : FileAt). (entries (take i files) ++ (Some (roomless f) ∷ [])) ++ replicate (32 - (i + 1)) None) (sym is)
    ∙ ap (λ t. t ++ replicate (32 - (i + 1)) None) (sym (map_more (λ (f : FileAt). Some (roomless f)) files i at low))
    ∙ ap (λ n. entries (take (i + 1) files) ++ replicate (32 - n) None) (sym has)

-- ROOMS

no_room_seen : (tells : Bool) (image : List ℕ) (o : Option Entry) → ((e : Entry) → o ≡ Some e → (e.records ≡ 0) × (e.room ≡ 0))
    → ((unwrap_or (option_map (file_seen tells image) o) no_file).records ≡ 0) × ((unwrap_or (option_map (file_seen tells image) o) no_file).room ≡ 0)
no_room_seen tells image None none = (refl, refl)
no_room_seen tells image (Some e) none = none e refl

-- no file has room
pub mounted_rooms : (tells : Bool) (image : List ℕ) (table : EntryTable) (files : List FileAt) (id : ℕ) → table ≡ mounted_table files
    → ((file_at (files_seen tells image table) id).records ≡ 0) × ((file_at (files_seen tells image table) id).room ≡ 0)
mounted_rooms tells image table files id is =
    subst (λ o. ((unwrap_or o no_file).records ≡ 0) × ((unwrap_or o no_file).room ≡ 0)) (sym (seen_is tells image table id))
    (no_room_seen tells image (get_or table id None)
    (λ e stands.
    let same = (entry_in files (32 - length files) id e (ap (λ t. get_or t id None) (sym is) ∙ stands)).1 in
    (ap (λ (d : Entry). d.records) same, ap (λ (d : Entry). d.room) same)))

-- RULES

place_in : (files : List FileAt) (k : ℕ) (at : FileAt) → k < length files → get_or files k at ≡ at → IsIn (places (mounted_table files)) k at
place_in files k at low is = in_places (mounted_table files) k (roomless at) (in_entry files (32 - length files) k at low ∙ ap (λ (f : FileAt). Some (roomless f)) is)

-- each file of a table that keeps the rules may follow those before it
pub may_follow : (files : List FileAt) (i : ℕ) (at : FileAt) → KeepFileRules (places (mounted_table files)) → i < length files → get_or files i at ≡ at → MayBeListed (mounted_table (take i files)) at
may_follow files i at keep low is = record {
  name = λ k same.
      let e = named_entry (get_or (mounted_table (take i files)) k None) at.name same in
      let stands = entry_in (take i files) (32 - length (take i files)) k e.0 e.1 in
      let before : k < length (take i files) = stands.0 in
      let short : length (take i files) ≡ i = length-take-le i files (omega arith) in
      let below : k < i = omega arith in
      let file : get_or files k e.0.at ≡ e.0.at = sym (get_or-take i files k e.0.at below) ∙ sym (ap (λ (d : Entry). d.at) stands.1) in
      let one : k ≡ i = keep.names k i e.0.at at (place_in files k e.0.at (omega arith) file) (place_in files i at low is) e.2 in
      absurd (omega arith);
  shape = keep.shapes i at (place_in files i at low is);
  few = keep.few i at (place_in files i at low is);
}

pub regular_none : (pages n : ℕ) → AreRegular pages (replicate n None)
regular_none pages n = record { each = λ i e is. absurd (no_entry n i e is); names = λ i j e d is other same. absurd (no_entry n i e is) }

pub regular_more : (pages : ℕ) (table : EntryTable) (i : ℕ) (at : FileAt) → AreRegular pages table → i < length table → MayBeListed table at → FitsIn pages at → AreRegular pages (set table i (Some (roomless at)))
regular_more pages table i at regular inside is fits =
    regular_new pages table i (roomless at) regular inside
    (λ k d stands same. is.name k (ap (option_map (λ (e : Entry). e.at.name)) stands ∙ ap (λ n. Some n) same))
    (record { fits = fits; shape = is.shape; few = is.few; room = no_room pages at fits })

-- A SOUND IMAGE

-- its files in page order hold it
pub mounted_holds : (image : List ℕ) (files : List FileAt) → files ≡ listed image → broken_image image ≡ None → 256 * pages_of image ≡ length image → HoldsTable image (places (mounted_table files)) None
mounted_holds image files are sound whole =
    subst (λ fs. HoldsTable image (places (mounted_table fs)) None) (sym are)
    (subst (λ t. HoldsTable image t None) (sym (mounted_places (listed image))) (sound_held image (32 - length (listed image)) sound whole))

-- and keep the rules 6, 7 and 13
pub mounted_keep : (image : List ℕ) (files : List FileAt) → files ≡ listed image → broken_image image ≡ None → 256 * pages_of image ≡ length image → KeepFileRules (places (mounted_table files))
mounted_keep image files are sound whole =
    let holds = mounted_holds image files are sound whole in
    let same : places (mounted_table files) ≡ map Some (listed image) ++ replicate (32 - length (listed image)) None = ap (λ fs. places (mounted_table fs)) are ∙ mounted_places (listed image) in
    record {
      names = holds.names;
      shapes = λ i e is. (holds.stored i e is).shape;
      few = λ i e is. sound_sparing image (32 - length (listed image)) i e sound whole (subst (λ t. IsIn t i e) same is);
    }

-- THE IMAGE OF A VOLUME THAT IS UNMOUNTED

-- the table holds the image where no call failed and no draft is begun
pub idle_holds : (tells failed : Bool) (image : List ℕ) (table : EntryTable) (draft : Option FileAt) → (IsTrue tells → failed ≡ false → HoldsTable image (places table) draft)
    → IsTrue (tells && not failed) → option_map (draft_seen (tells && not failed) image) draft ≡ None → HoldsTable image (places table) None
idle_holds tells failed image table draft holds told none =
    let known = told_by tells failed told in
    subst (λ d. HoldsTable image (places table) d) (no_draft (tells && not failed) image draft none) (holds known.0 known.1)

pub image_sound : (image : List ℕ) (pages : ℕ) (table : EntryTable) → HoldsTable image (places table) None → AreRegular pages table → length table ≡ 32 → broken_image image ≡ None
image_sound image pages table holds regular long =
    held_sound image (places table) holds (omega (arith, length_places table))
    (λ i e is. let d = entry_of_place table i e is in ap has_few (sym d.2) ∙ (regular.each i d.0 d.1).few)

pub image_each : (tells : Bool) (image : List ℕ) (table : EntryTable) (id : ℕ) → IsTrue tells → HoldsTable image (places table) None → IsLive (files_seen tells image table) id → Contains (files_of image) (roomless_file (file_at (files_seen tells image table) id))
image_each false image table id told holds live = absurd (cc)
image_each true image table id told holds live =
    let e = entry_seen true image table id live in
    subst (λ (f : File). Contains (files_of image) (roomless_file f)) (sym (file_of_entry true image table id e.0 e.1)) (entry_file image (places table) id e.0.at holds (in_places table id e.0 e.1))

pub image_only : (tells : Bool) (image : List ℕ) (table : EntryTable) (n : NamedFile) → IsTrue tells → HoldsTable image (places table) None → Contains (files_of image) n
    → (id : ℕ) × IsLive (files_seen tells image table) id × (roomless_file (file_at (files_seen tells image table) id) ≡ n)
image_only false image table n told holds has = absurd (cc)
image_only true image table n told holds has =
    let e = file_entry image (places table) n holds has in
    let d = entry_of_place table e.0 e.1 e.2 in
    (e.0, seen_live true image table e.0 d.0 d.1, ap roomless_file (file_of_entry true image table e.0 d.0 d.1) ∙ ap (file_of image) d.2 ∙ sym e.3)
