-- The table of a volume, its files without their room, and what callers see of it.
pub use Rattle.coffee_volume.specs.KeptTables.{place_is, in_places, entry_of_place, length_places, seen_is, seen_here, entry_seen, seen_live, file_of, told_by}
use Rattle.std.proofs.Common.{◌≡◌, ◌≢◌, ℕ, ◌+◌, ◌<◌, ◌≤◌, Bool, true, false, List, [], ◌∷◌, length, set, get_or, slice_range, Option, Some, None, IsTrue, refl, sym, ap, ◌∙◌, subst, arith}
use Rattle.std.specs.Prelude.{option_map, is_some, IfNone, IfSome}
use Rattle.std.proofs.lemmas.List.{ext_get_or, get_or-set_same, get_or-set_other, length-map, length-set, length-replicate, map-set}
use Rattle.std.proofs.lemmas.Bool.{cases_eq, cases_lt}
use Rattle.std.proofs.Math.Logic.{⊎_elim}
use Rattle.std.specs.Prelude.{Result, Ok, Err}
use Rattle.padded.proofs.Facts.{some_same}
use Rattle.afl_base.specs.FileErrors.{OnSpace}
use Rattle.afl_base.specs.declared.kind.FileError.{FileError}
use Rattle.afl_base.specs.declared.kind.FileError.TheVariants.{Space, Failed}
use Rattle.afl_base.specs.Files.{AreDistinct, File, IsLive, IsNamed, IsUnnamed, bytes_at, name_at, place, used}
use Rattle.afl_base.specs.Places.{AreTaken}
use Rattle.afl_base.proofs.FileLaws.{named_here, some_free}
use Rattle.coffee_layout.specs.FileBytes.{file_byte, file_bytes}
use Rattle.coffee_layout.specs.declared.file.FileAt.{FileAt}
use Rattle.coffee_layout.proofs.Spelling.{spells_file, spelt_file}
use Rattle.coffee_log.proofs.ContentLaws.{read_bytes}
use Rattle.coffee_merge.specs.Holding.{HoldsTable, IsNewName, IsStored, KeepsContents, KeepsContent, KeepsOthers}
use Rattle.coffee_volume.specs.Volumes.{AreRegular, EntryTable, IsEntry, IsRegular, bytes_seen, entry_name, file_seen, files_seen, places}
use Rattle.coffee_volume.specs.declared.entry.Entry.{Entry}
use Rattle.coffee_merge.proofs.SoundHolders.{stored_size}

-- ENTRIES AND PLACES

pub places_set : (table : EntryTable) (i : ℕ) (o : Option Entry) → places (set table i o) ≡ set (places table) i (option_map (λ (e : Entry). e.at) o)
places_set table i o = map-set (option_map (λ (e : Entry). e.at)) table i o

-- a place holds one entry
pub one_entry : (table : EntryTable) (i : ℕ) (e d : Entry) → IsEntry table i e → IsEntry table i d → e ≡ d
one_entry table i e d first second = some_same e d (sym first ∙ second)

-- WHAT CALLERS SEE

pub seen_none : (tells : Bool) (image : List ℕ) (table : EntryTable) (i : ℕ) → get_or table i None ≡ None → place (files_seen tells image table) i ≡ None
seen_none tells image table i is = seen_is tells image table i ∙ ap (option_map (file_seen tells image)) is

pub length_seen : (tells : Bool) (image : List ℕ) (table : EntryTable) → length (files_seen tells image table) ≡ length table
length_seen tells image table = length-map table (option_map (file_seen tells image))

pub seen_set : (tells : Bool) (image : List ℕ) (table : EntryTable) (i : ℕ) (o : Option Entry) → files_seen tells image (set table i o) ≡ set (files_seen tells image table) i (option_map (file_seen tells image) o)
seen_set tells image table i o = map-set (option_map (file_seen tells image)) table i o

same_live : (tells : Bool) (image : List ℕ) (o : Option Entry) → is_some (option_map (file_seen tells image) o) ≡ is_some o
same_live tells image None = refl
same_live tells image (Some e) = refl

pub seen_is_live : (tells : Bool) (image : List ℕ) (table : EntryTable) (i : ℕ) → is_some (place (files_seen tells image table) i) ≡ is_some (get_or table i None)
seen_is_live tells image table i = ap is_some (seen_is tells image table i) ∙ same_live tells image (get_or table i None)

-- where all places below some number hold entries, files are live there
pub taken_live : (tells : Bool) (image : List ℕ) (table : EntryTable) (i : ℕ) → AreTaken table i → (k : ℕ) → k < i → IsLive (files_seen tells image table) k
taken_live tells image table i taken k low = seen_is_live tells image table k ∙ taken k low

-- where fewer than 32 files are live, a place is free
pub free_entry : (tells : Bool) (image : List ℕ) (table : EntryTable) → length table ≡ 32 → used (files_seen tells image table) < 32 → AreTaken table 32 → ⊥
free_entry tells image table long few taken =
    some_free (files_seen tells image table) (length_seen tells image table ∙ long) few (taken_live tells image table 32 taken)

-- then the places below the lowest free one are not all places
pub lowest_inside : (tells : Bool) (image : List ℕ) (table : EntryTable) (i : ℕ) → length table ≡ 32 → used (files_seen tells image table) < 32 → AreTaken table i → i < length table
lowest_inside tells image table i long few taken = ⊎_elim
    (λ (inside : i < 32). omega (arith, inside, long))
    (λ (past : 32 ≤ i). absurd (free_entry tells image table long few (λ k low. taken k (omega (arith, low, past)))))
    (cases_lt i 32)

named_entry : (tells : Bool) (image : List ℕ) (o : Option Entry) (n : List ℕ) → option_map (λ (f : File). f.name) (option_map (file_seen tells image) o) ≡ Some n → (e : Entry) × (o ≡ Some e) × (e.at.name ≡ n)
named_entry tells image None n named = absurd (cc)
named_entry tells image (Some e) n named = (e, refl, cc)

pub entry_named : (tells : Bool) (image : List ℕ) (table : EntryTable) (i : ℕ) (n : List ℕ) → IsNamed (files_seen tells image table) i n → (e : Entry) × IsEntry table i e × (e.at.name ≡ n)
entry_named tells image table i n named = named_entry tells image (get_or table i None) n (ap (option_map (λ (f : File). f.name)) (sym (seen_is tells image table i)) ∙ named)

pub seen_named : (tells : Bool) (image : List ℕ) (table : EntryTable) (i : ℕ) (e : Entry) → IsEntry table i e → IsNamed (files_seen tells image table) i e.at.name
seen_named tells image table i e is = named_here (files_seen tells image table) i (file_seen tells image e) (seen_here tells image table i e is)

same_entry_name : (tells : Bool) (image : List ℕ) (o : Option Entry) → option_map (λ (f : File). f.name) (option_map (file_seen tells image) o) ≡ option_map (λ (e : Entry). e.at.name) o
same_entry_name tells image None = refl
same_entry_name tells image (Some e) = refl

pub name_seen : (tells : Bool) (image : List ℕ) (table : EntryTable) (i : ℕ) → name_at (files_seen tells image table) i ≡ entry_name table i
name_seen tells image table i = ap (option_map (λ (f : File). f.name)) (seen_is tells image table i) ∙ same_entry_name tells image (get_or table i None)

pub unnamed_entries : (tells : Bool) (image : List ℕ) (table : EntryTable) (n : List ℕ) → ((k : ℕ) → entry_name table k ≢ Some n) → IsUnnamed (files_seen tells image table) n
unnamed_entries tells image table n none k named = none k (sym (name_seen tells image table k) ∙ named)

pub only_named : (tells : Bool) (image : List ℕ) (pages : ℕ) (table : EntryTable) (i : ℕ) (e : Entry) → AreRegular pages table → IsEntry table i e → (k : ℕ) → IsNamed (files_seen tells image table) k e.at.name → k ≡ i
only_named tells image pages table i e regular is k named =
    let d = entry_named tells image table k e.at.name named in
    regular.names k i d.0 e d.1 is d.2

-- no two files have one name
pub seen_distinct : (tells : Bool) (image : List ℕ) (pages : ℕ) (table : EntryTable) → AreRegular pages table → AreDistinct (files_seen tells image table)
seen_distinct tells image pages table regular i j n first second =
    let e = entry_named tells image table i n first in
    let d = entry_named tells image table j n second in
    regular.names i j e.0 d.0 e.1 d.1 (e.2 ∙ sym d.2)

-- the entry that has a name
pub of_name : (o : Option Entry) (n : List ℕ) → option_map (λ (e : Entry). e.at.name) o ≡ Some n → (e : Entry) × (o ≡ Some e) × (e.at.name ≡ n)
of_name None n is = absurd (cc)
of_name (Some e) n is = (e, refl, cc)

pub entry_of_name : (table : EntryTable) (i : ℕ) (n : List ℕ) → entry_name table i ≡ Some n → (e : Entry) × IsEntry table i e × (e.at.name ≡ n)
entry_of_name table i n is = of_name (get_or table i None) n is

pub found_only : (tells : Bool) (image : List ℕ) (pages : ℕ) (table : EntryTable) (n : List ℕ) (o : Option ℕ) → AreRegular pages table → IfSome o (λ id. entry_name table id ≡ Some n) → IfSome o (λ id. (k : ℕ) → IsNamed (files_seen tells image table) k n → k ≡ id)
found_only tells image pages table n None regular found = tt
found_only tells image pages table n (Some id) regular found = λ k named.
    let e = entry_of_name table id n found in
    let d = entry_named tells image table k n named in
    regular.names k id d.0 e.0 d.1 e.1 (d.2 ∙ sym e.2)

pub found_none : (tells : Bool) (image : List ℕ) (table : EntryTable) (n : List ℕ) (o : Option ℕ) → IfNone o ((k : ℕ) → entry_name table k ≢ Some n) → IfNone o (IsUnnamed (files_seen tells image table) n)
found_none tells image table n None none = unnamed_entries tells image table n none
found_none tells image table n (Some id) none = tt

-- names and the number of files do not depend on the image

same_name : (tells seen : Bool) (image other : List ℕ) (o : Option Entry) → option_map (λ (f : File). f.name) (option_map (file_seen tells image) o) ≡ option_map (λ (f : File). f.name) (option_map (file_seen seen other) o)
same_name tells seen image other None = refl
same_name tells seen image other (Some e) = refl

pub names_seen : (tells seen : Bool) (image other : List ℕ) (table : EntryTable) (i : ℕ) → name_at (files_seen tells image table) i ≡ name_at (files_seen seen other table) i
names_seen tells seen image other table i =
    ap (option_map (λ (f : File). f.name)) (seen_is tells image table i) ∙ same_name tells seen image other (get_or table i None)
    ∙ sym (ap (option_map (λ (f : File). f.name)) (seen_is seen other table i))

pub unnamed_seen : (tells seen : Bool) (image other : List ℕ) (table : EntryTable) (n : List ℕ) → IsUnnamed (files_seen tells image table) n → IsUnnamed (files_seen seen other table) n
unnamed_seen tells seen image other table n none k named = none k (names_seen tells seen image other table k ∙ named)

pub used_seen : (tells seen : Bool) (image other : List ℕ) (table : EntryTable) → used (files_seen tells image table) ≡ used (files_seen seen other table)
used_seen tells seen image other [] = refl
used_seen tells seen image other (None ∷ table) = used_seen tells seen image other table
used_seen tells seen image other (Some e ∷ table) = ap (λ (n : ℕ). n + 1) (used_seen tells seen image other table)

pub new_name : (tells : Bool) (image : List ℕ) (table : EntryTable) (n : List ℕ) → IsUnnamed (files_seen tells image table) n → IsNewName (places table) n
new_name tells image table n none k d is same =
    let had = entry_of_place table k d is in
    none k (seen_named tells image table k had.0 had.1 ∙ ap (λ (m : List ℕ). Some m) (ap (λ (a : FileAt). a.name) had.2 ∙ same))

pub no_entry : (tells : Bool) (image : List ℕ) (table : EntryTable) (n : List ℕ) → IsUnnamed (files_seen tells image table) n → (k : ℕ) (d : Entry) → IsEntry table k d → d.at.name ≢ n
no_entry tells image table n none k d is same = none k (seen_named tells image table k d is ∙ ap (λ (m : List ℕ). Some m) same)

-- BYTES

pub stored_here : (image : List ℕ) (table : EntryTable) (draft : Option FileAt) (i : ℕ) (e : Entry) → HoldsTable image (places table) draft → IsEntry table i e → IsStored image e.at
stored_here image table draft i e holds is = holds.stored i e.at (in_places table i e is)

pub size_seen : (tells : Bool) (image : List ℕ) (e : FileAt) → (IsTrue tells → IsStored image e) → length (bytes_seen tells image e) ≡ e.size
size_seen true image e is = stored_size image e (is refl)
size_seen false image e is = length-replicate {A = ℕ} e.size 0

-- a file that kept its content has the same bytes
pub kept_bytes : (old new : List ℕ) (e : FileAt) → KeepsContent old new e → file_bytes new e.page.0 e.pages e.log ≡ file_bytes old e.page.0 e.pages e.log
kept_bytes old new e kept =
    let s = spells_file old e.page.0 e.pages e.log in
    let short = s.short in
    spelt_file new e.page.0 e.pages e.log (file_bytes old e.page.0 e.pages e.log)
    (record {
      short = s.short;
      here = λ p low. kept p (omega arith) ∙ s.here p low;
      after = λ p from to. kept p (omega arith) ∙ s.after p from to;
      last = s.last;
    })

pub kept_seen : (tells : Bool) (old new : List ℕ) (e : Entry) → (IsTrue tells → KeepsContent old new e.at) → file_seen tells new e ≡ file_seen tells old e
kept_seen true old new e kept =
    ap (λ (bytes : List ℕ). let f : File = record { name = e.at.name; kind = e.at.kind; bytes = bytes; records = e.records; room = e.room } in f) (kept_bytes old new e.at (kept refl))
kept_seen false old new e kept = refl

same_option : (tells : Bool) (old new : List ℕ) (o : Option Entry) → ((e : Entry) → o ≡ Some e → file_seen tells new e ≡ file_seen tells old e) → option_map (file_seen tells new) o ≡ option_map (file_seen tells old) o
same_option tells old new None same = refl
same_option tells old new (Some e) same = ap (λ (f : File). Some f) (same e refl)

-- where all files of the table kept their content, callers see the same
pub seen_kept : (tells : Bool) (old new : List ℕ) (table : EntryTable) → (IsTrue tells → KeepsContents old new (places table)) → files_seen tells new table ≡ files_seen tells old table
seen_kept tells old new table kept =
    ext_get_or None (files_seen tells new table) (files_seen tells old table) (length_seen tells new table ∙ sym (length_seen tells old table))
    (λ k low. seen_is tells new table k ∙ same_option tells old new (get_or table k None) (λ e is. kept_seen tells old new e (λ told. kept told k e.at (in_places table k e is))) ∙ sym (seen_is tells old table k))

-- where all but one are seen as before, that one is set
pub others_seen : (tells : Bool) (old new : List ℕ) (table : EntryTable) (i : ℕ) (o : Option Entry) → i < length table → ((k : ℕ) (e : Entry) → k ≢ i → IsEntry table k e → file_seen tells new e ≡ file_seen tells old e)
    → files_seen tells new (set table i o) ≡ set (files_seen tells old table) i (option_map (file_seen tells new) o)
others_seen tells old new table i o inside same =
    seen_set tells new table i o
    ∙ ext_get_or None (set (files_seen tells new table) i (option_map (file_seen tells new) o)) (set (files_seen tells old table) i (option_map (file_seen tells new) o))
    (length-set (files_seen tells new table) i (option_map (file_seen tells new) o) ∙ length_seen tells new table ∙ sym (length_seen tells old table) ∙ sym (length-set (files_seen tells old table) i (option_map (file_seen tells new) o)))
    (λ k low. ⊎_elim
    (λ (here : k ≡ i).
    let first : i < length (files_seen tells new table) = omega (arith, length_seen tells new table) in
    let second : i < length (files_seen tells old table) = omega (arith, length_seen tells old table) in
    rw here (get_or-set_same (files_seen tells new table) i (option_map (file_seen tells new) o) None first ∙ sym (get_or-set_same (files_seen tells old table) i (option_map (file_seen tells new) o) None second)))
    (λ (there : k ≢ i).
    get_or-set_other (files_seen tells new table) i k (option_map (file_seen tells new) o) None there
    ∙ seen_is tells new table k ∙ same_option tells old new (get_or table k None) (λ e is. same k e there is) ∙ sym (seen_is tells old table k)
    ∙ sym (get_or-set_other (files_seen tells old table) i k (option_map (file_seen tells new) o) None there))
    (cases_eq k i))

-- where all but one kept their content, too
pub seen_others : (tells : Bool) (old new : List ℕ) (table : EntryTable) (i : ℕ) (o : Option Entry) → i < length table → (IsTrue tells → KeepsOthers old new (places table) i)
    → files_seen tells new (set table i o) ≡ set (files_seen tells old table) i (option_map (file_seen tells new) o)
seen_others tells old new table i o inside kept = others_seen tells old new table i o inside (λ k e there is. kept_seen tells old new e (λ told. kept told k e.at there (in_places table k e is)))

-- what was read byte by byte is a part of the file's bytes
pub read_seen : (tells : Bool) (image : List ℕ) (table : EntryTable) (i : ℕ) (e : Entry) (at : ℕ) (old into : List ℕ) → IsTrue tells → IsEntry table i e → at + length old ≤ length (bytes_at (files_seen tells image table) i) → length into ≡ length old
    → ((k : ℕ) → k < length old → get_or into k 0 ≡ file_byte image e.at.page.0 e.at.log (at + k)) → into ≡ slice_range (bytes_at (files_seen tells image table) i) at (at + length old)
read_seen true image table i e at old into told is range long here =
    let all : List ℕ = file_bytes image e.at.page.0 e.at.pages e.at.log in
    let bytes : bytes_at (files_seen true image table) i ≡ all = ap (λ (f : File). f.bytes) (file_of true image table i e is) in
    let fits : at + length into ≤ length all = omega (arith, ap length bytes) in
    read_bytes image e.at.page.0 e.at.pages e.at.log at into fits (λ k low. here k (omega arith))
    ∙ ap (λ (n : ℕ). slice_range all at (at + n)) long
    ∙ ap (λ (xs : List ℕ). slice_range xs at (at + length old)) (sym bytes)
read_seen false image table i e at old into told is range long here = absurd (cc)

-- REGULAR TABLES

-- which entry stands where after a place is set
entry_set : (table : EntryTable) (i k : ℕ) (o : Option Entry) (d : Entry) → i < length table → k ≡ i → IsEntry (set table i o) k d → o ≡ Some d
entry_set table i k o d inside here is = sym (get_or-set_same table i o None inside) ∙ ap (λ (j : ℕ). get_or (set table i o) j None) (sym here) ∙ is

entry_other : (table : EntryTable) (i k : ℕ) (o : Option Entry) (d : Entry) → k ≢ i → IsEntry (set table i o) k d → IsEntry table k d
entry_other table i k o d there is = sym (get_or-set_other table i k o None there) ∙ is

pub regular_set : (pages : ℕ) (table : EntryTable) (i : ℕ) (o : Option Entry) → AreRegular pages table → i < length table
    → ((e : Entry) → o ≡ Some e → IsRegular pages e) → ((e : Entry) → o ≡ Some e → (k : ℕ) (d : Entry) → IsEntry table k d → d.at.name ≡ e.at.name → k ≡ i) → AreRegular pages (set table i o)
regular_set pages table i o regular inside fine only = record {
  each = λ k d is. ⊎_elim
      (λ (here : k ≡ i). fine d (entry_set table i k o d inside here is))
      (λ (there : k ≢ i). regular.each k d (entry_other table i k o d there is))
      (cases_eq k i);
  names = λ k j d e is_d is_e same. ⊎_elim
      (λ (k_here : k ≡ i). ⊎_elim
      (λ (j_here : j ≡ i). k_here ∙ sym j_here)
      (λ (j_there : j ≢ i). k_here ∙ sym (only d (entry_set table i k o d inside k_here is_d) j e (entry_other table i j o e j_there is_e) (sym same)))
      (cases_eq j i))
      (λ (k_there : k ≢ i). ⊎_elim
      (λ (j_here : j ≡ i). only e (entry_set table i j o e inside j_here is_e) k d (entry_other table i k o d k_there is_d) same ∙ sym j_here)
      (λ (j_there : j ≢ i). regular.names k j d e (entry_other table i k o d k_there is_d) (entry_other table i j o e j_there is_e) same)
      (cases_eq j i))
      (cases_eq k i);
}

-- an entry in the place of one of its name
pub regular_same : (pages : ℕ) (table : EntryTable) (i : ℕ) (e f : Entry) → AreRegular pages table → i < length table → IsEntry table i e → f.at.name ≡ e.at.name → IsRegular pages f → AreRegular pages (set table i (Some f))
regular_same pages table i e f regular inside was name fine =
    regular_set pages table i (Some f) regular inside
    (λ d is. let same : f ≡ d = cc in subst (λ (x : Entry). IsRegular pages x) same fine)
    (λ d is k x there same. let eq : f ≡ d = cc in regular.names k i x e there was (same ∙ ap (λ (y : Entry). y.at.name) (sym eq) ∙ name))

-- an entry of a name that none has
pub regular_new : (pages : ℕ) (table : EntryTable) (i : ℕ) (f : Entry) → AreRegular pages table → i < length table → ((k : ℕ) (d : Entry) → IsEntry table k d → d.at.name ≢ f.at.name) → IsRegular pages f
    → AreRegular pages (set table i (Some f))
regular_new pages table i f regular inside none fine =
    regular_set pages table i (Some f) regular inside
    (λ d is. let same : f ≡ d = cc in subst (λ (x : Entry). IsRegular pages x) same fine)
    (λ d is k x there same. let eq : f ≡ d = cc in absurd (none k x there (same ∙ ap (λ (y : Entry). y.at.name) (sym eq))))

pub regular_gone : (pages : ℕ) (table : EntryTable) (i : ℕ) → AreRegular pages table → i < length table → AreRegular pages (set table i None)
regular_gone pages table i regular inside = regular_set pages table i None regular inside (λ d is. absurd (cc)) (λ d is. absurd (cc))

-- ANSWERS WITHOUT SPACE

pub space_with : {T : Type 0} (r : Result T FileError) (P Q R : ℕ → Type 0) → ((n : ℕ) → P n → Q n → R n) → OnSpace r P → OnSpace r Q → OnSpace r R
space_with (Ok x) P Q R more first second = tt
space_with (Err (Space n)) P Q R more first second = more n first second
space_with (Err Failed) P Q R more first second = tt
