-- Files: a table of at most 32 files by their ids, a draft, and what calls make of them.
use Rattle.std.specs.Prelude.{◌≡◌, ◌≢◌, ℕ, ◌+◌, ◌<◌, ◌≤◌, Bool, List, [], ◌∷◌, ◌++◌, length, get_or, Option, Some, None, IsSome, IsTrue, is_some, option_map, unwrap_or, ⊤}
use Rattle.afl_base.specs.Fields.{put_at}
use Rattle.afl_base.specs.declared.kind.Kind.{Kind}
use Rattle.afl_base.specs.declared.kind.Kind.TheVariants.{Doubling, Fixed}

-- a file: its name, how it grows, its bytes, and its room: how many log records may be overwritten
-- and how many bytes may be appended without asking for space
pub record File : Type 0 where
  pub name : List ℕ
  pub kind : Kind
  pub bytes : List ℕ
  pub records : ℕ
  pub room : ℕ

-- a new file of a name, or the next one, under construction
pub record Draft : Type 0 where
  pub name : List ℕ
  pub bytes : List ℕ

-- by id, the file there or none
abbrev pub Table : Type 0
Table = List (Option File)

-- all files, the draft that is begun, whether the bytes that are told are those that are held, and
-- the bytes of the storage
pub record State : Type 0 where
  pub tells : Bool
  pub files : Table
  pub draft : Option Draft
  pub store : List ℕ

-- what stands under an id
abbrev pub place : Table → ℕ → Option File
place files id = get_or files id None

-- a file stands under the id
abbrev pub is_live : Table → ℕ → Bool
is_live files id = is_some (place files id)

abbrev pub IsLive : Table → ℕ → Type 0
IsLive files id = IsTrue (is_live files id)

-- no file stands here
abbrev pub no_file : File
no_file = record { name = []; kind = Doubling; bytes = []; records = 0; room = 0 }

-- the file under an id, where one is live
abbrev pub file_at : Table → ℕ → File
file_at files id = unwrap_or (place files id) no_file

abbrev pub bytes_at : Table → ℕ → List ℕ
bytes_at files id = (file_at files id).bytes

abbrev pub size_at : Table → ℕ → ℕ
size_at files id = length (bytes_at files id)

-- the name that an id has
abbrev pub name_at : Table → ℕ → Option (List ℕ)
name_at files id = option_map (λ (f : File). f.name) (place files id)

abbrev pub IsNamed : Table → ℕ → List ℕ → Type 0
IsNamed files id name = name_at files id ≡ Some name

-- no file has the name
abbrev pub IsUnnamed : Table → List ℕ → Type 0
IsUnnamed files name = (id : ℕ) → name_at files id ≢ Some name

-- no two files have one name
abbrev pub AreDistinct : Table → Type 0
AreDistinct files = (i j : ℕ) (name : List ℕ) → IsNamed files i name → IsNamed files j name → i ≡ j

-- the number of live files
abbrev pub used : Table → ℕ
used [] = 0
used (None ∷ files) = used files
used (Some f ∷ files) = used files + 1

-- an empty file, with no room
abbrev pub new_file : List ℕ → Kind → File
new_file name kind = record { name = name; kind = kind; bytes = []; records = 0; room = 0 }

-- the draft that is begun
abbrev pub draft_in : State → Draft
draft_in state = unwrap_or state.draft (record { name = []; bytes = [] })

-- a kind that a file may have
abbrev pub IsKind : Kind → Type 0
IsKind Doubling = ⊤
IsKind (Fixed n) = (1 ≤ n) × (n ≤ 15)

-- the pages of a new file
abbrev pub first_pages : Kind → ℕ
first_pages Doubling = 16
first_pages (Fixed n) = n

-- all but the bytes that it is kept in is as before
pub record Keeps (old new : State) : Type 0 where
  pub files : new.files ≡ old.files
  pub draft : new.draft ≡ old.draft
  pub tells : new.tells ≡ old.tells

-- no file but the one under the id has changed, in its name, kind, bytes or room
abbrev pub OthersStay : Table → Table → ℕ → Type 0
OthersStay old new id = (k : ℕ) → k ≢ id → place new k ≡ place old k

-- a file has this size now, and these bytes where they are told. Its id, name and kind are as before,
-- and so are all other files and the draft. Its room is told beside this
pub record Becomes (old new : State) (id total : ℕ) (told : List ℕ) : Type 0 where
  pub live : IsLive new.files id
  pub name : (file_at new.files id).name ≡ (file_at old.files id).name
  pub kind : (file_at new.files id).kind ≡ (file_at old.files id).kind
  pub size : size_at new.files id ≡ total
  pub bytes : IsTrue old.tells → bytes_at new.files id ≡ told
  pub others : OthersStay old.files new.files id
  pub names : (n : List ℕ) → IsUnnamed old.files n → IsUnnamed new.files n
  pub used : used new.files ≡ used old.files
  pub draft : new.draft ≡ old.draft
  pub tells : new.tells ≡ old.tells

-- a file's size and bytes stay
abbrev pub KeepsBytes : State → State → ℕ → Type 0
KeepsBytes old new id = Becomes old new id (size_at old.files id) (bytes_at old.files id)

-- these bytes stand in the place of those from a place of a file on
abbrev pub Overwrites : State → State → (id at : ℕ) → List ℕ → Type 0
Overwrites old new id at bytes = Becomes old new id (size_at old.files id) (put_at (bytes_at old.files id) at bytes)

-- these bytes are added at the end of a file
abbrev pub Appends : State → State → ℕ → List ℕ → Type 0
Appends old new id bytes = Becomes old new id (size_at old.files id + length bytes) (bytes_at old.files id ++ bytes)

-- the lowest place that was free holds a new file, and all else is as before
pub record Creates (old new : State) (id : ℕ) (name : List ℕ) (kind : Kind) : Type 0 where
  pub free : place old.files id ≡ None
  pub lowest : (k : ℕ) → k < id → IsLive old.files k
  pub file : place new.files id ≡ Some (new_file name kind)
  pub others : OthersStay old.files new.files id
  pub names : (n : List ℕ) → n ≢ name → IsUnnamed old.files n → IsUnnamed new.files n
  pub used : used new.files ≡ used old.files + 1
  pub draft : new.draft ≡ old.draft
  pub tells : new.tells ≡ old.tells

-- a file is gone with its name, and all else is as before
pub record Removes (old new : State) (id : ℕ) : Type 0 where
  pub gone : place new.files id ≡ None
  pub others : OthersStay old.files new.files id
  pub unnamed : IsUnnamed new.files (file_at old.files id).name
  pub names : (n : List ℕ) → IsUnnamed old.files n → IsUnnamed new.files n
  pub used : used new.files + 1 ≡ used old.files
  pub draft : new.draft ≡ old.draft
  pub tells : new.tells ≡ old.tells

-- a draft of a name and size is begun, and has these bytes where they are told. All files are as before
pub record Drafts (old new : State) (given : List ℕ) (total : ℕ) (told : List ℕ) : Type 0 where
  pub begun : IsSome new.draft
  pub name : (draft_in new).name ≡ given
  pub size : length (draft_in new).bytes ≡ total
  pub bytes : IsTrue old.tells → (draft_in new).bytes ≡ told
  pub files : new.files ≡ old.files
  pub tells : new.tells ≡ old.tells

-- these bytes stand in the draft from a place on, and all else is as before
abbrev pub WritesDraft : State → State → ℕ → List ℕ → Type 0
WritesDraft old new at bytes =
    Drafts old new (draft_in old).name (length (draft_in old).bytes) (put_at (draft_in old).bytes at bytes)

-- the draft has become the file of its name, with no room. The name keeps its id where it had one,
-- else takes the lowest place that was free. All other files are as before
pub record Commits (old new : State) (id : ℕ) : Type 0 where
  pub live : IsLive new.files id
  pub name : (file_at new.files id).name ≡ (draft_in old).name
  pub kind : (file_at new.files id).kind ≡ Doubling
  pub size : size_at new.files id ≡ length (draft_in old).bytes
  pub bytes : IsTrue old.tells → bytes_at new.files id ≡ (draft_in old).bytes
  pub records : (file_at new.files id).records ≡ 0
  pub room : (file_at new.files id).room ≡ 0
  pub kept : (k : ℕ) → IsNamed old.files k (draft_in old).name → id ≡ k
  pub free : IsUnnamed old.files (draft_in old).name → place old.files id ≡ None
  pub lowest : IsUnnamed old.files (draft_in old).name → (k : ℕ) → k < id → IsLive old.files k
  pub others : OthersStay old.files new.files id
  pub names : (n : List ℕ) → n ≢ (draft_in old).name → IsUnnamed old.files n → IsUnnamed new.files n
  pub replaced : (k : ℕ) → IsNamed old.files k (draft_in old).name → used new.files ≡ used old.files
  pub added : IsUnnamed old.files (draft_in old).name → used new.files ≡ used old.files + 1
  pub draft : new.draft ≡ None
  pub tells : new.tells ≡ old.tells
