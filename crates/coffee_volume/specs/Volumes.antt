-- Volumes: what the files of a flash are to those who call `Files`.
use Rattle.std.specs.Prelude.{◌≡◌, ℕ, Bool, true, false, List, map, replicate, get_or, option_map, Option, Some, None, IsTrue}
use Rattle.std.specs.List.{range_with_len}
use Rattle.afl_base.specs.declared.kind.Kind.TheVariants.{Doubling}
use Rattle.afl_base.specs.Files.{Draft, File, State}
use Rattle.coffee_layout.specs.FileBytes.{file_byte, file_bytes}
use Rattle.coffee_layout.specs.Files.{FitsIn}
use Rattle.coffee_layout.specs.Marks.{IsCramped}
use Rattle.coffee_layout.specs.Tiling.{units_of}
use Rattle.coffee_layout.specs.Walks.{has_few}
use Rattle.coffee_layout.specs.declared.file.FileAt.{FileAt}
use Rattle.coffee_merge.specs.Holding.{has_shape}
use Rattle.coffee_volume.specs.Rooms.{HasEntryRoom, pages_asked}
use Rattle.coffee_volume.specs.declared.entry.Entry.{Entry}

-- THE TABLE

abbrev pub EntryTable : Type 0
EntryTable = List (Option Entry)

-- an entry stands in a place
abbrev pub IsEntry : EntryTable → ℕ → Entry → Type 0
IsEntry table i e = get_or table i None ≡ Some e

-- P of the file in a place
abbrev pub AtEntry : EntryTable → ℕ → (FileAt → Type 0) → Type 0
AtEntry table i P = (e : Entry) → IsEntry table i e → P e.at

-- P of the file in a place, before and now
abbrev pub FromTo : (old new : EntryTable) → ℕ → (FileAt → FileAt → Type 0) → Type 0
FromTo old new i P = (e d : Entry) → IsEntry old i e → IsEntry new i d → P e.at d.at

-- the entry of a file without room
abbrev pub roomless : FileAt → Entry
roomless at = record { at = at; records = 0; room = 0 }

-- the name of the entry in a place
abbrev pub entry_name : EntryTable → ℕ → Option (List ℕ)
entry_name table i = option_map (λ (e : Entry). e.at.name) (get_or table i None)

-- the files of the table, without their room
abbrev pub places : EntryTable → List (Option FileAt)
places table = map (option_map (λ (e : Entry). e.at)) table

-- What is known of an entry on any flash: it lies inside, its pages are those of its kind, a doubling
-- one has at most twice those that its size needs, and its room is there.
pub record IsRegular (pages : ℕ) (e : Entry) : Type 0 where
  pub fits : FitsIn pages e.at
  pub shape : has_shape e.at.kind e.at.pages ≡ true
  pub few : has_few e.at ≡ true
  pub room : HasEntryRoom e

-- all entries are, and no two have one name
pub record AreRegular (pages : ℕ) (table : EntryTable) : Type 0 where
  pub each : (i : ℕ) (e : Entry) → IsEntry table i e → IsRegular pages e
  pub names : (i j : ℕ) (e d : Entry) → IsEntry table i e → IsEntry table j d → e.at.name ≡ d.at.name → i ≡ j

-- what is known of a draft on any flash
pub record IsPending (pages : ℕ) (d : FileAt) : Type 0 where
  pub fits : FitsIn pages d
  pub shape : has_shape d.kind d.pages ≡ true
  pub few : has_few d ≡ true
  pub kind : d.kind ≡ Doubling
  pub log : d.log ≡ None
  pub used : d.used ≡ 0

-- WHAT CALLERS SEE

-- the bytes of a file, where they are told
abbrev pub bytes_seen : Bool → List ℕ → FileAt → List ℕ
bytes_seen true image e = file_bytes image e.page.0 e.pages e.log
bytes_seen false image e = replicate e.size 0

abbrev pub file_seen : Bool → List ℕ → Entry → File
file_seen tells image e = record { name = e.at.name; kind = e.at.kind; bytes = bytes_seen tells image e.at; records = e.records; room = e.room }

-- the bytes of a draft, zeros at the end among them
abbrev pub drafted_bytes : Bool → List ℕ → FileAt → List ℕ
drafted_bytes true image d = map (file_byte image d.page.0 None) (range_with_len 0 d.size)
drafted_bytes false image d = replicate d.size 0

abbrev pub draft_seen : Bool → List ℕ → FileAt → Draft
draft_seen tells image d = record { name = d.name; bytes = drafted_bytes tells image d }

abbrev pub files_seen : Bool → List ℕ → EntryTable → List (Option File)
files_seen tells image table = map (option_map (file_seen tells image)) table

abbrev pub state_seen : Bool → List ℕ → EntryTable → Option FileAt → State
state_seen tells image table draft = record {
  tells = tells;
  files = files_seen tells image table;
  draft = option_map (draft_seen tells image) draft;
  store = image;
}

-- P of the bytes of the storage, before and now, where they are told
abbrev pub WhereTold : {S : Type 0} → (S → State) → (old new : S) → (List ℕ → List ℕ → Type 0) → Type 0
WhereTold state old new P = IsTrue (state old).tells → P (state old).store (state new).store

-- no extent of this many pages is available: the image is cramped, where it is told
abbrev pub Lacks : Bool → List ℕ → ℕ → Type 0
Lacks tells image n = IsTrue tells → IsCramped (units_of image) n

-- `prepare` asks for an extent of this many pages
abbrev pub Asks : EntryTable → (id overwrites bytes need : ℕ) → Type 0
Asks table id overwrites bytes need = (e : Entry) → IsEntry table id e → pages_asked e.at overwrites bytes ≡ Some need
