-- What it means that an image mends to the files of a table, which another image holds.
use Rattle.std.specs.Prelude.{◌≡◌, ◌≢◌, ℕ, ◌-◌, ◌*◌, ◌≤◌, true, List, length, set, Option, Some, None}
use Rattle.std.specs.List.{Contains}
use Rattle.coffee_layout.specs.FileBytes.{file_byte}
use Rattle.coffee_layout.specs.Files.{NamedFile}
use Rattle.coffee_layout.specs.Walks.{has_few}
use Rattle.coffee_layout.specs.declared.file.FileAt.{FileAt}
use Rattle.coffee_log.specs.FileChanges.{Puts}
use Rattle.coffee_merge.specs.Holding.{Entries, HoldsTable, IsIn}
use Rattle.coffee_merge.specs.TableFiles.{file_of}
use Rattle.coffee_cuts.specs.Cuts.{MendsTo}

-- each doubling file has at most twice the pages that its size needs
abbrev pub AreSparing : Entries → Type 0
AreSparing table = (i : ℕ) (e : FileAt) → IsIn table i e → has_few e ≡ true

-- an image of whole sectors holds a table of at most 32 places, whose files are sparing
pub record IsTable (image : List ℕ) (table : Entries) (draft : Option FileAt) : Type 0 where
  pub holds : HoldsTable image table draft
  pub few : length table ≤ 32
  pub sparing : AreSparing table
  pub sectors : ℕ
  pub size : length image ≡ 4096 * sectors
  pub small : sectors ≤ 4096

-- an image mends to just the files of a table, with the bytes that they have in another image
pub record MendsToTable (new whole : List ℕ) (table : Entries) : Type 0 where
  pub files : List NamedFile
  pub mends : MendsTo new files
  pub each : (i : ℕ) (e : FileAt) → IsIn table i e → Contains files (file_of whole e)
  pub only : (f : NamedFile) → Contains files f → (i : ℕ) × (e : FileAt) × IsIn table i e × (f ≡ file_of whole e)

-- the last byte of a draft is not zero
abbrev pub EndsRight : List ℕ → FileAt → Type 0
EndsRight image d = 1 ≤ d.size → file_byte image d.page.0 None (d.size - 1) ≢ 0

-- a draft as a file
abbrev pub as_file : FileAt → FileAt
as_file d = record d { used = 0 }

-- an image mends to the files of a table, of which one has some bytes put into it from a place on
pub record MendsToPut (whole new : List ℕ) (table : Entries) (i : ℕ) (e : FileAt) (at : ℕ) (bytes : List ℕ) : Type 0 where
  pub size : ℕ
  pub used : ℕ
  pub mends : MendsToTable new new (set table i (Some (record e { size = size; used = used })))
  pub put : Puts (file_byte whole e.page.0 e.log) (file_byte new e.page.0 e.log) (256 * e.pages - 32) at bytes
  pub others : (k : ℕ) (f : FileAt) → k ≢ i → IsIn table k f → file_of new f ≡ file_of whole f
