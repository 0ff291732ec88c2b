-- The window of a volume: what is held of the file that was read last.
use Rattle.std.specs.Prelude.{◌≡◌, ℕ, ◌+◌, ◌<◌, ◌≤◌, List, length, slice_index}
use Rattle.coffee_layout.specs.FileBytes.{file_byte}
use Rattle.coffee_layout.specs.declared.file.FileAt.{FileAt}
use Rattle.coffee_volume.specs.Volumes.{EntryTable, AtEntry}

-- of the file of an id, these bytes from a place of its content on
pub record Part : Type 0 where
  pub file : ℕ
  pub from : ℕ
  pub bytes : List ℕ

-- the first n bytes are those of the content from a place on
abbrev pub IsPart : List ℕ → (n at : ℕ) → (ℕ → ℕ) → Type 0
IsPart bytes n at content = (k : ℕ) → k < n → slice_index bytes k ≡ content (at + k)

-- what is held is part of the content
abbrev pub ShowsContent : Part → (ℕ → ℕ) → Type 0
ShowsContent part content = IsPart part.bytes (length part.bytes) part.from content

-- n bytes of the file of an id, from a place of its content on, are held
abbrev pub Holds : Part → (file at n : ℕ) → Type 0
Holds part file at n = (part.file ≡ file) × (part.from ≤ at) × (at + n ≤ part.from + length part.bytes)

-- the content of a file, byte by byte
abbrev pub content_of : List ℕ → FileAt → ℕ → ℕ
content_of image file = file_byte image file.page.0 file.log

-- what is held is part of the content of the file of its id
abbrev pub ShowsFile : List ℕ → EntryTable → Part → Type 0
ShowsFile image table part = AtEntry table part.file (λ file. ShowsContent part (content_of image file))
