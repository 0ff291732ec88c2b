-- What the files of an image ask for.
use Rattle.std.specs.Prelude.{◌≡◌, ℕ, List, Some}
use Rattle.std.specs.List.{Contains}
use Rattle.coffee_layout.specs.Files.{listed}
use Rattle.coffee_layout.specs.declared.file.FileAt.{FileAt}
use Rattle.coffee_volume.specs.Rooms.{pages_asked}

-- a file of this name in an image asks for this many pages, to prepare this many overwrites and bytes
abbrev pub AsksOf : (image name : List ℕ) → (overwrites bytes need : ℕ) → Type 0
AsksOf image name overwrites bytes need =
    (e : FileAt) × Contains (listed image) e × (e.name ≡ name) × (pages_asked e overwrites bytes ≡ Some need)
