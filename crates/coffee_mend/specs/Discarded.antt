-- What an image is once a file, of whose log a record was torn, is obsolete with that log.
use Rattle.std.specs.Prelude.{◌≡◌, ◌≢◌, ℕ, List, None, Some}
use Rattle.std.specs.List.{Contains}
use Rattle.afl_base.specs.declared.ids.PageId.{PageId}
use Rattle.coffee_cuts.specs.Cuts.{MendsTo}
use Rattle.coffee_layout.specs.Files.{NamedFile, files_of}
use Rattle.coffee_layout.specs.Rules.{broken_image}
use Rattle.coffee_layout.specs.declared.file.FileAt.{FileAt}
use Rattle.coffee_merge.specs.Flags.{flagged, obsoleted}

-- the image with OBSOLETE in the headers of a file and of its log
abbrev pub discarded : List ℕ → FileAt → PageId → List ℕ
discarded image file log = obsoleted image file.page.0 (Some log)

-- the file was there, and without it the image is sound and has all others; it mends to these also where the log is not obsolete yet
pub record IsDiscarded (image : List ℕ) (file : FileAt) (log : PageId) : Type 0 where
  pub sound : broken_image (discarded image file log) ≡ None
  pub there : (f : NamedFile) × Contains (files_of image) f × (f.name ≡ file.name)
  pub kept : (f : NamedFile) → Contains (files_of image) f → f.name ≢ file.name → Contains (files_of (discarded image file log)) f
  pub only : (f : NamedFile) → Contains (files_of (discarded image file log)) f → Contains (files_of image) f × (f.name ≢ file.name)
  pub between : MendsTo (flagged image file.page.0 4) (files_of (discarded image file log))
