-- The files of a table, and those of an image, as users see them.
use Rattle.std.specs.Prelude.{ℕ, List, map, Option, Some}
use Rattle.std.specs.List.{Contains}
use Rattle.afl_base.specs.Files.{File, Table}
use Rattle.coffee_layout.specs.FileBytes.{file_bytes}
use Rattle.coffee_layout.specs.Files.{NamedFile, files_of}
use Rattle.coffee_layout.specs.declared.file.FileAt.{FileAt}

-- the file that an entry stands for
abbrev pub file_of : List ℕ → FileAt → NamedFile
file_of image e = record { name = e.name; kind = e.kind; bytes = file_bytes image e.page.0 e.pages e.log }

-- two images stand for the same files
pub record SameFiles (old new : List ℕ) : Type 0 where
  pub kept : (f : NamedFile) → Contains (files_of old) f → Contains (files_of new) f
  pub only : (f : NamedFile) → Contains (files_of new) f → Contains (files_of old) f

-- a file as a table of files has it: without room
abbrev pub stored_file : NamedFile → Option File
stored_file f = Some (record { name = f.name; kind = f.kind; bytes = f.bytes; records = 0; room = 0 })

-- the files that an image stands for, in page order, as such a table
abbrev pub stored_files : List ℕ → Table
stored_files image = map stored_file (files_of image)
