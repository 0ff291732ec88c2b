-- A file of rows of which the last is there in part.
use Rattle.std.specs.Prelude.{◌≡◌, ◌≢◌, ℕ, ◌-◌, ◌*◌, ◌≤◌, List, take, slice_index}
use Rattle.afl_base.specs.declared.kind.Kind.TheVariants.{Doubling}
use Rattle.afl_base.specs.Files.{File, IsNamed, State, Table, bytes_at, file_at}
use Rattle.afl_base.specs.Frames.{SparesOthers}
use Rattle.db_model.specs.declared.schemas.Attribute.{Attribute}
use Rattle.db_model.specs.Row.{row_length, rows_of, slots_in_bytes}
use Rattle.space_model.specs.FileNames.{bytes_named}

-- the bytes of whole rows
abbrev pub whole_length : List Attribute → List ℕ → ℕ
whole_length attributes bytes = row_length attributes * slots_in_bytes attributes bytes

abbrev pub whole_rows : List Attribute → List ℕ → List ℕ
whole_rows attributes bytes = take (whole_length attributes bytes) bytes

-- the file may become its first bytes: it doubles, and the last of them is not zero
pub record MayEndAt (file : File) (size : ℕ) : Type 0 where
  pub doubles : file.kind ≡ Doubling
  pub most : size ≤ 4194304
  pub last : 1 ≤ size → slice_index file.bytes (size - 1) ≢ 0

-- no file has changed but that of a name
abbrev pub ChangesOne : (old new : State) → List ℕ → Type 0
ChangesOne old new name = SparesOthers old new (λ k. IsNamed old.files k name → ⊥)

-- the file of a name has the same rows as before
abbrev pub AreSameRows : (old new : Table) → List ℕ → List Attribute → Type 0
AreSameRows old new name attributes = rows_of attributes (bytes_named name new) ≡ rows_of attributes (bytes_named name old)
