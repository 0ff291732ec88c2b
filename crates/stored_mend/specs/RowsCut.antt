-- What a cut leaves of the file of a relation's rows, where the row at its end was being filled or taken back.
use Rattle.std.specs.Prelude.{◌≡◌, ◌⊎◌, ℕ, ◌<◌, List, ◌++◌, length, IsTrue}
use Rattle.afl_base.specs.CutFiles.{AppendsFront}
use Rattle.afl_base.specs.Files.{State, Table, bytes_at, file_at}
use Rattle.catalog.specs.Rules.{catalog_in}
use Rattle.db_model.specs.declared.schemas.Attribute.{Attribute}
use Rattle.db_model.specs.Catalog.{Catalog}
use Rattle.db_model.specs.Database.{Database}
use Rattle.space_model.specs.FileNames.{rows_file}
use Rattle.stored.specs.Mended.{mended_base}
use Rattle.stored.specs.declared.half.Half.{Half}
use Rattle.stored_mend.specs.Filled.{HasRemovedMore, IsFilledIn, IsFilledUp}
use Rattle.stored_mend.specs.Rows.{AreSameRows, ChangesOne, whole_length, whole_rows}
use Rattle.stored_mend.specs.Whole.{HasFilling, HasRowsBelow, IsOnlyFile, IsFillable, MendsRows}

-- a front part is appended to a file of what fills it up
pub record AppendsFilling (old after : State) (file : ℕ) (attributes : List Attribute) : Type 0 where
  pub more : List ℕ
  pub appended : AppendsFront old after file more
  pub filled : IsFilledUp attributes (bytes_at old.files file) (bytes_at old.files file ++ more)

-- and its row may be filled
pub record FillsInPart (catalog : Catalog) (relation : ℕ) (attributes : List Attribute) (old after : State) (file : ℕ) : Type 0 where
  pub may : IsFillable catalog relation attributes (file_at old.files file)
  pub appends : AppendsFilling old after file attributes

-- the same of a file that is known to end in a part of a row
pub record FillsPartly (catalog : Catalog) (relation : ℕ) (attributes : List Attribute) (old after : State) (file : ℕ) : Type 0 where
  pub may : HasFilling catalog relation attributes (bytes_at old.files file)
  pub appends : AppendsFilling old after file attributes

-- the rows of a relation are mended, as far as its file tells
pub record MendsOneFile (catalog : Catalog) (relation : ℕ) (attributes : List Attribute) (old after : State) : Type 0 where
  pub mended : MendsRows catalog relation attributes old after
  pub rows : AreSameRows old.files after.files (rows_file relation) attributes ⊎ HasRemovedMore old.files after.files (rows_file relation) attributes
  pub others : ChangesOne old after (rows_file relation)

-- a part of a row stands at the end of a relation's file as before, which may be longer, behind the same whole rows
pub record HasPartStill (relation : ℕ) (attributes : List Attribute) (old after : State) : Type 0 where
  pub file : ℕ
  pub is : IsOnlyFile old.files (rows_file relation) file
  pub part : whole_length attributes (bytes_at old.files file) < length (bytes_at old.files file)
  pub whole : whole_rows attributes (bytes_at after.files file) ≡ whole_rows attributes (bytes_at old.files file)
  pub others : ChangesOne old after (rows_file relation)

-- either of both
abbrev pub MayMendRows : Catalog → (relation : ℕ) → List Attribute → (old after : State) → Type 0
MayMendRows catalog relation attributes old after = MendsOneFile catalog relation attributes old after ⊎ HasPartStill relation attributes old after

-- where bytes are told, a catalog is the one that was read, and the rows of the relations before a slot are whole, this is so
abbrev pub WhereRowsBelow : Catalog → (slot : ℕ) → State → Type 0 → Type 0
WhereRowsBelow catalog slot old P = IsTrue old.tells → catalog ≡ catalog_in old.files → (half : Half) → HasRowsBelow old.files slot half → P

-- a database is what files mend to, in which the rows of one relation may be filled
abbrev pub IsFilledOne : (slot : ℕ) → Table → Database → Type 0
IsFilledOne slot files db = IsFilledIn (λ k. k ≡ slot) (mended_base files) db
