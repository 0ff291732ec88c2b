-- What a step of mending keeps.
use Rattle.std.specs.Prelude.{◌≡◌, ⊤, ℕ, ◌≤◌, IsTrue, Option}
use Rattle.afl_base.specs.Files.{IsLive, IsNamed, State, Table, file_at, size_at}
use Rattle.afl_base.specs.declared.kind.Kind.TheVariants.{Fixed}
use Rattle.catalog.specs.Rules.{catalog_bytes_in}
use Rattle.db_model.specs.declared.schemas.Schema.{Schema}
use Rattle.db_model.specs.Catalog.{relation_at}
use Rattle.db_model.specs.Database.{Database}
use Rattle.space_model.specs.FileNames.{catalog_file}
use Rattle.stored.specs.Base.{base_of}
use Rattle.stored.specs.CutTables.{IsSlot, slot_bytes}
use Rattle.stored.specs.Mended.{mended_base, mended_version, whole_catalog}
use Rattle.stored.specs.Sound.{IsSoundTable}
use Rattle.stored.specs.declared.half.Half.{Half}
use Rattle.stored_mend.specs.Filled.{IsFilled}
use Rattle.stored_mend.specs.Trees.{LosesTreesFor}

-- what the files mend to stays, where bytes are told
pub record MendsAsBefore (old new : State) : Type 0 where
  pub base : IsTrue old.tells → mended_base new.files ≡ mended_base old.files
  pub draft : new.draft ≡ old.draft
  pub tells : new.tells ≡ old.tells

-- what putting right changes in a database: relations have one row more, which is removed; and then indexes that had a
-- tree are gone, each for a reason
pub record IsPutRightFor (reason : ℕ → Type 0) (old now : Database) : Type 0 where
  pub filled : Database
  pub fills : IsFilled old filled
  pub loses : LosesTreesFor reason filled now

-- whatever the reason is
abbrev pub IsPutRight : (old now : Database) → Type 0
IsPutRight old now = IsPutRightFor (λ slot. ⊤) old now

-- what the files mend to is put right, where bytes are told
pub record PutsRight (reason : ℕ → Type 0) (old new : State) : Type 0 where
  pub base : IsTrue old.tells → IsPutRightFor reason (mended_base old.files) (mended_base new.files)
  pub draft : new.draft ≡ old.draft
  pub tells : new.tells ≡ old.tells

-- files that are sound behind it stand for what they mended to before it, put right
pub record StandsForMended (old new : Table) : Type 0 where
  pub base : IsSoundTable new → IsPutRight (mended_base old) (base_of new)

-- the catalog stays too
pub record KeepsBase (old new : State) : Type 0 where
  pub catalog : catalog_bytes_in new.files ≡ catalog_bytes_in old.files
  pub base : IsTrue old.tells → mended_base new.files ≡ mended_base old.files
  pub draft : new.draft ≡ old.draft
  pub tells : new.tells ≡ old.tells

-- the one file of the catalog, which has all slots
pub record IsWholeCatalog (files : Table) (cat : ℕ) : Type 0 where
  pub named : IsNamed files cat catalog_file
  pub only : (k : ℕ) → IsNamed files k catalog_file → k ≡ cat
  pub long : 1472 ≤ size_at files cat

-- its file, whose bytes may be put: it is of the catalog's kind, and behind the slots stands at most the mark of version 2
pub record IsWrittenCatalog (files : Table) (cat : ℕ) : Type 0 where
  pub whole : IsWholeCatalog files cat
  pub live : IsLive files cat
  pub most : size_at files cat ≤ 1480
  pub kind : (file_at files cat).kind ≡ Fixed 6

-- what the slot of a relation is read as, where bytes are told
abbrev pub HasInSlot : State → ℕ → Option Schema → Type 0
HasInSlot state slot relation = IsTrue state.tells → relation_at (whole_catalog state.files) slot ≡ relation

-- the slot of a relation is none that a cut leaves
abbrev pub IsStrangeSlot : Table → ℕ → Type 0
IsStrangeSlot files slot = (half : Half) (version : ℕ) → IsSlot half version slot (slot_bytes files slot) (relation_at (whole_catalog files) slot) → ⊥

-- the catalog mends to one of version 2, where bytes are told
abbrev pub WantsMark : State → Type 0
WantsMark state = IsTrue state.tells → mended_version (whole_catalog state.files) ≡ 2
