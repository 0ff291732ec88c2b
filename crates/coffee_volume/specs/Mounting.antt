-- Mounting: the table of a volume that was just mounted, and why a flash could not be.
use Rattle.std.specs.Prelude.{◌≡◌, ◌≢◌, ⊤, ℕ, Bool, ◌-◌, ◌≤◌, true, List, ◌++◌, length, map, replicate, Some, None, IsTrue}
use Rattle.std.specs.List.{Contains}
use Rattle.afl_base.specs.Causes.{Rose}
use Rattle.afl_base.specs.Files.{File, IsLive, State, Table, file_at}
use Rattle.coffee_layout.specs.Files.{NamedFile, files_of, listed}
use Rattle.coffee_layout.specs.Rules.{broken_image}
use Rattle.coffee_layout.specs.Units.{pages_of}
use Rattle.coffee_layout.specs.Walks.{has_few}
use Rattle.coffee_layout.specs.declared.file.FileAt.{FileAt}
use Rattle.coffee_layout.specs.declared.unit.BadImage.{BadImage}
use Rattle.coffee_merge.specs.Holding.{IsIn, Entries, has_shape}
use Rattle.coffee_volume.specs.Volumes.{AreRegular, EntryTable, entry_name, roomless, state_seen}
use Rattle.coffee_volume.specs.declared.mount.MountError.{MountError}
use Rattle.coffee_volume.specs.declared.mount.MountError.TheVariants.{Bad, Failed}
use Rattle.coffee_volume.specs.declared.mount.Unlisted.{Unlisted}
use Rattle.coffee_volume.specs.declared.mount.Unlisted.TheVariants.{Bad as NotSound, Failed as Unread}

-- THE TABLE

-- files under the ids from 0 on, and free places after them
abbrev pub mounted_table : List FileAt → EntryTable
mounted_table files = map (λ (at : FileAt). Some (roomless at)) files ++ replicate (32 - length files) None

-- what a sound image is mounted as: its files in page order from id 0, without room and without a draft
abbrev pub mounted_state : List ℕ → State
mounted_state image = state_seen true image (mounted_table (listed image)) None

-- a file may follow those of a table by the rules 6, 7 and 13: none has its name, its pages are those
-- of its kind, and it has few pages
pub record MayBeListed (table : EntryTable) (at : FileAt) : Type 0 where
  pub name : (k : ℕ) → entry_name table k ≢ Some at.name
  pub shape : has_shape at.kind at.pages ≡ true
  pub few : has_few at ≡ true

-- the files of a table keep these rules
pub record KeepFileRules (table : Entries) : Type 0 where
  pub names : (i j : ℕ) (e d : FileAt) → IsIn table i e → IsIn table j d → e.name ≡ d.name → i ≡ j
  pub shapes : (i : ℕ) (e : FileAt) → IsIn table i e → has_shape e.kind e.pages ≡ true
  pub few : (i : ℕ) (e : FileAt) → IsIn table i e → has_few e ≡ true

-- a file as it is seen in an image: without its room
abbrev pub roomless_file : File → NamedFile
roomless_file f = record { name = f.name; kind = f.kind; bytes = f.bytes }

-- no file has any room
abbrev pub HaveNoRoom : Table → Type 0
HaveNoRoom files = (id : ℕ) → ((file_at files id).records ≡ 0) × ((file_at files id).room ≡ 0)

-- THE FLASH THAT IS HANDED BACK

-- P, where the bytes are told and no draft is begun
abbrev pub WhereIdle : State → Type 0 → Type 0
WhereIdle state P = IsTrue state.tells → state.draft ≡ None → P

-- each live file is one of the image, with its name, kind and bytes
abbrev pub HasEach : State → (image : List ℕ) → Type 0
HasEach state image = (id : ℕ) → IsLive state.files id → Contains (files_of image) (roomless_file (file_at state.files id))

-- and each file of the image is a live one
abbrev pub HasOnly : State → (image : List ℕ) → Type 0
HasOnly state image =
    (n : NamedFile) → Contains (files_of image) n → (id : ℕ) × IsLive state.files id × (roomless_file (file_at state.files id) ≡ n)

-- THE ERROR

-- the flash that is handed back
abbrev pub flash_of : {F : Type 0} → MountError F → F
flash_of (Bad bad flash) = flash
flash_of (Failed flash) = flash

-- P of the broken rule, where that is the error
abbrev pub OnBadImage : {F : Type 0} → MountError F → (BadImage → Type 0) → Type 0
OnBadImage (Bad bad flash) P = P bad
OnBadImage (Failed flash) P = ⊤

-- P, where the error is that the flash failed
abbrev pub OnFailed : {F : Type 0} → MountError F → Type 0 → Type 0
OnFailed (Bad bad flash) P = ⊤
OnFailed (Failed flash) P = P

-- the count never falls, and the flash failed only where the count rose
pub record HasMountCause {F : Type 0} (before now : ℕ) (error : MountError F) : Type 0 where
  pub later : before ≤ now
  pub failed : OnFailed error (Rose before now)

-- the table of an image: where it is told, that of its files
pub record IsImageTable (tells : Bool) (image : List ℕ) (table : EntryTable) : Type 0 where
  pub files : List FileAt
  pub few : length files ≤ 32
  pub table_is : table ≡ mounted_table files
  pub regular : AreRegular (pages_of image) table
  pub told : IsTrue tells → files ≡ listed image
  pub sound : IsTrue tells → broken_image image ≡ None

-- P of the broken rule, where that is the reason
abbrev pub OnBrokenImage : Unlisted → (BadImage → Type 0) → Type 0
OnBrokenImage (NotSound bad) P = P bad
OnBrokenImage Unread P = ⊤

-- P, where the reason is that the flash failed
abbrev pub OnFlashFault : Unlisted → Type 0 → Type 0
OnFlashFault (NotSound bad) P = ⊤
OnFlashFault Unread P = P
