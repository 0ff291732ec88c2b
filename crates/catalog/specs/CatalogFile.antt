-- The file of the catalog, and what a change of it asks for.
use Rattle.std.specs.Prelude.{◌≡◌, ◌≢◌, ℕ, ◌+◌, ◌%◌, ◌≤◌, ◌⊎◌, List, length, map, take, Option, option_map}
use Rattle.afl_base.specs.Fields.{put_at}
use Rattle.afl_base.specs.Files.{Becomes, File, State, bytes_at}
use Rattle.afl_base.specs.Frames.{SparesOthers}
use Rattle.catalog.specs.declared.types.IndexEntry.{IndexEntry}
use Rattle.db_model.specs.declared.schemas.Schema.{Schema}
use Rattle.db_model.specs.Catalog.{Index, with_index_slot, with_relation_slot, with_slot}
use Rattle.space_model.specs.Wants.{room_for}

-- ---- changes

-- an empty catalog, one of version 1, one of version 2
abbrev pub IsCatalogSize : ℕ → Type 0
IsCatalogSize size = (size ≡ 0) ⊎ (size ≡ 1472) ⊎ (size ≡ 1480)

-- the file has room for a change of n bytes at a place
pub record IsPrepared (file : File) (at n : ℕ) : Type 0 where
  pub records : (room_for (length file.bytes) at n).0 ≤ file.records
  pub room : (room_for (length file.bytes) at n).1 ≤ file.room

-- a relation slot is replaced in the file of the catalog, which is of version 2 then
abbrev pub PutsRelation : (old new : State) (cat slot : ℕ) → Option Schema → Type 0
PutsRelation old new cat slot relation = Becomes old new cat 1480 (with_relation_slot (bytes_at old.files cat) slot relation)

abbrev pub PutsIndex : (old new : State) (cat slot : ℕ) → Option Index → Type 0
PutsIndex old new cat slot index = Becomes old new cat 1480 (with_index_slot (bytes_at old.files cat) slot index)

-- ---- changes that broke off

-- the bytes are the first ones of the catalog with the slot: it was empty, or it was of version 1 and no
-- more than its mark was to come
pub record IsFrontOfCatalog (old : List ℕ) (at : ℕ) (slot now : List ℕ) : Type 0 where
  pub done : ℕ
  pub first : (length old ≡ 0) ⊎ ((length old ≡ 1472) × (1472 ≤ done))
  pub is : now ≡ take done (with_slot old at slot)

-- of the slot a front part stands in a catalog that was not empty: none, all, or the bytes up to where
-- a region ends
pub record HasFrontOfSlot (old : List ℕ) (at : ℕ) (slot now : List ℕ) : Type 0 where
  pub done : ℕ
  pub within : done ≤ length slot
  pub whole : (done ≡ 0) ⊎ ((done ≡ length slot) ⊎ ((at + done) % 128 ≡ 0))
  pub some : 1472 ≤ length old
  pub is : now ≡ put_at old at (take done slot)

-- what a change of a slot that broke off leaves of the bytes of a catalog
abbrev pub ReplacesFront : (old : List ℕ) (at : ℕ) (slot now : List ℕ) → Type 0
ReplacesFront old at slot now = IsFrontOfCatalog old at slot now ⊎ HasFrontOfSlot old at slot now

-- the file of the catalog has such bytes, and no other file has changed
abbrev pub MayReplace : (old after : State) (cat at : ℕ) (slot : List ℕ) → Type 0
MayReplace old after cat at slot =
    SparesOthers old after (λ k. k ≢ cat)
    × ReplacesFront (bytes_at old.files cat) at slot (bytes_at after.files cat)

-- ---- what entries say

-- what an entry says of an index
abbrev pub index_in : IndexEntry → Index
index_in entry = record { kind = entry.kind; relation = entry.relation; attribute = entry.attribute }

abbrev pub indexes_in : List (Option IndexEntry) → List (Option Index)
indexes_in entries = map (option_map index_in) entries
