-- Which extents a command asks for, as the files stand.
use Rattle.std.specs.Prelude.{◌≡◌, ℕ, ℤ, ◌+◌, ◌*◌, ◌<◌, ◌≤◌, ◌⊎◌, ◌==◌, List, length, filter, get_or, Option, Some, None, IsSomeAnd, max, if◌then◌else◌, slice_get}
use Rattle.afl_base.specs.Files.{IsLive, Table, file_at, size_at}
use Rattle.afl_base.specs.Fit.{fit}
use Rattle.afl_base.specs.Regions.{regions}
use Rattle.afl_base.specs.declared.kind.Kind.TheVariants.{Doubling, Fixed}
use Rattle.db_model.specs.declared.commands.Command.{Command}
use Rattle.db_model.specs.declared.commands.Command.TheVariants as command
use Rattle.db_model.specs.declared.schemas.IndexKind.{IndexKind}
use Rattle.db_model.specs.declared.schemas.IndexKind.TheVariants.{Inline, MaxHeap, MemHash}
use Rattle.db_model.specs.declared.values.Value.{Value}
use Rattle.db_model.specs.Answers.{selected}
use Rattle.db_model.specs.Catalog.{Index}
use Rattle.db_model.specs.Cond.{condition_of}
use Rattle.db_model.specs.Database.{Relation, Database, relation_named, index_slot, free_from}
use Rattle.db_model.specs.Item.{place_of}
use Rattle.db_model.specs.Row.{row_length}
use Rattle.db_model.specs.Step.{key_of, keys}
use Rattle.space_model.specs.FileNames.{catalog_file, rows_file, tree_file}
use Rattle.space_model.specs.Enough.{rows_in, rows_size, tree_size, keys_named}

-- what to prepare for a change of n bytes of the catalog: overwrites and appended bytes
abbrev pub room_for : ℕ → ℕ → ℕ → ℕ × ℕ
room_for size at n = if size == 0 then (0, 1480) else (if size == 1472 then (regions at n, 8) else (regions at n, 0))

-- `size_of` says how many bytes a file has, None where there is none of that name; `asks` says that an extent of n pages is
-- needed to prepare this many overwrites and this many appended bytes of a file; `room` says what an insert of a key into the
-- hash tree of an index slot needs
module _ (size_of : List ℕ → Option ℕ) (asks : List ℕ → ℕ → ℕ → ℕ → Type 0) (room : ℕ → ℤ → ℕ × ℕ) where
  -- a change of n bytes at a place of the catalog
  abbrev pub WantsCatalog : ℕ → ℕ → ℕ → Type 0
  WantsCatalog at n need =
      IsSomeAnd (size_of catalog_file) (λ size. asks catalog_file ((room_for size at n).0) ((room_for size at n).1) need)

  -- a catalog, where there is none
  abbrev pub WantsNewCatalog : ℕ → Type 0
  WantsNewCatalog need = (size_of catalog_file ≡ None) × (need ≡ 6)

  abbrev pub WantsRelationSlot : ℕ → ℕ → Type 0
  WantsRelationSlot slot need = WantsCatalog (176 * slot) 176 need

  abbrev pub WantsIndexSlot : ℕ → ℕ → Type 0
  WantsIndexSlot slot need = WantsCatalog (1408 + 8 * slot) 8 need

  -- the tree of an index slot, for a new tuple of the relation in a slot
  abbrev pub WantsTree : ℕ → List Value → ℕ → ℕ → Option Index → Type 0
  WantsTree relation values need slot None = ⊥
  WantsTree relation values need slot (Some index) =
      (index.kind ≡ MaxHeap) × (index.relation ≡ relation)
      × asks (tree_file slot) ((room slot (key_of (slice_get values index.attribute))).0) ((room slot (key_of (slice_get values index.attribute))).1) need

  -- one overwrite a row for up to 29 rows, and a draft for more
  abbrev pub WantsMarks : ℕ → Relation → ℕ → ℕ → Type 0
  WantsMarks slot r k need = ((1 ≤ k) × (k ≤ 29) × asks (rows_file slot) k 0 need) ⊎ ((29 < k) × (need ≡ fit (rows_size r)))

  -- a draft of the live rows, where there are others
  abbrev pub WantsPacked : Relation → ℕ → Type 0
  WantsPacked r need =
      (length (filter (λ row. row.live) r.rows) < length r.rows)
      × (need ≡ fit (row_length r.schema.attributes * length (filter (λ row. row.live) r.rows)))

  abbrev pub WantsIndex : IndexKind → List ℤ → ℕ → ℕ → Type 0
  WantsIndex Inline keys slot need = WantsIndexSlot slot need
  WantsIndex MemHash keys slot need = WantsIndexSlot slot need
  WantsIndex MaxHeap keys slot need = WantsIndexSlot slot need ⊎ (need ≡ fit (tree_size keys))

  -- a command, over a database, asks for an extent of `need` pages
  abbrev pub Wants : Database → Command → ℕ → Type 0
  Wants db (command.CreateRelation name) need =
      WantsNewCatalog need ⊎ IsSomeAnd (free_from 0 db.relations) (λ slot. WantsRelationSlot slot need) ⊎ (need ≡ 16)
  Wants db (command.CreateAttribute name domain relation) need = IsSomeAnd (relation_named db relation) (λ s. WantsRelationSlot s.0 need)
  Wants db (command.CreateIndex relation attribute kind) need = IsSomeAnd (free_from 0 db.indexes) (λ slot. WantsIndex kind (keys_named db relation attribute) slot need)
  Wants db (command.Insert values relation) need =
      IsSomeAnd
      (relation_named db relation)
      (λ s. asks (rows_file s.0) 0 (row_length s.1.schema.attributes) need ⊎ ((slot : ℕ) × WantsTree s.0 values need slot (get_or db.indexes slot None)))
  Wants db (command.RemoveFrom relation nodes) need =
      IsSomeAnd (relation_named db relation) (λ s. WantsMarks s.0 s.1 (length (selected s.1.schema.attributes (condition_of nodes) s.1.rows)) need)
  Wants db (command.RemoveRelation relation) need = IsSomeAnd (relation_named db relation) (λ s. WantsRelationSlot s.0 need)
  Wants db (command.RemoveIndex relation attribute) need =
      IsSomeAnd
      (relation_named db relation)
      (λ s. IsSomeAnd (place_of attribute s.1.schema.attributes) (λ place. IsSomeAnd (index_slot db s.0 place) (λ slot. WantsIndexSlot slot need)))
  Wants db (command.Pack relation) need = IsSomeAnd (relation_named db relation) (λ s. WantsPacked s.1 need)
  Wants db _ need = ⊥

  -- ---- what the store of files answers

  -- for at most 4,096 bytes more a file is grown to at most twice the pages that its size needs, and a log has 16; a key that
  -- comes into a tree adds at most this many bytes
  pub record AsksFew : Type 0 where
    pub bucket : (slot : ℕ) (key : ℤ) → (room slot key).1 ≤ 4096
    pub few : (name : List ℕ) (w b need size : ℕ) → b ≤ 4096 → size ≤ 4194304 → size_of name ≡ Some size
        → asks name w b need → need ≤ max 16 (2 * fit size)
    pub catalog : (w b need : ℕ) → asks catalog_file w b need → need ≤ 16

-- a relation has at most 32,768 rows of at most 128 bytes, and the files of rows and of hash trees have the sizes of the
-- database's
pub record IsStoreOf (size_of : List ℕ → Option ℕ) (db : Database) : Type 0 where
  pub short : (slot : ℕ) (r : Relation) → get_or db.relations slot None ≡ Some r → row_length r.schema.attributes ≤ 128
  pub few : (slot : ℕ) (r : Relation) → get_or db.relations slot None ≡ Some r → length r.rows ≤ 32768
  pub rows : (slot : ℕ) (r : Relation) → get_or db.relations slot None ≡ Some r → size_of (rows_file slot) ≡ Some (rows_size r)
  pub trees : (slot : ℕ) (index : Index) → get_or db.indexes slot None ≡ Some index → index.kind ≡ MaxHeap
      → size_of (tree_file slot) ≡ Some (tree_size (keys index.attribute (rows_in db index.relation)))

-- ---- the same of files by their ids

abbrev pub IsGrowing : Table → ℕ → Type 0
IsGrowing files id = (file_at files id).kind ≡ Doubling

abbrev pub IsOfSixPages : Table → ℕ → Type 0
IsOfSixPages files id = (file_at files id).kind ≡ Fixed 6

-- of a growing one for at most 4,096 bytes more, and of one of 6 pages
pub record AsksLittle (files : Table) (asks : ℕ → ℕ → ℕ → ℕ → Type 0) : Type 0 where
  pub growing : (id w b need : ℕ) → IsLive files id → IsGrowing files id → b ≤ 4096 → size_at files id ≤ 4194304
      → asks id w b need → need ≤ max 16 (2 * fit (size_at files id))
  pub fixed : (id w b need : ℕ) → IsLive files id → IsOfSixPages files id → asks id w b need → need ≤ 16
