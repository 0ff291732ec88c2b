-- What a command wants it wants of other files too, where their sizes and rooms are the same and they ask for as much.
use Rattle.std.proofs.Common.{◌≡◌, ℕ, ℤ, ◌+◌, ◌*◌, ◌⊎◌, inl, inr, List, length, Option, Some, None, sym, subst, ◌∙◌}
use Rattle.std.specs.Prelude.{IsSomeAnd, get_or, slice_get}
use Rattle.db_model.specs.declared.commands.Command.{Command}
use Rattle.db_model.specs.declared.commands.Command.TheVariants.{CreateRelation, CreateAttribute, CreateIndex, Insert, RemoveFrom, RemoveRelation, RemoveIndex}
use Rattle.db_model.specs.declared.schemas.IndexKind.{IndexKind}
use Rattle.db_model.specs.declared.schemas.IndexKind.TheVariants.{Inline, MaxHeap, MemHash}
use Rattle.db_model.specs.declared.values.Value.{Value}
use Rattle.db_model.specs.Answers.{selected}
use Rattle.db_model.specs.Catalog.{Index}
use Rattle.db_model.specs.Cond.{condition_of}
use Rattle.db_model.specs.Database.{Database, Relation, free_from, index_slot, relation_named}
use Rattle.db_model.specs.Item.{place_of}
use Rattle.db_model.specs.Row.{row_length}
use Rattle.db_model.specs.Step.{key_of}
use Rattle.space_model.specs.Enough.{keys_named}
use Rattle.space_model.specs.FileNames.{catalog_file, rows_file, tree_file}
use Rattle.space_model.specs.Wants.{Wants, WantsCatalog, WantsIndex, WantsMarks, WantsTree, room_for}

some_more : {A : Type 0} (o : Option A) (P Q : A → Type 0) → ((x : A) → P x → Q x) → IsSomeAnd o P → IsSomeAnd o Q
some_more None P Q f h = h
some_more (Some x) P Q f h = f x h

module _ (size size_now : List ℕ → Option ℕ) (asks asks_now : List ℕ → ℕ → ℕ → ℕ → Type 0) (room room_now : ℕ → ℤ → ℕ × ℕ)
    (sizes : (name : List ℕ) → size name ≡ size_now name) (rooms : (slot : ℕ) (key : ℤ) → room slot key ≡ room_now slot key)
    (still : (name : List ℕ) (w b n : ℕ) → asks name w b n → asks_now name w b n) where
  catalog_still : (at n need : ℕ) → WantsCatalog size asks room at n need → WantsCatalog size_now asks_now room_now at n need
  catalog_still at n need w =
      subst (λ (o : Option ℕ). IsSomeAnd o (λ s. asks_now catalog_file ((room_for s at n).0) ((room_for s at n).1) need)) (sizes catalog_file)
      (some_more (size catalog_file) _ _ (λ s. still catalog_file ((room_for s at n).0) ((room_for s at n).1) need) w)

  tree_still : (relation : ℕ) (values : List Value) (need slot : ℕ) (o : Option Index) → WantsTree size asks room relation values need slot o → WantsTree size_now asks_now room_now relation values need slot o
  tree_still relation values need slot None w = w
  tree_still relation values need slot (Some index) w =
      let key = key_of (slice_get values index.attribute) in
      let P : ℕ × ℕ → Type 0 = λ r. asks_now (tree_file slot) (r.0) (r.1) need in
      (w.0, w.1, subst P (rooms slot key) (still (tree_file slot) ((room slot key).0) ((room slot key).1) need w.2))

  index_still : (kind : IndexKind) (keys : List ℤ) (slot need : ℕ) → WantsIndex size asks room kind keys slot need → WantsIndex size_now asks_now room_now kind keys slot need
  index_still Inline keys slot need w = catalog_still (1408 + 8 * slot) 8 need w
  index_still MemHash keys slot need w = catalog_still (1408 + 8 * slot) 8 need w
  index_still MaxHeap keys slot need (inl w) = inl (catalog_still (1408 + 8 * slot) 8 need w)
  index_still MaxHeap keys slot need (inr w) = inr w

  marks_still : (slot : ℕ) (r : Relation) (k need : ℕ) → WantsMarks size asks room slot r k need → WantsMarks size_now asks_now room_now slot r k need
  marks_still slot r k need (inl w) = inl (w.0, w.1, still (rows_file slot) k 0 need w.2)
  marks_still slot r k need (inr w) = inr w

  insert_still : (db : Database) (values : List Value) (need : ℕ) (s : ℕ × Relation)
      → asks (rows_file s.0) 0 (row_length s.1.schema.attributes) need ⊎ ((slot : ℕ) × WantsTree size asks room s.0 values need slot (get_or db.indexes slot None))
      → asks_now (rows_file s.0) 0 (row_length s.1.schema.attributes) need ⊎ ((slot : ℕ) × WantsTree size_now asks_now room_now s.0 values need slot (get_or db.indexes slot None))
  insert_still db values need s (inl w) = inl (still (rows_file s.0) 0 (row_length s.1.schema.attributes) need w)
  insert_still db values need s (inr w) = inr (w.0, tree_still s.0 values need w.0 (get_or db.indexes w.0 None) w.1)

  pub wanted_still : (db : Database) (c : Command) (need : ℕ) → Wants size asks room db c need → Wants size_now asks_now room_now db c need
  wanted_still db (CreateRelation name) need (inl w) = inl (sym (sizes catalog_file) ∙ w.0, w.1)
  wanted_still db (CreateRelation name) need (inr (inl w)) = inr (inl (some_more (free_from 0 db.relations) _ _ (λ slot. catalog_still (176 * slot) 176 need) w))
  wanted_still db (CreateRelation name) need (inr (inr w)) = inr (inr w)
  wanted_still db (CreateAttribute name domain relation) need w = some_more (relation_named db relation) _ _ (λ s. catalog_still (176 * s.0) 176 need) w
  wanted_still db (CreateIndex relation attribute kind) need w = some_more (free_from 0 db.indexes) _ _ (λ slot. index_still kind (keys_named db relation attribute) slot need) w
  wanted_still db (Insert values relation) need w = some_more (relation_named db relation) _ _ (λ s. insert_still db values need s) w
  wanted_still db (RemoveFrom relation nodes) need w =
      some_more (relation_named db relation) _ _ (λ s. marks_still s.0 s.1 (length (selected s.1.schema.attributes (condition_of nodes) s.1.rows)) need) w
  wanted_still db (RemoveRelation relation) need w = some_more (relation_named db relation) _ _ (λ s. catalog_still (176 * s.0) 176 need) w
  wanted_still db (RemoveIndex relation attribute) need w =
      some_more (relation_named db relation) _ _
      (λ s. some_more (place_of attribute s.1.schema.attributes) _ _ (λ place. some_more (index_slot db s.0 place) _ _ (λ slot. catalog_still (1408 + 8 * slot) 8 need))) w
  wanted_still db _ need w = w
