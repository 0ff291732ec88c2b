-- What files mend to where the rows of one relation are filled.
use Rattle.std.proofs.Common.{◌≡◌, ◌≢◌, ◌⊎◌, inl, inr, ℕ, false, ◌<◌, List, [], ◌∷◌, ◌++◌, set, get_or, length, map, Option, Some, None, IsTrue, refl, ap, sym, subst, ◌∙◌, arith}
use Rattle.std.specs.Prelude.{option_map, ⊤}
use Rattle.std.specs.List.{range_with_len}
use Rattle.std.proofs.Math.Logic.{⊎_elim}
use Rattle.std.proofs.lemmas.Bool.{cases_eq}
use Rattle.std.proofs.lemmas.List.{get_or-set_same, get_or-set_other, length-set}
use Rattle.std.proofs.lemmas.List.FromFn.{get_or-map-range_with_len, length-map-range_with_len}
use Rattle.afl_base.specs.Files.{State, Table}
use Rattle.catalog.specs.Rules.{catalog_bytes_in}
use Rattle.db_model.specs.declared.schemas.Schema.{Schema}
use Rattle.db_model.specs.declared.values.Value.{Value}
use Rattle.db_model.specs.Catalog.{catalog_of, index_at, relation_at}
use Rattle.db_model.specs.Database.{Database, Relation, with_relation}
use Rattle.db_model.specs.Row.{Row, rows_of}
use Rattle.space_model.specs.FileNames.{bytes_named, catalog_file, rows_file, tree_file}
use Rattle.stored.specs.Mended.{mended_base, mended_catalog, mended_version, whole_bytes, whole_catalog}
use Rattle.stored.proofs.MendedBase.{alike_is, base_one_relation, index_stays, relation_mended, relation_mended_at, relation_read, relation_stays, relations_mended, version_mended}
use Rattle.stored.proofs.NamesStay.{there_stays}
use Rattle.stored_mend.specs.Filled.{FillsIn, HasRemovedMore, IsFilledIn, IsFilledSlot, with_removed}
use Rattle.stored_mend.specs.Mending.{KeepsBase}
use Rattle.stored_mend.specs.Rows.{AreSameRows, ChangesOne}
use Rattle.stored_mend.proofs.KeptBase.{bytes_stay, rows_keep}
use Rattle.stored_mend.proofs.OneFile.{catalog_no_rows, rows_no_tree, same_rows_slot}

-- ---- databases

pub same_filled : (slots : ℕ → Type 0) (old now : Database) → now ≡ old → IsFilledIn slots old now
same_filled slots old now same = record {
  version = ap (λ (db : Database). db.version) same;
  indexes = ap (λ (db : Database). db.indexes) same;
  cursors = ap (λ (db : Database). db.cursors) same;
  eight = ap (λ (db : Database). length db.relations) same;
  filled = λ k. inl (ap (λ (db : Database). get_or db.relations k None) same);
  others = λ k no. ap (λ (db : Database). get_or db.relations k None) same;
}

-- one relation has one row more
pub put_filled : (db : Database) (slot : ℕ) (r : Relation) (tuple : List Value) → slot < length db.relations → get_or db.relations slot None ≡ Some r
    → IsFilledIn (λ k. k ≡ slot) db (with_relation db slot (Some (with_removed r tuple)))
put_filled db slot r tuple inside there = record {
  version = refl;
  indexes = refl;
  cursors = refl;
  eight = length-set db.relations slot (Some (with_removed r tuple));
  filled = λ k. ⊎_elim
      (λ (e : k ≡ slot). subst (λ (j : ℕ). IsFilledSlot (get_or db.relations j None) (get_or (set db.relations slot (Some (with_removed r tuple))) j None)) (sym e)
      (inr (r, tuple, there, get_or-set_same db.relations slot (Some (with_removed r tuple)) None inside)))
      (λ (differs : k ≢ slot). inl (get_or-set_other db.relations slot k (Some (with_removed r tuple)) None differs))
      (cases_eq k slot);
  others = λ k differs. get_or-set_other db.relations slot k (Some (with_removed r tuple)) None differs;
}

-- slots that are filled one after another, each once
pub filled_then : (P Q R : ℕ → Type 0) (a b c : Database) → IsFilledIn P a b → IsFilledIn Q b c → ((k : ℕ) → (P k → ⊥) ⊎ (Q k → ⊥)) → ((k : ℕ) → (R k → ⊥) → (P k → ⊥) × (Q k → ⊥)) → IsFilledIn R a c
filled_then P Q R a b c f g once within = record {
  version = g.version ∙ f.version;
  indexes = g.indexes ∙ f.indexes;
  cursors = g.cursors ∙ f.cursors;
  eight = g.eight ∙ f.eight;
  filled = λ k. ⊎_elim
      (λ no. subst (λ (o : Option Relation). IsFilledSlot o (get_or c.relations k None)) (f.others k no) (g.filled k))
      (λ no. subst (IsFilledSlot (get_or a.relations k None)) (sym (g.others k no)) (f.filled k))
      (once k);
  others = λ k no. g.others k ((within k no).1) ∙ f.others k ((within k no).0);
}

-- ---- files

module _ (old new : State) (k : ℕ) (schema : Schema) (below : k < 8) (c : ChangesOne old new (rows_file k)) (is : get_or (mended_catalog old.files).relations k None ≡ Some schema) where
  catalog : catalog_bytes_in new.files ≡ catalog_bytes_in old.files
  catalog = bytes_stay old new (rows_file k) catalog_file c (catalog_no_rows k)

  slot : relation_at (whole_catalog old.files) k ≡ Some schema
  unfolding mended_catalog
  slot = sym (get_or-map-range_with_len (relation_at (whole_catalog old.files)) 0 8 k k None below (omega arith)) ∙ is

  slot_now : relation_at (whole_catalog new.files) k ≡ Some schema
  slot_now = ap (λ (bytes : List ℕ). relation_at (whole_bytes bytes) k) catalog ∙ slot

  -- a removed row more in its file
  pub filled_base : (tuple : List Value) → rows_of schema.attributes (bytes_named (rows_file k) new.files) ≡ rows_of schema.attributes (bytes_named (rows_file k) old.files) ++ record { tuple = tuple; live = false } ∷ []
      → IsFilledIn (λ j. j ≡ k) (mended_base old.files) (mended_base new.files)
  filled_base tuple more =
      let r : Relation = record { schema = schema; rows = rows_of schema.attributes (bytes_named (rows_file k) old.files) } in
      let there : get_or (mended_base old.files).relations k None ≡ Some r = relation_mended_at old.files k below ∙ ap (option_map (relation_read (bytes_named (rows_file k) old.files))) slot in
      let eight : length (mended_base old.files).relations ≡ 8 = ap (λ (rs : List (Option Relation)). length rs) (relations_mended old.files) ∙ length-map-range_with_len (relation_mended old.files) 0 8 in
      let here : relation_mended new.files k ≡ Some (with_removed r tuple) =
      ap (option_map (relation_read (bytes_named (rows_file k) new.files))) slot_now ∙ ap (λ (rows : List Row). Some (record { schema = schema; rows = rows })) more in
      let alike = base_one_relation old.files new.files k (Some (with_removed r tuple)) below here
      (λ j inside differs. relation_stays old.files new.files j (ap (λ (bytes : List ℕ). relation_at (whole_bytes bytes) j) catalog)
      (λ used. bytes_stay old new (rows_file k) (rows_file j) c (λ e. differs (same_rows_slot j k e))))
      (λ i inside. index_stays old.files new.files i (ap (λ (bytes : List ℕ). index_at (whole_bytes bytes) i) catalog) (λ tree. there_stays old.files new.files (tree_file i) c.named)) in
      let version : (mended_base new.files).version ≡ (mended_base old.files).version = version_mended new.files ∙ ap (λ (bytes : List ℕ). mended_version (whole_bytes bytes)) catalog ∙ sym (version_mended old.files) in
      subst (IsFilledIn (λ j. j ≡ k) (mended_base old.files)) (sym (alike_is (mended_base new.files) (with_relation (mended_base old.files) k (Some (with_removed r tuple))) alike version))
      (put_filled (mended_base old.files) k r tuple (omega (arith, eight, below)) there)

-- ---- steps

pub kept_fills : (slots : ℕ → Type 0) (old new : State) → KeepsBase old new → FillsIn slots old new
kept_fills slots old new k = record { catalog = k.catalog; base = λ told. same_filled slots (mended_base old.files) (mended_base new.files) (k.base told); draft = k.draft; tells = k.tells }

pub fills_then : (P Q R : ℕ → Type 0) (a b c : State) → FillsIn P a b → FillsIn Q b c → ((k : ℕ) → (P k → ⊥) ⊎ (Q k → ⊥)) → ((k : ℕ) → (R k → ⊥) → (P k → ⊥) × (Q k → ⊥)) → FillsIn R a c
fills_then P Q R a b c f g once within = record {
  catalog = g.catalog ∙ f.catalog;
  base = λ told. filled_then P Q R (mended_base a.files) (mended_base b.files) (mended_base c.files) (f.base told) (g.base (f.tells ∙ told)) once within;
  draft = g.draft ∙ f.draft;
  tells = g.tells ∙ f.tells;
}

-- the relations stay with the catalog
pub relations_filled : (slots : ℕ → Type 0) (a b : State) → FillsIn slots a b → (mended_catalog b.files).relations ≡ (mended_catalog a.files).relations
unfolding mended_catalog
relations_filled slots a b f = ap (λ (bytes : List ℕ). (catalog_of (whole_bytes bytes)).relations) f.catalog

pub fills_same : (slots : ℕ → Type 0) (a : State) → FillsIn slots a a
fills_same slots a = record { catalog = refl; base = λ told. same_filled slots (mended_base a.files) (mended_base a.files) refl; draft = refl; tells = refl }

-- more slots may be filled
pub fills_more : (P Q : ℕ → Type 0) (a b : State) → ((k : ℕ) → P k → Q k) → FillsIn P a b → FillsIn Q a b
fills_more P Q a b more f = record {
  catalog = f.catalog;
  base = λ told. let d = f.base told in record { version = d.version; indexes = d.indexes; cursors = d.cursors; eight = d.eight; filled = d.filled; others = λ k no. d.others k (λ p. no (more k p)) };
  draft = f.draft;
  tells = f.tells;
}

-- the rows of one relation stay, or are filled
pub fills_rows : (old new : State) (k : ℕ) (schema : Schema) → k < 8 → ChangesOne old new (rows_file k)
    → (IsTrue old.tells → get_or (mended_catalog old.files).relations k None ≡ Some schema)
    → (IsTrue old.tells → AreSameRows old.files new.files (rows_file k) schema.attributes ⊎ HasRemovedMore old.files new.files (rows_file k) schema.attributes)
    → FillsIn (λ j. j ≡ k) old new
fills_rows old new k schema below c is rows = record {
  catalog = bytes_stay old new (rows_file k) catalog_file c (catalog_no_rows k);
  base = λ told. ⊎_elim
      (λ (same : AreSameRows old.files new.files (rows_file k) schema.attributes). same_filled (λ j. j ≡ k) (mended_base old.files) (mended_base new.files) (rows_keep old new k schema c (is told) same))
      (λ (more : HasRemovedMore old.files new.files (rows_file k) schema.attributes). filled_base old new k schema below c (is told) more.0 more.1)
      (rows told);
  draft = c.draft;
  tells = c.tells;
}
