-- Rows and indexes where the relations of the catalog, their rows and a tree are the same.
use Rattle.std.proofs.Common.{◌≡◌, ◌≢◌, ℕ, ℤ, ◌<◌, List, [], get_or, map, Option, Some, None, refl, ap, sym, subst, ◌∙◌}
use Rattle.std.specs.List.{range_with_len}
use Rattle.std.specs.Option.{option_map_or}
use Rattle.afl_base.specs.Files.{Table}
use Rattle.catalog.specs.Rules.{catalog_in}
use Rattle.db_model.specs.declared.schemas.IndexKind.{IndexKind}
use Rattle.db_model.specs.declared.schemas.IndexKind.TheVariants.{Inline, MaxHeap, MemHash}
use Rattle.db_model.specs.declared.schemas.Schema.{Schema}
use Rattle.db_model.specs.Catalog.{Index}
use Rattle.db_model.specs.Database.{Relation}
use Rattle.db_model.specs.Step.{keys}
use Rattle.db_model.proofs.Rows.{map_range_same}
use Rattle.space_model.specs.FileNames.{bytes_named, rows_file, tree_file}
use Rattle.stored.specs.Base.{base_of, relation_stored}
use Rattle.stored.specs.Sound.{IsIndexComplete, KeepsIndex, KeepsRows, keys_stored}
use Rattle.stored.proofs.MendedTables.{relation_by}
use Rattle.tuple_file.specs.Tuples.{AreRows}

-- the catalogs have the same version and relations, and these the same rows
pub record HaveSameRows (old new : Table) : Type 0 where
  pub version : (catalog_in new).version ≡ (catalog_in old).version
  pub relations : (catalog_in new).relations ≡ (catalog_in old).relations
  pub rows : (k : ℕ) → bytes_named (rows_file k) new ≡ bytes_named (rows_file k) old

pub same_rows_then : (a b c : Table) → HaveSameRows a b → HaveSameRows b c → HaveSameRows a c
same_rows_then a b c f g = record {
  version = g.version ∙ f.version;
  relations = g.relations ∙ f.relations;
  rows = λ k. g.rows k ∙ f.rows k;
}

-- an index without a tree is complete whatever the bytes are
pub treeless_any : (kind : IndexKind) (xs ys : List ℕ) (zs : List ℤ) → kind ≢ MaxHeap → IsIndexComplete kind xs zs → IsIndexComplete kind ys zs
treeless_any Inline xs ys zs other c = c
treeless_any MaxHeap xs ys zs other c = absurd (other refl)
treeless_any MemHash xs ys zs other c = c

module _ (old new : Table) (s : HaveSameRows old new) where
  stored_same : (base_of new).relations ≡ (base_of old).relations
  stored_same = map_range_same (relation_stored new (catalog_in new).relations) (relation_stored old (catalog_in old).relations) 0 8
      (λ k low below. relation_by old new (catalog_in new).relations k (s.rows k) ∙ ap (λ (schemas : List (Option Schema)). relation_stored old schemas k) s.relations)

  pub keys_same : (index : Index) → keys_stored new index ≡ keys_stored old index
  keys_same index = ap (λ (rs : List (Option Relation)). keys index.attribute (option_map_or (λ (r : Relation). r.rows) (get_or rs index.relation None) [])) stored_same

  pub rows_keep : (slot : ℕ) → KeepsRows old slot → KeepsRows new slot
  rows_keep slot keeps schema is =
      subst (λ (v : ℕ). AreRows v schema.attributes (bytes_named (rows_file slot) new)) (sym s.version)
      (subst (λ (bytes : List ℕ). AreRows (catalog_in old).version schema.attributes bytes) (sym (s.rows slot))
      (keeps schema (sym (ap (λ (schemas : List (Option Schema)). get_or schemas slot None) s.relations) ∙ is)))

  -- an index that stands in its slot as before, and whose tree has the same bytes
  pub index_keeps : (slot : ℕ) → get_or (catalog_in new).indexes slot None ≡ get_or (catalog_in old).indexes slot None → bytes_named (tree_file slot) new ≡ bytes_named (tree_file slot) old → KeepsIndex old slot → KeepsIndex new slot
  index_keeps slot same tree keeps index is =
      subst (λ (zs : List ℤ). IsIndexComplete index.kind (bytes_named (tree_file slot) new) zs) (sym (keys_same index))
      (subst (λ (bytes : List ℕ). IsIndexComplete index.kind bytes (keys_stored old index)) (sym tree) (keeps index (sym same ∙ is)))

  -- and one without a tree
  pub treeless_keeps : (slot : ℕ) (index : Index) → index.kind ≢ MaxHeap → IsIndexComplete index.kind (bytes_named (tree_file slot) old) (keys_stored old index) → IsIndexComplete index.kind (bytes_named (tree_file slot) new) (keys_stored new index)
  treeless_keeps slot index other complete =
      subst (λ (zs : List ℤ). IsIndexComplete index.kind (bytes_named (tree_file slot) new) zs) (sym (keys_same index))
      (treeless_any index.kind (bytes_named (tree_file slot) old) (bytes_named (tree_file slot) new) (keys_stored old index) other complete)
