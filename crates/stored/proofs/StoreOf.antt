-- The files of a sound table have the sizes of its database's.
use Rattle.std.proofs.Common.{◌≡◌, ℕ, ◌*◌, Bool, true, false, List, length, get_or, Option, Some, None, ap, sym, subst, ◌∙◌, arith}
use Rattle.std.specs.Prelude.{is_some}
use Rattle.afl_base.specs.Files.{AreDistinct, File, Table, size_at}
use Rattle.catalog.specs.Rules.{catalog_in, is_tree}
use Rattle.db_model.specs.declared.schemas.IndexKind.{IndexKind}
use Rattle.db_model.specs.declared.schemas.IndexKind.TheVariants.{Inline, MaxHeap, MemHash}
use Rattle.db_model.specs.declared.schemas.Schema.{Schema}
use Rattle.db_model.specs.Catalog.{Index}
use Rattle.db_model.specs.Database.{Relation}
use Rattle.db_model.specs.Row.{row_length, rows_of}
use Rattle.db_model.specs.Step.{keys}
use Rattle.index_tree.proofs.Law.{sized}
use Rattle.space_model.specs.Enough.{rows_in, rows_size, tree_size}
use Rattle.space_model.specs.FileNames.{bytes_named, bytes_in_file, rows_file, size_in, tree_file}
use Rattle.space_model.specs.Wants.{IsStoreOf}
use Rattle.space_model.proofs.NamedFiles.{named_found, size_found}
use Rattle.stored.specs.Base.{base_of}
use Rattle.stored.specs.Files.{HasGrowing, IsMatched}
use Rattle.stored.specs.Sound.{IsIndexComplete, IsSoundTable, keys_stored}
use Rattle.stored.proofs.FilesOf.{whole_rows}
use Rattle.stored.proofs.HasFiles.{its_files}
use Rattle.stored.proofs.SoundBase.{sound_relation, used_index, used_slot}
use Rattle.db_model.proofs.SoundSteps.{limit_few}

heap_tree : (index : Index) → index.kind ≡ MaxHeap → is_tree (Some index) ≡ true
heap_tree index e = ap (λ (k : IndexKind). elim k [ Inline ↦ false | MaxHeap ↦ true | MemHash ↦ false ]) e

module _ (files : Table) (size : length files ≡ 32) (d : AreDistinct files) (s : IsSoundTable files) where
  sizes_of : (name : List ℕ) (n : ℕ) → HasGrowing files name → length (bytes_named name files) ≡ n → size_in files name ≡ Some n
  sizes_of name n h e =
      let found = named_found files h.id name d h.named in
      let same : size_at files h.id ≡ length (bytes_named name files) = ap (λ (o : Option File). length (bytes_in_file o)) (sym found) in
      size_found files h.id name d h.named ∙ ap (λ (k : ℕ). Some k) (same ∙ e)

  rows_size_is : (slot : ℕ) (r : Relation) → get_or (base_of files).relations slot None ≡ Some r → size_in files (rows_file slot) ≡ Some (rows_size r)
  rows_size_is slot r e =
      let u = used_slot files s slot r e in
      let schema : Schema = u.schema in
      let bytes : List ℕ = bytes_named (rows_file slot) files in
      let there : HasGrowing files (rows_file slot) =
      subst (λ (o : Option Schema). IsMatched files (rows_file slot) (is_some o)) u.there ((its_files files size d s.catalog).rows slot u.below) in
      let whole : length bytes ≡ row_length schema.attributes * length (rows_of schema.attributes bytes) =
      whole_rows (catalog_in files).version schema.attributes bytes (s.rows slot u.below schema u.there) in
      subst (λ (x : Relation). size_in files (rows_file slot) ≡ Some (rows_size x)) u.relation_is
      (sizes_of (rows_file slot) (row_length schema.attributes * length (rows_of schema.attributes bytes)) there whole)

  tree_size_is : (slot : ℕ) (index : Index) → get_or (base_of files).indexes slot None ≡ Some index → index.kind ≡ MaxHeap
      → size_in files (tree_file slot) ≡ Some (tree_size (keys index.attribute (rows_in (base_of files) index.relation)))
  tree_size_is slot index e heap =
      let u = used_index files s slot index e in
      let there : HasGrowing files (tree_file slot) =
      subst (λ (b : Bool). IsMatched files (tree_file slot) b) (heap_tree index heap)
      (subst (λ (o : Option Index). IsMatched files (tree_file slot) (is_tree o)) e ((its_files files size d s.catalog).trees slot u.below)) in
      let tree = subst (λ k. IsIndexComplete k (bytes_named (tree_file slot) files) (keys_stored files index)) heap (s.indexes slot u.below index e) in
      sizes_of (tree_file slot) (tree_size (keys_stored files index)) there (sized (bytes_named (tree_file slot) files) (keys_stored files index) tree)

  pub store_of : IsStoreOf (size_in files) (base_of files)
  store_of = record {
    short = λ slot r e. (sound_relation files s slot r e).schema.short;
    few = λ slot r e.
        let few = (sound_relation files s slot r e).slots in
        let most = limit_few (base_of files).version in
        omega (arith, few, most);
    rows = rows_size_is;
    trees = tree_size_is;
  }
