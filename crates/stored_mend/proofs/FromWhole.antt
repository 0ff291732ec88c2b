-- Files with a sound catalog and whole rows are sound but for trees.
use Rattle.std.proofs.Common.{◌≡◌, ◌≢◌, ⊎_elim, ℕ, ℤ, ◌<◌, List, get_or, Option, Some, None, ap, sym, subst, ◌∙◌, arith}
use Rattle.afl_base.specs.Files.{Table}
use Rattle.catalog.specs.declared.types.Catalog.{Catalog}
use Rattle.catalog.specs.CatalogFile.{indexes_in}
use Rattle.catalog.specs.Catalogs.{catalog_slots}
use Rattle.catalog.specs.Rules.{catalog_in}
use Rattle.db_model.specs.declared.schemas.IndexKind.TheVariants.{MaxHeap}
use Rattle.db_model.specs.declared.schemas.Schema.{Schema}
use Rattle.db_model.specs.Catalog.{Catalog as Slots, Index}
use Rattle.db_model.specs.Database.{Database}
use Rattle.db_model.specs.Step.{keys}
use Rattle.space_model.specs.Enough.{rows_in}
use Rattle.space_model.specs.FileNames.{bytes_named, rows_file, tree_file}
use Rattle.stored.specs.CutTables.{IsIndexWhile}
use Rattle.stored.specs.Sound.{IsIndexComplete, IsSoundTable}
use Rattle.stored.specs.declared.half.Half.{Half}
use Rattle.stored.proofs.MendedSound.{mended_of_unbroken, own_catalog}
use Rattle.stored_mend.specs.Complete.{HasCompleteIndexes, HasSlot, IsSoundButTrees}
use Rattle.stored_mend.specs.Stages.{HasWholeRelations}
use Rattle.tuple_file.specs.Tuples.{AreRows}

-- only an index with a tree may lack a key
complete_while : (half : Half) (index : Index) (bytes : List ℕ) (zs : List ℤ) → index.kind ≢ MaxHeap → IsIndexWhile half index bytes zs → IsIndexComplete index.kind bytes zs
complete_while half index bytes zs other while = ⊎_elim (λ complete. complete) (λ part. absurd (other part.0)) while

pub whole_sound : (files : Table) (half : Half) → HasWholeRelations files half → IsSoundButTrees files
whole_sound files half w =
    let sound = w.stage.catalog in
    let own = own_catalog files sound in
    record {
      catalog = sound;
      rows = λ slot below schema is.
          subst (λ (v : ℕ). AreRows v schema.attributes (bytes_named (rows_file slot) files)) own.version
          (w.rows slot schema (ap (λ (schemas : List (Option Schema)). get_or schemas slot None) own.relations ∙ is));
      treeless = λ slot index is other.
          subst (λ (db : Database). IsIndexComplete index.kind (bytes_named (tree_file slot) files) (keys index.attribute (rows_in db index.relation))) (mended_of_unbroken files sound)
          (complete_while half index (bytes_named (tree_file slot) files) _ other
          (w.stage.keys slot index (ap (λ (indexes : List (Option Index)). get_or indexes slot None) own.indexes ∙ is)));
    }

-- a catalog that was loaded has all slots
pub has_slots : (files : Table) (catalog : Catalog) → catalog_slots catalog ≡ catalog_in files → (j : ℕ) → HasSlot files catalog j
has_slots files catalog e j = record {
  relations = ap (λ (slots : Slots). slots.relations) e;
  index = ap (λ (slots : Slots). get_or slots.indexes j None) e;
}

pub none_complete : (files : Table) (catalog : Catalog) (half : Half) → catalog_slots catalog ≡ catalog_in files → HasWholeRelations files half → HasCompleteIndexes files catalog 0
none_complete files catalog half e w = record {
  sound = whole_sound files half w;
  first = λ j less. absurd (omega (arith, less));
  rest = λ j more. has_slots files catalog e j;
}

-- with all trees they are sound
pub all_complete : (files : Table) (catalog : Catalog) → HasCompleteIndexes files catalog 8 → IsSoundTable files
all_complete files catalog c = record { catalog = c.sound.catalog; rows = c.sound.rows; indexes = λ slot below. (c.first slot below).keeps }
