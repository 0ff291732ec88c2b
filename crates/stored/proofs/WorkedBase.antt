-- A worked table of files: it is sound, and its database is the one that its bytes were written for.
use Rattle.std.proofs.Common.{◌≡◌, refl, pos, [], ◌∷◌, List, Some, None, true}
use Rattle.std.specs.Prelude.{codes, replicate}
use Rattle.afl_base.specs.Files.{Table}
use Rattle.afl_base.specs.declared.kind.Kind.TheVariants.{Doubling, Fixed}
use Rattle.db_model.specs.declared.schemas.Attribute.{Attribute}
use Rattle.db_model.specs.declared.schemas.Domain.TheVariants.{Int}
use Rattle.db_model.specs.declared.schemas.IndexKind.TheVariants.{Inline}
use Rattle.db_model.specs.declared.values.Value.TheVariants.{Number}
use Rattle.db_model.specs.Catalog.{Catalog, catalog_bytes}
use Rattle.db_model.specs.Keywords.{keyword_of, keywords}
use Rattle.db_model.specs.Row.{Row, rows_bytes}
use Rattle.space_model.specs.FileNames.{catalog_file, rows_file}
use Rattle.stored.specs.Base.{base_of}
use Rattle.catalog.specs.Rules.{first, first_broken, broken_catalog, breaks_relation, breaks_index, breaks_files}

abbrev v : Attribute
v = record { name = codes "v"; domain = Int }

abbrev one_relation : Catalog
one_relation = record {
  version = 2;
  relations = Some (record { name = codes "n"; attributes = v ∷ [] }) ∷ replicate 7 None;
  indexes = Some (record { kind = Inline; relation = 0; attribute = 0 }) ∷ replicate 7 None;
}

abbrev rows : List Row
rows = record { tuple = Number (pos 7) ∷ []; live = true } ∷ record { tuple = Number (pos 8) ∷ []; live = true } ∷ []

abbrev small : Table
small =
    Some (record { name = rows_file 0; kind = Doubling; bytes = rows_bytes (v ∷ []) rows; records = 0; room = 0 })
    ∷ None
    ∷ Some (record { name = catalog_file; kind = Fixed 6; bytes = catalog_bytes one_relation; records = 0; room = 0 })
    ∷ []

pub small_base : base_of small ≡ record {
  version = 2;
  relations = Some (record { schema = record { name = codes "n"; attributes = v ∷ [] }; rows = rows }) ∷ replicate 7 None;
  indexes = Some (record { kind = Inline; relation = 0; attribute = 0 }) ∷ replicate 7 None;
  cursors = replicate 4 None;
}
small_base = refl

pub small_sound : first_broken small ≡ None
unfolding first first_broken broken_catalog breaks_relation breaks_index breaks_files keyword_of keywords
small_sound = refl
