-- One slot of the catalog is put, and at most the file of the slot's rows comes or goes beside it.
use Rattle.std.proofs.Common.{◌≡◌, ◌≢◌, ℕ, ◌<◌, List, length, Option, Some, None, unwrap_or, true, ap, sym, ◌∙◌, subst, arith}
use Rattle.std.specs.Prelude.{option_map}
use Rattle.std.proofs.lemmas.Bool.Decides.{nat_tests}
use Rattle.afl_base.specs.declared.kind.Kind.TheVariants.{Doubling}
use Rattle.afl_base.specs.Files.{Becomes, Creates, File, IsNamed, IsUnnamed, KeepsBytes, Removes, State, Table, bytes_at, file_at, name_at, no_file, place}
use Rattle.afl_base.proofs.FileLaws.{named_live}
use Rattle.afl_base.proofs.FrameLaws.{becomes_spares}
use Rattle.catalog.specs.CatalogFile.{IsCatalogSize, PutsRelation}
use Rattle.catalog.specs.Rules.{is_of_database}
use Rattle.db_model.specs.declared.schemas.Schema.{Schema}
use Rattle.db_model.specs.Catalog.{with_relation_slot}
use Rattle.space_model.specs.FileNames.{catalog_file, rows_file}
use Rattle.session_model.specs.Frames.{HasBytes}
use Rattle.session_model.specs.Running.{HasCatalogFile}
use Rattle.session_model.proofs.Leaves.{leaves_becomes, leaves_creates, leaves_removes, leaves_then}
use Rattle.session_model.proofs.Running.{catalog_no_rows, differ}
use Rattle.session_relations.specs.Changes.{PutsSlot}
use Rattle.session_model.proofs.Catalogs.{named_at}

-- the file of a slot's rows is one of the database
pub rows_known : (slot : ℕ) → slot < 8 → is_of_database (rows_file slot) Doubling ≡ true
rows_known slot h = grind (arith, nat_tests)

-- the catalog's file keeps its name
still_named : (a b : State) (cat total : ℕ) (told n : List ℕ) → IsNamed a.files cat n → Becomes a b cat total told → IsNamed b.files cat n
still_named a b cat total told n named u = (becomes_spares a b cat total told (named_live a.files cat n named) u).named cat ∙ named

has_bytes : (a b : State) (cat slot : ℕ) (schema : Option Schema) → HasCatalogFile a.files (Some cat) → PutsRelation a b cat slot schema
    → HasBytes a b cat (with_relation_slot (bytes_at a.files cat) slot schema)
has_bytes a b cat slot schema has u = record {
  named = still_named a b cat _ _ catalog_file has.0 u;
  kind = u.kind ∙ has.2;
  size = u.size;
  bytes = u.bytes;
}

-- another file keeps its name
pub still_named_beside : (a b : State) (cat id total : ℕ) (told n : List ℕ) → IsNamed a.files cat catalog_file → IsNamed a.files id n → Becomes a b cat total told → IsNamed b.files id n
still_named_beside a b cat id total told n has named u = (becomes_spares a b cat total told (named_live a.files cat catalog_file has) u).named id ∙ named

-- the slot was put, and no file came or went
pub slot_put : (a b : State) (cat slot : ℕ) (schema : Option Schema) → a.draft ≡ None → HasCatalogFile a.files (Some cat) → PutsRelation a b cat slot schema → PutsSlot a b cat slot schema
slot_put a b cat slot schema idle has u = record {
  leaves = leaves_becomes a b cat _ _ (rows_file slot) has.0 u;
  bytes = has_bytes a b cat slot schema has u;
  idle = u.draft ∙ idle;
}

-- a place without a file is not that of a name
pub not_free : (files : Table) (id free : ℕ) (n : List ℕ) → IsNamed files id n → place files free ≡ None → id ≢ free
not_free files id free n named none e =
    let gone : name_at files free ≡ None = ap (option_map (λ (f : File). f.name)) none in
    none_some n (sym gone ∙ ap (name_at files) (sym e) ∙ named)
  where
    none_some : (m : List ℕ) → None ≡ Some m → ⊥
    none_some m is = cc

-- a file that stays where the catalog's slot is put
bytes_put : (a b c : State) (cat slot : ℕ) (schema : Option Schema) → place b.files cat ≡ place a.files cat → b.tells ≡ a.tells → HasCatalogFile a.files (Some cat)
    → PutsRelation b c cat slot schema → HasBytes a c cat (with_relation_slot (bytes_at a.files cat) slot schema)
bytes_put a b c cat slot schema same tells has u =
    let file : file_at b.files cat ≡ file_at a.files cat = ap (λ (o : Option File). unwrap_or o no_file) same in
    record {
      named = still_named b c cat _ _ catalog_file (named_at a.files b.files cat catalog_file same has.0) u;
      kind = u.kind ∙ ap (λ (f : File). f.kind) file ∙ has.2;
      size = u.size;
      bytes = λ told. u.bytes (tells ∙ told) ∙ ap (λ (f : File). with_relation_slot f.bytes slot schema) file;
    }

-- the file of the rows was made, and then the slot was put
pub slot_made : (a b c : State) (cat slot file : ℕ) (schema : Option Schema) → slot < 8 → a.draft ≡ None → HasCatalogFile a.files (Some cat) → IsUnnamed a.files (rows_file slot)
    → Creates a b file (rows_file slot) Doubling → PutsRelation b c cat slot schema → PutsSlot a c cat slot schema
slot_made a b c cat slot file schema below idle has none u v =
    let name : List ℕ = rows_file slot in
    let same : place b.files cat ≡ place a.files cat = u.others cat (not_free a.files cat file catalog_file has.0 u.free) in
    record {
      leaves = leaves_then a b c name (leaves_creates a b file name Doubling none (rows_known slot below) u)
          (leaves_becomes b c cat _ _ name (named_at a.files b.files cat catalog_file same has.0) v);
      bytes = bytes_put a b c cat slot schema same u.tells has v;
      idle = v.draft ∙ u.draft ∙ idle;
    }

-- the slot was put, and then the file of its rows was taken away
pub slot_gone : (a b c : State) (cat slot file : ℕ) (schema : Option Schema) → a.draft ≡ None → HasCatalogFile a.files (Some cat) → IsNamed a.files file (rows_file slot)
    → PutsRelation a b cat slot schema → Removes b c file → PutsSlot a c cat slot schema
slot_gone a b c cat slot file schema idle has named u v =
    let name : List ℕ = rows_file slot in
    let still : IsNamed b.files file name = still_named_beside a b cat file _ _ name has.0 named u in
    let put = has_bytes a b cat slot schema has u in
    let same : place c.files cat ≡ place b.files cat = v.others cat (differ b.files cat file catalog_file name put.named still (catalog_no_rows slot)) in
    record {
      leaves = leaves_then a b c name (leaves_becomes a b cat _ _ name has.0 u) (leaves_removes b c file name still v);
      bytes = record {
        named = named_at b.files c.files cat catalog_file same put.named;
        kind = ap (λ (o : Option File). (unwrap_or o no_file).kind) same ∙ put.kind;
        size = ap (λ (o : Option File). length (unwrap_or o no_file).bytes) same ∙ put.size;
        bytes = λ told. ap (λ (o : Option File). (unwrap_or o no_file).bytes) same ∙ put.bytes told;
      };
      idle = v.draft ∙ u.draft ∙ idle;
    }

-- room was made before
pub prepared_put : (a b c : State) (cat slot : ℕ) (schema : Option Schema) → KeepsBytes a b cat → HasCatalogFile a.files (Some cat) → PutsSlot b c cat slot schema → PutsSlot a c cat slot schema
prepared_put a b c cat slot schema u has v = record {
  leaves = leaves_then a b c (rows_file slot) (leaves_becomes a b cat _ _ (rows_file slot) has.0 u) v.leaves;
  bytes = record {
    named = v.bytes.named;
    kind = v.bytes.kind;
    size = v.bytes.size;
    bytes = λ told. v.bytes.bytes (u.tells ∙ told) ∙ ap (λ (xs : List ℕ). with_relation_slot xs slot schema) (u.bytes told);
  };
  idle = v.idle;
}

-- the catalog is one still
pub prepared_catalog : (a b : State) (cat : ℕ) → KeepsBytes a b cat → HasCatalogFile a.files (Some cat) → HasCatalogFile b.files (Some cat)
prepared_catalog a b cat u has = (still_named a b cat _ _ catalog_file has.0 u, subst IsCatalogSize (sym u.size) has.1, u.kind ∙ has.2)
