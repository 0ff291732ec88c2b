-- What a command on relations leaves of files where it was cut off.
use Rattle.std.proofs.Common.{◌≡◌, ◌≢◌, ℕ, ◌*◌, ◌<◌, inl, inr, List, [], length, Option, Some, None, unwrap_or, refl, ap, sym, ◌∙◌, subst, IsTrue}
use Rattle.std.specs.Prelude.{option_map}
use Rattle.std.proofs.Math.Logic.{⊎_elim}
use Rattle.std.proofs.lemmas.Bool.{cases_eq}
use Rattle.afl_base.specs.declared.kind.Kind.TheVariants.{Doubling}
use Rattle.afl_base.specs.Files.{Creates, File, IsNamed, IsUnnamed, KeepsBytes, Removes, State, bytes_at, new_file, no_file, place}
use Rattle.afl_base.proofs.FileLaws.{file_here, named_live}
use Rattle.afl_base.proofs.FrameLaws.{becomes_spares, spares_same, spares_then}
use Rattle.catalog.specs.CatalogFile.{IsCatalogSize, PutsRelation, ReplacesFront}
use Rattle.db_model.specs.declared.schemas.Schema.{Schema}
use Rattle.db_model.specs.Catalog.{relation_slot_bytes}
use Rattle.space_model.specs.FileNames.{catalog_file, rows_file}
use Rattle.stored.proofs.CatalogParts.{replaces_nothing}
use Rattle.stored.proofs.SoundCut.{named_there}
use Rattle.session_model.specs.Running.{HasCatalogFile}
use Rattle.session_model.proofs.Catalogs.{named_at}
use Rattle.session_model.proofs.CutCatalogs.{leaves_spares}
use Rattle.session_model.proofs.Leaves.{leaves_becomes, leaves_creates, leaves_same, leaves_then}
use Rattle.session_model.proofs.Running.{catalog_no_rows, differ}
use Rattle.session_relations.specs.Changes.{MayMakeSlot, MayPutSlot, MayTakeSlot}
use Rattle.session_relations.proofs.Slots.{not_free, prepared_catalog, prepared_put, rows_known, slot_gone, slot_put, still_named_beside}

-- ---- a slot of the catalog is put

-- nothing has changed
pub put_nothing : (a : State) (cat slot : ℕ) (o : Option Schema) → HasCatalogFile a.files (Some cat) → MayPutSlot a a cat slot o
put_nothing a cat slot o has = (spares_same a (λ k. k ≢ cat), replaces_nothing (bytes_at a.files cat) (176 * slot) (relation_slot_bytes o) has.1)

-- room was made before
pub put_behind : (a b c : State) (cat slot : ℕ) (o : Option Schema) → IsTrue a.tells → HasCatalogFile a.files (Some cat) → KeepsBytes a b cat → MayPutSlot b c cat slot o → MayPutSlot a c cat slot o
put_behind a b c cat slot o told has u w = (
  spares_then a b c (λ k. k ≢ cat) (λ k. k ≢ cat) (λ k. k ≢ cat) (becomes_spares a b cat _ _ (named_live a.files cat catalog_file has.0) u) w.0 (λ k other. (other, other)),
  subst (λ (bytes : List ℕ). ReplacesFront bytes (176 * slot) (relation_slot_bytes o) (bytes_at c.files cat)) (u.bytes told) w.1,
)

-- ---- the slot of a new relation

module _ (a : State) (cat slot : ℕ) (schema : Schema) (told : IsTrue a.tells) (below : slot < 8) (has : HasCatalogFile a.files (Some cat)) (none : IsUnnamed a.files (rows_file slot)) where
  -- room was made at most
  pub make_room : (b : State) → KeepsBytes a b cat → MayMakeSlot a b cat slot schema
  make_room b u =
      let now = prepared_catalog a b cat u has in
      record {
        leaves = leaves_becomes a b cat _ _ (rows_file slot) has.0 u;
        named = now.0;
        bytes = subst (λ (bytes : List ℕ). ReplacesFront bytes (176 * slot) (relation_slot_bytes (Some schema)) (bytes_at b.files cat)) (u.bytes told)
            (replaces_nothing (bytes_at b.files cat) (176 * slot) (relation_slot_bytes (Some schema)) now.1);
        empty = λ id is. absurd (u.names (rows_file slot) none id is);
        there = inl (u.bytes told);
      }

  pub make_nothing : MayMakeSlot a a cat slot schema
  make_nothing = record {
    leaves = leaves_same a a (rows_file slot) refl refl;
    named = has.0;
    bytes = replaces_nothing (bytes_at a.files cat) (176 * slot) (relation_slot_bytes (Some schema)) has.1;
    empty = λ id is. absurd (none id is);
    there = inl refl;
  }

  module _ (b c : State) (file : ℕ) (u : KeepsBytes a b cat) (v : Creates b c file (rows_file slot) Doubling) where
    had : HasCatalogFile b.files (Some cat)
    had = prepared_catalog a b cat u has

    missing : IsUnnamed b.files (rows_file slot)
    missing = u.names (rows_file slot) none

    same : place c.files cat ≡ place b.files cat
    same = v.others cat (not_free b.files cat file catalog_file had.0 v.free)

    has_still : HasCatalogFile c.files (Some cat)
    has_still = (
      named_at b.files c.files cat catalog_file same had.0,
      subst IsCatalogSize (sym (ap (λ (o : Option File). length (unwrap_or o no_file).bytes) same)) had.1,
      ap (λ (o : Option File). (unwrap_or o no_file).kind) same ∙ had.2,
    )

    -- a file of that name has no bytes
    no_rows : (id : ℕ) → IsNamed c.files id (rows_file slot) → bytes_at c.files id ≡ []
    no_rows id is = ⊎_elim
        (λ (here : id ≡ file). ap (bytes_at c.files) here ∙ ap (λ (f : File). f.bytes) (file_here c.files file (new_file (rows_file slot) Doubling) v.file))
        (λ (other : id ≢ file). absurd (missing id (named_at c.files b.files id (rows_file slot) (sym (v.others id other)) is)))
        (cases_eq id file)

    -- the file was made, and then the slot was being put
    pub make_part : (d : State) → MayPutSlot c d cat slot (Some schema) → MayMakeSlot a d cat slot schema
    make_part d w =
        let bytes : bytes_at c.files cat ≡ bytes_at a.files cat = ap (λ (o : Option File). (unwrap_or o no_file).bytes) same ∙ u.bytes told in
        record {
          leaves = leaves_then a b d (rows_file slot) (leaves_becomes a b cat _ _ (rows_file slot) has.0 u)
              (leaves_then b c d (rows_file slot) (leaves_creates b c file (rows_file slot) Doubling missing (rows_known slot below) v) (leaves_spares c d cat (rows_file slot) has_still.0 w.0));
          named = w.0.named cat ∙ has_still.0;
          bytes = subst (λ (xs : List ℕ). ReplacesFront xs (176 * slot) (relation_slot_bytes (Some schema)) (bytes_at d.files cat)) bytes w.1;
          empty = λ id is.
              let was : IsNamed c.files id (rows_file slot) = sym (w.0.named id) ∙ is in
              ap (λ (o : Option File). (unwrap_or o no_file).bytes) (w.0.others id (differ c.files id cat (rows_file slot) catalog_file was has_still.0 (λ e. catalog_no_rows slot (sym e))))
              ∙ no_rows id was;
          there = inr (named_there d.files file (rows_file slot) (w.0.named file ∙ ap (option_map (λ (f : File). f.name)) v.file));
        }

    -- the file was made
    pub make_file : MayMakeSlot a c cat slot schema
    make_file = make_part c (put_nothing c cat slot (Some schema) has_still)

-- ---- a slot that is emptied, and the file of its rows

module _ (a b c : State) (cat slot file : ℕ) (idle : a.draft ≡ None) (has : HasCatalogFile a.files (Some cat)) (u : KeepsBytes a b cat) (v : PutsRelation b c cat slot None) where
  -- the slot is empty
  pub take_slot : MayTakeSlot a c cat slot
  take_slot = inr (prepared_put a b c cat slot None u has (slot_put b c cat slot None (u.draft ∙ idle) (prepared_catalog a b cat u has) v))

  -- and the file is gone
  pub take_file : (d : State) → IsNamed a.files file (rows_file slot) → Removes c d file → MayTakeSlot a d cat slot
  take_file d named w =
      inr (prepared_put a b d cat slot None u has
      (slot_gone b c d cat slot file None (u.draft ∙ idle) (prepared_catalog a b cat u has) (still_named_beside a b cat file _ _ (rows_file slot) has.0 named u) v w))
