-- Files that are left where the repair of rows is interrupted: a cut can have left them, and they mend to the same rows, or filled ones.
use Rattle.std.proofs.Common.{◌≡◌, ◌≢◌, ◌⊎◌, inl, inr, ⊎_elim, ℕ, ◌<◌, ◌≤◌, List, get_or, Some, None, IsTrue, refl, ap, sym, subst, ◌∙◌, arith}
use Rattle.std.specs.Prelude.{⊤}
use Rattle.std.proofs.lemmas.Bool.{cases_eq, cases_lt}
use Rattle.afl_base.specs.CutFiles.{MendsToEither, MendsToState}
use Rattle.afl_base.specs.Files.{State, Table, bytes_at}
use Rattle.catalog.specs.Rules.{catalog_in}
use Rattle.db_model.specs.declared.schemas.Schema.{Schema}
use Rattle.db_model.specs.Catalog.{Catalog}
use Rattle.db_model.specs.Database.{Database}
use Rattle.db_model.specs.Row.{rows_of}
use Rattle.db_model.specs.Step.{keys}
use Rattle.space_model.specs.Enough.{rows_in}
use Rattle.space_model.specs.FileNames.{bytes_named, rows_file, tree_file}
use Rattle.stored.specs.CutTables.{HoldsRowsOr, IsCutTable, IsIndexWhile, relation}
use Rattle.stored.specs.Mended.{mended_base, mended_catalog}
use Rattle.stored.specs.Mends.{MendsToDatabase}
use Rattle.stored.specs.declared.half.Half.{Half}
use Rattle.stored_mend.specs.Filled.{FillsIn, IsFilled, IsFilledIn}
use Rattle.stored_mend.specs.Interrupted.{IsCutState}
use Rattle.stored_mend.specs.Rows.{ChangesOne, whole_rows}
use Rattle.stored_mend.specs.RowsCut.{HasPartStill, MayMendRows, MendsOneFile}
use Rattle.stored_mend.specs.Stages.{IsCatalogSound}
use Rattle.stored_mend.specs.Whole.{HasRowsBelow}
use Rattle.stored_mend.proofs.FilledBase.{filled_then, fills_rows, same_filled}
use Rattle.stored_mend.proofs.KeptBase.{bytes_stay, rows_keep, whole_rows_same}
use Rattle.stored_mend.proofs.OneFile.{same_rows_slot, tree_no_rows}
use Rattle.stored_mend.proofs.SoundCatalog.{catalog_kept, rules_kept, slot_read, stranger_kept}
use Rattle.stored_mend.proofs.StageCut.{stage_cut}
use Rattle.stored_mend.proofs.WholeRows.{bytes_before, bytes_now, mended_below, part_adding}
use Rattle.tuple_file.specs.Tuples.{AreRows}

-- ---- a relation whose rows are as before, and a part of a row behind them

module _ (old new : State) (k : ℕ) (schema : Schema) (half : Half) (c : ChangesOne old new (rows_file k)) (is : relation old.files k ≡ Some schema) (s : IsCatalogSound old.files half)
    (base : mended_base new.files ≡ mended_base old.files) (held : HoldsRowsOr half (mended_catalog old.files).version k schema.attributes (bytes_named (rows_file k) new.files)) where
  same_version : (mended_catalog old.files).version ≡ (mended_catalog new.files).version
  same_version = ap (λ (cat : Catalog). cat.version) (sym (catalog_kept old new k c))

  same_relation : (j : ℕ) (x : Schema) → relation new.files j ≡ Some x → relation old.files j ≡ Some x
  same_relation j x e = ap (λ (cat : Catalog). get_or cat.relations j None) (sym (catalog_kept old new k c)) ∙ e

  holds : (j : ℕ) (x : Schema) → relation old.files j ≡ Some x → HoldsRowsOr half (mended_catalog old.files).version j x.attributes (bytes_named (rows_file j) new.files)
  holds j x r = ⊎_elim
      (λ (e : j ≡ k).
      let same : Some schema ≡ Some x = sym is ∙ ap (relation old.files) (sym e) ∙ r in
      let own : schema ≡ x = cc in
      subst (λ (m : ℕ). HoldsRowsOr half (mended_catalog old.files).version m x.attributes (bytes_named (rows_file m) new.files)) (sym e)
      (subst (λ (y : Schema). HoldsRowsOr half (mended_catalog old.files).version k y.attributes (bytes_named (rows_file k) new.files)) own held))
      (λ (differs : j ≢ k). subst (HoldsRowsOr half (mended_catalog old.files).version j x.attributes) (sym (bytes_stay old new (rows_file k) (rows_file j) c (λ e. differs (same_rows_slot j k e)))) (s.rows j x r))
      (cases_eq j k)

  stage_stays : IsCatalogSound new.files half
  stage_stays = record {
    known = λ id. stranger_kept old new k c id ∙ s.known id;
    catalog = rules_kept old new k c s.catalog;
    rows = λ j x e. subst (λ (v : ℕ). HoldsRowsOr half v j x.attributes (bytes_named (rows_file j) new.files)) same_version (holds j x (same_relation j x e));
    keys = λ i index e.
        let tree : bytes_named (tree_file i) new.files ≡ bytes_named (tree_file i) old.files = bytes_stay old new (rows_file k) (tree_file i) c (tree_no_rows i k) in
        subst (λ (db : Database). IsIndexWhile half index (bytes_named (tree_file i) new.files) (keys index.attribute (rows_in db index.relation))) (sym base)
        (subst (λ (bytes : List ℕ). IsIndexWhile half index bytes (keys index.attribute (rows_in (mended_base old.files) index.relation))) (sym tree)
        (s.keys i index (ap (λ (cat : Catalog). get_or cat.indexes i None) (sym (catalog_kept old new k c)) ∙ e)));
  }

-- ---- one relation

-- a cut can have left these files, and they mend to the same rows, or filled ones
record LeavesRows (slot : ℕ) (old new : Table) : Type 0 where
  cut : IsCutTable new
  is : IsFilledIn (λ k. k ≡ slot) (mended_base old) (mended_base new)

module _ (catalog : Catalog) (old : State) (k : ℕ) (schema : Schema) (told : IsTrue old.tells) (listed : catalog ≡ catalog_in old.files) (is : relation old.files k ≡ Some schema) (half : Half) (below : HasRowsBelow old.files k half) where
  abbrev stage : IsCatalogSound old.files half
  stage = below.stage

  -- nothing was done
  leaves_old : LeavesRows k old.files old.files
  leaves_old = record { cut = stage_cut old.files half stage; is = same_filled (λ j. j ≡ k) (mended_base old.files) (mended_base old.files) refl }

  leaves_part : (new : State) → HasPartStill k schema.attributes old new → LeavesRows k old.files new.files
  leaves_part new p =
      let before = bytes_before old k p.file p.is in
      let now = bytes_now old new k p.others p.file p.is in
      let rows : rows_of schema.attributes (bytes_named (rows_file k) new.files) ≡ rows_of schema.attributes (bytes_named (rows_file k) old.files) =
      ap (rows_of schema.attributes) now ∙ sym (whole_rows_same schema.attributes (bytes_at new.files p.file)) ∙ ap (rows_of schema.attributes) p.whole
      ∙ whole_rows_same schema.attributes (bytes_at old.files p.file) ∙ ap (rows_of schema.attributes) (sym before) in
      let base : mended_base new.files ≡ mended_base old.files = rows_keep old new k schema p.others is rows in
      let adding = part_adding old k schema half is stage p.file p.is p.part in
      let held : HoldsRowsOr half (mended_catalog old.files).version k schema.attributes (bytes_named (rows_file k) new.files) =
      inr (
        adding.0,
        subst (λ (bytes : List ℕ). AreRows (mended_catalog old.files).version schema.attributes (whole_rows schema.attributes bytes)) (sym now)
            (subst (AreRows (mended_catalog old.files).version schema.attributes) (sym p.whole) adding.1),
      ) in
      record {
        cut = stage_cut new.files half (stage_stays old new k schema half p.others is stage base held);
        is = same_filled (λ j. j ≡ k) (mended_base old.files) (mended_base new.files) base;
      }

  leaves_mended : (new : State) → MendsOneFile catalog k schema.attributes old new → LeavesRows k old.files new.files
  leaves_mended new m =
      let at = slot_read old.files stage.catalog k schema is in
      let fills = (fills_rows old new k schema at.below m.others (λ t. is) (λ t. m.rows)).base told in
      let r = mended_below catalog old new k schema half listed m.others fills is below m.mended in
      record { cut = stage_cut new.files r.0 r.1.stage; is = fills }

  leaves_may : (new : State) → MayMendRows catalog k schema.attributes old new → LeavesRows k old.files new.files
  leaves_may new m = ⊎_elim (leaves_mended new) (leaves_part new) m

  -- a storage that mends to such files
  pub rows_cut : {mends : List ℕ → Table → Type 0} {store : List ℕ} → MendsToEither mends old.files store (λ after. MayMendRows catalog k schema.attributes old after)
      → MendsToDatabase mends store (λ db. IsFilledIn (λ j. j ≡ k) (mended_base old.files) db)
  rows_cut {mends} {store} m = ⊎_elim
      (λ (before : mends store old.files). record { files = old.files; mends_to = before; cut = leaves_old.cut; is = leaves_old.is })
      (λ (after : MendsToState mends store (λ s. MayMendRows catalog k schema.attributes old s)).
      let l = leaves_may after.after after.is in record { files = after.after.files; mends_to = after.mends_to; cut = l.cut; is = l.is })
      m

  -- pages are lacking
  pub rows_space : (new : State) → old.draft ≡ None → HasPartStill k schema.attributes old new → IsCutState new (λ db. IsFilledIn (λ j. j ≡ k) (mended_base old.files) db)
  rows_space new idle p = let l = leaves_part new p in record { tells = p.others.tells ∙ told; idle = p.others.draft ∙ idle; cut = l.cut; is = l.is }

-- ---- one relation after another

pub filled_all : (a b : State) (n : ℕ) → FillsIn (λ k. k < n) a b → IsTrue a.tells → (db : Database) → IsFilledIn (λ k. k ≡ n) (mended_base b.files) db → IsFilled (mended_base a.files) db
filled_all a b n f told db g =
    filled_then (λ k. k < n) (λ k. k ≡ n) (λ k. ⊤) (mended_base a.files) (mended_base b.files) db (f.base told) g
    (λ k. ⊎_elim (λ (less : k < n). inr (λ e. absurd (omega (arith, less, e)))) (λ (more : n ≤ k). inl (λ less. absurd (omega (arith, less, more)))) (cases_lt k n))
    (λ k never. absurd (never tt))
