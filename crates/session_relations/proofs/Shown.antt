-- A session goes on where the catalog changes, and what is seen of it.
use Rattle.std.proofs.Common.{◌≡◌, ℕ, List, Option, Some, None, refl, ap, sym, ◌∙◌, subst, IsTrue}
use Rattle.std.specs.Prelude.{option_map}
use Rattle.afl_base.specs.declared.kind.Kind.TheVariants.{Fixed}
use Rattle.afl_base.specs.Files.{Creates, Keeps, KeepsBytes, State, Table}
use Rattle.db_model.specs.Database.{Database}
use Rattle.index_set.specs.Tables.{Tables}
use Rattle.space_model.specs.FileNames.{catalog_file}
use Rattle.tuple_file.specs.declared.tuples.Tuples.{Tuples}
use Rattle.session_model.specs.declared.held.Held.{Held}
use Rattle.session_model.specs.declared.held.Open.{Open}
use Rattle.session_model.specs.Frames.{with_tuples}
use Rattle.session_model.specs.Running.{HasCatalogFile, IsRunning, bytes_of_catalog}
use Rattle.session_model.specs.View.{relation_of_rows, view}
use Rattle.session_model.proofs.Aheads.{catalog_aheads, relation_aheads}
use Rattle.session_model.proofs.Catalogs.{RelationChanges, catalog_kept, catalog_there, catalog_view, made_running, made_view, relation_running, relation_view, room_running, room_view, with_catalog}
use Rattle.session_model.proofs.Leaves.{leaves_becomes, leaves_catalog, leaves_same}
use Rattle.session_relations.specs.Changes.{Shows, changed_at}

module _ (old new : State) (tables : Tables) (held : Held) (opens : List (Option Open)) (r : IsRunning old tables held opens) where
  -- no file has changed
  pub shows_kept : Keeps old new → Shows old new tables held opens (view old.files held opens)
  shows_kept u =
      let l = leaves_same old new catalog_file u.files u.tells in
      let idle : new.draft ≡ None = u.draft ∙ r.idle in
      let P : Table → Type 0 = λ files. HasCatalogFile files held.cat in
      let has : HasCatalogFile new.files held.cat = subst P (sym u.files) r.catalog in
      let same = λ (told : IsTrue old.tells). ap (λ (files : Table). bytes_of_catalog files held.cat) u.files in
      record {
        running = catalog_kept old new tables held held opens r l idle refl refl refl has same;
        aheads = λ told. catalog_aheads old new tables held opens r l told;
        tells = u.tells;
        seen = λ told. catalog_view old new tables held held opens r l idle refl refl refl has same told;
      }

  -- room was made in the catalog
  pub shows_room : (cat : ℕ) → held.cat ≡ Some cat → KeepsBytes old new cat → Shows old new tables held opens (view old.files held opens)
  shows_room cat has u = record {
    running = room_running old new tables held opens r cat has u;
    aheads = λ told. catalog_aheads old new tables held opens r (leaves_becomes old new cat _ _ catalog_file ((catalog_there old tables held opens cat r has).0) u) told;
    tells = u.tells;
    seen = λ told. room_view old new tables held opens r cat has u told;
  }

  -- an empty catalog was made
  pub shows_made : (cat : ℕ) → held.cat ≡ None → Creates old new cat catalog_file (Fixed 6) → Shows old new tables (with_catalog held cat) opens (view old.files held opens)
  shows_made cat none u =
      let P : Option ℕ → Type 0 = λ o. HasCatalogFile old.files o in
      record {
        running = made_running old new tables held opens r none cat u;
        aheads = λ told. catalog_aheads old new tables held opens r (leaves_catalog old new cat catalog_file (subst P none r.catalog) u) told;
        tells = u.tells;
        seen = λ told. made_view old new tables held opens r none cat u told;
      }

  -- a relation has come, or gone
  pub shows_changed : (k : ℕ) (t : Option Tuples) (cat : ℕ) → RelationChanges old new tables held opens k t cat
      → Shows old new tables (with_tuples held k t) opens (changed_at (view old.files held opens) k (option_map (relation_of_rows new.files) t))
  shows_changed k t cat u = record {
    running = relation_running old new tables held opens k t cat r u;
    aheads = λ told. relation_aheads old new tables held opens k t cat r u told;
    tells = u.leaves.tells;
    seen = λ told. relation_view old new tables held opens k t cat r u told;
  }

-- one change after the other
pub shows_then : (a b c : State) (tables : Tables) (first last : Held) (opens : List (Option Open)) (db : Database) (change : Database → Database)
    → Shows a b tables first opens db → Shows b c tables last opens (change (view b.files first opens)) → Shows a c tables last opens (change db)
shows_then a b c tables first last opens db change u v = record {
  running = v.running;
  aheads = λ told. v.aheads (u.tells ∙ told) ∙ u.aheads told;
  tells = v.tells ∙ u.tells;
  seen = λ told. v.seen (u.tells ∙ told) ∙ ap change (u.seen told);
}
