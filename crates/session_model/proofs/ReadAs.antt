-- The database that files mend to is the one that is held, but for its version.
use Rattle.std.proofs.Common.{◌≡◌, ℕ, suc, ◌<◌, inl, true, List, [], ◌∷◌, length, map, get_or, replicate, Option, Some, None, refl, ap, sym, subst, ◌∙◌, arith, IsTrue}
use Rattle.std.specs.Prelude.{is_some, option_map}
use Rattle.std.specs.List.{range_with_len}
use Rattle.std.proofs.lemmas.List.{get_or-map}
use Rattle.afl_base.specs.declared.files.Files.{Ghosts as FilesOf}
use Rattle.afl_base.specs.Files.{File, IsNamed, State, Table, file_at, name_at}
use Rattle.afl_base.specs.Frames.{SparesOthers}
use Rattle.afl_base.proofs.FileLaws.{named_live, place_live}
use Rattle.catalog.specs.CatalogFile.{IsCatalogSize}
use Rattle.catalog.specs.Rules.{catalog_bytes_in, is_tree}
use Rattle.catalog.proofs.Named.{named_found, named_none}
use Rattle.db_model.specs.declared.commands.Command.{Command}
use Rattle.db_model.specs.declared.schemas.Schema.{Schema}
use Rattle.db_model.specs.Between.{AreAlike}
use Rattle.db_model.specs.Catalog.{Catalog, Index, catalog_of}
use Rattle.db_model.specs.Database.{Database, bare, with_relation}
use Rattle.db_model.specs.Row.{Row, rows_of}
use Rattle.index_set.specs.declared.info.Access.{Access}
use Rattle.index_set.specs.declared.info.Access.TheVariants.{Order, Tree, Table as InTable}
use Rattle.index_set.specs.Plans.{access_kind}
use Rattle.index_set.specs.Tables.{Tables}
use Rattle.space_model.specs.FileNames.{bytes_in_file, bytes_named, catalog_file, file_named, is_there, rows_file, tree_file}
use Rattle.stored.specs.Base.{relation_stored}
use Rattle.stored.proofs.MendedBase.{index_stands, whole_sized}
use Rattle.stored.specs.Mended.{mended_base, mended_catalog, mended_version, standing, whole_bytes, whole_catalog}
use Rattle.tuple_file.specs.declared.tuples.Tuples.{Tuples}
use Rattle.tuple_file.specs.Tuples.{rows}
use Rattle.session_model.specs.declared.base.Base.{Base}
use Rattle.session_model.specs.declared.held.Held.{Held}
use Rattle.session_model.specs.declared.held.Indexed.{Indexed}
use Rattle.session_model.specs.declared.held.Open.{Open}
use Rattle.session_model.specs.Carried.{MendsBetween, Runs, Tells, database}
use Rattle.session_model.specs.Frames.{StaysAt, schema_in}
use Rattle.session_model.specs.Indexed.{index_known, infos_of}
use Rattle.session_model.specs.ReadAs.{AreReadAs}
use Rattle.session_model.specs.Running.{HasCatalogFile, HasFile, IsRunning, bytes_of_catalog}
use Rattle.session_model.specs.View.{relation_of_file, relation_of_rows, view}
use Rattle.session_model.proofs.Running.{bytes_by, cat_stays, index_there, relation_there, rows_stay}
use Rattle.session_model.proofs.Sound.{listed_by}
use Rattle.session_model.proofs.Views.{OneChanges, view_set}

-- ---- read anew

pub mapped_length : {A B : Type 0} (f : A → B) (xs : List A) → length (map f xs) ≡ length xs
mapped_length f [] = refl
mapped_length f (x ∷ xs) = ap suc (mapped_length f xs)

module _ (files : Table) (held : Held) (r : AreReadAs files held) where
  one_relation : (j : ℕ) (o : Option Tuples) → get_or held.relations j None ≡ o
      → option_map (λ (schema : Schema). record { schema = schema; rows = rows_of schema.attributes (bytes_named (rows_file j) files) }) (option_map schema_in o) ≡ option_map (relation_of_rows files) o
  one_relation j None e = refl
  one_relation j (Some t) e = ap (λ (bytes : List ℕ). Some (record { schema = t.schema; rows = rows_of t.schema.attributes bytes })) (r.rows j t e)

  relations_are : map (relation_stored files (map (option_map schema_in) held.relations)) (range_with_len 0 8) ≡ map (option_map (relation_of_rows files)) held.relations
  relations_are =
      listed_by (relation_stored files (map (option_map schema_in) held.relations)) (map (option_map (relation_of_rows files)) held.relations) 8 None (mapped_length (option_map (relation_of_rows files)) held.relations ∙ r.eight)
      (λ j below.
      let inside_it : j < length held.relations = omega (arith, below, r.eight) in
      ap (option_map (λ (schema : Schema). record { schema = schema; rows = rows_of schema.attributes (bytes_named (rows_file j) files) })) (get_or-map (option_map schema_in) held.relations j None None inside_it)
      ∙ one_relation j (get_or held.relations j None) refl
      ∙ sym (get_or-map (option_map (relation_of_rows files)) held.relations j None None inside_it))

  one_index : (i : ℕ) (o : Option Indexed) → get_or held.indexes i None ≡ o → standing files i (option_map index_known o) ≡ option_map index_known o
  one_index i None e = refl
  one_index i (Some x) e = index_stands files i (Some (index_known x)) (r.trees i x e)

  indexes_are : map (λ (slot : ℕ). standing files slot (get_or (map (option_map index_known) held.indexes) slot None)) (range_with_len 0 8) ≡ map (option_map index_known) held.indexes
  indexes_are =
      listed_by (λ (slot : ℕ). standing files slot (get_or (map (option_map index_known) held.indexes) slot None)) (map (option_map index_known) held.indexes) 8 None (mapped_length (option_map index_known) held.indexes ∙ r.eight_indexes)
      (λ j below.
      let inside_it : j < length held.indexes = omega (arith, below, r.eight_indexes) in
      let at = get_or-map (option_map index_known) held.indexes j None None inside_it in
      ap (standing files j) at ∙ one_index j (get_or held.indexes j None) refl ∙ sym at)

  pub read_alike : (opens : List (Option Open)) → AreAlike (mended_base files) (bare (view files held opens))
  unfolding mended_base mended_catalog
  read_alike opens =
      let rs = ap (λ (rs : List (Option Schema)). map (relation_stored files rs) (range_with_len 0 8)) r.relations ∙ relations_are in
      let xs = ap (λ (xs : List (Option Index)). map (λ (slot : ℕ). standing files slot (get_or xs slot None)) (range_with_len 0 8)) r.indexes ∙ indexes_are in
      λ i. record { version = mended_version (whole_catalog files); relations = rs i; indexes = xs i; cursors = replicate 4 None }

-- ---- of a session that runs: files whose names and whose catalog stay

module _ (old after : State) (tables : Tables) (held : Held) (opens : List (Option Open)) (r : IsRunning old tables held opens) (told : IsTrue old.tells)
    (named : (k : ℕ) → name_at after.files k ≡ name_at old.files k) (catalog : bytes_of_catalog after.files held.cat ≡ bytes_of_catalog old.files held.cat) where
  here : (id : ℕ) (name : List ℕ) → IsNamed old.files id name → file_named name after.files ≡ Some (file_at after.files id)
  here id name is =
      named_found after.files id name (named id ∙ is) (λ k also. r.distinct k id name (sym (named k) ∙ also) is)
      ∙ place_live after.files id (named_live after.files id name (named id ∙ is))

  pub catalog_here : catalog_bytes_in after.files ≡ bytes_of_catalog old.files held.cat
  catalog_here = by_cat held.cat r.catalog catalog
    where
      by_cat : (o : Option ℕ) → HasCatalogFile old.files o → bytes_of_catalog after.files o ≡ bytes_of_catalog old.files o → catalog_bytes_in after.files ≡ bytes_of_catalog old.files o
      by_cat None h e = ap bytes_in_file (named_none after.files catalog_file (λ k is. h k (sym (named k) ∙ is)))
      by_cat (Some cat) h e = ap bytes_in_file (here cat catalog_file h.0) ∙ e

  size_held : IsCatalogSize (length (bytes_of_catalog old.files held.cat))
  size_held = by_cat held.cat r.catalog
    where
      by_cat : (o : Option ℕ) → HasCatalogFile old.files o → IsCatalogSize (length (bytes_of_catalog old.files o))
      by_cat None h = inl refl
      by_cat (Some cat) h = h.1

  read : catalog_of (whole_catalog after.files) ≡ record { version = held.version; relations = map (option_map schema_in) held.relations; indexes = map (option_map index_known) held.indexes }
  read = ap (λ (bytes : List ℕ). catalog_of (whole_bytes bytes)) catalog_here ∙ ap catalog_of (whole_sized (bytes_of_catalog old.files held.cat) size_held) ∙ r.listed told

  tree_there : (i : ℕ) (x : Indexed) (access : Access) → HasFile old.files i access → is_tree (Some (record { kind = access_kind access; relation = x.relation; attribute = x.attribute })) ≡ true → is_there (tree_file i) after.files ≡ true
  tree_there i x Order h e = absurd (cc)
  tree_there i x (Tree g) h e = ap is_some (here g (tree_file i) h)
  tree_there i x (InTable number) h e = absurd (cc)

  pub after_read_as : AreReadAs after.files held
  after_read_as = record {
    eight = r.eight;
    eight_indexes = r.eight_indexes;
    relations = ap (λ (c : Catalog). c.relations) read;
    indexes = ap (λ (c : Catalog). c.indexes) read;
    rows = λ k t e. ap bytes_in_file (here t.file (rows_file k) (relation_there old tables held opens r k t e).named);
    trees = λ i x e. tree_there i x x.access (index_there old tables held opens r i x e).indexed.file;
  }

-- the files of a session mend to its database, but for its version
pub running_alike : (state : State) (tables : Tables) (held : Held) (opens : List (Option Open)) → IsRunning state tables held opens → IsTrue state.tells → AreAlike (mended_base state.files) (bare (view state.files held opens))
running_alike state tables held opens r told = read_alike state.files held (after_read_as state state tables held opens r told (λ k. refl) refl) opens

-- ---- the rows of one relation may have changed, and its trees hold anything

module _ (old after : State) (tables : Tables) (held : Held) (opens : List (Option Open)) (r : IsRunning old tables held opens) (told : IsTrue old.tells) (k : ℕ) (t : Tuples) (there : get_or held.relations k None ≡ Some t)
    (spared : SparesOthers old after (StaysAt t.file (infos_of k t held.indexes))) where
  pub catalog_stays : (o : Option ℕ) → HasCatalogFile old.files o → bytes_of_catalog after.files o ≡ bytes_of_catalog old.files o
  catalog_stays None h = refl
  catalog_stays (Some cat) h = bytes_by old.files after.files cat (spared.others cat (cat_stays old tables held opens r k cat t there h.0))

  pub read_spared : AreReadAs after.files held
  read_spared = after_read_as old after tables held opens r told spared.named (catalog_stays held.cat r.catalog)

  changes : OneChanges old.files after.files held held [] k t
  changes = record {
    there = there;
    version = refl;
    relations = refl;
    indexes = refl;
    others = λ j s other e. ap (λ (o : Option File). relation_of_file o s.schema) (spared.others s.file (rows_stay old tables held opens r j k s t other e there));
    cursors = λ n o e. absurd (cc);
  }

  pub rows_alike : (rs : List Row) → rows after.files t ≡ rs → AreAlike (mended_base after.files) (bare (with_relation (view old.files held opens) k (Some (record { schema = t.schema; rows = rs }))))
  rows_alike rs is =
      read_alike after.files held read_spared []
      ∙ ap (λ (db : Database). record (bare db) { version = (mended_base after.files).version })
      (view_set old.files after.files held held [] k t changes
      ∙ ap (λ (all : List Row). with_relation (view old.files held []) k (Some (record { schema = t.schema; rows = all }))) is)
