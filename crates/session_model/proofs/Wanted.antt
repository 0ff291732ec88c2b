-- What calls ask for by the ids of files is what commands want by their names.
use Rattle.std.proofs.Common.{◌≡◌, ℕ, ℤ, zero, suc, ◌≤◌, ◌⊎◌, List, [], ◌∷◌, length, map, get_or, Option, Some, None, refl, ap, sym, ◌∙◌, subst, inl, inr, IsTrue, arith}
use Rattle.std.specs.Prelude.{IsSomeAnd, option_map}
use Rattle.afl_base.specs.Files.{File, IsNamed, IsUnnamed, State, Table, bytes_at, file_at, size_at}
use Rattle.afl_base.proofs.FileLaws.{named_live, place_live}
use Rattle.catalog.proofs.Named.{named_found, named_none}
use Rattle.db_model.specs.declared.commands.Command.TheVariants as command
use Rattle.db_model.specs.declared.values.Value.{Value}
use Rattle.db_model.specs.Catalog.{Index}
use Rattle.db_model.specs.Database.{Relation, relation_named}
use Rattle.db_model.specs.Row.{row_length}
use Rattle.db_model.specs.Step.{keys}
use Rattle.index_maxheap.specs.declared.rooms.End.{End}
use Rattle.index_maxheap.specs.declared.rooms.End.TheVariants as end
use Rattle.index_maxheap.specs.Rooms.{end_at, room_at as room_at_end, room_of}
use Rattle.index_set.specs.declared.info.Access.{Access}
use Rattle.index_set.specs.declared.info.Access.TheVariants.{Order, Tree, Table as InTable}
use Rattle.index_set.specs.Complete.{IsComplete}
use Rattle.index_set.specs.Inserts.{AsksFor, tuple_key}
use Rattle.index_set.specs.Plans.{access_kind}
use Rattle.index_set.specs.Tables.{Tables}
use Rattle.index_tree.specs.Ends.{path_end}
use Rattle.space_model.specs.FileNames.{asks_in, bytes_named, bytes_in_file, catalog_file, file_named, rows_file, size_in, tree_file}
use Rattle.space_model.specs.Wants.{WantsCatalog, WantsNewCatalog, WantsTree, room_for}
use Rattle.tuple_file.specs.declared.tuples.Tuples.{Tuples}
use Rattle.tuple_file.specs.Tuples.{rows}
use Rattle.session_model.specs.declared.held.Held.{Held}
use Rattle.session_model.specs.declared.held.Indexed.{Indexed}
use Rattle.session_model.specs.declared.held.Open.{Open}
use Rattle.session_model.specs.Cells.{cell_from}
use Rattle.session_model.specs.Frames.{WantsRow}
use Rattle.session_model.specs.Indexed.{index_known, info_of, infos_of}
use Rattle.session_model.specs.Running.{HasCatalogFile, HasFile, IsRunning}
use Rattle.session_model.specs.View.{relation_of_rows, view}
use Rattle.session_model.specs.Wanted.{WantsOver, room_in}
use Rattle.session_model.proofs.Catalogs.{catalog_there}
use Rattle.session_model.proofs.Readable.{Found, found}
use Rattle.session_model.proofs.Running.{on_relation, relation_there}
use Rattle.session_model.proofs.Views.{found_in_view}

map_at : (xs : List (Option Indexed)) (i : ℕ) (x : Indexed) → get_or xs i None ≡ Some x → get_or (map (option_map index_known) xs) i None ≡ Some (index_known x)
map_at [] i x e = absurd (cc)
map_at (o ∷ xs) zero x e = ap (option_map index_known) e
map_at (o ∷ xs) (suc i) x e = map_at xs i x e

-- a key that comes into a tree needs at most a bucket's bytes
room_small : (e : End) → (room_at_end e).bytes ≤ 4096
room_small (end.Pair at) = omega arith
room_small (end.Bucket at) = omega arith
room_small end.Nowhere = omega arith

pub room_bytes : (bytes : List ℕ) (key : ℤ) → (room_of bytes key).bytes ≤ 4096
unfolding room_of
room_bytes bytes key = room_small (end_at bytes key (path_end bytes key))

-- the relation of a name, in the database
pub relation_seen : (files : Table) (held : Held) (opens : List (Option Open)) (name : List ℕ) (k : ℕ) (t : Tuples) → cell_from name 0 held.relations ≡ Some (k, t)
    → relation_named (view files held opens) name ≡ Some (k, relation_of_rows files t)
relation_seen files held opens name k t e = found_in_view files name 0 held.relations ∙ ap (option_map (λ (p : ℕ × Tuples). (p.0, relation_of_rows files p.1))) e

module _ (state : State) (tables : Tables) (held : Held) (opens : List (Option Open)) (r : IsRunning state tables held opens) (asks : ℕ → ℕ → ℕ → ℕ → Type 0) where
  -- the file of an id stands under its name
  pub by_name : (id : ℕ) (name : List ℕ) → IsNamed state.files id name → file_named name state.files ≡ Some (file_at state.files id)
  by_name id name named = named_found state.files id name named (λ k also. r.distinct k id name also named) ∙ place_live state.files id (named_live state.files id name named)

  pub size_by_name : (id : ℕ) (name : List ℕ) → IsNamed state.files id name → size_in state.files name ≡ Some (size_at state.files id)
  size_by_name id name named = ap (option_map (λ (f : File). length f.bytes)) (by_name id name named)

  pub bytes_by_name : (id : ℕ) (name : List ℕ) → IsNamed state.files id name → bytes_named name state.files ≡ bytes_at state.files id
  bytes_by_name id name named = ap bytes_in_file (by_name id name named)

  -- a change of the catalog
  pub wants_catalog : (cat at n need : ℕ) → held.cat ≡ Some cat → asks cat ((room_for (size_at state.files cat) at n).0) ((room_for (size_at state.files cat) at n).1) need
      → WantsCatalog (size_in state.files) (asks_in asks state.files) (room_in state.files) at n need
  wants_catalog cat at n need has a =
      let there = catalog_there state tables held opens cat r has in
      let P : Option ℕ → Type 0 = λ size. IsSomeAnd size (λ size. asks_in asks state.files catalog_file ((room_for size at n).0) ((room_for size at n).1) need) in
      subst P (sym (size_by_name cat catalog_file there.0)) (cat, there.0, a)

  -- a catalog, where there is none
  pub wants_new_catalog : held.cat ≡ None → WantsNewCatalog (size_in state.files) (asks_in asks state.files) (room_in state.files) 6
  wants_new_catalog none =
      let P : Option ℕ → Type 0 = λ o. HasCatalogFile state.files o in
      let missing : IsUnnamed state.files catalog_file = subst P none r.catalog in
      (ap (option_map (λ (f : File). length f.bytes)) (named_none state.files catalog_file missing), refl)

  -- room in the file of a relation
  pub wants_rows : (k : ℕ) (t : Tuples) (w b need : ℕ) → get_or held.relations k None ≡ Some t → asks t.file w b need → asks_in asks state.files (rows_file k) w b need
  wants_rows k t w b need there a = (t.file, (relation_there state tables held opens r k t there).named, a)

  -- room in one of its trees
  wants_tree_by : (k : ℕ) (t : Tuples) (values : List Value) (need i : ℕ) (x : Indexed) (access : Access) → x.access ≡ access → x.relation ≡ k → HasFile state.files i access
      → IsComplete state tables access (keys x.attribute (rows state.files t)) → AsksFor asks state (tuple_key values (info_of t x)) need access
      → WantsTree (size_in state.files) (asks_in asks state.files) (room_in state.files) k values need i (Some (index_known x))
  wants_tree_by k t values need i x Order is rel file complete a = absurd a
  wants_tree_by k t values need i x (InTable number) is rel file complete a = absurd a
  wants_tree_by k t values need i x (Tree g) is rel file complete a =
      let asked = a (keys x.attribute (rows state.files t)) complete in
      let P : List ℕ → Type 0 = λ bytes. asks g ((room_of bytes (tuple_key values (info_of t x))).overwrites) ((room_of bytes (tuple_key values (info_of t x))).bytes) need in
      (ap access_kind is, rel, (g, file, subst P (sym (bytes_by_name g (tree_file i) file)) asked))

  pub wants_row : (name : List ℕ) (k : ℕ) (t : Tuples) (values : List Value) (need : ℕ) → IsTrue state.tells → get_or held.relations k None ≡ Some t → cell_from name 0 held.relations ≡ Some (k, t)
      → WantsRow asks state t (infos_of k t held.indexes) values need → WantsOver asks state.files (view state.files held opens) (command.Insert values name) need
  wants_row name k t values need told there cell a =
      let P : Option (ℕ × Relation) → Type 0 = λ o. IsSomeAnd o
      (λ s. asks_in asks state.files (rows_file s.0) 0 (row_length s.1.schema.attributes) need
      ⊎ ((slot : ℕ) × WantsTree (size_in state.files) (asks_in asks state.files) (room_in state.files) s.0 values need slot (get_or (map (option_map index_known) held.indexes) slot None))) in
      subst P (sym (relation_seen state.files held opens name k t cell)) (by_which a)
    where
      tree_of : Found (λ info. AsksFor asks state (tuple_key values info) need info.access) k t held.indexes
          → (slot : ℕ) × WantsTree (size_in state.files) (asks_in asks state.files) (room_in state.files) k values need slot (get_or (map (option_map index_known) held.indexes) slot None)
      tree_of f =
          let d = on_relation state tables held opens r k t there f.slot f.index f.is_there f.relation in
          let Q : Option Index → Type 0 = λ o. WantsTree (size_in state.files) (asks_in asks state.files) (room_in state.files) k values need f.slot o in (
            f.slot,
            subst Q (sym (map_at held.indexes f.slot f.index f.is_there))
                (wants_tree_by k t values need f.slot f.index f.index.access refl f.relation d.file (d.complete told) f.holds),
          )

      by_which : WantsRow asks state t (infos_of k t held.indexes) values need
          → asks_in asks state.files (rows_file k) 0 (row_length t.schema.attributes) need
          ⊎ ((slot : ℕ) × WantsTree (size_in state.files) (asks_in asks state.files) (room_in state.files) k values need slot (get_or (map (option_map index_known) held.indexes) slot None))
      by_which (inl h) = inl (wants_rows k t 0 (row_length t.schema.attributes) need there h)
      by_which (inr h) = inr (tree_of (found (λ info. AsksFor asks state (tuple_key values info) need info.access) k t held.indexes h))
