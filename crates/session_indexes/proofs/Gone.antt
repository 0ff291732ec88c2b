-- REMOVE INDEX on what a session keeps.
use Rattle.std.proofs.Common.{◌≡◌, ℕ, ◌+◌, ◌*◌, List, length, map, get_or, Option, Some, None, refl, ap, sym, ◌∙◌, subst, Ok, IsTrue}
use Rattle.std.specs.Prelude.{IsOk, option_map, unwrap_or}
use Rattle.afl_base.specs.Asked.{asks_few}
use Rattle.afl_base.specs.CutFiles.{MendsToState}
use Rattle.afl_base.specs.Files.{File, IsNamed, IsUnnamed, KeepsBytes, Removes, State, Table, file_at, no_file, place}
use Rattle.afl_base.proofs.FileLaws.{named_live, named_here, place_live}
use Rattle.afl_base.proofs.FrameLaws.{becomes_spares}
use Rattle.catalog.specs.CatalogFile.{PutsIndex}
use Rattle.db_model.specs.declared.commands.Command.TheVariants as command
use Rattle.db_model.specs.Between.{IsBetween}
use Rattle.db_model.specs.Database.{Database, reader_from, with_index}
use Rattle.db_model.specs.Sound.{IsSoundDatabase}
use Rattle.db_model.specs.Step.{Fine, Outcome, Reply, outcome, remove_index, replied, upgraded}
use Rattle.db_model.proofs.SoundSteps.{step_sound}
use Rattle.index_set.specs.declared.info.Access.{Access}
use Rattle.index_set.specs.Tables.{Tables}
use Rattle.space_model.specs.FileNames.{catalog_file, tree_file}
use Rattle.stored.specs.Mends.{MendsToDatabase}
use Rattle.tuple_file.specs.declared.tuples.Tuples.{Tuples}
use Rattle.session_model.specs.declared.held.Held.{Held}
use Rattle.session_model.specs.declared.held.Indexed.{Indexed}
use Rattle.session_model.specs.declared.held.Open.{Open}
use Rattle.session_model.specs.Aheads.{aheads_of}
use Rattle.session_model.specs.Cells.{cell_from}
use Rattle.session_model.specs.Frames.{AsksNoExtent, with_indexed}
use Rattle.session_model.specs.Running.{HasCatalogFile, HasFile, IsRunning, ReadsRows}
use Rattle.session_model.specs.View.{cursor_in, view}
use Rattle.session_model.specs.Wanted.{WantsFew, WantsNone, WantsOver}
use Rattle.session_model.proofs.Aheads.{catalog_aheads, index_aheads}
use Rattle.session_model.proofs.Catalogs.{IndexChanges, catalog_there, index_running, index_view, room_running, room_view}
use Rattle.session_model.proofs.CutCatalogs.{database_of, either_mends}
use Rattle.session_model.proofs.Leaves.{leaves_becomes, leaves_removes, leaves_then}
use Rattle.session_model.proofs.Running.{catalog_no_tree, differ, index_there, reads_other, some_same}
use Rattle.session_model.proofs.Wanted.{relation_seen, wants_catalog}
use Rattle.session_indexes.specs.declared.removing.Standing.{Standing}
use Rattle.session_indexes.specs.Made.{AsksIndexSlot}
use Rattle.session_indexes.specs.Parts.{MayTakeIndexSlot}
use Rattle.session_indexes.specs.Removed.{IsRemovable, IsTaken}
use Rattle.session_model.specs.Indexed.{index_known}
use Rattle.session_model.proofs.Sound.{seen}
use Rattle.session_indexes.proofs.CutTables.{take_table}
use Rattle.session_indexes.proofs.MendedIndexes.{take_between}
use Rattle.session_indexes.proofs.Refused.{removed, slot_seen}
use Rattle.session_indexes.proofs.Puts.{live_catalog}
use Rattle.session_model.proofs.Cells.{cell_named}

-- ---- the files

module _ (s0 s1 : State) (cat slot : ℕ) (idle : s0.draft ≡ None) (catalog : HasCatalogFile s0.files (Some cat)) (u : PutsIndex s0 s1 cat slot None) where
  cat_named : IsNamed s1.files cat catalog_file
  cat_named = (becomes_spares s0 s1 cat _ _ (live_catalog s0.files cat catalog) u).named cat ∙ catalog.0

  pub taken_alone : IsUnnamed s0.files (tree_file slot) → IsTaken s0 s1 cat slot
  taken_alone none = record {
    leaves = leaves_becomes s0 s1 cat _ _ (tree_file slot) catalog.0 u;
    bytes = record { named = cat_named; kind = u.kind ∙ catalog.2; size = u.size; bytes = u.bytes };
    idle = u.draft ∙ idle;
    unnamed = u.names (tree_file slot) none;
  }

  pub taken_tree : (s2 : State) (file : ℕ) → IsNamed s0.files file (tree_file slot) → Removes s1 s2 file → IsTaken s0 s2 cat slot
  taken_tree s2 file named k =
      let name = tree_file slot in
      let still : IsNamed s1.files file name = (becomes_spares s0 s1 cat _ _ (live_catalog s0.files cat catalog) u).named file ∙ named in
      let live = named_live s1.files file name still in
      let own : Some (file_at s1.files file).name ≡ Some name = sym (named_here s1.files file (file_at s1.files file) (place_live s1.files file live)) ∙ still in
      let stays : place s2.files cat ≡ place s1.files cat = k.others cat (differ s1.files cat file catalog_file name cat_named still (λ e. catalog_no_tree slot e)) in
      record {
        leaves = leaves_then s0 s1 s2 name (leaves_becomes s0 s1 cat _ _ name catalog.0 u) (leaves_removes s1 s2 file name still k);
        bytes = record {
          named = ap (option_map (λ (f : File). f.name)) stays ∙ cat_named;
          kind = ap (λ (o : Option File). (unwrap_or o no_file).kind) stays ∙ u.kind ∙ catalog.2;
          size = ap (λ (o : Option File). length (unwrap_or o no_file).bytes) stays ∙ u.size;
          bytes = λ told. ap (λ (o : Option File). (unwrap_or o no_file).bytes) stays ∙ u.bytes told;
        };
        idle = k.draft ∙ u.draft ∙ idle;
        unnamed = subst (λ (n : List ℕ). IsUnnamed s2.files n) (some_same (file_at s1.files file).name name own) k.unnamed;
      }

-- ---- a session

module _ (s0 : State) (tables : Tables) (held : Held) (opens : List (Option Open)) (r : IsRunning s0 tables held opens) (cat : ℕ) (has : held.cat ≡ Some cat) (name attribute : List ℕ)
    (k : ℕ) (t : Tuples) (cell : cell_from name 0 held.relations ≡ Some (k, t)) (at : get_or held.relations k None ≡ Some t) (standing : Standing)
    (is : IsRemovable held opens name attribute k t standing) where
  pub file_there : HasFile s0.files standing.slot standing.access
  file_there = subst (λ (a : Access). HasFile s0.files standing.slot a) is.access_is (index_there s0 tables held opens r standing.slot is.index is.there).indexed.file

  nobody_reads : (y : Indexed) (u : Tuples) → get_or held.indexes standing.slot None ≡ Some y → get_or held.relations y.relation None ≡ Some u
      → (n : ℕ) (o : Open) → get_or opens n None ≡ Some o → ReadsRows o u → ⊥
  nobody_reads y u here on n o e reads =
      let own : y ≡ is.index = some_same y is.index (sym here ∙ is.there) in
      let relation : y.relation ≡ k = ap (λ (x : Indexed). x.relation) own ∙ is.relation_is in
      let same : t ≡ u = some_same t u (sym at ∙ ap (λ (j : ℕ). get_or held.relations j None) (sym relation) ∙ on) in
      reads_other s0.files t 1 opens
      (ap (λ (z : List ℕ). reader_from z 1 (map (option_map (cursor_in s0.files)) opens)) (cell_named name 0 held.relations k t cell) ∙ is.unread s0.files)
      n o e (subst (λ (z : Tuples). ReadsRows o z) (sym same) reads)

  made : outcome (view s0.files held opens) (command.RemoveIndex name attribute) ≡ Ok (record (with_index (view s0.files held opens) standing.slot None) { version = 2 }, Fine)
  made = ap upgraded (removed s0.files held opens name attribute k t cell is.at is.place standing.slot is.found (is.unread s0.files))

  ok_by : (done : Outcome) (db : Database) (reply : Reply) → done ≡ Ok (db, reply) → IsOk done
  ok_by done db reply e = rw e refl

  pub may_go : IsOk (outcome (view s0.files held opens) (command.RemoveIndex name attribute))
  unfolding made
  may_go = ok_by _ (record (with_index (view s0.files held opens) standing.slot None) { version = 2 }) Fine made

  pub taken_in_part : {mends : List ℕ → Table → Type 0} {store : List ℕ} → IsTrue s0.tells → IsSoundDatabase (view s0.files held opens) → MendsToState mends store (λ after. MayTakeIndexSlot s0 after cat standing.slot)
      → MendsToDatabase mends store (IsBetween (view s0.files held opens) (command.RemoveIndex name attribute))
  unfolding made
  taken_in_part told sound m =
      let db : Database = view s0.files held opens in
      let next : IsSoundDatabase (record (with_index db standing.slot None) { version = 2 }) =
      subst IsSoundDatabase (ap (λ (o : Outcome). (replied db o).0) made) (step_sound db (command.RemoveIndex name attribute) tt sound) in
      let at : get_or (map (option_map index_known) held.indexes) standing.slot None ≡ Some (index_known is.index) = seen index_known held.indexes standing.slot is.index is.there in
      either_mends (command.RemoveIndex name attribute) (remove_index db name attribute) db (with_index db standing.slot None) refl
      (removed s0.files held opens name attribute k t cell is.at is.place standing.slot is.found (is.unread s0.files))
      (database_of m
      (λ after p. take_table s0 tables held opens r told sound cat has standing.slot is.below after (index_known is.index) at p next (take_between s0 tables held opens r told cat has after standing.slot is.below p))
      (λ after p. take_between s0 tables held opens r told cat has after standing.slot is.below p))

  -- nothing is asked for, where the command wants no extent
  pub asks_nothing : (asks : ℕ → ℕ → ℕ → ℕ → Type 0) → WantsNone asks s0.files (view s0.files held opens) (command.RemoveIndex name attribute)
      → AsksNoExtent asks s0.files cat (1408 + 8 * standing.slot) 8
  asks_nothing asks none need asked =
      let wanted : WantsOver asks s0.files (view s0.files held opens) (command.RemoveIndex name attribute) need =
      rw (relation_seen s0.files held opens name k t cell, is.place, slot_seen k is.at 0 held.indexes, is.found)
      (wants_catalog s0 tables held opens r asks cat (1408 + 8 * standing.slot) 8 need has asked) in
      none need wanted

  module _ (s1 : State) (u : IsTaken s0 s1 cat standing.slot) where
    pub gone_changes : IndexChanges s0 s1 tables tables held opens standing.slot None cat
    gone_changes = record {
      below = is.below;
      has = has;
      leaves = u.leaves;
      bytes = u.bytes;
      idle = u.idle;
      slot = u.unnamed;
      tables = λ j y number other e in_table. refl;
      own = λ z number none. absurd (cc);
      unread = nobody_reads;
    }

    pub gone_running : IsRunning s1 tables (with_indexed held standing.slot None) opens
    gone_running = index_running s0 s1 tables tables held opens standing.slot None cat r gone_changes

    pub gone_aheads : IsTrue s0.tells → aheads_of s1.files opens ≡ aheads_of s0.files opens
    gone_aheads told = index_aheads s0 s1 tables tables held opens standing.slot None cat r gone_changes told

    pub gone_done : IsTrue s0.tells → outcome (view s0.files held opens) (command.RemoveIndex name attribute) ≡ Ok (view s1.files (with_indexed held standing.slot None) opens, Fine)
    unfolding made
    gone_done told = made ∙ ap (λ (db : Database). Ok (db, Fine)) (sym (index_view s0 s1 tables tables held opens standing.slot None cat r gone_changes told))

  module _ (s1 : State) (u : KeepsBytes s0 s1 cat) where
    pub room_made : IsRunning s1 tables held opens
    room_made = room_running s0 s1 tables held opens r cat has u

    pub same_view : IsTrue s0.tells → view s1.files held opens ≡ view s0.files held opens
    same_view told = room_view s0 s1 tables held opens r cat has u told

    pub same_aheads : IsTrue s0.tells → aheads_of s1.files opens ≡ aheads_of s0.files opens
    same_aheads told =
        catalog_aheads s0 s1 tables held opens r (leaves_becomes s0 s1 cat _ _ catalog_file (catalog_there s0 tables held opens cat r has).0 u) told

    pub room_wants : (asks : ℕ → ℕ → ℕ → ℕ → Type 0) (need : ℕ) → AsksIndexSlot asks s1 cat standing.slot need
        → WantsFew asks s1.files (view s1.files held opens) (command.RemoveIndex name attribute) need
    room_wants asks need a =
        rw (relation_seen s1.files held opens name k t cell, is.place, slot_seen k is.at 0 held.indexes, is.found)
        (wants_catalog s1 tables held opens room_made (asks_few asks s1.files) cat (1408 + 8 * standing.slot) 8 need has a)
