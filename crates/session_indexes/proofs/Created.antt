-- CREATE INDEX on what a session keeps.
use Rattle.std.proofs.Common.{◌≡◌, ◌≢◌, ℕ, zero, suc, ◌+◌, ◌*◌, inl, inr, List, [], ◌∷◌, map, get_or, replicate, Option, Some, None, refl, ap, sym, ◌∙◌, subst, Ok, Err, IsTrue, ℤ}
use Rattle.std.specs.Prelude.{IsOk, IsSomeAnd, Result, ⊤, option_map, slice_get}
use Rattle.std.proofs.Math.Logic.{⊎_elim}
use Rattle.afl_base.specs.Asked.{asks_few}
use Rattle.afl_base.specs.CutFiles.{MendsToEither, MendsToState}
use Rattle.afl_base.specs.Files.{KeepsBytes, State, Table}
use Rattle.afl_base.specs.Fit.{fit}
use Rattle.db_model.specs.declared.commands.Command.TheVariants as command
use Rattle.db_model.specs.declared.refusals.Refusal.{Refusal}
use Rattle.db_model.specs.declared.schemas.IndexKind.{IndexKind}
use Rattle.db_model.specs.declared.schemas.Schema.{Schema}
use Rattle.db_model.specs.declared.schemas.IndexKind.TheVariants.{Inline, MaxHeap, MemHash}
use Rattle.db_model.specs.Between.{IsBetween}
use Rattle.db_model.specs.Catalog.{Catalog as Slots, catalog_of}
use Rattle.db_model.specs.Database.{Database, with_index}
use Rattle.db_model.specs.Refusing.{◌>>◌}
use Rattle.db_model.specs.Row.{rows_of}
use Rattle.db_model.specs.Sound.{IsSoundDatabase}
use Rattle.db_model.specs.Step.{Fine, Outcome, Reply, create_index, keys, outcome, refuse_kind, replied, upgraded}
use Rattle.db_model.proofs.SoundSteps.{step_sound}
use Rattle.index_set.specs.declared.info.Access.{Access}
use Rattle.index_set.specs.declared.info.Access.TheVariants.{Table as InTable}
use Rattle.index_set.specs.declared.info.TableId.{TableId}
use Rattle.index_set.specs.Inserts.{IsElsewhere}
use Rattle.index_set.specs.Tables.{Tables}
use Rattle.space_model.specs.Enough.{keys_named, tree_size}
use Rattle.space_model.specs.FileNames.{asks_in, catalog_file, rows_file, size_in}
use Rattle.space_model.specs.Wants.{WantsIndex}
use Rattle.stored.specs.Mends.{MendsToDatabase}
use Rattle.tuple_file.specs.declared.tuples.Tuples.{Tuples}
use Rattle.tuple_file.specs.Tuples.{rows}
use Rattle.session_model.specs.declared.held.Held.{Held}
use Rattle.session_model.specs.declared.held.Indexed.{Indexed}
use Rattle.session_model.specs.declared.held.Open.{Open}
use Rattle.session_model.specs.Aheads.{aheads_of}
use Rattle.session_model.specs.Cells.{cell_from}
use Rattle.session_model.specs.Frames.{with_indexed}
use Rattle.session_model.specs.Indexed.{IsAllowedAt}
use Rattle.session_model.specs.Running.{IsIndexSlot, IsIndexedOn, IsRunning, bytes_of_catalog}
use Rattle.session_model.specs.View.{view}
use Rattle.session_model.specs.Wanted.{WantsFew, WantsNone, room_in}
use Rattle.session_model.proofs.Aheads.{catalog_aheads, index_aheads}
use Rattle.session_model.proofs.Catalogs.{IndexChanges, catalog_there, index_running, index_view, kept_index, room_running, room_view}
use Rattle.session_model.proofs.CutCatalogs.{either_mends}
use Rattle.session_model.proofs.Leaves.{leaves_becomes, leaves_same}
use Rattle.session_model.proofs.ReadAs.{running_alike}
use Rattle.session_model.proofs.Running.{bytes_by, catalog_no_rows, catalog_no_tree, differ, relation_there}
use Rattle.session_model.proofs.Wanted.{relation_seen, wants_catalog}
use Rattle.session_indexes.specs.declared.sites.Site.{Site}
use Rattle.session_indexes.specs.Made.{AsksIndex, AsksNoIndex, IsMade, IsReadyFor, IsTried, IsUnrefused, KeepsTaken, index_for, indexed_for, keys_at}
use Rattle.session_indexes.specs.Parts.{IsMadeInPart}
use Rattle.session_indexes.specs.Sites.{IsSite}
use Rattle.session_model.proofs.CutHeld.{cut_held}
use Rattle.session_indexes.proofs.CutTables.{make_table}
use Rattle.session_indexes.proofs.MendedIndexes.{make_between}
use Rattle.session_indexes.proofs.Refused.{free_seen, placed}
use Rattle.db_model.proofs.Standing.{nothing_free}
use Rattle.session_model.proofs.Cells.{found_allowed}

-- ---- tables that no index has

module _ (state : State) (before after : Tables) (held : Held) (opens : List (Option Open)) (r : IsRunning state before held opens) (kept : KeepsTaken before after held.indexes) where
  slot_kept : (i : ℕ) (o : Option Indexed) → get_or held.indexes i None ≡ o → IsIndexSlot state before held i o → IsIndexSlot state after held i o
  slot_kept i None e h = h
  slot_kept i (Some x) e h =
      kept_index state state before after held opens r catalog_file (leaves_same state state catalog_file refl refl) i x e
      (λ same. catalog_no_tree i (sym same)) (λ same. catalog_no_rows x.relation (sym same)) (λ number is. kept i x number e is)

  pub tables_running : IsRunning state after held opens
  tables_running = record {
    idle = r.idle;
    distinct = r.distinct;
    known = r.known;
    version = r.version;
    eight = r.eight;
    eight_indexes = r.eight_indexes;
    four = r.four;
    relations = r.relations;
    indexes = λ i below. slot_kept i (get_or held.indexes i None) refl (r.indexes i below);
    apart = r.apart;
    cursors = r.cursors;
    catalog = r.catalog;
    listed = r.listed;
    written = r.written;
  }

-- ---- the site

module _ (s0 : State) (before : Tables) (held : Held) (opens : List (Option Open)) (r : IsRunning s0 before held opens) (cat : ℕ) (has : held.cat ≡ Some cat) (name attribute : List ℕ) (kind : IndexKind)
    (k : ℕ) (t : Tuples) (cell : cell_from name 0 held.relations ≡ Some (k, t)) (at : get_or held.relations k None ≡ Some t) (site : Site) (on : site.relation ≡ k) (is : IsSite held attribute kind site t) where
  there : get_or held.relations site.relation None ≡ Some t
  there = ap (λ (j : ℕ). get_or held.relations j None) on ∙ at

  cell_there : cell_from name 0 held.relations ≡ Some (site.relation, t)
  cell_there = cell ∙ ap (λ (j : ℕ). Some (j, t)) (sym on)

  empty : get_or held.indexes site.slot None ≡ None
  empty = nothing_free held.indexes site.slot is.free

  pub ready_for : IsReadyFor s0 cat t site
  ready_for =
      let relation = relation_there s0 before held opens r site.relation t there in
      let P : Option Indexed → Type 0 = λ o. IsIndexSlot s0 before held site.slot o in
      record {
        slot = is.slot;
        idle = r.idle;
        catalog = catalog_there s0 before held opens cat r has;
        holds = relation.holds;
        named = relation.named;
        unnamed = subst P empty (r.indexes site.slot is.slot);
        distinct = r.distinct;
        known = r.known;
      }

  -- what is made of the database, where the kind refuses nothing
  after_it : Database → IndexKind → Database
  after_it db kind = record (with_index db site.slot (Some (index_for site kind))) { version = 2 }

  tried : create_index (view s0.files held opens) name attribute kind
      ≡ ◌>>◌ (refuse_kind kind (view s0.files held opens) (keys_at s0 t site)) (Ok (with_index (view s0.files held opens) site.slot (Some (index_for site kind)), Fine))
  tried =
      let found = found_allowed kind (slice_get t.schema.attributes site.attribute) is.allowed in
      placed s0.files held opens name attribute kind site.relation t cell_there site.attribute found.0 is.place found.1 found.2 is.new site.slot is.free

  done : IsUnrefused kind held.indexes (keys_at s0 t site) → create_index (view s0.files held opens) name attribute kind ≡ Ok (with_index (view s0.files held opens) site.slot (Some (index_for site kind)), Fine)
  done h = tried ∙ ap (λ (z : Result ⊤ Refusal). ◌>>◌ z (Ok (with_index (view s0.files held opens) site.slot (Some (index_for site kind)), Fine))) (h (view s0.files held opens) refl)

  unrefused : IsUnrefused kind held.indexes (keys_at s0 t site) → outcome (view s0.files held opens) (command.CreateIndex name attribute kind) ≡ Ok (after_it (view s0.files held opens) kind, Fine)
  unfolding after_it
  unrefused h = ap upgraded (done h)

  pub refused_so : (refusal : Refusal) → IsTried kind held.indexes (keys_at s0 t site) (Err refusal) → outcome (view s0.files held opens) (command.CreateIndex name attribute kind) ≡ Err refusal
  refused_so refusal h =
      ap upgraded (tried ∙ ap (λ (z : Result ⊤ Refusal). ◌>>◌ z (Ok (with_index (view s0.files held opens) site.slot (Some (index_for site kind)), Fine))) (h (view s0.files held opens) refl))

  ok_by : (made : Outcome) (db : Database) (reply : Reply) → made ≡ Ok (db, reply) → IsOk made
  ok_by made db reply e = rw e refl

  pub may_be : IsUnrefused kind held.indexes (keys_at s0 t site) → IsOk (outcome (view s0.files held opens) (command.CreateIndex name attribute kind))
  unfolding unrefused
  may_be h = ok_by _ (after_it (view s0.files held opens) kind) Fine (unrefused h)

  -- ---- it broke off

  pub made_in_part : {mends : List ℕ → Table → Type 0} {store : List ℕ} → IsTrue s0.tells → IsSoundDatabase (view s0.files held opens)
      → MendsToEither mends s0.files store (λ after. IsMadeInPart s0 after held.indexes cat t site kind)
      → MendsToDatabase mends store (IsBetween (view s0.files held opens) (command.CreateIndex name attribute kind))
  unfolding unrefused after_it
  made_in_part {mends} {store} told sound = ⊎_elim
      (λ (same : mends store s0.files). record { files = s0.files; mends_to = same; cut = cut_held s0 before held opens r told sound; is = inl (running_alike s0 before held opens r told) })
      (λ (m : MendsToState mends store (λ after. IsMadeInPart s0 after held.indexes cat t site kind)).
      let db : Database = view s0.files held opens in
      let next : IsSoundDatabase (record (with_index db site.slot (Some (index_for site kind))) { version = 2 }) =
      subst IsSoundDatabase (ap (λ (o : Outcome). (replied db o).0) (unrefused m.is.unrefused)) (step_sound db (command.CreateIndex name attribute kind) tt sound) in
      let either = make_between s0 before held opens r told cat has m.after t site kind ready_for empty m.is.left in
      either_mends (command.CreateIndex name attribute kind) (create_index db name attribute kind) db (with_index db site.slot (Some (index_for site kind))) refl (done m.is.unrefused)
      (record { files = m.after.files; mends_to = m.mends_to; cut = make_table s0 before held opens r told sound cat has m.after t site ready_for there kind m.is.left next either; is = either }))

  -- ---- it is made

  module _ (s1 : State) (after : Tables) (access : Access) (made : IsMade kind s0 s1 before after held.indexes cat t site access) where
    new_index : Indexed
    new_index = indexed_for site access

    own_table : (z : Indexed) (number : TableId) → Some new_index ≡ Some z → z.access ≡ InTable number → (j : ℕ) (y : Indexed) → j ≢ site.slot → get_or held.indexes j None ≡ Some y → IsElsewhere z.access y.access
    unfolding new_index
    own_table z number same in_table j y other e =
        let own : new_index ≡ z = cc in
        let here : access ≡ InTable number = ap (λ (x : Indexed). x.access) own ∙ in_table in
        subst (λ (a : Access). IsElsewhere a y.access) (sym in_table) (made.own number here j y e)

    pub site_changes : IndexChanges s0 s1 before after held opens site.slot (Some (indexed_for site access)) cat
    unfolding new_index
    site_changes =
        let P : Option Tuples → Type 0 = λ o. IsIndexedOn s1 after site.slot (indexed_for site access) o in
        record {
          below = is.slot;
          has = has;
          leaves = made.leaves;
          bytes = made.bytes;
          idle = made.idle;
          slot = subst P (sym there) (record {
            place = is.below;
            allowed = subst (λ (z : IndexKind). IsAllowedAt t.schema.attributes site.attribute z) (sym made.kind) is.allowed;
            held = made.held;
            file = made.file;
            complete = made.complete;
          });
          tables = λ j y number other e in_table. made.tables j y number e in_table;
          own = own_table;
          unread = λ y u e. absurd (none_here y (sym empty ∙ e));
        }
      where
        none_here : (y : Indexed) → None ≡ Some y → ⊥
        none_here y e = cc

    pub made_running : IsRunning s1 after (with_indexed held site.slot (Some (indexed_for site access))) opens
    made_running = index_running s0 s1 before after held opens site.slot (Some (indexed_for site access)) cat r site_changes

    pub made_aheads : IsTrue s0.tells → aheads_of s1.files opens ≡ aheads_of s0.files opens
    made_aheads told = index_aheads s0 s1 before after held opens site.slot (Some (indexed_for site access)) cat r site_changes told

    pub made_done : IsTrue s0.tells → IsUnrefused kind held.indexes (keys_at s0 t site)
        → outcome (view s0.files held opens) (command.CreateIndex name attribute kind) ≡ Ok (view s1.files (with_indexed held site.slot (Some (indexed_for site access))) opens, Fine)
    unfolding unrefused after_it
    made_done told h =
        unrefused h
        ∙ ap (λ (z : IndexKind). Ok (after_it (view s0.files held opens) z, Fine)) (sym made.kind)
        ∙ ap (λ (db : Database). Ok (db, Fine)) (sym (index_view s0 s1 before after held opens site.slot (Some (indexed_for site access)) cat r site_changes told))

  -- ---- it wants no extent

  nothing_by : (asks : ℕ → ℕ → ℕ → ℕ → Type 0) (want : IndexKind) (ks : List ℤ) → ((need : ℕ) → WantsIndex (size_in s0.files) (asks_in asks s0.files) (room_in s0.files) want ks site.slot need → ⊥)
      → AsksNoIndex asks s0 cat site.slot want
  nothing_by asks Inline ks none = λ need asked. none need (wants_catalog s0 before held opens r asks cat (1408 + 8 * site.slot) 8 need has asked)
  nothing_by asks MemHash ks none = λ need asked. none need (wants_catalog s0 before held opens r asks cat (1408 + 8 * site.slot) 8 need has asked)
  nothing_by asks MaxHeap ks none = none (fit (tree_size ks)) (inr refl)

  -- nothing is asked for, where the command wants no extent
  pub asks_nothing : (asks : ℕ → ℕ → ℕ → ℕ → Type 0) → WantsNone asks s0.files (view s0.files held opens) (command.CreateIndex name attribute kind) → AsksNoIndex asks s0 cat site.slot kind
  asks_nothing asks none =
      let ks = keys_named (view s0.files held opens) name attribute in
      let P : Option ℕ → Type 0 = λ o. (need : ℕ) → IsSomeAnd o (λ slot. WantsIndex (size_in s0.files) (asks_in asks s0.files) (room_in s0.files) kind ks slot need) → ⊥ in
      nothing_by asks kind ks (subst P (free_seen 0 held.indexes ∙ is.free) none)

  -- ---- there was no space

  module _ (s1 : State) (after : Tables) (u : KeepsBytes s0 s1 cat) (kept : KeepsTaken before after held.indexes) where
    pub space_running : IsRunning s1 after held opens
    space_running = tables_running s1 before after held opens (room_running s0 s1 before held opens r cat has u) kept

    pub space_view : IsTrue s0.tells → view s1.files held opens ≡ view s0.files held opens
    space_view told = room_view s0 s1 before held opens r cat has u told

    pub space_aheads : IsTrue s0.tells → aheads_of s1.files opens ≡ aheads_of s0.files opens
    space_aheads told =
        catalog_aheads s0 s1 before held opens r (leaves_becomes s0 s1 cat _ _ catalog_file (catalog_there s0 before held opens cat r has).0 u) told

    rows_same : rows s1.files t ≡ rows s0.files t
    rows_same =
        let relation = relation_there s0 before held opens r site.relation t there in
        let stays = u.others t.file (differ s0.files t.file cat (rows_file site.relation) catalog_file relation.named (catalog_there s0 before held opens cat r has).0 (λ e. catalog_no_rows site.relation (sym e))) in
        ap (rows_of t.schema.attributes) (bytes_by s0.files s1.files t.file stays)

    keys_are : keys_named (view s1.files held opens) name attribute ≡ keys_at s0 t site
    keys_are = rw (relation_seen s1.files held opens name site.relation t cell_there, is.place) (ap (keys site.attribute) rows_same)

    wants_by : (asks : ℕ → ℕ → ℕ → ℕ → Type 0) (want : IndexKind) (need : ℕ) → AsksIndex asks s1 cat site.slot want (keys_at s0 t site) need
        → WantsIndex (size_in s1.files) (asks_in (asks_few asks s1.files) s1.files) (room_in s1.files) want (keys_at s0 t site) site.slot need
    wants_by asks Inline need a = wants_catalog s1 after held opens space_running (asks_few asks s1.files) cat (1408 + 8 * site.slot) 8 need has a
    wants_by asks MemHash need a = wants_catalog s1 after held opens space_running (asks_few asks s1.files) cat (1408 + 8 * site.slot) 8 need has a
    wants_by asks MaxHeap need (inl a) = inl (wants_catalog s1 after held opens space_running (asks_few asks s1.files) cat (1408 + 8 * site.slot) 8 need has a)
    wants_by asks MaxHeap need (inr e) = inr e

    pub space_wants : (asks : ℕ → ℕ → ℕ → ℕ → Type 0) (need : ℕ) → AsksIndex asks s1 cat site.slot kind (keys_at s0 t site) need
        → WantsFew asks s1.files (view s1.files held opens) (command.CreateIndex name attribute kind) need
    space_wants asks need a =
        let size = size_in s1.files in
        let few = asks_in (asks_few asks s1.files) s1.files in
        let room = room_in s1.files in
        let P : Option ℕ → List ℤ → Type 0 = λ o ks. IsSomeAnd o (λ slot. WantsIndex size few room kind ks slot need) in
        subst (λ (o : Option ℕ). P o (keys_named (view s1.files held opens) name attribute)) (sym (free_seen 0 held.indexes ∙ is.free))
        (subst (λ (ks : List ℤ). P (Some site.slot) ks) (sym keys_are) (wants_by asks kind need a))

-- ---- a relation without a catalog

no_relations : (catalog_of []).relations ≡ replicate 8 None
no_relations = refl

none_in : {A : Type 0} (n k : ℕ) → get_or {A = Option A} (replicate n None) k None ≡ None
none_in zero k = refl
none_in (suc n) zero = refl
none_in (suc n) (suc k) = none_in n k

schema_of : Tuples → Schema
schema_of t = t.schema

seen_at : (ts : List (Option Tuples)) (k : ℕ) (t : Tuples) → get_or ts k None ≡ Some t → get_or (map (option_map schema_of) ts) k None ≡ Some t.schema
unfolding schema_of
seen_at [] k t e = absurd (cc)
seen_at (o ∷ ts) zero t e = ap (option_map schema_of) e
seen_at (o ∷ ts) (suc k) t e = seen_at ts k t e

pub no_catalog : (state : State) (tables : Tables) (held : Held) (opens : List (Option Open)) → IsRunning state tables held opens → IsTrue state.tells → held.cat ≡ None
    → (k : ℕ) (t : Tuples) → get_or held.relations k None ≡ Some t → ⊥
unfolding schema_of
no_catalog state tables held opens r told none k t e =
    let listed = ap (λ (o : Option ℕ). catalog_of (bytes_of_catalog state.files o)) (sym none) ∙ r.listed told in
    let relations : replicate 8 None ≡ map (option_map schema_of) held.relations = sym no_relations ∙ ap (λ (c : Slots). c.relations) listed in
    let here : None ≡ Some t.schema = sym (none_in 8 k) ∙ ap (λ (l : List (Option Schema)). get_or l k None) relations ∙ seen_at held.relations k t e in
    absurd (cc)
