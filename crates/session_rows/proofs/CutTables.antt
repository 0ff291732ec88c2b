-- Files that a cut in the middle of a change of rows leaves: a row in part, rows whose keys come into trees, rows that are removed.
use Rattle.std.proofs.Common.{◌≡◌, ◌≢◌, inl, inr, ℕ, zero, suc, ℤ, ◌<◌, ◌≤◌, ◌&&◌, Bool, true, false, List, [], ◌∷◌, ◌++◌, length, map, take, drop, set, get_or, Option, Some, None, if◌then◌else◌, refl, ap, sym, subst, ◌∙◌, arith, IsTrue}
use Rattle.std.specs.Prelude.{⊤, slice_get, unwrap_or}
use Rattle.std.specs.List.{AllByRecursion}
use Rattle.std.specs.Option.{option_map_or}
use Rattle.std.proofs.lemmas.List.{get_or-set_same}
use Rattle.afl_base.specs.Files.{File, IsNamed, State, bytes_at, no_file}
use Rattle.afl_base.specs.Frames.{SparesOthers}
use Rattle.afl_base.proofs.FileLaws.{named_live, place_live}
use Rattle.afl_base.proofs.FrameLaws.{spares_fewer}
use Rattle.catalog.proofs.Named.{named_found}
use Rattle.db_model.specs.declared.schemas.Attribute.{Attribute}
use Rattle.db_model.specs.Item.{selects}
use Rattle.db_model.specs.Cond.{Cond}
use Rattle.db_model.specs.Database.{Relation, with_relation}
use Rattle.db_model.specs.Row.{Row, rows_bytes, rows_of}
use Rattle.db_model.specs.Sound.{IsSoundDatabase, IsSoundRelation, SuitKind}
use Rattle.db_model.specs.Step.{key_of, keys, removed_row, slots_limit}
use Rattle.index_set.specs.declared.info.Access.{Access}
use Rattle.index_set.specs.declared.info.Access.TheVariants.{Order, Tree, Table as InTable}
use Rattle.index_set.specs.declared.info.IndexInfo.{IndexInfo}
use Rattle.index_set.specs.Inserts.{AllNameFew, NamesFew}
use Rattle.index_set.specs.Plans.{access_kind}
use Rattle.index_set.specs.Tables.{Tables}
use Rattle.index_set.proofs.Inserted.{keys_count}
use Rattle.index_tree.specs.TreeFile.{NamesOnly}
use Rattle.padded.proofs.Facts.{some_inside, some_same}
use Rattle.space_model.specs.Enough.{rows_in}
use Rattle.space_model.specs.FileNames.{bytes_in_file, bytes_named, rows_file, tree_file}
use Rattle.stored.specs.CutTables.{IsCutTable, IsIndexWhile}
use Rattle.stored.specs.Sound.{IsIndexComplete}
use Rattle.stored.specs.declared.half.Half.TheVariants.{AddingKey, AddingRow, Nothing}
use Rattle.tuple_file.specs.declared.tuples.Tuples.{Tuples}
use Rattle.tuple_file.specs.CutRows.{HasWholeRows}
use Rattle.tuple_file.specs.Tuples.{AreRows, rows, slots}
use Rattle.tuple_file.proofs.Columns.{rows_counted}
use Rattle.session_model.specs.declared.held.Held.{Held}
use Rattle.session_model.specs.declared.held.Indexed.{Indexed}
use Rattle.session_model.specs.declared.held.Open.{Open}
use Rattle.session_model.specs.Frames.{StaysAt, schema_in}
use Rattle.session_model.specs.Indexed.{index_known, infos_of}
use Rattle.session_model.specs.Running.{HasFile, IsRunning}
use Rattle.session_model.specs.View.{relation_of_rows, view}
use Rattle.session_model.proofs.CutHeld.{rows_cut, were_keys, were_rows}
use Rattle.session_model.proofs.Running.{are_complete, differ, distinct_spared, index_there, named_spared, one_of, relation_there, row_no_tree}
use Rattle.session_model.proofs.Sound.{named_bytes, seen}
use Rattle.session_rows.specs.CutRows.{HasRowsAndKeys, AddsPartOfRow}

-- ---- rows of which some are removed have their keys

removed_key : (attributes : List Attribute) (condition : Option Cond) (place : ℕ) (row : Row) → key_of (slice_get (removed_row attributes condition row).tuple place) ≡ key_of (slice_get row.tuple place)
removed_key attributes condition place row = by_test (row.live && selects attributes condition row.tuple)
  where
    by_test : (b : Bool) → key_of (slice_get (if b then record row { live = false } else row).tuple place) ≡ key_of (slice_get row.tuple place)
    by_test true = refl
    by_test false = refl

keys_removed : (attributes : List Attribute) (condition : Option Cond) (place n : ℕ) (all : List Row) → keys place (map (removed_row attributes condition) (take n all) ++ drop n all) ≡ keys place all
keys_removed attributes condition place zero all = refl
keys_removed attributes condition place (suc n) [] = refl
keys_removed attributes condition place (suc n) (row ∷ all) =
    ap (λ (k : ℤ). k ∷ keys place (map (removed_row attributes condition) (take n all) ++ drop n all)) (removed_key attributes condition place row)
    ∙ ap (λ (ks : List ℤ). key_of (slice_get row.tuple place) ∷ ks) (keys_removed attributes condition place n all)

module _ (old : State) (tables : Tables) (held : Held) (opens : List (Option Open)) (r : IsRunning old tables held opens) (told : IsTrue old.tells) (s : IsSoundDatabase (view old.files held opens))
    (k : ℕ) (t : Tuples) (there : get_or held.relations k None ≡ Some t) (after : State) where
  abbrev infos : List IndexInfo
  infos = infos_of k t held.indexes

  sound_rows : IsSoundRelation held.version (relation_of_rows old.files t)
  sound_rows = s.relations k (relation_of_rows old.files t) (seen (relation_of_rows old.files) held.relations k t there)

  was_rows : AreRows held.version t.schema.attributes (bytes_at old.files t.file)
  was_rows =
      subst (AreRows held.version t.schema.attributes) (named_bytes old tables held opens r told t.file (rows_file k) (relation_there old tables held opens r k t there).named)
      (were_rows old tables held opens r told s k t.schema (seen schema_in held.relations k t there))

  -- an index was complete for the rows that there were
  was_complete : (i : ℕ) (x : Indexed) → get_or held.indexes i None ≡ Some x → x.relation ≡ k → IsIndexComplete (access_kind x.access) (bytes_named (tree_file i) old.files) (keys x.attribute (rows old.files t))
  was_complete i x e on =
      let all : rows_in (view old.files held opens) x.relation ≡ rows old.files t =
      ap (rows_in (view old.files held opens)) on ∙ ap (λ (q : Option Relation). option_map_or (λ (z : Relation). z.rows) q []) (seen (relation_of_rows old.files) held.relations k t there) in
      subst (λ (rs : List Row). IsIndexComplete (access_kind x.access) (bytes_named (tree_file i) old.files) (keys x.attribute rs)) all
      (were_keys old tables held opens r told s i (index_known x) (seen index_known held.indexes i x e))

  module _ (spared : SparesOthers old after (StaysAt t.file (infos_of k t held.indexes))) where
    tree_now : (i g : ℕ) → IsNamed old.files g (tree_file i) → bytes_named (tree_file i) after.files ≡ bytes_at after.files g
    tree_now i g h =
        let n : IsNamed after.files g (tree_file i) = named_spared old after _ g (tree_file i) spared h in
        ap bytes_in_file (named_found after.files g (tree_file i) n (λ j also. distinct_spared old after _ spared r.distinct j g (tree_file i) also n) ∙ place_live after.files g (named_live after.files g (tree_file i) n))

    tree_apart : (i g : ℕ) → IsNamed old.files g (tree_file i) → g ≢ t.file
    tree_apart i g h = differ old.files g t.file (tree_file i) (rows_file k) h (relation_there old tables held opens r k t there).named (λ e. row_no_tree k i (sym e))

    -- where the other files have their bytes, it is complete still
    tree_stays_complete : (i : ℕ) (access : Access) (ks : List ℤ) → ((j : ℕ) → j ≢ t.file → bytes_at after.files j ≡ bytes_at old.files j) → HasFile old.files i access
        → IsIndexComplete (access_kind access) (bytes_named (tree_file i) old.files) ks → IsIndexComplete (access_kind access) (bytes_named (tree_file i) after.files) ks
    tree_stays_complete i Order ks beside h complete = complete
    tree_stays_complete i (Tree g) ks beside h complete =
        let P : List ℕ → Type 0 = λ b. IsIndexComplete (access_kind (Tree g)) b ks in
        subst P (named_bytes old tables held opens r told g (tree_file i) h ∙ sym (beside g (tree_apart i g h)) ∙ sym (tree_now i g h)) complete
    tree_stays_complete i (InTable number) ks beside h complete = complete

    -- the rows are as before, with a part of one more
    pub kept_cut : AddsPartOfRow old after t → IsCutTable after.files
    kept_cut m = rows_cut old tables held opens r told s k t after (AddingRow k) (record {
      there = there;
      spared = spared;
      not_emptied = λ j e. let n : ⊥ = cc in n;
      not_grown = λ j e. let n : ⊥ = cc in n;
      rows = inr (refl, subst (AreRows held.version t.schema.attributes) (sym m.part) was_rows);
      key = λ i x e on. inl (subst (λ (rs : List Row). IsIndexComplete (access_kind x.access) (bytes_named (tree_file i) after.files) (keys x.attribute rs)) (sym m.same)
          (tree_stays_complete i x.access (keys x.attribute (rows old.files t)) m.beside (index_there old tables held opens r i x e).indexed.file (was_complete i x e on)));
    })

    -- others are there, and the trees name their slots alone
    pub changed_cut : IsSoundDatabase (with_relation (view old.files held opens) k (Some (relation_of_rows after.files t))) → HasRowsAndKeys old after tables t (infos_of k t held.indexes) ⊤ → IsCutTable after.files
    changed_cut sound m = rows_cut old tables held opens r told s k t after (AddingKey k) (record {
      there = there;
      spared = spared;
      not_emptied = λ j e. let n : ⊥ = cc in n;
      not_grown = λ j e. let n : ⊥ = cc in n;
      rows = inl (record {
        whole = m.whole;
        few = let n : length (rows after.files t) ≤ slots_limit held.version = here.slots in let c = rows_counted after.files t in subst (λ (z : ℕ). z ≤ slots_limit held.version) c n;
        some = λ none. sym m.whole ∙ ap (rows_bytes t.schema.attributes) (here.filled none);
      });
      key = λ i x e on. by_access i x x.access refl e on (index_there old tables held opens r i x e).indexed.file;
    })
      where
        here : IsSoundRelation held.version (relation_of_rows after.files t)
        here = sound.relations k (relation_of_rows after.files t)
            (get_or-set_same (view old.files held opens).relations k (Some (relation_of_rows after.files t)) None
            (some_inside (view old.files held opens).relations k (relation_of_rows old.files t) (seen (relation_of_rows old.files) held.relations k t there)))

        suits : (i : ℕ) (x : Indexed) → get_or held.indexes i None ≡ Some x → x.relation ≡ k → SuitKind (access_kind x.access) (keys x.attribute (rows after.files t))
        suits i x e on =
            let index = sound.indexes i (index_known x) (seen index_known held.indexes i x e) in
            let is : index.relation ≡ relation_of_rows after.files t =
            some_same index.relation (relation_of_rows after.files t)
            (sym index.stands ∙ ap (λ (j : ℕ). get_or (set (view old.files held opens).relations k (Some (relation_of_rows after.files t))) j None) on
            ∙ get_or-set_same (view old.files held opens).relations k (Some (relation_of_rows after.files t)) None
            (some_inside (view old.files held opens).relations k (relation_of_rows old.files t) (seen (relation_of_rows old.files) held.relations k t there))) in
            subst (λ (z : Relation). SuitKind (access_kind x.access) (keys x.attribute z.rows)) is index.suits.keys

        some_info : (i : ℕ) (x : Indexed) → get_or held.indexes i None ≡ Some x → x.relation ≡ k → 0 < length (infos_of k t held.indexes)
        some_info i x e on = by_list (infos_of k t held.indexes) (λ none. one_of (λ info. ⊥) k t held.indexes i x (subst (AllByRecursion (λ (info : IndexInfo). ⊥)) (sym none) tt) e on)
          where
            by_list : (xs : List IndexInfo) → (xs ≡ [] → ⊥) → 0 < length xs
            by_list [] none = absurd (none refl)
            by_list (y ∷ xs) none = omega arith

        by_access : (i : ℕ) (x : Indexed) (access : Access) → x.access ≡ access → get_or held.indexes i None ≡ Some x → x.relation ≡ k → HasFile old.files i x.access
            → IsIndexWhile (AddingKey k) (index_known x) (bytes_named (tree_file i) after.files) (keys x.attribute (rows_of t.schema.attributes (bytes_at after.files t.file)))
        by_access i x Order is e on file =
            let P : Access → Type 0 = λ a. IsIndexComplete (access_kind a) (bytes_named (tree_file i) after.files) (keys x.attribute (rows after.files t)) in
            let Q : Access → Type 0 = λ a. SuitKind (access_kind a) (keys x.attribute (rows after.files t)) in
            inl (subst P (sym is) (subst Q is (suits i x e on)))
        by_access i x (InTable number) is e on file =
            let P : Access → Type 0 = λ a. IsIndexComplete (access_kind a) (bytes_named (tree_file i) after.files) (keys x.attribute (rows after.files t)) in
            let Q : Access → Type 0 = λ a. SuitKind (access_kind a) (keys x.attribute (rows after.files t)) in
            inl (subst P (sym is) (subst Q is (suits i x e on)))
        by_access i x (Tree g) is e on file =
            let n : ℕ = slots after.files t in
            let count : length (keys x.attribute (rows after.files t)) ≡ n = keys_count x.attribute (rows after.files t) ∙ rows_counted after.files t in
            let all : AllNameFew after n (infos_of k t held.indexes) = m.names (are_complete old tables held opens r k t there told) tt in
            let few : NamesFew after n x.access = one_of (λ info. NamesFew after n info.access) k t held.indexes i x all e on in
            let H : Access → Type 0 = λ a. HasFile old.files i a in
            let F : Access → Type 0 = λ a. NamesFew after n a in
            let named : NamesOnly n (bytes_at after.files g) = subst F is few in
            let some = m.some (some_info i x e on) in
            inr (
              ap access_kind is,
              ap AddingKey (sym on),
              omega (arith, count, some),
              subst (λ (z : ℕ). NamesOnly z (bytes_named (tree_file i) after.files)) (sym count) (subst (NamesOnly n) (sym (tree_now i g (subst H is file))) named),
            )

  -- some are removed
  pub removed_cut : SparesOthers old after (λ j. j ≢ t.file) → HasWholeRows after t → (condition : Option Cond) (n : ℕ)
      → rows after.files t ≡ map (removed_row t.schema.attributes condition) (take n (rows old.files t)) ++ drop n (rows old.files t) → IsCutTable after.files
  removed_cut others whole condition n is =
      let spared = spares_fewer old after (λ j. j ≢ t.file) (StaysAt t.file (infos_of k t held.indexes)) others (λ j stays. stays.0) in
      let attributes : List Attribute = t.schema.attributes in
      let beside : (j : ℕ) → j ≢ t.file → bytes_at after.files j ≡ bytes_at old.files j = λ j other. ap (λ (o : Option File). (unwrap_or o no_file).bytes) (others.others j other) in
      let same : (place : ℕ) → keys place (rows after.files t) ≡ keys place (rows old.files t) = λ place. ap (keys place) is ∙ keys_removed attributes condition place n (rows old.files t) in
      let count : length (rows after.files t) ≡ length (rows old.files t) = sym (keys_count 0 (rows after.files t)) ∙ ap length (same 0) ∙ keys_count 0 (rows old.files t) in
      rows_cut old tables held opens r told s k t after Nothing (record {
        there = there;
        spared = spared;
        not_emptied = λ j e. let z : ⊥ = cc in z;
        not_grown = λ j e. let z : ⊥ = cc in z;
        rows = inl (record {
          whole = whole;
          few = let m : length (rows old.files t) ≤ slots_limit held.version = sound_rows.slots in
              let c = rows_counted after.files t in subst (λ (z : ℕ). z ≤ slots_limit held.version) (sym count ∙ c) m;
          some = λ none. sym whole ∙ ap (rows_bytes attributes) (is ∙ ap (λ (rs : List Row). map (removed_row attributes condition) (take n rs) ++ drop n rs) (sound_rows.filled none) ∙ nothing n);
        });
        key = λ i x e on. inl (subst (λ (ks : List ℤ). IsIndexComplete (access_kind x.access) (bytes_named (tree_file i) after.files) ks) (sym (same x.attribute))
            (tree_stays_complete spared i x.access (keys x.attribute (rows old.files t)) beside (index_there old tables held opens r i x e).indexed.file (was_complete i x e on)));
      })
    where
      nothing : (m : ℕ) → map (removed_row t.schema.attributes condition) (take m []) ++ drop m [] ≡ []
      nothing zero = refl
      nothing (suc m) = refl
