-- What is so of a session goes on being so where rows come to one relation.
use Rattle.std.proofs.Common.{◌≡◌, ◌≢◌, ℕ, zero, suc, ◌+◌, ◌/◌, ◌<◌, ◌≤◌, Bool, true, false, cond, List, [], ◌∷◌, length, map, get_or, Option, Some, None, unwrap_or, refl, ap, sym, ◌∙◌, subst, arith, inl, inr, IsTrue, eqb, ◌==◌, filter, ℤ, ◌||◌}
use Rattle.std.specs.Prelude.{option_map}
use Rattle.std.specs.List.{AllByRecursion}
use Rattle.std.proofs.Math.Logic.{⊎_elim}
use Rattle.std.specs.Str.{bytes_eq}
use Rattle.std.proofs.lemmas.Slice.Eq.{bytes_eq-Decides}
use Rattle.std.proofs.lemmas.Bool.{cases_eq}
use Rattle.std.proofs.lemmas.Bool.Decides.{nat_tests}
use Rattle.afl_base.specs.Files.{AreDistinct, File, IsLive, IsNamed, IsUnnamed, State, Table, bytes_at, file_at, no_file, place}
use Rattle.afl_base.specs.Frames.{SparesOthers}
use Rattle.afl_base.proofs.FrameLaws.{live_by_name, spares_fewer, unnamed_by_name}
pub use Rattle.padded.proofs.Facts.{some_same}
use Rattle.afl_base.proofs.FileLaws.{file_here, live_here, named_here, named_live, place_live, one_name}
use Rattle.catalog.specs.CatalogFile.{IsCatalogSize}
use Rattle.catalog.specs.Rules.{is_of_database}
use Rattle.db_model.specs.Catalog.{Index, catalog_of}
use Rattle.db_model.specs.Database.{is_among, reader_from, used_things}
use Rattle.db_model.specs.Row.{Row, no_row, row_length, rows_of}
use Rattle.db_model.specs.Step.{keys, slots_limit}
use Rattle.index_set.specs.declared.info.Access.{Access}
use Rattle.index_set.specs.declared.info.Access.TheVariants.{Order, Tree, Table as InTable}
use Rattle.index_set.specs.declared.info.IndexInfo.{IndexInfo}
use Rattle.index_set.specs.declared.info.TableId.{TableId}
use Rattle.index_set.specs.Complete.{AreComplete, AreHeld, IsComplete, IsHeld}
use Rattle.index_set.specs.Inserts.{AreApart, IsApart, IsElsewhere, IsNoTable, IsNoTree, KeepsTables}
use Rattle.index_set.specs.Walks.{RowsGrow}
use Rattle.index_set.proofs.Grown.{waits_kept}
use Rattle.index_set.specs.Tables.{Tables}
use Rattle.index_tree.specs.Trees.{IsTreeOf}
use Rattle.space_model.specs.FileNames.{catalog_file, rows_file, tree_file}
use Rattle.tuple_file.specs.declared.tuples.Tuples.{Tuples}
use Rattle.tuple_file.specs.Tuples.{HoldsRows, rows, slots}
use Rattle.session_model.specs.declared.held.Held.{Held}
use Rattle.session_model.specs.declared.held.Indexed.{Indexed}
use Rattle.session_model.specs.declared.held.Open.{Open}
use Rattle.session_model.specs.declared.held.Open.TheVariants.{Select, Join}
use Rattle.session_model.specs.Frames.{StaysAt}
use Rattle.session_model.specs.Indexed.{IsAllowed, AreAllowed, index_known, index_of_info, info_of, infos_of}
use Rattle.session_model.specs.Running.{AreOfDatabase, HasCatalogFile, HasFile, IsCursorSlot, IsIndexed, IsIndexedOn, IsIndexSlot, HoldsRelation, IsRelationSlot, IsRunning, IsSide, IsWrittenOrEmpty, ReadsRows, bytes_of_catalog}
use Rattle.session_model.specs.View.{cursor_in, relation_of_file}
use Rattle.session_model.proofs.Cursors.{cursor_kept}
use Rattle.session_model.proofs.Frames.{bytes_spared, held_spared}
use Rattle.session_model.proofs.Views.{OneChanges}
use Rattle.tuple_file.proofs.Holding.{holds_by}
use Rattle.index_set.proofs.Inserted.{no_table}
use Rattle.padded.proofs.Facts.{some_inside, some_same, either_right}

-- ---- the list of a relation's indexes, and the slots

-- what is so of each index of the relation is so of all in its list
chosen : (P : IndexInfo → Type 0) (k : ℕ) (t : Tuples) (x : Indexed) (rest : List IndexInfo) (b : Bool) → eqb x.relation k ≡ b → (x.relation ≡ k → P (info_of t x)) → AllByRecursion P rest → AllByRecursion P (cond b (info_of t x ∷ rest) rest)
chosen P k t x rest true e h all = (h (grind (arith, nat_tests)), all)
chosen P k t x rest false e h all = all

pub all_of : (P : IndexInfo → Type 0) (k : ℕ) (t : Tuples) (xs : List (Option Indexed)) → ((i : ℕ) (x : Indexed) → get_or xs i None ≡ Some x → x.relation ≡ k → P (info_of t x)) → AllByRecursion P (infos_of k t xs)
all_of P k t [] h = tt
all_of P k t (None ∷ xs) h = all_of P k t xs (λ i x e. h (suc i) x e)
all_of P k t (Some x ∷ xs) h = chosen P k t x (infos_of k t xs) (eqb x.relation k) refl (h zero x refl) (all_of P k t xs (λ i y e. h (suc i) y e))

first : (P : IndexInfo → Type 0) (t : Tuples) (x y : Indexed) (rest : List IndexInfo) (b : Bool) → b ≡ true → y ≡ x → AllByRecursion P (cond b (info_of t y ∷ rest) rest) → P (info_of t x)
first P t x y rest true is e h = subst (λ (z : Indexed). P (info_of t z)) e h.0
first P t x y rest false is e h = absurd (cc)

later : (P : IndexInfo → Type 0) (y : IndexInfo) (rest : List IndexInfo) (b : Bool) → AllByRecursion P (cond b (y ∷ rest) rest) → AllByRecursion P rest
later P y rest true h = h.1
later P y rest false h = h

pub is_equal : (a b : ℕ) → a ≡ b → eqb a b ≡ true
is_equal a b e = grind (arith, nat_tests)

pub one_of : (P : IndexInfo → Type 0) (k : ℕ) (t : Tuples) (xs : List (Option Indexed)) (i : ℕ) (x : Indexed) → AllByRecursion P (infos_of k t xs) → get_or xs i None ≡ Some x → x.relation ≡ k → P (info_of t x)
one_of P k t [] i x all e r = absurd (cc)
one_of P k t (None ∷ xs) zero x all e r = absurd (cc)
one_of P k t (None ∷ xs) (suc i) x all e r = one_of P k t xs i x all e r
one_of P k t (Some y ∷ xs) zero x all e r =
    let same = some_same y x e in
    first P t x y (infos_of k t xs) (eqb y.relation k) (is_equal y.relation k (ap (λ (z : Indexed). z.relation) same ∙ r)) same all
one_of P k t (Some y ∷ xs) (suc i) x all e r = one_of P k t xs i x (later P (info_of t y) (infos_of k t xs) (eqb y.relation k) all) e r

-- no two of them have one file or one table
chosen_apart : (x : IndexInfo) (rest : List IndexInfo) (b : Bool) → AllByRecursion (λ info. IsElsewhere x.access info.access) rest → AreApart rest → AreApart (cond b (x ∷ rest) rest)
chosen_apart x rest true h all = (h, all)
chosen_apart x rest false h all = all

pub apart_of : (k : ℕ) (t : Tuples) (xs : List (Option Indexed)) → ((i j : ℕ) (x y : Indexed) → i ≢ j → get_or xs i None ≡ Some x → get_or xs j None ≡ Some y → IsElsewhere x.access y.access) → AreApart (infos_of k t xs)
apart_of k t [] h = tt
apart_of k t (None ∷ xs) h = apart_of k t xs (λ i j x y other a b. h (suc i) (suc j) x y (λ e. other (omega arith)) a b)
apart_of k t (Some x ∷ xs) h =
    chosen_apart (info_of t x) (infos_of k t xs) (eqb x.relation k)
    (all_of (λ info. IsElsewhere x.access info.access) k t xs (λ j y e rel. h zero (suc j) x y (λ z. absurd (omega arith)) refl e))
    (apart_of k t xs (λ i j y z other a b. h (suc i) (suc j) y z (λ e. other (omega arith)) a b))

-- they are those that the machine sees
chosen_index : (k : ℕ) (t : Tuples) (x : Indexed) (indexes : List Index) (rest : List IndexInfo) (b : Bool) → eqb x.relation k ≡ b → indexes ≡ map (index_of_info k) rest
    → cond b (index_known x ∷ indexes) indexes ≡ map (index_of_info k) (cond b (info_of t x ∷ rest) rest)
chosen_index k t x indexes rest true e h = let same : x.relation ≡ k = grind (arith, nat_tests) in λ i. index_of_info (same i) (info_of t x) ∷ h i
chosen_index k t x indexes rest false e h = h

pub indexes_seen : (k : ℕ) (t : Tuples) (xs : List (Option Indexed)) → filter (λ index. index.relation == k) (used_things (map (option_map index_known) xs)) ≡ map (index_of_info k) (infos_of k t xs)
indexes_seen k t [] = refl
indexes_seen k t (None ∷ xs) = indexes_seen k t xs
indexes_seen k t (Some x ∷ xs) = chosen_index k t x (filter (λ index. index.relation == k) (used_things (map (option_map index_known) xs))) (infos_of k t xs) (eqb x.relation k) refl (indexes_seen k t xs)

-- ---- names tell files apart

pub rows_apart : (j k : ℕ) → j ≢ k → rows_file j ≡ rows_file k → ⊥
rows_apart j k h e = h (omega (arith, ap (λ (l : List ℕ). get_or l 1 0) e))

pub trees_apart : (i j : ℕ) → i ≢ j → tree_file i ≡ tree_file j → ⊥
trees_apart i j h e = h (omega (arith, ap (λ (l : List ℕ). get_or l 1 0) e))

pub row_no_tree : (k i : ℕ) → rows_file k ≡ tree_file i → ⊥
row_no_tree k i e = let same : ◌≡◌ {A = ℕ} 84 88 = ap (λ (l : List ℕ). get_or l 0 0) e in absurd (omega arith)

pub catalog_no_rows : (k : ℕ) → catalog_file ≡ rows_file k → ⊥
catalog_no_rows k e = let same : ◌≡◌ {A = ℕ} 3 2 = ap (λ (l : List ℕ). length l) e in absurd (omega arith)

pub catalog_no_tree : (i : ℕ) → catalog_file ≡ tree_file i → ⊥
catalog_no_tree i e = let same : ◌≡◌ {A = ℕ} 3 2 = ap (λ (l : List ℕ). length l) e in absurd (omega arith)

pub differ : (files : Table) (a b : ℕ) (n m : List ℕ) → IsNamed files a n → IsNamed files b m → (n ≡ m → ⊥) → a ≢ b
differ files a b n m x y h e = h (one_name files b n m (subst (λ (j : ℕ). IsNamed files j n) e x) y)

-- a file of another name is no tree's
apart_from_tree : (files : Table) (id i : ℕ) (n : List ℕ) (access : Access) → IsNamed files id n → (n ≡ tree_file i → ⊥) → HasFile files i access → IsApart id access
apart_from_tree files id i n Order named h has = tt
apart_from_tree files id i n (Tree g) named h has = differ files id g n (tree_file i) named has h
apart_from_tree files id i n (InTable number) named h has = tt

-- ---- what stays where files are spared

pub named_spared : (a b : State) (P : ℕ → Type 0) (id : ℕ) (n : List ℕ) → SparesOthers a b P → IsNamed a.files id n → IsNamed b.files id n
named_spared a b P id n f h = f.named id ∙ h

pub unnamed_spared : (a b : State) (P : ℕ → Type 0) (n : List ℕ) → SparesOthers a b P → IsUnnamed a.files n → IsUnnamed b.files n
unnamed_spared a b P n f h = unnamed_by_name a.files b.files f.named n h

pub live_spared : (a b : State) (P : ℕ → Type 0) (id : ℕ) → SparesOthers a b P → IsLive a.files id → IsLive b.files id
live_spared a b P id f h = live_by_name a.files b.files f.named id h

pub distinct_spared : (a b : State) (P : ℕ → Type 0) → SparesOthers a b P → AreDistinct a.files → AreDistinct b.files
distinct_spared a b P f d i j n x y = d i j n (sym (f.named i) ∙ x) (sym (f.named j) ∙ y)

-- a file has the name and kind that it had
pub known_spared : (a b : State) (P : ℕ → Type 0) → SparesOthers a b P → AreOfDatabase a.files → AreOfDatabase b.files
known_spared a b P f known id now is =
    let live : IsLive a.files id = live_by_name b.files a.files (λ k. sym (f.named k)) id (live_here b.files id now is) in
    let was : File = file_at a.files id in
    let there = place_live a.files id live in
    let name : now.name ≡ was.name = some_same now.name was.name (sym (named_here b.files id now is) ∙ f.named id ∙ named_here a.files id was there) in
    let kind : now.kind ≡ was.kind = ap (λ (x : File). x.kind) (sym (file_here b.files id now is)) ∙ f.kind id live in
    ap (λ (n : List ℕ). is_of_database n now.kind) name ∙ ap (is_of_database was.name) kind ∙ known id was there

pub file_spared : (a b : State) (P : ℕ → Type 0) (i : ℕ) (access : Access) → SparesOthers a b P → HasFile a.files i access → HasFile b.files i access
file_spared a b P i Order f h = unnamed_spared a b P (tree_file i) f h
file_spared a b P i (Tree g) f h = named_spared a b P g (tree_file i) f h
file_spared a b P i (InTable number) f h = unnamed_spared a b P (tree_file i) f h

pub bytes_by : (a b : Table) (id : ℕ) → place b id ≡ place a id → bytes_at b id ≡ bytes_at a id
bytes_by a b id e = ap (λ (o : Option File). (unwrap_or o no_file).bytes) e

-- the relation that an index is on
pub record On (state : State) (tables : Tables) (i : ℕ) (x : Indexed) (o : Option Tuples) : Type 0 where
  pub tuples : Tuples
  pub is : o ≡ Some tuples
  pub indexed : IsIndexed state tables i x tuples

on : (state : State) (tables : Tables) (i : ℕ) (x : Indexed) (o : Option Tuples) → IsIndexedOn state tables i x o → On state tables i x o
on state tables i x None h = absurd h
on state tables i x (Some s) h = record { tuples = s; is = refl; indexed = h }

-- ---- a session that is running

module _ (state : State) (tables : Tables) (held : Held) (opens : List (Option Open)) (r : IsRunning state tables held opens) where
  pub relation_there : (k : ℕ) (t : Tuples) → get_or held.relations k None ≡ Some t → HoldsRelation state held.version k t
  relation_there k t e = let P : Option Tuples → Type 0 = λ o. IsRelationSlot state held.version k o in
      subst P e (r.relations k (omega (arith, some_inside held.relations k t e, r.eight)))

  pub index_there : (i : ℕ) (x : Indexed) → get_or held.indexes i None ≡ Some x → On state tables i x (get_or held.relations x.relation None)
  index_there i x e = let P : Option Indexed → Type 0 = λ o. IsIndexSlot state tables held i o in
      on state tables i x (get_or held.relations x.relation None) (subst P e (r.indexes i (omega (arith, some_inside held.indexes i x e, r.eight_indexes))))

  -- a file of a name that no tree has is no tree's of the relation
  no_tree : (k : ℕ) (t : Tuples) (id : ℕ) (n : List ℕ) → IsNamed state.files id n → ((i : ℕ) (x : Indexed) → get_or held.indexes i None ≡ Some x → x.relation ≡ k → n ≡ tree_file i → ⊥) → IsNoTree (infos_of k t held.indexes) id
  no_tree k t id n named h = all_of (λ info. IsApart id info.access) k t held.indexes
      (λ i x e rel. apart_from_tree state.files id i n x.access named (h i x e rel) (index_there i x e).indexed.file)

  pub away : (k : ℕ) (t : Tuples) → get_or held.relations k None ≡ Some t → IsNoTree (infos_of k t held.indexes) t.file
  away k t e = no_tree k t t.file (rows_file k) (relation_there k t e).named (λ i x e2 rel. row_no_tree k i)

  pub rows_stay : (j k : ℕ) (s t : Tuples) → j ≢ k → get_or held.relations j None ≡ Some s → get_or held.relations k None ≡ Some t → StaysAt t.file (infos_of k t held.indexes) s.file
  rows_stay j k s t other e there = (
    differ state.files s.file t.file (rows_file j) (rows_file k) (relation_there j s e).named (relation_there k t there).named (rows_apart j k other),
    no_tree k t s.file (rows_file j) (relation_there j s e).named (λ i x e2 rel. row_no_tree j i),
  )

  same_slot : (i : ℕ) (x y : Indexed) → get_or held.indexes i None ≡ Some x → get_or held.indexes i None ≡ Some y → x.relation ≡ y.relation
  same_slot i x y a b = ap (λ (z : Indexed). z.relation) (some_same x y (sym a ∙ b))

  apart_slots : (k i j : ℕ) (x y : Indexed) → get_or held.indexes i None ≡ Some x → get_or held.indexes j None ≡ Some y → x.relation ≢ k → y.relation ≡ k → i ≢ j
  apart_slots k i j x y a b other rel e = other (same_slot i x y a (ap (λ (n : ℕ). get_or held.indexes n None) e ∙ b) ∙ rel)

  pub tree_stays : (k i g : ℕ) (t : Tuples) (x : Indexed) → get_or held.indexes i None ≡ Some x → x.relation ≢ k → get_or held.relations k None ≡ Some t → IsNamed state.files g (tree_file i) → StaysAt t.file (infos_of k t held.indexes) g
  tree_stays k i g t x e other there named = (
    differ state.files g t.file (tree_file i) (rows_file k) named (relation_there k t there).named (λ same. row_no_tree k i (sym same)),
    no_tree k t g (tree_file i) named (λ j y e2 rel. trees_apart i j (apart_slots k i j x y e e2 other rel)),
  )

  pub cat_stays : (k cat : ℕ) (t : Tuples) → get_or held.relations k None ≡ Some t → IsNamed state.files cat catalog_file → StaysAt t.file (infos_of k t held.indexes) cat
  cat_stays k cat t there named = (
    differ state.files cat t.file catalog_file (rows_file k) named (relation_there k t there).named (catalog_no_rows k),
    no_tree k t cat catalog_file named (λ i x e rel. catalog_no_tree i),
  )

  table_stays : (k : ℕ) (t : Tuples) (i : ℕ) (number : TableId) (x : Indexed) → get_or held.indexes i None ≡ Some x → x.relation ≢ k → x.access ≡ InTable number → AllByRecursion (λ info. IsNoTable number info.access) (infos_of k t held.indexes)
  table_stays k t i number x e other is = all_of (λ info. IsNoTable number info.access) k t held.indexes
      (λ j y e2 rel. no_table number y.access (let P : Access → Type 0 = λ a. IsElsewhere a y.access in
      subst P is (r.apart i j x y (apart_slots k i j x y e e2 other rel) e e2)))

  -- the indexes of a relation
  pub on_relation : (k : ℕ) (t : Tuples) → get_or held.relations k None ≡ Some t → (i : ℕ) (x : Indexed) → get_or held.indexes i None ≡ Some x → x.relation ≡ k → IsIndexed state tables i x t
  on_relation k t there i x e rel =
      let o = index_there i x e in
      subst (λ (z : Tuples). IsIndexed state tables i x z) (some_same o.tuples t (sym o.is ∙ ap (λ (j : ℕ). get_or held.relations j None) rel ∙ there)) o.indexed

  pub are_apart : (k : ℕ) (t : Tuples) → AreApart (infos_of k t held.indexes)
  are_apart k t = apart_of k t held.indexes r.apart

  pub are_held : (k : ℕ) (t : Tuples) → get_or held.relations k None ≡ Some t → AreHeld state tables (slots state.files t) (infos_of k t held.indexes)
  are_held k t there = all_of (λ info. IsHeld state tables (slots state.files t) info.access) k t held.indexes (λ i x e rel. (on_relation k t there i x e rel).held)

  pub are_allowed : (k : ℕ) (t : Tuples) → get_or held.relations k None ≡ Some t → AreAllowed t.schema.attributes (infos_of k t held.indexes)
  are_allowed k t there = all_of (IsAllowed t.schema.attributes) k t held.indexes (λ i x e rel. (on_relation k t there i x e rel).allowed)

  pub are_complete : (k : ℕ) (t : Tuples) → get_or held.relations k None ≡ Some t → IsTrue state.tells → AreComplete state tables (rows state.files t) (infos_of k t held.indexes)
  are_complete k t there told = all_of (λ info. IsComplete state tables info.access (keys info.attribute (rows state.files t))) k t held.indexes (λ i x e rel. (on_relation k t there i x e rel).complete told)

-- ---- rows have come to one relation, and their keys to its indexes; a cursor that reads it finds its rows as they were

pub record RowsCome (old new : State) (before after : Tables) (held : Held) (opens : List (Option Open)) (k : ℕ) (t : Tuples) : Type 0 where
  pub there : get_or held.relations k None ≡ Some t
  pub spared : SparesOthers old new (StaysAt t.file (infos_of k t held.indexes))
  pub tables : KeepsTables before after (infos_of k t held.indexes)
  pub holds : HoldsRows new t
  pub few : slots new.files t ≤ slots_limit held.version
  pub grown : (n : ℕ) (o : Open) → get_or opens n None ≡ Some o → ReadsRows o t → slots old.files t ≤ slots new.files t
  pub grow : IsTrue old.tells → (n : ℕ) (o : Open) → get_or opens n None ≡ Some o → ReadsRows o t → RowsGrow (rows old.files t) (rows new.files t)
  pub filled : AreHeld new after (slots new.files t) (infos_of k t held.indexes)
  pub complete : IsTrue old.tells → AreComplete new after (rows new.files t) (infos_of k t held.indexes)

module _ (old new : State) (before after : Tables) (held : Held) (opens : List (Option Open)) (k : ℕ) (t : Tuples) (r : IsRunning old before held opens) (u : RowsCome old new before after held opens k t) where
  place_stays : (j : ℕ) (s : Tuples) → j ≢ k → get_or held.relations j None ≡ Some s → place new.files s.file ≡ place old.files s.file
  place_stays j s other e = u.spared.others s.file (rows_stay old before held opens r j k s t other e u.there)

  is_t : (j : ℕ) (s : Tuples) → j ≡ k → get_or held.relations j None ≡ Some s → s ≡ t
  is_t j s same e = some_same s t (sym e ∙ ap (λ (i : ℕ). get_or held.relations i None) same ∙ u.there)

  pub grown_any : (n : ℕ) (o : Open) → get_or opens n None ≡ Some o → (j : ℕ) (s : Tuples) → ReadsRows o s → get_or held.relations j None ≡ Some s → slots old.files s ≤ slots new.files s
  grown_any n o is j s reads e =
      ⊎_elim
      (λ same. let here = is_t j s same e in
      let P : Tuples → Type 0 = λ z. slots old.files z ≤ slots new.files z in
      subst P (sym here) (u.grown n o is (subst (λ (z : Tuples). ReadsRows o z) here reads)))
      (λ other. let same : slots new.files s ≡ slots old.files s = ap (λ (xs : List ℕ). length xs / row_length s.schema.attributes) (bytes_by old.files new.files s.file (place_stays j s other e)) in omega arith)
      (cases_eq j k)

  pub grow_any : IsTrue old.tells → (n : ℕ) (o : Open) → get_or opens n None ≡ Some o → (j : ℕ) (s : Tuples) → ReadsRows o s → get_or held.relations j None ≡ Some s
      → RowsGrow (rows old.files s) (rows new.files s)
  grow_any told n o is j s reads e =
      ⊎_elim
      (λ same. let here = is_t j s same e in
      let P : Tuples → Type 0 = λ z. RowsGrow (rows old.files z) (rows new.files z) in
      subst P (sym here) (u.grow told n o is (subst (λ (z : Tuples). ReadsRows o z) here reads)))
      (λ other.
      let same : rows new.files s ≡ rows old.files s = ap (rows_of s.schema.attributes) (bytes_by old.files new.files s.file (place_stays j s other e)) in
      record { more = omega (arith, ap (λ (rs : List Row). length rs) same); same = λ i below. ap (λ (rs : List Row). get_or rs i no_row) same })
      (cases_eq j k)

  relation_new : (j : ℕ) (o : Option Tuples) → get_or held.relations j None ≡ o → IsRelationSlot old held.version j o → IsRelationSlot new held.version j o
  relation_new j None e h = unnamed_spared old new _ (rows_file j) u.spared h
  relation_new j (Some s) e h =
      ⊎_elim
      (λ same. let P : Tuples → Type 0 = λ z. HoldsRelation new held.version j z in
      subst P (sym (is_t j s same e))
      (record { holds = u.holds; named = named_spared old new _ t.file (rows_file j) u.spared (subst (λ (z : Tuples). IsNamed old.files z.file (rows_file j)) (is_t j s same e) h.named); few = u.few }))
      (λ other. let stays = place_stays j s other e in
      record {
        holds = holds_by old new s stays u.spared.tells h.holds;
        named = named_spared old new _ s.file (rows_file j) u.spared h.named;
        few = let P : List ℕ → Type 0 = λ xs. length xs / row_length s.schema.attributes ≤ slots_limit held.version in subst P (sym (bytes_by old.files new.files s.file stays)) h.few;
      })
      (cases_eq j k)

  -- an index of another relation
  other_held : (i : ℕ) (x : Indexed) (s : Tuples) (access : Access) → get_or held.indexes i None ≡ Some x → x.relation ≢ k → x.access ≡ access → slots new.files s ≡ slots old.files s
      → IsHeld old before (slots old.files s) access → IsHeld new after (slots new.files s) access
  other_held i x s Order e other is same h = tt
  other_held i x s (Tree g) e other is same h = (live_spared old new _ g u.spared h.0, u.spared.kind g h.0 ∙ h.1)
  other_held i x s (InTable number) e other is same h =
      (h.0, ap (λ (zs : List ℤ). length zs) (u.tables number (table_stays old before held opens r k t i number x e other is)) ∙ h.1 ∙ sym same)

  other_complete : (i : ℕ) (x : Indexed) (access : Access) (ks : List ℤ) → get_or held.indexes i None ≡ Some x → x.relation ≢ k → x.access ≡ access → HasFile old.files i access
      → IsComplete old before access ks → IsComplete new after access ks
  other_complete i x Order ks e other is file h = h
  other_complete i x (Tree g) ks e other is file h =
      let stays = u.spared.others g (tree_stays old before held opens r k i g t x e other u.there file) in
      let P : List ℕ → Type 0 = λ bytes. IsTreeOf bytes ks in subst P (sym (bytes_by old.files new.files g stays)) h
  other_complete i x (InTable number) ks e other is file h = u.tables number (table_stays old before held opens r k t i number x e other is) ∙ h

  indexed_new : (i : ℕ) (x : Indexed) → get_or held.indexes i None ≡ Some x → IsIndexedOn new after i x (get_or held.relations x.relation None)
  indexed_new i x e =
      let o = index_there old before held opens r i x e in
      let P : Option Tuples → Type 0 = λ z. IsIndexedOn new after i x z in
      subst P (sym o.is)
      (⊎_elim
      (λ same.
      let is = is_t x.relation o.tuples same o.is in
      let Q : Tuples → Type 0 = λ z. IsIndexed new after i x z in
      let d : IsIndexed old before i x t = subst (λ (z : Tuples). IsIndexed old before i x z) is o.indexed in
      subst Q (sym is) (record {
        allowed = d.allowed;
        place = d.place;
        held = one_of (λ info. IsHeld new after (slots new.files t) info.access) k t held.indexes i x u.filled e same;
        file = file_spared old new _ i x.access u.spared d.file;
        complete = λ told. one_of (λ info. IsComplete new after info.access (keys info.attribute (rows new.files t))) k t held.indexes i x (u.complete (sym u.spared.tells ∙ told)) e same;
      }))
      (λ other.
      let s = o.tuples in
      let d = o.indexed in
      let bytes = bytes_by old.files new.files s.file (place_stays x.relation s other o.is) in
      let R : List Row → Type 0 = λ all. IsComplete new after x.access (keys x.attribute all) in
      record {
        allowed = d.allowed;
        place = d.place;
        held = other_held i x s x.access e other refl (ap (λ (xs : List ℕ). length xs / row_length s.schema.attributes) bytes) d.held;
        file = file_spared old new _ i x.access u.spared d.file;
        complete = λ told. subst R (sym (ap (rows_of s.schema.attributes) bytes))
            (other_complete i x x.access (keys x.attribute (rows old.files s)) e other refl d.file (d.complete (sym u.spared.tells ∙ told)));
      })
      (cases_eq x.relation k))

  index_new : (i : ℕ) (o : Option Indexed) → get_or held.indexes i None ≡ o → IsIndexSlot old before held i o → IsIndexSlot new after held i o
  index_new i None e h = unnamed_spared old new _ (tree_file i) u.spared h
  index_new i (Some x) e h = indexed_new i x e

  side_new : (m : ℕ) (o : Open) → get_or opens m None ≡ Some o → (t2 : Tuples) (n : ℕ) → ReadsRows o t2 → IsSide old held t2 n → IsSide new held t2 n
  side_new m o e t2 n reads is = record { slot = is.slot; there = is.there; few = omega (arith, is.few, grown_any m o e is.slot t2 reads is.there) }

  cursor_new : (n : ℕ) (o : Option Open) → get_or opens n None ≡ o → IsCursorSlot old held o → IsCursorSlot new held o
  unfolding side_new
  cursor_new n None e h = h
  cursor_new n (Some (Select c)) e h = record {
    rests = h.rests;
    goes_on = λ some. let is = h.goes_on some in record {
      slot = is.slot;
      there = is.there;
      few = omega (arith, is.few, grown_any n (Select c) e is.slot c.cursor.tuples (some, refl) is.there);
      waits = λ told. let before = sym u.spared.tells ∙ told in
          waits_kept c.cursor.candidates (rows old.files c.cursor.tuples) (rows new.files c.cursor.tuples)
          (grow_any before n (Select c) e is.slot c.cursor.tuples (some, refl) is.there) (is.waits before);
      index = is.index;
    };
  }
  cursor_new n (Some (Join c)) e h = record {
    rests = h.rests;
    within = h.within;
    left = λ some. side_new n (Join c) e c.cursor.left c.cursor.left_slots (inl (some, refl)) (h.left some);
    right = λ some. let is = h.right some in
        record { side = side_new n (Join c) e c.cursor.right c.cursor.right_slots (inr (some, refl)) is.side; indexes = is.indexes };
  }

  catalog_new : (cat : Option ℕ) → HasCatalogFile old.files cat → HasCatalogFile new.files cat × (bytes_of_catalog new.files cat ≡ bytes_of_catalog old.files cat)
  catalog_new None h = (unnamed_spared old new _ catalog_file u.spared h, refl)
  catalog_new (Some cat) h =
      let bytes = bytes_by old.files new.files cat (u.spared.others cat (cat_stays old before held opens r k cat t u.there h.0)) in
      let P : List ℕ → Type 0 = λ xs. IsCatalogSize (length xs) in
      ((named_spared old new _ cat catalog_file u.spared h.0, subst P (sym bytes) h.1, u.spared.kind cat (named_live old.files cat catalog_file h.0) ∙ h.2), bytes)

  pub rows_come : IsRunning new after held opens
  rows_come = record {
    idle = u.spared.draft ∙ r.idle;
    distinct = distinct_spared old new _ u.spared r.distinct;
    known = known_spared old new _ u.spared r.known;
    version = r.version;
    eight = r.eight;
    eight_indexes = r.eight_indexes;
    four = r.four;
    relations = λ j below. relation_new j (get_or held.relations j None) refl (r.relations j below);
    indexes = λ i below. index_new i (get_or held.indexes i None) refl (r.indexes i below);
    apart = r.apart;
    cursors = λ n below. cursor_new n (get_or opens n None) refl (r.cursors n below);
    catalog = (catalog_new held.cat r.catalog).0;
    listed = λ told. ap catalog_of ((catalog_new held.cat r.catalog).1) ∙ r.listed (sym u.spared.tells ∙ told);
    written = λ told. subst IsWrittenOrEmpty (sym ((catalog_new held.cat r.catalog).1)) (r.written (sym u.spared.tells ∙ told));
  }

  -- what it makes of the database
  pub one_changes : IsTrue old.tells → OneChanges old.files new.files held held opens k t
  one_changes told = record {
    there = u.there;
    version = refl;
    relations = refl;
    indexes = refl;
    others = λ j s other e. ap (λ (o : Option File). relation_of_file o s.schema) (place_stays j s other e);
    cursors = λ n o e. let P : Option Open → Type 0 = λ z. IsCursorSlot old held z in
        cursor_kept old new held o told (subst P e (r.cursors n (omega (arith, some_inside opens n o e, r.four)))) (λ j t2 reads there. grow_any told n o e j t2 reads there);
  }

-- ---- rows of one relation have changed and kept their keys, and no open cursor reads it

true≢false : true ≡ false → ⊥
true≢false e = cc

some_open : (c o : Open) → Some c ≡ Some o → c ≡ o
some_open c o e = cc

pub or_left : (a b : Bool) → a ≡ true → (a || b) ≡ true
or_left true b e = refl
or_left false b e = absurd (cc)

same_name_bytes : (s t : Tuples) → s ≡ t → bytes_eq s.schema.name t.schema.name ≡ true
same_name_bytes s t e = (bytes_eq-Decides s.schema.name t.schema.name).1 (ap (λ (z : Tuples). z.schema.name) e)

-- of a search that finds nothing
unread_first : (b : Bool) (m : ℕ) (rest : Option ℕ) → cond b (Some m) rest ≡ None → (b ≡ false) × (rest ≡ None)
unread_first true m rest h = absurd (cc)
unread_first false m rest h = (refl, h)

-- a cursor whose query does not name the relation reads no rows of it
no_name : (o : Open) (files : Table) (t : Tuples) → is_among t.schema.name (cursor_in files o).reads ≡ false → ReadsRows o t → ⊥
no_name (Select o) files t h reads = true≢false (sym (or_left _ _ (same_name_bytes o.cursor.tuples t reads.1)) ∙ h)
no_name (Join o) files t h (inl reads) = true≢false (sym (or_left _ _ (same_name_bytes o.cursor.left t reads.1)) ∙ h)
no_name (Join o) files t h (inr reads) =
    true≢false (sym (either_right _ _ (or_left _ _ (same_name_bytes o.cursor.right t reads.1))) ∙ h)

pub reads_other : (files : Table) (t : Tuples) (m : ℕ) (os : List (Option Open)) → reader_from t.schema.name m (map (option_map (cursor_in files)) os) ≡ None
    → (n : ℕ) (o : Open) → get_or os n None ≡ Some o → ReadsRows o t → ⊥
reads_other files t m [] h n o e reads = absurd (cc)
reads_other files t m (None ∷ os) h zero o e reads = absurd (cc)
reads_other files t m (None ∷ os) h (suc n) o e reads = reads_other files t (m + 1) os h n o e reads
reads_other files t m (Some c ∷ os) h zero o e reads =
    no_name c files t (unread_first (is_among t.schema.name (cursor_in files c).reads) m (reader_from t.schema.name (m + 1) (map (option_map (cursor_in files)) os)) h).0
    (subst (λ (z : Open). ReadsRows z t) (sym (some_open c o e)) reads)
reads_other files t m (Some c ∷ os) h (suc n) o e reads =
    reads_other files t (m + 1) os (unread_first (is_among t.schema.name (cursor_in files c).reads) m (reader_from t.schema.name (m + 1) (map (option_map (cursor_in files)) os)) h).1 n o e reads

complete_rekeyed : (a b : State) (tables : Tables) (id : ℕ) (before after : List Row) (infos : List IndexInfo) → IsNoTree infos id → ((k : ℕ) → k ≢ id → bytes_at b.files k ≡ bytes_at a.files k)
    → ((place : ℕ) → keys place after ≡ keys place before) → AreComplete a tables before infos → AreComplete b tables after infos
complete_rekeyed a b tables id before after [] away bytes same h = h
complete_rekeyed a b tables id before after (info ∷ infos) away bytes same h = (
  let P : List ℤ → Type 0 = λ ks. IsComplete b tables info.access ks in subst P (sym (same info.attribute)) (one info.access away.0 h.0),
  complete_rekeyed a b tables id before after infos away.1 bytes same h.1,
)
  where
    one : (access : Access) → IsApart id access → IsComplete a tables access (keys info.attribute before) → IsComplete b tables access (keys info.attribute before)
    one Order apart h = h
    one (Tree file) apart h = let P : List ℕ → Type 0 = λ bs. IsTreeOf bs (keys info.attribute before) in subst P (sym (bytes file (λ e. apart (sym e)))) h
    one (InTable number) apart h = h

pub rows_change : (old new : State) (tables : Tables) (held : Held) (opens : List (Option Open)) (k : ℕ) (t : Tuples) → (r : IsRunning old tables held opens) → get_or held.relations k None ≡ Some t
    → SparesOthers old new (λ j. j ≢ t.file) → HoldsRows new t → slots new.files t ≡ slots old.files t
    → reader_from t.schema.name 1 (map (option_map (cursor_in old.files)) opens) ≡ None
    → (IsTrue old.tells → (place : ℕ) → keys place (rows new.files t) ≡ keys place (rows old.files t))
    → RowsCome old new tables tables held opens k t
rows_change old new tables held opens k t r there f holds same unread rekeyed = record {
  there = there;
  spared = spares_fewer old new (λ j. j ≢ t.file) (StaysAt t.file (infos_of k t held.indexes)) f (λ j stays. stays.0);
  tables = λ number no. refl;
  holds = holds;
  few = omega (arith, same, (relation_there old tables held opens r k t there).few);
  grown = λ n o e reads. omega (arith, same);
  grow = λ told n o e reads. absurd (reads_other old.files t 1 opens unread n o e reads);
  filled = subst (λ (n : ℕ). AreHeld new tables n (infos_of k t held.indexes)) (sym same)
      (held_spared old new (λ j. j ≢ t.file) tables (slots old.files t) (infos_of k t held.indexes) f (are_held old tables held opens r k t there));
  complete = λ told. complete_rekeyed old new tables t.file (rows old.files t) (rows new.files t) (infos_of k t held.indexes) (away old tables held opens r k t there)
      (bytes_spared old new t.file f) (rekeyed told) (are_complete old tables held opens r k t there told);
}

-- ---- what an index of an array of slots gives
pub same_default : {A : Type 0} (xs : List A) (j : ℕ) (d e : A) → j < length xs → get_or xs j d ≡ get_or xs j e
same_default [] j d e h = absurd (omega arith)
same_default (y ∷ ys) zero d e h = refl
same_default (y ∷ ys) (suc j) d e h = same_default ys j d e (omega arith)

pub slot_at : {A : Type 0} (xs : List (Option A)) (k : ℕ) (o : Option A) (x : A) → k < length xs → o ≡ get_or xs k o → o ≡ Some x → get_or xs k None ≡ Some x
slot_at xs k o x below e is = same_default xs k None o below ∙ sym e ∙ is

pub slot_is : (xs : List (Option Tuples)) (k : ℕ) (o : Option Tuples) (t : Tuples) → k < length xs → o ≡ get_or xs k o → o ≡ Some t → get_or xs k None ≡ Some t
slot_is xs k o t below e is = slot_at xs k o t below e is
