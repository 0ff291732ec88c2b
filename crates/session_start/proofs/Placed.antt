-- What is held for a catalog whose slots have their files.
use Rattle.std.proofs.Common.{◌≡◌, ◌≢◌, ℕ, zero, suc, ◌+◌, ◌<◌, ◌≤◌, ◌⊎◌, Bool, true, false, not, ◌&&◌, ◌||◌, List, [], ◌∷◌, length, map, set, take, get_or, Option, Some, None, refl, ap, sym, subst, ◌∙◌, arith}
use Rattle.std.specs.Prelude.{IfNone, IfSome, if◌then◌else◌, is_some, nat_le, option_map, slice_get}
use Rattle.std.specs.List.{list_any}
use Rattle.std.specs.Option.{option_map_or}
use Rattle.std.proofs.Math.Logic.{⊎_elim}
use Rattle.std.proofs.lemmas.Bool.{cases_eq, cases_lt}
use Rattle.std.proofs.lemmas.Bool.Decides.{nat_tests}
use Rattle.std.proofs.lemmas.List.{ext_get_or, length-map, get_or-set_other, get_or-set_same}
use Rattle.afl_base.specs.declared.kind.Kind.TheVariants.{Doubling, Fixed}
use Rattle.afl_base.specs.Files.{AreDistinct, IsNamed, IsUnnamed, State, Table, file_at}
use Rattle.catalog.specs.declared.types.Catalog.{Catalog}
use Rattle.catalog.specs.declared.types.IndexEntry.{IndexEntry}
use Rattle.catalog.specs.CatalogFile.{index_in as index_of_entry, indexes_in}
use Rattle.catalog.specs.Catalogs.{catalog_slots}
use Rattle.catalog.specs.Formed.{AreBehind, AreSchemas, HasCatalogSize, IsFormed, is_schema_slot}
use Rattle.catalog.specs.Rules.{breaks_files, first, how_many, is_behind, is_same_place, is_stranger, is_table, is_surplus_table, is_tree, stands_on}
use Rattle.db_model.specs.declared.schemas.Attribute.{Attribute}
use Rattle.db_model.specs.declared.schemas.IndexKind.{IndexKind}
use Rattle.db_model.specs.declared.schemas.IndexKind.TheVariants.{Inline, MaxHeap, MemHash}
use Rattle.db_model.specs.declared.schemas.Schema.{Schema}
use Rattle.db_model.specs.Catalog.{Index}
use Rattle.db_model.specs.Database.{is_hash_table, most_tables}
use Rattle.db_model.specs.Row.{row_length}
use Rattle.db_model.specs.Step.{allows}
use Rattle.index_set.specs.declared.info.Access.{Access}
use Rattle.index_set.specs.declared.info.Access.TheVariants.{Order, Tree, Table as InTable}
use Rattle.index_set.specs.declared.info.TableId.{TableId}
use Rattle.index_set.specs.declared.info.TableId.TheVariants.{First, Second}
use Rattle.index_set.specs.Inserts.{IsApart, IsDoublingTree, IsElsewhere, IsNoTable}
use Rattle.index_set.specs.Plans.{access_kind}
use Rattle.index_set.specs.Tables.{HasTable, IsTable}
use Rattle.padded.proofs.Facts.{both_parts, seen_at, some_inside}
use Rattle.space_model.specs.FileNames.{catalog_file, is_there, rows_file, tree_file}
use Rattle.space_model.proofs.NamedFiles.{at_name, named_found}
use Rattle.stored.proofs.FilesOf.{IsNumbered, by_kind, first_false, in_table, rows_wanted, tree_wanted}
use Rattle.stored.proofs.HasFiles.{no_stranger}
use Rattle.stored.proofs.SoundCut.{same_used as same_of}
use Rattle.stored.proofs.SoundSlots.{sound_schema}
use Rattle.tuple_file.specs.declared.tuples.Tuples.{Tuples}
use Rattle.session_model.specs.declared.held.Held.{Held}
use Rattle.session_model.specs.declared.held.Indexed.{Indexed}
use Rattle.session_model.specs.Frames.{schema_in}
use Rattle.session_model.specs.Indexed.{index_known}
use Rattle.session_model.specs.Running.{AreOfDatabase, HasCatalogFile, HasFile}
use Rattle.session_model.proofs.Running.{differ as files_differ, trees_apart}
use Rattle.session_start.specs.Found.{ShareNoAccess, HasRowFile, IsAccess, AreFilesFound, IsIndexHeld, IsPlacedOn, IsPlacedSlot, IsRelationOf, slots_held, table_behind}

-- ---- files by name and kind

pub known_of : (files : Table) → length files ≡ 32 → first 32 (is_stranger files) ≡ None → AreOfDatabase files
known_of files size none id f e = no_stranger files id f e (first_false (is_stranger files) 32 id (in_table files size id f e) none)

pub rows_there : (files : Table) (relations : List (Option Schema)) (indexes : List (Option Index)) → first 16 (breaks_files files relations indexes) ≡ None
    → (k : ℕ) → k < 8 → is_there (rows_file k) files ≡ is_some (get_or relations k None)
rows_there files relations indexes none k below =
    same_of (is_there (rows_file k) files) (is_some (get_or relations k None))
    (rows_wanted files relations indexes k below (first_false (breaks_files files relations indexes) 16 k (omega (arith, below)) none))

pub trees_there : (files : Table) (relations : List (Option Schema)) (indexes : List (Option Index)) → first 16 (breaks_files files relations indexes) ≡ None
    → (i : ℕ) → i < 8 → is_there (tree_file i) files ≡ is_tree (get_or indexes i None)
trees_there files relations indexes none i below =
    same_of (is_there (tree_file i) files) (is_tree (get_or indexes i None))
    (tree_wanted files relations indexes i (first_false (breaks_files files relations indexes) 16 (8 + i) (omega (arith, below)) none))

unnamed_by : (files : Table) (name : List ℕ) → AreDistinct files → is_there name files ≡ false → IsUnnamed files name
unnamed_by files name d none id named =
    let found = ap is_some (named_found files id name d named) in
    let no : true ≡ false = sym found ∙ none in
    absurd (let n : ⊥ = cc in n)

-- a name of two letters is that of a file that grows, and the catalog has 6 pages
growing : (files : Table) (id : ℕ) (name : List ℕ) → AreOfDatabase files → length name ≡ 2 → IsNamed files id name → (file_at files id).kind ≡ Doubling
growing files id name known two named =
    let at = at_name files id name named in
    ⊎_elim
    (λ (c : ((file_at files id).name ≡ catalog_file) × ((file_at files id).kind ≡ Fixed 6)).
    let three : length name ≡ 3 = ap length (sym at.name_is ∙ c.0) in absurd (omega (arith, two, three)))
    (λ (n : (IsNumbered 84 (file_at files id).name ⊎ IsNumbered 88 (file_at files id).name) × ((file_at files id).kind ≡ Doubling)). n.1)
    (by_kind (file_at files id).name (file_at files id).kind (known id (file_at files id) at.there))

fixed : (files : Table) (id : ℕ) → AreOfDatabase files → IsNamed files id catalog_file → (file_at files id).kind ≡ Fixed 6
fixed files id known named =
    let at = at_name files id catalog_file named in
    ⊎_elim
    (λ (c : ((file_at files id).name ≡ catalog_file) × ((file_at files id).kind ≡ Fixed 6)). c.1)
    (λ (n : (IsNumbered 84 (file_at files id).name ⊎ IsNumbered 88 (file_at files id).name) × ((file_at files id).kind ≡ Doubling)).
    let two : length (file_at files id).name ≡ 2 = ⊎_elim (λ (t : IsNumbered 84 (file_at files id).name). ap length t.is) (λ (x : IsNumbered 88 (file_at files id).name). ap length x.is) n.0 in
    let three : length (file_at files id).name ≡ 3 = ap length at.name_is in
    absurd (omega (arith, two, three)))
    (by_kind (file_at files id).name (file_at files id).kind (known id (file_at files id) at.there))

-- ---- relations

row_file : (files : Table) (version k : ℕ) (schema : Option Schema) (o : Option Tuples) → AreDistinct files → AreOfDatabase files → is_schema_slot version schema ≡ true
    → is_there (rows_file k) files ≡ is_some schema → IsRelationOf files k schema o → HasRowFile files k o
row_file files version k None None d known s there h = unnamed_by files (rows_file k) d there
row_file files version k None (Some t) d known s there h = absurd h
row_file files version k (Some schema) None d known s there h = absurd h
row_file files version k (Some schema) (Some t) d known s there h =
    let short = (sound_schema version schema s).short in (
      record {
        live = (at_name files t.file (rows_file k) h.1).live;
        doubling = growing files t.file (rows_file k) known refl h.1;
        short = omega (arith, short, ap (λ (z : Schema). row_length z.attributes) h.0);
      },
      h.1,
    )

-- ---- one index

allowed_by : (kind : IndexKind) (o : Option Attribute) → elim o [ None ↦ false | Some a ↦ allows kind a.domain ] ≡ true → option_map_or (λ (a : Attribute). allows kind a.domain) o false ≡ true
allowed_by kind None e = e
allowed_by kind (Some a) e = e

inside_by : (kind : IndexKind) (attributes : List Attribute) (n : ℕ) → elim (slice_get attributes n) [ None ↦ false | Some a ↦ allows kind a.domain ] ≡ true → n < length attributes
inside_by kind [] n e = absurd (cc)
inside_by kind (a ∷ attributes) zero e = omega arith
inside_by kind (a ∷ attributes) (suc n) e = omega (arith, inside_by kind attributes n e)

file_by : (files : Table) (before : List (Option Index)) (i : ℕ) (access : Access) → AreDistinct files
    → is_there (tree_file i) files ≡ elim (access_kind access) [ Inline ↦ false | MaxHeap ↦ true | MemHash ↦ false ] → IsAccess files before i access → HasFile files i access
file_by files before i Order d there h = unnamed_by files (tree_file i) d there
file_by files before i (Tree file) d there h = h
file_by files before i (InTable number) d there h = unnamed_by files (tree_file i) d there

doubling_by : (state : State) (before : List (Option Index)) (i : ℕ) (access : Access) → AreOfDatabase state.files → IsAccess state.files before i access → IsDoublingTree state access
doubling_by state before i Order known h = tt
doubling_by state before i (Tree file) known h = ((at_name state.files file (tree_file i) h).live, growing state.files file (tree_file i) known refl h)
doubling_by state before i (InTable number) known h = tt

some_counted : (xs : List (Option Index)) → list_any is_table xs ≡ true → 1 ≤ how_many is_table xs
some_counted [] e = absurd (cc)
some_counted (o ∷ xs) e = by_test (is_table o) e (some_counted xs)
  where
    by_test : (b : Bool) → (b || list_any is_table xs) ≡ true → (list_any is_table xs ≡ true → 1 ≤ how_many is_table xs) → 1 ≤ (if b then how_many is_table xs + 1 else how_many is_table xs)
    by_test true e rest = omega arith
    by_test false e rest = rest e

none_counted : (xs : List (Option Index)) → how_many is_table xs < 1 → list_any is_table xs ≡ false
none_counted xs few = by_test (list_any is_table xs) refl
  where
    by_test : (b : Bool) → list_any is_table xs ≡ b → b ≡ false
    by_test true e = let some = some_counted xs e in absurd (omega (arith, some, few))
    by_test false e = refl

-- an index that is not one too many has a table that is there
table_by : (files : Table) (before : List (Option Index)) (i relation attribute : ℕ) (access : Access) → is_surplus_table before (record { kind = access_kind access; relation = relation; attribute = attribute }) ≡ false
    → IsAccess files before i access → HasTable access
table_by files before i relation attribute Order few h = tt
table_by files before i relation attribute (Tree file) few h = tt
table_by files before i relation attribute (InTable number) few h = subst IsTable (sym h) (there (list_any is_table before) refl)
  where
    below : how_many is_table before < most_tables
    below = under most_tables (how_many is_table before) few
      where
        under : (m n : ℕ) → nat_le m n ≡ false → n < m
        under m n e = grind (arith, nat_tests)

    there : (b : Bool) → list_any is_table before ≡ b → IsTable (if b then Second else First)
    there true e = let some = some_counted before e in omega (arith, some, below)
    there false e = omega (arith, below)

when_not : (b : Bool) → not b ≡ true → b ≡ false
when_not true e = absurd (cc)
when_not false e = refl

placed_on : (state : State) (version i : ℕ) (before : List (Option Index)) (x : Indexed) (schema : Option Schema) (o : Option Tuples) → AreDistinct state.files → AreOfDatabase state.files
    → is_surplus_table before (index_known x) ≡ false → is_schema_slot version schema ≡ true → stands_on (index_known x) schema ≡ true → is_there (tree_file i) state.files ≡ is_tree (Some (index_known x))
    → IsAccess state.files before i x.access → IsRelationOf state.files x.relation schema o → IsPlacedOn state i x o
placed_on state version i before x None o d known few_tables s stands there access h = absurd (cc)
placed_on state version i before x (Some schema) None d known few_tables s stands there access h = absurd h
placed_on state version i before x (Some schema) (Some t) d known few_tables s stands there access h =
    let few = (sound_schema version schema s).few in
    let within = inside_by (access_kind x.access) schema.attributes x.attribute stands in
    record {
      place = omega (arith, few, within);
      allowed = ap (λ (z : Schema). option_map_or (λ (a : Attribute). allows (access_kind x.access) a.domain) (slice_get z.attributes x.attribute) false) h.0
          ∙ allowed_by (access_kind x.access) (slice_get schema.attributes x.attribute) stands;
      file = file_by state.files before i x.access d there access;
      doubling = doubling_by state before i x.access known access;
      table = table_by state.files before i x.relation x.attribute x.access few_tables access;
    }

-- what stands in a slot of a list
test_inside : {A : Type 0} (xs : List (Option A)) (k : ℕ) (b : Option A → Bool) → b None ≡ false → b (get_or xs k None) ≡ true → k < length xs
test_inside [] k b none e = absurd (let no : true ≡ false = sym e ∙ none in let n : ⊥ = cc in n)
test_inside (x ∷ xs) zero b none e = omega arith
test_inside (x ∷ xs) (suc k) b none e = omega (arith, test_inside xs k b none e)

index_placed : (state : State) (version i : ℕ) (schemas : List (Option Schema)) (relations : List (Option Tuples)) (before : List (Option Index)) (index : Option Index) (x : Option Indexed)
    → AreDistinct state.files → AreOfDatabase state.files → length schemas ≡ 8 → AreSchemas version schemas → ((k : ℕ) → k < 8 → IsRelationOf state.files k (get_or schemas k None) (get_or relations k None))
    → is_behind schemas before index ≡ true → is_there (tree_file i) state.files ≡ is_tree index → IsIndexHeld state.files before i index x → IsPlacedSlot state relations i x
index_placed state version i schemas relations before None None d known eight s rels behind there h = unnamed_by state.files (tree_file i) d there
index_placed state version i schemas relations before None (Some x) d known eight s rels behind there h = absurd h
index_placed state version i schemas relations before (Some index) None d known eight s rels behind there h = absurd h
index_placed state version i schemas relations before (Some index) (Some x) d known eight s rels behind there h =
    let now : is_behind schemas before (Some (index_known x)) ≡ true = ap (λ (z : Index). is_behind schemas before (Some z)) h.0 ∙ behind in
    let stand : Bool = stands_on (index_known x) (get_or schemas x.relation None) in
    let same : Bool = list_any (is_same_place (index_known x)) before in
    let third : Bool = is_surplus_table before (index_known x) in
    let stands = (both_parts stand (not same) (both_parts (stand && not same) (not third) now).0).0 in
    let within = test_inside schemas x.relation (stands_on (index_known x)) refl stands in
    let no_third = when_not third (both_parts (stand && not same) (not third) now).1 in
    placed_on state version i before x (get_or schemas x.relation None) (get_or relations x.relation None) d known no_third (s x.relation) stands
    (there ∙ ap (λ (z : Index). is_tree (Some z)) (sym h.0)) h.1 (rels x.relation (omega (arith, within, eight)))

-- ---- trees and tables apart

one_counted : (xs : List (Option Index)) (i j : ℕ) → i < j → is_table (get_or xs i None) ≡ true → how_many is_table (take i xs) + 1 ≤ how_many is_table (take j xs)
one_counted [] i j below e = absurd (cc)
one_counted (o ∷ xs) i zero below e = absurd (omega (arith, below))
one_counted (o ∷ xs) zero (suc j) below e = rw e (omega arith)
one_counted (o ∷ xs) (suc i) (suc j) below e = by_test (is_table o) (one_counted xs i j (omega (arith, below)) e)
  where
    by_test : (b : Bool) → how_many is_table (take i xs) + 1 ≤ how_many is_table (take j xs)
        → (if b then how_many is_table (take i xs) + 1 else how_many is_table (take i xs)) + 1 ≤ (if b then how_many is_table (take j xs) + 1 else how_many is_table (take j xs))
    by_test true h = omega (arith, h)
    by_test false h = h

any_before : (xs : List (Option Index)) (i j : ℕ) → i < j → is_table (get_or xs i None) ≡ true → list_any is_table (take j xs) ≡ true
any_before [] i j below e = absurd (cc)
any_before (o ∷ xs) i zero below e = absurd (omega (arith, below))
any_before (o ∷ xs) zero (suc j) below e = rw e refl
any_before (o ∷ xs) (suc i) (suc j) below e = by_test (is_table o) (any_before xs i j (omega (arith, below)) e)
  where
    by_test : (b : Bool) → list_any is_table (take j xs) ≡ true → (b || list_any is_table (take j xs)) ≡ true
    by_test true h = refl
    by_test false h = h

tables_differ : (xs : List (Option Index)) (i j : ℕ) → i < j → is_table (get_or xs i None) ≡ true → nat_le most_tables (how_many is_table (take j xs)) ≡ false → table_behind (take i xs) ≡ table_behind (take j xs) → ⊥
tables_differ xs i j below e few same = by_test (list_any is_table (take i xs)) refl
  where
    second : table_behind (take j xs) ≡ Second
    second = ap (λ (b : Bool). if b then Second else First) (any_before xs i j below e)

    two : (n : ℕ) → 2 ≤ n → nat_le most_tables n ≡ false → ⊥
    two n h e = grind (arith, nat_tests)

    by_test : (b : Bool) → list_any is_table (take i xs) ≡ b → ⊥
    by_test true t =
        let one = some_counted (take i xs) t in
        let more = one_counted xs i j below e in
        two (how_many is_table (take j xs)) (omega (arith, one, more)) few
    by_test false t =
        let first_table : table_behind (take i xs) ≡ First = ap (λ (b : Bool). if b then Second else First) t in
        let no : First ≡ Second = sym first_table ∙ same ∙ second in
        absurd (let n : ⊥ = cc in n)

other_table : (n m : TableId) → (n ≡ m → ⊥) → IsNoTable n (InTable m)
other_table First First h = h refl
other_table First Second h = tt
other_table Second First h = tt
other_table Second Second h = h refl

module _ (files : Table) (schemas : List (Option Schema)) (indexes : List (Option Index)) (held : List (Option Indexed)) (behind : AreBehind schemas indexes) (long : length held ≡ 8)
    (each : (i : ℕ) → i < 8 → IsIndexHeld files (take i indexes) i (get_or indexes i None) (get_or held i None)) where
  record IsAt (i : ℕ) (x : Indexed) : Type 0 where
    index_is : get_or indexes i None ≡ Some (index_known x)
    access : IsAccess files (take i indexes) i x.access

  at : (i : ℕ) (x : Indexed) → get_or held i None ≡ Some x → IsAt i x
  at i x e = by_slot (get_or indexes i None) refl (subst (λ (o : Option Indexed). IsIndexHeld files (take i indexes) i (get_or indexes i None) o) e (each i (omega (arith, some_inside held i x e, long))))
    where
      by_slot : (o : Option Index) → get_or indexes i None ≡ o → IsIndexHeld files (take i indexes) i o (Some x) → IsAt i x
      by_slot None is h = absurd h
      by_slot (Some index) is h = record { index_is = is ∙ ap (λ (z : Index). Some z) (sym h.0); access = h.1 }

  -- none too many
  few_tables : (j : ℕ) (y : Indexed) (m : TableId) → get_or indexes j None ≡ Some (index_known y) → y.access ≡ InTable m → nat_le most_tables (how_many is_table (take j indexes)) ≡ false
  few_tables j y m is table =
      let now : is_behind schemas (take j indexes) (Some (index_known y)) ≡ true = ap (is_behind schemas (take j indexes)) (sym is) ∙ behind j in
      let stand : Bool = stands_on (index_known y) (get_or schemas y.relation None) in
      let same : Bool = list_any (is_same_place (index_known y)) (take j indexes) in
      let third : Bool = is_surplus_table (take j indexes) (index_known y) in
      let no = (both_parts (stand && not same) (not third) now).1 in
      of_table (is_hash_table (index_known y)) (nat_le most_tables (how_many is_table (take j indexes))) (ap (λ (a : Access). is_table (Some (record (index_known y) { kind = access_kind a }))) table) no
    where
      of_table : (a b : Bool) → a ≡ true → not (a && b) ≡ true → b ≡ false
      of_table true true e f = absurd (cc)
      of_table true false e f = refl
      of_table false b e f = absurd (cc)

  is_table_at : (i : ℕ) (x : Indexed) (n : TableId) → get_or indexes i None ≡ Some (index_known x) → x.access ≡ InTable n → is_table (get_or indexes i None) ≡ true
  is_table_at i x n is table = ap is_table is ∙ ap (λ (a : Access). is_table (Some (record (index_known x) { kind = access_kind a }))) table

  tables_apart : (i j : ℕ) (x y : Indexed) (n m : TableId) → i ≢ j → IsAt i x → IsAt j y → x.access ≡ InTable n → y.access ≡ InTable m → n ≡ m → ⊥
  tables_apart i j x y n m other a b e f same =
      let first : n ≡ table_behind (take i indexes) = subst (IsAccess files (take i indexes) i) e a.access in
      let second : m ≡ table_behind (take j indexes) = subst (IsAccess files (take j indexes) j) f b.access in
      let one : table_behind (take i indexes) ≡ table_behind (take j indexes) = sym first ∙ same ∙ second in
      ⊎_elim
      (λ (less : i < j). tables_differ indexes i j less (is_table_at i x n a.index_is e) (few_tables j y m b.index_is f) one)
      (λ (more : j ≤ i). tables_differ indexes j i (omega (arith, more, other)) (is_table_at j y m b.index_is f) (few_tables i x n a.index_is e) (sym one))
      (cases_lt i j)

  pub elsewhere : ShareNoAccess held
  elsewhere i j x y other e f = by_access x.access y.access refl refl
    where
      a : IsAt i x
      a = at i x e

      b : IsAt j y
      b = at j y f

      by_tree : (g : ℕ) (q : Access) → x.access ≡ Tree g → y.access ≡ q → IsApart g q
      by_tree g Order s t = tt
      by_tree g (Tree k) s t =
          let one : IsNamed files g (tree_file i) = subst (IsAccess files (take i indexes) i) s a.access in
          let two : IsNamed files k (tree_file j) = subst (IsAccess files (take j indexes) j) t b.access in
          files_differ files g k (tree_file i) (tree_file j) one two (trees_apart i j other)
      by_tree g (InTable m) s t = tt

      by_table : (n : TableId) (q : Access) → x.access ≡ InTable n → y.access ≡ q → IsNoTable n q
      by_table n Order s t = tt
      by_table n (Tree k) s t = tt
      by_table n (InTable m) s t = other_table n m (tables_apart i j x y n m other a b s t)

      by_access : (p q : Access) → x.access ≡ p → y.access ≡ q → IsElsewhere p q
      by_access Order q s t = tt
      by_access (Tree g) q s t = by_tree g q s t
      by_access (InTable n) q s t = by_table n q s t

-- ---- slots that are filled in order

filled : {A : Type 0} (P : ℕ → A → Type 0) (xs : List A) (d : A) (n : ℕ) (x : A) → n < length xs → ((i : ℕ) → i < n → P i (get_or xs i d)) → P n x → (i : ℕ) → i < n + 1 → P i (get_or (set xs n x) i d)
filled P xs d n x inside all one i below =
    ⊎_elim
    (λ (same : i ≡ n). subst (λ (y : _). P i y) (sym (ap (λ (k : ℕ). get_or (set xs n x) k d) same ∙ get_or-set_same xs n x d inside)) (subst (λ (k : ℕ). P k x) (sym same) one))
    (λ (other : i ≢ n). subst (λ (y : _). P i y) (sym (get_or-set_other xs n i x d other)) (all i (omega (arith, below, other))))
    (cases_eq i n)

taken : {A B : Type 0} (f : A → B) (n : ℕ) (xs : List A) → map f (take n xs) ≡ take n (map f xs)
taken f zero xs = refl
taken f (suc n) [] = refl
taken f (suc n) (x ∷ xs) = ap (λ ys. f x ∷ ys) (taken f n xs)

seen_slot : (entries : List (Option IndexEntry)) (n : ℕ) (d : Option IndexEntry) → n < length entries → option_map index_of_entry (get_or entries n d) ≡ get_or (indexes_in entries) n None
seen_slot [] n d below = absurd (omega (arith, below))
seen_slot (o ∷ entries) zero d below = refl
seen_slot (o ∷ entries) (suc n) d below = seen_slot entries n d (omega (arith, below))

pub index_next : (files : Table) (entries : List (Option IndexEntry)) (held : List (Option Indexed)) (n : ℕ) (d : Option IndexEntry) (x : Option Indexed) → n < length entries → n < length held
    → ((i : ℕ) → i < n → IsIndexHeld files (take i (indexes_in entries)) i (get_or (indexes_in entries) i None) (get_or held i None))
    → IsIndexHeld files (indexes_in (take n entries)) n (option_map index_of_entry (get_or entries n d)) x
    → (i : ℕ) → i < n + 1 → IsIndexHeld files (take i (indexes_in entries)) i (get_or (indexes_in entries) i None) (get_or (set held n x) i None)
index_next files entries held n d x below inside_held all one =
    let P : List (Option Index) → Option Index → Type 0 = λ before o. IsIndexHeld files before n o x in
    filled (λ i o. IsIndexHeld files (take i (indexes_in entries)) i (get_or (indexes_in entries) i None) o) held None n x inside_held all
    (subst (λ o. P (take n (indexes_in entries)) o) (seen_slot entries n d below) (subst (λ before. P before (option_map index_of_entry (get_or entries n d))) (taken (option_map index_of_entry) n entries) one))

-- ---- the catalog

catalog_by : (files : Table) (o : Option ℕ) → AreOfDatabase files → HasCatalogSize files → IfSome o (λ id. IsNamed files id catalog_file) → IfNone o (IsUnnamed files catalog_file) → HasCatalogFile files o
catalog_by files None known size found none = none
catalog_by files (Some cat) known size found none = (found, size cat found, fixed files cat known found)

-- ---- all of it

module _ (state : State) (catalog : Catalog) (held : Held) (version : held.version ≡ catalog.version) (formed : IsFormed catalog)
    (rels : (k : ℕ) → k < 8 → IsRelationOf state.files k (get_or catalog.relations k None) (get_or held.relations k None)) (eight : length held.relations ≡ 8)
    (inds : (i : ℕ) → i < 8 → IsIndexHeld state.files (take i (indexes_in catalog.indexes)) i (get_or (indexes_in catalog.indexes) i None) (get_or held.indexes i None)) (eight_indexes : length held.indexes ≡ 8) where
  pub found_of : length state.files ≡ 32 → AreDistinct state.files → first 32 (is_stranger state.files) ≡ None → HasCatalogSize state.files
      → first 16 (breaks_files state.files catalog.relations (indexes_in catalog.indexes)) ≡ None
      → IfSome held.cat (λ id. IsNamed state.files id catalog_file) → IfNone held.cat (IsUnnamed state.files catalog_file) → AreFilesFound state held
  found_of places d strangers size matched found none =
      let known = known_of state.files places strangers in
      record {
        distinct = d;
        known = known;
        version = subst (λ (v : ℕ). (v ≡ 1) ⊎ (v ≡ 2)) (sym version) formed.version;
        eight = eight;
        eight_indexes = eight_indexes;
        relations = λ k below.
            row_file state.files catalog.version k (get_or catalog.relations k None) (get_or held.relations k None) d known (formed.schemas k)
            (rows_there state.files catalog.relations (indexes_in catalog.indexes) matched k below) (rels k below);
        indexes = λ i below.
            index_placed state catalog.version i catalog.relations held.relations (take i (indexes_in catalog.indexes)) (get_or (indexes_in catalog.indexes) i None) (get_or held.indexes i None)
            d known formed.eight_relations formed.schemas rels (formed.indexes i) (trees_there state.files catalog.relations (indexes_in catalog.indexes) matched i below) (inds i below);
        apart = elsewhere state.files catalog.relations (indexes_in catalog.indexes) held.indexes formed.indexes eight_indexes inds;
        catalog = catalog_by state.files held.cat known size found none;
      }

  relation_seen : (k : ℕ) (schema : Option Schema) (o : Option Tuples) → IsRelationOf state.files k schema o → option_map schema_in o ≡ schema
  relation_seen k None None h = refl
  relation_seen k None (Some t) h = absurd h
  relation_seen k (Some schema) None h = absurd h
  relation_seen k (Some schema) (Some t) h = ap (λ (z : Schema). Some z) h.0

  index_seen : (i : ℕ) (before : List (Option Index)) (index : Option Index) (x : Option Indexed) → IsIndexHeld state.files before i index x → option_map index_known x ≡ index
  index_seen i before None None h = refl
  index_seen i before None (Some x) h = absurd h
  index_seen i before (Some index) None h = absurd h
  index_seen i before (Some index) (Some x) h = ap (λ (z : Index). Some z) h.0

  pub same_slots : slots_held held ≡ catalog_slots catalog
  same_slots =
      let relations : map (option_map schema_in) held.relations ≡ catalog.relations =
      ext_get_or None (map (option_map schema_in) held.relations) catalog.relations (length-map held.relations (option_map schema_in) ∙ eight ∙ sym formed.eight_relations)
      (λ k h. let long = length-map held.relations (option_map schema_in) in
      seen_at schema_in held.relations k ∙ relation_seen k (get_or catalog.relations k None) (get_or held.relations k None) (rels k (omega (arith, h, long, eight)))) in
      let many : length (indexes_in catalog.indexes) ≡ 8 = length-map catalog.indexes _ ∙ formed.eight_indexes in
      let indexes : map (option_map index_known) held.indexes ≡ indexes_in catalog.indexes =
      ext_get_or None (map (option_map index_known) held.indexes) (indexes_in catalog.indexes) (length-map held.indexes (option_map index_known) ∙ eight_indexes ∙ sym many)
      (λ i h. let long = length-map held.indexes (option_map index_known) in
      seen_at index_known held.indexes i ∙ index_seen i (take i (indexes_in catalog.indexes)) (get_or (indexes_in catalog.indexes) i None) (get_or held.indexes i None) (inds i (omega (arith, h, long, eight_indexes)))) in
      λ j. record { version = version j; relations = relations j; indexes = indexes j }
