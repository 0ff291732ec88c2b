-- A catalog that is written for a sound database breaks no rule.
use Rattle.std.proofs.Common.{◌≡◌, ℕ, zero, suc, ◌+◌, ◌-◌, ◌<◌, ◌≤◌, Bool, true, false, not, ◌&&◌, cond, nat_le, nat_lt, List, [], ◌∷◌, length, take, get_or, filter, Option, Some, None, if◌then◌else◌, refl, ap, ◌∙◌, arith}
use Rattle.std.specs.Prelude.{is_some, slice_range}
use Rattle.std.specs.List.{AllByRecursion, list_all, list_any}
use Rattle.std.specs.Str.{bytes_eq}
use Rattle.std.proofs.Math.Logic.{⊎_elim}
use Rattle.std.proofs.lemmas.Bool.{cases_lt}
use Rattle.std.proofs.lemmas.Bool.Decides.{nat_tests}
use Rattle.afl_base.specs.Files.{File, Table, place}
use Rattle.catalog.specs.CatalogFile.{IsCatalogSize}
use Rattle.catalog.specs.Rules.{breaks_files, differ, first, has_form, has_name, how_many, is_attribute_slot, is_behind, is_domain, is_index_form, is_named_among, is_of_database, is_relation_slot, is_row, is_same_place, is_schema, is_stranger, is_table, is_surplus_table, is_tree, stands_on}
use Rattle.db_model.specs.declared.schemas.Attribute.{Attribute}
use Rattle.db_model.specs.declared.schemas.Domain.{Domain}
use Rattle.db_model.specs.declared.schemas.Domain.TheVariants.{Int, Long, Time, Str}
use Rattle.db_model.specs.declared.schemas.Schema.{Schema}
use Rattle.db_model.specs.Catalog.{Index, IsDomain, index_slot_bytes, relation_slot_bytes, version_mark}
use Rattle.db_model.specs.Database.{is_hash_table, used_things, most_tables}
use Rattle.db_model.specs.Names.{is_name}
use Rattle.db_model.specs.Row.{row_length}
use Rattle.db_model.specs.Sound.{IsSoundAttribute, IsSoundSchema, are_distinct, attribute_names}
use Rattle.space_model.specs.FileNames.{is_there, rows_file, tree_file}
use Rattle.padded.proofs.Facts.{both_true, some_same, bytes_eq_same, le_true, lt_true, lt_false, eq_true}
use Rattle.stored.proofs.SameBase.{first_nothing}
pub use Rattle.padded.proofs.Facts.{both_parts}

-- ---- tests

pub not_false : (b : Bool) → b ≡ false → not b ≡ true
not_false b e = ap not e

pub not_true : (b : Bool) → b ≡ true → not b ≡ false
not_true b e = ap not e

pub none_any : {X : Type 0} (test : Option X → Bool) (xs : List (Option X)) (k : ℕ) → test None ≡ false → ((j : ℕ) (x : X) → j < k → get_or xs j None ≡ Some x → test (Some x) ≡ false) → list_any test (take k xs) ≡ false
none_any test xs zero e h = refl
none_any test [] (suc k) e h = refl
none_any test (None ∷ xs) (suc k) e h = rw e (none_any test xs k e (λ j x below is. h (suc j) x (omega (arith, below)) is))
none_any test (Some y ∷ xs) (suc k) e h = rw (h zero y (omega arith) refl) (none_any test xs k e (λ j x below is. h (suc j) x (omega (arith, below)) is))

-- ---- rule 14

stranger : (o : Option File) → ((f : File) → o ≡ Some f → is_of_database f.name f.kind ≡ true) → elim o [ None ↦ false | Some f ↦ not (is_of_database f.name f.kind) ] ≡ false
stranger None h = refl
stranger (Some f) h = not_true (is_of_database f.name f.kind) (h f refl)

pub stranger_none : (files : Table) → ((id : ℕ) (f : File) → place files id ≡ Some f → is_of_database f.name f.kind ≡ true) → (id : ℕ) → is_stranger files id ≡ false
stranger_none files known id = stranger (place files id) (known id)

pub no_strangers : (files : Table) → ((id : ℕ) (f : File) → place files id ≡ Some f → is_of_database f.name f.kind ≡ true) → first 32 (is_stranger files) ≡ None
no_strangers files known = first_nothing (is_stranger files) 32 (λ k below. stranger (place files k) (known k))

-- ---- rule 15

pub formed : (bytes : List ℕ) → IsCatalogSize (length bytes) → (length bytes ≡ 1480 → slice_range bytes 1472 1480 ≡ version_mark) → has_form bytes ≡ true
formed bytes size mark =
    ⊎_elim
    (λ none. rw none refl)
    (λ some. ⊎_elim (λ first. rw first refl) (λ second. rw (bytes_eq_same (slice_range bytes 1472 1480) version_mark (mark second)) (rw second refl)) some)
    size

-- ---- rule 16

domain_true : (version : ℕ) (d : Domain) → IsDomain d → (d ≡ Time → version ≡ 2) → is_domain version d ≡ true
domain_true version Int h t = refl
domain_true version Long h t = refl
domain_true version Time h t = eq_true version 2 (t refl)
domain_true version (Str n) h t = both_true (nat_le 1 n) (nat_le n 32) (le_true 1 n h.0) (le_true n 32 h.1)

attributes_true : (version : ℕ) (attributes : List Attribute) → AllByRecursion (IsSoundAttribute version) attributes → list_all (is_attribute_slot version) attributes ≡ true
attributes_true version [] h = refl
attributes_true version (a ∷ attributes) h =
    both_true (is_attribute_slot version a) (list_all (is_attribute_slot version) attributes)
    (both_true (is_name a.name) (is_domain version a.domain) h.0.name (domain_true version a.domain h.0.domain h.0.time))
    (attributes_true version attributes h.1)

pub schema_true : (version : ℕ) (schema : Schema) → IsSoundSchema version schema → is_schema version schema ≡ true
schema_true version schema s =
    let few : Bool = nat_le (length schema.attributes) 8 in
    let each : Bool = list_all (is_attribute_slot version) schema.attributes in
    let short : Bool = nat_le (row_length schema.attributes) 128 in
    let apart : Bool = are_distinct (attribute_names schema.attributes) in
    both_true (is_name schema.name && (few && each)) (is_row schema.attributes)
    (both_true (is_name schema.name) (few && each) s.name (both_true few each (le_true (length schema.attributes) 8 s.few) (attributes_true version schema.attributes s.attributes)))
    (both_true short apart (le_true (row_length schema.attributes) 128 s.short) s.distinct)

-- a slot that is written for no relation, or for a sound one of a new name
pub relation_slot_true : (version : ℕ) (slot : List ℕ) (before : List (Option Schema)) (o : Option Schema) → slot ≡ relation_slot_bytes o
    → ((s : Schema) → o ≡ Some s → (is_schema version s ≡ true) × (list_any (has_name s.name) before ≡ false)) → (is_relation_slot version slot o && not (is_named_among o before)) ≡ true
relation_slot_true version slot before None e h = both_true (bytes_eq slot (relation_slot_bytes None)) true (bytes_eq_same slot (relation_slot_bytes None) e) refl
relation_slot_true version slot before (Some s) e h =
    let here = h s refl in
    both_true (is_schema version s && bytes_eq slot (relation_slot_bytes (Some s))) (not (list_any (has_name s.name) before))
    (both_true (is_schema version s) (bytes_eq slot (relation_slot_bytes (Some s))) here.0 (bytes_eq_same slot (relation_slot_bytes (Some s)) e))
    (not_false (list_any (has_name s.name) before) here.1)

-- ---- rule 17

-- the slots before one, and the one, are among all
tables_counted : (xs : List (Option Index)) (k : ℕ) (x : Index) → get_or xs k None ≡ Some x → is_hash_table x ≡ true → how_many is_table (take k xs) + 1 ≤ length (filter is_hash_table (used_things xs))
tables_counted [] k x e t = absurd (cc)
tables_counted (None ∷ xs) zero x e t = absurd (cc)
tables_counted (Some y ∷ xs) zero x e t =
    let same : y ≡ x = some_same y x e in
    let here : is_hash_table y ≡ true = ap is_hash_table same ∙ t in
    rw here (omega arith)
tables_counted (None ∷ xs) (suc k) x e t = tables_counted xs k x e t
tables_counted (Some y ∷ xs) (suc k) x e t = counted (is_hash_table y) (how_many is_table (take k xs)) (filter is_hash_table (used_things xs)) (tables_counted xs k x e t)
  where
    counted : (b : Bool) (n : ℕ) (rest : List Index) → n + 1 ≤ length rest → (if b then n + 1 else n) + 1 ≤ length (cond b (y ∷ rest) rest)
    counted true n rest h = omega (arith, h)
    counted false n rest h = h

pub no_surplus_table : (xs : List (Option Index)) (k : ℕ) (x : Index) → get_or xs k None ≡ Some x → length (filter is_hash_table (used_things xs)) ≤ most_tables → is_surplus_table (take k xs) x ≡ false
no_surplus_table xs k x e few = by_kind (is_hash_table x) refl
  where
    fewer : (n : ℕ) → n + 1 ≤ most_tables → nat_le most_tables n ≡ false
    fewer n h = grind (arith, nat_tests)

    by_kind : (b : Bool) → is_hash_table x ≡ b → (b && nat_le most_tables (how_many is_table (take k xs))) ≡ false
    by_kind true t = let counted = tables_counted xs k x e t in fewer (how_many is_table (take k xs)) (omega (arith, counted, few))
    by_kind false t = refl

-- a slot that is written for no index, or for one that may stand behind those before it
pub index_slot_true : (slot : List ℕ) (relations : List (Option Schema)) (before : List (Option Index)) (o : Option Index) → slot ≡ index_slot_bytes o
    → ((x : Index) → o ≡ Some x → (x.relation < 8) × (stands_on x (get_or relations x.relation None) ≡ true) × (list_any (is_same_place x) before ≡ false) × (is_surplus_table before x ≡ false))
    → (is_index_form slot o && is_behind relations before o) ≡ true
index_slot_true slot relations before None e h = both_true (bytes_eq slot (index_slot_bytes None)) true (bytes_eq_same slot (index_slot_bytes None) e) refl
index_slot_true slot relations before (Some x) e h =
    let here = h x refl in
    let stands : Bool = stands_on x (get_or relations x.relation None) in
    let same : Bool = list_any (is_same_place x) before in
    let third : Bool = is_surplus_table before x in
    both_true (nat_lt x.relation 8 && bytes_eq slot (index_slot_bytes (Some x))) (stands && not same && not third)
    (both_true (nat_lt x.relation 8) (bytes_eq slot (index_slot_bytes (Some x))) (lt_true x.relation 8 here.0) (bytes_eq_same slot (index_slot_bytes (Some x)) e))
    (both_true (stands && not same) (not third) (both_true stands (not same) here.1 (not_false same here.2)) (not_false third here.3))

-- ---- rule 18

differ_same : (a b : Bool) → a ≡ b → differ a b ≡ false
differ_same true true e = refl
differ_same false false e = refl
differ_same true false e = absurd (cc)
differ_same false true e = absurd (cc)

pub files_used : (files : Table) (relations : List (Option Schema)) (indexes : List (Option Index)) → ((k : ℕ) → k < 8 → is_there (rows_file k) files ≡ is_some (get_or relations k None))
    → ((i : ℕ) → i < 8 → is_there (tree_file i) files ≡ is_tree (get_or indexes i None)) → first 16 (breaks_files files relations indexes) ≡ None
unfolding breaks_files
files_used files relations indexes rows trees = first_nothing (breaks_files files relations indexes) 16 fits
  where
    fits : (k : ℕ) → k < 16 → breaks_files files relations indexes k ≡ false
    fits k below =
        ⊎_elim
        (λ (less : k < 8). rw (lt_true k 8 less) (differ_same (is_there (rows_file k) files) (is_some (get_or relations k None)) (rows k less)))
        (λ (more : 8 ≤ k). let small : k - 8 < 8 = omega (arith, below, more) in
        rw (lt_false k 8 more) (differ_same (is_there (tree_file (k - 8)) files) (is_tree (get_or indexes (k - 8) None)) (trees (k - 8) small)))
        (cases_lt k 8)
