-- What a sound database is, in lists: each used slot with those before it.
use Rattle.std.proofs.Common.{◌≡◌, refl, sym, ap, subst, ◌∙◌, ℕ, ◌+◌, ◌<◌, ◌≤◌, ◌⊎◌, Bool, true, false, List, [], ◌∷◌, ◌++◌, length, map, get_or, append_assoc, arith, cond, Option, Some, None, suc}
use Rattle.std.specs.Prelude.{IsTrue, not, ◌&&◌, ◌||◌, ◌==◌, filter, slice_get, ⊤}
use Rattle.std.specs.List.{list_any, AllByRecursion}
use Rattle.std.specs.Str.{bytes_eq}
use Rattle.std.proofs.lemmas.Bool.Decides.{Decides-eqb}
use Rattle.std.proofs.lemmas.List.{length-map}
use Rattle.std.proofs.lemmas.Slice.Eq.{bytes_eq-Decides}
use Rattle.db_model.specs.declared.schemas.Attribute.{Attribute}
use Rattle.db_model.specs.declared.schemas.IndexKind.{IndexKind}
use Rattle.db_model.specs.declared.schemas.IndexKind.TheVariants.{Inline, MaxHeap, MemHash}
use Rattle.db_model.specs.Catalog.{Index, IsAttribute}
use Rattle.db_model.specs.Database.{Relation, Database, used_things, is_among, is_on, is_hash_table, most_tables}
use Rattle.db_model.specs.Names.{is_name}
use Rattle.db_model.specs.Row.{Row, AllRowsSuit, row_length}
use Rattle.db_model.specs.Sound.{IsSoundAttribute, IsSoundDatabase, IsSoundIndex, IsSoundRelation, StandsIn, SuitKind, are_distinct, attribute_names}
use Rattle.db_model.specs.Step.{allows, keys, key_of, first_fall}
use Rattle.db_model.proofs.SoundSteps.{limit_most}

abbrev pub relation_names : List Relation → List (List ℕ)
relation_names relations = map (λ r. r.schema.name) relations

pub record RelationFacts (r : Relation) : Type 0 where
  pub name : IsTrue (is_name r.schema.name)
  pub attributes : AllByRecursion IsAttribute r.schema.attributes
  pub few : length r.schema.attributes ≤ 8
  pub short : row_length r.schema.attributes ≤ 128
  pub distinct : IsTrue (are_distinct (attribute_names r.schema.attributes))
  pub rows : AllRowsSuit r.schema.attributes r.rows
  pub slots : length r.rows ≤ 32768
  pub filled : 0 < length r.rows → 0 < length r.schema.attributes

-- what a kind asks of the indexes before, and of the relation's rows
abbrev pub SuitsKind : IndexKind → List Index → ℕ → List Row → Type 0
SuitsKind Inline before place rows = first_fall (keys place rows) ≡ None
SuitsKind MaxHeap before place rows = ⊤
SuitsKind MemHash before place rows = (length (filter is_hash_table before) < most_tables) × (length rows ≤ 2048)

pub record IndexFacts (relations : List (Option Relation)) (before : List Index) (index : Index) : Type 0 where
  pub relation : Relation
  pub attribute : Attribute
  pub used : get_or relations index.relation None ≡ Some relation
  pub placed : slice_get relation.schema.attributes index.attribute ≡ Some attribute
  pub allowed : allows index.kind attribute.domain ≡ true
  pub alone : list_any (is_on index.relation index.attribute) before ≡ false
  pub kind : SuitsKind index.kind before index.attribute relation.rows

-- each index behind those before it
abbrev pub AllIndexFacts : List (Option Relation) → List Index → List Index → Type 0
AllIndexFacts relations before [] = ⊤
AllIndexFacts relations before (index ∷ indexes) = IndexFacts relations before index × AllIndexFacts relations (before ++ index ∷ []) indexes

pub record DatabaseFacts (db : Database) : Type 0 where
  pub eight_relations : length db.relations ≡ 8
  pub eight_indexes : length db.indexes ≡ 8
  pub relations : AllByRecursion RelationFacts (used_things db.relations)
  pub distinct : IsTrue (are_distinct (relation_names (used_things db.relations)))
  pub indexes : AllIndexFacts db.relations [] (used_things db.indexes)

suc_same : {j k : ℕ} → suc j ≡ suc k → j ≡ k
suc_same e = omega (arith, e)

zero_less : {k : ℕ} → 0 ≡ suc k → ⊥
zero_less e = omega (arith, e)

-- ---- relations

listed_attributes : (version : ℕ) (attributes : List Attribute) → AllByRecursion (IsSoundAttribute version) attributes → AllByRecursion IsAttribute attributes
listed_attributes version [] h = tt
listed_attributes version (a ∷ attributes) h = ((h.0.name, h.0.domain), listed_attributes version attributes h.1)

some_attribute : (attributes : List Attribute) (rows : List Row) → (attributes ≡ [] → rows ≡ []) → 0 < length rows → 0 < length attributes
some_attribute [] rows filled some = let e = ap length (filled refl) in absurd (omega (arith, e, some))
some_attribute (a ∷ attributes) rows filled some = omega arith

relation_facts : (version : ℕ) (r : Relation) → (version ≡ 1) ⊎ (version ≡ 2) → IsSoundRelation version r → RelationFacts r
relation_facts version r known is = record {
  name = is.schema.name;
  attributes = listed_attributes version r.schema.attributes is.schema.attributes;
  few = is.schema.few;
  short = is.schema.short;
  distinct = is.schema.distinct;
  rows = is.rows;
  slots = let most = limit_most version known in let few = is.slots in omega (arith, most, few);
  filled = some_attribute r.schema.attributes r.rows is.filled;
}

-- what holds of each slot that is used holds of all that is in them
all_used : {A : Type 0} (P : A → Type 0) (slots : List (Option A)) → ((k : ℕ) (x : A) → StandsIn slots k x → P x) → AllByRecursion P (used_things slots)
all_used P [] each = tt
all_used P (None ∷ slots) each = all_used P slots (λ k x h. each (suc k) x h)
all_used P (Some x ∷ slots) each = (each 0 x refl, all_used P slots (λ k y h. each (suc k) y h))

-- no two relations have one name
abbrev AreApart : List (Option Relation) → Type 0
AreApart slots = (j k : ℕ) (q r : Relation) → StandsIn slots j q → StandsIn slots k r → q.schema.name ≡ r.schema.name → j ≡ k

-- a name that none of the used slots has
not_among : (name : List ℕ) (slots : List (Option Relation)) → ((k : ℕ) (r : Relation) → StandsIn slots k r → name ≡ r.schema.name → ⊥) → is_among name (relation_names (used_things slots)) ≡ false
not_among name [] other = refl
not_among name (None ∷ slots) other = not_among name slots (λ k r h. other (suc k) r h)
not_among name (Some q ∷ slots) other = by_test (bytes_eq q.schema.name name) refl (not_among name slots (λ k r h. other (suc k) r h))
  where
    by_test : (t : Bool) → bytes_eq q.schema.name name ≡ t → is_among name (relation_names (used_things slots)) ≡ false → (t || is_among name (relation_names (used_things slots))) ≡ false
    by_test true e rest = absurd (other 0 q refl (sym ((bytes_eq-Decides q.schema.name name).0 e)))
    by_test false e rest = rest

and_both : {a b : Bool} → a ≡ true → b ≡ true → (a && b) ≡ true
and_both {a} {b} e f = ap (λ t. t && b) e ∙ f

not_false : {a : Bool} → a ≡ false → not a ≡ true
not_false e = ap not e

names_apart : (slots : List (Option Relation)) → AreApart slots → IsTrue (are_distinct (relation_names (used_things slots)))
names_apart [] apart = refl
names_apart (None ∷ slots) apart = names_apart slots (λ j k q r h i e. suc_same (apart (suc j) (suc k) q r h i e))
names_apart (Some p ∷ slots) apart =
    and_both
    (not_false (not_among p.schema.name slots (λ k r h e. zero_less (apart 0 (suc k) p r refl h e))))
    (names_apart slots (λ j k q r h i e. suc_same (apart (suc j) (suc k) q r h i e)))

-- ---- indexes

-- no two indexes are on one place
abbrev ArePlaced : List (Option Index) → Type 0
ArePlaced slots = (j k : ℕ) (a b : Index) → StandsIn slots j a → StandsIn slots k b → a.relation ≡ b.relation → a.attribute ≡ b.attribute → j ≡ k

-- none of some indexes is on the place of one in a used slot
abbrev AreElsewhere : List Index → List (Option Index) → Type 0
AreElsewhere before slots = (k : ℕ) (index : Index) → StandsIn slots k index → list_any (is_on index.relation index.attribute) before ≡ false

any-append : (p : Index → Bool) (xs ys : List Index) → list_any p (xs ++ ys) ≡ (list_any p xs || list_any p ys)
any-append p [] ys = refl
any-append p (x ∷ xs) ys = by_test (p x) (any-append p xs ys)
  where
    by_test : (t : Bool) → list_any p (xs ++ ys) ≡ (list_any p xs || list_any p ys) → (t || list_any p (xs ++ ys)) ≡ ((t || list_any p xs) || list_any p ys)
    by_test true h = refl
    by_test false h = h

not_on : (a b : Index) → (a.relation ≡ b.relation → a.attribute ≡ b.attribute → ⊥) → is_on b.relation b.attribute a ≡ false
not_on a b other = by_test (a.relation == b.relation) (a.attribute == b.attribute) refl refl
  where
    by_test : (s t : Bool) → (a.relation == b.relation) ≡ s → (a.attribute == b.attribute) ≡ t → (s && t) ≡ false
    by_test false t e f = refl
    by_test true false e f = refl
    by_test true true e f = absurd (other ((Decides-eqb a.relation b.relation).0 e) ((Decides-eqb a.attribute b.attribute).0 f))

elsewhere_more : (before : List Index) (index : Index) (slots : List (Option Index)) → ArePlaced (Some index ∷ slots) → AreElsewhere before (Some index ∷ slots) → AreElsewhere (before ++ index ∷ []) slots
elsewhere_more before index slots placed elsewhere k other h =
    any-append (is_on other.relation other.attribute) before (index ∷ [])
    ∙ ap (λ t. t || list_any (is_on other.relation other.attribute) (index ∷ [])) (elsewhere (suc k) other h)
    ∙ ap (λ t. t || false) (not_on index other (λ e f. zero_less (placed 0 (suc k) index other refl h e f)))

tables-append : (xs ys : List Index) → length (filter is_hash_table (xs ++ ys)) ≡ length (filter is_hash_table xs) + length (filter is_hash_table ys)
tables-append [] ys = let e : length (filter is_hash_table ys) ≡ 0 + length (filter is_hash_table ys) = omega arith in e
tables-append (x ∷ xs) ys = by_test (is_hash_table x) (tables-append xs ys)
  where
    by_test : (t : Bool) → length (filter is_hash_table (xs ++ ys)) ≡ length (filter is_hash_table xs) + length (filter is_hash_table ys)
        → length (cond t (x ∷ filter is_hash_table (xs ++ ys)) (filter is_hash_table (xs ++ ys)))
        ≡ length (cond t (x ∷ filter is_hash_table xs) (filter is_hash_table xs)) + length (filter is_hash_table ys)
    by_test true h = omega (arith, h)
    by_test false h = h

suits_kind : (index : Index) (before rest : List Index) (rows : List Row) → length (filter is_hash_table (before ++ index ∷ rest)) ≤ most_tables → SuitKind index.kind (keys index.attribute rows) → SuitsKind index.kind before index.attribute rows
suits_kind index before rest rows few h = by_kind index.kind refl h
  where
    by_kind : (kind : IndexKind) → index.kind ≡ kind → SuitKind kind (keys index.attribute rows) → SuitsKind kind before index.attribute rows
    by_kind Inline e i = i
    by_kind MaxHeap e i = tt
    by_kind MemHash e i =
        let counted = tables-append before (index ∷ rest) in
        let one : is_hash_table index ≡ true = ap (λ kind. is_hash_table (record index { kind = kind })) e in
        let more : length (filter is_hash_table (index ∷ rest)) ≡ suc (length (filter is_hash_table rest)) = ap (λ t. length (cond t (index ∷ filter is_hash_table rest) (filter is_hash_table rest))) one in
        let many = length-map rows (λ row. key_of (slice_get row.tuple index.attribute)) in
        (omega (arith, counted, more, few), omega (arith, many, i))

index_facts : (relations : List (Option Relation)) (before rest : List Index) (index : Index) → length (filter is_hash_table (before ++ index ∷ rest)) ≤ most_tables
    → list_any (is_on index.relation index.attribute) before ≡ false → IsSoundIndex relations index → IndexFacts relations before index
index_facts relations before rest index few alone is = record {
  relation = is.relation;
  attribute = is.suits.attribute;
  used = is.stands;
  placed = is.suits.placed;
  allowed = is.suits.allowed;
  alone = alone;
  kind = suits_kind index before rest is.relation.rows few is.suits.keys;
}

all_index_facts : (relations : List (Option Relation)) (before : List Index) (slots : List (Option Index))
    → ((k : ℕ) (index : Index) → StandsIn slots k index → IsSoundIndex relations index) → ArePlaced slots → AreElsewhere before slots
    → length (filter is_hash_table (before ++ used_things slots)) ≤ most_tables → AllIndexFacts relations before (used_things slots)
all_index_facts relations before [] each placed elsewhere few = tt
all_index_facts relations before (None ∷ slots) each placed elsewhere few =
    all_index_facts relations before slots (λ k index h. each (suc k) index h) (λ j k a b h i e f. suc_same (placed (suc j) (suc k) a b h i e f)) (λ k index h. elsewhere (suc k) index h) few
all_index_facts relations before (Some index ∷ slots) each placed elsewhere few = (
  index_facts relations before (used_things slots) index few (elsewhere 0 index refl) (each 0 index refl),
  all_index_facts relations (before ++ index ∷ []) slots (λ k other h. each (suc k) other h) (λ j k a b h i e f. suc_same (placed (suc j) (suc k) a b h i e f))
      (elsewhere_more before index slots placed elsewhere)
      (subst (λ xs. length (filter is_hash_table xs) ≤ most_tables) (sym (append_assoc before (index ∷ []) (used_things slots))) few),
)

-- ---- databases

pub database_facts : (db : Database) → IsSoundDatabase db → DatabaseFacts db
database_facts db is = record {
  eight_relations = is.eight_relations;
  eight_indexes = is.eight_indexes;
  relations = all_used RelationFacts db.relations (λ k r h. relation_facts db.version r is.version (is.relations k r h));
  distinct = names_apart db.relations is.names;
  indexes = all_index_facts db.relations [] db.indexes is.indexes is.places (λ k index h. refl) is.few_tables;
}
