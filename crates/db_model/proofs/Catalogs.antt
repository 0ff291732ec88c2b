-- What was written of a catalog is read back.
use Rattle.std.proofs.Common.{◌≡◌, refl, sym, ap, subst, ◌∙◌, ℕ, zero, suc, ◌+◌, ◌-◌, ◌*◌, ◌≤◌, ◌⊎◌, inl, inr, true, false, ◌&&◌, List, [], ◌∷◌, ◌++◌, length, take, drop, arith, append_assoc, length-append}
use Rattle.std.specs.Prelude.{IsTrue, replicate, slice_range, slice_index, map, nat_le, ◌==◌, flat_map, Option, Some, None, is_some, not, ⊤}
use Rattle.std.specs.List.{list_all, range_with_len, AllByRecursion}
use Rattle.std.specs.Char.{is_ascii_alphabetic}
use Rattle.std.proofs.lemmas.Bool.{leb-true}
use Rattle.std.proofs.lemmas.Bool.Decides.{nat_tests}
use Rattle.std.proofs.lemmas.List.{get_or-append-add, get_or_append_left}
use Rattle.std.proofs.Math.Nat.{mul-suc, mul-zero}
use Rattle.db_model.specs.declared.schemas.Attribute.{Attribute}
use Rattle.db_model.specs.declared.schemas.Domain.{Domain}
use Rattle.db_model.specs.declared.schemas.Domain.TheVariants.{Int, Long, Time, Str}
use Rattle.db_model.specs.declared.schemas.IndexKind.{IndexKind}
use Rattle.db_model.specs.declared.schemas.IndexKind.TheVariants.{Inline, MaxHeap, MemHash}
use Rattle.db_model.specs.declared.schemas.Schema.{Schema}
use Rattle.db_model.specs.Catalog.{Index, Catalog, IsDomain, IsAttribute, IsRelation, IsCatalog, domain_code, domain_length, domain_from, attribute_bytes, attribute_of, attributes_of, relation_slot_bytes, relation_slot_of, index_slot_bytes, index_slot_of, version_mark, version_bytes, catalog_bytes, version_of, relation_at, index_at, catalog_of}
use Rattle.db_model.specs.Keywords.{keyword_of}
use Rattle.db_model.specs.Names.{is_name, is_word, is_word_byte}
use Rattle.padded.specs.Padded.{padded}
use Rattle.db_model.specs.Row.{up_to_zero}
use Rattle.db_model.proofs.Rows.{take_front, drop_front, length-padded}
use Rattle.padded.proofs.Facts.{both_parts}

-- ---- names

pub word_byte-some : (b : ℕ) → is_word_byte b ≡ true → (b == 0) ≡ false
word_byte-some zero e = cc
word_byte-some (suc b) e = grind (arith, nat_tests)

letter-some : (b : ℕ) → is_ascii_alphabetic b ≡ true → (b == 0) ≡ false
letter-some zero e = cc
letter-some (suc b) e = grind (arith, nat_tests)

up_to_zero-bytes : (bytes : List ℕ) (k : ℕ) → list_all is_word_byte bytes ≡ true → up_to_zero (bytes ++ replicate k 0) ≡ bytes
up_to_zero-bytes [] zero e = refl
up_to_zero-bytes [] (suc k) e = refl
up_to_zero-bytes (b ∷ bytes) k e =
    let passes : (is_word_byte b ≡ true) × (list_all is_word_byte bytes ≡ true) = both_parts (is_word_byte b) (list_all is_word_byte bytes) e in
    rw (word_byte-some b passes.0, up_to_zero-bytes bytes k passes.1) refl

-- what a name is: a letter, then bytes of a word, at most 15 in all
record IsNamed (bytes : List ℕ) : Type 0 where
  some : (slice_index bytes 0 == 0) ≡ false
  long : 1 ≤ length bytes
  short : length bytes ≤ 15
  cut : (k : ℕ) → up_to_zero (bytes ++ replicate k 0) ≡ bytes

named : (bytes : List ℕ) → is_name bytes ≡ true → IsNamed bytes
named [] e = cc
named (b ∷ bytes) e =
    let word : (is_word (b ∷ bytes) ≡ true) × (not (is_some (keyword_of (b ∷ bytes))) ≡ true) = both_parts (is_word (b ∷ bytes)) (not (is_some (keyword_of (b ∷ bytes)))) e in
    let front : ((nat_le (length bytes) 14 && is_ascii_alphabetic b) ≡ true) × (list_all is_word_byte bytes ≡ true) = both_parts (nat_le (length bytes) 14 && is_ascii_alphabetic b) (list_all is_word_byte bytes) word.0 in
    let first : (nat_le (length bytes) 14 ≡ true) × (is_ascii_alphabetic b ≡ true) = both_parts (nat_le (length bytes) 14) (is_ascii_alphabetic b) front.0 in
    let some : (b == 0) ≡ false = letter-some b first.1 in
    let few : length bytes ≤ 14 = leb-true (length bytes) 14 first.0 in
    record {
      some = some;
      long = omega arith;
      short = omega (arith, few);
      cut = λ k. rw (some, up_to_zero-bytes bytes k front.1) refl;
    }

name_back : (name rest : List ℕ) → is_name name ≡ true → up_to_zero (take 16 (padded 16 name ++ rest)) ≡ name
name_back name rest e =
    let n = named name e in
    rw (take_front 16 (padded 16 name) rest (length-padded 16 name (omega (arith, n.short)))) (n.cut (16 - length name))

-- ---- attributes

-- an element behind some front, by the front's length
at_behind : (xs ys : List ℕ) (n i : ℕ) → length xs ≡ n → slice_index (xs ++ ys) (n + i) ≡ slice_index ys i
at_behind xs ys n i e = subst (λ m. slice_index (xs ++ ys) (m + i) ≡ slice_index ys i) e (get_or-append-add xs ys i 0)

domain_back : (d : Domain) → IsDomain d → domain_from (domain_code d) (domain_length d) ≡ d
domain_back Int e = refl
domain_back Long e = refl
domain_back Time e = refl
domain_back (Str n) e = refl

length-attribute : (a : Attribute) → IsAttribute a → length (attribute_bytes a) ≡ 18
length-attribute a e =
    let name : length (padded 16 a.name) ≡ 16 = length-padded 16 a.name (omega (arith, (named a.name e.0).short)) in
    length-append (padded 16 a.name) (domain_code a.domain ∷ domain_length a.domain ∷ []) ∙ omega (arith, name)

attribute_back : (a : Attribute) → IsAttribute a → attribute_of (attribute_bytes a) ≡ a
attribute_back a e =
    let size : length (padded 16 a.name) ≡ 16 = length-padded 16 a.name (omega (arith, (named a.name e.0).short)) in
    let tail : List ℕ = domain_code a.domain ∷ domain_length a.domain ∷ [] in
    let code : slice_index (padded 16 a.name ++ tail) 16 ≡ domain_code a.domain = at_behind (padded 16 a.name) tail 16 0 size in
    let long : slice_index (padded 16 a.name ++ tail) 17 ≡ domain_length a.domain = at_behind (padded 16 a.name) tail 16 1 size in
    rw (name_back a.name tail e.0, code, long, domain_back a.domain e.1) refl

-- ---- equal parts, one after the other

-- parts of one size that stand from place a on are read back one by one
parts_back : {X : Type 0} (P : X → Type 0) (size : ℕ) (encoded : X → List ℕ) (decoded : List ℕ → X) (place : ℕ → ℕ)
    → ((x : X) → P x → length (encoded x) ≡ size) → ((x : X) → P x → decoded (encoded x) ≡ x) → ((k : ℕ) → place (k + 1) ≡ place k + size)
    → (xs : List X) → AllByRecursion P xs → (front rest : List ℕ) (a : ℕ) → length front ≡ place a
    → map (λ k. decoded (slice_range (front ++ (flat_map encoded xs ++ rest)) (place k) (place k + size))) (range_with_len a (length xs)) ≡ xs
parts_back P size encoded decoded place long back next [] all front rest a at = refl
parts_back {X} P size encoded decoded place long back next (x ∷ xs) all front rest a at =
    let first : List ℕ = encoded x in
    let behind : List ℕ = flat_map encoded xs ++ rest in
    let whole : List ℕ = front ++ (flat_map encoded (x ∷ xs) ++ rest) in
    let parted : whole ≡ front ++ (first ++ behind) = ap (λ bytes. front ++ bytes) (append_assoc first (flat_map encoded xs) rest) in
    let grown : whole ≡ (front ++ first) ++ behind = parted ∙ sym (append_assoc front first behind) in
    let size_of_first = long x all.0 in
    let longer : length (front ++ first) ≡ place (a + 1) = length-append front first ∙ (let e = next a in omega (arith, at, size_of_first, e)) in
    let here : slice_range whole (place a) (place a + size) ≡ first =
    ap (λ bytes. slice_range bytes (place a) (place a + size)) parted
    ∙ ap (λ bytes. take (place a + size - place a) bytes) (drop_front (place a) front (first ++ behind) at)
    ∙ take_front (place a + size - place a) first behind (omega (arith, size_of_first)) in
    let others : map (λ k. decoded (slice_range whole (place k) (place k + size))) (range_with_len (a + 1) (length xs)) ≡ xs =
    ap (λ bytes. map (λ k. decoded (slice_range bytes (place k) (place k + size))) (range_with_len (a + 1) (length xs))) grown
    ∙ parts_back P size encoded decoded place long back next xs all.1 (front ++ first) rest (a + 1) longer in
    ap (λ y. y ∷ map (λ k. decoded (slice_range whole (place k) (place k + size))) (range_with_len (a + 1) (length xs))) (ap decoded here ∙ back x all.0)
    ∙ ap (λ ys. x ∷ ys) others

-- all parts together
length-parts : {X : Type 0} (P : X → Type 0) (size : ℕ) (encoded : X → List ℕ) → ((x : X) → P x → length (encoded x) ≡ size)
    → (xs : List X) → AllByRecursion P xs → length (flat_map encoded xs) ≡ size * length xs
length-parts P size encoded long [] all = sym (mul-zero size)
length-parts P size encoded long (x ∷ xs) all =
    let one = long x all.0 in
    let rest = length-parts P size encoded long xs all.1 in
    let more : size * suc (length xs) ≡ size * length xs + size = mul-suc size (length xs) in
    length-append (encoded x) (flat_map encoded xs) ∙ omega (arith, one, rest, more)

-- ---- relation slots

length-attributes : (schema : Schema) → IsRelation (Some schema) → length (padded 144 (flat_map attribute_bytes schema.attributes)) ≡ 144
length-attributes schema e =
    let all : length (flat_map attribute_bytes schema.attributes) ≡ 18 * length schema.attributes =
    length-parts (λ a. IsAttribute a) 18 attribute_bytes length-attribute schema.attributes e.2 in
    let few : length schema.attributes ≤ 8 = e.1 in
    length-padded 144 (flat_map attribute_bytes schema.attributes) (omega (arith, all, few))

length-name : (name : List ℕ) → IsTrue (is_name name) → length (padded 16 name) ≡ 16
length-name name e = length-padded 16 name (omega (arith, (named name e).short))

-- the count, and the byte at the end
abbrev slot_end : Schema → List ℕ
slot_end schema = padded 15 (length schema.attributes ∷ []) ++ 1 ∷ []

slot_grouped : (schema : Schema) → relation_slot_bytes (Some schema) ≡ padded 16 schema.name ++ (padded 144 (flat_map attribute_bytes schema.attributes) ++ slot_end schema)
slot_grouped schema =
    let name : List ℕ = padded 16 schema.name in
    let attributes : List ℕ = padded 144 (flat_map attribute_bytes schema.attributes) in
    let count : List ℕ = padded 15 (length schema.attributes ∷ []) in
    append_assoc (name ++ attributes) count (1 ∷ []) ∙ append_assoc name attributes (slot_end schema)

pub length-relation_slot : (slot : Option Schema) → IsRelation slot → length (relation_slot_bytes slot) ≡ 176
length-relation_slot None e = refl
length-relation_slot (Some schema) e =
    let name = length-name schema.name e.0 in
    let attributes = length-attributes schema e in
    let inner = length-append (padded 144 (flat_map attribute_bytes schema.attributes)) (slot_end schema) in
    ap length (slot_grouped schema) ∙ length-append (padded 16 schema.name) (padded 144 (flat_map attribute_bytes schema.attributes) ++ slot_end schema)
    ∙ omega (arith, name, attributes, inner)

read_slot : (bytes : List ℕ) (schema : Schema) → (slice_index bytes 0 == 0) ≡ false → up_to_zero (take 16 bytes) ≡ schema.name → slice_index bytes 160 ≡ length schema.attributes
    → attributes_of (length schema.attributes) (drop 16 bytes) ≡ schema.attributes → relation_slot_of bytes ≡ Some schema
read_slot bytes schema some name count attributes = rw (some, name, count, attributes) refl

first_of_name : (name rest : List ℕ) → IsTrue (is_name name) → (slice_index (padded 16 name ++ rest) 0 == 0) ≡ false
first_of_name name rest e =
    let n = named name e in
    let zeros : List ℕ = replicate (16 - length name) 0 in
    let first : slice_index (name ++ zeros ++ rest) 0 ≡ slice_index name 0 =
    ap (λ bytes. slice_index bytes 0) (append_assoc name zeros rest) ∙ get_or_append_left name (zeros ++ rest) 0 0 (omega (arith, n.long)) in
    rw first n.some

attributes_back : (attributes : List Attribute) (rest : List ℕ) → AllByRecursion IsAttribute attributes
    → attributes_of (length attributes) (padded 144 (flat_map attribute_bytes attributes) ++ rest) ≡ attributes
attributes_back attributes rest all =
    let flat : List ℕ = flat_map attribute_bytes attributes in
    let zeros : List ℕ = replicate (144 - length flat) 0 in
    ap (attributes_of (length attributes)) (append_assoc flat zeros rest)
    ∙ parts_back (λ a. IsAttribute a) 18 attribute_bytes attribute_of (λ j. 18 * j) length-attribute attribute_back (λ k. omega arith) attributes all [] (zeros ++ rest) 0 refl

pub relation_slot_back : (slot : Option Schema) → IsRelation slot → relation_slot_of (relation_slot_bytes slot) ≡ slot
relation_slot_back None e = refl
relation_slot_back (Some schema) e =
    let name : List ℕ = padded 16 schema.name in
    let attributes : List ℕ = padded 144 (flat_map attribute_bytes schema.attributes) in
    let behind : List ℕ = attributes ++ slot_end schema in
    let sixteen : length name ≡ 16 = length-name schema.name e.0 in
    let front : length (name ++ attributes) ≡ 160 = length-append name attributes ∙ (let all = length-attributes schema e in omega (arith, sixteen, all)) in
    let count : slice_index (name ++ behind) 160 ≡ length schema.attributes =
    ap (λ bytes. slice_index bytes 160) (sym (append_assoc name attributes (slot_end schema))) ∙ at_behind (name ++ attributes) (slot_end schema) 160 0 front in
    let past : drop 16 (name ++ behind) ≡ behind = drop_front 16 name behind sixteen in
    ap relation_slot_of (slot_grouped schema)
    ∙ read_slot (name ++ behind) schema (first_of_name schema.name behind e.0) (name_back schema.name behind e.0) count
    (ap (attributes_of (length schema.attributes)) past ∙ attributes_back schema.attributes (slot_end schema) e.2)

-- ---- index slots

pub index_slot_back : (slot : Option Index) → index_slot_of (index_slot_bytes slot) ≡ slot
index_slot_back None = refl
index_slot_back (Some index) = kinds index.kind index
  where
    kinds : (kind : IndexKind) (index : Index) → index_slot_of (index_slot_bytes (Some (record index { kind = kind }))) ≡ Some (record index { kind = kind })
    kinds Inline index = refl
    kinds MaxHeap index = refl
    kinds MemHash index = refl

pub length-index_slot : (slot : Option Index) → length (index_slot_bytes slot) ≡ 8
length-index_slot None = refl
length-index_slot (Some index) = refl

-- ---- the whole

pub catalog_back : (catalog : Catalog) → IsCatalog catalog → catalog_of (catalog_bytes catalog) ≡ catalog
catalog_back catalog e =
    let relations : List ℕ = flat_map relation_slot_bytes catalog.relations in
    let indexes : List ℕ = flat_map index_slot_bytes catalog.indexes in
    let mark : List ℕ = version_bytes catalog.version in
    let any : AllByRecursion (λ (slot : Option Index). ⊤) catalog.indexes = each catalog.indexes in
    let grouped : catalog_bytes catalog ≡ relations ++ (indexes ++ mark) = append_assoc relations indexes mark in
    let first : length relations ≡ 1408 = length-parts (λ slot. IsRelation slot) 176 relation_slot_bytes length-relation_slot catalog.relations e.relations ∙ ap (λ n. 176 * n) e.eight_relations in
    let second : length indexes ≡ 64 = length-parts (λ (slot : Option Index). ⊤) 8 index_slot_bytes (λ slot p. length-index_slot slot) catalog.indexes any ∙ ap (λ n. 8 * n) e.eight_indexes in
    let relations_back : map (relation_at (relations ++ (indexes ++ mark))) (range_with_len 0 8) ≡ catalog.relations =
    ap (λ n. map (relation_at (relations ++ (indexes ++ mark))) (range_with_len 0 n)) (sym e.eight_relations)
    ∙ parts_back (λ slot. IsRelation slot) 176 relation_slot_bytes relation_slot_of (λ k. 176 * k) length-relation_slot relation_slot_back (λ k. omega arith) catalog.relations e.relations [] (indexes ++ mark) 0 refl in
    let indexes_back : map (index_at (relations ++ (indexes ++ mark))) (range_with_len 0 8) ≡ catalog.indexes =
    ap (λ n. map (index_at (relations ++ (indexes ++ mark))) (range_with_len 0 n)) (sym e.eight_indexes)
    ∙ parts_back (λ (slot : Option Index). ⊤) 8 index_slot_bytes index_slot_of (λ k. 1408 + 8 * k) (λ slot p. length-index_slot slot) (λ slot p. index_slot_back slot) (λ k. omega arith) catalog.indexes any relations mark 0 first in
    let version : version_of (relations ++ (indexes ++ mark)) ≡ catalog.version = version_back catalog.version e.version relations indexes first second in
    ap catalog_of grouped ∙ rw (relations_back, indexes_back, version) refl
  where
    each : (slots : List (Option Index)) → AllByRecursion (λ (slot : Option Index). ⊤) slots
    each [] = tt
    each (slot ∷ slots) = (tt, each slots)

    total : (relations indexes : List ℕ) → length relations ≡ 1408 → length indexes ≡ 64 → (mark : List ℕ) (n : ℕ) → length mark ≡ n → length (relations ++ (indexes ++ mark)) ≡ 1472 + n
    total relations indexes first second mark n last =
        let inner = length-append indexes mark in
        length-append relations (indexes ++ mark) ∙ omega (arith, first, second, last, inner)

    version_back : (version : ℕ) → (version ≡ 1) ⊎ (version ≡ 2) → (relations indexes : List ℕ) → length relations ≡ 1408 → length indexes ≡ 64 → version_of (relations ++ (indexes ++ version_bytes version)) ≡ version
    version_back version (inl one) relations indexes first second =
        subst (λ v. version_of (relations ++ (indexes ++ version_bytes v)) ≡ v) (sym one) (rw (total relations indexes first second [] 0 refl) refl)
    version_back version (inr two) relations indexes first second =
        subst (λ v. version_of (relations ++ (indexes ++ version_bytes v)) ≡ v) (sym two) (rw (total relations indexes first second version_mark 8 refl) refl)
