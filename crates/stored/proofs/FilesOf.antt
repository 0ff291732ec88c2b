-- The files of a sound image are those of the database that it stands for.
use Rattle.std.proofs.Common.{◌≡◌, ℕ, zero, suc, ◌+◌, ◌-◌, ◌*◌, ◌<◌, ◌≤◌, ⊎_elim, ◌⊎◌, inl, inr, Bool, true, false, not, ◌||◌, ◌==◌, nat_le, List, [], ◌∷◌, length, map, get_or, Option, Some, None, if◌then◌else◌, refl, ap, sym, subst, ◌∙◌, arith}
use Rattle.std.specs.Prelude.{is_some, option_map, flat_map, unwrap_or}
use Rattle.std.specs.Int.{is_in_range}
use Rattle.std.specs.List.{range_with_len}
use Rattle.std.specs.Str.{bytes_eq}
use Rattle.std.proofs.lemmas.Bool.{cases_lt}
use Rattle.std.proofs.lemmas.Bool.Decides.{nat_tests}
use Rattle.std.proofs.lemmas.List.{get_or_past, length-append, length-map}
use Rattle.std.proofs.lemmas.List.FromFn.{get_or-map-range_with_len}
use Rattle.std.proofs.lemmas.Slice.Eq.{bytes_eq-Decides}
use Rattle.afl_base.specs.Files.{AreDistinct, File, Table, place}
use Rattle.afl_base.specs.declared.kind.Kind.{Kind}
use Rattle.afl_base.specs.declared.kind.Kind.TheVariants.{Doubling, Fixed}
use Rattle.db_model.specs.declared.schemas.Attribute.{Attribute}
use Rattle.db_model.specs.declared.schemas.IndexKind.{IndexKind}
use Rattle.db_model.specs.declared.schemas.IndexKind.TheVariants.{Inline, MaxHeap, MemHash}
use Rattle.db_model.specs.declared.schemas.Schema.{Schema}
use Rattle.db_model.specs.Catalog.{Index}
use Rattle.db_model.specs.Database.{Relation}
use Rattle.db_model.specs.Row.{row_at, row_bytes, row_length, rows_of, slots_in_bytes}
use Rattle.db_model.proofs.Decoded.{length-row_read}
use Rattle.space_model.specs.FileNames.{catalog_file, rows_file, tree_file}
use Rattle.tuple_file.specs.Tuples.{AreRows}
use Rattle.stored.specs.Sound.{IsIndexComplete, IsSoundTable, keys_stored}
use Rattle.space_model.specs.FileNames.{bytes_named}
use Rattle.index_tree.proofs.Law.{sized}
use Rattle.stored.specs.Base.{base_of, relation_stored}
use Rattle.catalog.specs.Rules.{catalog_in}
use Rattle.catalog.specs.Rules.{breaks_files, broken_slot, broken_catalog, catalog_bytes_in, differ, earliest, first, first_broken, is_numbered, is_of_database, is_stranger, is_tree}
use Rattle.space_model.specs.FileNames.{bytes_in_file, file_named, is_there}
use Rattle.space_model.proofs.NamedFiles.{named_here}
use Rattle.stored.specs.Sizes.{HasFilesOf, IsRowsOf, IsTreeFileOf}
use Rattle.padded.proofs.Facts.{true_or_false, lt_true, lt_false, true_eq, some_found, both_parts, other_side}

-- files stand under the ids 0 to 31 alone
abbrev pub AreInTable : Table → Type 0
AreInTable files = (id : ℕ) (f : File) → place files id ≡ Some f → id < 32

pub in_table : (files : Table) → length files ≡ 32 → AreInTable files
in_table files size id f e = ⊎_elim
    (λ (less : id < 32). less)
    (λ (past : 32 ≤ id).
    let none : place files id ≡ None = get_or_past files id None (omega (arith, size, past)) in
    let no : None ≡ Some f = sym none ∙ e in
    absurd (let n : ⊥ = cc in n))
    (cases_lt id 32)

-- ---- searches that find nothing

pub first_false : (test : ℕ → Bool) (n k : ℕ) → k < n → first n test ≡ None → test k ≡ false
unfolding first
first_false test zero k h e = absurd (omega (arith, h))
first_false test (suc n) k h e =
    let parts = last_none (first n test) (test n) n e in
    ⊎_elim
    (λ (before : k < n). first_false test n k before parts.0)
    (λ (here : n ≤ k). let same : k ≡ n = omega (arith, h, here) in ap test same ∙ parts.1)
    (cases_lt k n)
  where
    last_none : (o : Option ℕ) (b : Bool) (n : ℕ) → ◌≡◌ {A = Option ℕ} (elim o [ Some k ↦ Some k | None ↦ if b then Some n else None ]) None → (o ≡ None) × (b ≡ false)
    last_none None true n e = cc
    last_none None false n e = (refl, refl)
    last_none (Some k) b n e = cc

pub earliest_none : (o : Option (ℕ × ℕ)) (rest : List (Option (ℕ × ℕ))) → earliest (o ∷ rest) ≡ None → (o ≡ None) × (earliest rest ≡ None)
earliest_none None rest e = (refl, e)
earliest_none (Some b) rest e = cc

pub nothing_broken : (rule : ℕ) (o : Option ℕ) → broken_slot rule o ≡ None → o ≡ None
nothing_broken rule None e = refl
nothing_broken rule (Some k) e = cc

-- ---- the rules 14 and 18

pub record Unbroken (files : Table) : Type 0 where
  pub strangers : first 32 (is_stranger files) ≡ None
  pub inner : broken_catalog (catalog_bytes_in files) ≡ None
  pub files_there : first 16 (breaks_files files (catalog_in files).relations (catalog_in files).indexes) ≡ None

pub unbroken : (files : Table) → first_broken files ≡ None → Unbroken files
unfolding first_broken
unbroken files e =
    let fourteen : Option (ℕ × ℕ) = broken_slot 14 (first 32 (is_stranger files)) in
    let eighteen : Option (ℕ × ℕ) = broken_slot 18 (first 16 (breaks_files files (catalog_in files).relations (catalog_in files).indexes)) in
    let a = earliest_none fourteen (broken_catalog (catalog_bytes_in files) ∷ eighteen ∷ []) e in
    let b = earliest_none (broken_catalog (catalog_bytes_in files)) (eighteen ∷ []) a.1 in
    let c = earliest_none eighteen [] b.1 in
    record {
      strangers = nothing_broken 14 (first 32 (is_stranger files)) a.0;
      inner = b.0;
      files_there = nothing_broken 18 (first 16 (breaks_files files (catalog_in files).relations (catalog_in files).indexes)) c.0;
    }

in_range : (lo hi n : ℕ) → is_in_range lo hi n ≡ true → (lo ≤ n) × (n ≤ hi)
in_range lo hi n e =
    let parts = both_parts (nat_le lo n) (nat_le n hi) e in
    (true_le lo n parts.0, true_le n hi parts.1)
  where
    true_le : (a b : ℕ) → nat_le a b ≡ true → a ≤ b
    true_le a b h = grind (arith, nat_tests)

-- ---- rule 14: which names there are

pub record IsNumbered (letter : ℕ) (name : List ℕ) : Type 0 where
  pub slot : ℕ
  pub below : slot < 8
  pub is : name ≡ letter ∷ (48 + slot) ∷ []

numbered : (name : List ℕ) → is_numbered name ≡ true → IsNumbered 84 name ⊎ IsNumbered 88 name
numbered [] e = cc
numbered (a ∷ []) e = cc
numbered (a ∷ b ∷ c ∷ rest) e = cc
numbered (a ∷ b ∷ []) e =
    let parts = both_parts (a == 84 || a == 88) (is_in_range 48 55 b) e in
    let digit = in_range 48 55 b parts.1 in
    let low = digit.0 in
    let high = digit.1 in
    let back : b ≡ 48 + (b - 48) = omega (arith, low) in
    ⊎_elim
    (λ (t : a == 84 ≡ true). inl (record { slot = b - 48; below = omega (arith, low, high); is = ap (λ x. x ∷ b ∷ []) (true_eq a 84 t) ∙ ap (λ x. 84 ∷ x ∷ []) back }))
    (λ (f : a == 84 ≡ false). inr (record { slot = b - 48; below = omega (arith, low, high); is = ap (λ x. x ∷ b ∷ []) (true_eq a 88 (other_side (a == 84) (a == 88) f parts.0)) ∙ ap (λ x. 88 ∷ x ∷ []) back }))
    (true_or_false (a == 84))

module _ (name : List ℕ) where
  pub by_kind : (kind : Kind) → is_of_database name kind ≡ true → ((name ≡ catalog_file) × (kind ≡ Fixed 6)) ⊎ ((IsNumbered 84 name ⊎ IsNumbered 88 name) × (kind ≡ Doubling))
  by_kind Doubling e = inr (numbered name e, refl)
  by_kind (Fixed n) e =
      let parts = both_parts (n == 6) (bytes_eq name catalog_file) e in
      inl ((bytes_eq-Decides name catalog_file).0 parts.1, ap (λ k. Fixed k) (true_eq n 6 parts.0))

-- ---- rule 18: they are used

-- a file that is there is wanted
wanted : (there used : Bool) → differ there used ≡ false → there ≡ true → used ≡ true
wanted true true e t = refl
wanted true false e t = cc
wanted false used e t = cc

tree_there : (o : Option Index) → is_tree o ≡ true → (x : Index) × (o ≡ Some x) × (x.kind ≡ MaxHeap)
tree_there None e = cc
tree_there (Some x) e = (x, refl, by_kind x.kind e)
  where
    by_kind : (kind : IndexKind) → elim kind [ Inline ↦ false | MaxHeap ↦ true | MemHash ↦ false ] ≡ true → kind ≡ MaxHeap
    by_kind Inline e = cc
    by_kind MaxHeap e = refl
    by_kind MemHash e = cc

-- what is left of rule 18 at a place
pub rows_wanted : (files : Table) (relations : List (Option Schema)) (indexes : List (Option Index)) (slot : ℕ) → slot < 8 → breaks_files files relations indexes slot ≡ false
    → differ (is_there (rows_file slot) files) (is_some (get_or relations slot None)) ≡ false
unfolding breaks_files
rows_wanted files relations indexes slot below e = rw (lt_true slot 8 below) at e

pub tree_wanted : (files : Table) (relations : List (Option Schema)) (indexes : List (Option Index)) (slot : ℕ) → breaks_files files relations indexes (8 + slot) ≡ false
    → differ (is_there (tree_file slot) files) (is_tree (get_or indexes slot None)) ≡ false
unfolding breaks_files
tree_wanted files relations indexes slot e =
    let back : 8 + slot - 8 ≡ slot = omega arith in
    rw (lt_false (8 + slot) 8 (omega arith), back) at e

-- ---- rule 19: rows are whole

length-read : (attributes : List Attribute) (bytes : List ℕ) (slots : List ℕ) → length (flat_map (row_bytes attributes) (map (row_at attributes bytes) slots)) ≡ row_length attributes * length slots
length-read attributes bytes [] = grind arith
length-read attributes bytes (k ∷ slots) =
    let rest = length-read attributes bytes slots in
    let part : List ℕ = row_bytes attributes (row_at attributes bytes k) in
    let here : length part ≡ row_length attributes = length-row_read attributes _ in
    let all = length-append part (flat_map (row_bytes attributes) (map (row_at attributes bytes) slots)) in
    let more : row_length attributes * (1 + length slots) ≡ row_length attributes + row_length attributes * length slots = grind arith in
    omega (arith, rest, here, all, more)

pub whole_rows : (version : ℕ) (attributes : List Attribute) (bytes : List ℕ) → AreRows version attributes bytes → length bytes ≡ row_length attributes * length (rows_of attributes bytes)
whole_rows version attributes bytes r =
    let size = length-read attributes bytes (range_with_len 0 (slots_in_bytes attributes bytes)) in
    let slots : length (rows_of attributes bytes) ≡ length (range_with_len 0 (slots_in_bytes attributes bytes)) = length-map (range_with_len 0 (slots_in_bytes attributes bytes)) (row_at attributes bytes) in
    sym (ap length r.whole) ∙ size ∙ ap (λ n. row_length attributes * n) (sym slots)

-- ---- all of it

rows_file_of : (files : Table) (f : File) → AreDistinct files → IsSoundTable files → file_named f.name files ≡ Some f → f.kind ≡ Doubling → IsNumbered 84 f.name → IsRowsOf (base_of files) f
rows_file_of files f d s found kind n =
    let name : f.name ≡ rows_file n.slot = n.is in
    let here : file_named (rows_file n.slot) files ≡ Some f = ap (λ x. file_named x files) (sym name) ∙ found in
    let below : n.slot < 8 = n.below in
    let kept = rows_wanted files (catalog_in files).relations (catalog_in files).indexes n.slot n.below (first_false (breaks_files files (catalog_in files).relations (catalog_in files).indexes) 16 n.slot (omega (arith, below)) (unbroken files s.catalog).files_there) in
    let used = some_found (get_or (catalog_in files).relations n.slot None) (wanted (is_there (rows_file n.slot) files) (is_some (get_or (catalog_in files).relations n.slot None)) kept (ap is_some here)) in
    let schema : Schema = used.0 in
    let same : bytes_in_file (file_named (rows_file n.slot) files) ≡ f.bytes = ap bytes_in_file here in
    let relation : Relation = record { schema = schema; rows = rows_of schema.attributes (bytes_in_file (file_named (rows_file n.slot) files)) } in
    record {
      slot = n.slot;
      relation = relation;
      there = get_or-map-range_with_len (relation_stored files (catalog_in files).relations) 0 8 n.slot n.slot None n.below (omega arith)
          ∙ ap (option_map (λ x. record { schema = x; rows = rows_of x.attributes (bytes_in_file (file_named (rows_file n.slot) files)) })) used.1;
      name = name;
      kind = kind;
      size = ap length (sym same) ∙ whole_rows (catalog_in files).version schema.attributes (bytes_in_file (file_named (rows_file n.slot) files)) (s.rows n.slot n.below schema used.1);
    }

tree_file_of : (files : Table) (f : File) → AreDistinct files → IsSoundTable files → file_named f.name files ≡ Some f → f.kind ≡ Doubling → IsNumbered 88 f.name → IsTreeFileOf (base_of files) f
tree_file_of files f d s found kind n =
    let name : f.name ≡ tree_file n.slot = n.is in
    let here : file_named (tree_file n.slot) files ≡ Some f = ap (λ x. file_named x files) (sym name) ∙ found in
    let below : n.slot < 8 = n.below in
    let kept = tree_wanted files (catalog_in files).relations (catalog_in files).indexes n.slot (first_false (breaks_files files (catalog_in files).relations (catalog_in files).indexes) 16 (8 + n.slot) (omega (arith, below)) (unbroken files s.catalog).files_there) in
    let used = tree_there (get_or (catalog_in files).indexes n.slot None) (wanted (is_there (tree_file n.slot) files) (is_tree (get_or (catalog_in files).indexes n.slot None)) kept (ap is_some here)) in
    let same : bytes_in_file (file_named (tree_file n.slot) files) ≡ f.bytes = ap bytes_in_file here in
    record {
      slot = n.slot;
      index = used.0;
      there = used.1;
      heap = used.2;
      name = name;
      kind = kind;
      size = ap length (sym same)
          ∙ sized (bytes_named (tree_file n.slot) files) (keys_stored files used.0)
          (subst (λ k. IsIndexComplete k (bytes_named (tree_file n.slot) files) (keys_stored files used.0)) used.2 (s.indexes n.slot n.below used.0 used.1));
    }

-- the files of a sound image are those of its database
pub files_of_base : (files : Table) → AreDistinct files → AreInTable files → IsSoundTable files → HasFilesOf (base_of files) files
files_of_base files d few s = record {
  distinct = d;
  each = λ id f e.
      let found = named_here files id f d e in
      ⊎_elim
      (λ c. inl (record { name = c.0; kind = c.1 }))
      (λ n. inr (⊎_elim
      (λ (t : IsNumbered 84 f.name). inl (rows_file_of files f d s found n.1 t))
      (λ (x : IsNumbered 88 f.name). inr (tree_file_of files f d s found n.1 x))
      n.0))
      (by_kind f.name f.kind (of_database id f e));
}
  where
    turned : (b : Bool) → not b ≡ false → b ≡ true
    turned true e = refl
    turned false e = cc

    of_place : (o : Option File) (f : File) → o ≡ Some f → elim o [ None ↦ false | Some f ↦ not (is_of_database f.name f.kind) ] ≡ false → is_of_database f.name f.kind ≡ true
    of_place None f e t = cc
    of_place (Some g) f e t = let same : g ≡ f = ap (λ o. unwrap_or o g) e in ap (λ x. is_of_database x.name x.kind) (sym same) ∙ turned (is_of_database g.name g.kind) t

    of_database : (id : ℕ) (f : File) → place files id ≡ Some f → is_of_database f.name f.kind ≡ true
    of_database id f e = of_place (place files id) f e (first_false (is_stranger files) 32 id (few id f e) (unbroken files s.catalog).strangers)
