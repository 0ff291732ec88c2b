-- No command asks for more than the largest extent that is counted for it.
use Rattle.std.proofs.Common.{◌≡◌, refl, ap, subst, ◌∙◌, ℕ, ℤ, zero, suc, ◌+◌, ◌-◌, ◌*◌, ◌<◌, ◌≤◌, ◌⊎◌, inl, inr, Bool, true, false, List, [], ◌∷◌, ◌++◌, length, arith, max}
use Rattle.std.specs.Prelude.{unwrap_or, slice_get, Option, Some, None, IsSomeAnd, get_or, filter, cond, ◌==◌}
use Rattle.std.specs.Option.{option_map_or}
use Rattle.std.specs.Str.{bytes_eq}
use Rattle.std.proofs.Math.Nat.{mul-le-mul_left, le-max_left, le-max_right}
use Rattle.std.proofs.lemmas.List.{length-map}
use Rattle.std.proofs.lemmas.Bool.{eq-eqb}
use Rattle.afl_base.specs.Fit.{fit}
use Rattle.afl_base.proofs.FitLaws.{fit_rises}
use Rattle.db_model.specs.declared.commands.Command.{Command}
use Rattle.db_model.specs.declared.commands.Command.TheVariants.{CreateRelation, CreateAttribute, CreateIndex, Insert, RemoveFrom, RemoveRelation, RemoveIndex, Pack}
use Rattle.db_model.specs.declared.schemas.IndexKind.{IndexKind}
use Rattle.db_model.specs.declared.schemas.IndexKind.TheVariants.{Inline, MaxHeap, MemHash}
use Rattle.db_model.specs.Catalog.{Index}
use Rattle.db_model.specs.declared.values.Value.{Value}
use Rattle.db_model.specs.Answers.{selected}
use Rattle.db_model.specs.Cond.{condition_of}
use Rattle.db_model.specs.Database.{Relation, Database, relation_from, relation_named, indexes_of, used_things, free_from, index_slot}
use Rattle.db_model.specs.Item.{place_of}
use Rattle.db_model.specs.Row.{Row, row_length}
use Rattle.db_model.proofs.Buckets.{buckets_bound}
use Rattle.db_model.specs.Step.{keys, key_of}
use Rattle.space_model.specs.Enough.{keys_named, rows_size, rows_in, tree_size, index_sizes, tree_sizes, largest, most_of, most}
use Rattle.space_model.specs.FileNames.{catalog_file, rows_file, tree_file}
use Rattle.space_model.specs.Wants.{room_for, WantsCatalog, WantsTree, WantsIndex, WantsMarks, WantsPacked, Wants, IsStoreOf, AsksFew}

-- ---- extents

-- ---- files among the largest

most_has : (n size : ℕ) (sizes : List ℕ) → fit size ≤ largest sizes → n ≤ max 16 (2 * fit size) → n ≤ most_of sizes
most_has n size sizes among few = omega (arith, among, few)

largest-append : (xs ys : List ℕ) → largest ys ≤ largest (xs ++ ys)
largest-append [] ys = omega arith
largest-append (x ∷ xs) ys = let rest = largest-append xs ys in let more = le-max_right (fit x) (largest (xs ++ ys)) in omega (arith, rest, more)

-- the indexes of the relation in a slot, among some slots
abbrev on : ℕ → List (Option Index) → List Index
on relation slots = filter (λ index. index.relation == relation) (used_things slots)

pub heap_sizes : (kind : IndexKind) (sizes : List ℕ) → kind ≡ MaxHeap → elim kind [ Inline ↦ [] | MaxHeap ↦ sizes | MemHash ↦ [] ] ≡ sizes
heap_sizes Inline sizes e = cc
heap_sizes MaxHeap sizes e = refl
heap_sizes MemHash sizes e = cc

tree_first : (db : Database) (relation : ℕ) (slots : List (Option Index)) (i : Index) → i.kind ≡ MaxHeap → i.relation ≡ relation
    → fit (tree_size (keys i.attribute (rows_in db i.relation))) ≤ largest (tree_sizes db (on relation (Some i ∷ slots)))
tree_first db relation slots i kind same =
    let size : ℕ = tree_size (keys i.attribute (rows_in db i.relation)) in
    let rest : List ℕ = tree_sizes db (on relation slots) in
    let passes : (i.relation == relation) ≡ true = eq-eqb i.relation relation same in
    rw (passes, heap_sizes i.kind (size ∷ []) kind) (le-max_left (fit size) (largest rest))

tree_among : (db : Database) (relation : ℕ) (slots : List (Option Index)) (slot : ℕ) (index : Index) → get_or slots slot None ≡ Some index → index.kind ≡ MaxHeap → index.relation ≡ relation
    → fit (tree_size (keys index.attribute (rows_in db index.relation))) ≤ largest (tree_sizes db (on relation slots))
tree_among db relation [] slot index e kind same = cc
tree_among db relation (None ∷ slots) zero index e kind same = cc
tree_among db relation (None ∷ slots) (suc slot) index e kind same = tree_among db relation slots slot index e kind same
tree_among db relation (Some i ∷ slots) zero index e kind same =
    let found : i ≡ index = ap (λ o. unwrap_or o i) e in
    subst
    (λ x. fit (tree_size (keys x.attribute (rows_in db x.relation))) ≤ largest (tree_sizes db (on relation (Some i ∷ slots))))
    found
    (tree_first db relation slots i (ap (λ x. x.kind) found ∙ kind) (ap (λ x. x.relation) found ∙ same))
tree_among db relation (Some i ∷ slots) (suc slot) index e kind same = by_test (i.relation == relation) (tree_among db relation slots slot index e kind same)
  where
    by_test : (b : Bool) {n : ℕ} → n ≤ largest (tree_sizes db (on relation slots)) → n ≤ largest (tree_sizes db (cond b (i ∷ on relation slots) (on relation slots)))
    by_test true h = let more = largest-append (index_sizes db i) (tree_sizes db (on relation slots)) in omega (arith, h, more)
    by_test false h = h

-- a relation that is found by its name stands in its slot
stands : (name : List ℕ) (n : ℕ) (slots : List (Option Relation)) (s : ℕ × Relation) → relation_from name n slots ≡ Some s → (n ≤ s.0) × (get_or slots (s.0 - n) None ≡ Some s.1)
stands name n [] s e = cc
stands name n (None ∷ slots) s e =
    let rest = stands name (n + 1) slots s e in
    let next : s.0 - n ≡ suc (s.0 - (n + 1)) = (let low = rest.0 in omega (arith, low)) in
    ((let low = rest.0 in omega (arith, low)), rw next rest.1)
stands name n (Some r ∷ slots) s e = by_test (bytes_eq r.schema.name name) (λ f. stands name (n + 1) slots s f) e
  where
    here : n - n ≡ 0
    here = omega arith

    behind : (n + 1 ≤ s.0) × (get_or slots (s.0 - (n + 1)) None ≡ Some s.1) → (n ≤ s.0) × (get_or (Some r ∷ slots) (s.0 - n) None ≡ Some s.1)
    behind rest =
        let low : n + 1 ≤ s.0 = rest.0 in
        let next : s.0 - n ≡ suc (s.0 - (n + 1)) = omega (arith, low) in
        (omega (arith, low), rw next rest.1)

    by_test : (b : Bool) → (relation_from name (n + 1) slots ≡ Some s → (n + 1 ≤ s.0) × (get_or slots (s.0 - (n + 1)) None ≡ Some s.1))
        → cond b (Some (n, r)) (relation_from name (n + 1) slots) ≡ Some s → (n ≤ s.0) × (get_or (Some r ∷ slots) (s.0 - n) None ≡ Some s.1)
    by_test true later e =
        let found : (n, r) ≡ s = ap (λ o. unwrap_or o (n, r)) e in
        subst (λ (x : ℕ × Relation). (n ≤ x.0) × (get_or (Some r ∷ slots) (x.0 - n) None ≡ Some x.1)) found (omega arith, rw here refl)
    by_test false later e = behind (later e)

-- the relation of a name, in its slot
named_stands : (db : Database) (name : List ℕ) (s : ℕ × Relation) → relation_named db name ≡ Some s → get_or db.relations s.0 None ≡ Some s.1
named_stands db name s e = let same : s.0 - 0 ≡ s.0 = omega arith in subst (λ k. get_or db.relations k None ≡ Some s.1) same (stands name 0 db.relations s e).1

-- what is said of a value in an Option says it of one that is there
with_some : {A : Type 0} (o : Option A) {P : A → Type 0} {Q : Type 0} → IsSomeAnd o P → ((x : A) → o ≡ Some x → P x → Q) → Q
with_some None h f = absurd h
with_some (Some x) h f = f x refl h

-- ---- commands

module _ (size_of : List ℕ → Option ℕ) (asks : List ℕ → ℕ → ℕ → ℕ → Type 0) (room : ℕ → ℤ → ℕ × ℕ) where
  catalog_few : AsksFew size_of asks room → (at n need : ℕ) → WantsCatalog size_of asks room at n need → need ≤ 16
  catalog_few few at n need w = with_some (size_of catalog_file) w (λ size e h. few.catalog ((room_for size at n).0) ((room_for size at n).1) need h)

  -- a change of the catalog asks for 16 pages at most
  change_few : AsksFew size_of asks room → (at n need : ℕ) → WantsCatalog size_of asks room at n need → need ≤ most_of []
  change_few few at n need w = let e = catalog_few few at n need w in omega (arith, e)

  -- the rows of a relation, and the keys of an index, are few
  rows_short : (db : Database) → IsStoreOf size_of db → (slot : ℕ) (r : Relation) → get_or db.relations slot None ≡ Some r → rows_size r ≤ 4194304
  rows_short db store slot r e =
      let short = store.short slot r e in
      let few = store.few slot r e in
      let product = mul-le-mul_left (row_length r.schema.attributes) few in
      omega (arith, short, product)

  rows_in_few : (db : Database) → IsStoreOf size_of db → (slot : ℕ) → length (rows_in db slot) ≤ 32768
  rows_in_few db store slot = by_relation (get_or db.relations slot None) refl
    where
      by_relation : (o : Option Relation) → get_or db.relations slot None ≡ o → length (option_map_or (λ r. r.rows) o []) ≤ 32768
      by_relation None e = omega arith
      by_relation (Some r) e = store.few slot r e

  keys_few : (db : Database) → IsStoreOf size_of db → (index : Index) → tree_size (keys index.attribute (rows_in db index.relation)) ≤ 4194304
  keys_few db store index =
      let rows : List Row = rows_in db index.relation in
      let few = rows_in_few db store index.relation in
      let bound = buckets_bound (keys index.attribute rows) in
      let same : length (keys index.attribute rows) ≡ length rows = length-map rows _ in
      omega (arith, few, bound, same)

  rows_few : (db : Database) → IsStoreOf size_of db → AsksFew size_of asks room → (name : List ℕ) (s : ℕ × Relation) → relation_named db name ≡ Some s
      → (w b need : ℕ) → b ≤ 4096 → asks (rows_file s.0) w b need → need ≤ max 16 (2 * fit (rows_size s.1))
  rows_few db store few name s e w b need small h =
      let there = named_stands db name s e in
      few.few (rows_file s.0) w b need (rows_size s.1) small (rows_short db store s.0 s.1 there) (store.rows s.0 s.1 there) h

  tree_few : (db : Database) → IsStoreOf size_of db → AsksFew size_of asks room → (relation : ℕ) (values : List Value) (need slot : ℕ) (o : Option Index)
      → get_or db.indexes slot None ≡ o → WantsTree size_of asks room relation values need slot o → need ≤ most_of (tree_sizes db (indexes_of db relation))
  tree_few db store few relation values need slot None e h = absurd h
  tree_few db store few relation values need slot (Some index) e h =
      let size : ℕ = tree_size (keys index.attribute (rows_in db index.relation)) in
      let key : ℤ = key_of (slice_get values index.attribute) in
      let bound = few.few (tree_file slot) ((room slot key).0) ((room slot key).1) need size (few.bucket slot key) (keys_few db store index) (store.trees slot index e h.0) h.2 in
      most_has need size (tree_sizes db (indexes_of db relation)) (tree_among db relation db.indexes slot index e h.0 h.1) bound

  -- no command asks for more than is counted for it
  pub wants_at_most : (db : Database) (c : Command) (need : ℕ) → IsStoreOf size_of db → AsksFew size_of asks room → Wants size_of asks room db c need → need ≤ most db c
  wants_at_most db (CreateRelation name) need store few (inl w) = let e = w.1 in omega (arith, e)
  wants_at_most db (CreateRelation name) need store few (inr (inl w)) = with_some (free_from 0 db.relations) w (λ slot e h. change_few few (176 * slot) 176 need h)
  wants_at_most db (CreateRelation name) need store few (inr (inr e)) = omega (arith, e)
  wants_at_most db (CreateAttribute name domain relation) need store few w = with_some (relation_named db relation) w (λ s e h. change_few few (176 * s.0) 176 need h)
  wants_at_most db (CreateIndex relation attribute Inline) need store few w = with_some (free_from 0 db.indexes) w (λ slot e h. change_few few (1408 + 8 * slot) 8 need h)
  wants_at_most db (CreateIndex relation attribute MemHash) need store few w = with_some (free_from 0 db.indexes) w (λ slot e h. change_few few (1408 + 8 * slot) 8 need h)
  wants_at_most db (CreateIndex relation attribute MaxHeap) need store few w = with_some (free_from 0 db.indexes) w (λ slot e h. tree_or_catalog slot h)
    where
      tree_or_catalog : (slot : ℕ) → WantsIndex size_of asks room MaxHeap (keys_named db relation attribute) slot need → need ≤ max 16 (fit (tree_size (keys_named db relation attribute)))
      tree_or_catalog slot (inl h) = let e = catalog_few few (1408 + 8 * slot) 8 need h in omega (arith, e)
      tree_or_catalog slot (inr e) = omega (arith, e)
  wants_at_most db (Insert values relation) need store few w = with_some (relation_named db relation) w (λ s e h. rw e (rows_or_tree s e h))
    where
      rows_or_tree : (s : ℕ × Relation) → relation_named db relation ≡ Some s
          → asks (rows_file s.0) 0 (row_length s.1.schema.attributes) need ⊎ ((slot : ℕ) × WantsTree size_of asks room s.0 values need slot (get_or db.indexes slot None))
          → need ≤ most_of (rows_size s.1 ∷ tree_sizes db (indexes_of db s.0))
      rows_or_tree s e (inl h) = let bound = rows_few db store few relation s e 0 (row_length s.1.schema.attributes) need (let short = store.short s.0 s.1 (named_stands db relation s e) in omega (arith, short)) h in omega (arith, bound)
      rows_or_tree s e (inr h) = let bound = tree_few db store few s.0 values need h.0 (get_or db.indexes h.0 None) refl h.1 in omega (arith, bound)
  wants_at_most db (RemoveFrom relation nodes) need store few w = with_some (relation_named db relation) w (λ s e h. rw e (marks s e h))
    where
      marks : (s : ℕ × Relation) → relation_named db relation ≡ Some s
          → WantsMarks size_of asks room s.0 s.1 (length (selected s.1.schema.attributes (condition_of nodes) s.1.rows)) need → need ≤ most_of (rows_size s.1 ∷ [])
      marks s e (inl h) = let bound = rows_few db store few relation s e (length (selected s.1.schema.attributes (condition_of nodes) s.1.rows)) 0 need (omega arith) h.2 in omega (arith, bound)
      marks s e (inr h) = let drafted = h.1 in omega (arith, drafted)
  wants_at_most db (Pack relation) need store few w = with_some (relation_named db relation) w (λ s e h. rw e (packed s h))
    where
      packed : (s : ℕ × Relation) → WantsPacked size_of asks room s.1 need → need ≤ most_of (rows_size s.1 ∷ [])
      packed s h =
          let left : ℕ = length (filter (λ row. row.live) s.1.rows) in
          let fewer : left < length s.1.rows = h.0 in
          let drafted = h.1 in
          let smaller : row_length s.1.schema.attributes * left ≤ rows_size s.1 = mul-le-mul_left (row_length s.1.schema.attributes) (omega (arith, fewer)) in
          let fits = fit_rises (row_length s.1.schema.attributes * left) (rows_size s.1) smaller in
          omega (arith, drafted, fits)
  wants_at_most db (RemoveRelation relation) need store few w = with_some (relation_named db relation) w (λ s e h. change_few few (176 * s.0) 176 need h)
  wants_at_most db (RemoveIndex relation attribute) need store few w =
      with_some (relation_named db relation) w (λ s e h. with_some (place_of attribute s.1.schema.attributes) h (λ place f i. with_some (index_slot db s.0 place) i (λ slot g j. change_few few (1408 + 8 * slot) 8 need j)))
  wants_at_most db _ need store few w = absurd w
