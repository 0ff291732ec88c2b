-- The sectors that are planned suffice for what has grown.
use Rattle.std.proofs.Common.{◌≡◌, ℕ, suc, ◌+◌, ◌/◌, ◌≤◌, Bool, true, false, cond, List, [], ◌∷◌, ◌++◌, length, map, max, get_or, Option, Some, None, refl, ap, sym, subst, ◌∙◌, arith}
use Rattle.std.specs.Prelude.{filter, ◌==◌, slice_get}
use Rattle.std.specs.Option.{option_map_or}
use Rattle.std.specs.Str.{bytes_eq}
use Rattle.std.proofs.Math.Nat.{mul-le-mul_left}
use Rattle.std.proofs.lemmas.List.{length-append, length-map, map-append}
use Rattle.afl_base.specs.Fit.{fit}
use Rattle.db_model.specs.declared.commands.Command.{Command}
use Rattle.db_model.specs.declared.commands.Command.TheVariants.{Insert}
use Rattle.db_model.specs.declared.schemas.IndexKind.{IndexKind}
use Rattle.db_model.specs.declared.schemas.IndexKind.TheVariants.{Inline, MaxHeap, MemHash}
use Rattle.db_model.specs.declared.values.Value.{Value}
use Rattle.db_model.specs.Catalog.{Index}
use Rattle.db_model.specs.Database.{Relation, Database, indexes_of, relation_from, relation_named, used_things}
use Rattle.db_model.specs.HashTree.{buckets}
use Rattle.db_model.specs.Row.{Row, row_length}
use Rattle.db_model.specs.Step.{after_all, key_of, keys}
use Rattle.db_model.proofs.Buckets.{buckets_bound}
use Rattle.space_model.specs.Enough.{enough, file_sizes, index_sizes, largest, most, most_of, rows_in, rows_size, tree_size, tree_sizes}
use Rattle.space_plan.specs.Growth.{HasFewRows, KeepsToPlan, rows_brought}
use Rattle.space_plan.specs.Planned.{index_planned, relation_name, planned, rows_planned, sizes_planned, slots_planned, tree_planned, trees_planned}
use Rattle.space_plan.proofs.Fitting.{AreWithin, enough_within, largest_within, within-append}
use Rattle.space_plan.proofs.Inserted.{all_grow}
use Rattle.space_plan.proofs.Longer.{IsGrown, IsLonger, IsLongerIn, grown_most}
use Rattle.space_plan.proofs.MoreBuckets.{buckets-append}

-- ---- sizes of what has grown

-- rows with at most n more behind them
record LongerRows (n : ℕ) (rows new : List Row) : Type 0 where
  more : List Row
  is : new ≡ rows ++ more
  few : length more ≤ n
  within : length new ≤ 32768

module _ (most : List ℕ → ℕ) where
  rows_few : (r q : Relation) → IsLonger (most r.schema.name) r q → rows_size q ≤ rows_planned most r
  rows_few r q h =
      let few = h.few in
      let within = h.within in
      let size : length q.rows ≡ length r.rows + length h.more = ap length h.rows ∙ length-append r.rows h.more in
      let less : length q.rows ≤ slots_planned (most r.schema.name) (length r.rows) = omega (arith, few, within, size) in
      let width : row_length q.schema.attributes ≡ row_length r.schema.attributes = ap (λ s. row_length s.attributes) h.schema in
      rw width (mul-le-mul_left (row_length r.schema.attributes) less)

  -- the relations of some slots, and of others with more rows
  all_rows_few : (slots others : List (Option Relation)) → length others ≡ length slots → ((k : ℕ) → IsLongerIn most (get_or slots k None) (get_or others k None))
      → AreWithin (map rows_size (used_things others)) (map (rows_planned most) (used_things slots))
  all_rows_few [] [] same h = tt
  all_rows_few [] (p ∷ others) same h = absurd (omega (arith, same))
  all_rows_few (o ∷ slots) [] same h = absurd (omega (arith, same))
  all_rows_few (o ∷ slots) (p ∷ others) same h = first o p (h 0) (all_rows_few slots others (omega (arith, same)) (λ k. h (suc k)))
    where
      first : (o p : Option Relation) → IsLongerIn most o p → AreWithin (map rows_size (used_things others)) (map (rows_planned most) (used_things slots))
          → AreWithin (map rows_size (used_things (p ∷ others))) (map (rows_planned most) (used_things (o ∷ slots)))
      first None None g rest = rest
      first None (Some q) g rest = absurd g
      first (Some r) None g rest = absurd g
      first (Some r) (Some q) g rest = (rows_few r q g, rest)

  rows_longer : (o p : Option Relation) → IsLongerIn most o p → LongerRows (most (option_map_or (λ r. r.schema.name) o [])) (option_map_or (λ r. r.rows) o []) (option_map_or (λ r. r.rows) p [])
  rows_longer None None h = record { more = []; is = refl; few = omega arith; within = omega arith }
  rows_longer None (Some q) h = absurd h
  rows_longer (Some r) None h = absurd h
  rows_longer (Some r) (Some q) h = record { more = h.more; is = h.rows; few = h.few; within = h.within }

  tree_few : (n place : ℕ) (rows new : List Row) → LongerRows n rows new → tree_size (keys place new) ≤ tree_planned n (keys place rows)
  tree_few n place rows new h =
      let few = h.few in
      let within = h.within in
      let parts : keys place new ≡ keys place rows ++ keys place h.more = ap (keys place) h.is ∙ map-append (λ row. key_of (slice_get row.tuple place)) rows h.more in
      let grown : buckets (keys place new) ≤ buckets (keys place rows) + length (keys place h.more) = rw parts (buckets-append (keys place rows) (keys place h.more)) in
      let most = buckets_bound (keys place new) in
      let a : length (keys place new) ≡ length new = length-map new (λ row. key_of (slice_get row.tuple place)) in
      let b : length (keys place rows) ≡ length rows = length-map rows (λ row. key_of (slice_get row.tuple place)) in
      let c : length (keys place h.more) ≡ length h.more = length-map h.more (λ row. key_of (slice_get row.tuple place)) in
      let size : length new ≡ length rows + length h.more = ap length h.is ∙ length-append rows h.more in
      let slots : length new ≤ slots_planned n (length (keys place rows)) = omega (arith, few, within, b, size) in
      let bound : buckets (keys place new) ≤ slots_planned n (length (keys place rows)) / 32 + 341 = omega (arith, most, a, slots) in
      omega (arith, grown, bound, c, few)

  index_few : (db new : Database) (index : Index) → IsGrown most db new → AreWithin (index_sizes new index) (index_planned most db index)
  index_few db new index h = by_kind index.kind
    where
      by_kind : (kind : IndexKind)
          → AreWithin (elim kind [ Inline ↦ [] | MaxHeap ↦ tree_size (keys index.attribute (rows_in new index.relation)) ∷ [] | MemHash ↦ [] ])
          (elim kind [ Inline ↦ [] | MaxHeap ↦ tree_planned (most (relation_name db index.relation)) (keys index.attribute (rows_in db index.relation)) ∷ [] | MemHash ↦ [] ])
      by_kind Inline = tt
      by_kind MaxHeap = (
        tree_few (most (relation_name db index.relation)) index.attribute (rows_in db index.relation) (rows_in new index.relation)
            (rows_longer (get_or db.relations index.relation None) (get_or new.relations index.relation None) (h.relations index.relation)),
        tt,
      )
      by_kind MemHash = tt

  trees_few : (db new : Database) (indexes : List Index) → IsGrown most db new → AreWithin (tree_sizes new indexes) (trees_planned most db indexes)
  trees_few db new [] h = tt
  trees_few db new (index ∷ indexes) h =
      within-append (index_sizes new index) (index_planned most db index) (tree_sizes new indexes) (trees_planned most db indexes) (index_few db new index h) (trees_few db new indexes h)

  sizes_few : (db new : Database) → IsGrown most db new → AreWithin (file_sizes new) (sizes_planned most db)
  sizes_few db new h =
      let trees : AreWithin (tree_sizes new (used_things new.indexes)) (trees_planned most db (used_things db.indexes)) =
      subst (λ is. AreWithin (tree_sizes new (used_things is)) (trees_planned most db (used_things db.indexes))) (sym h.indexes) (trees_few db new (used_things db.indexes) h) in
      within-append (map rows_size (used_things new.relations)) (map (rows_planned most) (used_things db.relations)) (tree_sizes new (used_things new.indexes)) (trees_planned most db (used_things db.indexes))
      (all_rows_few db.relations new.relations h.slots h.relations) trees

-- ---- an INSERT asks for no more than twice the largest file

pub largest-append : (xs ys : List ℕ) → largest (xs ++ ys) ≡ max (largest xs) (largest ys)
largest-append [] ys = omega arith
largest-append (x ∷ xs) ys = let e = largest-append xs ys in omega (arith, e)

largest-filter : (db : Database) (test : Index → Bool) (indexes : List Index) → largest (tree_sizes db (filter test indexes)) ≤ largest (tree_sizes db indexes)
largest-filter db test [] = omega arith
largest-filter db test (index ∷ indexes) = by_test (test index) (largest-filter db test indexes)
  where
    by_test : (b : Bool) → largest (tree_sizes db (filter test indexes)) ≤ largest (tree_sizes db indexes)
        → largest (tree_sizes db (cond b (index ∷ filter test indexes) (filter test indexes))) ≤ largest (index_sizes db index ++ tree_sizes db indexes)
    by_test true h =
        let a = largest-append (index_sizes db index) (tree_sizes db (filter test indexes)) in
        let b = largest-append (index_sizes db index) (tree_sizes db indexes) in
        omega (arith, h, a, b)
    by_test false h = let b = largest-append (index_sizes db index) (tree_sizes db indexes) in omega (arith, h, b)

-- a relation that is found by its name is among those
pub named_among : (name : List ℕ) (n : ℕ) (slots : List (Option Relation)) (s : ℕ × Relation) → relation_from name n slots ≡ Some s → fit (rows_size s.1) ≤ largest (map rows_size (used_things slots))
named_among name n [] s e = cc
named_among name n (None ∷ slots) s e = named_among name (n + 1) slots s e
named_among name n (Some r ∷ slots) s e = by_test (bytes_eq r.schema.name name) (λ f. named_among name (n + 1) slots s f) e
  where
    by_test : (b : Bool) → (relation_from name (n + 1) slots ≡ Some s → fit (rows_size s.1) ≤ largest (map rows_size (used_things slots)))
        → cond b (Some (n, r)) (relation_from name (n + 1) slots) ≡ Some s → fit (rows_size s.1) ≤ max (fit (rows_size r)) (largest (map rows_size (used_things slots)))
    by_test true later e = let same : fit (rows_size r) ≡ fit (rows_size s.1) = ap (λ (o : Option (ℕ × Relation)). option_map_or (λ (x : ℕ × Relation). fit (rows_size x.1)) o 0) e in omega (arith, same)
    by_test false later e = let rest = later e in omega (arith, rest)

pub insert_among : (db : Database) (name : List ℕ) (o : Option (ℕ × Relation)) → relation_named db name ≡ o → largest (option_map_or (λ s. rows_size s.1 ∷ tree_sizes db (indexes_of db s.0)) o []) ≤ largest (file_sizes db)
insert_among db name None e = omega arith
insert_among db name (Some s) e =
    let rows = named_among name 0 db.relations s e in
    let trees = largest-filter db (λ index. index.relation == s.0) (used_things db.indexes) in
    let both = largest-append (map rows_size (used_things db.relations)) (tree_sizes db (used_things db.indexes)) in
    omega (arith, rows, trees, both)

-- ---- the law

pub planned_suffices : (rows : List ℕ → ℕ) (db : Database) (commands : List Command) (values : List Value) (name : List ℕ) → HasFewRows db → KeepsToPlan rows db commands
    → enough (after_all db commands) (most (after_all db commands) (Insert values name)) ≤ planned db rows
planned_suffices rows db commands values name few plan =
    let new : Database = after_all db commands in
    let grown = grown_most (rows_brought db commands) rows db new plan.few (all_grow db commands plan.kinds few) in
    let sizes : AreWithin (file_sizes new) (sizes_planned rows db) = sizes_few rows db new grown in
    let files = largest_within (file_sizes new) (sizes_planned rows db) sizes in
    let asked = insert_among new name (relation_named new name) refl in
    enough_within (file_sizes new) (sizes_planned rows db) (most new (Insert values name)) (most_of (sizes_planned rows db)) sizes (omega (arith, files, asked))
