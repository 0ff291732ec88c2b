-- The sectors that are planned suffice for commands of rows that keep to their slots.
use Rattle.std.proofs.Common.{◌≡◌, ℕ, ℤ, suc, ◌+◌, ◌/◌, ◌≤◌, ◌⊎◌, inl, inr, List, [], ◌∷◌, ◌++◌, length, map, get_or, Option, Some, None, refl, ap, sym, subst, ◌∙◌, arith}
use Rattle.std.specs.Prelude.{slice_get, Result, Ok}
use Rattle.std.specs.List.{AllByRecursion}
use Rattle.std.specs.Option.{option_map_or}
use Rattle.std.proofs.Math.Nat.{mul-le-mul_left}
use Rattle.std.proofs.lemmas.List.{length-append, length-map}
use Rattle.db_model.specs.declared.commands.Command.{Command}
use Rattle.db_model.specs.declared.commands.Command.TheVariants.{Insert, Ask, Aggregate, RemoveFrom, Pack, OpenCursor, FetchCursor, CloseCursor}
use Rattle.db_model.specs.declared.refusals.Refusal.{Refusal}
use Rattle.db_model.specs.declared.schemas.IndexKind.{IndexKind}
use Rattle.db_model.specs.declared.schemas.IndexKind.TheVariants.{Inline, MaxHeap, MemHash}
use Rattle.db_model.specs.Catalog.{Index}
use Rattle.db_model.specs.Database.{Relation, Database, relation_named, used_things}
use Rattle.db_model.specs.HashTree.{buckets}
use Rattle.db_model.specs.Row.{Row, row_length}
use Rattle.db_model.specs.Script.{Bytes, Entry, last}
use Rattle.db_model.specs.Step.{after_all, key_of, keys}
use Rattle.db_model.proofs.Buckets.{buckets_bound}
use Rattle.padded.proofs.Facts.{all_front}
use Rattle.space_model.specs.Enough.{enough, file_sizes, index_sizes, largest, most, most_of, rows_in, rows_size, tree_size, tree_sizes}
use Rattle.space_plan.specs.Growth.{HasFewRows, commands_of, before_others}
use Rattle.space_plan.specs.Planned.{index_planned, relation_name, planned, rows_planned, sizes_planned, slots_planned, tree_planned, trees_planned}
use Rattle.space_plan.specs.Rings.{HasFewMore, IsOfRows, KeepsToRing}
use Rattle.space_plan.proofs.Fitting.{AreWithin, enough_within, largest_within, within-append}
use Rattle.space_plan.proofs.MoreBuckets.{buckets-append}
use Rattle.space_plan.proofs.PlannedSpace.{insert_among, largest-append, named_among}
use Rattle.space_plan.proofs.Ringed.{IsAlike, IsAlikeIn, IsKeyed, IsRinged, ringed}
use Rattle.space_plan.proofs.Scripts.{all_behind, commands_of-append, last_of}

module _ (most : List ℕ → ℕ) where
  -- ---- relations

  -- the relation in a slot has at most so many slots more
  abbrev FewIn : Option Relation → Option Relation → Type 0
  FewIn o p = (r q : Relation) → o ≡ Some r → p ≡ Some q → length q.rows ≤ length r.rows + most r.schema.name

  rows_few : (r q : Relation) → IsAlike r q → length q.rows ≤ length r.rows + most r.schema.name → rows_size q ≤ rows_planned most r
  rows_few r q a few =
      let within = a.within in
      let less : length q.rows ≤ slots_planned (most r.schema.name) (length r.rows) = omega (arith, few, within) in
      let width : row_length q.schema.attributes ≡ row_length r.schema.attributes = ap (λ s. row_length s.attributes) a.schema in
      rw width (mul-le-mul_left (row_length r.schema.attributes) less)

  all_rows_few : (slots others : List (Option Relation)) → length others ≡ length slots → ((k : ℕ) → IsAlikeIn (get_or slots k None) (get_or others k None))
      → ((k : ℕ) → FewIn (get_or slots k None) (get_or others k None)) → AreWithin (map rows_size (used_things others)) (map (rows_planned most) (used_things slots))
  all_rows_few [] [] same a few = tt
  all_rows_few [] (p ∷ others) same a few = absurd (omega (arith, same))
  all_rows_few (o ∷ slots) [] same a few = absurd (omega (arith, same))
  all_rows_few (o ∷ slots) (p ∷ others) same a few = first o p (a 0) (few 0) (all_rows_few slots others (omega (arith, same)) (λ k. a (suc k)) (λ k. few (suc k)))
    where
      first : (o p : Option Relation) → IsAlikeIn o p → FewIn o p → AreWithin (map rows_size (used_things others)) (map (rows_planned most) (used_things slots))
          → AreWithin (map rows_size (used_things (p ∷ others))) (map (rows_planned most) (used_things (o ∷ slots)))
      first None None b less rest = rest
      first None (Some q) b less rest = absurd b
      first (Some r) None b less rest = absurd b
      first (Some r) (Some q) b less rest = (rows_few r q b (less r q refl refl), rest)

  -- ---- hash trees

  slots_few : (o p : Option Relation) → IsAlikeIn o p → FewIn o p
      → length (option_map_or (λ (x : Relation). x.rows) p []) ≤ slots_planned (most (option_map_or (λ (x : Relation). x.schema.name) o [])) (length (option_map_or (λ (x : Relation). x.rows) o []))
  slots_few None None b less = omega arith
  slots_few None (Some q) b less = absurd b
  slots_few (Some r) None b less = absurd b
  slots_few (Some r) (Some q) b less = let few = less r q refl refl in let within = b.within in omega (arith, few, within)

  tree_few : (n place : ℕ) (rows new : List Row) (more : List ℤ) → keys place new ≡ keys place rows ++ more → length new ≤ slots_planned n (length rows) → tree_size (keys place new) ≤ tree_planned n (keys place rows)
  tree_few n place rows new more is few =
      let grown : buckets (keys place new) ≤ buckets (keys place rows) + length more = rw is (buckets-append (keys place rows) more) in
      let all = buckets_bound (keys place new) in
      let a : length (keys place new) ≡ length new = length-map new (λ (row : Row). key_of (slice_get row.tuple place)) in
      let b : length (keys place rows) ≡ length rows = length-map rows (λ (row : Row). key_of (slice_get row.tuple place)) in
      let size : length (keys place new) ≡ length (keys place rows) + length more = ap length is ∙ length-append (keys place rows) more in
      let slots : length new ≤ slots_planned n (length (keys place rows)) = omega (arith, few, b) in
      let bound : buckets (keys place new) ≤ slots_planned n (length (keys place rows)) / 32 + 341 = omega (arith, all, a, slots) in
      omega (arith, grown, bound, a, b, size, few)

  index_few : (db new : Database) (index : Index) → IsRinged db new → HasFewMore most db new → IsKeyed db new index → AreWithin (index_sizes new index) (index_planned most db index)
  index_few db new index h few k = by_kind index.kind
    where
      by_kind : (kind : IndexKind)
          → AreWithin (elim kind [ Inline ↦ [] | MaxHeap ↦ tree_size (keys index.attribute (rows_in new index.relation)) ∷ [] | MemHash ↦ [] ])
          (elim kind [ Inline ↦ [] | MaxHeap ↦ tree_planned (most (relation_name db index.relation)) (keys index.attribute (rows_in db index.relation)) ∷ [] | MemHash ↦ [] ])
      by_kind Inline = tt
      by_kind MaxHeap = (
        tree_few (most (relation_name db index.relation)) index.attribute (rows_in db index.relation) (rows_in new index.relation) k.more k.is
            (slots_few (get_or db.relations index.relation None) (get_or new.relations index.relation None) (h.relations index.relation) (few index.relation)),
        tt,
      )
      by_kind MemHash = tt

  trees_few : (db new : Database) (indexes : List Index) → IsRinged db new → HasFewMore most db new → AllByRecursion (IsKeyed db new) indexes → AreWithin (tree_sizes new indexes) (trees_planned most db indexes)
  trees_few db new [] h few ks = tt
  trees_few db new (index ∷ indexes) h few ks =
      within-append (index_sizes new index) (index_planned most db index) (tree_sizes new indexes) (trees_planned most db indexes) (index_few db new index h few ks.0) (trees_few db new indexes h few ks.1)

  -- ---- all files

  pub sizes_few : (db new : Database) → IsRinged db new → HasFewMore most db new → AreWithin (file_sizes new) (sizes_planned most db)
  sizes_few db new h few =
      let trees : AreWithin (tree_sizes new (used_things new.indexes)) (trees_planned most db (used_things db.indexes)) =
      subst (λ is. AreWithin (tree_sizes new (used_things is)) (trees_planned most db (used_things db.indexes))) (sym h.indexes) (trees_few db new (used_things db.indexes) h few h.keyed) in
      within-append (map rows_size (used_things new.relations)) (map (rows_planned most) (used_things db.relations)) (tree_sizes new (used_things new.indexes)) (trees_planned most db (used_things db.indexes))
      (all_rows_few db.relations new.relations h.slots h.relations few) trees

-- ---- what a command asks for

-- the rows of one relation
pub rows_among : (db : Database) (name : List ℕ) (o : Option (ℕ × Relation)) → relation_named db name ≡ o → largest (option_map_or (λ (s : ℕ × Relation). rows_size s.1 ∷ []) o []) ≤ largest (file_sizes db)
rows_among db name None e = omega arith
rows_among db name (Some s) e =
    let rows = named_among name 0 db.relations s e in
    let both = largest-append (map rows_size (used_things db.relations)) (tree_sizes db (used_things db.indexes)) in
    omega (arith, rows, both)

-- a command of rows asks for nothing, or there are the sectors for it
ring_suffices : (rows : List ℕ → ℕ) (db new : Database) (command : Command) → IsOfRows command → IsRinged db new → HasFewMore rows db new
    → (most new command ≡ 0) ⊎ (enough new (most new command) ≤ planned db rows)
ring_suffices rows db new command rows_only h few = by_command command rows_only
  where
    sizes : AreWithin (file_sizes new) (sizes_planned rows db)
    sizes = sizes_few rows db new h few

    asks : (n : ℕ) → n ≤ most_of (file_sizes new) → enough new n ≤ planned db rows
    asks n less =
        let files = largest_within (file_sizes new) (sizes_planned rows db) sizes in
        enough_within (file_sizes new) (sizes_planned rows db) n (most_of (sizes_planned rows db)) sizes (omega (arith, files, less))

    by_command : (c : Command) → IsOfRows c → (most new c ≡ 0) ⊎ (enough new (most new c) ≤ planned db rows)
    by_command (Insert values name) r = inr (asks (most new (Insert values name)) (let a = insert_among new name (relation_named new name) refl in omega (arith, a)))
    by_command (RemoveFrom name nodes) r = inr (asks (most new (RemoveFrom name nodes)) (let a = rows_among new name (relation_named new name) refl in omega (arith, a)))
    by_command (Pack name) r = inr (asks (most new (Pack name)) (let a = rows_among new name (relation_named new name) refl in omega (arith, a)))
    by_command (Ask query) r = inl refl
    by_command (Aggregate list relation nodes) r = inl refl
    by_command (OpenCursor number query) r = inl refl
    by_command (FetchCursor number) r = inl refl
    by_command (CloseCursor number) r = inl refl
    by_command _ r = absurd r

-- ---- scripts

-- each command behind some in front asks for nothing, or there are the sectors for it
abbrev pub EachSuffices : Database → List Command → ℕ → Type 0
EachSuffices db commands sectors = (front rest : List Command) (c : Command) → commands ≡ front ++ c ∷ rest
    → (most (after_all db front) c ≡ 0) ⊎ (enough (after_all db front) (most (after_all db front) c) ≤ sectors)

pub ring_each : (rows : List ℕ → ℕ) (db : Database) (commands : List Command) (sectors : ℕ) → HasFewRows db → KeepsToRing rows db commands → planned db rows ≤ sectors → EachSuffices db commands sectors
ring_each rows db commands sectors few ring there front rest c split =
    let kinds : AllByRecursion IsOfRows (front ++ c ∷ rest) = subst (AllByRecursion IsOfRows) split ring.kinds in
    let new : IsRinged db (after_all db front) = ringed db front few (all_front IsOfRows front (c ∷ rest) kinds) in
    within (ring_suffices rows db (after_all db front) c (all_behind IsOfRows front c rest kinds) new (ring.few front (c ∷ rest) split))
  where
    within : {P : Type 0} {m : ℕ} → P ⊎ (m ≤ planned db rows) → P ⊎ (m ≤ sectors)
    within (inl p) = inl p
    within (inr less) = inr (omega (arith, less, there))

-- and so does each entry of a script
pub entries_suffice : (read : List ℕ → Result Command Refusal) (db : Database) (entries : List Entry) (sectors : ℕ) → EachSuffices db (commands_of read entries) sectors
    → (front rest : List Entry) (bytes : List ℕ) (command : Command) → entries ≡ front ++ Bytes bytes ∷ rest → read bytes ≡ Ok command
    → (most (last read db front) command ≡ 0) ⊎ (enough (last read db front) (most (last read db front) command) ≤ sectors)
entries_suffice read db entries sectors each front rest bytes command split is =
    let here : commands_of read (Bytes bytes ∷ rest) ≡ command ∷ commands_of read rest = ap (λ r. before_others read r (commands_of read rest)) is in
    let same : commands_of read entries ≡ commands_of read front ++ command ∷ commands_of read rest =
    ap (commands_of read) split ∙ commands_of-append read front (Bytes bytes ∷ rest) ∙ ap (λ cs. commands_of read front ++ cs) here in
    rw (last_of read db front) (each (commands_of read front) (commands_of read rest) command same)
