-- Commands that make no hash tree leave none, and no relation with more rows than there may be.
use Rattle.std.proofs.Common.{◌≡◌, ℕ, ◌≤◌, true, false, List, [], ◌∷◌, length, Option, Some, subst, arith}
use Rattle.std.specs.Prelude.{◌≢◌}
use Rattle.std.specs.List.{AllByRecursion}
use Rattle.std.proofs.lemmas.List.{length-append, length-map}
use Rattle.db_model.specs.declared.commands.Command.{Command}
use Rattle.db_model.specs.declared.commands.Command.TheVariants as command
use Rattle.db_model.specs.declared.schemas.IndexKind.{IndexKind}
use Rattle.db_model.specs.declared.schemas.IndexKind.TheVariants.{Inline, MaxHeap, MemHash}
use Rattle.db_model.specs.Catalog.{Index}
use Rattle.db_model.specs.Cond.{condition_of}
use Rattle.db_model.specs.Database.{Relation, Database, with_relation}
use Rattle.db_model.specs.Row.{Row}
use Rattle.db_model.specs.Step.{Reply, after_all, removed_row, step}
use Rattle.db_model.proofs.Change.{Change, IndexMade, RelationMade, Nothing, OfRelation, OfIndex, OfCursor, Builds, Drops, Creates, Grows, Inserts, Marks, Packs, Removes, change_of, in_version}
use Rattle.db_model.proofs.Standing.{stands_either}
use Rattle.padded.proofs.Facts.{never_some, some_alike}
use Rattle.space_plan.specs.Growth.{HasFewRows}
use Rattle.space_plan.specs.Rings.{HasNoTree, makes_tree}
use Rattle.space_plan.proofs.Ringed.{below_limit, few_live, found_there}

pub record IsTreeless (db : Database) : Type 0 where
  pub few : HasFewRows db
  pub treeless : HasNoTree db

-- ---- a relation is set

few_set : (db : Database) (version slot : ℕ) (r : Option Relation) → HasFewRows db → ((q : Relation) → r ≡ Some q → length q.rows ≤ 32768) → HasFewRows (with_relation (in_version version db) slot r)
few_set db version slot r few here k q there = stands_either db.relations slot k r q there (λ same is. here q is) (λ other still. few k q still)

few_some : (r q : Relation) → length r.rows ≤ 32768 → Some r ≡ Some q → length q.rows ≤ 32768
few_some r q few is = subst (λ (x : Relation). length x.rows ≤ 32768) (some_alike is) few

relation_few : (db : Database) (c : Command) (version slot : ℕ) (r : Option Relation) (reply : Reply) → RelationMade db c version slot r reply → HasFewRows db → (q : Relation) → r ≡ Some q → length q.rows ≤ 32768
relation_few db _ _ _ _ _ (Creates name slot none free) few q is = few_some _ q (omega arith) is
relation_few db _ _ _ _ _ (Grows name wanted relation s domain e new asked no_rows attributes bytes) few q is =
    few_some _ q (let empty : length s.1.rows ≤ 32768 = few s.0 s.1 (found_there db relation s e) in empty) is
relation_few db _ _ _ _ _ (Inserts values name s e suit room order entries) few q is =
    let below = below_limit db.version (length s.1.rows) room in
    let row : Row = record { tuple = values; live = true } in
    few_some _ q (omega (arith, below, length-append s.1.rows (row ∷ []))) is
relation_few db _ _ _ _ _ (Marks name nodes s e) few q is =
    let there = few s.0 s.1 (found_there db name s e) in
    few_some _ q (omega (arith, there, length-map s.1.rows (removed_row s.1.schema.attributes (condition_of nodes)))) is
relation_few db _ _ _ _ _ (Packs name s e none) few q is =
    let there = few s.0 s.1 (found_there db name s e) in
    let less = few_live s.1.rows in
    few_some _ q (omega (arith, there, less)) is
relation_few db _ _ _ _ _ (Removes name s e unread none) few q is = absurd (never_some is)

-- ---- an index is set

other_kind : (db : Database) (c : Command) (slot : ℕ) (index : Option Index) → IndexMade db c slot index → makes_tree c ≡ false → (i : Index) → index ≡ Some i → i.kind ≢ MaxHeap
other_kind db _ _ _ (Drops name attribute slot) makes i is = absurd (never_some is)
other_kind db _ _ _ (Builds name attribute kind s place slot domain e f g allowed new free refused) makes i is = by_kind kind makes is
  where
    by_kind : (kind : IndexKind) → makes_tree (command.CreateIndex name attribute kind) ≡ false → Some (record { kind = kind; relation = s.0; attribute = place }) ≡ Some i → i.kind ≢ MaxHeap
    by_kind Inline m same = subst (λ (x : Index). x.kind ≢ MaxHeap) (some_alike same) (λ n. cc)
    by_kind MaxHeap m same = absurd (let n : ⊥ = cc in n)
    by_kind MemHash m same = subst (λ (x : Index). x.kind ≢ MaxHeap) (some_alike same) (λ n. cc)

-- ---- the commands

change_treeless : (db : Database) (c : Command) (d : Database × Reply) → Change db c d → makes_tree c ≡ false → IsTreeless db → IsTreeless d.0
change_treeless db _ _ (Nothing c reply a) makes t = t
change_treeless db _ _ (OfRelation c version slot r reply m) makes t = record { few = few_set db version slot r t.few (relation_few db c version slot r reply m t.few); treeless = t.treeless }
change_treeless db _ _ (OfIndex c slot index m) makes t = record {
  few = t.few;
  treeless = λ k i there. stands_either db.indexes slot k index i there (λ same is. other_kind db c slot index m makes i is) (λ other still. t.treeless k i still);
}
change_treeless db _ _ (OfCursor c place cursor reply m) makes t = record { few = t.few; treeless = t.treeless }

pub treeless : (db : Database) (commands : List Command) → AllByRecursion (λ c. makes_tree c ≡ false) commands → IsTreeless db → IsTreeless (after_all db commands)
treeless db [] makes t = t
treeless db (c ∷ commands) makes t = treeless (step db c).0 commands makes.1 (change_treeless db c (step db c) (change_of db c) makes.0 t)
