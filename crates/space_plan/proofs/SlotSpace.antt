-- The sectors that are planned suffice where no relation is larger than its slot was planned for.
use Rattle.std.proofs.Common.{◌≡◌, ℕ, suc, ◌+◌, ◌-◌, ◌*◌, ◌/◌, ◌≤◌, ◌⊎◌, inl, inr, false, List, [], ◌∷◌, ◌++◌, length, map, get_or, Option, Some, None, refl, ap, sym, subst, ◌∙◌, arith}
use Rattle.std.specs.Prelude.{⊤, ◌≢◌}
use Rattle.std.proofs.Math.Nat.{mul-le-mul}
use Rattle.std.proofs.lemmas.List.{append-nil}
use Rattle.afl_base.proofs.FitLaws.{fit_rises}
use Rattle.db_model.specs.declared.commands.Command.{Command}
use Rattle.db_model.specs.declared.commands.Command.TheVariants as command
use Rattle.db_model.specs.declared.schemas.IndexKind.{IndexKind}
use Rattle.db_model.specs.declared.schemas.IndexKind.TheVariants.{Inline, MaxHeap, MemHash}
use Rattle.db_model.specs.Catalog.{Index}
use Rattle.db_model.specs.Cost.{sum}
use Rattle.db_model.specs.Database.{Relation, Database, relation_named, used_things}
use Rattle.db_model.specs.Step.{after_all}
use Rattle.padded.proofs.Facts.{all_front}
use Rattle.space_model.specs.Enough.{enough, enough_for, file_sizes, index_sizes, largest, most, most_of, rows_size, touched, tree_sizes}
use Rattle.space_plan.specs.Growth.{HasFewRows}
use Rattle.space_plan.specs.Planned.{planned, rows_planned, sizes_planned, slots_planned, trees_planned}
use Rattle.space_plan.specs.Rings.{HasNoneLarger, IsNoLarger, KeepsToSlots, makes_tree}
use Rattle.space_plan.proofs.PlannedSpace.{insert_among}
use Rattle.space_plan.proofs.RingSpace.{EachSuffices, rows_among}
use Rattle.space_plan.proofs.Scripts.{all_behind}
use Rattle.space_plan.proofs.Treeless.{IsTreeless, treeless}

-- ---- sizes

-- each size has one that is no less in its place, and others may stand between these
abbrev pub AreCovered : List ℕ → List ℕ → Type 0
AreCovered [] ys = ⊤
AreCovered (x ∷ xs) [] = ⊥
AreCovered (x ∷ xs) (y ∷ ys) = ((x ≤ y) × AreCovered xs ys) ⊎ AreCovered (x ∷ xs) ys

covered_by_more : (xs : List ℕ) (y : ℕ) (ys : List ℕ) → AreCovered xs ys → AreCovered xs (y ∷ ys)
covered_by_more [] y ys h = tt
covered_by_more (x ∷ xs) y ys h = inr h

covered_in_front : (xs ys zs : List ℕ) → AreCovered xs ys → AreCovered xs (ys ++ zs)
covered_in_front [] ys zs h = tt
covered_in_front (x ∷ xs) [] zs h = absurd h
covered_in_front (x ∷ xs) (y ∷ ys) zs (inl h) = inl (h.0, covered_in_front xs ys zs h.1)
covered_in_front (x ∷ xs) (y ∷ ys) zs (inr h) = inr (covered_in_front (x ∷ xs) ys zs h)

length_covered : (xs ys : List ℕ) → AreCovered xs ys → length xs ≤ length ys
length_covered [] ys h = omega arith
length_covered (x ∷ xs) [] h = absurd h
length_covered (x ∷ xs) (y ∷ ys) (inl h) = let rest = length_covered xs ys h.1 in omega (arith, rest)
length_covered (x ∷ xs) (y ∷ ys) (inr h) = let rest = length_covered (x ∷ xs) ys h in omega (arith, rest)

touched_covered : (xs ys : List ℕ) → AreCovered xs ys → sum (map touched xs) ≤ sum (map touched ys)
touched_covered [] ys h = omega arith
touched_covered (x ∷ xs) [] h = absurd h
touched_covered (x ∷ xs) (y ∷ ys) (inl h) =
    let here = fit_rises x y h.0 in
    let rest = touched_covered xs ys h.1 in
    omega (arith, here, rest)
touched_covered (x ∷ xs) (y ∷ ys) (inr h) = let rest = touched_covered (x ∷ xs) ys h in omega (arith, rest)

largest_covered : (xs ys : List ℕ) → AreCovered xs ys → largest xs ≤ largest ys
largest_covered [] ys h = omega arith
largest_covered (x ∷ xs) [] h = absurd h
largest_covered (x ∷ xs) (y ∷ ys) (inl h) =
    let here = fit_rises x y h.0 in
    let rest = largest_covered xs ys h.1 in
    omega (arith, here, rest)
largest_covered (x ∷ xs) (y ∷ ys) (inr h) = let rest = largest_covered (x ∷ xs) ys h in omega (arith, rest)

enough_covered : (xs ys : List ℕ) (m n : ℕ) → AreCovered xs ys → m ≤ n → enough_for xs m ≤ enough_for ys n
enough_covered xs ys m n h more =
    let sums = touched_covered xs ys h in
    let files = length_covered xs ys h in
    let gaps : (2 * (1 + length xs) + 1) * ((m + 15) / 16 - 1) ≤ (2 * (1 + length ys) + 1) * ((n + 15) / 16 - 1) = mul-le-mul (omega (arith, files)) (omega (arith, more)) in
    omega (arith, sums, files, gaps)

-- ---- files

module _ (most : List ℕ → ℕ) where
  -- the relation of a slot is no larger than that of another, where there is one
  abbrev IsNoLargerIn : Option Relation → Option Relation → Type 0
  IsNoLargerIn o p = (q : Relation) → p ≡ Some q → (r : Relation) × (o ≡ Some r) × IsNoLarger (most r.schema.name) r q

  rows_few : (r q : Relation) → IsNoLarger (most r.schema.name) r q → length q.rows ≤ 32768 → rows_size q ≤ rows_planned most r
  rows_few r q n within =
      let few = n.few in
      let less : length q.rows ≤ slots_planned (most r.schema.name) (length r.rows) = omega (arith, few, within) in
      mul-le-mul n.width less

  rows_covered : (others slots : List (Option Relation)) → ((k : ℕ) → IsNoLargerIn (get_or slots k None) (get_or others k None)) → ((k : ℕ) (q : Relation) → get_or others k None ≡ Some q → length q.rows ≤ 32768)
      → AreCovered (map rows_size (used_things others)) (map (rows_planned most) (used_things slots))
  rows_covered [] slots h few = tt
  rows_covered (None ∷ others) [] h few = rows_covered others [] (λ k. h (suc k)) (λ k. few (suc k))
  rows_covered (None ∷ others) (None ∷ slots) h few = rows_covered others slots (λ k. h (suc k)) (λ k. few (suc k))
  rows_covered (None ∷ others) (Some r ∷ slots) h few =
      covered_by_more (map rows_size (used_things others)) (rows_planned most r) (map (rows_planned most) (used_things slots)) (rows_covered others slots (λ k. h (suc k)) (λ k. few (suc k)))
  rows_covered (Some q ∷ others) [] h few = let there = h 0 q refl in let e = there.1 in absurd (let n : ⊥ = cc in n)
  rows_covered (Some q ∷ others) (None ∷ slots) h few = let there = h 0 q refl in let e = there.1 in absurd (let n : ⊥ = cc in n)
  rows_covered (Some q ∷ others) (Some r ∷ slots) h few =
      let there = h 0 q refl in
      let same : r ≡ there.0 = some_same r there.0 there.1 in
      inl (rows_few r q (subst (λ (x : Relation). IsNoLarger (most x.schema.name) x q) (sym same) there.2) (few 0 q refl), rows_covered others slots (λ k. h (suc k)) (λ k. few (suc k)))
    where
      some_same : (a b : Relation) → Some a ≡ Some b → a ≡ b
      some_same a b e = cc

no_trees : (db : Database) (slots : List (Option Index)) → ((k : ℕ) (index : Index) → get_or slots k None ≡ Some index → index.kind ≢ MaxHeap) → tree_sizes db (used_things slots) ≡ []
no_trees db [] none = refl
no_trees db (None ∷ slots) none = no_trees db slots (λ k. none (suc k))
no_trees db (Some index ∷ slots) none = by_kind index.kind refl (no_trees db slots (λ k. none (suc k)))
  where
    by_kind : (kind : IndexKind) → index.kind ≡ kind → tree_sizes db (used_things slots) ≡ [] → index_sizes db index ++ tree_sizes db (used_things slots) ≡ []
    by_kind Inline is rest = rw is rest
    by_kind MaxHeap is rest = absurd (none 0 index refl is)
    by_kind MemHash is rest = rw is rest

sizes_covered : (rows : List ℕ → ℕ) (db new : Database) → IsTreeless new → HasNoneLarger rows db new → AreCovered (file_sizes new) (sizes_planned rows db)
sizes_covered rows db new t larger =
    let all : file_sizes new ≡ map rows_size (used_things new.relations) = ap (λ ts. map rows_size (used_things new.relations) ++ ts) (no_trees new new.indexes t.treeless) ∙ append-nil (map rows_size (used_things new.relations)) in
    subst (λ xs. AreCovered xs (sizes_planned rows db)) (sym all)
    (covered_in_front (map rows_size (used_things new.relations)) (map (rows_planned rows) (used_things db.relations)) (trees_planned rows db (used_things db.indexes))
    (rows_covered rows new.relations db.relations larger t.few))

-- ---- what a command asks for

-- no command but one that makes a hash tree asks for more than the largest file may
asks_few : (new : Database) (c : Command) → makes_tree c ≡ false → most new c ≤ most_of (file_sizes new)
asks_few new (command.CreateRelation name) makes = omega arith
asks_few new (command.CreateAttribute name domain relation) makes = omega arith
asks_few new (command.CreateIndex relation attribute Inline) makes = omega arith
asks_few new (command.CreateIndex relation attribute MaxHeap) makes = absurd (let n : ⊥ = cc in n)
asks_few new (command.CreateIndex relation attribute MemHash) makes = omega arith
asks_few new (command.Insert values name) makes = let a = insert_among new name (relation_named new name) refl in omega (arith, a)
asks_few new (command.Ask query) makes = omega arith
asks_few new (command.Aggregate list relation nodes) makes = omega arith
asks_few new (command.RemoveFrom name nodes) makes = let a = rows_among new name (relation_named new name) refl in omega (arith, a)
asks_few new (command.RemoveRelation relation) makes = omega arith
asks_few new (command.RemoveIndex relation attribute) makes = omega arith
asks_few new (command.Pack name) makes = let a = rows_among new name (relation_named new name) refl in omega (arith, a)
asks_few new (command.OpenCursor number query) makes = omega arith
asks_few new (command.FetchCursor number) makes = omega arith
asks_few new (command.CloseCursor number) makes = omega arith

-- there are the sectors for a command that keeps to its slots
pub slots_suffice : (rows : List ℕ → ℕ) (db : Database) (front rest : List Command) (c : Command) → HasFewRows db → KeepsToSlots rows db (front ++ c ∷ rest)
    → enough (after_all db front) (most (after_all db front) c) ≤ planned db rows
slots_suffice rows db front rest c few keeps =
    let new : IsTreeless (after_all db front) = treeless db front (all_front (λ d. makes_tree d ≡ false) front (c ∷ rest) keeps.kinds) (record { few = few; treeless = keeps.treeless }) in
    let sizes : AreCovered (file_sizes (after_all db front)) (sizes_planned rows db) = sizes_covered rows db (after_all db front) new (keeps.few front (c ∷ rest) refl) in
    let files = largest_covered (file_sizes (after_all db front)) (sizes_planned rows db) sizes in
    let asks = asks_few (after_all db front) c (all_behind (λ d. makes_tree d ≡ false) front c rest keeps.kinds) in
    enough_covered (file_sizes (after_all db front)) (sizes_planned rows db) (most (after_all db front) c) (most_of (sizes_planned rows db)) sizes (omega (arith, files, asks))

pub slots_each : (rows : List ℕ → ℕ) (db : Database) (commands : List Command) (sectors : ℕ) → HasFewRows db → KeepsToSlots rows db commands → planned db rows ≤ sectors → EachSuffices db commands sectors
slots_each rows db commands sectors few keeps there front rest c split =
    let enough = slots_suffice rows db front rest c few (subst (KeepsToSlots rows db) split keeps) in
    inr (omega (arith, enough, there))
