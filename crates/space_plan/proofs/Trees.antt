-- The size that is planned for one hash tree.
use Rattle.std.proofs.Common.{◌≡◌, ℕ, ◌+◌, ◌*◌, ◌<◌, true, List, [], ◌∷◌, length, Option, Some, None, if◌then◌else◌, refl, ap, sym, ◌∙◌, arith}
use Rattle.std.specs.Prelude.{nat_lt}
use Rattle.std.specs.Option.{option_to_list}
use Rattle.std.proofs.lemmas.Bool.Decides.{nat_tests}
use Rattle.std.proofs.lemmas.List.{length-map}
use Rattle.antelope_engine.specs.Reading.{keys_at_index}
use Rattle.db_model.specs.declared.schemas.IndexKind.{IndexKind}
use Rattle.db_model.specs.declared.schemas.IndexKind.TheVariants.{Inline, MaxHeap, MemHash}
use Rattle.db_model.specs.Catalog.{Index}
use Rattle.db_model.specs.Database.{Database}
use Rattle.db_model.specs.HashTree.{buckets}
use Rattle.space_model.specs.Enough.{rows_in}
use Rattle.space_plan.specs.Planned.{buckets_planned, relation_name, tree_planned, trees_planned}
use Rattle.padded.proofs.Facts.{some_alike}

with_tree : (kind : IndexKind) (size : ℕ) → kind ≡ MaxHeap → elim kind [ Inline ↦ [] | MaxHeap ↦ size ∷ [] | MemHash ↦ [] ] ≡ size ∷ []
with_tree Inline size e = cc
with_tree MaxHeap size e = refl
with_tree MemHash size e = cc

pub tree_there : (most : List ℕ → ℕ) (db : Database) (at : Option Index) (index : Index) (size n many slots : ℕ) → at ≡ Some index → index.kind ≡ MaxHeap
    → n ≡ most (relation_name db index.relation) → many ≡ buckets (keys_at_index db index) → slots ≡ length (rows_in db index.relation) → size ≡ 683 + 195 * buckets_planned n many slots
    → size ∷ [] ≡ trees_planned most db (option_to_list at)
tree_there most db at index size n many slots there heap n_is many_is slots_is size_is =
    let all : length (keys_at_index db index) ≡ length (rows_in db index.relation) = length-map (rows_in db index.relation) _ in
    let planned : size ≡ tree_planned (most (relation_name db index.relation)) (keys_at_index db index) =
    rw (← n_is) (size_is ∙ ap (λ b. 683 + 195 * buckets_planned n b slots) many_is ∙ ap (λ s. 683 + 195 * buckets_planned n (buckets (keys_at_index db index)) s) (slots_is ∙ sym all)) in
    rw (there, with_tree index.kind (tree_planned (most (relation_name db index.relation)) (keys_at_index db index)) heap, ← planned) refl

-- a number below 8 is that of its slot
pub slot_is : (slot id : ℕ) (made : Option ℕ) → slot < 8 → made ≡ (if nat_lt slot 8 then Some slot else None) → made ≡ Some id → id ≡ slot
slot_is slot id made below is some =
    let within : nat_lt slot 8 ≡ true = grind (arith, nat_tests, below) in
    let both : Some slot ≡ Some id = ap (λ b. if b then Some slot else None) (sym within) ∙ sym is ∙ some in
    sym (some_alike both)
