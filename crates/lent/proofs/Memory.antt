-- What a run says of the memory that was lent.
use Rattle.std.proofs.Common.{◌≡◌, ◌⊎◌, ℕ, List, [], Some, inl, inr, subst, sym, take}
use Rattle.antelope_run.specs.Promise.{HasSpace, LeftBy}
use Rattle.run_collect.specs.Collects.{Collects}
use Rattle.lent.specs.Memory.{LeavesMemory}
use Rattle.run_repair.specs.Checks.{Checks}
use Rattle.run_repair.specs.Repairs.{Repairs}
use Rattle.run_model.specs.Runs.{world}
use Rattle.run_words.specs.declared.words.Form.{Form}

-- a run over a flash, a source and a sink that hold the memory, of which the sink held nothing
pub leaves : (form : Form) (status : ℕ) (input rest room : List ℕ) (count : ℕ) {lent old kept new wrote replies : List ℕ} {held : ℕ}
    → LeftBy status form (world lent (Some input) (Some (take held room))) (world kept (Some rest) (Some (take count wrote)))
    → lent ≡ old → held ≡ 0 → kept ≡ new → wrote ≡ replies → LeavesMemory form old input status new (take count replies)
leaves form status input rest room count {lent = lent} {kept = kept} {wrote = wrote} left same none now front = (
  Some rest,
  rw (← same, ← now, ← front) (subst (λ h. LeftBy status form (world lent (Some input) (Some (take h room))) (world kept (Some rest) (Some (take count wrote)))) none left),
)

-- the same of a repair
pub repairs : (status : ℕ) (room : List ℕ) (count : ℕ) {lent old kept new wrote replies : List ℕ} {held : ℕ}
    → Repairs status lent kept (Some (take held room)) (Some (take count wrote))
    → lent ≡ old → held ≡ 0 → kept ≡ new → wrote ≡ replies → Repairs status old new (Some []) (Some (take count replies))
repairs status room count {lent = lent} {kept = kept} {wrote = wrote} left same none now front =
    rw (← same, ← now, ← front) (subst (λ h. Repairs status lent kept (Some (take h room)) (Some (take count wrote))) none left)

-- and of a check
pub checks : (status : ℕ) (room : List ℕ) (count : ℕ) {lent old wrote replies : List ℕ} {held : ℕ}
    → Checks status lent (Some (take held room)) (Some (take count wrote))
    → lent ≡ old → held ≡ 0 → wrote ≡ replies → Checks status old (Some []) (Some (take count replies))
checks status room count {lent = lent} {wrote = wrote} left same none front =
    rw (← same, ← front) (subst (λ h. Checks status lent (Some (take h room)) (Some (take count wrote))) none left)

-- and of a collection
pub collects : (status : ℕ) (room : List ℕ) (count : ℕ) {lent old kept new wrote replies : List ℕ} {held : ℕ}
    → Collects status lent kept (Some (take held room)) (Some (take count wrote))
    → lent ≡ old → held ≡ 0 → kept ≡ new → wrote ≡ replies → Collects status old new (Some []) (Some (take count replies))
collects status room count {lent = lent} {kept = kept} {wrote = wrote} left same none now front =
    rw (← same, ← now, ← front) (subst (λ h. Collects status lent kept (Some (take h room)) (Some (take count wrote))) none left)

-- space that a run finds over the memory it finds over what holds it
pub has_space : (form : Form) (input room : List ℕ) {lent old : List ℕ} {held : ℕ} → lent ≡ old → held ≡ 0
    → HasSpace form (world old (Some input) (Some [])) → HasSpace form (world lent (Some input) (Some (take held room)))
has_space form input room {old = old} {held = held} same none has =
    subst (λ i. HasSpace form (world i (Some input) (Some (take held room)))) (sym same)
    (subst (λ h. HasSpace form (world old (Some input) (Some (take h room)))) (sym none) has)

pub ends_of : {status : ℕ} → (status ≡ 0) ⊎ (status ≡ 3) → (status ≡ 0) ⊎ (status ≡ 3) ⊎ (status ≡ 10)
ends_of (inl e) = inl e
ends_of (inr e) = inr (inl e)
