-- Whether some slots have a relation of a name, slot by slot.
use Rattle.std.proofs.Common.{◌≡◌, ℕ, zero, suc, ◌+◌, true, false, List, [], ◌∷◌, drop, get_or, Option, Some, None, refl}
use Rattle.std.specs.Prelude.{is_some}
use Rattle.db_model.specs.Database.{Relation, relation_from}
use Rattle.space_plan.specs.FurtherRows.{has_relation_name}

pub named_here : (name : List ℕ) (n k : ℕ) (slots : List (Option Relation)) → has_relation_name name (get_or slots k None) ≡ true → is_some (relation_from name n (drop k slots)) ≡ true
named_here name n zero [] h = h
named_here name n zero (None ∷ slots) h = absurd (let e : ⊥ = cc in e)
named_here name n zero (Some r ∷ slots) h = rw h refl
named_here name n (suc k) [] h = h
named_here name n (suc k) (o ∷ slots) h = named_here name n k slots h

pub named_later : (name : List ℕ) (n k : ℕ) (slots : List (Option Relation)) → has_relation_name name (get_or slots k None) ≡ false
    → is_some (relation_from name (n + 1) (drop (suc k) slots)) ≡ is_some (relation_from name n (drop k slots))
named_later name n zero [] h = refl
named_later name n zero (None ∷ slots) h = refl
named_later name n zero (Some r ∷ slots) h = rw h refl
named_later name n (suc k) [] h = refl
named_later name n (suc k) (o ∷ slots) h = named_later name n k slots h
