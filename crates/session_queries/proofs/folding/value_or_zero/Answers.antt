use Rattle.std.proofs.Common.{rules, ◌≡◌, ℕ, zero, suc, List, [], ◌∷◌, get_or, slice_get, None, refl}
use Rattle.db_model.specs.Row.{tuple_of}
use Rattle.session_queries.proofs.folding.value_or_zero.Goals as goal

-- where there is no element the default stands
none_there : {A : Type 0} (xs : List A) (i : ℕ) (d : A) → slice_get xs i ≡ None → d ≡ get_or xs i d
none_there [] i d none = refl
none_there (x ∷ xs) zero d none = absurd (cc)
none_there (x ∷ xs) (suc i) d none = none_there xs i d none

pub returns-in-None : goal.returns-in-None
returns-in-None c =
    let none : slice_get (tuple_of c.args.attributes.now c.args.row.now) c.args.place ≡ None = search rules in
    none_there (tuple_of c.args.attributes.now c.args.row.now) c.args.place _ none
