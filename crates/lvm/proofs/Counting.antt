-- Counting goes on from a list to a condition.
use Rattle.std.proofs.Common.{◌≡◌, ℕ, ◌+◌, Bool, true, false, List, [], ◌∷◌, ◌++◌, length, map, Option, Some, None, ap, ◌∙◌, arith}
use Rattle.std.proofs.lemmas.List.{map-append, length-map}
use Rattle.db_model.specs.declared.schemas.Attribute.{Attribute}
use Rattle.db_model.specs.Cond.{Cond}
use Rattle.db_model.specs.Typing as db
use Rattle.db_model.specs.Typing.{first_false, is_attribute, names_of, typings_of}
use Rattle.lvm.specs.Code.{first_missing_name, first_ill_typed}

behind-true : (n : ℕ) (bs cs : List Bool) → first_false n bs ≡ None → first_false n (bs ++ cs) ≡ first_false (n + length bs) cs
behind-true n [] cs e = ap (λ k. first_false k cs) (omega arith)
behind-true n (true ∷ bs) cs e = behind-true (n + 1) bs cs e ∙ ap (λ k. first_false k cs) (omega arith)
behind-true n (false ∷ bs) cs e = cc

in-front : (n k : ℕ) (bs cs : List Bool) → first_false n bs ≡ Some k → first_false n (bs ++ cs) ≡ Some k
in-front n k [] cs e = cc
in-front n k (true ∷ bs) cs e = in-front (n + 1) k bs cs e
in-front n k (false ∷ bs) cs e = e

-- where each name of the list is an attribute, the condition's names decide
pub missing_name-behind : (attributes : List Attribute) (list : List (List ℕ)) (condition : Option Cond)
    → first_false 0 (map (is_attribute attributes) list) ≡ None → db.missing_name attributes list condition ≡ first_missing_name (length list) attributes condition
missing_name-behind attributes list condition e =
    ap (first_false 0) (map-append (is_attribute attributes) list (names_of condition))
    ∙ behind-true 0 (map (is_attribute attributes) list) (map (is_attribute attributes) (names_of condition)) e
    ∙ ap (λ n. first_false n (map (is_attribute attributes) (names_of condition))) (let l : length (map (is_attribute attributes) list) ≡ length list = length-map list (is_attribute attributes) in omega arith)

-- else the list's name decides
pub missing_name-in_front : (attributes : List Attribute) (list : List (List ℕ)) (condition : Option Cond) (k : ℕ)
    → first_false 0 (map (is_attribute attributes) list) ≡ Some k → db.missing_name attributes list condition ≡ Some k
missing_name-in_front attributes list condition k e =
    ap (first_false 0) (map-append (is_attribute attributes) list (names_of condition))
    ∙ in-front 0 k (map (is_attribute attributes) list) (map (is_attribute attributes) (names_of condition)) e

-- the same of the parts of a list and the comparisons of a condition
pub ill_typed-behind : (attributes : List Attribute) (typed : List Bool) (condition : Option Cond)
    → first_false 0 typed ≡ None → db.ill_typed attributes typed condition ≡ first_ill_typed (length typed) attributes condition
ill_typed-behind attributes typed condition e = behind-true 0 typed (typings_of attributes condition) e ∙ ap (λ n. first_false n (typings_of attributes condition)) (omega arith)

pub ill_typed-in_front : (attributes : List Attribute) (typed : List Bool) (condition : Option Cond) (k : ℕ)
    → first_false 0 typed ≡ Some k → db.ill_typed attributes typed condition ≡ Some k
ill_typed-in_front attributes typed condition k e = in-front 0 k typed (typings_of attributes condition) e
