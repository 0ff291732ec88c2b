-- The sum of a list and one more.
use Rattle.std.proofs.Common.{◌≡◌, List, [], ◌∷◌, ◌++◌}
use Rattle.std.specs.Prelude.{ℤ, pos, ◌+ℤ◌}
use Rattle.std.proofs.lemmas.List.Sums.{fold-append}
use Rattle.db_model.specs.Answers.{total}

pub total-append : (ns : List ℤ) (n : ℤ) → total (ns ++ n ∷ []) ≡ total ns +ℤ n
total-append ns n = fold-append (λ sum z. sum +ℤ z) (pos 0) ns (n ∷ [])
