-- The numbers among some values and one more.
use Rattle.std.proofs.Common.{◌≡◌, List, [], ◌∷◌, ◌++◌, Some, refl, ap, ◌∙◌}
use Rattle.std.specs.Prelude.{ℤ}
use Rattle.db_model.specs.declared.commands.Agg.{Agg}
use Rattle.db_model.specs.declared.commands.Agg.TheVariants.{Count, Sum, Min, Max, Mean, Median}
use Rattle.db_model.specs.declared.values.Value.{Value}
use Rattle.db_model.specs.declared.values.Value.TheVariants.{Number, Text}
use Rattle.db_model.specs.Answers.{numbers}
use Rattle.aggregate.specs.Fold.{number_for, numbers_for}

pub numbers-number : (vs : List Value) (n : ℤ) → numbers (vs ++ Number n ∷ []) ≡ numbers vs ++ n ∷ []
numbers-number [] n = refl
numbers-number (Number m ∷ vs) n = ap (λ ns. m ∷ ns) (numbers-number vs n)
numbers-number (Text t ∷ vs) n = numbers-number vs n

pub numbers-more : (agg : Agg) (vs : List Value) (v : Value) (n : ℤ) → Some n ≡ number_for agg v → numbers (vs ++ v ∷ []) ≡ numbers vs ++ n ∷ []
numbers-more Count vs v n e = cc
numbers-more agg vs (Number m) n e = let f : m ≡ n = cc in ap (λ z. numbers (vs ++ Number z ∷ [])) f ∙ numbers-number vs n
numbers-more agg vs (Text t) n e = cc

pub numbers_for-more : (agg : Agg) (vs : List Value) (v : Value) (n : ℤ) → Some n ≡ number_for agg v → numbers_for agg (vs ++ v ∷ []) ≡ numbers_for agg vs ++ n ∷ []
numbers_for-more Count vs v n e = cc
numbers_for-more Sum vs v n e = numbers-more Sum vs v n e
numbers_for-more Min vs v n e = numbers-more Min vs v n e
numbers_for-more Max vs v n e = numbers-more Max vs v n e
numbers_for-more Mean vs v n e = numbers-more Mean vs v n e
numbers_for-more Median vs v n e = numbers-more Median vs v n e
