-- Values that are written one by one.
use Rattle.std.proofs.Common.{◌≡◌, refl, sym, ap, subst, ◌∙◌, ℕ, ◌+◌, ◌<◌, List, [], ◌∷◌, ◌++◌, length, take, drop, get_or, append_assoc, append-nil, arith, length-take-le, Option}
use Rattle.std.proofs.lemmas.List.{take-append-drop, take_more}
use Rattle.std.specs.Io.KnownBytes.{append_known}
use Rattle.db_model.specs.declared.values.Value.{Value}
use Rattle.db_model.specs.ReplyText.{value_text}
use Rattle.dump.specs.Parts.{comma_and_space}
use Rattle.dump_model.specs.Script.{values_text}
use Rattle.reply_text.proofs.Pieces.{less_front, less_behind}
use Rattle.reply_text.specs.WroteLess.{WroteLess}

-- what values add behind others
abbrev rest_of : List Value → List Value → List ℕ
rest_of [] us = values_text us
rest_of (v ∷ vs) [] = []
rest_of (v ∷ vs) (u ∷ us) = 44 ∷ 32 ∷ values_text (u ∷ us)

values-append : (vs us : List Value) → values_text (vs ++ us) ≡ values_text vs ++ rest_of vs us
values-append [] us = refl
values-append (v ∷ []) [] = sym (append-nil (value_text v))
values-append (v ∷ []) (u ∷ us) = refl
values-append (v ∷ w ∷ vs) us =
    ap (λ t. value_text v ++ 44 ∷ 32 ∷ t) (values-append (w ∷ vs) us) ∙ ap (λ t. value_text v ++ 44 ∷ 32 ∷ (values_text (w ∷ vs) ++ t)) (same us) ∙ sym (append_assoc (value_text v) (44 ∷ 32 ∷ values_text (w ∷ vs)) (rest_of (v ∷ w ∷ vs) us))
  where
    same : (us : List Value) → rest_of (w ∷ vs) us ≡ rest_of (v ∷ w ∷ vs) us
    same [] = refl
    same (u ∷ us) = refl

one_rest : (vs : List Value) (v : Value) → rest_of vs (v ∷ []) ≡ comma_and_space (length vs) ++ value_text v
one_rest [] v = refl
one_rest (w ∷ vs) v = refl

-- one value more
pub values_more : (xs : List Value) (i : ℕ) (d : Value) → i < length xs → values_text (take (i + 1) xs) ≡ values_text (take i xs) ++ (comma_and_space i ++ value_text (get_or xs i d))
values_more xs i d h =
    let v = get_or xs i d in
    let many : length (take i xs) ≡ i = length-take-le i xs (omega (arith, h)) in
    ap values_text (take_more xs i d h) ∙ values-append (take i xs) (v ∷ []) ∙ ap (λ t. values_text (take i xs) ++ t) (one_rest (take i xs) v) ∙ ap (λ n. values_text (take i xs) ++ (comma_and_space n ++ value_text v)) many

-- a value was not wholly written
pub less_value : (xs : List Value) (i : ℕ) (d : Value) (h0 h1 h2 : Option (List ℕ)) → i < length xs → h1 ≡ append_known h0 (values_text (take i xs)) → WroteLess h1 h2 (comma_and_space i ++ value_text (get_or xs i d)) → WroteLess h0 h2 (values_text xs)
less_value xs i d h0 h1 h2 h e w =
    let front = values_text (take i xs) in
    let item = comma_and_space i ++ value_text (get_or xs i d) in
    let rest = rest_of (take (i + 1) xs) (drop (i + 1) xs) in
    let whole : values_text xs ≡ (front ++ item) ++ rest = ap values_text (sym (take-append-drop (i + 1) xs)) ∙ values-append (take (i + 1) xs) (drop (i + 1) xs) ∙ ap (λ f. f ++ rest) (values_more xs i d h) in
    subst (λ all. WroteLess h0 h2 all) (sym whole) (less_front h0 h2 (front ++ item) rest (less_behind h0 h1 h2 front item e w))
