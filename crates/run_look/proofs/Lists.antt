-- Texts with `, ` between them that are written one by one.
use Rattle.std.proofs.Common.{◌≡◌, refl, sym, ap, subst, ◌∙◌, ℕ, ◌+◌, ◌<◌, List, [], ◌∷◌, ◌++◌, length, take, drop, get_or, append_assoc, append-nil, arith, length-take-le, Option}
use Rattle.std.proofs.lemmas.List.{take-append-drop, take_more}
use Rattle.std.specs.Io.KnownBytes.{append_known}
use Rattle.dump.specs.Parts.{comma_and_space}
use Rattle.run_look.specs.Text.{list_text}
use Rattle.reply_text.proofs.Pieces.{less_front, less_behind}
use Rattle.reply_text.specs.WroteLess.{WroteLess}

module _ {A : Type 0} (text : A → List ℕ) where
  -- what things add behind others
  abbrev rest_of : List A → List A → List ℕ
  rest_of [] us = list_text text us
  rest_of (x ∷ xs) [] = []
  rest_of (x ∷ xs) (u ∷ us) = 44 ∷ 32 ∷ list_text text (u ∷ us)

  listed-append : (xs us : List A) → list_text text (xs ++ us) ≡ list_text text xs ++ rest_of xs us
  listed-append [] us = refl
  listed-append (x ∷ []) [] = sym (append-nil (text x))
  listed-append (x ∷ []) (u ∷ us) = refl
  listed-append (x ∷ y ∷ xs) us =
      ap (λ t. text x ++ 44 ∷ 32 ∷ t) (listed-append (y ∷ xs) us) ∙ ap (λ t. text x ++ 44 ∷ 32 ∷ (list_text text (y ∷ xs) ++ t)) (same us) ∙ sym (append_assoc (text x) (44 ∷ 32 ∷ list_text text (y ∷ xs)) (rest_of (x ∷ y ∷ xs) us))
    where
      same : (us : List A) → rest_of (y ∷ xs) us ≡ rest_of (x ∷ y ∷ xs) us
      same [] = refl
      same (u ∷ us) = refl

  one_rest : (xs : List A) (x : A) → rest_of xs (x ∷ []) ≡ comma_and_space (length xs) ++ text x
  one_rest [] x = refl
  one_rest (y ∷ xs) x = refl

  module _ (xs : List A) (i : ℕ) (d : A) (h : i < length xs) where
    -- one more
    pub listed_more : list_text text (take (i + 1) xs) ≡ list_text text (take i xs) ++ (comma_and_space i ++ text (get_or xs i d))
    listed_more =
        let x = get_or xs i d in
        let many : length (take i xs) ≡ i = length-take-le i xs (omega (arith, h)) in
        ap (list_text text) (take_more xs i d h) ∙ listed-append (take i xs) (x ∷ []) ∙ ap (λ t. list_text text (take i xs) ++ t) (one_rest (take i xs) x) ∙ ap (λ n. list_text text (take i xs) ++ (comma_and_space n ++ text x)) many

    -- one was not wholly written
    pub less_listed : (h0 h1 h2 : Option (List ℕ)) → h1 ≡ append_known h0 (list_text text (take i xs)) → WroteLess h1 h2 (comma_and_space i ++ text (get_or xs i d)) → WroteLess h0 h2 (list_text text xs)
    less_listed h0 h1 h2 e w =
        let front = list_text text (take i xs) in
        let item = comma_and_space i ++ text (get_or xs i d) in
        let rest = rest_of (take (i + 1) xs) (drop (i + 1) xs) in
        let whole : list_text text xs ≡ (front ++ item) ++ rest = ap (list_text text) (sym (take-append-drop (i + 1) xs)) ∙ listed-append (take (i + 1) xs) (drop (i + 1) xs) ∙ ap (λ f. f ++ rest) listed_more in
        subst (λ all. WroteLess h0 h2 all) (sym whole) (less_front h0 h2 (front ++ item) rest (less_behind h0 h1 h2 front item e w))
