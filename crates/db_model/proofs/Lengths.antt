-- A word is a keyword of its own length, if it is one.
use Rattle.std.proofs.Common.{◌≡◌, ℕ, ◌≤◌, ◌==◌, nat_le, Bool, true, false, ◌&&◌, IsTrue, List, [], ◌∷◌, length, Some, refl, sym, ◌∙◌, ap, arith, if◌then◌else◌}
use Rattle.std.specs.Prelude.{filter, nat_eq}
use Rattle.std.specs.Char.{to_ascii_lowercase}
use Rattle.std.specs.List.{list_all}
use Rattle.std.specs.Str.{str_eq_ignore_ascii_case}
use Rattle.std.proofs.lemmas.Bool.Decides.{nat_tests}
use Rattle.db_model.specs.Keywords.{keyword_among, keyword_of, keyword_text, keywords, keywords_of_length}
use Rattle.db_model.specs.declared.tokens.Keyword.{Keyword}

never_both : (b : Bool) → (b && false) ≡ false
never_both true = refl
never_both false = refl

-- texts of two lengths differ
differ : (a b : List ℕ) → (length a ≡ length b → ⊥) → str_eq_ignore_ascii_case a b ≡ false
differ [] [] h = absurd (h refl)
differ [] (y ∷ b) h = refl
differ (x ∷ a) [] h = refl
differ (x ∷ a) (y ∷ b) h =
    ap (λ r. nat_eq (to_ascii_lowercase x) (to_ascii_lowercase y) && r) (differ a b (λ e. h (omega (arith, e)))) ∙ never_both (nat_eq (to_ascii_lowercase x) (to_ascii_lowercase y))

-- keywords of other lengths may be left out
among : (ks : List Keyword) (word : List ℕ) → keyword_among ks word ≡ keyword_among (filter (λ k. length (keyword_text k) == length word) ks) word
among [] word = refl
among (k ∷ ks) word = go (length (keyword_text k) == length word) refl (among ks word)
  where
    rest : List Keyword
    rest = filter (λ k. length (keyword_text k) == length word) ks

    go : (b : Bool) → (length (keyword_text k) == length word) ≡ b → keyword_among ks word ≡ keyword_among rest word →
        keyword_among (k ∷ ks) word ≡ keyword_among (if b then k ∷ rest else rest) word
    go true e h = ap (λ r. if str_eq_ignore_ascii_case word (keyword_text k) then Some k else r) h
    go false e h = ap (λ b. if b then Some k else keyword_among ks word) (differ word (keyword_text k) (λ same. grind (arith, nat_tests))) ∙ h

pub by_length : (word : List ℕ) → keyword_among (keywords_of_length (length word)) word ≡ keyword_of word
unfolding keyword_of
by_length word = sym (among keywords word)

-- no keyword has fewer than 2 letters, and none more than 9
outside : (ks : List Keyword) (n : ℕ) → IsTrue (list_all (λ k. nat_le 2 (length (keyword_text k)) && nat_le (length (keyword_text k)) 9) ks) → (2 ≤ n → n ≤ 9 → ⊥) →
    filter (λ k. length (keyword_text k) == n) ks ≡ []
outside [] n h out = refl
outside (k ∷ ks) n h out = go (length (keyword_text k) == n) refl (nat_le 2 (length (keyword_text k))) (nat_le (length (keyword_text k)) 9) refl refl h (λ r. outside ks n r out)
  where
    rest : List Keyword
    rest = filter (λ k. length (keyword_text k) == n) ks

    all : Bool
    all = list_all (λ k. nat_le 2 (length (keyword_text k)) && nat_le (length (keyword_text k)) 9) ks

    go : (b : Bool) → (length (keyword_text k) == n) ≡ b → (l m : Bool) → nat_le 2 (length (keyword_text k)) ≡ l → nat_le (length (keyword_text k)) 9 ≡ m → IsTrue (l && m && all) → (IsTrue all → rest ≡ []) →
        (if b then k ∷ rest else rest) ≡ []
    go true e true true f g h next = absurd (out (grind (arith, nat_tests)) (grind (arith, nat_tests)))
    go false e true true f g h next = next h
    go _ e false m f g h next = cc
    go _ e true false f g h next = cc

pub none_of_length : (n : ℕ) → (2 ≤ n → n ≤ 9 → ⊥) → keywords_of_length n ≡ []
unfolding keywords
none_of_length n out = outside keywords n refl out
