-- Places that stay good while pairs are inserted.
use Rattle.std.proofs.Common.{◌≡◌, ◌≢◌, ℕ, ℤ, zero, suc, List, ◌++◌, true, refl, arith, ap, ◌∙◌, sym, eq-eqb, subst}
use Rattle.std.specs.Prelude.{nat_le}
use Rattle.std.specs.List.{filter}
use Rattle.std.specs.Ordering.{int_eq}
use Rattle.std.proofs.lemmas.List.Elements.{filter-append}
use Rattle.index_tree.specs.Pairs.{Pair, goes, has_key}
use Rattle.index_tree.specs.Places.{IsPlaceAt, KeepsNumbers, is_wanted}
use Rattle.index_tree.proofs.Reach.{ahead-append, place-append}
use Rattle.padded.proofs.Facts.{first_part}

pub eq_true : (a b : ℤ) → int_eq a b ≡ true → a ≡ b
eq_true a b e = grind arith

goes_own : (key : ℤ) (hop : ℕ) (p : Pair) → p.key ≡ key → goes key hop p ≡ true
goes_own key zero p mine = rw mine (eq-eqb _ _ refl)
goes_own key (suc zero) p mine = rw mine (eq-eqb _ _ refl)
goes_own key (suc (suc zero)) p mine = rw mine (eq-eqb _ _ refl)
goes_own key (suc (suc (suc zero))) p mine = rw mine (eq-eqb _ _ refl)
goes_own key (suc (suc (suc (suc hop)))) p mine = refl

-- a key goes its own way at each hop
pub goes_mine : (key : ℤ) (hop : ℕ) (p : Pair) → has_key key p ≡ true → goes key hop p ≡ true
goes_mine key hop p mine = goes_own key hop p (eq_true p.key key mine)

-- what is wanted goes the key's way at each hop
pub goes_wanted : (key : ℤ) (from hop : ℕ) (p : Pair) → is_wanted key from p ≡ true → goes key hop p ≡ true
goes_wanted key from hop p mine = goes_mine key hop p (first_part (has_key key p) (nat_le from p.slot) mine)

-- later pairs leave a place good, where buckets keep their numbers
pub place_stays : (old new : List ℕ) (ps qs : List Pair) (key : ℤ) (from number pair hop : ℕ) → KeepsNumbers old new → IsPlaceAt old ps key from number pair hop → IsPlaceAt new (ps ++ qs) key from number pair hop
place_stays old new ps qs key from number pair hop keeps place = record {
  there = place.there ∙ sym (keeps key hop (subst (λ (n : ℕ). n ≢ 0) place.there place.some));
  some = place.some;
  good = place-append (goes key) ps qs hop pair place.good;
  rest = ahead-append (is_wanted key from) (goes key) (goes_wanted key from) ps qs hop pair place.good
      ∙ ap (λ (xs : List Pair). xs ++ filter (is_wanted key from) qs) place.rest
      ∙ sym (filter-append (is_wanted key from) ps qs);
}
