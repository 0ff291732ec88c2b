-- The first slot of a key, from one on, told by the pairs that are wanted.
use Rattle.std.proofs.Common.{◌≡◌, ◌≤◌, ◌<◌, ◌+◌, ◌-◌, ℕ, ℤ, zero, suc, List, [], ◌∷◌, length, Bool, true, false, cond, refl, arith, ap, ◌∙◌, sym}
use Rattle.std.specs.Prelude.{◌&&◌, nat_le}
use Rattle.std.specs.List.{filter}
use Rattle.std.specs.Ordering.{int_eq}
use Rattle.std.proofs.lemmas.Bool.Decides.{nat_tests}
use Rattle.padded.proofs.Facts.{both_parts, le_true, true_le}
use Rattle.afl_base.specs.Keys.{HasNone, IsFirstOf, is_key_at}
use Rattle.index_tree.specs.Pairs.{Pair, has_key}
use Rattle.index_tree.specs.Places.{is_wanted}
use Rattle.index_tree.specs.Trees.{numbered}
use Rattle.index_tree.proofs.Reach.{filter_weaker}

-- ---- tests

-- what is wanted from a later slot on is wanted from an earlier one on
pub later_is : (key : ℤ) (from to : ℕ) → from ≤ to → (p : Pair) → is_wanted key to p ≡ true → is_wanted key from p ≡ true
later_is key from to h p e =
    let parts = both_parts (has_key key p) (nat_le to p.slot) e in
    let up : to ≤ p.slot = true_le to p.slot parts.1 in
    let down : nat_le from p.slot ≡ true = le_true from p.slot (omega (arith, up, h)) in
    rw (parts.0, down) refl

passed_slot : (key : ℤ) (slot : ℕ) (p : Pair) → p.slot ≡ slot → is_wanted key (slot + 1) p ≡ false
passed_slot key slot p e =
    let past : nat_le (slot + 1) p.slot ≡ false = grind (arith, nat_tests) in
    rw past (never (has_key key p))
  where
    never : (b : Bool) → (b && false) ≡ false
    never true = refl
    never false = refl

-- what is wanted behind the first that is wanted
pub later_wanted : (key : ℤ) (from slot : ℕ) (ps xs : List Pair) → from ≤ slot → filter (is_wanted key from) ps ≡ record { key = key; slot = slot } ∷ filter (is_wanted key from) xs →
    filter (is_wanted key (slot + 1)) xs ≡ filter (is_wanted key (slot + 1)) ps
later_wanted key from slot ps xs h first =
    let now : Pair → Bool = is_wanted key from in
    let then_ : Pair → Bool = is_wanted key (slot + 1) in
    let weaker : (p : Pair) → then_ p ≡ true → now p ≡ true = later_is key from (slot + 1) (omega (arith, h)) in
    let skipped : then_ (record { key = key; slot = slot }) ≡ false = passed_slot key slot (record { key = key; slot = slot }) refl in
    let gone : filter then_ (record { key = key; slot = slot } ∷ filter now xs) ≡ filter then_ (filter now xs) = rw skipped refl in
    sym (filter_weaker then_ now weaker xs) ∙ sym gone ∙ sym (ap (filter then_) first) ∙ filter_weaker then_ now weaker ps

-- ---- slots

-- the first that is wanted of the pairs from a slot on
record IsFirstFrom (key : ℤ) (from n slot : ℕ) (ks : List ℤ) : Type 0 where
  up : n ≤ slot
  within : slot < n + length ks
  order : from ≤ slot
  here : is_key_at key ks (slot - n) ≡ true
  before : (i : ℕ) → from ≤ n + i → n + i < slot → is_key_at key ks i ≡ false

wanted_key : (k key : ℤ) (from n : ℕ) → (int_eq k key && nat_le from n) ≡ false → from ≤ n → int_eq k key ≡ false
wanted_key k key from n e h = split (int_eq k key) (nat_le from n) e (le_true from n h)
  where
    split : (a b : Bool) → (a && b) ≡ false → b ≡ true → a ≡ false
    split true b e t = sym t ∙ e
    split false b e t = refl

before_at : (k key : ℤ) (from n slot : ℕ) (ks : List ℤ) (i : ℕ) → from ≤ n + i → n + i < slot → (int_eq k key && nat_le from n) ≡ false → IsFirstFrom key from (n + 1) slot ks → is_key_at key (k ∷ ks) i ≡ false
before_at k key from n slot ks zero h j t deep = wanted_key k key from n t (omega (arith, h))
before_at k key from n slot ks (suc i) h j t deep = deep.before i (omega (arith, h)) (omega (arith, j))

first_from : (key : ℤ) (from n slot : ℕ) (ks : List ℤ) (rest : List Pair) → filter (is_wanted key from) (numbered n ks) ≡ record { key = key; slot = slot } ∷ rest → IsFirstFrom key from n slot ks
first_from key from n slot [] rest e = absurd (no e)
  where
    no : [] ≡ record { key = key; slot = slot } ∷ rest → ⊥
    no e = cc
first_from key from n slot (k ∷ ks) rest e = by_test (int_eq k key && nat_le from n) refl e (λ d. first_from key from (n + 1) slot ks rest d)
  where
    head : (p q : Pair) (xs ys : List Pair) → p ∷ xs ≡ q ∷ ys → p.slot ≡ q.slot
    head p q xs ys e = cc

    by_test : (b : Bool) → (int_eq k key && nat_le from n) ≡ b → cond b (record { key = k; slot = n } ∷ filter (is_wanted key from) (numbered (n + 1) ks)) (filter (is_wanted key from) (numbered (n + 1) ks)) ≡ record { key = key; slot = slot } ∷ rest →
        (filter (is_wanted key from) (numbered (n + 1) ks) ≡ record { key = key; slot = slot } ∷ rest → IsFirstFrom key from (n + 1) slot ks) → IsFirstFrom key from n slot (k ∷ ks)
    by_test true t e deeper =
        let same : n ≡ slot = head (record { key = k; slot = n }) (record { key = key; slot = slot }) (filter (is_wanted key from) (numbered (n + 1) ks)) rest e in
        let parts = both_parts (int_eq k key) (nat_le from n) t in
        let down : from ≤ n = true_le from n parts.1 in
        let z : slot - n ≡ 0 = omega (arith, same) in
        record {
          up = omega (arith, same);
          within = omega (arith, same);
          order = omega (arith, same, down);
          here = rw z parts.0;
          before = λ i h j. absurd (omega (arith, j, same));
        }
    by_test false t e deeper =
        let deep : IsFirstFrom key from (n + 1) slot ks = deeper e in
        let up = deep.up in
        let within = deep.within in
        let next : slot - n ≡ suc (slot - (n + 1)) = omega (arith, up) in
        record {
          up = omega (arith, up);
          within = omega (arith, within);
          order = deep.order;
          here = rw next deep.here;
          before = λ i h j. before_at k key from n slot ks i h j t deep;
        }

pub is_first : (key : ℤ) (from slot : ℕ) (ks : List ℤ) (rest : List Pair) → filter (is_wanted key from) (numbered 0 ks) ≡ record { key = key; slot = slot } ∷ rest → IsFirstOf key ks from slot
is_first key from slot ks rest e =
    let first : IsFirstFrom key from 0 slot ks = first_from key from 0 slot ks rest e in
    let within = first.within in
    let z : slot - 0 ≡ slot = omega arith in
    record {
      order = first.order;
      within = omega (arith, within);
      here = rw z at first.here;
      before = λ i h j. first.before i (omega (arith, h)) (omega (arith, j));
    }

none_from : (key : ℤ) (from n : ℕ) (ks : List ℤ) → filter (is_wanted key from) (numbered n ks) ≡ [] → (i : ℕ) → from ≤ n + i → i < length ks → is_key_at key ks i ≡ false
none_from key from n [] e i h j = absurd (omega (arith, j))
none_from key from n (k ∷ ks) e i h j = by_test (int_eq k key && nat_le from n) refl e i h j (λ d. none_from key from (n + 1) ks d)
  where
    by_test : (b : Bool) → (int_eq k key && nat_le from n) ≡ b → cond b (record { key = k; slot = n } ∷ filter (is_wanted key from) (numbered (n + 1) ks)) (filter (is_wanted key from) (numbered (n + 1) ks)) ≡ [] →
        (i : ℕ) → from ≤ n + i → i < length (k ∷ ks) →
        (filter (is_wanted key from) (numbered (n + 1) ks) ≡ [] → (i : ℕ) → from ≤ n + 1 + i → i < length ks → is_key_at key ks i ≡ false) → is_key_at key (k ∷ ks) i ≡ false
    by_test true t e i h j deeper = absurd (no (filter (is_wanted key from) (numbered (n + 1) ks)) e)
      where
        no : (xs : List Pair) → record { key = k; slot = n } ∷ xs ≡ [] → ⊥
        no xs e = cc
    by_test false t e zero h j deeper = wanted_key k key from n t (omega (arith, h))
    by_test false t e (suc i) h j deeper = deeper e i (omega (arith, h)) (omega (arith, j))

pub has_none : (key : ℤ) (from : ℕ) (ks : List ℤ) → filter (is_wanted key from) (numbered 0 ks) ≡ [] → HasNone key ks from
has_none key from ks e = λ i h j. none_from key from 0 ks e i (omega (arith, h)) j
