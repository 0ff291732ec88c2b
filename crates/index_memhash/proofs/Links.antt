-- Chains of entries, and one entry more.
use Rattle.std.proofs.Common.{◌≡◌, ◌≢◌, ◌≤◌, ◌<◌, ◌+◌, ◌-◌, ◌==◌, ◌++◌, ◌∷◌, [], List, length, get_or, set, drop, take, replicate, ℕ, zero, suc, ℤ, pos, Bool, true, false, cond, refl, arith, ap, ◌∙◌, sym, subst}
use Rattle.std.proofs.Math.Logic.{⊎_elim}
use Rattle.std.proofs.lemmas.Bool.{cases_lt, cases_eq}
use Rattle.std.proofs.lemmas.Bool.Decides.{Decides-eqb, Decides-int_eq, nat_tests}
use Rattle.std.proofs.lemmas.List.{get_or-drop, drop_all, drop-append-le, length-append, length-drop, length-set, length-take-le, take_more_set, get_or-take, get_or-set_same, get_or-set_other, get_or-replicate, length-replicate}
use Rattle.std.proofs.Math.Seq.{get_or-append_seam}
use Rattle.std.proofs.Math.ListN.{get_or-append}
use Rattle.std.specs.Prelude.{◌&&◌, nat_le}
use Rattle.std.specs.Ordering.{int_eq}
use Rattle.index_memhash.specs.Chains.{IsChained, IsHashTable, chain_at, entry_from, entry_held, end_link, first_from, hash}
use Rattle.afl_base.specs.Keys.{is_key_at, key_in}
use Rattle.padded.proofs.Facts.{le_true}

pub hash_small : (key : ℤ) → hash key < 512
unfolding hash
hash_small key = omega arith

same_test : (m n : ℕ) → m ≡ n → (m == n) ≡ true
same_test m n e = (Decides-eqb m n).1 e

other_test : (m n : ℕ) → m ≢ n → (m == n) ≡ false
other_test m n differ = grind (arith, nat_tests)

-- ---- the first entry with a hash

at_most : (b : Bool) (x y m : ℕ) → x ≤ m → y ≤ m → cond b x y ≤ m
at_most true x y m h k = h
at_most false x y m h k = k

at_least : (b : Bool) (x y m : ℕ) → m ≤ x → m ≤ y → m ≤ cond b x y
at_least true x y m h k = h
at_least false x y m h k = k

reached_from : (chain at : ℕ) (keys : List ℤ) (j : ℕ) → j < length keys → hash (get_or keys j (pos 0)) ≡ chain → first_from chain at keys ≤ at + j
reached_from chain at [] j h e = absurd (omega arith)
reached_from chain at (k ∷ keys) zero h e = let yes = same_test (hash k) chain e in rw yes (omega arith)
reached_from chain at (k ∷ keys) (suc j) h e =
    let deep : first_from chain (at + 1) keys ≤ at + 1 + j = reached_from chain (at + 1) keys j (omega arith) e in
    at_most (hash k == chain) at (first_from chain (at + 1) keys) (at + suc j) (omega arith) (omega (arith, deep))

later_from : (chain at : ℕ) (keys : List ℤ) → at + length keys ≤ 2048 → at ≤ first_from chain at keys
later_from chain at [] h = omega arith
later_from chain at (k ∷ keys) h =
    let deep : at + 1 ≤ first_from chain (at + 1) keys = later_from chain (at + 1) keys (omega arith) in
    at_least (hash k == chain) at (first_from chain (at + 1) keys) at (omega arith) (omega (arith, deep))

own_case : (b : Bool) (chain at n : ℕ) (k : ℤ) (keys : List ℤ) → (hash k == chain) ≡ b → at + 1 ≤ n → (n < at + 1 + length keys → hash (get_or keys (n - (at + 1)) (pos 0)) ≡ chain)
    → cond b at n < at + length (k ∷ keys) → hash (get_or (k ∷ keys) (cond b at n - at) (pos 0)) ≡ chain
own_case true chain at n k keys e low deep h = let none : at - at ≡ 0 = omega arith in rw none ((Decides-eqb (hash k) chain).0 e)
own_case false chain at n k keys e low deep h = let step : n - at ≡ suc (n - (at + 1)) = omega arith in rw step (deep (omega arith))

own_from : (chain at : ℕ) (keys : List ℤ) → at + length keys ≤ 2048 → first_from chain at keys < at + length keys → hash (get_or keys (first_from chain at keys - at) (pos 0)) ≡ chain
own_from chain at [] h low = absurd (omega arith)
own_from chain at (k ∷ keys) h low =
    own_case (hash k == chain) chain at (first_from chain (at + 1) keys) k keys refl (later_from chain (at + 1) keys (omega arith)) (own_from chain (at + 1) keys (omega arith)) low

-- ---- one key more

same_case : (b : Bool) (at n m : ℕ) → (n ≢ 2048 → m ≡ n) → cond b at n ≢ 2048 → cond b at m ≡ cond b at n
same_case true at n m deep differ = refl
same_case false at n m deep differ = deep differ

more_same : (chain at : ℕ) (keys : List ℤ) (k : ℤ) → first_from chain at keys ≢ 2048 → first_from chain at (keys ++ k ∷ []) ≡ first_from chain at keys
more_same chain at [] k differ = absurd (differ refl)
more_same chain at (x ∷ keys) k differ = same_case (hash x == chain) at (first_from chain (at + 1) keys) (first_from chain (at + 1) (keys ++ k ∷ [])) (more_same chain (at + 1) keys k) differ

here_case : (b : Bool) (at n m t : ℕ) → at < 2048 → (n ≡ 2048 → m ≡ t) → cond b at n ≡ 2048 → cond b at m ≡ t
here_case true at n m t h deep e = absurd (omega (arith, e, h))
here_case false at n m t h deep e = deep e

more_here : (chain at : ℕ) (keys : List ℤ) (k : ℤ) → at + length keys < 2048 → first_from chain at keys ≡ 2048 → hash k ≡ chain → first_from chain at (keys ++ k ∷ []) ≡ at + length keys
more_here chain at [] k h e is = let yes = same_test (hash k) chain is in rw yes (omega arith)
more_here chain at (x ∷ keys) k h e is =
    here_case (hash x == chain) at (first_from chain (at + 1) keys) (first_from chain (at + 1) (keys ++ k ∷ [])) (at + length (x ∷ keys)) (omega arith)
    (λ none. more_here chain (at + 1) keys k (omega arith) none is ∙ omega arith) e

more_other : (chain at : ℕ) (keys : List ℤ) (k : ℤ) → hash k ≢ chain → first_from chain at (keys ++ k ∷ []) ≡ first_from chain at keys
more_other chain at [] k differ = let test = other_test (hash k) chain differ in rw test refl
more_other chain at (x ∷ keys) k differ = ap (cond (hash x == chain) at) (more_other chain (at + 1) keys k differ)

-- ---- the same from one entry on

pub reached : (keys : List ℤ) (chain from i : ℕ) → from ≤ i → i < length keys → hash (key_in keys i) ≡ chain → entry_from keys chain from ≤ i
reached keys chain from i h below e =
    let size = length-drop from keys in
    let back : from + (i - from) ≡ i = omega arith in
    let here : get_or (drop from keys) (i - from) (pos 0) ≡ get_or keys i (pos 0) = get_or-drop from keys (i - from) (pos 0) ∙ ap (λ (n : ℕ). get_or keys n (pos 0)) back in
    let found = reached_from chain from (drop from keys) (i - from) (omega (arith, size)) (ap hash here ∙ e) in
    omega (arith, found, back)

pub later : (keys : List ℤ) (chain from : ℕ) → length keys ≤ 2048 → from ≤ 2048 → from ≤ entry_from keys chain from
later keys chain from h k = let size = length-drop from keys in later_from chain from (drop from keys) (omega (arith, size))

pub own : (keys : List ℤ) (chain from : ℕ) → length keys ≤ 2048 → from ≤ length keys → entry_from keys chain from < length keys → hash (key_in keys (entry_from keys chain from)) ≡ chain
own keys chain from h k low =
    let size = length-drop from keys in
    let after = later keys chain from h (omega (arith, h, k)) in
    let back : from + (entry_from keys chain from - from) ≡ entry_from keys chain from = omega (arith, after) in
    let here : get_or (drop from keys) (entry_from keys chain from - from) (pos 0) ≡ get_or keys (entry_from keys chain from) (pos 0) = get_or-drop from keys (entry_from keys chain from - from) (pos 0) ∙ ap (λ (n : ℕ). get_or keys n (pos 0)) back in
    ap hash (sym here) ∙ own_from chain from (drop from keys) (omega (arith, size, h, k)) (omega (arith, size, k, low))

cut : (keys : List ℤ) (k : ℤ) (chain from : ℕ) → from ≤ length keys → entry_from (keys ++ k ∷ []) chain from ≡ first_from chain from (drop from keys ++ k ∷ [])
cut keys k chain from h = ap (first_from chain from) (drop-append-le from keys (k ∷ []) h)

entry_same : (keys : List ℤ) (k : ℤ) (chain from : ℕ) → from ≤ length keys → entry_from keys chain from ≢ 2048 → entry_from (keys ++ k ∷ []) chain from ≡ entry_from keys chain from
entry_same keys k chain from h differ = cut keys k chain from h ∙ more_same chain from (drop from keys) k differ

entry_here : (keys : List ℤ) (k : ℤ) (chain from : ℕ) → length keys < 2048 → from ≤ length keys → entry_from keys chain from ≡ 2048 → hash k ≡ chain → entry_from (keys ++ k ∷ []) chain from ≡ length keys
entry_here keys k chain from few h e is =
    let size = length-drop from keys in
    cut keys k chain from h ∙ more_here chain from (drop from keys) k (omega (arith, size, few, h)) e is ∙ omega (arith, size, h)

entry_other : (keys : List ℤ) (k : ℤ) (chain from : ℕ) → from ≤ length keys → hash k ≢ chain → entry_from (keys ++ k ∷ []) chain from ≡ entry_from keys chain from
entry_other keys k chain from h differ = cut keys k chain from h ∙ more_other chain from (drop from keys) k differ

past_end : (keys : List ℤ) (chain from : ℕ) → length keys ≤ from → entry_from keys chain from ≡ 2048
past_end keys chain from h = ap (first_from chain from) (drop_all from keys h)

-- ---- the chain of a link

pub chain_head : (keys : List ℤ) (link : ℕ) → link < 512 → chain_at keys link ≡ link
chain_head keys link h = grind (arith, nat_tests)

pub chain_entry : (keys : List ℤ) (link : ℕ) → 512 ≤ link → chain_at keys link ≡ hash (key_in keys (link - 512))
chain_entry keys link h = grind (arith, nat_tests)

chain_stays : (keys : List ℤ) (k : ℤ) (link : ℕ) → link < 512 + length keys → chain_at (keys ++ k ∷ []) link ≡ chain_at keys link
chain_stays keys k link h = ⊎_elim
    (λ low. chain_head (keys ++ k ∷ []) link low ∙ sym (chain_head keys link low))
    (λ high. chain_entry (keys ++ k ∷ []) link high ∙ ap hash (get_or-append keys (k ∷ []) (pos 0) (link - 512) (omega arith)) ∙ sym (chain_entry keys link high))
    (cases_lt link 512)

chain_new : (keys : List ℤ) (k : ℤ) → chain_at (keys ++ k ∷ []) (512 + length keys) ≡ hash k
chain_new keys k =
    let back : 512 + length keys - 512 ≡ length keys = omega arith in
    chain_entry (keys ++ k ∷ []) (512 + length keys) (omega arith) ∙ ap (λ (n : ℕ). hash (get_or (keys ++ k ∷ []) n (pos 0))) back ∙ ap hash (get_or-append_seam keys k [] (pos 0))

-- a chain has one last link
not_before : (keys : List ℤ) (chain p q : ℕ) → length keys ≤ 2048 → p < q → q < 512 + length keys → chain_at keys p ≡ chain → chain_at keys q ≡ chain → entry_from keys chain (p - 511) ≡ 2048 → ⊥
not_before keys chain p q few h below here there ends = ⊎_elim
    (λ low. let a = chain_head keys p (omega arith) in let b = chain_head keys q low in omega (arith, a, b, here, there, h))
    (λ high. let found = reached keys chain (p - 511) (q - 512) (omega arith) (omega arith) (sym (chain_entry keys q high) ∙ there) in omega (arith, found, ends, below, few, high))
    (cases_lt q 512)

one_end : (keys : List ℤ) (chain p q : ℕ) → length keys ≤ 2048 → p < 512 + length keys → q < 512 + length keys → chain_at keys p ≡ chain → chain_at keys q ≡ chain → entry_from keys chain (p - 511) ≡ 2048 → entry_from keys chain (q - 511) ≡ 2048 → p ≢ q → ⊥
one_end keys chain p q few a b here there e f differ = ⊎_elim
    (λ less. not_before keys chain p q few less b here there e)
    (λ more. not_before keys chain q p few (omega (arith, more, differ)) a there here f)
    (cases_lt p q)

-- ---- a table with one key more

-- after a store at one place and another behind it
stored_last : (links : List ℕ) (q n a b : ℕ) → n < length links → get_or (set (set links q a) n b) n 0 ≡ b
stored_last links q n a b h = let size = length-set links q a in get_or-set_same (set links q a) n b 0 (omega (arith, size, h))

stored_first : (links : List ℕ) (q n a b : ℕ) → q < length links → q ≢ n → get_or (set (set links q a) n b) q 0 ≡ a
stored_first links q n a b h differ = get_or-set_other (set links q a) n q b 0 differ ∙ get_or-set_same links q a 0 h

stored_other : (links : List ℕ) (q n a b i : ℕ) → i ≢ q → i ≢ n → get_or (set (set links q a) n b) i 0 ≡ get_or links i 0
stored_other links q n a b i x y = get_or-set_other (set links q a) n i b 0 y ∙ get_or-set_other links q i a 0 x

-- an entry as it is held
held_entry : (entry : ℕ) → entry_held (entry + 1) ≡ entry
held_entry entry = let next : entry + 1 ≡ suc entry = omega arith in ap entry_held next

held_end : (chain entry : ℕ) → end_link chain (entry + 1) ≡ 512 + entry
held_end chain entry = let next : entry + 1 ≡ suc entry = omega arith in ap (end_link chain) next

module _ (keys : List ℤ) (links last : List ℕ) (k : ℤ) (few : length keys < 2048) (links_size : length links ≡ 2560) (last_size : length last ≡ 512) (old : IsChained keys links last) where
  abbrev end : ℕ
  end = end_link (hash k) (get_or last (hash k) 0)

  abbrev more_keys : List ℤ
  more_keys = keys ++ k ∷ []

  linked_new : entry_held (get_or (set (set links end (length keys + 1)) (512 + length keys) 0) (512 + length keys) 0) ≡ entry_from more_keys (chain_at more_keys (512 + length keys)) (512 + length keys - 511)
  linked_new =
      let size = length-append keys (k ∷ []) in
      ap entry_held (stored_last links end (512 + length keys) (length keys + 1) 0 (omega (arith, few, links_size))) ∙ sym (past_end more_keys (chain_at more_keys (512 + length keys)) (512 + length keys - 511) (omega (arith, size)))

  linked_end : entry_held (get_or (set (set links end (length keys + 1)) (512 + length keys) 0) end 0) ≡ entry_from more_keys (chain_at more_keys end) (end - 511)
  linked_end =
      let below = old.within (hash k) (hash_small k) in
      ap entry_held (stored_first links end (512 + length keys) (length keys + 1) 0 (omega (arith, few, links_size, below)) (omega (arith, below))) ∙ held_entry (length keys)
      ∙ sym (ap (λ (c : ℕ). entry_from more_keys c (end - 511)) (chain_stays keys k end below ∙ old.own (hash k) (hash_small k))
      ∙ entry_here keys k (hash k) (end - 511) few (omega (arith, below)) (old.ends (hash k) (hash_small k)) refl)

  -- a link that is no last one
  leads_on : (link : ℕ) → link < 512 + length keys → link ≢ end → entry_from more_keys (chain_at keys link) (link - 511) ≡ entry_from keys (chain_at keys link) (link - 511)
  leads_on link h differ =
      ⊎_elim
      (λ (same : hash k ≡ chain_at keys link). entry_same keys k (chain_at keys link) (link - 511) (omega (arith, h))
      (λ none. one_end keys (hash k) link end (omega (arith, few)) h (old.within (hash k) (hash_small k)) (sym same) (old.own (hash k) (hash_small k))
      (ap (λ (c : ℕ). entry_from keys c (link - 511)) same ∙ none) (old.ends (hash k) (hash_small k)) differ))
      (λ (other : hash k ≢ chain_at keys link). entry_other keys k (chain_at keys link) (link - 511) (omega (arith, h)) other)
      (cases_eq (hash k) (chain_at keys link))

  linked_other : (link : ℕ) → link < 512 + length keys → link ≢ end → entry_held (get_or (set (set links end (length keys + 1)) (512 + length keys) 0) link 0) ≡ entry_from more_keys (chain_at more_keys link) (link - 511)
  linked_other link h differ =
      ap entry_held (stored_other links end (512 + length keys) (length keys + 1) 0 link differ (omega (arith, h))) ∙ old.linked link h ∙ sym (leads_on link h differ)
      ∙ ap (λ (c : ℕ). entry_from more_keys c (link - 511)) (sym (chain_stays keys k link h))

  linked_all : (link : ℕ) → link < 512 + length more_keys → entry_held (get_or (set (set links end (length keys + 1)) (512 + length keys) 0) link 0) ≡ entry_from more_keys (chain_at more_keys link) (link - 511)
  linked_all link h =
      let size = length-append keys (k ∷ []) in
      ⊎_elim
      (λ (new : link ≡ 512 + length keys). rw new linked_new)
      (λ (front : link ≢ 512 + length keys). ⊎_elim
      (λ (is : link ≡ end). rw is linked_end)
      (λ (differ : link ≢ end). linked_other link (omega (arith, h, size, front)) differ)
      (cases_eq link end))
      (cases_eq link (512 + length keys))

  last_same : end_link (hash k) (get_or (set last (hash k) (length keys + 1)) (hash k) 0) ≡ 512 + length keys
  last_same = let small = hash_small k in ap (end_link (hash k)) (get_or-set_same last (hash k) (length keys + 1) 0 (omega (arith, small, last_size))) ∙ held_end (hash k) (length keys)

  -- each chain's last link, by cases on whether the key is in the chain
  at_last : (P : ℕ → ℕ → Type 0) → P (hash k) (512 + length keys) → ((chain : ℕ) → chain < 512 → hash k ≢ chain → P chain (end_link chain (get_or last chain 0))) → (chain : ℕ) → chain < 512 → P chain (end_link chain (get_or (set last (hash k) (length keys + 1)) chain 0))
  at_last P here there chain h = ⊎_elim
      (λ (is : hash k ≡ chain). subst (λ (c : ℕ). P c (end_link c (get_or (set last (hash k) (length keys + 1)) c 0))) is (subst (λ (l : ℕ). P (hash k) l) (sym last_same) here))
      (λ (differ : hash k ≢ chain). subst (λ (l : ℕ). P chain (end_link chain l)) (sym (get_or-set_other last (hash k) chain (length keys + 1) 0 (λ e. differ (sym e)))) (there chain h differ))
      (cases_eq (hash k) chain)

  chained_more : IsChained more_keys (set (set links end (length keys + 1)) (512 + length keys) 0) (set last (hash k) (length keys + 1))
  chained_more =
      let size = length-append keys (k ∷ []) in
      record {
        linked = linked_all;
        within = at_last (λ chain l. l < 512 + length more_keys) (omega (arith, size)) (λ chain h differ. let below = old.within chain h in omega (arith, size, below));
        own = at_last (λ chain l. chain_at more_keys l ≡ chain) (chain_new keys k) (λ chain h differ. chain_stays keys k (end_link chain (get_or last chain 0)) (old.within chain h) ∙ old.own chain h);
        ends = at_last (λ chain l. entry_from more_keys chain (l - 511) ≡ 2048) (past_end more_keys (hash k) (512 + length keys - 511) (omega (arith, size)))
            (λ chain h differ. let below = old.within chain h in entry_other keys k chain (end_link chain (get_or last chain 0) - 511) (omega (arith, below)) differ ∙ old.ends chain h);
      }

-- ---- a table with no entries

pub none_chained : (links last : List ℕ) → ((link : ℕ) → link < 512 → get_or links link 0 ≡ 0) → ((chain : ℕ) → chain < 512 → get_or last chain 0 ≡ 0) → IsChained [] links last
none_chained links last nowhere none = record {
  linked = λ link h. ap entry_held (nowhere link (omega (arith, h))) ∙ sym (past_end [] (chain_at [] link) (link - 511) (omega arith));
  within = λ chain h. let is = ap (end_link chain) (none chain h) in omega (arith, is, h);
  own = λ chain h. rw (none chain h) (chain_head [] chain h);
  ends = λ chain h. past_end [] chain (end_link chain (get_or last chain 0) - 511) (omega arith);
}

-- a table of zeros
pub zeros_table : IsHashTable (replicate 2048 (pos 0)) (replicate 2560 0) (replicate 512 0) 0
zeros_table = record {
  few = omega arith;
  keys_size = length-replicate 2048 (pos 0);
  links_size = length-replicate {A = ℕ} 2560 0;
  last_size = length-replicate {A = ℕ} 512 0;
  chained = none_chained (replicate 2560 0) (replicate 512 0) (λ link h. get_or-replicate 2560 link 0 0 (omega (arith, h))) (λ chain h. get_or-replicate 512 chain 0 0 h);
}

-- ---- searches

is_it : (key : ℤ) (keys : List ℤ) (i : ℕ) → is_key_at key keys i ≡ true → hash (key_in keys i) ≡ hash key
is_it key keys i e = ap hash ((Decides-int_eq (key_in keys i) key).0 e)

module _ (keys : List ℤ) (links last : List ℕ) (key : ℤ) (few : length keys ≤ 2048) (chained : IsChained keys links last) where
  -- where a link of the key's chain leads to is an entry of the chain, and all entries of the key behind the link are at it or behind it
  pub led_own : (link : ℕ) → link < 512 + length keys → chain_at keys link ≡ hash key → entry_held (get_or links link 0) < length keys → hash (key_in keys (entry_held (get_or links link 0))) ≡ hash key
  led_own link h e low =
      let leads = chained.linked link h in
      let here = subst (λ (n : ℕ). hash (key_in keys n) ≡ chain_at keys link) (sym leads) (own keys (chain_at keys link) (link - 511) few (omega (arith, h)) (omega (arith, leads, low))) in
      here ∙ e

  pub led_rest : (link from : ℕ) → link < 512 + length keys → chain_at keys link ≡ hash key → link - 511 ≤ from → (i : ℕ) → from ≤ i → i < length keys → is_key_at key keys i ≡ true → entry_held (get_or links link 0) ≤ i
  led_rest link from h e before i k below is =
      let leads = chained.linked link h in
      let found = reached keys (chain_at keys link) (link - 511) i (omega (arith, before, k)) below (is_it key keys i is ∙ sym e) in
      omega (arith, leads, found)

  pub led_on : (link : ℕ) → link < 512 + length keys → link - 511 ≤ entry_held (get_or links link 0)
  led_on link h =
      let leads = chained.linked link h in
      let after = later keys (chain_at keys link) (link - 511) few (omega (arith, h, few)) in
      omega (arith, leads, after)

-- ---- the same over a table's arrays

both_true : (a b : Bool) → a ≡ true → b ≡ true → (a && b) ≡ false → ⊥
both_true a b e f missed = cc

module _ (keys : List ℤ) (links last : List ℕ) (len : ℕ) (key : ℤ) (size : length keys ≡ 2048) (few : len ≤ 2048) (chained : IsChained (take len keys) links last) where
  abbrev front : List ℤ
  front = take len keys

  front_size : length front ≡ len
  front_size = length-take-le len keys (omega (arith, size, few))

  -- the entry n that the link leads to where a search begins
  pub found_own : (link n : ℕ) → n ≡ entry_held (get_or links link 0) → link < 512 + len → chain_at front link ≡ hash key → n < len → hash (key_in front n) ≡ hash key
  found_own link n is h e low =
      let count = front_size in
      rw is (led_own front links last key (omega (arith, count, few)) chained link (omega (arith, count, h)) e (subst (λ (m : ℕ). m < length front) is (omega (arith, count, low))))

  pub found_rest : (link n : ℕ) → n ≡ entry_held (get_or links link 0) → link < 512 + len → chain_at front link ≡ hash key → (from : ℕ) → link - 511 ≤ from → (i : ℕ) → from ≤ i → i < len → is_key_at key front i ≡ true → n ≤ i
  found_rest link n is h e from before i k below here =
      let count = front_size in
      rw is (led_rest front links last key (omega (arith, count, few)) chained link from (omega (arith, count, h)) e before i k (omega (arith, count, below)) here)

  -- from an entry of the chain to the next, n
  chain_of_entry : (entry : ℕ) → hash (key_in front entry) ≡ hash key → chain_at front (512 + entry) ≡ hash key
  chain_of_entry entry e = let back : 512 + entry - 512 ≡ entry = omega arith in chain_entry front (512 + entry) (omega arith) ∙ ap (λ (n : ℕ). hash (key_in front n)) back ∙ e

  pub step_less : (entry n : ℕ) → n ≡ entry_held (get_or links (512 + entry) 0) → entry < len → hash (key_in front entry) ≡ hash key → entry < n
  step_less entry n is h e =
      let count = front_size in
      let on = led_on front links last key (omega (arith, count, few)) chained (512 + entry) (omega (arith, count, h)) in
      rw is (omega (arith, on))

  pub step_own : (entry n : ℕ) → n ≡ entry_held (get_or links (512 + entry) 0) → entry < len → hash (key_in front entry) ≡ hash key → n < len → hash (key_in front n) ≡ hash key
  step_own entry n is h e low = found_own (512 + entry) n is (omega (arith, h)) (chain_of_entry entry e) low

  pub step_rest : (entry n : ℕ) → n ≡ entry_held (get_or links (512 + entry) 0) → entry < len → hash (key_in front entry) ≡ hash key → (from : ℕ) → (nat_le from entry && is_key_at key keys entry) ≡ false
      → ((i : ℕ) → from ≤ i → i < len → is_key_at key front i ≡ true → entry ≤ i) → (i : ℕ) → from ≤ i → i < len → is_key_at key front i ≡ true → n ≤ i
  step_rest entry n is h e from missed behind i k below here =
      let reaches = behind i k below here in
      ⊎_elim
      (λ (same : i ≡ entry).
      let there : is_key_at key keys entry ≡ true = ap (λ (z : ℤ). int_eq z key) (sym (get_or-take len keys entry (pos 0) h)) ∙ subst (λ (n : ℕ). is_key_at key front n ≡ true) same here in
      let passed : nat_le from entry ≡ true = le_true from entry (omega (arith, k, same)) in
      absurd (both_true (nat_le from entry) (is_key_at key keys entry) passed there missed))
      (λ (differ : i ≢ entry).
      found_rest (512 + entry) n is (omega (arith, h)) (chain_of_entry entry e) (entry + 1) (omega arith) i (omega (arith, reaches, differ)) below here)
      (cases_eq i entry)

pub table_more : (keys : List ℤ) (links last : List ℕ) (len : ℕ) (k : ℤ) → len < 2048 → IsHashTable keys links last len
    → IsHashTable (set keys len k) (set (set links (end_link (hash k) (get_or last (hash k) 0)) (len + 1)) (512 + len) 0) (set last (hash k) (len + 1)) (len + 1)
table_more keys links last len k h t =
    let size = t.keys_size in
    let count : length (take len keys) ≡ len = length-take-le len keys (omega (arith, size, h)) in
    let more = chained_more (take len keys) links last k (omega (arith, count, h)) t.links_size t.last_size t.chained in
    let same : IsChained (take len keys ++ k ∷ []) (set (set links (end_link (hash k) (get_or last (hash k) 0)) (len + 1)) (512 + len) 0) (set last (hash k) (len + 1)) = subst (λ (n : ℕ). IsChained (take len keys ++ k ∷ []) (set (set links (end_link (hash k) (get_or last (hash k) 0)) (n + 1)) (512 + n) 0) (set last (hash k) (n + 1))) count more in
    record {
      few = omega (arith, h);
      keys_size = length-set keys len k ∙ t.keys_size;
      links_size = length-set (set links (end_link (hash k) (get_or last (hash k) 0)) (len + 1)) (512 + len) 0 ∙ length-set links (end_link (hash k) (get_or last (hash k) 0)) (len + 1) ∙ t.links_size;
      last_size = length-set last (hash k) (len + 1) ∙ t.last_size;
      chained = rw (take_more_set keys len k (omega (arith, size, h))) same;
    }
