-- A file whose buckets are all on paths has as many as the tree of its keys.
use Rattle.std.proofs.Common.{◌≡◌, ◌≢◌, ◌≤◌, ◌<◌, ◌+◌, ◌-◌, ℕ, ℤ, zero, suc, List, [], ◌∷◌, ◌++◌, length, drop, Bool, refl, arith, ap, ◌∙◌, sym, ◌⊎◌, inl, inr, ⊎_elim, subst, append_assoc}
use Rattle.std.proofs.lemmas.List.{append-nil}
use Rattle.db_model.specs.HashTree.{buckets}
use Rattle.index_tree.specs.Ends.{IsPathEnd}
use Rattle.index_tree.specs.Loads.{opened_bucket}
use Rattle.index_tree.specs.Pairs.{Pair, goes, pair_keys, pair_of, pairs_of, reaching}
use Rattle.index_tree.specs.TreeFile.{HoldsPairs, IsBucket, bucket_place, number_of, numbered_place, slot_at}
use Rattle.index_tree.proofs.Added.{cons_of, number_same, passes_all}
use Rattle.index_tree.proofs.Bijections.{bijection, count, count_more, count_none}
use Rattle.index_tree.proofs.Counted.{buckets_more}
use Rattle.index_tree.proofs.Filters.{In, filter_in, in_pairs}
use Rattle.index_tree.proofs.Loaded.{end_there, pairs_more}
use Rattle.index_tree.proofs.Reach.{reach-append}
use Rattle.index_tree.proofs.Inserted.{one_end}
use Rattle.index_tree.proofs.Shared.{Full, Same, goes_self, grows, reach_same}

pub in_drop : (p : Pair) (n : ℕ) (xs : List Pair) → In p (drop n xs) → In p xs
in_drop p zero xs i = i
in_drop p (suc n) [] i = i
in_drop p (suc n) (x ∷ xs) i = inr (in_drop p n xs i)

pub in_reach : (test : ℕ → Pair → Bool) (hop : ℕ) (ps : List Pair) (p : Pair) → In p (reaching test hop ps) → In p ps
in_reach test zero ps p i = i
in_reach test (suc hop) ps p i = in_reach test hop ps p (in_drop p 32 (reaching test hop ps) (filter_in (test hop) p (drop 32 (reaching test hop ps)) i).1)

in_one : (p : Pair) (xs : List Pair) (q : Pair) → In p (xs ++ q ∷ []) → In p xs ⊎ (p ≡ q)
in_one p [] q (inl e) = inr e
in_one p [] q (inr i) = inr (absurd i)
in_one p (x ∷ xs) q (inl e) = inl (inl e)
in_one p (x ∷ xs) q (inr i) = ⊎_elim (λ (j : In p xs). inl (inr j)) (λ (e : p ≡ q). inr e) (in_one p xs q i)

-- what reaches a bucket later comes behind what reached it before
pub later : (f : ℕ → ℤ) (key : ℤ) (h m d : ℕ) → (more : List Pair) × (reaching (goes key) h (pairs_of f (m + d)) ≡ reaching (goes key) h (pairs_of f m) ++ more) × ((p : Pair) → In p more → m ≤ p.slot)
later f key h m zero = let e : m + 0 ≡ m = omega arith in ([], rw e (sym (append-nil (reaching (goes key) h (pairs_of f m)))), λ p i. absurd i)
later f key h m (suc d) =
    let before = later f key h m d in
    let e : m + suc d ≡ m + d + 1 = omega arith in
    let q : Pair = pair_of f (m + d) in
    ⊎_elim
    (λ (same : reaching (goes key) h (pairs_of f (m + d) ++ q ∷ []) ≡ reaching (goes key) h (pairs_of f (m + d))).
    (before.0, rw (e, pairs_more f (m + d)) (same ∙ before.1), before.2))
    (λ (grown : Full key (pairs_of f (m + d)) h × (reaching (goes key) h (pairs_of f (m + d) ++ q ∷ []) ≡ reaching (goes key) h (pairs_of f (m + d)) ++ q ∷ []) × ((i : ℕ) → i < h → Same key q.key i)). (
      before.0 ++ q ∷ [],
      rw (e, pairs_more f (m + d)) (grown.1 ∙ ap (λ xs. xs ++ q ∷ []) before.1 ∙ append_assoc (reaching (goes key) h (pairs_of f m)) before.0 (q ∷ [])),
      λ p i. ⊎_elim (λ (j : In p before.0). before.2 p j) (λ (x : p ≡ q). let s : p.slot ≡ m + d = ap (λ (y : Pair). y.slot) x in omega (arith, s)) (in_one p before.0 q i),
    ))
    (grows key (pairs_of f (m + d)) q h)

first_of : (p : Pair) (rest xs more : List Pair) → xs ++ more ≡ p ∷ rest → 0 < length xs → In p xs
first_of p rest [] more e h = absurd (omega arith)
first_of p rest (x ∷ xs) more e h = inl (sym (first_same x p (xs ++ more) rest e))
  where
    first_same : (a b : Pair) (us vs : List Pair) → a ∷ us ≡ b ∷ vs → a ≡ b
    first_same a b us vs e_ = cc

pub none_of : (xs : List Pair) → (0 < length xs → ⊥) → xs ≡ []
none_of [] h = refl
none_of (x ∷ xs) h = absurd (h (omega arith))

module _ (bytes : List ℕ) (f : ℕ → ℤ) (n many : ℕ) (each : (key : ℤ) (hop : ℕ) → IsBucket bytes (number_of bytes key hop) (reaching (goes key) hop (pairs_of f n)))
    (named : (key : ℤ) (hop : ℕ) → number_of bytes key hop ≤ many) (owned : (b : ℕ) → b < many → (key : ℤ) × (hop : ℕ) × (number_of bytes key hop ≡ b + 1)) where
  e : (i : ℕ) → (hop : ℕ) × IsPathEnd (pairs_of f i) (f i) hop
  e i = end_there (f i) (pairs_of f i)

  o : ℕ → ℕ
  o i = opened_bucket (length (reaching (goes (f i)) (e i).0 (pairs_of f i)))

  o_one : (i : ℕ) → o i ≤ 1
  unfolding o
  o_one i = few (length (reaching (goes (f i)) (e i).0 (pairs_of f i)))
    where
      few : (l : ℕ) → opened_bucket l ≤ 1
      few zero = omega arith
      few (suc l) = omega arith

  total : (i : ℕ) → buckets (pair_keys (pairs_of f i)) ≡ count o i
  unfolding o
  total zero = sym (count_none o)
  total (suc i) =
      let before = total i in
      let more = buckets_more (pairs_of f i) (pair_of f i) (e i).0 (e i).1 in
      let next : pairs_of f (suc i) ≡ pairs_of f i ++ pair_of f i ∷ [] = subst (λ (m : ℕ). pairs_of f m ≡ pairs_of f i ++ pair_of f i ∷ []) (plus_one i) (pairs_more f i) in
      ap (λ (xs : List Pair). buckets (pair_keys xs)) next ∙ more ∙ ap (λ (m : ℕ). m + o i) before ∙ sym (count_more o i)
    where
      plus_one : (m : ℕ) → m + 1 ≡ suc m
      plus_one m = omega arith

  first : ℕ → ℕ
  first b = slot_at bytes (bucket_place b) 0 - 1

  -- the first pair of a bucket is a slot that opened it
  opener : (b : ℕ) → b < many → (first b < n) × (o (first b) ≡ 1) × (number_of bytes (f (first b)) (e (first b)).0 ≡ b + 1)
  unfolding o first
  opener b inside =
      let own = owned b inside in
      let key : ℤ = own.0 in
      let h : ℕ = own.1 in
      let some : number_of bytes key h ≢ 0 = λ z. plus (number_of bytes key h) b z own.2 in
      let bucket = each key h in
      let list = cons_of (reaching (goes key) h (pairs_of f n)) (bucket.some some) in
      let p : Pair = list.0 in
      let member = in_pairs (pair_of f) p 0 n (in_reach (goes key) h (pairs_of f n) p (subst (λ (xs : List Pair). In p xs) (sym list.2) (inl refl))) in
      let s : ℕ = member.0 in
      let small : s < 0 + n = member.2 in
      let its_slot : p.slot ≡ s = ap (λ (x : Pair). x.slot) member.3 in
      let holds : HoldsPairs bytes (numbered_place (number_of bytes key h)) (p ∷ list.1) = subst (λ (xs : List Pair). HoldsPairs bytes (numbered_place (number_of bytes key h)) xs) list.2 (bucket.holds some) in
      let at : numbered_place (number_of bytes key h) ≡ bucket_place b = ap numbered_place own.2 ∙ ap bucket_place (less b) in
      let number : slot_at bytes (bucket_place b) 0 ≡ p.slot + 1 = rw at at (holds.slot 0 (omega arith) (omega arith)) in
      let is : slot_at bytes (bucket_place b) 0 - 1 ≡ s = omega (arith, number, its_slot) in
      let split = later f key h s (n - s) in
      let all : s + (n - s) ≡ n = omega (arith, small) in
      let whole : reaching (goes key) h (pairs_of f s) ++ split.0 ≡ p ∷ list.1 = sym (rw all at split.1) ∙ list.2 in
      let none : reaching (goes key) h (pairs_of f s) ≡ [] = none_of (reaching (goes key) h (pairs_of f s)) (λ x.
      let inside_ = in_pairs (pair_of f) p 0 s (in_reach (goes key) h (pairs_of f s) p (first_of p list.1 (reaching (goes key) h (pairs_of f s)) split.0 whole x)) in
      let lower : inside_.0 < 0 + s = inside_.2 in
      let same : p.slot ≡ inside_.0 = ap (λ (y : Pair). y.slot) inside_.3 in
      omega (arith, lower, same, its_slot)) in
      let q : Pair = pair_of f s in
      let way = ⊎_elim
      (λ (same : reaching (goes key) h (pairs_of f s ++ q ∷ []) ≡ reaching (goes key) h (pairs_of f s)).
      let after = later f key h (s + 1) (n - (s + 1)) in
      let all_ : s + 1 + (n - (s + 1)) ≡ n = omega (arith, small) in
      let nothing : reaching (goes key) h (pairs_of f (s + 1)) ≡ [] = rw (pairs_more f s) (same ∙ none) in
      let whole_ : p ∷ list.1 ≡ after.0 = sym list.2 ∙ rw all_ at after.1 ∙ ap (λ (xs : List Pair). xs ++ after.0) nothing in
      let up = after.2 p (subst (λ (xs : List Pair). In p xs) whole_ (inl refl)) in
      absurd (omega (arith, up, its_slot)))
      (λ (grown : Full key (pairs_of f s) h × (reaching (goes key) h (pairs_of f s ++ q ∷ []) ≡ reaching (goes key) h (pairs_of f s) ++ q ∷ []) × ((i : ℕ) → i < h → Same key q.key i)). grown)
      (grows key (pairs_of f s) q h) in
      let there : reaching (goes (f s)) h (pairs_of f s) ≡ [] = sym (reach_same key (f s) (pairs_of f s) h way.2) ∙ none in
      let end : IsPathEnd (pairs_of f s) (f s) h = record {
        full = λ i k. subst (λ (xs : List Pair). 32 ≤ length xs) (reach_same key (f s) (pairs_of f s) i (λ j l. way.2 j (omega (arith, k, l)))) (way.0 i k);
        room = rw there (omega arith);
      } in
      let same_hop : (e s).0 ≡ h = one_end (pairs_of f s) (f s) (e s).0 h (e s).1 end in
      rw is (
        omega (arith, small),
        ap (λ (g : ℕ). opened_bucket (length (reaching (goes (f s)) g (pairs_of f s)))) same_hop ∙ ap (λ (xs : List Pair). opened_bucket (length xs)) there,
        ap (number_of bytes (f s)) same_hop ∙ sym (number_same bytes key (f s) h way.2) ∙ own.2,
      )
    where
      plus : (a c : ℕ) → a ≡ 0 → a ≡ c + 1 → ⊥
      plus a c z i = omega (arith, z, i)

      less : (c : ℕ) → c + 1 - 1 ≡ c
      less c = omega arith

  -- a slot that opens a bucket is its first pair
  opens : (s : ℕ) → s < n → o s ≡ 1 → (b : ℕ) × (b < many) × (first b ≡ s)
  unfolding o first
  opens s small marked =
      let h : ℕ = (e s).0 in
      let end = (e s).1 in
      let q : Pair = pair_of f s in
      let none : reaching (goes (f s)) h (pairs_of f s) ≡ [] = none_of (reaching (goes (f s)) h (pairs_of f s)) (λ x. not_open (length (reaching (goes (f s)) h (pairs_of f s))) x marked) in
      let grown : reaching (goes (f s)) h (pairs_of f s ++ q ∷ []) ≡ q ∷ [] = reach-append (goes (f s)) (pairs_of f s) (q ∷ []) h end.full ∙ ap (λ xs. reaching (goes (f s)) h (pairs_of f s) ++ xs) (passes_all (f s) h q (λ i k. goes_self (f s) i q refl)) ∙ ap (λ xs. xs ++ q ∷ []) none in
      let after = later f (f s) h (s + 1) (n - (s + 1)) in
      let all : s + 1 + (n - (s + 1)) ≡ n = omega (arith, small) in
      let now : reaching (goes (f s)) h (pairs_of f (s + 1)) ≡ q ∷ [] = ap (reaching (goes (f s)) h) (pairs_more f s) ∙ grown in
      let whole : reaching (goes (f s)) h (pairs_of f n) ≡ q ∷ after.0 = rw all at after.1 ∙ ap (λ (xs : List Pair). xs ++ after.0) now in
      let number : ℕ = number_of bytes (f s) h in
      let some : number ≢ 0 = λ z. let empty : length (reaching (goes (f s)) h (pairs_of f n)) ≡ 0 = ap length ((each (f s) h).none z) in let long = ap length whole in omega (arith, empty, long) in
      let holds : HoldsPairs bytes (numbered_place number) (q ∷ after.0) = subst (λ (xs : List Pair). HoldsPairs bytes (numbered_place number) xs) whole ((each (f s) h).holds some) in
      let slot : slot_at bytes (numbered_place number) 0 ≡ s + 1 = holds.slot 0 (omega arith) (omega arith) in
      let bound = named (f s) h in
      (number - 1, omega (arith, some, bound), omega (arith, slot))
    where
      not_open : (l : ℕ) → 0 < l → opened_bucket l ≡ 1 → ⊥
      not_open zero h t = omega arith
      not_open (suc l) h t = omega arith

  pub owned_count : buckets (pair_keys (pairs_of f n)) ≡ many
  owned_count = total n ∙ bijection many n o first o_one
      (λ b h. let x = opener b h in (x.0, x.1))
      (λ b c h k same. let x = opener b h in let y = opener c k in
      let i : number_of bytes (f (first b)) (e (first b)).0 ≡ b + 1 = x.2 in
      let j : number_of bytes (f (first b)) (e (first b)).0 ≡ c + 1 = subst (λ (s : ℕ). number_of bytes (f s) (e s).0 ≡ c + 1) (sym same) y.2 in
      omega (arith, i, j))
      opens
