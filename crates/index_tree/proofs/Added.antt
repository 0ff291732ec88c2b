-- A pair that is put into the first bucket with room on its path makes the tree of one pair more.
use Rattle.std.proofs.Common.{◌≡◌, ◌≢◌, ◌≤◌, ◌<◌, ◌+◌, ℕ, ℤ, zero, suc, List, [], ◌∷◌, ◌++◌, length, get_or, true, refl, arith, ap, ◌∙◌, sym, ◌⊎◌, inl, inr, ⊎_elim, subst, length-append}
use Rattle.std.proofs.lemmas.List.{get_or_append_left}
use Rattle.db_model.specs.HashTree.{digit, node}
use Rattle.index_tree.specs.Pairs.{Pair, goes, no_pair, reaching, sifted}
use Rattle.index_tree.specs.TreeFile.{HoldsPairs, IsBucket, IsTree, next_number, numbered_place, key_at, last_at, bucket_number, number_of, slot_at}
use Rattle.index_tree.specs.Places.{SlotsRise}
use Rattle.index_tree.proofs.Reach.{reach-append}
use Rattle.index_tree.proofs.Shared.{Full, Same, apart, eqb-eq, goes_self, grows, one, order, reach_same}

same_true : (a b : ℤ) (i : ℕ) → Same a b i → goes a i (record { key = b; slot = 0 }) ≡ true
same_true a b i same = same (record { key = b; slot = 0 }) ∙ goes_self b i (record { key = b; slot = 0 }) refl

pub same_digit : (a b : ℤ) (i : ℕ) → i < 4 → Same a b i → digit a i ≡ digit b i
same_digit a b zero h same = sym (eqb-eq _ _ (same_true a b 0 same))
same_digit a b (suc zero) h same = sym (eqb-eq _ _ (same_true a b 1 same))
same_digit a b (suc (suc zero)) h same = sym (eqb-eq _ _ (same_true a b 2 same))
same_digit a b (suc (suc (suc zero))) h same = sym (eqb-eq _ _ (same_true a b 3 same))
same_digit a b (suc (suc (suc (suc i)))) h same = absurd (omega arith)

pub same_node : (a b : ℤ) (h : ℕ) → h ≤ 4 → ((i : ℕ) → i < h → Same a b i) → node a h ≡ node b h
same_node a b zero k same = refl
same_node a b (suc h) k same = rw (same_node a b h (omega arith) (λ i j. same i (omega arith))) (rw (same_digit a b h (omega arith) (same h (omega arith))) refl)

same_behind : (bytes : List ℕ) (a b : ℤ) (h n : ℕ) → ((i : ℕ) → i < suc h → Same a b i) → next_number bytes a h n ≡ next_number bytes b h n
same_behind bytes a b zero n same = ap (λ v. bucket_number bytes v) (same_node a b 1 (omega arith) same)
same_behind bytes a b (suc zero) n same = ap (λ v. bucket_number bytes v) (same_node a b 2 (omega arith) same)
same_behind bytes a b (suc (suc zero)) n same = ap (λ v. bucket_number bytes v) (same_node a b 3 (omega arith) same)
same_behind bytes a b (suc (suc (suc zero))) n same = ap (λ v. bucket_number bytes v) (same_node a b 4 (omega arith) same)
same_behind bytes a b (suc (suc (suc (suc h)))) zero same = refl
same_behind bytes a b (suc (suc (suc (suc h)))) (suc n) same = refl

-- where two keys share the way, they share the bucket
pub number_same : (bytes : List ℕ) (a b : ℤ) (h : ℕ) → ((i : ℕ) → i < h → Same a b i) → number_of bytes a h ≡ number_of bytes b h
number_same bytes a b zero same = refl
number_same bytes a b (suc h) same = same_behind bytes a b h (number_of bytes a h) same ∙ ap (next_number bytes b h) (number_same bytes a b h (λ i k. same i (omega arith)))

-- the bucket at a place holds the same pairs
pub record KeepsBucket (old new : List ℕ) (place : ℕ) : Type 0 where
  pub slot : (pair : ℕ) → pair < 32 → slot_at new place pair ≡ slot_at old place pair
  pub key : (pair : ℕ) → pair < 32 → key_at new place pair ≡ key_at old place pair
  pub last : last_at new place ≡ last_at old place
  pub rest : (x : ℕ) → x < 192 → get_or new (place + x) 0 ≡ get_or old (place + x) 0

pub holds_kept : (old new : List ℕ) (place : ℕ) (rest : List Pair) → KeepsBucket old new place → HoldsPairs old place rest → HoldsPairs new place rest
holds_kept old new place rest keeps holds = record {
  slot = λ i h k. keeps.slot i h ∙ holds.slot i h k;
  key = λ i h k. keeps.key i h ∙ holds.key i h k;
  empty = λ i h k. keeps.slot i h ∙ holds.empty i h k;
  blank = λ i h k. keeps.key i h ∙ holds.blank i h k;
  last = keeps.last ∙ holds.last;
}

pub holds_more : (bytes : List ℕ) (place : ℕ) (rest : List Pair) (q : Pair) → 32 ≤ length rest → HoldsPairs bytes place rest → HoldsPairs bytes place (rest ++ q ∷ [])
holds_more bytes place rest q full holds =
    let sum : length (rest ++ q ∷ []) ≡ length rest + length (q ∷ []) = length-append rest (q ∷ []) in
    record {
      slot = λ i h k. rw (get_or_append_left rest (q ∷ []) no_pair i (omega arith)) (holds.slot i h (omega arith));
      key = λ i h k. rw (get_or_append_left rest (q ∷ []) no_pair i (omega arith)) (holds.key i h (omega arith));
      empty = λ i h k. absurd (omega arith);
      blank = λ i h k. absurd (omega arith);
      last = holds.last;
    }

-- all of one pair pass
pub passes_all : (key : ℤ) (h : ℕ) (q : Pair) → ((i : ℕ) → i < h → goes key i q ≡ true) → sifted (goes key) h (q ∷ []) ≡ q ∷ []
passes_all key zero q passes = refl
passes_all key (suc h) q passes = rw (passes_all key h q (λ i k. passes i (omega arith))) (rw (passes h (omega arith)) refl)

-- a file after a pair was put into a bucket with room
pub record AddsPair (old new : List ℕ) (ps : List Pair) (q : Pair) (hop : ℕ) : Type 0 where
  pub full : Full q.key ps hop
  pub room : length (reaching (goes q.key) hop ps) < 32
  pub some : number_of old q.key hop ≢ 0
  pub numbers : (key : ℤ) (h : ℕ) → number_of new key h ≡ number_of old key h
  pub size : length new ≡ length old
  pub others : (n : ℕ) → n ≢ 0 → n ≢ number_of old q.key hop → KeepsBucket old new (numbered_place n)
  pub here : HoldsPairs new (numbered_place (number_of old q.key hop)) (reaching (goes q.key) hop ps ++ q ∷ [])

-- the pair comes to the end of its path and to no other place with room
pub only_end : (ps : List Pair) (q : Pair) (hop : ℕ) → Full q.key ps hop → length (reaching (goes q.key) hop ps) < 32 → (key : ℤ) (h : ℕ) → Full key ps h → ((i : ℕ) → i < h → Same key q.key i) → length (reaching (goes key) h ps) < 32 → h ≡ hop
only_end ps q hop end_full its_room key h full same room =
    let there : reaching (goes key) h ps ≡ reaching (goes q.key) h ps = reach_same key q.key ps h same in
    ⊎_elim
    (λ (up : h ≤ hop). ⊎_elim (λ (down : hop ≤ h). omega arith)
    (λ (less : h < hop). let much : 32 ≤ length (reaching (goes q.key) h ps) = end_full h less in let few : length (reaching (goes q.key) h ps) < 32 = subst (λ xs. length xs < 32) there room in absurd (omega arith)) (order hop h))
    (λ (more : hop < h).
    let much : 32 ≤ length (reaching (goes key) hop ps) = full hop more in
    let shared : reaching (goes key) hop ps ≡ reaching (goes q.key) hop ps = reach_same key q.key ps hop (λ i k. same i (omega arith)) in
    let few : 32 ≤ length (reaching (goes q.key) hop ps) = subst (λ xs. 32 ≤ length xs) shared much in absurd (omega arith)) (order h hop)

pub zero_or : (n : ℕ) → (n ≡ 0) ⊎ (n ≢ 0)
zero_or zero = inl refl
zero_or (suc n) = inr (λ e. omega arith)

pub same_or : (m n : ℕ) → (m ≡ n) ⊎ (m ≢ n)
same_or m n = ⊎_elim (λ (up : m ≤ n). ⊎_elim (λ (down : n ≤ m). inl (omega arith)) (λ (less : m < n). inr (λ e. omega arith)) (order n m)) (λ (less : n < m). inr (λ e. omega arith)) (order m n)

pub cons_of : (xs : List Pair) → 0 < length xs → (p : Pair) × (ys : List Pair) × (xs ≡ p ∷ ys)
cons_of [] h = absurd (omega arith)
cons_of (p ∷ ys) h = (p, ys, refl)

pub same_pair : (p r : Pair) → p.key ≡ r.key → p.slot ≡ r.slot → p ≡ r
same_pair p r k s = ap (λ (x : ℤ). record { key = x; slot = p.slot }) k ∙ ap (λ (x : ℕ). record { key = r.key; slot = x }) s

same_first : (bytes : List ℕ) (place : ℕ) (p r : Pair) (xs ys : List Pair) → HoldsPairs bytes place (p ∷ xs) → HoldsPairs bytes place (r ∷ ys) → p ≡ r
same_first bytes place p r xs ys one other =
    let a : slot_at bytes place 0 ≡ p.slot + 1 = one.slot 0 (omega arith) (omega arith) in
    let b : slot_at bytes place 0 ≡ r.slot + 1 = other.slot 0 (omega arith) (omega arith) in
    let slot : p.slot ≡ r.slot = omega arith in
    same_pair p r (sym (one.key 0 (omega arith) (omega arith)) ∙ other.key 0 (omega arith) (omega arith)) slot

-- two places of paths that name one bucket are one
pub same_bucket : (old : List ℕ) (ps : List Pair) → ((key : ℤ) (hop : ℕ) → IsBucket old (number_of old key hop) (reaching (goes key) hop ps)) → SlotsRise ps → (a b : ℤ) (h k : ℕ) → number_of old a h ≢ 0 → number_of old a h ≡ number_of old b k → (h ≡ k) × ((i : ℕ) → i < h → Same a b i)
same_bucket old ps each rises a b h k some e =
    let x = cons_of (reaching (goes a) h ps) ((each a h).some some) in
    let y = cons_of (reaching (goes b) k ps) ((each b k).some (rw (sym e) some)) in
    let one : HoldsPairs old (numbered_place (number_of old a h)) (x.0 ∷ x.1) = subst (λ xs. HoldsPairs old (numbered_place (number_of old a h)) xs) x.2 ((each a h).holds some) in
    let there : HoldsPairs old (numbered_place (number_of old b k)) (y.0 ∷ y.1) = subst (λ xs. HoldsPairs old (numbered_place (number_of old b k)) xs) y.2 ((each b k).holds (rw (sym e) some)) in
    let other : HoldsPairs old (numbered_place (number_of old a h)) (y.0 ∷ y.1) = subst (λ n. HoldsPairs old (numbered_place n) (y.0 ∷ y.1)) (sym e) there in
    let first : x.0 ≡ y.0 = same_first old (numbered_place (number_of old a h)) x.0 y.0 x.1 y.1 one other in
    apart ps a b h k x.0 x.1 y.1 rises x.2 (y.2 ∙ ap (λ r. r ∷ y.1) (sym first))

-- the bucket with room has the pair now
bucket_here : (old new : List ℕ) (ps : List Pair) (q : Pair) (hop : ℕ) → IsTree old ps → AddsPair old new ps q hop → (key : ℤ) (h : ℕ) → number_of old key h ≢ 0 → number_of old key h ≡ number_of old q.key hop → h ≡ hop → ((i : ℕ) → i < h → Same key q.key i) → IsBucket new (number_of old key h) (reaching (goes key) h (ps ++ q ∷ []))
bucket_here old new ps q hop tree adds key h some e here same =
    let full : Full key ps h = λ i k. subst (λ xs. 32 ≤ length xs) (sym (reach_same key q.key ps i (λ j l. same j (omega arith)))) (adds.full i (omega arith)) in
    let grown : reaching (goes key) h (ps ++ q ∷ []) ≡ reaching (goes q.key) hop ps ++ q ∷ [] =
    reach-append (goes key) ps (q ∷ []) h full
    ∙ ap (λ xs. reaching (goes key) h ps ++ xs) (passes_all key h q (λ i k. same i k q ∙ goes_self q.key i q refl))
    ∙ ap (λ xs. xs ++ q ∷ []) (reach_same key q.key ps h same ∙ ap (λ x. reaching (goes q.key) x ps) here) in
    let sum : length (reaching (goes q.key) hop ps ++ q ∷ []) ≡ length (reaching (goes q.key) hop ps) + length (q ∷ []) = length-append (reaching (goes q.key) hop ps) (q ∷ []) in
    rw grown (record {
      none = λ z. absurd (some z);
      some = λ z. omega arith;
      within = λ z. rw adds.size ((tree.each key h).within some);
      holds = λ z. rw e adds.here;
    })

bucket_other : (old new : List ℕ) (ps : List Pair) (q : Pair) (hop : ℕ) → IsTree old ps → AddsPair old new ps q hop → (key : ℤ) (h : ℕ) → number_of old key h ≢ 0 → number_of old key h ≢ number_of old q.key hop → (rest : List Pair) →
    (rest ≡ reaching (goes key) h ps) ⊎ ((32 ≤ length (reaching (goes key) h ps)) × (rest ≡ reaching (goes key) h ps ++ q ∷ [])) → IsBucket new (number_of old key h) rest
bucket_other old new ps q hop tree adds key h some apart_ rest (inl same) =
    let keeps = adds.others (number_of old key h) some apart_ in
    rw same (record { none = λ z. absurd (some z); some = λ z. (tree.each key h).some some; within = λ z. rw adds.size ((tree.each key h).within some); holds = λ z. holds_kept old new (numbered_place (number_of old key h)) (reaching (goes key) h ps) keeps ((tree.each key h).holds some) })
bucket_other old new ps q hop tree adds key h some apart_ rest (inr grown) =
    let keeps = adds.others (number_of old key h) some apart_ in
    let much : 32 ≤ length (reaching (goes key) h ps) = grown.0 in
    let sum : length (reaching (goes key) h ps ++ q ∷ []) ≡ length (reaching (goes key) h ps) + length (q ∷ []) = length-append (reaching (goes key) h ps) (q ∷ []) in
    rw grown.1 (record {
      none = λ z. absurd (some z);
      some = λ z. omega arith;
      within = λ z. rw adds.size ((tree.each key h).within some);
      holds = λ z. holds_kept old new (numbered_place (number_of old key h)) (reaching (goes key) h ps ++ q ∷ []) keeps (holds_more old (numbered_place (number_of old key h)) (reaching (goes key) h ps) q much ((tree.each key h).holds some));
    })

-- each bucket holds what it should
pub pair_added : (old new : List ℕ) (ps : List Pair) (q : Pair) (hop : ℕ) → IsTree old ps → SlotsRise ps → AddsPair old new ps q hop → (key : ℤ) (h : ℕ) → IsBucket new (number_of new key h) (reaching (goes key) h (ps ++ q ∷ []))
pair_added old new ps q hop tree rises adds key h =
    subst (λ n. IsBucket new n (reaching (goes key) h (ps ++ q ∷ []))) (sym (adds.numbers key h))
    (⊎_elim
    (λ (zeroth : number_of old key h ≡ 0).
    let nothing : reaching (goes key) h ps ≡ [] = (tree.each key h).none zeroth in
    let empty : reaching (goes key) h (ps ++ q ∷ []) ≡ [] =
    ⊎_elim (λ (same : reaching (goes key) h (ps ++ q ∷ []) ≡ reaching (goes key) h ps). same ∙ nothing)
    (λ (grown : Full key ps h × (reaching (goes key) h (ps ++ q ∷ []) ≡ reaching (goes key) h ps ++ q ∷ []) × ((i : ℕ) → i < h → Same key q.key i)).
    let short : length (reaching (goes key) h ps) < 32 = rw nothing (omega arith) in
    let here : h ≡ hop = only_end ps q hop adds.full adds.room key h grown.0 grown.2 short in
    absurd (adds.some (ap (number_of old q.key) (sym here) ∙ sym (number_same old key q.key h grown.2) ∙ zeroth)))
    (grows key ps q h) in
    record { none = λ z. empty; some = λ z. absurd (z zeroth); within = λ z. absurd (z zeroth); holds = λ z. absurd (z zeroth) })
    (λ (some : number_of old key h ≢ 0).
    ⊎_elim
    (λ (one_bucket : number_of old key h ≡ number_of old q.key hop).
    let both = same_bucket old ps tree.each rises key q.key h hop some one_bucket in
    bucket_here old new ps q hop tree adds key h some one_bucket both.0 both.1)
    (λ (two : number_of old key h ≢ number_of old q.key hop).
    bucket_other old new ps q hop tree adds key h some two (reaching (goes key) h (ps ++ q ∷ []))
    (⊎_elim (λ (same : reaching (goes key) h (ps ++ q ∷ []) ≡ reaching (goes key) h ps). inl same)
    (λ (grown : Full key ps h × (reaching (goes key) h (ps ++ q ∷ []) ≡ reaching (goes key) h ps ++ q ∷ []) × ((i : ℕ) → i < h → Same key q.key i)).
    ⊎_elim (λ (much : 32 ≤ length (reaching (goes key) h ps)). inr (much, grown.1))
    (λ (short : length (reaching (goes key) h ps) < 32).
    let here : h ≡ hop = only_end ps q hop adds.full adds.room key h grown.0 grown.2 short in
    absurd (two (number_same old key q.key h grown.2 ∙ ap (number_of old q.key) here)))
    (order 32 (length (reaching (goes key) h ps))))
    (grows key ps q h)))
    (same_or (number_of old key h) (number_of old q.key hop)))
    (zero_or (number_of old key h)))
