-- A bucket that is added where a path ends makes the tree of one pair more; and what stays good through inserts.
use Rattle.std.proofs.Common.{◌≡◌, ◌≢◌, ◌≤◌, ◌<◌, ◌+◌, ℕ, ℤ, List, [], ◌∷◌, ◌++◌, length, refl, arith, ap, ◌∙◌, sym, ◌⊎◌, inl, inr, ⊎_elim, subst, length-append}
use Rattle.index_tree.specs.Pairs.{Pair, goes, reaching}
use Rattle.index_tree.specs.TreeFile.{HoldsPairs, IsBucket, IsTree, bucket_place, numbered_place, number_of}
use Rattle.index_tree.proofs.Reach.{reach-append}
use Rattle.index_tree.proofs.Shared.{Same, Full, order, grows, reach_same, goes_self}
use Rattle.index_tree.proofs.Added.{KeepsBucket, holds_kept, holds_more, only_end, passes_all}

-- a file to which a bucket was added where the path of a pair ended
pub record AddsBucket (old new : List ℕ) (ps : List Pair) (q : Pair) (hop number : ℕ) : Type 0 where
  pub full : Full q.key ps hop
  pub none : number_of old q.key hop ≡ 0
  pub some : number ≢ 0
  pub named : (key : ℤ) → ((i : ℕ) → i < hop → Same key q.key i) → number_of new key hop ≡ number
  pub numbers : (key : ℤ) (h : ℕ) → (h ≡ hop → ((i : ℕ) → i < hop → Same key q.key i) → ⊥) → number_of new key h ≡ number_of old key h
  pub longer : length old ≤ length new
  pub within : bucket_place number ≤ length new
  pub others : (key : ℤ) (h : ℕ) → number_of old key h ≢ 0 → KeepsBucket old new (numbered_place (number_of old key h))
  pub here : HoldsPairs new (numbered_place number) (q ∷ [])

bucket_same : (old new : List ℕ) (ps : List Pair) (q : Pair) (hop number : ℕ) → IsTree old ps → AddsBucket old new ps q hop number → (key : ℤ) (h : ℕ) → number_of new key h ≡ number_of old key h → (rest : List Pair) →
    (rest ≡ reaching (goes key) h ps) ⊎ ((32 ≤ length (reaching (goes key) h ps)) × (rest ≡ reaching (goes key) h ps ++ q ∷ [])) → IsBucket new (number_of new key h) rest
bucket_same old new ps q hop number tree adds key h is rest (inl same) =
    let longer = adds.longer in
    rw is (rw same (record { none = λ z. (tree.each key h).none z; some = λ z. (tree.each key h).some z; within = λ z. let now = (tree.each key h).within z in omega (arith, now); holds = λ z. holds_kept old new (numbered_place (number_of old key h)) (reaching (goes key) h ps) (adds.others key h z) ((tree.each key h).holds z) }))
bucket_same old new ps q hop number tree adds key h is rest (inr grown) =
    let much : 32 ≤ length (reaching (goes key) h ps) = grown.0 in
    let longer = adds.longer in
    let sum : length (reaching (goes key) h ps ++ q ∷ []) ≡ length (reaching (goes key) h ps) + length (q ∷ []) = length-append (reaching (goes key) h ps) (q ∷ []) in
    rw is (rw grown.1 (record {
      none = λ z. let empty : length (reaching (goes key) h ps) ≡ 0 = ap length ((tree.each key h).none z) in absurd (omega (arith, empty, much));
      some = λ z. omega (arith, sum);
      within = λ z. let now = (tree.each key h).within z in omega (arith, now);
      holds = λ z. holds_kept old new (numbered_place (number_of old key h)) (reaching (goes key) h ps ++ q ∷ []) (adds.others key h z) (holds_more old (numbered_place (number_of old key h)) (reaching (goes key) h ps) q much ((tree.each key h).holds z));
    }))

-- each bucket holds what it should
pub bucket_added : (old new : List ℕ) (ps : List Pair) (q : Pair) (hop number : ℕ) → IsTree old ps → AddsBucket old new ps q hop number → (key : ℤ) (h : ℕ) → IsBucket new (number_of new key h) (reaching (goes key) h (ps ++ q ∷ []))
bucket_added old new ps q hop number tree adds key h =
    let end : reaching (goes q.key) hop ps ≡ [] = (tree.each q.key hop).none adds.none in
    let room : length (reaching (goes q.key) hop ps) < 32 = subst (λ xs. length xs < 32) (sym end) (omega arith) in
    ⊎_elim
    (λ (same : reaching (goes key) h (ps ++ q ∷ []) ≡ reaching (goes key) h ps).
    let is : number_of new key h ≡ number_of old key h = adds.numbers key h (λ at way.
    let full : Full key ps h = λ i k. subst (λ xs. 32 ≤ length xs) (sym (reach_same key q.key ps i (λ j l. way j (omega arith)))) (adds.full i (omega arith)) in
    let grown : reaching (goes key) h (ps ++ q ∷ []) ≡ reaching (goes key) h ps ++ q ∷ [] = reach-append (goes key) ps (q ∷ []) h full ∙ ap (λ xs. reaching (goes key) h ps ++ xs) (passes_all key h q (λ i k. way i (omega arith) q ∙ goes_self q.key i q refl)) in
    let sum : length (reaching (goes key) h ps ++ q ∷ []) ≡ length (reaching (goes key) h ps) + length (q ∷ []) = length-append (reaching (goes key) h ps) (q ∷ []) in
    let lengths : length (reaching (goes key) h ps) ≡ length (reaching (goes key) h ps ++ q ∷ []) = ap length (sym same ∙ grown) in
    omega (arith, sum, lengths)) in
    bucket_same old new ps q hop number tree adds key h is (reaching (goes key) h (ps ++ q ∷ [])) (inl same))
    (λ (grown : Full key ps h × (reaching (goes key) h (ps ++ q ∷ []) ≡ reaching (goes key) h ps ++ q ∷ []) × ((i : ℕ) → i < h → Same key q.key i)).
    ⊎_elim
    (λ (much : 32 ≤ length (reaching (goes key) h ps)).
    let is : number_of new key h ≡ number_of old key h = adds.numbers key h (λ at way.
    let shared : reaching (goes key) h ps ≡ [] = reach_same key q.key ps h grown.2 ∙ ap (λ x. reaching (goes q.key) x ps) at ∙ end in
    let empty : length (reaching (goes key) h ps) ≡ 0 = ap length shared in omega (arith, much, empty)) in
    bucket_same old new ps q hop number tree adds key h is (reaching (goes key) h (ps ++ q ∷ [])) (inr (much, grown.1)))
    (λ (short : length (reaching (goes key) h ps) < 32).
    let here : h ≡ hop = only_end ps q hop adds.full room key h grown.0 grown.2 short in
    let nothing : reaching (goes key) h ps ≡ [] = reach_same key q.key ps h grown.2 ∙ ap (λ x. reaching (goes q.key) x ps) here ∙ end in
    let now : reaching (goes key) h (ps ++ q ∷ []) ≡ q ∷ [] = grown.1 ∙ ap (λ xs. xs ++ q ∷ []) nothing in
    let is : number_of new key h ≡ number = ap (number_of new key) here ∙ adds.named key (λ i k. grown.2 i (omega arith)) in
    rw is (rw now (record { none = λ z. absurd (adds.some z); some = λ z. omega arith; within = λ z. adds.within; holds = λ z. adds.here })))
    (order 32 (length (reaching (goes key) h ps))))
    (grows key ps q h)
