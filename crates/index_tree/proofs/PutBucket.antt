-- A bucket that is appended and then named where a path ends.
use Rattle.std.proofs.Common.{◌≡◌, ◌≢◌, ◌≤◌, ◌<◌, ◌+◌, ◌*◌, ◌-◌, ℕ, ℤ, zero, suc, List, [], ◌∷◌, ◌++◌, length, get_or, refl, arith, ap, ◌∙◌, sym, ◌⊎◌, inl, inr, ⊎_elim, subst, length-append}
use Rattle.std.specs.Prelude.{slice_index}
use Rattle.afl_base.specs.Fields.{put_at, u16_at}
use Rattle.afl_base.proofs.FieldLaws.{length-put_at}
use Rattle.db_model.specs.HashTree.{buckets, digit, node}
use Rattle.index_tree.specs.Buckets.{IsFirstBucket}
use Rattle.index_tree.specs.Ends.{IsPathEnd, spot_of}
use Rattle.index_tree.specs.Pairs.{Pair, goes, pair_keys, reaching}
use Rattle.index_tree.specs.Places.{IsGrown, SlotsRise}
use Rattle.index_tree.specs.TreeFile.{HoldsPairs, IsTree, next_number, bucket_place, next_at, bucket_number, number_of, numbered_place}
use Rattle.index_tree.proofs.Added.{KeepsBucket, number_same, same_bucket, same_digit, same_node, same_or, zero_or}
use Rattle.index_tree.proofs.Counted.{buckets_more}
use Rattle.index_tree.proofs.Frames.{SameBytes, append_before, append_here, i32_same, put_here, put_outside, trans_same, u16_same}
use Rattle.index_tree.proofs.Grown.{AddsBucket, bucket_added}
use Rattle.index_tree.proofs.Shared.{Same, Full, order}
use Rattle.index_tree.proofs.Spots.{apart_places, chain_same, digit_same, node_same, node_small}

-- ---- the same way, or not

abbrev pub Way : ℤ → ℤ → ℕ → Type 0
Way a b h = (i : ℕ) → i < h → Same a b i

way_more : (a b : ℤ) (h : ℕ) → Way a b h → Same a b h → Way a b (suc h)
way_more a b h way same = λ i k. ⊎_elim (λ (here : h ≤ i). let e : i ≡ h = omega arith in rw e same) (λ (less : i < h). way i less) (order h i)

way_or : (a b : ℤ) (h : ℕ) → Way a b h ⊎ (Way a b h → ⊥)
way_or a b zero = inl (λ i k. absurd (omega arith))
way_or a b (suc h) = ⊎_elim
    (λ (way : Way a b h). ⊎_elim
    (λ (deep : 4 ≤ h). inl (way_more a b h way (chain_same a b h deep)))
    (λ (low : h < 4). ⊎_elim
    (λ (e : digit a h ≡ digit b h). inl (way_more a b h way (digit_same a b h e)))
    (λ (n : digit a h ≢ digit b h). inr (λ (w : Way a b (suc h)). n (same_digit a b h low (w h (omega arith)))))
    (same_or (digit a h) (digit b h)))
    (order 4 h))
    (λ (no_way : Way a b h → ⊥). inr (λ (w : Way a b (suc h)). no_way (λ i k. w i (omega arith))))
    (way_or a b h)

-- at the same node the same way
pub node_way : (a b : ℤ) (h k : ℕ) → node a h ≡ node b k → (h ≡ k) × Way a b h
node_way a b h k e = let both = node_same a b h k e in (both.0, λ i j. digit_same a b i (both.1 i j))

-- behind the nodes of the head the number stands at the end of the bucket before
pub spot_chain : (bytes : List ℕ) (k : ℤ) (j : ℕ) → 4 ≤ j → spot_of bytes k (suc j) ≡ numbered_place (number_of bytes k j) + 192
spot_chain bytes k zero h = absurd (omega arith)
spot_chain bytes k (suc zero) h = absurd (omega arith)
spot_chain bytes k (suc (suc zero)) h = absurd (omega arith)
spot_chain bytes k (suc (suc (suc zero))) h = absurd (omega arith)
spot_chain bytes k (suc (suc (suc (suc j)))) h = refl

-- the bucket at h of a key's path is the new one
abbrev pub IsNew : ℤ → Pair → ℕ → ℕ → Type 0
IsNew key q hop h = (h ≡ hop) × Way key q.key h

pub new_or : (key : ℤ) (q : Pair) (hop h : ℕ) → IsNew key q hop h ⊎ (IsNew key q hop h → ⊥)
new_or key q hop h = ⊎_elim
    (λ (e : h ≡ hop). ⊎_elim (λ (w : Way key q.key h). inl (e, w)) (λ (n : Way key q.key h → ⊥). inr (λ (x : IsNew key q hop h). n x.1)) (way_or key q.key h))
    (λ (n : h ≢ hop). inr (λ (x : IsNew key q hop h). n x.0))
    (same_or h hop)

-- ---- spots

pub behind_node : (bytes : List ℕ) (key : ℤ) (h n : ℕ) → h < 4 → next_number bytes key h n ≡ bucket_number bytes (node key (suc h))
behind_node bytes key zero n below = refl
behind_node bytes key (suc zero) n below = refl
behind_node bytes key (suc (suc zero)) n below = refl
behind_node bytes key (suc (suc (suc zero))) n below = refl
behind_node bytes key (suc (suc (suc (suc h)))) n below = absurd (omega arith)

pub behind_chain : (bytes : List ℕ) (key : ℤ) (h n : ℕ) → n ≢ 0 → 4 ≤ h → next_number bytes key h n ≡ next_at bytes (numbered_place n)
behind_chain bytes key zero n some above = absurd (omega arith)
behind_chain bytes key (suc zero) n some above = absurd (omega arith)
behind_chain bytes key (suc (suc zero)) n some above = absurd (omega arith)
behind_chain bytes key (suc (suc (suc zero))) n some above = absurd (omega arith)
behind_chain bytes key (suc (suc (suc (suc h)))) zero some above = absurd (some refl)
behind_chain bytes key (suc (suc (suc (suc h)))) (suc b) some above = let e : suc b - 1 ≡ b = omega arith in rw e refl

pub behind_none : (bytes : List ℕ) (key : ℤ) (h : ℕ) → 4 ≤ h → next_number bytes key h 0 ≡ 0
behind_none bytes key zero above = absurd (omega arith)
behind_none bytes key (suc zero) above = absurd (omega arith)
behind_none bytes key (suc (suc zero)) above = absurd (omega arith)
behind_none bytes key (suc (suc (suc zero))) above = absurd (omega arith)
behind_none bytes key (suc (suc (suc (suc h)))) above = refl

-- a spot is a node's, or stands in the last bucket of the path
abbrev IsNodeSpot : ℕ → ℤ → ℕ → Type 0
IsNodeSpot spot key hop = (hop ≤ 4) × (spot ≡ 2 * node key hop)

abbrev IsChainSpot : ℕ → List ℕ → ℤ → ℕ → Type 0
IsChainSpot spot bytes key hop = (k : ℕ) × (hop ≡ suc k) × (4 ≤ k) × (spot ≡ numbered_place (number_of bytes key k) + 192)

spot_is : (bytes : List ℕ) (key : ℤ) (hop : ℕ) → IsNodeSpot (spot_of bytes key hop) key hop ⊎ IsChainSpot (spot_of bytes key hop) bytes key hop
spot_is bytes key zero = inl (omega arith, refl)
spot_is bytes key (suc zero) = inl (omega arith, refl)
spot_is bytes key (suc (suc zero)) = inl (omega arith, refl)
spot_is bytes key (suc (suc (suc zero))) = inl (omega arith, refl)
spot_is bytes key (suc (suc (suc (suc zero)))) = inl (omega arith, refl)
spot_is bytes key (suc (suc (suc (suc (suc k))))) = inr (suc (suc (suc (suc k))), refl, omega arith, refl)

-- ---- all that is known of a file to which a bucket was added at the end of a path
pub record Appends (old new : List ℕ) (ps : List Pair) (q : Pair) (hop number : ℕ) : Type 0 where
  pub tree : IsTree old ps
  pub rises : SlotsRise ps
  pub full : Full q.key ps hop
  pub none : number_of old q.key hop ≡ 0
  pub some : number ≢ 0
  -- what stands before the new bucket stays but for the spot
  pub stays : (p n : ℕ) → p + n ≤ length old → (p + n ≤ spot_of old q.key hop) ⊎ (spot_of old q.key hop + 2 ≤ p) → SameBytes new old p p n
  pub named : u16_at new (spot_of old q.key hop) ≡ number
  pub place : numbered_place number ≡ length old
  pub longer : length new ≡ length old + 195
  pub first : HoldsPairs new (numbered_place number) (q ∷ [])
  pub next : next_at new (numbered_place number) ≡ 0
  pub zeros : (x : ℕ) → 6 ≤ x → x < 192 → get_or new (numbered_place number + x) 0 ≡ 0

u16_kept : (old new : List ℕ) (ps : List Pair) (q : Pair) (hop number p : ℕ) → Appends old new ps q hop number → p + 2 ≤ length old → (p + 2 ≤ spot_of old q.key hop) ⊎ (spot_of old q.key hop + 2 ≤ p) → u16_at new p ≡ u16_at old p
u16_kept old new ps q hop number p a fits apart = u16_same new old p p (a.stays p 2 fits apart)

-- the bucket before the end of a path is full, so there is one
before_some : (old new : List ℕ) (ps : List Pair) (q : Pair) (hop number k : ℕ) → Appends old new ps q hop number → k < hop → number_of old q.key k ≢ 0
before_some old new ps q hop number k a h = λ z.
    let full : 32 ≤ length (reaching (goes q.key) k ps) = a.full k h in
    let empty : length (reaching (goes q.key) k ps) ≡ 0 = ap length ((a.tree.each q.key k).none z) in
    omega (arith, full, empty)

-- next of a bucket that the path of a key comes to by old numbers stays, but for the last bucket of the path
next_kept : (old new : List ℕ) (ps : List Pair) (q : Pair) (hop number : ℕ) → Appends old new ps q hop number → (key : ℤ) (h : ℕ) → number_of old key h ≢ 0 → (4 ≤ h → IsNew key q hop (suc h) → ⊥) →
    next_at new (numbered_place (number_of old key h)) ≡ next_at old (numbered_place (number_of old key h))
next_kept old new ps q hop number a key h some other =
    let n : ℕ = number_of old key h in
    let spot : ℕ = spot_of old q.key hop in
    let within : bucket_place n ≤ length old = (a.tree.each key h).within some in
    u16_kept old new ps q hop number (numbered_place n + 192) a (omega arith)
    (⊎_elim
    (λ (at : IsNodeSpot spot q.key hop). let small : node q.key hop ≤ 340 = node_small q.key hop at.0 in let is : spot ≡ 2 * node q.key hop = at.1 in inr (omega (arith, small, is)))
    (λ (at : IsChainSpot spot old q.key hop).
    let k : ℕ = at.0 in
    let m : ℕ = number_of old q.key k in
    let is : spot ≡ numbered_place m + 192 = at.3 in
    let last : hop ≡ suc k = at.1 in
    let there : m ≢ 0 = before_some old new ps q hop number k a (omega arith) in
    ⊎_elim
    (λ (e : n ≡ m).
    let both = same_bucket old ps a.tree.each a.rises key q.key h k some e in
    let same : h ≡ k = both.0 in
    let deep : 4 ≤ h = rw same at.2 in
    absurd (other deep (ap suc same ∙ sym last, way_more key q.key h both.1 (chain_same key q.key h deep))))
    (λ (d : n ≢ m). ⊎_elim
    (λ (x : numbered_place n + 192 + 2 ≤ numbered_place m + 192). inl (omega (arith, x, is)))
    (λ (x : numbered_place m + 192 + 2 ≤ numbered_place n + 192). inr (omega (arith, x, is)))
    (apart_places n m 192 192 2 2 some there d (omega arith) (omega arith)))
    (same_or n m))
    (spot_is old q.key hop))

-- a number of a node stays, but for that which names the new bucket
node_kept : (old new : List ℕ) (ps : List Pair) (q : Pair) (hop number : ℕ) → Appends old new ps q hop number → (key : ℤ) (h : ℕ) → h ≤ 4 → (IsNew key q hop h → ⊥) → bucket_number new (node key h) ≡ bucket_number old (node key h)
node_kept old new ps q hop number a key h low other =
    let spot : ℕ = spot_of old q.key hop in
    let small : node key h ≤ 340 = node_small key h low in
    let size : length old ≡ bucket_place (buckets (pair_keys ps)) = a.tree.size in
    u16_kept old new ps q hop number (2 * node key h) a (omega (arith, small, size))
    (⊎_elim
    (λ (at : IsNodeSpot spot q.key hop).
    let is : spot ≡ 2 * node q.key hop = at.1 in
    ⊎_elim
    (λ (e : node key h ≡ node q.key hop). absurd (other (node_way key q.key h hop e)))
    (λ (d : node key h ≢ node q.key hop). ⊎_elim
    (λ (up : node key h ≤ node q.key hop). ⊎_elim (λ (down : node q.key hop ≤ node key h). absurd (d (omega arith))) (λ (less : node key h < node q.key hop). inl (omega (arith, is, less))) (order (node q.key hop) (node key h)))
    (λ (less : node q.key hop < node key h). inr (omega (arith, is, less)))
    (order (node key h) (node q.key hop)))
    (same_or (node key h) (node q.key hop)))
    (λ (at : IsChainSpot spot old q.key hop). let is : spot ≡ numbered_place (number_of old q.key at.0) + 192 = at.3 in inl (omega (arith, small, is)))
    (spot_is old q.key hop))

-- one hop on
step_kept : (old new : List ℕ) (ps : List Pair) (q : Pair) (hop number : ℕ) → Appends old new ps q hop number → (key : ℤ) (h : ℕ) → (4 ≤ h → number_of new key h ≡ number_of old key h) → (IsNew key q hop (suc h) → ⊥) → number_of new key (suc h) ≡ number_of old key (suc h)
step_kept old new ps q hop number a key h before other = ⊎_elim
    (λ (deep : 4 ≤ h). ⊎_elim
    (λ (z : number_of old key h ≡ 0). ap (next_number new key h) (before deep ∙ z) ∙ behind_none new key h deep ∙ sym (ap (next_number old key h) z ∙ behind_none old key h deep))
    (λ (some : number_of old key h ≢ 0).
    ap (next_number new key h) (before deep) ∙ behind_chain new key h (number_of old key h) some deep
    ∙ next_kept old new ps q hop number a key h some (λ d. other)
    ∙ sym (behind_chain old key h (number_of old key h) some deep))
    (zero_or (number_of old key h)))
    (λ (low : h < 4).
    behind_node new key h (number_of new key h) low
    ∙ node_kept old new ps q hop number a key (suc h) (omega arith) other
    ∙ sym (behind_node old key h (number_of old key h) low))
    (order 4 h)

-- before the end of the path all numbers stay
early : (old new : List ℕ) (ps : List Pair) (q : Pair) (hop number : ℕ) → Appends old new ps q hop number → (key : ℤ) (h : ℕ) → h < hop → number_of new key h ≡ number_of old key h
early old new ps q hop number a key zero less = node_kept old new ps q hop number a key 0 (omega arith) (λ (x : IsNew key q hop 0). let e : 0 ≡ hop = x.0 in omega arith)
early old new ps q hop number a key (suc h) less = step_kept old new ps q hop number a key h (λ d. early old new ps q hop number a key h (omega arith)) (λ (x : IsNew key q hop (suc h)). let e : suc h ≡ hop = x.0 in omega arith)

-- the keys that share the way come to the new bucket
pub named_at : (old new : List ℕ) (ps : List Pair) (q : Pair) (hop number : ℕ) → Appends old new ps q hop number → (key : ℤ) (h : ℕ) → IsNew key q hop h → number_of new key h ≡ number
named_at old new ps q hop number a key zero is = subst (λ (x : ℕ). u16_at new (spot_of old q.key x) ≡ number) (sym is.0) a.named
named_at old new ps q hop number a key (suc h) is =
    let at : suc h ≡ hop = is.0 in
    let named : u16_at new (spot_of old q.key (suc h)) ≡ number = subst (λ (x : ℕ). u16_at new (spot_of old q.key x) ≡ number) (sym at) a.named in
    ⊎_elim
    (λ (deep : 4 ≤ h).
    let same : number_of old key h ≡ number_of old q.key h = number_same old key q.key h (λ i k. is.1 i (omega arith)) in
    let some : number_of old q.key h ≢ 0 = before_some old new ps q hop number h a (omega arith) in
    ap (next_number new key h) (early old new ps q hop number a key h (omega arith) ∙ same) ∙ behind_chain new key h (number_of old q.key h) some deep
    ∙ subst (λ (x : ℕ). u16_at new x ≡ number) (spot_chain old q.key h deep) named)
    (λ (low : h < 4).
    behind_node new key h (number_of new key h) low ∙ ap (bucket_number new) (same_node key q.key (suc h) (omega arith) is.1)
    ∙ subst (λ (x : ℕ). u16_at new x ≡ number) (spot_node old q.key h low) named)
    (order 4 h)
  where
    spot_node : (bytes : List ℕ) (k : ℤ) (j : ℕ) → j < 4 → spot_of bytes k (suc j) ≡ 2 * node k (suc j)
    spot_node bytes k zero h = refl
    spot_node bytes k (suc zero) h = refl
    spot_node bytes k (suc (suc zero)) h = refl
    spot_node bytes k (suc (suc (suc zero))) h = refl
    spot_node bytes k (suc (suc (suc (suc j)))) h = absurd (omega arith)

-- all other numbers stay
pub kept : (old new : List ℕ) (ps : List Pair) (q : Pair) (hop number : ℕ) → Appends old new ps q hop number → (key : ℤ) (h : ℕ) → (IsNew key q hop h → ⊥) → number_of new key h ≡ number_of old key h
kept old new ps q hop number a key zero other = node_kept old new ps q hop number a key 0 (omega arith) other
kept old new ps q hop number a key (suc h) other = ⊎_elim
    (λ (is : IsNew key q hop h). ⊎_elim
    (λ (deep : 4 ≤ h).
    let named : number_of new key h ≡ number = named_at old new ps q hop number a key h is in
    let none : number_of old key h ≡ 0 = number_same old key q.key h is.1 ∙ ap (number_of old q.key) is.0 ∙ a.none in
    ap (next_number new key h) named ∙ behind_chain new key h number a.some deep ∙ a.next ∙ sym (ap (next_number old key h) none ∙ behind_none old key h deep))
    (λ (low : h < 4). step_kept old new ps q hop number a key h (λ deep. absurd (omega arith)) other)
    (order 4 h))
    (λ (n : IsNew key q hop h → ⊥). step_kept old new ps q hop number a key h (λ d. kept old new ps q hop number a key h n) other)
    (new_or key q hop h)

pub old_is_other : (old new : List ℕ) (ps : List Pair) (q : Pair) (hop number : ℕ) → Appends old new ps q hop number → (key : ℤ) (h : ℕ) → number_of old key h ≢ 0 → IsNew key q hop h → ⊥
old_is_other old new ps q hop number a key h some is = some (number_same old key q.key h is.1 ∙ ap (number_of old q.key) is.0 ∙ a.none)

-- the pairs of other buckets stay
pub bucket_kept : (old new : List ℕ) (ps : List Pair) (q : Pair) (hop number : ℕ) → Appends old new ps q hop number → (key : ℤ) (h : ℕ) → number_of old key h ≢ 0 → KeepsBucket old new (numbered_place (number_of old key h))
bucket_kept old new ps q hop number a key h some =
    let n : ℕ = number_of old key h in
    let spot : ℕ = spot_of old q.key hop in
    let within : bucket_place n ≤ length old = (a.tree.each key h).within some in
    -- the spot lies outside of the first 192 bytes and the last byte of the bucket
    let apart : (x k : ℕ) → (x + k ≤ 192) ⊎ (194 ≤ x) → x + k ≤ 195 → (numbered_place n + x + k ≤ spot) ⊎ (spot + 2 ≤ numbered_place n + x) = λ x k inside fits. ⊎_elim
    (λ (at : IsNodeSpot spot q.key hop). let small : node q.key hop ≤ 340 = node_small q.key hop at.0 in let is : spot ≡ 2 * node q.key hop = at.1 in inr (omega (arith, small, is)))
    (λ (at : IsChainSpot spot old q.key hop).
    let m : ℕ = number_of old q.key at.0 in
    let is : spot ≡ numbered_place m + 192 = at.3 in
    let last : hop ≡ suc at.0 = at.1 in
    let there : m ≢ 0 = before_some old new ps q hop number at.0 a (omega arith) in
    ⊎_elim
    (λ (e : n ≡ m). ⊎_elim (λ (i : x + k ≤ 192). inl (omega (arith, is, e, i))) (λ (i : 194 ≤ x). inr (omega (arith, is, e, i))) inside)
    (λ (d : n ≢ m). ⊎_elim
    (λ (y : numbered_place n + x + k ≤ numbered_place m + 192). inl (omega (arith, y, is)))
    (λ (y : numbered_place m + 192 + 2 ≤ numbered_place n + x). inr (omega (arith, y, is)))
    (apart_places n m x 192 k 2 some there d fits (omega arith)))
    (same_or n m))
    (spot_is old q.key hop) in
    record {
      slot = λ i s. let e : numbered_place n + (6 * i + 4) ≡ numbered_place n + 6 * i + 4 = omega arith in
          u16_same new old (numbered_place n + 6 * i + 4) (numbered_place n + 6 * i + 4) (rw e at (a.stays (numbered_place n + (6 * i + 4)) 2 (omega arith) (apart (6 * i + 4) 2 (inl (omega arith)) (omega arith))));
      key = λ i s. i32_same new old (numbered_place n + 6 * i) (numbered_place n + 6 * i) (a.stays (numbered_place n + 6 * i) 4 (omega arith) (apart (6 * i) 4 (inl (omega arith)) (omega arith)));
      last = let e : numbered_place n + 194 + 0 ≡ numbered_place n + 194 = omega arith in
          subst (λ (j : ℕ). get_or new j 0 ≡ get_or old j 0) e (a.stays (numbered_place n + 194) 1 (omega arith) (apart 194 1 (inr (omega arith)) (omega arith)) 0 (omega arith));
      rest = λ x h. let e : numbered_place n + x + 0 ≡ numbered_place n + x = omega arith in
          subst (λ (j : ℕ). get_or new j 0 ≡ get_or old j 0) e (a.stays (numbered_place n + x) 1 (omega arith) (apart x 1 (inl (omega arith)) (omega arith)) 0 (omega arith));
    }

pub adds_bucket : (old new : List ℕ) (ps : List Pair) (q : Pair) (hop number : ℕ) → Appends old new ps q hop number → AddsBucket old new ps q hop number
adds_bucket old new ps q hop number a =
    let place = a.place in
    let longer = a.longer in
    let some = a.some in
    record {
      full = a.full;
      none = a.none;
      some = a.some;
      named = λ key way. named_at old new ps q hop number a key hop (refl, way);
      numbers = λ key h other. kept old new ps q hop number a key h (λ (is : IsNew key q hop h). other is.0 (rw is.0 at is.1));
      longer = omega arith;
      within = one_more number (length old) some place (length new) longer;
      others = λ key h z. bucket_kept old new ps q hop number a key h z;
      here = a.first;
    }
  where
    one_more : (n len : ℕ) → n ≢ 0 → numbered_place n ≡ len → (all : ℕ) → all ≡ len + 195 → bucket_place n ≤ all
    one_more n len some e all is = omega arith

pub bucket_put : (old new : List ℕ) (ps : List Pair) (q : Pair) (hop number : ℕ) → Appends old new ps q hop number → length ps < 32768 → IsPathEnd ps q.key hop → IsGrown old new ps (q ∷ [])
bucket_put old new ps q hop number a few end =
    let adds = adds_bucket old new ps q hop number a in
    let size : length old ≡ bucket_place (buckets (pair_keys ps)) = a.tree.size in
    let longer : length new ≡ length old + 195 = a.longer in
    let sum : length (ps ++ q ∷ []) ≡ length ps + length (q ∷ []) = length-append ps (q ∷ []) in
    let nothing : reaching (goes q.key) hop ps ≡ [] = (a.tree.each q.key hop).none a.none in
    let count : buckets (pair_keys (ps ++ q ∷ [])) ≡ buckets (pair_keys ps) + 1 = buckets_more ps q hop end ∙ rw nothing refl in
    let spot : ℕ = spot_of old q.key hop in
    record {
      tree = record {
        few = omega (arith, sum);
        size = omega (arith, size, longer, count);
        mark = mark_kept;
        each = bucket_added old new ps q hop number a.tree adds;
        upper = λ key h low z. ⊎_elim
            (λ (is : IsNew key q hop h). rw (named_at old new ps q hop number a key h is) a.next)
            (λ (n : IsNew key q hop h → ⊥).
            let same = kept old new ps q hop number a key h n in
            rw same (next_kept old new ps q hop number a key h (rw same at z) (λ deep x. omega arith) ∙ a.tree.upper key h low (rw same at z)))
            (new_or key q hop h);
      };
      keeps = λ key h z. kept old new ps q hop number a key h (old_is_other old new ps q hop number a key h z);
    }
  where
    mark_kept : slice_index new 682 ≡ 1
    mark_kept =
        let at_mark : (682 + 1 ≤ spot_of old q.key hop) ⊎ (spot_of old q.key hop + 2 ≤ 682) = ⊎_elim
        (λ (at : IsNodeSpot (spot_of old q.key hop) q.key hop). let small : node q.key hop ≤ 340 = node_small q.key hop at.0 in let is : spot_of old q.key hop ≡ 2 * node q.key hop = at.1 in inr (omega (arith, small, is)))
        (λ (at : IsChainSpot (spot_of old q.key hop) old q.key hop). let is : spot_of old q.key hop ≡ numbered_place (number_of old q.key at.0) + 192 = at.3 in inl (omega (arith, is)))
        (spot_is old q.key hop) in
        let size : length old ≡ bucket_place (buckets (pair_keys ps)) = a.tree.size in
        a.stays 682 1 (omega (arith, size)) at_mark 0 (omega arith) ∙ a.tree.mark

-- ---- bytes

pub appends : (old w two_ : List ℕ) (ps : List Pair) (q : Pair) (hop number : ℕ) → IsTree old ps → SlotsRise ps → IsPathEnd ps q.key hop → number_of old q.key hop ≡ 0 → IsFirstBucket w q → spot_of old q.key hop + 3 ≤ length old →
    length two_ ≡ 2 → u16_at two_ 0 ≡ number → number ≢ 0 → numbered_place number ≡ length old → Appends old (put_at (old ++ w) (spot_of old q.key hop) two_) ps q hop number
appends old w two_ ps q hop number tree rises end none is fits long two_is some place =
    let spot : ℕ = spot_of old q.key hop in
    let mid : List ℕ = old ++ w in
    let new : List ℕ = put_at mid spot two_ in
    let wide : length w ≡ 195 = is.long in
    let sum : length mid ≡ length old + length w = length-append old w in
    -- the bytes of the new bucket
    let fresh : (x n : ℕ) → SameBytes new w (length old + x) x n = λ x n. trans_same new mid w (length old + x) (length old + x) x n
    (put_outside mid two_ spot (length old + x) n (omega (arith, sum, long)) (inr (omega (arith, long)))) (append_here old w (length old) x n refl) in
    record {
      tree = tree;
      rises = rises;
      full = end.full;
      none = none;
      some = some;
      stays = λ p n inside apart. trans_same new mid old p p p n (put_outside mid two_ spot p n (omega (arith, sum, long)) (⊎_elim (λ (x : p + n ≤ spot). inl x) (λ (x : spot + 2 ≤ p). inr (omega (arith, x, long))) apart)) (append_before old w p n inside);
      named = (let e : spot + 0 ≡ spot = omega arith in subst (λ (p : ℕ). u16_at new p ≡ u16_at two_ 0) e (u16_same new two_ (spot + 0) 0 (put_here mid two_ spot 0 2 (omega (arith, sum)) (omega (arith, long))))) ∙ two_is;
      place = place;
      longer = length-put_at mid two_ spot (omega (arith, sum, long)) ∙ sum ∙ omega (arith, wide);
      first = rw place (record {
        slot = λ i h k. u16_same new w (length old + 6 * i + 4) (0 + 6 * i + 4) (shift new w (length old) (6 * i + 4) (length old + 6 * i + 4) (0 + 6 * i + 4) 2 (omega arith) (omega arith) fresh) ∙ is.holds.slot i h k;
        key = λ i h k. i32_same new w (length old + 6 * i) (0 + 6 * i) (shift new w (length old) (6 * i) (length old + 6 * i) (0 + 6 * i) 4 (omega arith) (omega arith) fresh) ∙ is.holds.key i h k;
        empty = λ i h k. u16_same new w (length old + 6 * i + 4) (0 + 6 * i + 4) (shift new w (length old) (6 * i + 4) (length old + 6 * i + 4) (0 + 6 * i + 4) 2 (omega arith) (omega arith) fresh) ∙ is.holds.empty i h k;
        blank = λ i h k. i32_same new w (length old + 6 * i) (0 + 6 * i) (shift new w (length old) (6 * i) (length old + 6 * i) (0 + 6 * i) 4 (omega arith) (omega arith) fresh) ∙ is.holds.blank i h k;
        last = (let e : length old + 194 + 0 ≡ length old + 194 = omega arith in subst (λ (j : ℕ). get_or new j 0 ≡ get_or w 194 0) e (fresh 194 1 0 (omega arith))) ∙ is.holds.last;
      });
      next = rw place (u16_same new w (length old + 192) (0 + 192) (fresh 192 2) ∙ is.next);
      zeros = λ x up down. rw place (let e : length old + x + 0 ≡ length old + x = omega arith in let f : x + 0 ≡ x = omega arith in rw e at (fresh x 1 0 (omega arith)) ∙ ap (λ (j : ℕ). get_or w j 0) f ∙ is.zeros x up down);
    }
  where
    shift : (xs ys : List ℕ) (base x p r n : ℕ) → p ≡ base + x → r ≡ x → ((y m : ℕ) → SameBytes xs ys (base + y) y m) → SameBytes xs ys p r n
    shift xs ys base x p r n e f same = rw e (rw f (same x n))
