-- Pairs that were seen slot by slot make the file the tree.
use Rattle.std.proofs.Common.{◌≡◌, ◌≢◌, ◌≤◌, ◌<◌, ◌+◌, ◌*◌, ◌-◌, ◌/◌, ◌%◌, ℕ, ℤ, pos, zero, suc, List, [], ◌∷◌, ◌++◌, length, get_or, set, refl, arith, ap, ◌∙◌, sym, ⊎_elim, subst, length-append}
use Rattle.std.specs.Prelude.{slice_index}
use Rattle.std.proofs.lemmas.List.{get_or-set_other, get_or-set_same, get_or_append_left}
use Rattle.std.proofs.Math.Seq.{get_or-append_seam}
use Rattle.db_model.specs.HashTree.{buckets, node}
use Rattle.index_tree.specs.Ends.{IsPathEnd}
use Rattle.index_tree.specs.Loads.{CountsPairs, IsLevel, load_of}
use Rattle.index_tree.specs.Pairs.{Pair, goes, pair_keys, no_pair, reaching}
use Rattle.index_tree.specs.TreeFile.{HoldsPairs, IsTree, next_number, bucket_place, key_at, next_at, bucket_number, number_of, numbered_place, slot_at}
use Rattle.index_maxheap.specs.Verify.{AreSeen, AreTails, Has, IsNodeDone, IsTail, hop_of}
use Rattle.index_tree.specs.Buckets.{HasPair}
use Rattle.index_tree.proofs.Added.{number_same, only_end, same_or}
use Rattle.index_maxheap.proofs.Built.{chain_length, way_deep}
use Rattle.index_tree.proofs.Counted.{chain}
use Rattle.index_tree.proofs.PutBucket.{Way, behind_chain, behind_node, behind_none, node_way}
use Rattle.index_tree.proofs.Shared.{Full, Same, grows, order, reach_same}
use Rattle.index_tree.proofs.Spots.{node_small}
use Rattle.index_tree.proofs.Loaded.{load_upper}
use Rattle.index_tree.proofs.Owned.{none_of}

-- ---- the last bucket of a node

-- a bucket of an upper node is its last
upper_hop : (loads : List ℕ) (ps : List Pair) (key : ℤ) (hop : ℕ) → CountsPairs loads ps → hop < 4 → 0 < length (reaching (goes key) hop ps) → (0 < get_or loads (node key hop) 0) × (hop_of hop (get_or loads (node key hop) 0) ≡ hop) × (length (reaching (goes key) hop ps) ≤ 32 → (get_or loads (node key hop) 0 - 1) % 32 + 1 ≡ length (reaching (goes key) hop ps))
upper_hop loads ps key hop counts low some =
    let each = counts.each key hop (omega (arith, low)) in
    let load = load_upper hop (length (reaching (goes key) hop ps)) low in
    (omega (arith, each, load, some), omega (arith, each, load, some), λ few. omega (arith, each, load, some, few))

-- a bucket of a chain with at most 32 pairs to come is the last
chain_hop : (loads : List ℕ) (ps : List Pair) (key : ℤ) (hop : ℕ) → CountsPairs loads ps → 4 ≤ hop → 0 < length (reaching (goes key) hop ps) → length (reaching (goes key) hop ps) ≤ 32 →
    (0 < get_or loads (node key 4) 0) × (hop_of 4 (get_or loads (node key 4) 0) ≡ hop) × ((get_or loads (node key 4) 0 - 1) % 32 + 1 ≡ length (reaching (goes key) hop ps))
chain_hop loads ps key hop counts deep some few =
    let each : get_or loads (node key 4) 0 ≡ length (reaching (goes key) 4 ps) = counts.each key 4 (omega arith) in
    let e : hop ≡ chain (hop - 4) = omega (arith, deep) in
    let long : length (reaching (goes key) hop ps) ≡ length (reaching (goes key) 4 ps) - 32 * (hop - 4) = ap (λ (h : ℕ). length (reaching (goes key) h ps)) e ∙ chain_length key ps (hop - 4) in
    (omega (arith, each, long, some), omega (arith, each, long, some, few, deep), omega (arith, each, long, some, few, deep))

pub number_node : (bytes : List ℕ) (key : ℤ) (hop : ℕ) → hop ≤ 4 → number_of bytes key hop ≡ bucket_number bytes (node key hop)
number_node bytes key zero h = refl
number_node bytes key (suc hop) h = behind_node bytes key hop (number_of bytes key hop) (omega (arith, h))

module _ (bytes loads places nexts fills : List ℕ) (ps : List Pair) (counts : CountsPairs loads ps) (seen : AreSeen bytes ps) (tails : AreTails bytes loads places nexts fills)
    (done : (n : ℕ) → n < 341 → IsNodeDone bytes n (get_or loads n 0) (get_or nexts n 0) (get_or fills n 0)) where
  at_node : (key : ℤ) (hop : ℕ) → hop ≤ 4 → length (reaching (goes key) hop ps) ≡ 0 → number_of bytes key hop ≡ 0
  at_node key hop low none =
      let small = node_small key hop low in
      let each = counts.each key hop low in
      let zero_load : get_or loads (node key hop) 0 ≡ 0 = each ∙ ap (load_of hop) none ∙ load_zero hop in
      ⊎_elim
      (λ (x : (get_or loads (node key hop) 0 ≡ 0) × (bucket_number bytes (node key hop) ≡ 0)). number_node bytes key hop low ∙ x.1)
      (λ (x : (0 < get_or loads (node key hop) 0) × (get_or fills (node key hop) 0 ≡ (get_or loads (node key hop) 0 - 1) % 32 + 1) × (get_or nexts (node key hop) 0 ≡ 0)). let s = x.0 in absurd (omega (arith, s, zero_load)))
      (done (node key hop) (omega (arith, small)))
    where
      load_zero : (l : ℕ) → load_of l 0 ≡ 0
      load_zero zero = refl
      load_zero (suc zero) = refl
      load_zero (suc (suc zero)) = refl
      load_zero (suc (suc (suc zero))) = refl
      load_zero (suc (suc (suc (suc l)))) = refl

  end_next : (key : ℤ) (level hop : ℕ) → level ≤ 4 → 0 < get_or loads (node key level) 0 → hop_of level (get_or loads (node key level) 0) ≡ hop → next_at bytes (numbered_place (number_of bytes key hop)) ≡ 0 × (get_or fills (node key level) 0 ≡ (get_or loads (node key level) 0 - 1) % 32 + 1)
  end_next key level hop low some is =
      let small = node_small key level low in
      let tail = tails key level low some in
      ⊎_elim
      (λ (x : (get_or loads (node key level) 0 ≡ 0) × (bucket_number bytes (node key level) ≡ 0)). let z = x.0 in absurd (omega (arith, some, z)))
      (λ (x : (0 < get_or loads (node key level) 0) × (get_or fills (node key level) 0 ≡ (get_or loads (node key level) 0 - 1) % 32 + 1) × (get_or nexts (node key level) 0 ≡ 0)).
      (subst (λ (h : ℕ). next_at bytes (numbered_place (number_of bytes key h)) ≡ 0) is (sym tail.onward ∙ x.2), x.1))
      (done (node key level) (omega (arith, small)))

  -- a path has no bucket where nothing comes
  nothing_there : (key : ℤ) (hop : ℕ) → length (reaching (goes key) hop ps) ≡ 0 → number_of bytes key hop ≡ 0
  nothing_there key zero none = at_node key 0 (omega arith) none
  nothing_there key (suc hop) none = ⊎_elim
      (λ (deep : 4 ≤ hop). ⊎_elim
      (λ (empty : length (reaching (goes key) hop ps) ≤ 0). ap (next_number bytes key hop) (nothing_there key hop (omega (arith, empty))) ∙ behind_none bytes key hop deep)
      (λ (some : 0 < length (reaching (goes key) hop ps)).
      let few : length (reaching (goes key) hop ps) ≤ 32 = chain_few key hop deep none in
      let last = chain_hop loads ps key hop counts deep some few in
      behind_chain bytes key hop (number_of bytes key hop) (seen key hop some).some deep ∙ (end_next key 4 hop (omega arith) last.0 last.1).0)
      (order (length (reaching (goes key) hop ps)) 0))
      (λ (low : hop < 4). at_node key (suc hop) (omega (arith, low)) none)
      (order 4 hop)
    where
      chain_few : (k : ℤ) (h : ℕ) → 4 ≤ h → length (reaching (goes k) (suc h) ps) ≡ 0 → length (reaching (goes k) h ps) ≤ 32
      chain_few k h deep z =
          let e : h ≡ chain (h - 4) = omega (arith, deep) in
          let f : suc h ≡ chain (suc (h - 4)) = omega (arith, deep) in
          let a = ap (λ (x : ℕ). length (reaching (goes k) x ps)) e ∙ chain_length k ps (h - 4) in
          let b = ap (λ (x : ℕ). length (reaching (goes k) x ps)) f ∙ chain_length k ps (suc (h - 4)) in
          omega (arith, a, b, z)

  holds_all : (key : ℤ) (hop : ℕ) → 0 < length (reaching (goes key) hop ps) → HoldsPairs bytes (numbered_place (number_of bytes key hop)) (reaching (goes key) hop ps)
  holds_all key hop some =
      let has = seen key hop some in
      let tail : length (reaching (goes key) hop ps) < 32 → (l : ℕ) × (l ≤ 4) × (0 < get_or loads (node key l) 0) × (hop_of l (get_or loads (node key l) 0) ≡ hop) × ((get_or loads (node key l) 0 - 1) % 32 + 1 ≡ length (reaching (goes key) hop ps)) = λ few. ⊎_elim
      (λ (deep : 4 ≤ hop). let last = chain_hop loads ps key hop counts deep some (omega (arith, few)) in (4, omega arith, last.0, last.1, last.2))
      (λ (low : hop < 4). let last = upper_hop loads ps key hop counts low some in (hop, omega (arith, low), last.0, last.1, last.2 (omega (arith, few))))
      (order 4 hop) in
      record {
        slot = has.slot;
        key = has.key;
        empty = λ i h k.
            let t = tail (omega (arith, h, k)) in
            let fill = (end_next key t.0 hop t.1 t.2 t.3).1 in
            let last = t.4 in
            subst (λ (g : ℕ). slot_at bytes (numbered_place (number_of bytes key g)) i ≡ 0) t.3 ((tails key t.0 t.1 t.2).empty i h (omega (arith, fill, last, k)));
        blank = λ i h k.
            let t = tail (omega (arith, h, k)) in
            let fill = (end_next key t.0 hop t.1 t.2 t.3).1 in
            let last = t.4 in
            subst (λ (g : ℕ). key_at bytes (numbered_place (number_of bytes key g)) i ≡ pos 0) t.3 ((tails key t.0 t.1 t.2).blank i h (omega (arith, fill, last, k)));
        last = has.last;
      }

  pub seen_tree : length ps ≤ 32768 → length bytes ≡ bucket_place (buckets (pair_keys ps)) → slice_index bytes 682 ≡ 1 → IsTree bytes ps
  seen_tree few size mark = record {
    few = few;
    size = size;
    mark = mark;
    each = λ key hop. record {
      none = λ z. none_of (reaching (goes key) hop ps) (λ some. (seen key hop some).some z);
      some = λ s. ⊎_elim (λ (z : length (reaching (goes key) hop ps) ≤ 0). absurd (s (nothing_there key hop (omega (arith, z))))) (λ (x : 0 < length (reaching (goes key) hop ps)). x) (order (length (reaching (goes key) hop ps)) 0);
      within = λ s. (seen key hop (there key hop s)).within;
      holds = λ s. holds_all key hop (there key hop s);
    };
    upper = λ key hop low s.
        let last = upper_hop loads ps key hop counts low (there key hop s) in
        (end_next key hop hop (omega (arith, low)) last.0 last.1).0;
  }
    where
      there : (k : ℤ) (h : ℕ) → number_of bytes k h ≢ 0 → 0 < length (reaching (goes k) h ps)
      there k h s = ⊎_elim (λ (z : length (reaching (goes k) h ps) ≤ 0). absurd (s (nothing_there k h (omega (arith, z))))) (λ (x : 0 < length (reaching (goes k) h ps)). x) (order (length (reaching (goes k) h ps)) 0)

-- ---- one pair more

has_more : (bytes : List ℕ) (number : ℕ) (rest : List Pair) (q : Pair) → 32 ≤ length rest → Has bytes number rest → Has bytes number (rest ++ q ∷ [])
has_more bytes number rest q full has =
    record {
      some = has.some;
      within = has.within;
      slot = λ i h k. rw (get_or_append_left rest (q ∷ []) no_pair i (omega (arith, full, h))) (has.slot i h (omega (arith, full, h)));
      key = λ i h k. rw (get_or_append_left rest (q ∷ []) no_pair i (omega (arith, full, h))) (has.key i h (omega (arith, full, h)));
      last = has.last;
    }

has_one : (bytes : List ℕ) (number : ℕ) (rest : List Pair) (q : Pair) → HasPair bytes number (length rest) q → (0 < length rest → Has bytes number rest) → Has bytes number (rest ++ q ∷ [])
has_one bytes number rest q one before =
    let sum : length (rest ++ q ∷ []) ≡ length rest + length (q ∷ []) = length-append rest (q ∷ []) in
    let seam : get_or (rest ++ q ∷ []) (length rest) no_pair ≡ q = get_or-append_seam rest q [] no_pair in
    record {
      some = one.some;
      within = one.within;
      slot = λ i h k. ⊎_elim
          (λ (here : length rest ≤ i). let e : i ≡ length rest = omega (arith, sum, here, k) in rw (e, seam) one.slot)
          (λ (less : i < length rest). rw (get_or_append_left rest (q ∷ []) no_pair i less) ((before (omega (arith, less))).slot i h less))
          (order (length rest) i);
      key = λ i h k. ⊎_elim
          (λ (here : length rest ≤ i). let e : i ≡ length rest = omega (arith, sum, here, k) in rw (e, seam) one.key)
          (λ (less : i < length rest). rw (get_or_append_left rest (q ∷ []) no_pair i less) ((before (omega (arith, less))).key i h less))
          (order (length rest) i);
      last = one.last;
    }

pub seen_more : (bytes : List ℕ) (ps : List Pair) (q : Pair) (hop : ℕ) → AreSeen bytes ps → IsPathEnd ps q.key hop → HasPair bytes (number_of bytes q.key hop) (length (reaching (goes q.key) hop ps)) q → AreSeen bytes (ps ++ q ∷ [])
seen_more bytes ps q hop seen end one key h some = ⊎_elim
    (λ (same : reaching (goes key) h (ps ++ q ∷ []) ≡ reaching (goes key) h ps). subst (λ (xs : List Pair). Has bytes (number_of bytes key h) xs) (sym same) (seen key h (subst (λ (xs : List Pair). 0 < length xs) same some)))
    (λ (grown : Full key ps h × (reaching (goes key) h (ps ++ q ∷ []) ≡ reaching (goes key) h ps ++ q ∷ []) × ((i : ℕ) → i < h → Same key q.key i)).
    subst (λ (xs : List Pair). Has bytes (number_of bytes key h) xs) (sym grown.1)
    (⊎_elim
    (λ (full : 32 ≤ length (reaching (goes key) h ps)). has_more bytes (number_of bytes key h) (reaching (goes key) h ps) q full (seen key h (omega (arith, full))))
    (λ (room : length (reaching (goes key) h ps) < 32).
    let here : h ≡ hop = only_end ps q hop end.full end.room key h grown.0 grown.2 room in
    let number : number_of bytes key h ≡ number_of bytes q.key hop = number_same bytes key q.key h grown.2 ∙ ap (number_of bytes q.key) here in
    let len : reaching (goes key) h ps ≡ reaching (goes q.key) hop ps = reach_same key q.key ps h grown.2 ∙ ap (λ (g : ℕ). reaching (goes q.key) g ps) here in
    has_one bytes (number_of bytes key h) (reaching (goes key) h ps) q (rw (number, len) one) (λ s. seen key h s))
    (order 32 (length (reaching (goes key) h ps)))))
    (grows key ps q h)

-- ---- the tails after it

same_quotient : (l m a b : ℕ) → a ≡ m + 1 → b ≡ m → m % 32 ≢ 0 → hop_of l a ≡ hop_of l b
same_quotient l m a b e f p = ⊎_elim (λ (x : m % 32 ≤ 0). absurd (p (omega (arith, x)))) (λ (x : 0 < m % 32). omega (arith, x, e, f)) (order (m % 32) 0)

some_load : (m : ℕ) → m % 32 ≢ 0 → 0 < m
some_load m p = ⊎_elim (λ (x : m ≤ 0). absurd (p (omega (arith, x)))) (λ (x : 0 < m). x) (order m 0)

pub tails_pair : (bytes loads places nexts fills : List ℕ) (key : ℤ) (level : ℕ) → level ≤ 4 → length loads ≡ 341 → AreTails bytes loads places nexts fills → get_or loads (node key level) 0 % 32 ≢ 0 →
    AreTails bytes (set loads (node key level) (get_or loads (node key level) 0 + 1)) places nexts fills
tails_pair bytes loads places nexts fills q level low long tails partial key l small some =
    let n : ℕ = node q level in
    let v : ℕ = get_or loads n 0 + 1 in
    let bound : n ≤ 340 = node_small q level low in
    let tail : (a : ℕ) → 0 < get_or loads (node key l) 0 → hop_of l a ≡ hop_of l (get_or loads (node key l) 0) → IsTail bytes (number_of bytes key (hop_of l a)) (get_or places (node key l) 0) (get_or nexts (node key l) 0) (get_or fills (node key l) 0) l = λ a s e.
    subst (λ (h : ℕ). IsTail bytes (number_of bytes key h) (get_or places (node key l) 0) (get_or nexts (node key l) 0) (get_or fills (node key l) 0) l) (sym e) (tails key l small s) in
    ⊎_elim
    (λ (e : node key l ≡ n).
    let here : get_or (set loads n v) (node key l) 0 ≡ v = ap (λ (j : ℕ). get_or (set loads n v) j 0) e ∙ get_or-set_same loads n v 0 (omega (arith, bound, long)) in
    let was : get_or loads (node key l) 0 ≡ get_or loads n 0 = ap (λ (j : ℕ). get_or loads j 0) e in
    let positive = some_load (get_or loads n 0) partial in
    tail (get_or (set loads n v) (node key l) 0) (omega (arith, was, positive)) (same_quotient l (get_or loads n 0) (get_or (set loads n v) (node key l) 0) (get_or loads (node key l) 0) here was partial))
    (λ (d : node key l ≢ n).
    let here : get_or (set loads n v) (node key l) 0 ≡ get_or loads (node key l) 0 = get_or-set_other loads n (node key l) v 0 d in
    tail (get_or (set loads n v) (node key l) 0) (rw here at some) (ap (hop_of l) here))
    (same_or (node key l) n)

pub tails_bucket : (bytes loads places nexts fills : List ℕ) (q : ℤ) (level hop place next fill : ℕ) → IsLevel loads q level → length loads ≡ 341 → length places ≡ 341 → length nexts ≡ 341 → length fills ≡ 341 → AreTails bytes loads places nexts fills → hop ≡ level + get_or loads (node q level) 0 / 32 → get_or loads (node q level) 0 % 32 ≡ 0 →
    IsTail bytes (number_of bytes q hop) place next fill level →
    AreTails bytes (set loads (node q level) (get_or loads (node q level) 0 + 1)) (set places (node q level) place) (set nexts (node q level) next) (set fills (node q level) fill)
tails_bucket bytes loads places nexts fills q level hop place next fill lev long a b c tails hop_is whole new key l small some =
    let n : ℕ = node q level in
    let v : ℕ = get_or loads n 0 + 1 in
    let bound : n ≤ 340 = node_small q level lev.low in
    ⊎_elim
    (λ (e : node key l ≡ n).
    let both = node_way key q l level e in
    let same_level : l ≡ level = both.0 in
    let here : get_or (set loads n v) (node key l) 0 ≡ v = ap (λ (j : ℕ). get_or (set loads n v) j 0) e ∙ get_or-set_same loads n v 0 (omega (arith, bound, long)) in
    let p : get_or (set places n place) (node key l) 0 ≡ place = ap (λ (j : ℕ). get_or (set places n place) j 0) e ∙ get_or-set_same places n place 0 (omega (arith, bound, a)) in
    let x : get_or (set nexts n next) (node key l) 0 ≡ next = ap (λ (j : ℕ). get_or (set nexts n next) j 0) e ∙ get_or-set_same nexts n next 0 (omega (arith, bound, b)) in
    let f : get_or (set fills n fill) (node key l) 0 ≡ fill = ap (λ (j : ℕ). get_or (set fills n fill) j 0) e ∙ get_or-set_same fills n fill 0 (omega (arith, bound, c)) in
    let g : hop_of l (get_or (set loads n v) (node key l) 0) ≡ hop = omega (arith, here, hop_is, same_level, whole) in
    let upper : level < hop → 4 ≤ level = λ less. ⊎_elim (λ (y : 4 ≤ level). y) (λ (y : level < 4). let room = lev.room y in absurd (omega (arith, room, less, hop_is))) (order 4 level) in
    let way : Way key q hop = way_deep key q l hop both.1 (λ less. let u = upper (omega (arith, less, same_level)) in omega (arith, u, same_level)) in
    let number : number_of bytes key hop ≡ number_of bytes q hop = number_same bytes key q hop way in
    rw (g, p, x, f, number, same_level) new)
    (λ (d : node key l ≢ n).
    let here : get_or (set loads n v) (node key l) 0 ≡ get_or loads (node key l) 0 = get_or-set_other loads n (node key l) v 0 d in
    let p : get_or (set places n place) (node key l) 0 ≡ get_or places (node key l) 0 = get_or-set_other places n (node key l) place 0 d in
    let x : get_or (set nexts n next) (node key l) 0 ≡ get_or nexts (node key l) 0 = get_or-set_other nexts n (node key l) next 0 d in
    let f : get_or (set fills n fill) (node key l) 0 ≡ get_or fills (node key l) 0 = get_or-set_other fills n (node key l) fill 0 d in
    let s : 0 < get_or loads (node key l) 0 = rw here at some in
    rw (here, p, x, f) (tails key l small s))
    (same_or (node key l) n)
