-- A draft with a tree in front takes one pair more.
use Rattle.std.proofs.Common.{◌≡◌, ◌≢◌, ◌≤◌, ◌<◌, ◌+◌, ◌*◌, ◌-◌, ◌/◌, ◌%◌, ℕ, ℤ, zero, suc, List, [], ◌∷◌, ◌++◌, length, take, drop, get_or, set, replicate, refl, arith, ap, ◌∙◌, sym, inl, inr, ⊎_elim, subst, length-append}
use Rattle.std.specs.Prelude.{slice_range, slice_index}
use Rattle.std.proofs.lemmas.List.{ext_get_or, get_or-append-add, get_or-drop, get_or-replicate, get_or-set_other, get_or-set_same, get_or-take, get_or_append_left, replicate-append-replicate, length-drop, length-replicate, length-set, length-take-le}
use Rattle.std.proofs.lemmas.List.FromFn.{length-map-range_with_len}
use Rattle.afl_base.specs.Fields.{put_at, u16_at}
use Rattle.afl_base.specs.Files.{Drafts, State, Table, bytes_at, draft_in}
use Rattle.afl_base.specs.KeyColumn.{key_of, key_place, number_of_width}
use Rattle.afl_base.specs.declared.key_column.KeyColumn.{KeyColumn}
use Rattle.padded.specs.Padded.{padded}
use Rattle.afl_base.proofs.FieldLaws.{length-put_at}
use Rattle.afl_base.proofs.PaddedLaws.{padded_all, put_behind, put_in_front}
use Rattle.db_model.specs.HashTree.{buckets, node}
use Rattle.index_tree.specs.Buckets.{IsFirstBucket, IsPairBytes}
use Rattle.index_maxheap.specs.Builds.{AreLast, Builds, IsBlank, HasOtherDraft, place_of}
use Rattle.index_tree.specs.Ends.{IsPathEnd, spot_of}
use Rattle.index_tree.specs.Loads.{CountsPairs, IsLevel, load_of, opened_bucket}
use Rattle.index_tree.specs.Pairs.{Pair, goes, pair_keys, pair_of, pairs_of, reaching}
use Rattle.index_tree.specs.Places.{SlotsRise}
use Rattle.index_tree.specs.TreeFile.{IsTree, next_number, bucket_place, number_of, numbered_place}
use Rattle.index_tree.proofs.Added.{same_bucket, same_or, zero_or, passes_all}
use Rattle.index_tree.proofs.Counted.{buckets_more, chain, all_stay}
use Rattle.index_tree.proofs.Filters.{rises_map}
use Rattle.index_tree.proofs.Loaded.{counts_more, counts_none, end_level, end_there, pairs_more, zeros_few, reach_none}
use Rattle.index_tree.proofs.PutBucket.{Appends, IsNew, Way, appends, bucket_kept, bucket_put, kept, named_at, new_or, old_is_other, node_way, spot_chain}
use Rattle.index_tree.proofs.PutPair.{adds_pair, pair_put}
use Rattle.index_tree.proofs.Reach.{reach-append}
use Rattle.index_tree.proofs.Inserted.{zero_u16}
use Rattle.index_tree.proofs.Frames.{put_here}
use Rattle.index_tree.proofs.Shared.{Full, Same, goes_self, grows, order, reach_same}
use Rattle.index_tree.proofs.Spots.{u16_stays, byte_stays, chain_same, node_small}
use Rattle.index_tree.proofs.OnPath.{node_spot}
use Rattle.index_maxheap.proofs.Walked.{number_spot}

-- ---- zeros

pub slice_zeros : (xs : List ℕ) (at n : ℕ) → at + n ≤ length xs → ((i : ℕ) → i < n → get_or xs (at + i) 0 ≡ 0) → slice_range xs at (at + n) ≡ replicate n 0
slice_zeros xs at n fits zeros =
    let e : at + n - at ≡ n = omega arith in
    let cut : length (drop at xs) ≡ length xs - at = length-drop at xs in
    let long : length (take n (drop at xs)) ≡ n = length-take-le n (drop at xs) (omega (arith, cut, fits)) in
    rw e (ext_get_or 0 (take n (drop at xs)) (replicate n 0) (long ∙ sym (length-replicate {A = ℕ} n 0))
    (λ i h. let inside : i < n = omega (arith, h, long) in get_or-take n (drop at xs) i 0 inside ∙ get_or-drop at xs i 0 ∙ zeros i inside ∙ sym (get_or-replicate n i 0 0 inside)))

two_zeros : (xs : List ℕ) (p : ℕ) → u16_at xs p ≡ 0 → (i : ℕ) → i < 2 → get_or xs (p + i) 0 ≡ 0
unfolding u16_at
two_zeros xs p z i h = pick i h
  where
    both : (a b : ℕ) → a + 256 * (b + 256 * 0) ≡ 0 → (a ≡ 0) × (b ≡ 0)
    both a b e = (omega arith, omega arith)

    parts : (get_or (drop p xs) 0 0 ≡ 0) × (get_or (drop p xs) 1 0 ≡ 0)
    parts = both (get_or (drop p xs) 0 0) (get_or (drop p xs) 1 0) z

    pick : (j : ℕ) → j < 2 → get_or xs (p + j) 0 ≡ 0
    pick zero k = sym (get_or-drop p xs 0 0) ∙ parts.0
    pick (suc zero) k = sym (get_or-drop p xs 1 0) ∙ parts.1
    pick (suc (suc j)) k = absurd (omega arith)

-- ---- the last bucket of a node

pub chain_length : (key : ℤ) (ps : List Pair) (j : ℕ) → length (reaching (goes key) (chain j) ps) ≡ length (reaching (goes key) 4 ps) - 32 * j
chain_length key ps zero = omega arith
chain_length key ps (suc j) =
    let before = chain_length key ps j in
    let cut = length-drop 32 (reaching (goes key) (chain j) ps) in
    let next : length (reaching (goes key) (chain (suc j)) ps) ≡ length (drop 32 (reaching (goes key) (chain j) ps)) = ap length (all_stay (drop 32 (reaching (goes key) (chain j) ps))) in
    omega (arith, before, cut, next)

abbrev last_hop : List ℕ → ℤ → ℕ → ℕ
last_hop loads key level = level + (get_or loads (node key level) 0 - 1) / 32

-- that bucket has pairs
last_some : (loads : List ℕ) (ps : List Pair) (key : ℤ) (level : ℕ) → CountsPairs loads ps → level ≤ 4 → 0 < get_or loads (node key level) 0 → 0 < length (reaching (goes key) (last_hop loads key level) ps)
last_some loads ps key level counts low some =
    let each : get_or loads (node key level) 0 ≡ load_of level (length (reaching (goes key) level ps)) = counts.each key level low in
    ⊎_elim
    (λ (lowest : 4 ≤ level).
    let at : level ≡ 4 = omega arith in
    let j : ℕ = (get_or loads (node key level) 0 - 1) / 32 in
    let load : get_or loads (node key level) 0 ≡ length (reaching (goes key) 4 ps) = each ∙ subst (λ (l : ℕ). load_of l (length (reaching (goes key) l ps)) ≡ length (reaching (goes key) 4 ps)) (sym at) refl in
    let long = chain_length key ps j in
    let hop : last_hop loads key level ≡ chain j = omega (arith, at) in
    rw hop (omega (arith, long, load, some)))
    (λ (upper : level < 4).
    let load = load_low level (length (reaching (goes key) level ps)) upper in
    let hop : last_hop loads key level ≡ level = omega (arith, each, load) in
    rw hop (omega (arith, each, load, some)))
    (order 4 level)
  where
    load_low : (l n : ℕ) → l < 4 → load_of l n ≤ 32 × (0 < load_of l n → 0 < n)
    load_low zero n h = (omega arith, λ k. omega arith)
    load_low (suc zero) n h = (omega arith, λ k. omega arith)
    load_low (suc (suc zero)) n h = (omega arith, λ k. omega arith)
    load_low (suc (suc (suc zero))) n h = (omega arith, λ k. omega arith)
    load_low (suc (suc (suc (suc l)))) n h = absurd (omega arith)

number_some : (tree : List ℕ) (ps : List Pair) (key : ℤ) (hop : ℕ) → IsTree tree ps → 0 < length (reaching (goes key) hop ps) → number_of tree key hop ≢ 0
number_some tree ps key hop is some = λ z. let none : length (reaching (goes key) hop ps) ≡ 0 = ap length ((is.each key hop).none z) in omega (arith, none, some)

-- what reaches a bucket never gets less
grown_length : (key : ℤ) (ps : List Pair) (q : Pair) (h : ℕ) → length (reaching (goes key) h ps) ≤ length (reaching (goes key) h (ps ++ q ∷ []))
grown_length key ps q h = ⊎_elim
    (λ (same : reaching (goes key) h (ps ++ q ∷ []) ≡ reaching (goes key) h ps). let e = ap length same in omega (arith, e))
    (λ (grown : Full key ps h × (reaching (goes key) h (ps ++ q ∷ []) ≡ reaching (goes key) h ps ++ q ∷ []) × ((i : ℕ) → i < h → Same key q.key i)).
    let sum : length (reaching (goes key) h ps ++ q ∷ []) ≡ length (reaching (goes key) h ps) + 1 = length-append (reaching (goes key) h ps) (q ∷ []) in
    let e = ap length grown.1 in omega (arith, e, sum))
    (grows key ps q h)

-- at the end itself it gets one more
end_length : (key : ℤ) (ps : List Pair) (q : Pair) (h : ℕ) → Full q.key ps h → Way key q.key h → length (reaching (goes key) h (ps ++ q ∷ [])) ≡ length (reaching (goes q.key) h ps) + 1
end_length key ps q h full way =
    let full_ : Full key ps h = λ i k. subst (λ (xs : List Pair). 32 ≤ length xs) (sym (reach_same key q.key ps i (λ j l. way j (omega arith)))) (full i k) in
    let grown : reaching (goes key) h (ps ++ q ∷ []) ≡ reaching (goes key) h ps ++ q ∷ [] = reach-append (goes key) ps (q ∷ []) h full_ ∙ ap (λ xs. reaching (goes key) h ps ++ xs) (passes_all key h q (λ i k. way i k q ∙ goes_self q.key i q refl)) in
    let sum : length (reaching (goes key) h ps ++ q ∷ []) ≡ length (reaching (goes key) h ps) + 1 = length-append (reaching (goes key) h ps) (q ∷ []) in
    let same = ap length (reach_same key q.key ps h way) in
    ap length grown ∙ omega (arith, sum, same)

-- ---- blanks stay

blank_pair : (tree w : List ℕ) (ps : List Pair) (q : Pair) (hop : ℕ) → IsTree tree ps → SlotsRise ps → IsBlank tree ps → IsPathEnd ps q.key hop → number_of tree q.key hop ≢ 0 → IsPairBytes w q →
    IsBlank (put_at tree (numbered_place (number_of tree q.key hop) + 6 * length (reaching (goes q.key) hop ps)) w) (ps ++ q ∷ [])
blank_pair tree w ps q hop is rises blank end some pair key h now x up down =
    let adds = adds_pair tree w ps q hop is end some pair in
    let m : ℕ = number_of tree q.key hop in
    let at : ℕ = numbered_place m + 6 * length (reaching (goes q.key) hop ps) in
    let long : length w ≡ 6 = pair.long in
    let room = end.room in
    let fits : bucket_place m ≤ length tree = (is.each q.key hop).within some in
    let same : number_of (put_at tree at w) key h ≡ number_of tree key h = adds.numbers key h in
    let there : number_of tree key h ≢ 0 = rw same at now in
    let more = grown_length key ps q h in
    let old : get_or tree (numbered_place (number_of tree key h) + x) 0 ≡ 0 = blank key h there x (omega (arith, up, more)) down in
    rw same (⊎_elim
    (λ (e : number_of tree key h ≡ m).
    let both = same_bucket tree ps is.each rises key q.key h hop there e in
    let len = end_length key ps q h (subst (λ (g : ℕ). Full q.key ps g) (sym both.0) end.full) both.1 in
    let len_ = ap (λ (g : ℕ). length (reaching (goes q.key) g ps)) both.0 in
    byte_stays tree w at (numbered_place (number_of tree key h) + x) (omega (arith, long, fits, room)) (inr (omega (arith, long, e, up, len, len_))) ∙ old)
    (λ (d : number_of tree key h ≢ m). (adds.others (number_of tree key h) there d).rest x down ∙ old)
    (same_or (number_of tree key h) m))

blank_bucket : (tree new : List ℕ) (ps : List Pair) (q : Pair) (hop number : ℕ) → Appends tree new ps q hop number → IsBlank tree ps → IsBlank new (ps ++ q ∷ [])
blank_bucket tree new ps q hop number a blank key h now x up down = ⊎_elim
    (λ (is : IsNew key q hop h).
    let len = end_length key ps q h (subst (λ (g : ℕ). Full q.key ps g) (sym is.0) a.full) is.1 in
    rw (named_at tree new ps q hop number a key h is) (a.zeros x (omega (arith, up, len)) down))
    (λ (other : IsNew key q hop h → ⊥).
    let same : number_of new key h ≡ number_of tree key h = kept tree new ps q hop number a key h other in
    let there : number_of tree key h ≢ 0 = rw same at now in
    let more = grown_length key ps q h in
    rw same ((bucket_kept tree new ps q hop number a key h there).rest x down ∙ blank key h there x (omega (arith, up, more)) down))
    (new_or key q hop h)

-- ---- the last buckets stay

pub way_deep : (a b : ℤ) (l h : ℕ) → Way a b l → (l < h → 4 ≤ l) → Way a b h
way_deep a b l h way deep i k = ⊎_elim (λ (out : l ≤ i). chain_same a b i (let d = deep (omega (arith, out, k)) in omega (arith, d, out))) (λ (in_ : i < l). way i in_) (order l i)

ends_pair : (loads lasts tree new : List ℕ) (ps : List Pair) (q : Pair) (level : ℕ) → IsTree tree ps → CountsPairs loads ps → AreLast loads lasts tree → IsLevel loads q.key level → get_or loads (node q.key level) 0 % 32 ≢ 0 →
    ((key : ℤ) (h : ℕ) → number_of tree key h ≢ 0 → number_of new key h ≡ number_of tree key h) → AreLast (set loads (node q.key level) (get_or loads (node q.key level) 0 + 1)) lasts new
ends_pair loads lasts tree new ps q level is counts ends lev partial keeps key l low some =
    let n : ℕ = node q.key level in
    let v : ℕ = get_or loads n 0 + 1 in
    let small : n ≤ 340 = node_small q.key level lev.low in
    let long : length loads ≡ 341 = counts.long in
    let last : 0 < get_or loads (node key l) 0 → (g : ℕ) → g ≡ last_hop loads key l → place_of lasts (node key l) ≡ numbered_place (number_of new key g) = λ s g e.
    rw e (rw (keeps key (last_hop loads key l) (number_some tree ps key (last_hop loads key l) is (last_some loads ps key l counts low s))) (ends key l low s)) in
    ⊎_elim
    (λ (e : node key l ≡ n).
    let here : get_or (set loads n v) (node key l) 0 ≡ v = ap (λ (j : ℕ). get_or (set loads n v) j 0) e ∙ get_or-set_same loads n v 0 (omega (arith, small, long)) in
    let was : get_or loads (node key l) 0 ≡ get_or loads n 0 = ap (λ (j : ℕ). get_or loads j 0) e in
    last (omega (arith, was, partial_some (get_or loads n 0) partial)) (l + (get_or (set loads n v) (node key l) 0 - 1) / 32) (same_quotient l (get_or loads n 0) (get_or (set loads n v) (node key l) 0) (get_or loads (node key l) 0) here was partial))
    (λ (d : node key l ≢ n).
    let here : get_or (set loads n v) (node key l) 0 ≡ get_or loads (node key l) 0 = get_or-set_other loads n (node key l) v 0 d in
    last (rw here at some) (l + (get_or (set loads n v) (node key l) 0 - 1) / 32) (ap (λ (m : ℕ). l + (m - 1) / 32) here))
    (same_or (node key l) n)
  where
    partial_some : (m : ℕ) → m % 32 ≢ 0 → 0 < m
    partial_some m p = ⊎_elim (λ (x : m ≤ 0). absurd (p (omega (arith, x)))) (λ (x : 0 < m). x) (order m 0)

    same_quotient : (k m a b : ℕ) → a ≡ m + 1 → b ≡ m → m % 32 ≢ 0 → k + (a - 1) / 32 ≡ k + (b - 1) / 32
    same_quotient k m a b e f p = ⊎_elim (λ (x : m % 32 ≤ 0). absurd (p (omega (arith, x)))) (λ (x : 0 < m % 32). omega (arith, x, e, f)) (order (m % 32) 0)

ends_bucket : (loads lasts tree new : List ℕ) (ps : List Pair) (q : Pair) (level hop number : ℕ) → IsTree tree ps → CountsPairs loads ps → length lasts ≡ 341 → AreLast loads lasts tree → IsLevel loads q.key level → hop ≡ level + get_or loads (node q.key level) 0 / 32 →
    Appends tree new ps q hop number → AreLast (set loads (node q.key level) (get_or loads (node q.key level) 0 + 1)) (set lasts (node q.key level) (number - 1)) new
ends_bucket loads lasts tree new ps q level hop number is counts wide ends lev hop_is a key l low some =
    let n : ℕ = node q.key level in
    let v : ℕ = get_or loads n 0 + 1 in
    let small : n ≤ 340 = node_small q.key level lev.low in
    let long : length loads ≡ 341 = counts.long in
    ⊎_elim
    (λ (e : node key l ≡ n).
    let both = node_way key q.key l level e in
    let same_level : l ≡ level = both.0 in
    let here : get_or (set loads n v) (node key l) 0 ≡ v = ap (λ (j : ℕ). get_or (set loads n v) j 0) e ∙ get_or-set_same loads n v 0 (omega (arith, small, long)) in
    let place : place_of (set lasts n (number - 1)) (node key l) ≡ numbered_place number = ap bucket_place (ap (λ (j : ℕ). get_or (set lasts n (number - 1)) j 0) e ∙ get_or-set_same lasts n (number - 1) 0 (omega (arith, small, wide))) in
    let g : l + (get_or (set loads n v) (node key l) 0 - 1) / 32 ≡ hop = omega (arith, here, hop_is, same_level) in
    let upper : level < hop → 4 ≤ level = λ less. ⊎_elim (λ (x : 4 ≤ level). x) (λ (x : level < 4). let room = lev.room x in absurd (omega (arith, room, less, hop_is))) (order 4 level) in
    let way : Way key q.key hop = way_deep key q.key l hop both.1 (λ less. let u = upper (omega (arith, less, same_level)) in omega (arith, u, same_level)) in
    rw g (place ∙ ap numbered_place (sym (named_at tree new ps q hop number a key hop (refl, way)))))
    (λ (d : node key l ≢ n).
    let here : get_or (set loads n v) (node key l) 0 ≡ get_or loads (node key l) 0 = get_or-set_other loads n (node key l) v 0 d in
    let s : 0 < get_or loads (node key l) 0 = rw here at some in
    let there : number_of tree key (last_hop loads key l) ≢ 0 = number_some tree ps key (last_hop loads key l) is (last_some loads ps key l counts low s) in
    let grown : number_of new key (last_hop loads key l) ≡ number_of tree key (last_hop loads key l) = kept tree new ps q hop number a key (last_hop loads key l) (old_is_other tree new ps q hop number a key (last_hop loads key l) there) in
    let g : l + (get_or (set loads n v) (node key l) 0 - 1) / 32 ≡ last_hop loads key l = ap (λ (m : ℕ). l + (m - 1) / 32) here in
    rw g (ap bucket_place (get_or-set_other lasts n (node key l) (number - 1) 0 d) ∙ ends key l low s ∙ ap numbered_place (sym grown)))
    (same_or (node key l) n)

-- ---- the draft

draft_front : (draft tree : List ℕ) (i : ℕ) → draft ≡ padded (length draft) tree → i < length tree → get_or draft i 0 ≡ get_or tree i 0
draft_front draft tree i is h = ap (λ (xs : List ℕ). get_or xs i 0) is ∙ get_or_append_left tree (replicate (length draft - length tree) 0) 0 i h

draft_back : (draft tree : List ℕ) (i : ℕ) → draft ≡ padded (length draft) tree → length tree + i < length draft → get_or draft (length tree + i) 0 ≡ 0
draft_back draft tree i is h = ap (λ (xs : List ℕ). get_or xs (length tree + i) 0) is ∙ get_or-append-add tree (replicate (length draft - length tree) 0) i 0 ∙ get_or-replicate (length draft - length tree) i 0 0 (omega (arith, h))

-- a write behind leaves what stands before
pub zeros_again : (old mid w : List ℕ) (at place_ n : ℕ) → mid ≡ put_at old place_ w → at + 2 ≤ place_ → place_ + length w ≤ length old → slice_range old at (at + 2) ≡ replicate 2 0 → n ≡ 2 → slice_range mid at (at + n) ≡ replicate n 0
zeros_again old mid w at place_ n is before fits zeros two =
    let long : length mid ≡ length old = ap length is ∙ length-put_at old w place_ fits in
    let e : at + 2 - at ≡ 2 = omega arith in
    let zero_here : (i : ℕ) → i < 2 → get_or old (at + i) 0 ≡ 0 = λ i h. sym (get_or-take 2 (drop at old) i 0 h ∙ get_or-drop at old i 0) ∙ ap (λ (xs : List ℕ). get_or xs i 0) (rw e at zeros) ∙ get_or-replicate 2 i 0 0 h in
    rw two (slice_zeros mid at 2 (omega (arith, long, before, fits)) (λ i h. ap (λ (xs : List ℕ). get_or xs (at + i) 0) is ∙ byte_stays old w place_ (at + i) fits (inl (omega (arith, before, h))) ∙ zero_here i h))

pub drafts_then : (a b c : State) (given : List ℕ) (n at : ℕ) (first second : List ℕ) → Drafts a b given n first → Drafts b c (draft_in b).name (length (draft_in b).bytes) (put_at (draft_in b).bytes at second) → Drafts a c given n (put_at first at second)
drafts_then a b c given n at first second x y = record {
  begun = y.begun;
  name = y.name ∙ x.name;
  size = y.size ∙ x.size;
  bytes = λ told. y.bytes (x.tells ∙ told) ∙ ap (λ (xs : List ℕ). put_at xs at second) (x.bytes told);
  files = y.files ∙ x.files;
  tells = y.tells ∙ x.tells;
}

module _ (loads lasts : List ℕ) (opens : ℕ) (draft : List ℕ) (ps : List Pair) (key : ℤ) (level : ℕ) (b : Builds loads lasts opens draft ps) (lev : IsLevel loads key level) where
  abbrev pub load : ℕ
  load = get_or loads (node key level) 0

  abbrev pub place : ℕ
  place = place_of lasts (node key level)

  end_ : (hop : ℕ) × IsPathEnd ps key hop × (hop ≡ level + load / 32) × (length (reaching (goes key) hop ps) ≡ load % 32)
  end_ = end_level loads ps key level b.counts lev

  hop : ℕ
  hop = end_.0

  -- a bucket that has pairs and room
  open_bucket : load % 32 ≢ 0 → (number_of b.tree key hop ≢ 0) × (place ≡ numbered_place (number_of b.tree key hop))
  unfolding hop end_
  open_bucket partial =
      let some : 0 < load % 32 = positive (load % 32) partial in
      let same : level + (load - 1) / 32 ≡ hop = quotient level load hop some end_.2 in
      let len = end_.3 in (
        number_some b.tree ps key hop b.is (omega (arith, len, some)),
        b.ends key level lev.low (omega (arith, some)) ∙ ap (λ (h : ℕ). numbered_place (number_of b.tree key h)) same,
      )
    where
      positive : (n : ℕ) → n ≢ 0 → 0 < n
      positive zero s = absurd (s refl)
      positive (suc n) s = omega arith

      quotient : (l n h : ℕ) → 0 < n % 32 → h ≡ l + n / 32 → l + (n - 1) / 32 ≡ h
      quotient l n h s e = omega (arith, s, e)

  pub zeros_pair : load % 32 ≢ 0 → slice_range draft (place + 6 * (load % 32)) (place + 6 * (load % 32) + 6) ≡ replicate 6 0
  unfolding hop end_
  zeros_pair partial =
      let open_ = open_bucket partial in
      let n : ℕ = number_of b.tree key hop in
      let len = end_.3 in
      let within : bucket_place n ≤ length b.tree = (b.is.each key hop).within open_.0 in
      let some = open_.0 in
      let fits = b.fits in
      let at = open_.1 in
      slice_zeros draft (place + 6 * (load % 32)) 6 (omega (arith, at, within, fits, some))
      (λ i h.
      let x : ℕ = 6 * (load % 32) + i in
      let e : place + 6 * (load % 32) + i ≡ numbered_place n + x = omega (arith, at) in
      rw e (draft_front draft b.tree (numbered_place n + x) b.padding (omega (arith, within, some, h)) ∙ b.blank key hop open_.0 x (omega (arith, len)) (omega (arith, h))))

  pub tree_size : length b.tree ≡ bucket_place opens
  tree_size = b.is.size ∙ ap bucket_place (sym b.count)

  pub zeros_free : bucket_place (opens + 1) ≤ length draft → slice_range draft (bucket_place opens) (bucket_place opens + 195) ≡ replicate 195 0
  zeros_free room =
      let size = tree_size in
      slice_zeros draft (bucket_place opens) 195 (omega (arith, room)) (λ i h. rw (sym size) (draft_back draft b.tree i b.padding (omega (arith, size, room, h))))

  -- the path ends where a bucket is to be opened
  new_bucket : load % 32 ≡ 0 → number_of b.tree key hop ≡ 0
  unfolding hop end_
  new_bucket whole = ⊎_elim
      (λ (z : number_of b.tree key hop ≡ 0). z)
      (λ (s : number_of b.tree key hop ≢ 0). let some = (b.is.each key hop).some s in let len = end_.3 in absurd (omega (arith, some, len, whole)))
      (zero_or (number_of b.tree key hop))

  spot_is : (at : ℕ) → load % 32 ≡ 0 → (load ≡ 0 → at ≡ 2 * node key level) → (load ≢ 0 → at ≡ place + 192) → at ≡ spot_of b.tree key hop
  unfolding hop end_
  spot_is at whole first next = ⊎_elim
      (λ (z : load ≡ 0).
      let e : hop ≡ level = let is = end_.2 in omega (arith, z, is) in
      first z ∙ sym (subst (λ (h : ℕ). spot_of b.tree key h ≡ 2 * node key level) (sym e) (node_spot b.tree key level lev.low)))
      (λ (s : load ≢ 0).
      let low = lev.low in
      let deep : 4 ≤ level = ⊎_elim (λ (x : 4 ≤ level). x) (λ (x : level < 4). let room = lev.room x in absurd (s (omega (arith, room, whole)))) (order 4 level) in
      let is = end_.2 in
      let some : 0 < load = positive load s in
      let last : ℕ = level + (load - 1) / 32 in
      let e : hop ≡ suc last = omega (arith, is, whole, some) in
      next s ∙ ap (λ (n : ℕ). n + 192) (b.ends key level low some)
      ∙ sym (subst (λ (h : ℕ). spot_of b.tree key h ≡ numbered_place (number_of b.tree key last) + 192) (sym e) (spot_chain b.tree key last (omega (arith, deep)))))
      (zero_or load)
    where
      positive : (n : ℕ) → n ≢ 0 → 0 < n
      positive zero s = absurd (s refl)
      positive (suc n) s = omega arith

  spot_zero : number_of b.tree key hop ≡ 0 → u16_at b.tree (spot_of b.tree key hop) ≡ 0
  unfolding hop end_
  spot_zero none = at_hop hop end_.1.full none
    where
      at_hop : (h : ℕ) → Full key ps h → number_of b.tree key h ≡ 0 → u16_at b.tree (spot_of b.tree key h) ≡ 0
      at_hop zero full z = z
      at_hop (suc h) full z = let much = full h (omega arith) in sym (number_spot b.tree key h (number_some b.tree ps key h b.is (omega (arith, much)))) ∙ z

  pub zeros_spot : (at : ℕ) → load % 32 ≡ 0 → (load ≡ 0 → at ≡ 2 * node key level) → (load ≢ 0 → at ≡ place + 192) → at + 2 ≤ bucket_place opens → slice_range draft at (at + 2) ≡ replicate 2 0
  zeros_spot at whole first next fits =
      let size = tree_size in
      let room = b.fits in
      let zero_at : u16_at b.tree at ≡ 0 = rw (spot_is at whole first next) (spot_zero (new_bucket whole)) in
      slice_zeros draft at 2 (omega (arith, fits, size, room)) (λ i h. draft_front draft b.tree (at + i) b.padding (omega (arith, fits, size, h)) ∙ two_zeros b.tree at zero_at i h)

  -- one pair more in a bucket
  pub builds_pair : (slot : ℕ) (w : List ℕ) (new : List ℕ) → load % 32 ≢ 0 → length ps ≡ slot → slot < 32768 → SlotsRise (ps ++ record { key = key; slot = slot } ∷ []) → IsPairBytes w (record { key = key; slot = slot }) → new ≡ put_at draft (place + 6 * (load % 32)) w →
      Builds (set loads (node key level) (load + 1)) lasts opens new (ps ++ record { key = key; slot = slot } ∷ [])
  unfolding hop end_
  builds_pair slot w new partial many few rises_more pair new_is =
      let q : Pair = record { key = key; slot = slot } in
      let open_ = open_bucket partial in
      let some = open_.0 in
      let n : ℕ = number_of b.tree key hop in
      let len = end_.3 in
      let at : ℕ = numbered_place n + 6 * length (reaching (goes key) hop ps) in
      let tree_ : List ℕ = put_at b.tree at w in
      let within : bucket_place n ≤ length b.tree = (b.is.each key hop).within some in
      let long : length w ≡ 6 = pair.long in
      let room = end_.1.room in
      let here : place + 6 * (load % 32) ≡ at = let p = open_.1 in omega (arith, p, len) in
      let size : length tree_ ≡ length b.tree = length-put_at b.tree w at (omega (arith, long, within, some, room)) in
      let fits = b.fits in
      let whole : new ≡ padded (length draft) tree_ = new_is ∙ ap (λ (p : ℕ). put_at draft p w) here ∙ ap (λ (xs : List ℕ). put_at xs at w) b.padding ∙ put_in_front (length draft) at b.tree w (omega (arith, long, within, some, room)) in
      let all : length new ≡ length draft = ap length new_is ∙ length-put_at draft w (place + 6 * (load % 32)) (omega (arith, here, long, within, some, room, fits)) in
      let grown = pair_put b.tree w ps q hop b.is b.rises (omega (arith, many, few)) end_.1 some pair in
      record {
        tree = tree_;
        is = grown.tree;
        rises = rises_more;
        blank = blank_pair b.tree w ps q hop b.is b.rises b.blank end_.1 some pair;
        counts = counts_more loads ps q level b.counts lev;
        long = b.long;
        ends = ends_pair loads lasts b.tree tree_ ps q level b.is b.counts b.ends lev partial grown.keeps;
        count = b.count ∙ sym (buckets_more ps q hop end_.1 ∙ none_opened (buckets (pair_keys ps)) (length (reaching (goes key) hop ps)) (load % 32) len partial);
        fits = omega (arith, size, all, fits);
        padding = rw all whole;
      }
    where
      none_opened : (m l o : ℕ) → l ≡ o → o ≢ 0 → m + opened_bucket l ≡ m
      none_opened m zero o e s = absurd (s (sym e))
      none_opened m (suc l) o e s = omega arith

  -- one bucket more
  pub builds_bucket : (slot at : ℕ) (w two_ : List ℕ) (new : List ℕ) → load % 32 ≡ 0 → (load ≡ 0 → at ≡ 2 * node key level) → (load ≢ 0 → at ≡ place + 192) → at + 3 ≤ bucket_place opens → length ps ≡ slot → slot < 32768 → bucket_place (opens + 1) ≤ length draft →
      SlotsRise (ps ++ record { key = key; slot = slot } ∷ []) → IsFirstBucket w (record { key = key; slot = slot }) → length two_ ≡ 2 → u16_at two_ 0 ≡ opens + 1 → new ≡ put_at (put_at draft (bucket_place opens) w) at two_ →
      Builds (set loads (node key level) (load + 1)) (set lasts (node key level) opens) (opens + 1) new (ps ++ record { key = key; slot = slot } ∷ [])
  unfolding hop end_
  builds_bucket slot at w two_ new whole first next low many few room rises_more is_first two_long number new_is =
      let q : Pair = record { key = key; slot = slot } in
      let size = tree_size in
      let none = new_bucket whole in
      let spot : at ≡ spot_of b.tree key hop = spot_is at whole first next in
      let wide : length w ≡ 195 = is_first.long in
      let mid : List ℕ = b.tree ++ w in
      let sum : length mid ≡ length b.tree + length w = length-append b.tree w in
      let tree_ : List ℕ = put_at mid (spot_of b.tree key hop) two_ in
      let place_is : numbered_place (opens + 1) ≡ length b.tree = sym (size ∙ ap bucket_place (sym (one_less opens))) in
      let some : opens + 1 ≢ 0 = λ z. omega (arith, z) in
      let a = appends b.tree w two_ ps q hop (opens + 1) b.is b.rises end_.1 none is_first (rw (sym spot) (omega (arith, low, size))) two_long number some place_is in
      let grown = bucket_put b.tree tree_ ps q hop (opens + 1) a (omega (arith, many, few)) end_.1 in
      let first_write : put_at draft (bucket_place opens) w ≡ padded (length draft) mid = ap (λ (xs : List ℕ). put_at xs (bucket_place opens) w) b.padding ∙ ap (λ (p : ℕ). put_at (padded (length draft) b.tree) p w) (sym size) ∙ put_behind (length draft) b.tree w (omega (arith, wide, size, room)) in
      let both : new ≡ padded (length draft) tree_ = new_is ∙ ap (λ (xs : List ℕ). put_at xs at two_) first_write ∙ put_in_front (length draft) at mid two_ (omega (arith, sum, two_long, low, size)) ∙ ap (λ (p : ℕ). padded (length draft) (put_at mid p two_)) spot in
      let one : length (put_at draft (bucket_place opens) w) ≡ length draft = length-put_at draft w (bucket_place opens) (omega (arith, wide, room)) in
      let all : length new ≡ length draft = ap length new_is ∙ length-put_at (put_at draft (bucket_place opens) w) two_ at (omega (arith, one, two_long, low, room)) ∙ one in
      let longer : length tree_ ≡ length b.tree + 195 = a.longer in
      let len = end_.3 in
      record {
        tree = tree_;
        is = grown.tree;
        rises = rises_more;
        blank = blank_bucket b.tree tree_ ps q hop (opens + 1) a b.blank;
        counts = counts_more loads ps q level b.counts lev;
        long = length-set lasts (node key level) opens ∙ b.long;
        ends = subst (λ (p : ℕ). AreLast (set loads (node key level) (load + 1)) (set lasts (node key level) p) tree_) (one_less opens) (ends_bucket loads lasts b.tree tree_ ps q level hop (opens + 1) b.is b.counts b.long b.ends lev end_.2 a);
        count = ap (λ (n : ℕ). n + 1) b.count ∙ sym (buckets_more ps q hop end_.1 ∙ one_opened (buckets (pair_keys ps)) (length (reaching (goes key) hop ps)) (len ∙ whole));
        fits = omega (arith, longer, size, room, all);
        padding = rw all both;
      }
    where
      one_less : (n : ℕ) → n + 1 - 1 ≡ n
      one_less n = omega arith

      one_opened : (m l : ℕ) → l ≡ 0 → m + opened_bucket l ≡ m + 1
      one_opened m zero e = refl
      one_opened m (suc l) e = absurd (omega (arith, e))

  -- there is one bucket more to come
  pub one_more : (slot : ℕ) → load % 32 ≡ 0 → buckets (pair_keys (ps ++ record { key = key; slot = slot } ∷ [])) ≡ opens + 1
  unfolding hop end_
  one_more slot whole = buckets_more ps (record { key = key; slot = slot }) hop end_.1 ∙ one_opened_ (buckets (pair_keys ps)) (length (reaching (goes key) hop ps)) (end_.3 ∙ whole) ∙ ap (λ (n : ℕ). n + 1) (sym b.count)
    where
      one_opened_ : (m l : ℕ) → l ≡ 0 → m + opened_bucket l ≡ m + 1
      one_opened_ m zero e = refl
      one_opened_ m (suc l) e = absurd (omega (arith, e))

-- ---- the first draft

empty_tree : List ℕ
empty_tree = put_at (replicate 683 0) 682 (1 ∷ [])

empty_head : (p : ℕ) → p + 2 ≤ 682 → u16_at empty_tree p ≡ 0
unfolding empty_tree
empty_head p h = u16_stays (replicate 683 0) (1 ∷ []) 682 p (omega arith) (inl h) ∙ zero_u16 683 p (omega arith)

empty_number : (key : ℤ) (h : ℕ) → number_of empty_tree key h ≡ 0
empty_number key zero = empty_head 0 (omega arith)
empty_number key (suc zero) = let s = node_small key 1 (omega arith) in empty_head (2 * node key 1) (omega (arith, s))
empty_number key (suc (suc zero)) = let s = node_small key 2 (omega arith) in empty_head (2 * node key 2) (omega (arith, s))
empty_number key (suc (suc (suc zero))) = let s = node_small key 3 (omega arith) in empty_head (2 * node key 3) (omega (arith, s))
empty_number key (suc (suc (suc (suc zero)))) = let s = node_small key 4 (omega arith) in empty_head (2 * node key 4) (omega (arith, s))
empty_number key (suc (suc (suc (suc (suc h))))) = ap (next_number empty_tree key (suc (suc (suc (suc h))))) (empty_number key (suc (suc (suc (suc h)))))

empty_size : length empty_tree ≡ 683
unfolding empty_tree
empty_size = length-put_at (replicate 683 0) (1 ∷ []) 682 (omega arith)

mark_of_empty : slice_index empty_tree 682 ≡ 1
unfolding empty_tree
mark_of_empty = put_here (replicate 683 0) (1 ∷ []) 682 0 1 (omega arith) (omega arith) 0 (omega arith)

empty_is : IsTree empty_tree []
empty_is = record {
  few = omega arith;
  size = empty_size;
  mark = mark_of_empty;
  each = λ key h. record { none = λ z. reach_none key h; some = λ s. absurd (s (empty_number key h)); within = λ s. absurd (s (empty_number key h)); holds = λ s. absurd (s (empty_number key h)) };
  upper = λ key h low s. absurd (s (empty_number key h));
}

empty_is_put : put_at (replicate 683 0) 682 (1 ∷ []) ≡ empty_tree
unfolding empty_tree
empty_is_put = refl

pub builds_none : (new old : List ℕ) (n : ℕ) → old ≡ replicate n 0 → 683 ≤ n → new ≡ put_at old 682 (1 ∷ []) → Builds (replicate 341 0) (replicate 341 0) 0 new []
builds_none new old n is room put =
    let len : length new ≡ n = ap length put ∙ length-put_at old (1 ∷ []) 682 (omega (arith, ap length is ∙ length-replicate {A = ℕ} n 0, room)) ∙ ap length is ∙ length-replicate {A = ℕ} n 0 in
    let size = empty_size in
    record {
      tree = empty_tree;
      is = empty_is;
      rises = tt;
      blank = λ key h s. absurd (s (empty_number key h));
      counts = counts_none;
      long = refl;
      ends = λ key l low some. let few = zeros_few (node key l) 0 in absurd (omega (arith, few, some));
      count = refl;
      fits = omega (arith, size, len, room);
      padding = put ∙ ap (λ (xs : List ℕ). put_at xs 682 (1 ∷ [])) (is ∙ zeros_padded n room) ∙ front n room ∙ ap (λ (m : ℕ). padded m empty_tree) (sym len);
    }
  where
    zeros_padded : (m : ℕ) → 683 ≤ m → replicate m 0 ≡ padded m (replicate 683 0)
    zeros_padded m h = let e : 683 + (m - 683) ≡ m = omega (arith, h) in sym (replicate-append-replicate 683 (m - 683) 0 ∙ ap (λ (k : ℕ). replicate k 0) e)

    front : (m : ℕ) → 683 ≤ m → put_at (padded m (replicate 683 0)) 682 (1 ∷ []) ≡ padded m empty_tree
    front m h = put_in_front m 682 (replicate 683 0) (1 ∷ []) (omega arith) ∙ ap (padded m) empty_is_put

-- buckets never get fewer
pub buckets_rise : (f : ℕ → ℤ) (m d : ℕ) → buckets (pair_keys (pairs_of f m)) ≤ buckets (pair_keys (pairs_of f (m + d)))
buckets_rise f m zero = let e : m + 0 ≡ m = omega arith in rw e (omega arith)
buckets_rise f m (suc d) =
    let before = buckets_rise f m d in
    let e : m + suc d ≡ m + d + 1 = omega arith in
    let end = end_there (f (m + d)) (pairs_of f (m + d)) in
    let more = buckets_more (pairs_of f (m + d)) (pair_of f (m + d)) end.0 end.1 in
    rw (e, pairs_more f (m + d)) (omega (arith, before, more))

-- ---- slots in a loop

pub key_same : (old now : State) (column : KeyColumn) (slot : ℕ) → now.files ≡ old.files → key_of now column slot ≡ key_of old column slot
key_same old now column slot e = ap (λ (files : Table). number_of_width (bytes_at files column.file) (key_place column slot) column.width) e

pub pairs_next : (f : ℕ → ℤ) (slot s : ℕ) (k : ℤ) → k ≡ f slot → s ≡ slot → pairs_of f slot ++ record { key = k; slot = s } ∷ [] ≡ pairs_of f (slot + 1)
pairs_next f slot s k is e = ap (λ (p : Pair). pairs_of f slot ++ p ∷ []) (ap (λ (z : ℤ). record { key = z; slot = s }) is ∙ ap (λ (n : ℕ). record { key = f slot; slot = n }) e) ∙ sym (pairs_more f slot)

pub next_fits : (f : ℕ → ℤ) (slot s slots most : ℕ) (k : ℤ) → k ≡ f slot → s ≡ slot → slot < slots → most ≡ buckets (pair_keys (pairs_of f slots)) → buckets (pair_keys (pairs_of f slot ++ record { key = k; slot = s } ∷ [])) ≤ most
next_fits f slot s slots most k is e h all =
    let up = buckets_rise f (slot + 1) (slots - (slot + 1)) in
    let last : slot + 1 + (slots - (slot + 1)) ≡ slots = omega (arith, h) in
    rw (pairs_next f slot s k is e, all) (rw last at up)

pub rises_next : (f : ℕ → ℤ) (slot s : ℕ) (k : ℤ) → k ≡ f slot → s ≡ slot → SlotsRise (pairs_of f slot ++ record { key = k; slot = s } ∷ [])
rises_next f slot s k is e = rw (pairs_next f slot s k is e) (rises_map (pair_of f) 0 (slot + 1) (λ i j a b c. b))

pub length_pairs : (f : ℕ → ℤ) (slot : ℕ) → length (pairs_of f slot) ≡ slot
length_pairs f slot = length-map-range_with_len (pair_of f) 0 slot

pub only_then : (a b c : State) → HasOtherDraft a b → HasOtherDraft b c → HasOtherDraft a c
only_then a b c x y = (
  y.0,
  record {
    begun = y.1.begun;
    name = y.1.name ∙ x.1.name;
    size = y.1.size ∙ x.1.size;
    bytes = λ told. y.1.bytes (x.1.tells ∙ told);
    files = y.1.files ∙ x.1.files;
    tells = y.1.tells ∙ x.1.tells;
  },
)

-- a tree with no room behind it is the whole draft
pub builds_all : (loads lasts : List ℕ) (opens : ℕ) (draft : List ℕ) (ps : List Pair) (most : ℕ) → Builds loads lasts opens draft ps → most ≡ buckets (pair_keys ps) → length draft ≡ bucket_place most → IsTree draft ps
builds_all loads lasts opens draft ps most b is long =
    let same : length b.tree ≡ length draft = b.is.size ∙ ap bucket_place (sym is) ∙ sym long in
    subst (λ (xs : List ℕ). IsTree xs ps) (sym (b.padding ∙ padded_all (length draft) b.tree same)) b.is
