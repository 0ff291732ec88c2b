-- A draft that will have a tree in front, takes one pair more.
use Rattle.std.proofs.Common.{◌≡◌, ◌≢◌, ◌≤◌, ◌<◌, ◌+◌, ◌*◌, ◌-◌, ◌/◌, ◌%◌, ℕ, ℤ, pos, zero, suc, List, [], ◌∷◌, ◌++◌, length, drop, get_or, replicate, refl, arith, ap, ◌∙◌, sym, ◌⊎◌, inl, inr, ⊎_elim, subst}
use Rattle.std.specs.Prelude.{IsSome, slice_range}
use Rattle.std.proofs.lemmas.List.{ext_get_or, get_or-append-add, get_or_append_left, get_or-replicate, get_or-set_other, get_or-set_same, length-append, length-drop, length-replicate, length-take-le}
use Rattle.afl_base.specs.Fields.{i32_at, put_at, u16_at}
use Rattle.afl_base.specs.Files.{State, draft_in}
use Rattle.afl_base.proofs.FieldLaws.{length-put_at}
use Rattle.afl_base.proofs.PutLaws.{put_at-put_at, put_at_here}
use Rattle.db_model.specs.HashTree.{node}
use Rattle.index_tree.specs.Buckets.{IsFirstBucket, IsPairBytes}
use Rattle.index_tree.specs.Loads.{IsLevel}
use Rattle.index_tree.specs.Pairs.{Pair, pair}
use Rattle.index_tree.specs.Places.{SlotsRise}
use Rattle.index_tree.specs.TreeFile.{bucket_place}
use Rattle.index_tree.proofs.Added.{same_or, zero_or}
use Rattle.index_tree.proofs.Frames.{append_before, append_here, i32_same, part_same, u16_same}
use Rattle.index_tree.proofs.Inserted.{zero_i32, zero_u16}
use Rattle.index_tree.proofs.Loaded.{zeros_few}
use Rattle.index_tree.proofs.Shared.{order}
use Rattle.index_tree.proofs.Spots.{byte_stays, node_small}
use Rattle.index_maxheap.specs.Builds.{Awaits, Builds, Gathers, HasOtherDraft, HasZeros, IsOneMore, IsSafeBuild, NodesAwait, TakesIn, group_place, place_of, waiting, with_bucket, with_pair}
use Rattle.index_maxheap.specs.declared.groups.Nodes.{Nodes}
use Rattle.index_maxheap.proofs.Awaited.{IsClear, OthersWait, await_both, await_none, await_pair, await_write, free_under, put_or, zero_in, zeros_under}
use Rattle.index_maxheap.proofs.Built.{builds_bucket, builds_pair, slice_zeros, zeros_free, zeros_pair}

pub only_same : (a : State) → IsSome a.draft → HasOtherDraft a a
only_same a begun = ((draft_in a).bytes, record { begun = begun; name = refl; size = refl; bytes = λ told. refl; files = refl; tells = refl })

-- ---- a bucket of one pair

-- what stands behind the pair
abbrev back : List ℕ
back = replicate 188 0 ++ 1 ∷ []

abbrev one_pair : List ℕ → List ℕ
one_pair six = six ++ back

back_zero : (i : ℕ) → i < 188 → get_or back i 0 ≡ 0
back_zero i h = let zeros : length (replicate {A = ℕ} 188 0) ≡ 188 = length-replicate {A = ℕ} 188 0 in get_or_append_left (replicate 188 0) (1 ∷ []) 0 i (omega (arith, h, zeros)) ∙ get_or-replicate 188 i 0 0 h

one_pair_is : (six : List ℕ) (q : Pair) → IsPairBytes six q → IsFirstBucket (one_pair six) q
one_pair_is six q is = record {
  long = long;
  holds = record {
    slot = λ i h k. let z : i ≡ 0 = omega (arith, k) in rw z slot_0;
    key = λ i h k. let z : i ≡ 0 = omega (arith, k) in rw z key_0;
    empty = λ i h k. slots (0 + 6 * i + 4) (omega (arith, k)) (omega (arith, h));
    blank = λ i h k. keys (0 + 6 * i) (omega (arith, k)) (omega (arith, h));
    last = last;
  };
  next = slots 192 (omega arith) (omega arith);
  zeros = λ x up down. zero_at x up (omega (arith, down));
}
  where
    wide : length six ≡ 6
    wide = is.long

    long : length (one_pair six) ≡ 195
    long = length-append six back ∙ ap (λ (k : ℕ). k + length back) wide

    in_back : (i : ℕ) → get_or (one_pair six) (6 + i) 0 ≡ get_or back i 0
    in_back i = let e : 6 + 0 + i ≡ 6 + i = omega arith in let z : 0 + i ≡ i = omega arith in sym (ap (λ (j : ℕ). get_or (one_pair six) j 0) e) ∙ append_here six back 6 0 (i + 1) (sym wide) i (omega arith) ∙ ap (λ (j : ℕ). get_or back j 0) z

    zero_at : (x : ℕ) → 6 ≤ x → x < 194 → get_or (one_pair six) x 0 ≡ 0
    zero_at x up down =
        let i : ℕ = x - 6 in
        let e : x ≡ 6 + i = omega (arith, up) in
        ap (λ (j : ℕ). get_or (one_pair six) j 0) e ∙ in_back i ∙ back_zero i (omega (arith, down, up))

    last : get_or (one_pair six) 194 0 ≡ 1
    last = in_back 188

    slots : (p : ℕ) → 6 ≤ p → p + 2 ≤ 194 → u16_at (one_pair six) p ≡ 0
    slots p up down = u16_same (one_pair six) (replicate 195 0) p p (λ i h. zero_at (p + i) (omega (arith, up)) (omega (arith, down, h)) ∙ sym (get_or-replicate {A = ℕ} 195 (p + i) 0 0 (omega (arith, down, h)))) ∙ zero_u16 195 p (omega (arith, down))

    keys : (p : ℕ) → 6 ≤ p → p + 4 ≤ 194 → i32_at (one_pair six) p ≡ pos 0
    keys p up down = i32_same (one_pair six) (replicate 195 0) p p (λ i h. zero_at (p + i) (omega (arith, up)) (omega (arith, down, h)) ∙ sym (get_or-replicate {A = ℕ} 195 (p + i) 0 0 (omega (arith, down, h)))) ∙ zero_i32 195 p (omega (arith, down))

    slot_0 : u16_at (one_pair six) 4 ≡ q.slot + 1
    slot_0 = u16_same (one_pair six) six 4 4 (append_before six back 4 2 (omega (arith, wide))) ∙ is.slot

    key_0 : i32_at (one_pair six) 0 ≡ q.key
    key_0 = i32_same (one_pair six) six 0 0 (append_before six back 0 4 (omega (arith, wide))) ∙ is.key

-- zeros where zeros are
put_zeros : (xs : List ℕ) (at n : ℕ) → at + n ≤ length xs → ((i : ℕ) → i < n → get_or xs (at + i) 0 ≡ 0) → put_at xs at (replicate n 0) ≡ xs
put_zeros xs at n fits zeros =
    let long = length-replicate {A = ℕ} n 0 in
    let fits_ : at + length (replicate {A = ℕ} n 0) ≤ length xs = omega (arith, fits, long) in
    ext_get_or 0 (put_at xs at (replicate n 0)) xs (length-put_at xs (replicate n 0) at fits_) (λ i h. ⊎_elim
    (λ (w : (j : ℕ) × (j < length (replicate {A = ℕ} n 0)) × (i ≡ at + j) × (get_or (put_at xs at (replicate n 0)) i 0 ≡ get_or (replicate n 0) j 0)).
    let j = w.0 in
    let inside : j < n = let h = w.1 in omega (arith, h, long) in
    w.3 ∙ get_or-replicate n j 0 0 inside ∙ sym (zeros j inside) ∙ ap (λ (k : ℕ). get_or xs k 0) (sym w.2))
    (λ (w : ((i + 1 ≤ at) ⊎ (at + length (replicate {A = ℕ} n 0) ≤ i)) × (get_or (put_at xs at (replicate n 0)) i 0 ≡ get_or xs i 0)). w.1)
    (put_or xs (replicate n 0) at i fits_))

-- a pair and the last byte are a bucket of it, where zeros are between them
one_pair_put : (xs six : List ℕ) (at : ℕ) → length six ≡ 6 → at + 195 ≤ length xs → HasZeros xs at 195 → put_at (put_at xs at six) (at + 194) (1 ∷ []) ≡ put_at xs at (one_pair six)
one_pair_put xs six at wide fits zeros =
    let mid : List ℕ = put_at xs at six in
    let long : length mid ≡ length xs = length-put_at xs six at (omega (arith, wide, fits)) in
    let between : put_at mid (at + 6) (replicate 188 0) ≡ mid = put_zeros mid (at + 6) 188 (omega (arith, long, fits)) (λ i h. let e : at + 6 + i ≡ at + (6 + i) = omega arith in byte_stays xs six at (at + 6 + i) (omega (arith, wide, fits)) (inr (omega (arith, wide))) ∙ ap (λ (j : ℕ). get_or xs j 0) e ∙ zero_in xs at 195 (6 + i) zeros (omega (arith, h))) in
    let next : at + 194 ≡ at + 6 + length (replicate {A = ℕ} 188 0) = omega (arith, length-replicate {A = ℕ} 188 0) in
    ap (λ (ys : List ℕ). put_at ys (at + 194) (1 ∷ [])) (sym between)
    ∙ put_at-put_at mid (replicate 188 0) (1 ∷ []) (at + 6) (at + 194) next (omega (arith, long, fits))
    ∙ put_at-put_at xs six back at (at + 6) (omega (arith, wide)) (omega (arith, fits))

-- ---- a whole group

-- three pairs that wait
pub part_long : (groups : List ℕ) (n : ℕ) → length groups ≡ 6138 → n < 341 → length (slice_range groups (18 * n) (18 * n + 18)) ≡ 18
part_long groups n long among = let e : 18 * n + 18 - 18 * n ≡ 18 = omega arith in rw e (length-take-le 18 (drop (18 * n) groups) (omega (arith, length-drop (18 * n) groups, long, among)))

-- and the last one behind them
pub group_put : (front six : List ℕ) → length front ≡ 18 → length six ≡ 6 → put_at (put_at (replicate 24 0) 0 front) 18 six ≡ front ++ six
group_put front six long wide =
    let zeros = length-replicate {A = ℕ} 24 0 in
    let sum = length-append front six in
    let fits : 0 + length (front ++ six) ≤ length (replicate {A = ℕ} 24 0) = omega (arith, sum, long, wide, zeros) in
    put_at-put_at (replicate 24 0) front six 0 18 (omega (arith, long)) (omega (arith, zeros))
    ∙ ext_get_or 0 (put_at (replicate 24 0) 0 (front ++ six)) (front ++ six) (length-put_at (replicate 24 0) (front ++ six) 0 fits ∙ zeros ∙ sym (sum ∙ omega (arith, long, wide)))
    (λ i h. let e : 0 + i ≡ i = omega arith in
    let all = length-put_at (replicate 24 0) (front ++ six) 0 fits in
    ap (λ (k : ℕ). get_or (put_at (replicate 24 0) 0 (front ++ six)) k 0) (sym e) ∙ put_at_here (replicate 24 0) (front ++ six) 0 i fits (omega (arith, h, all, zeros, sum, long, wide)))

-- ---- nodes

few_wait : (nodes : Nodes) (m : ℕ) → waiting nodes m < 4
few_wait nodes m = omega arith

positive : (k : ℕ) → k ≢ 0 → 0 < k
positive zero s = absurd (s refl)
positive (suc k) s = omega arith

pub place_inside : (nodes : Nodes) (most slot m : ℕ) → IsSafeBuild nodes most slot → get_or nodes.loads m 0 ≢ 0 → place_of nodes.lasts m + 195 ≤ bucket_place nodes.opened
place_inside nodes most slot m safe some = let i = safe.inside m (positive (get_or nodes.loads m 0) some) in omega (arith, i)

-- last buckets of which one has other ones before it, do not meet
beside : (a b : ℕ) → a ≢ b → (bucket_place a + 195 ≤ bucket_place b) ⊎ (bucket_place b + 195 ≤ bucket_place a)
beside a b d = ⊎_elim
    (λ (up : a ≤ b). ⊎_elim (λ (x : b ≤ a). absurd (d (omega (arith, x, up)))) (λ (x : a < b). inl (omega (arith, x))) (order b a))
    (λ (down : b < a). inr (omega (arith, down)))
    (order a b)

-- what waits of other nodes is not in the last bucket of a node
clear_of : (nodes : Nodes) (most slot n p k : ℕ) → IsSafeBuild nodes most slot → 0 < get_or nodes.loads n 0 → place_of nodes.lasts n ≤ p → p + k ≤ place_of nodes.lasts n + 195 → IsClear (group_place nodes) (waiting nodes) n p k
clear_of nodes most slot n p k safe some low high m among d wait = ⊎_elim
    (λ (y : place_of nodes.lasts m + 195 ≤ place_of nodes.lasts n). inl (omega (arith, y, low)))
    (λ (y : place_of nodes.lasts n + 195 ≤ place_of nodes.lasts m). inr (omega (arith, y, high)))
    (beside (get_or nodes.lasts m 0) (get_or nodes.lasts n 0) (safe.apart m n d (omega (arith, wait)) some))

module _ (old : Nodes) (draft : List ℕ) (ps : List Pair) (key : ℤ) (level most slot : ℕ) (g : Gathers old draft ps) (safe : IsSafeBuild old most slot) (lev : IsLevel old.loads key level)
    (size : length draft ≡ bucket_place most) (long : length old.groups ≡ 6138) where
  abbrev n : ℕ
  n = node key level

  abbrev load : ℕ
  load = get_or old.loads n 0

  abbrev place : ℕ
  place = place_of old.lasts n

  among : n < 341
  among = let small = node_small key level lev.low in omega (arith, small)

  size_full : length g.full ≡ bucket_place most
  size_full = sym g.awaits.size ∙ size

  inside : load % 32 ≢ 0 → place + 195 ≤ bucket_place most
  inside partial = let i = safe.inside n (omega (arith, positive (load % 32) partial)) in let u = safe.under in omega (arith, i, u)

  zeros_next : load % 32 ≢ 0 → HasZeros g.full (place + 6 * (load % 32)) 6
  zeros_next partial = zeros_pair old.loads old.lasts old.opened g.full ps key level g.builds lev partial

  -- a whole group is to be written where zeros are
  pub zeros_group : load % 32 ≢ 0 → load % 4 ≡ 3 → HasZeros draft (place + 24 * (load % 32 / 4)) 24
  zeros_group partial whole = slice_zeros draft (group_place old n) 24 (omega (arith, size, inside partial)) (λ i h. ⊎_elim
      (λ (new : 18 ≤ i).
      let j : ℕ = i - 18 in
      let e : group_place old n + i ≡ place + 6 * (load % 32) + j = omega (arith, whole, new) in
      free_under 0 (group_place old) (waiting old) old.groups draft g.full (group_place old n + i) g.awaits (ap (λ (k : ℕ). get_or g.full k 0) e ∙ zero_in g.full (place + 6 * (load % 32)) 6 j (zeros_next partial) (omega (arith, new, h))))
      (λ (waits : i < 18). g.awaits.free (group_place old n + i) (record { node = n; later = omega arith; among = among; behind = omega arith; before = omega (arith, whole, waits) }))
      (order 18 i))

  -- and what opens a bucket
  pub zeros_last : old.opened < most → HasZeros draft (bucket_place old.opened + 194) 1
  zeros_last less =
      let free = zeros_free old.loads old.lasts old.opened g.full ps key level g.builds lev (omega (arith, size_full, less)) in
      zeros_under 0 (group_place old) (waiting old) old.groups draft g.full (bucket_place old.opened + 194) 1 g.awaits (omega (arith, size, less))
      (slice_zeros g.full (bucket_place old.opened + 194) 1 (omega (arith, size_full, less)) (λ i h. let e : bucket_place old.opened + 194 + i ≡ bucket_place old.opened + (194 + i) = omega arith in ap (λ (k : ℕ). get_or g.full k 0) e ∙ zero_in g.full (bucket_place old.opened) 195 (194 + i) free (omega (arith, h))))

  pub zeros_number : (at : ℕ) → at + 2 ≤ bucket_place old.opened → HasZeros g.full at 2 → HasZeros draft at 2
  zeros_number at fits zeros = let u = safe.under in zeros_under 0 (group_place old) (waiting old) old.groups draft g.full at 2 g.awaits (omega (arith, size, fits, u)) zeros

  -- ---- one pair more

  module _ (new : Nodes) (six : List ℕ) (six_is : IsPairBytes six (pair key slot)) (t : IsOneMore old new n) (partial : load % 32 ≢ 0) (many : length ps ≡ slot) (few : slot < 32768) (rises : SlotsRise (with_pair ps key slot)) where
    wide : length six ≡ 6
    wide = six_is.long

    loads_here : get_or new.loads n 0 ≡ load + 1
    loads_here = ap (λ (xs : List ℕ). get_or xs n 0) t.loads ∙ get_or-set_same old.loads n (load + 1) 0 (let l = g.builds.counts.long in omega (arith, l, among))

    loads_other : (m : ℕ) → m ≢ n → get_or new.loads m 0 ≡ get_or old.loads m 0
    loads_other m d = ap (λ (xs : List ℕ). get_or xs m 0) t.loads ∙ get_or-set_other old.loads n m (load + 1) 0 d

    places_same : (m : ℕ) → place_of new.lasts m ≡ place_of old.lasts m
    places_same m = ap (λ (xs : List ℕ). place_of xs m) t.lasts

    others : OthersWait (group_place old) (group_place new) (waiting old) (waiting new) n
    others m d =
        let l = loads_other m d in
        let p = places_same m in
        (ap (λ (k : ℕ). k + 24 * (get_or new.loads m 0 % 32 / 4)) p ∙ ap (λ (k : ℕ). place_of old.lasts m + 24 * (k % 32 / 4)) l, ap (λ (k : ℕ). k % 4) l)

    abbrev at : ℕ
    at = place + 6 * (load % 32)

    full_ : List ℕ
    full_ = put_at g.full at six

    fits_full : at + 6 ≤ length g.full
    fits_full = omega (arith, size_full, inside partial)

    builds : Builds new.loads new.lasts new.opened full_ (with_pair ps key slot)
    unfolding full_
    builds = rw (t.loads, t.lasts, t.opened) (builds_pair old.loads old.lasts old.opened g.full ps key level g.builds lev slot six full_ partial many few rises six_is refl)

    -- it waits
    pub gathers_pair : load % 4 ≢ 3 → new.groups ≡ put_at old.groups (18 * n + 6 * waiting old n) six → Gathers new draft (with_pair ps key slot)
    unfolding full_
    gathers_pair room groups_are =
        let p : place_of new.lasts n ≡ place = places_same n in
        let l = loads_here in
        let same : group_place new n ≡ group_place old n = omega (arith, p, l, room) in
        let there : group_place new n + 6 * waiting old n ≡ at = omega (arith, same) in
        let waits = await_pair (group_place old) (group_place new) (waiting old) (waiting new) old.groups draft g.full six n g.awaits among (few_wait old) (fewer load room) long wide (λ s. same) (omega (arith, l, room)) others (omega (arith, there, fits_full)) (rw there (zeros_next partial)) (rw there (clear_of old most slot n at 6 safe (omega (arith, positive (load % 32) partial)) (omega arith) (omega arith))) in
        record {
          full = full_;
          awaits = subst (λ (gs : List ℕ). Awaits 0 (group_place new) (waiting new) gs draft full_) (sym groups_are) (rw there at waits);
          builds = builds;
        }
      where
        fewer : (k : ℕ) → k % 4 ≢ 3 → k % 4 < 3
        fewer k d = ⊎_elim (λ (x : 3 ≤ k % 4). absurd (d (omega (arith, x)))) (λ (x : k % 4 < 3). x) (order 3 (k % 4))

    abbrev front : List ℕ
    front = slice_range old.groups (18 * n) (18 * n + 18)

    long_front : length front ≡ 18
    long_front = part_long old.groups n long among

    front_byte : (i : ℕ) → i < 18 → get_or (front ++ six) i 0 ≡ get_or old.groups (18 * n + i) 0
    front_byte i h =
        let e : 18 * n + 0 + i ≡ 18 * n + i = omega arith in
        let z : 0 + i ≡ i = omega arith in
        get_or_append_left front six 0 i (omega (arith, h, long_front)) ∙ ap (λ (k : ℕ). get_or front k 0) (sym z)
        ∙ part_same old.groups front (18 * n) (18 * n + 18) 0 18 refl (omega arith) i h ∙ ap (λ (k : ℕ). get_or old.groups k 0) e

    last_byte : (j : ℕ) → get_or (front ++ six) (18 + j) 0 ≡ get_or six j 0
    last_byte j = ap (λ (k : ℕ). get_or (front ++ six) (k + j) 0) (sym long_front) ∙ get_or-append-add front six j 0

    long_group : length (front ++ six) ≡ 24
    long_group = length-append front six ∙ omega (arith, long_front, wide)

    written : load % 4 ≡ 3 → (i : ℕ) → i < length (front ++ six) → get_or full_ (group_place old n + i) 0 ≡ get_or (front ++ six) i 0
    unfolding full_
    written whole i h =
        let h_ : i < 24 = omega (arith, h, long_group) in
        ⊎_elim
        (λ (last : 18 ≤ i).
        let j : ℕ = i - 18 in
        let e : group_place old n + i ≡ at + j = omega (arith, whole, last) in
        let f : 18 + j ≡ i = omega (arith, last) in
        ap (λ (k : ℕ). get_or (put_at g.full at six) k 0) e
        ∙ put_at_here g.full six at j (omega (arith, wide, fits_full)) (omega (arith, wide, last, h_))
        ∙ sym (last_byte j)
        ∙ ap (λ (k : ℕ). get_or (front ++ six) k 0) f)
        (λ (waits : i < 18). byte_stays g.full six at (group_place old n + i) (omega (arith, wide, fits_full)) (inl (omega (arith, waits, whole)))
        ∙ g.awaits.held n i (omega arith) among (omega (arith, waits, whole))
        ∙ sym (front_byte i waits))
        (order 18 i)

    -- the group is whole, and is written
    pub gathers_group : load % 4 ≡ 3 → new.groups ≡ old.groups → Gathers new (put_at draft (place + 24 * (load % 32 / 4)) (front ++ six)) (with_pair ps key slot)
    unfolding full_
    gathers_group whole groups_are =
        let l = loads_here in
        let wide_ = long_group in
        let awaits = await_write 0 0 (group_place old) (group_place new) (waiting old) (waiting new) old.groups draft g.full full_ (front ++ six) n g.awaits among (λ z. omega (arith, l, whole)) others (λ m d. (λ z. z, λ z. z))
        (omega (arith, wide_, size_full, inside partial)) (omega (arith, wide_, whole)) (clear_of old most slot n (group_place old n) (length (front ++ six)) safe (omega (arith, positive (load % 32) partial)) (omega arith) (omega (arith, wide_)))
        (length-put_at g.full six at (omega (arith, wide, fits_full))) (written whole)
        (λ x out. byte_stays g.full six at x (omega (arith, wide, fits_full)) (⊎_elim (λ (y : x + 1 ≤ group_place old n). inl (omega (arith, y))) (λ (y : group_place old n + length (front ++ six) ≤ x). inr (omega (arith, y, wide, wide_, whole))) out)) in
        record {
          full = full_;
          awaits = subst (λ (gs : List ℕ). Awaits 0 (group_place new) (waiting new) gs (put_at draft (place + 24 * (load % 32 / 4)) (front ++ six)) full_) (sym groups_are) awaits;
          builds = builds;
        }

  -- ---- a bucket more

  module _ (new : Nodes) (t : TakesIn (with_bucket old n) new n (pair key slot))
      (whole : load % 32 ≡ 0) (at : ℕ) (first : load ≡ 0 → at ≡ 2 * n) (next : load ≢ 0 → at ≡ place + 192) (low : at + 3 ≤ bucket_place old.opened) (less : old.opened < most)
      (many : length ps ≡ slot) (few : slot < 32768) (rises : SlotsRise (with_pair ps key slot)) (two : List ℕ) (pair_long : length two ≡ 2) (number : u16_at two 0 ≡ old.opened + 1) where
    six_long : length t.six ≡ 6
    six_long = t.is.long

    abbrev bucket : ℕ
    bucket = bucket_place old.opened

    load_here : get_or new.loads n 0 ≡ load + 1
    load_here = ap (λ (xs : List ℕ). get_or xs n 0) t.more.loads ∙ get_or-set_same old.loads n (load + 1) 0 (let l = g.builds.counts.long in omega (arith, l, among))

    load_other : (m : ℕ) → m ≢ n → get_or new.loads m 0 ≡ get_or old.loads m 0
    load_other m d = ap (λ (xs : List ℕ). get_or xs m 0) t.more.loads ∙ get_or-set_other old.loads n m (load + 1) 0 d

    place_here : place_of new.lasts n ≡ bucket
    place_here = ap (λ (xs : List ℕ). place_of xs n) t.more.lasts ∙ ap bucket_place (get_or-set_same old.lasts n old.opened 0 (let l = g.builds.long in omega (arith, l, among)))

    place_other : (m : ℕ) → m ≢ n → place_of new.lasts m ≡ place_of old.lasts m
    place_other m d = ap (λ (xs : List ℕ). place_of xs m) t.more.lasts ∙ ap bucket_place (get_or-set_other old.lasts n m old.opened 0 d)

    others_wait : OthersWait (group_place old) (group_place new) (waiting old) (waiting new) n
    others_wait m d =
        let l = load_other m d in
        let p = place_other m d in
        (ap (λ (k : ℕ). k + 24 * (get_or new.loads m 0 % 32 / 4)) p ∙ ap (λ (k : ℕ). place_of old.lasts m + 24 * (k % 32 / 4)) l, ap (λ (k : ℕ). k % 4) l)

    here : group_place new n ≡ bucket
    here = let p = place_here in let l = load_here in omega (arith, p, l, whole)

    one : waiting new n ≡ 1
    one = let l = load_here in omega (arith, l, whole)

    free : HasZeros g.full bucket 195
    free = zeros_free old.loads old.lasts old.opened g.full ps key level g.builds lev (omega (arith, size_full, less))

    -- all that waits of other nodes lies before it
    before : (m : ℕ) → 0 < waiting new m → m ≢ n → (group_place new m + 6 * waiting new m ≤ bucket) × (group_place new m ≡ group_place old m) × (waiting new m ≡ waiting old m)
    before m wait d = let o = others_wait m d in let p = o.0 in let w = o.1 in let i = safe.inside m (omega (arith, wait, w)) in (omega (arith, p, w, i), p, w)

    waits : Awaits 0 (group_place new) (waiting new) new.groups draft (put_at g.full bucket t.six)
    waits =
        let there : group_place new n + 6 * waiting old n ≡ bucket = omega (arith, here, whole) in
        let a = await_pair (group_place old) (group_place new) (waiting old) (waiting new) old.groups draft g.full t.six n g.awaits among (few_wait old) (omega (arith, whole)) long six_long (λ s. absurd (omega (arith, s, whole))) (omega (arith, one, whole)) others_wait (omega (arith, there, size_full, less))
        (rw there (slice_zeros g.full bucket 6 (omega (arith, size_full, less)) (λ i h. zero_in g.full bucket 195 i free (omega (arith, h))))) (λ m m_among d wait. inl (let i = safe.inside m (omega (arith, wait)) in omega (arith, i, there))) in
        subst (λ (gs : List ℕ). Awaits 0 (group_place new) (waiting new) gs draft (put_at g.full bucket t.six)) (sym t.groups) (rw there at a)

    clear_last : (m : ℕ) → m < 341 → 0 < waiting new m → (group_place new m + 6 * waiting new m ≤ bucket + 194) ⊎ (bucket + 194 + 1 ≤ group_place new m)
    clear_last m m_among wait = ⊎_elim
        (λ (e : m ≡ n). let p = ap (group_place new) e in let w = ap (waiting new) e in inl (omega (arith, p, w, here, one)))
        (λ (d : m ≢ n). let b = before m wait d in let c = b.0 in inl (omega (arith, c)))
        (same_or m n)

    clear_number : (m : ℕ) → m < 341 → 0 < waiting new m → (group_place new m + 6 * waiting new m ≤ at) ⊎ (at + length two ≤ group_place new m)
    clear_number m m_among wait = ⊎_elim
        (λ (e : m ≡ n). let p = ap (group_place new) e in inr (omega (arith, p, here, low, pair_long)))
        (λ (d : m ≢ n).
        let b = before m wait d in
        let p = b.1 in
        let w = b.2 in
        let some : 0 < get_or old.loads m 0 = omega (arith, wait, w) in
        ⊎_elim
        (λ (z : load ≡ 0). let f = first z in inr (omega (arith, f, p, among, pair_long)))
        (λ (s : load ≢ 0).
        let x = next s in
        ⊎_elim
        (λ (y : place_of old.lasts m + 195 ≤ place). inl (omega (arith, y, x, p, w)))
        (λ (y : place + 195 ≤ place_of old.lasts m). inr (omega (arith, y, x, p, pair_long)))
        (beside (get_or old.lasts m 0) (get_or old.lasts n 0) (safe.apart m n d some (positive load s))))
        (zero_or load))
        (same_or m n)

    pub gathers_bucket : Gathers new (put_at (put_at draft (bucket + 194) (1 ∷ [])) at two) (with_pair ps key slot)
    gathers_bucket =
        let full_ : List ℕ = put_at (put_at (put_at g.full bucket t.six) (bucket + 194) (1 ∷ [])) at two in
        let long_1 : length (put_at g.full bucket t.six) ≡ bucket_place most = length-put_at g.full t.six bucket (omega (arith, six_long, size_full, less)) ∙ size_full in
        let long_2 : length (put_at (put_at g.full bucket t.six) (bucket + 194) (1 ∷ [])) ≡ bucket_place most = length-put_at (put_at g.full bucket t.six) (1 ∷ []) (bucket + 194) (omega (arith, long_1, less)) ∙ long_1 in
        let last = await_both (group_place new) (waiting new) new.groups draft (put_at g.full bucket t.six) (1 ∷ []) (bucket + 194) waits (omega (arith, long_1, less)) clear_last in
        let both = await_both (group_place new) (waiting new) new.groups (put_at draft (bucket + 194) (1 ∷ [])) (put_at (put_at g.full bucket t.six) (bucket + 194) (1 ∷ [])) two at last (omega (arith, long_2, pair_long, low, less)) clear_number in
        record {
          full = full_;
          awaits = both;
          builds = rw (t.more.loads, t.more.lasts, t.more.opened) (builds_bucket old.loads old.lasts old.opened g.full ps key level g.builds lev slot at (one_pair t.six) two full_ whole first next low many few (omega (arith, size_full, less)) rises (one_pair_is t.six (pair key slot) t.is) pair_long number
              (ap (λ (xs : List ℕ). put_at xs at two) (one_pair_put g.full t.six bucket six_long (omega (arith, size_full, less)) free)));
        }

-- ---- the rest

module _ (nodes : Nodes) (draft full : List ℕ) (most slot m : ℕ) (a : NodesAwait m nodes draft full) (safe : IsSafeBuild nodes most slot) (among_ : m < 341) (size_ : length draft ≡ bucket_place most) (some : 0 < waiting nodes m) where
  within_ : place_of nodes.lasts m + 195 ≤ bucket_place most
  within_ = let i = safe.inside m (omega (arith, some)) in let u = safe.under in omega (arith, i, u)

  pub zeros_waiting : HasZeros draft (group_place nodes m) (6 * waiting nodes m)
  zeros_waiting = slice_zeros draft (group_place nodes m) (6 * waiting nodes m) (omega (arith, size_, within_)) (λ i h. a.free (group_place nodes m + i) (record { node = m; later = omega arith; among = among_; behind = omega arith; before = omega (arith, h) }))

  pub waiting_written : length nodes.groups ≡ 6138 → NodesAwait (m + 1) nodes (put_at draft (group_place nodes m) (slice_range nodes.groups (18 * m) (18 * m + 6 * waiting nodes m))) full
  waiting_written long_ =
      let w : List ℕ = slice_range nodes.groups (18 * m) (18 * m + 6 * waiting nodes m) in
      let e : 18 * m + 6 * waiting nodes m - 18 * m ≡ 6 * waiting nodes m = omega arith in
      let wide_ : length w ≡ 6 * waiting nodes m = rw e (length-take-le (6 * waiting nodes m) (drop (18 * m) nodes.groups) (omega (arith, length-drop (18 * m) nodes.groups, long_, among_))) in
      let size_full_ = a.size in
      await_write m (m + 1) (group_place nodes) (group_place nodes) (waiting nodes) (waiting nodes) nodes.groups draft full full w m a among_ (λ z. absurd (omega (arith, z))) (λ k d. (refl, refl)) (λ k d. (λ z. later k z d, λ z. omega (arith, z)))
      (omega (arith, wide_, size_, size_full_, within_)) (omega (arith, wide_)) (clear_of nodes most slot m (group_place nodes m) (length w) safe (omega (arith, some)) (omega arith) (omega (arith, wide_))) refl
      (λ i h. let h_ : i < 6 * waiting nodes m = omega (arith, h, wide_) in let x : 18 * m + 0 + i ≡ 18 * m + i = omega arith in let z : 0 + i ≡ i = omega arith in
      a.held m i (omega arith) among_ h_ ∙ sym (ap (λ (k : ℕ). get_or w k 0) (sym z) ∙ part_same nodes.groups w (18 * m) (18 * m + 6 * waiting nodes m) 0 (6 * waiting nodes m) refl (omega arith) i h_ ∙ ap (λ (k : ℕ). get_or nodes.groups k 0) x))
      (λ x out. refl)
    where
      later : (k : ℕ) → m ≤ k → k ≢ m → m + 1 ≤ k
      later k up d = ⊎_elim (λ (x : k ≤ m). absurd (d (omega (arith, x, up)))) (λ (x : m < k). omega (arith, x)) (order k m)

-- ---- before the first pair

abbrev no_nodes : Nodes
no_nodes = record { loads = replicate 341 0; lasts = replicate 341 0; groups = replicate 6138 0; opened = 0 }

pub safe_none : (most : ℕ) → IsSafeBuild no_nodes most 0
safe_none most = record {
  light = λ i. zeros_few i 0;
  inside = λ i some. (let z = zeros_few i 0 in absurd (omega (arith, z, some)));
  under = omega arith;
  apart = λ i j d some more. (let z = zeros_few i 0 in absurd (omega (arith, z, some)));
}

pub gathers_none : (draft : List ℕ) → Builds (replicate 341 0) (replicate 341 0) 0 draft [] → Gathers no_nodes draft []
gathers_none draft b = record {
  full = draft;
  awaits = await_none (group_place no_nodes) (waiting no_nodes) (replicate 6138 0) draft (λ m. let z = zeros_few m 0 in omega (arith, z));
  builds = b;
}
