-- What an insert that broke off leaves of a tree: its pairs name no slots but those that it had, and the next one.
use Rattle.std.proofs.Common.{◌≡◌, ◌≢◌, ◌⊎◌, inl, inr, ⊎_elim, ℕ, zero, suc, ℤ, ◌+◌, ◌-◌, ◌*◌, ◌<◌, ◌≤◌, List, [], ◌∷◌, ◌++◌, length, take, drop, get_or, refl, ap, sym, subst, ◌∙◌, arith, length-append}
use Rattle.std.specs.Prelude.{Err, Ok, OnErr, Result}
use Rattle.std.proofs.lemmas.Bool.{cases_lt}
use Rattle.std.proofs.lemmas.List.{get_or-append_right, get_or-drop, get_or-take, get_or_append_left, length-take-le}
use Rattle.byteorder.specs.Endian.{little_number}
use Rattle.afl_base.specs.Fields.{put_at, u16_at}
use Rattle.afl_base.specs.Files.{State, bytes_at}
use Rattle.afl_base.proofs.FieldLaws.{length-put_at}
use Rattle.db_model.specs.HashTree.{node}
use Rattle.index_tree.specs.Ends.{spot_of}
use Rattle.index_tree.specs.Pairs.{Pair, goes, reaching}
use Rattle.index_tree.specs.Rules.{bucket_count}
use Rattle.index_tree.specs.TreeFile.{NamesOnly, bucket_place, number_of, numbered_place, slot_at}
use Rattle.index_tree.specs.Trees.{IsTreeOf, numbered}
use Rattle.index_tree.proofs.Frames.{put_here, put_outside}
use Rattle.index_tree.proofs.Inserted.{grown_here, grown_new}
use Rattle.index_tree.proofs.Law.{tree_of_rules}
use Rattle.index_tree.proofs.Numbered.{keys_first, numbered_length, rises_numbered}
use Rattle.index_tree.proofs.Spots.{node_small}
use Rattle.index_maxheap.specs.Rooms.{MayInsert, MayPutBucket, MayPutPair}
use Rattle.index_maxheap.specs.Walks.{EndsPath}
use Rattle.index_maxheap.specs.declared.rooms.End.TheVariants as end
use Rattle.index_maxheap.specs.declared.rooms.Room.{Room}
use Rattle.index_maxheap.proofs.Grows.{tree_grown}
use Rattle.index_maxheap.proofs.Told.{room_told}

-- ---- numbers of two bytes

two_less : (xs ys : List ℕ) → get_or xs 0 0 ≤ get_or ys 0 0 → get_or xs 1 0 ≤ get_or ys 1 0 → little_number 2 xs ≤ little_number 2 ys
two_less xs ys a b = omega (arith, a, b)

two_none : (xs : List ℕ) → little_number 2 xs ≡ 0 → (get_or xs 0 0 ≡ 0) × (get_or xs 1 0 ≡ 0)
two_none xs e = (omega (arith, e), omega (arith, e))

u16_less : (xs ys : List ℕ) (p : ℕ) → get_or xs (p + 0) 0 ≤ get_or ys (p + 0) 0 → get_or xs (p + 1) 0 ≤ get_or ys (p + 1) 0 → u16_at xs p ≤ u16_at ys p
unfolding u16_at
u16_less xs ys p a b =
    two_less (drop p xs) (drop p ys)
    (let s = get_or-drop p xs 0 0 in let t = get_or-drop p ys 0 0 in omega (arith, s, t, a))
    (let s = get_or-drop p xs 1 0 in let t = get_or-drop p ys 1 0 in omega (arith, s, t, b))

u16_none : (xs : List ℕ) (p : ℕ) → u16_at xs p ≡ 0 → (get_or xs (p + 0) 0 ≡ 0) × (get_or xs (p + 1) 0 ≡ 0)
unfolding u16_at
u16_none xs p e = let both = two_none (drop p xs) e in (sym (get_or-drop p xs 0 0) ∙ both.0, sym (get_or-drop p xs 1 0) ∙ both.1)

-- ---- pairs by their bytes

-- where the number of the slot of a pair stands
abbrev pub slot_place : ℕ → ℕ → ℕ
slot_place bucket pair = bucket_place bucket + 6 * pair + 4

-- bytes that at such places are at most those of others name no more slots
names_below : (n : ℕ) (new full : List ℕ) → length new ≤ length full
    → ((bucket pair i : ℕ) → pair < 32 → i < 2 → slot_place bucket pair + 2 ≤ length new → get_or new (slot_place bucket pair + i) 0 ≤ get_or full (slot_place bucket pair + i) 0)
    → NamesOnly n full → NamesOnly n new
names_below n new full fewer less names bucket pair short inside =
    let p : ℕ = slot_place bucket pair in
    let low = less bucket pair 0 short (omega arith) (omega (arith, inside)) in
    let high = less bucket pair 1 short (omega arith) (omega (arith, inside)) in
    let at : slot_at new (bucket_place bucket) pair ≤ slot_at full (bucket_place bucket) pair = u16_less new full p low high in
    let most : slot_at full (bucket_place bucket) pair ≤ n = names bucket pair short (omega (arith, inside, fewer)) in
    omega (arith, at, most)

-- ---- a tree

-- the pairs of a tree name its slots alone
pub tree_names : (bytes : List ℕ) (keys : List ℤ) → IsTreeOf bytes keys → NamesOnly (length keys) bytes
tree_names bytes keys tree bucket pair short inside =
    let few : length keys ≤ 32768 = (let long = numbered_length 0 keys in let most = tree.few in omega (arith, long, most)) in
    let rules = tree_of_rules bytes _ (length keys) few (subst (IsTreeOf bytes) (sym (keys_first keys)) tree) in
    let whole : length bytes ≡ bucket_place (bucket_count bytes) = rules.whole in
    rules.known bucket pair (by_size (length bytes) (bucket_count bytes) bucket pair whole inside) short
  where
    by_size : (len count bucket pair : ℕ) → len ≡ bucket_place count → bucket_place bucket + 6 * pair + 6 ≤ len → bucket < count
    by_size len count bucket pair e h = omega (arith, e, h)

pub names_more : (m n : ℕ) (bytes : List ℕ) → m ≤ n → NamesOnly m bytes → NamesOnly n bytes
names_more m n bytes more names bucket pair short inside = let few : slot_at bytes (bucket_place bucket) pair ≤ m = names bucket pair short inside in omega (arith, few, more)

-- ---- a write in part

-- a byte of a part is at most that of the whole, where what is not written is 0
part_less : (old w : List ℕ) (at n q : ℕ) → at + length w ≤ length old → n ≤ length w → (at ≤ q → q < at + length w → n ≤ q - at → get_or old q 0 ≡ 0)
    → get_or (put_at old at (take n w)) q 0 ≤ get_or (put_at old at w) q 0
part_less old w at n q room few zero_there =
    let part : List ℕ = take n w in
    let long : length part ≡ n = length-take-le n w few in
    let same : q + 0 ≡ q = omega arith in
    let beside : (v : List ℕ) → at + length v ≤ length old → (q + 1 ≤ at) ⊎ (at + length v ≤ q) → get_or (put_at old at v) q 0 ≡ get_or old q 0 =
    λ v fits out. subst (λ (m : ℕ). get_or (put_at old at v) m 0 ≡ get_or old m 0) same (put_outside old v at q 1 fits out 0 (omega arith)) in
    let inside : (v : List ℕ) → at + length v ≤ length old → at ≤ q → q < at + length v → get_or (put_at old at v) q 0 ≡ get_or v (q - at) 0 =
    λ v fits low high.
    let k : ℕ = q - at in
    let sum : at + k + 0 ≡ q = omega (arith, low) in
    let none : k + 0 ≡ k = omega arith in
    subst (λ (m : ℕ). get_or (put_at old at v) m 0 ≡ get_or v k 0) sum (put_here old v at k 1 (omega (arith, fits)) (omega (arith, low, high)) 0 (omega arith) ∙ ap (λ (m : ℕ). get_or v m 0) none) in
    ⊎_elim
    (λ (before : q < at).
    let a = beside part (omega (arith, room, few, long)) (inl (omega (arith, before))) in
    let b = beside w room (inl (omega (arith, before))) in
    omega (arith, a, b))
    (λ (low : at ≤ q). ⊎_elim
    (λ (written : q < at + n).
    let k : ℕ = q - at in
    let a = inside part (omega (arith, room, few, long)) low (omega (arith, written, long)) in
    let b = inside w room low (omega (arith, written, few)) in
    let c : get_or part k 0 ≡ get_or w k 0 = get_or-take n w k 0 (omega (arith, low, written)) in
    omega (arith, a, b, c))
    (λ (past : at + n ≤ q). ⊎_elim
    (λ (high : q < at + length w).
    let a = beside part (omega (arith, room, few, long)) (inr (omega (arith, long, past))) in
    let z = zero_there low high (omega (arith, low, past)) in
    omega (arith, a, z))
    (λ (behind : at + length w ≤ q).
    let a = beside part (omega (arith, room, few, long)) (inr (omega (arith, long, past))) in
    let b = beside w room (inr behind) in
    omega (arith, a, b))
    (cases_lt q (at + length w)))
    (cases_lt q (at + n)))
    (cases_lt q at)

-- ---- a pair

pair_names : (old w : List ℕ) (n number pair slots : ℕ) → length w ≡ 6 → n ≤ 6 → number ≢ 0 → pair < 32 → bucket_place number ≤ length old → slot_at old (numbered_place number) pair ≡ 0
    → NamesOnly slots (put_at old (numbered_place number + 6 * pair) w) → NamesOnly slots (put_at old (numbered_place number + 6 * pair) (take n w))
pair_names old w n number pair slots long few some short fits empty names =
    let at : ℕ = numbered_place number + 6 * pair in
    let room : at + length w ≤ length old = omega (arith, long, short, fits, some) in
    let part_long : length (take n w) ≡ n = length-take-le n w (omega (arith, long, few)) in
    let same : length (put_at old at w) ≡ length old = length-put_at old w at room in
    let same_part : length (put_at old at (take n w)) ≡ length old = length-put_at old (take n w) at (omega (arith, room, part_long, few, long)) in
    let none = u16_none old (at + 4) empty in
    names_below slots (put_at old at (take n w)) (put_at old at w) (omega (arith, same, same_part))
    (λ b j i inside two room_there.
    part_less old w at n (slot_place b j + i) room (omega (arith, long, few))
    (λ low high past. by_place b j i number pair old some inside short two (omega (arith, low)) (omega (arith, high, long)) none))
    names
  where
    by_place : (b j i number pair : ℕ) (old : List ℕ) → number ≢ 0 → j < 32 → pair < 32 → i < 2 → numbered_place number + 6 * pair ≤ slot_place b j + i → slot_place b j + i < numbered_place number + 6 * pair + 6
        → (get_or old (numbered_place number + 6 * pair + 4 + 0) 0 ≡ 0) × (get_or old (numbered_place number + 6 * pair + 4 + 1) 0 ≡ 0) → get_or old (slot_place b j + i) 0 ≡ 0
    by_place b j i number pair old some inside short two low high none = ⊎_elim
        (λ (first : i < 1).
        let e : slot_place b j + i ≡ numbered_place number + 6 * pair + 4 + 0 = omega (arith, some, inside, short, two, low, high, first) in
        ap (λ (m : ℕ). get_or old m 0) e ∙ none.0)
        (λ (second : 1 ≤ i).
        let e : slot_place b j + i ≡ numbered_place number + 6 * pair + 4 + 1 = omega (arith, some, inside, short, two, low, high, second) in
        ap (λ (m : ℕ). get_or old m 0) e ∙ none.1)
        (cases_lt i 1)

-- ---- a bucket

-- where numbers of buckets stand: before the buckets, or at the end of one
abbrev IsSpot : ℕ → Type 0
IsSpot at = (at + 2 ≤ 683) ⊎ ((b : ℕ) × (at ≡ bucket_place b + 192))

spot_is : (bytes : List ℕ) (key : ℤ) (hop : ℕ) → IsSpot (spot_of bytes key hop)
spot_is bytes key zero = inl (omega arith)
spot_is bytes key (suc zero) = let small : node key 1 ≤ 340 = node_small key 1 (omega arith) in inl (omega (arith, small))
spot_is bytes key (suc (suc zero)) = let small : node key 2 ≤ 340 = node_small key 2 (omega arith) in inl (omega (arith, small))
spot_is bytes key (suc (suc (suc zero))) = let small : node key 3 ≤ 340 = node_small key 3 (omega arith) in inl (omega (arith, small))
spot_is bytes key (suc (suc (suc (suc zero)))) = let small : node key 4 ≤ 340 = node_small key 4 (omega arith) in inl (omega (arith, small))
spot_is bytes key (suc (suc (suc (suc (suc chain))))) = inr (number_of bytes key (suc (suc (suc (suc chain)))) - 1, refl)

-- no number of a slot stands there
beside_spot : (at b j i : ℕ) → IsSpot at → j < 32 → i < 2 → (slot_place b j + i + 1 ≤ at) ⊎ (at + 2 ≤ slot_place b j + i)
beside_spot at b j i (inl low) short two = inr (omega (arith, low))
beside_spot at b j i (inr s) short two = by_bucket at b j i s.0 s.1 short two
  where
    by_bucket : (at b j i c : ℕ) → at ≡ bucket_place c + 192 → j < 32 → i < 2 → (slot_place b j + i + 1 ≤ at) ⊎ (at + 2 ≤ slot_place b j + i)
    by_bucket at b j i c e short two = ⊎_elim
        (λ (less : b < c + 1). inl (omega (arith, e, less, short, two)))
        (λ (more : c + 1 ≤ b). inr (omega (arith, e, more)))
        (cases_lt b (c + 1))

-- a number that is put there changes none of a slot
put_beside : (bytes v : List ℕ) (at b j i : ℕ) → IsSpot at → length v ≤ 2 → at + 2 ≤ length bytes → j < 32 → i < 2 → get_or (put_at bytes at v) (slot_place b j + i) 0 ≡ get_or bytes (slot_place b j + i) 0
put_beside bytes v at b j i spot few room short two =
    let q : ℕ = slot_place b j + i in
    let same : q + 0 ≡ q = omega arith in
    subst (λ (m : ℕ). get_or (put_at bytes at v) m 0 ≡ get_or bytes m 0) same
    (put_outside bytes v at q 1 (omega (arith, few, room)) (⊎_elim (λ (before : q + 1 ≤ at). inl before) (λ (behind : at + 2 ≤ q). inr (omega (arith, behind, few))) (beside_spot at b j i spot short two)) 0 (omega arith))

bucket_names : (old w two after : List ℕ) (at slots : ℕ) → IsSpot at → at + 2 ≤ length old → length w ≡ 195 → length two ≡ 2 → (done : ℕ)
    → ((done ≤ 195) × (after ≡ old ++ take done w)) ⊎ ((done ≤ 2) × (after ≡ put_at (old ++ w) at (take done two)))
    → NamesOnly slots (put_at (old ++ w) at two) → NamesOnly slots after
bucket_names old w two after at slots spot room long_w long_two done (inl p) names =
    let all : length (old ++ w) ≡ length old + length w = length-append old w in
    let full : length (put_at (old ++ w) at two) ≡ length (old ++ w) = length-put_at (old ++ w) two at (omega (arith, room, all, long_two)) in
    let some : length (take done w) ≡ done = length-take-le done w (omega (arith, p.0, long_w)) in
    let now : length (old ++ take done w) ≡ length old + length (take done w) = length-append old (take done w) in
    subst (NamesOnly slots) (sym p.1)
    (names_below slots (old ++ take done w) (put_at (old ++ w) at two) (omega (arith, all, full, some, now, p.0, long_w))
    (λ b j i short low inside.
    let q : ℕ = slot_place b j + i in
    let there = put_beside (old ++ w) two at b j i spot (omega (arith, long_two)) (omega (arith, room, all)) short low in
    let here : get_or (old ++ take done w) q 0 ≡ get_or (old ++ w) q 0 = ⊎_elim
    (λ (before : q < length old). get_or_append_left old (take done w) 0 q before ∙ sym (get_or_append_left old w 0 q before))
    (λ (behind : length old ≤ q).
    get_or-append_right old (take done w) (length old) q 0 refl behind ∙ get_or-take done w (q - length old) 0 (omega (arith, inside, now, some, behind, low)) ∙ sym (get_or-append_right old w (length old) q 0 refl behind))
    (cases_lt q (length old)) in
    omega (arith, here, there))
    names)
bucket_names old w two after at slots spot room long_w long_two done (inr p) names =
    let all : length (old ++ w) ≡ length old + length w = length-append old w in
    let some : length (take done two) ≡ done = length-take-le done two (omega (arith, p.0, long_two)) in
    let full : length (put_at (old ++ w) at two) ≡ length (old ++ w) = length-put_at (old ++ w) two at (omega (arith, room, all, long_two)) in
    let now : length (put_at (old ++ w) at (take done two)) ≡ length (old ++ w) = length-put_at (old ++ w) (take done two) at (omega (arith, room, all, some, p.0)) in
    subst (NamesOnly slots) (sym p.1)
    (names_below slots (put_at (old ++ w) at (take done two)) (put_at (old ++ w) at two) (omega (arith, full, now))
    (λ b j i short low inside.
    let here = put_beside (old ++ w) (take done two) at b j i spot (omega (arith, some, p.0)) (omega (arith, room, all)) short low in
    let there = put_beside (old ++ w) two at b j i spot (omega (arith, long_two)) (omega (arith, room, all)) short low in
    omega (arith, here, there))
    names)

-- ---- an insert

module _ (old after : State) (index slot : ℕ) (room : Room) (key : ℤ) (few : slot < 32768) where
  abbrev bytes : List ℕ
  bytes = bytes_at old.files index

  abbrev q : Pair
  q = record { key = key; slot = slot }

  pub pair_cut : (at : ℕ) → room.end ≡ end.Pair at → MayPutPair old after index at q → MayInsert old after index room key slot
  pair_cut at is m = record {
    others = m.others;
    names = λ keys tree many room_is.
        let ps : List Pair = numbered 0 keys in
        let long = numbered_length 0 keys in
        let found : EndsPath (end.Pair at) bytes ps key = subst (λ e. EndsPath e bytes ps key) is (room_told room bytes keys key tree room_is) in
        let hop : ℕ = found.0 in
        let number : ℕ = number_of bytes key hop in
        let rest : List Pair = reaching (goes key) hop ps in
        let place : at ≡ numbered_place number + 6 * length rest = found.3 in
        let bucket = tree.each key hop in
        let full : List ℕ = put_at bytes (numbered_place number + 6 * length rest) m.six in
        let grown = grown_here bytes full m.six ps q hop number (length rest) tree (rises_numbered 0 keys) (omega (arith, many, few, long)) found.1 refl refl found.2 m.pair_is refl in
        let whole : NamesOnly (slot + 1) full = names_more (length (keys ++ key ∷ [])) (slot + 1) full (let n = length-append keys (key ∷ []) in omega (arith, n, many)) (tree_names full (keys ++ key ∷ []) (tree_grown bytes full keys key slot many grown)) in
        subst (NamesOnly (slot + 1)) (sym (m.bytes ∙ ap (λ (n : ℕ). put_at bytes n (take m.done m.six)) place))
        (pair_names bytes m.six m.done number (length rest) (slot + 1) m.pair_is.long m.within found.2 found.1.room (bucket.within found.2)
        ((bucket.holds found.2).empty (length rest) found.1.room (omega arith)) whole);
  }

  pub bucket_cut : (at : ℕ) → room.end ≡ end.Bucket at → at + 3 ≤ length bytes → MayPutBucket old after index at q → MayInsert old after index room key slot
  bucket_cut at is fits m = record {
    others = m.others;
    names = λ keys tree many room_is.
        let ps : List Pair = numbered 0 keys in
        let long = numbered_length 0 keys in
        let found : EndsPath (end.Bucket at) bytes ps key = subst (λ e. EndsPath e bytes ps key) is (room_told room bytes keys key tree room_is) in
        let full : List ℕ = put_at (bytes ++ m.bucket) at m.two in
        let grown = grown_new bytes full m.bucket m.two ps q found.0 at tree (rises_numbered 0 keys) (omega (arith, many, few, long)) found.1 found.2 found.3 fits m.first m.long m.number refl in
        let whole : NamesOnly (slot + 1) full = names_more (length (keys ++ key ∷ [])) (slot + 1) full (let n = length-append keys (key ∷ []) in omega (arith, n, many)) (tree_names full (keys ++ key ∷ []) (tree_grown bytes full keys key slot many grown)) in
        bucket_names bytes m.bucket m.two (bytes_at after.files index) at (slot + 1) (subst IsSpot (sym found.3) (spot_is bytes key found.0)) (omega (arith, fits)) m.first.long m.long m.done m.bytes whole;
  }

pub on_error : {T E P Q : Type 0} (r : Result T E) → (P → Q) → OnErr r P → OnErr r Q
on_error (Ok x) f p = tt
on_error (Err e) f p = f p
