-- The room that a walk finds is the one that the bytes tell, and back.
use Rattle.std.proofs.Common.{◌≡◌, ◌≢◌, ◌<◌, ◌+◌, ◌*◌, ℕ, ℤ, zero, suc, List, length, refl, arith, ap, ◌∙◌, sym, subst, ⊎_elim}
use Rattle.index_tree.specs.Ends.{IsPathEnd, path_end, filled_of, spot_of}
use Rattle.index_tree.specs.Pairs.{Pair, goes, reaching}
use Rattle.index_tree.specs.TreeFile.{IsTree, number_of, numbered_place}
use Rattle.index_tree.specs.Trees.{IsTreeOf, numbered}
use Rattle.index_tree.proofs.Added.{zero_or}
use Rattle.index_tree.proofs.Ends.{end_is, filled_bucket}
use Rattle.index_tree.proofs.Loaded.{end_there}
use Rattle.index_maxheap.specs.Rooms.{end_at, end_by, room_at, room_of}
use Rattle.index_maxheap.specs.Walks.{EndsPath}
use Rattle.index_maxheap.specs.declared.rooms.End.{End}
use Rattle.index_maxheap.specs.declared.rooms.End.TheVariants as end
use Rattle.index_maxheap.specs.declared.rooms.Room.{Room}

end_some : (spot place n m : ℕ) → m ≡ n → 0 < n → end_by spot place m ≡ end.Pair (place + 6 * n)
end_some spot place n zero e h = absurd (omega (arith, e, h))
end_some spot place n (suc m) e h = ap (λ (k : ℕ). end.Pair (place + 6 * k)) e

filled_end : (bytes : List ℕ) (ps : List Pair) (key : ℤ) (hop : ℕ) → IsTree bytes ps → IsPathEnd ps key hop → filled_of bytes (number_of bytes key hop) ≡ length (reaching (goes key) hop ps)
filled_end bytes ps key hop tree last =
    let filled = filled_bucket bytes (number_of bytes key hop) (reaching (goes key) hop ps) (tree.each key hop) in
    let room = last.room in
    omega (arith, filled, room)

-- what a walk finds is what the bytes tell
found_end : (e : End) (bytes : List ℕ) (ps : List Pair) (key : ℤ) → IsTree bytes ps → EndsPath e bytes ps key → (hop : ℕ) × IsPathEnd ps key hop × (end_at bytes key hop ≡ e)
found_end (end.Pair at) bytes ps key tree found =
    let hop : ℕ = found.0 in
    let some = (tree.each key hop).some found.2 in
    (hop, found.1, end_some (spot_of bytes key hop) (numbered_place (number_of bytes key hop)) (length (reaching (goes key) hop ps)) (filled_of bytes (number_of bytes key hop)) (filled_end bytes ps key hop tree found.1) some ∙ ap (λ (n : ℕ). end.Pair n) (sym found.3))
found_end (end.Bucket at) bytes ps key tree found =
    let hop : ℕ = found.0 in
    let none : filled_of bytes (number_of bytes key hop) ≡ 0 = rw found.2 refl in
    (hop, found.1, ap (λ (n : ℕ). end_by (spot_of bytes key hop) (numbered_place (number_of bytes key hop)) n) none ∙ ap (λ (n : ℕ). end.Bucket n) (sym found.3))
found_end end.Nowhere bytes ps key tree found = absurd found

pub room_found : (e : End) (bytes : List ℕ) (keys : List ℤ) (key : ℤ) → IsTreeOf bytes keys → EndsPath e bytes (numbered 0 keys) key → room_at e ≡ room_of bytes key
unfolding room_of
room_found e bytes keys key tree found =
    let told = found_end e bytes (numbered 0 keys) key tree found in
    let hop : path_end bytes key ≡ told.0 = end_is bytes (numbered 0 keys) key told.0 tree told.1 in
    ap room_at (sym told.2) ∙ ap (λ (h : ℕ). room_at (end_at bytes key h)) (sym hop)

-- ---- and back

finds_by : (spot place n : ℕ) (bytes : List ℕ) (ps : List Pair) (key : ℤ) (hop : ℕ) → IsTree bytes ps → IsPathEnd ps key hop → spot ≡ spot_of bytes key hop → place ≡ numbered_place (number_of bytes key hop) → n ≡ length (reaching (goes key) hop ps) → EndsPath (end_by spot place n) bytes ps key
finds_by spot place zero bytes ps key hop tree last s p n =
    ⊎_elim
    (λ (none : number_of bytes key hop ≡ 0). (hop, last, none, s))
    (λ (some : number_of bytes key hop ≢ 0). let more = (tree.each key hop).some some in absurd (omega (arith, more, n)))
    (zero_or (number_of bytes key hop))
finds_by spot place (suc k) bytes ps key hop tree last s p n =
    (hop, last, (λ z. let empty : length (reaching (goes key) hop ps) ≡ 0 = ap (λ (xs : List Pair). length xs) ((tree.each key hop).none z) in omega (arith, empty, n)), ap (λ (m : ℕ). m + 6 * suc k) p ∙ ap (λ (m : ℕ). numbered_place (number_of bytes key hop) + 6 * m) n)

end_for : (e : End) → (room_at e).end ≡ e
end_for (end.Pair at) = refl
end_for (end.Bucket at) = refl
end_for end.Nowhere = refl

-- where an insert goes that has the room which the bytes tell
pub room_told : (room : Room) (bytes : List ℕ) (keys : List ℤ) (key : ℤ) → IsTreeOf bytes keys → room ≡ room_of bytes key → EndsPath room.end bytes (numbered 0 keys) key
unfolding room_of
room_told room bytes keys key tree is =
    let ps : List Pair = numbered 0 keys in
    let last = end_there key ps in
    let hop : path_end bytes key ≡ last.0 = end_is bytes ps key last.0 tree last.1 in
    let e : room.end ≡ end_at bytes key last.0 = ap (λ (r : Room). r.end) is ∙ end_for (end_at bytes key (path_end bytes key)) ∙ ap (end_at bytes key) hop in
    subst (λ (x : End). EndsPath x bytes ps key) (sym e)
    (finds_by (spot_of bytes key last.0) (numbered_place (number_of bytes key last.0)) (filled_of bytes (number_of bytes key last.0)) bytes ps key last.0 tree last.1 refl refl (filled_end bytes ps key last.0 tree last.1))
