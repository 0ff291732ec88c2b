-- Writes into bytes: `put_at` puts bytes in the place of those that stand there.
use Rattle.std.proofs.Common.{◌≡◌, add-zero, ℕ, ◌+◌, ◌≤◌, List, [], ◌++◌, length, take, drop, refl, sym, ap, ◌∙◌, arith, append_assoc, ◌-◌, ◌<◌, get_or}
use Rattle.std.proofs.lemmas.List.{append-nil, drop-drop, drop_at, length-append, length-take-le, take_at, take-append-drop, take-append-le, take-take, length-take, get_or_append_left, get_or-append_right, get_or-drop}
use borrow.Rule.Slice.PartMut.{put_mid}
use Rattle.afl_base.specs.Fields.{put_at}

-- a write of a whole part
pub put_mid_whole : (old new bytes : List ℕ) (at k : ℕ) → new ≡ bytes → k ≡ length bytes → put_mid at k old new ≡ put_at old at bytes
unfolding put_at
put_mid_whole old new bytes at k is len = rw (is, len, drop-drop (length bytes) at old) (sym (append_assoc (take at old) bytes (drop (at + length bytes) old)))

-- nothing is written
pub put_at_nothing : (old : List ℕ) (at : ℕ) → put_at old at [] ≡ old
unfolding put_at
put_at_nothing old at = rw (append-nil (take at old), add-zero at) (take-append-drop at old)

-- two writes, the second right behind the first
pub put_at-put_at : (old first second : List ℕ) (at next : ℕ) → next ≡ at + length first → next ≤ length old → put_at (put_at old at first) next second ≡ put_at old at (first ++ second)
unfolding put_at
put_at-put_at old first second at next is room =
    let front : List ℕ = take at old ++ first in
    let rest : List ℕ = drop (at + length first) old in
    let len : length front ≡ next = length-append (take at old) first ∙ omega (arith, is, length-take-le at old (omega (arith, is, room))) in
    let before : take next (front ++ rest) ≡ front = take_at front rest next len in
    let both : length (first ++ second) ≡ length first + length second = length-append first second in
    let behind : drop (next + length second) (front ++ rest) ≡ drop (at + length (first ++ second)) old =
    sym (drop-drop (length second) next (front ++ rest)) ∙ ap (drop (length second)) (drop_at front rest next len)
    ∙ drop-drop (length second) (at + length first) old ∙ ap (λ (n : ℕ). drop n old) (omega (arith, both)) in
    rw (before, behind, append_assoc (take at old) first second) refl

-- what stands before a write
pub take-put_at : (old written : List ℕ) (at n : ℕ) → n ≤ at → at ≤ length old → take n (put_at old at written) ≡ take n old
unfolding put_at
take-put_at old written at n before room =
    let front = length-take-le at old room in
    let both = length-append (take at old) written in
    take-append-le n (take at old ++ written) (drop (at + length written) old) (omega (arith, before, front, both))
    ∙ take-append-le n (take at old) written (omega (arith, before, front))
    ∙ take-take n at old before

pub put_at_here : (old new : List ℕ) (at j : ℕ) → at + length new ≤ length old → j < length new → get_or (put_at old at new) (at + j) 0 ≡ get_or new j 0
unfolding put_at
put_at_here old new at j fits within =
    let front : length (take at old ++ new) ≡ at + length new = omega (arith, length-append (take at old) new, length-take at old) in
    let e : at + j - at ≡ j = omega arith in
    get_or_append_left (take at old ++ new) (drop (at + length new) old) 0 (at + j) (omega arith)
    ∙ get_or-append_right (take at old) new at (at + j) 0 (omega (arith, length-take at old)) (omega arith)
    ∙ ap (λ i. get_or new i 0) e

pub put_at_behind : (xs bytes : List ℕ) (at p : ℕ) → at + length bytes ≤ length xs → at + length bytes ≤ p → get_or (put_at xs at bytes) p 0 ≡ get_or xs p 0
unfolding put_at
put_at_behind xs bytes at p fits after =
    let len = length-take-le at xs (omega arith) in
    let both = length-append (take at xs) bytes in
    let back : at + length bytes + (p - (at + length bytes)) ≡ p = omega arith in
    get_or-append_right (take at xs ++ bytes) (drop (at + length bytes) xs) (at + length bytes) p 0 (omega (arith, both, len)) after
    ∙ get_or-drop (at + length bytes) xs (p - (at + length bytes)) 0
    ∙ ap (λ (i : ℕ). get_or xs i 0) back
