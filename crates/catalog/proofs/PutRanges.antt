-- Ranges of bytes in which a part is written.
use Rattle.std.proofs.Common.{◌≡◌, ◌≢◌, ℕ, ◌+◌, ◌-◌, ◌*◌, ◌<◌, ◌≤◌, List, ◌++◌, length, take, drop, sym, ap, subst, ◌∙◌, arith, length-append}
use Rattle.std.specs.Prelude.{slice_range}
use Rattle.std.proofs.Math.Logic.{⊎_elim}
use Rattle.std.proofs.lemmas.Bool.{cases_lt}
use Rattle.std.proofs.lemmas.List.{drop-drop, drop-take, drop_at, length-take-le, take_at}
use Rattle.afl_base.specs.Fields.{put_at}
use Rattle.afl_base.proofs.FieldLaws.{drop-put_at}
use Rattle.afl_base.proofs.PutLaws.{take-put_at}

pub range_front : (xs : List ℕ) (a b : ℕ) → a ≤ b → slice_range xs a b ≡ drop a (take b xs)
range_front xs a b h = let e : a + (b - a) ≡ b = omega (arith, h) in sym (drop-take a (b - a) xs) ∙ ap (λ (n : ℕ). drop a (take n xs)) e

pub before_put : (old part : List ℕ) (at a b : ℕ) → a ≤ b → b ≤ at → at ≤ length old → slice_range (put_at old at part) a b ≡ slice_range old a b
before_put old part at a b h before room = range_front (put_at old at part) a b h ∙ ap (drop a) (take-put_at old part at b before room) ∙ sym (range_front old a b h)

pub behind_put : (old part : List ℕ) (at a b : ℕ) → at + length part ≤ a → at ≤ length old → slice_range (put_at old at part) a b ≡ slice_range old a b
unfolding put_at
behind_put old part at a b behind room =
    let end : ℕ = at + length part in
    let more : ℕ = a - end in
    let front : List ℕ = take at old ++ part in
    let rest : List ℕ = drop end old in
    let long : length front ≡ end = length-append (take at old) part ∙ omega (arith, length-take-le at old room) in
    let same : end + more ≡ a = omega (arith, behind) in
    ap (take (b - a)) (subst (λ (n : ℕ). drop n (front ++ rest) ≡ drop n old) same
    (sym (drop-drop more end (front ++ rest)) ∙ ap (drop more) (drop_at front rest end long) ∙ drop-drop more end old))

pub here_put : (old part : List ℕ) (at n : ℕ) → length part ≡ n → at ≤ length old → slice_range (put_at old at part) at (at + n) ≡ part
here_put old part at n long room =
    let m : length part ≡ (at + n) - at = omega (arith, long) in
    ap (take ((at + n) - at)) (drop-put_at old part at room) ∙ take_at part (drop (at + length part) old) ((at + n) - at) m

-- ---- slots

-- where a relation slot is put, the others are as before
pub other_relation_put : (bytes part : List ℕ) (j k : ℕ) → length part ≡ 176 → j ≢ k → 176 * k ≤ length bytes
    → slice_range (put_at bytes (176 * k) part) (176 * j) (176 * j + 176) ≡ slice_range bytes (176 * j) (176 * j + 176)
other_relation_put bytes part j k n differs room =
    ⊎_elim
    (λ (less : j < k). before_put bytes part (176 * k) (176 * j) (176 * j + 176) (omega arith) (omega (arith, less)) room)
    (λ (more : k ≤ j). behind_put bytes part (176 * k) (176 * j) (176 * j + 176) (omega (arith, n, more, differs)) room)
    (cases_lt j k)

-- where an index slot is put, the others are as before
pub other_index_put : (bytes part : List ℕ) (j k : ℕ) → length part ≡ 8 → j ≢ k → 1408 + 8 * k ≤ length bytes
    → slice_range (put_at bytes (1408 + 8 * k) part) (1408 + 8 * j) (1408 + 8 * j + 8) ≡ slice_range bytes (1408 + 8 * j) (1408 + 8 * j + 8)
other_index_put bytes part j k n differs room =
    ⊎_elim
    (λ (less : j < k). before_put bytes part (1408 + 8 * k) (1408 + 8 * j) (1408 + 8 * j + 8) (omega arith) (omega (arith, less)) room)
    (λ (more : k ≤ j). behind_put bytes part (1408 + 8 * k) (1408 + 8 * j) (1408 + 8 * j + 8) (omega (arith, n, more, differs)) room)
    (cases_lt j k)
