-- Writes into bytes, one behind another.
use Rattle.std.proofs.Common.{◌≡◌, ℕ, ◌+◌, ◌-◌, ◌≤◌, List, [], ◌∷◌, ◌++◌, length, take, drop, get_or, set, sym, ap, subst, ◌∙◌, arith, append_assoc}
use Rattle.std.proofs.lemmas.Grind.{common_steps}
use Rattle.std.proofs.lemmas.List.{drop-drop, drop-take, drop_at, length-append, length-take-le, set_at}
use Rattle.std.proofs.Math.Seq.{get_or-append_seam}
use Rattle.afl_base.specs.Fields.{put_at}
use Rattle.afl_base.proofs.PutLaws.{take-put_at}

-- what a write at the front leaves, and then the byte behind it, of bytes that have one more
pub put_then_set : (old front : List ℕ) (m at : ℕ) → at ≡ length front → length old ≡ at + 1 → set (put_at old 0 front) at m ≡ front ++ m ∷ []
unfolding put_at
put_then_set old front m at is len = one (drop (0 + length front) old) (grind (arith, common_steps))
  where
    one : (rest : List ℕ) → length rest ≡ 1 → set (front ++ rest) at m ≡ front ++ m ∷ []
    one [] few = absurd (omega (arith, few))
    one (b ∷ []) few = set_at front b [] m at (sym is)
    one (b ∷ c ∷ rest) few = absurd (omega (arith, few))

-- ---- what stays round a write, and what stands there

-- the bytes before it
pub before-put_at : (old written : List ℕ) (at from n : ℕ) → from + n ≤ at → at ≤ length old → take n (drop from (put_at old at written)) ≡ take n (drop from old)
before-put_at old written at from n before room =
    sym (drop-take from n (put_at old at written)) ∙ ap (drop from) (take-put_at old written at (from + n) before room) ∙ drop-take from n old

-- the bytes behind it
pub behind-put_at : (old written : List ℕ) (at from : ℕ) → at + length written ≤ from → at ≤ length old → drop from (put_at old at written) ≡ drop from old
unfolding put_at
behind-put_at old written at from behind room =
    let end : ℕ = at + length written in
    let more : ℕ = from - end in
    let front : List ℕ = take at old ++ written in
    let rest : List ℕ = drop end old in
    let long : length front ≡ end = length-append (take at old) written ∙ omega (arith, length-take-le at old room) in
    let same : end + more ≡ from = omega (arith, behind) in
    subst (λ (n : ℕ). drop n (front ++ rest) ≡ drop n old) same
    (sym (drop-drop more end (front ++ rest)) ∙ ap (drop more) (drop_at front rest end long) ∙ drop-drop more end old)

-- a byte that was written
pub byte-put_at : (old : List ℕ) (at m : ℕ) → at ≤ length old → get_or (put_at old at (m ∷ [])) at 0 ≡ m
unfolding put_at
byte-put_at old at m room =
    let rest : List ℕ = drop (at + 1) old in
    ap (λ (xs : List ℕ). get_or xs at 0) (append_assoc (take at old) (m ∷ []) rest)
    ∙ subst (λ (n : ℕ). get_or (take at old ++ m ∷ rest) n 0 ≡ m) (length-take-le at old room) (get_or-append_seam (take at old) m rest 0)
