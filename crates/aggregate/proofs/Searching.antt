-- The steps of a search by sixteenths.
use Rattle.std.proofs.Common.{◌≡◌, ◌≢◌, ℕ, zero, suc, ◌+◌, ◌-◌, ◌*◌, ◌^◌, ◌<◌, ◌≤◌, ◌/◌, ◌⊎◌, inl, inr, min, List, [], ◌∷◌, ◌++◌, length, replicate, set, get_or, refl, arith, ap, ◌∙◌, sym, subst, ⊎_elim, nat_abs, if◌then◌else◌}
use Rattle.std.specs.Prelude.{ℤ, pos, negsuc, ◌+ℤ◌, ◌-ℤ◌, ◌≤ℤ◌, ◌<ℤ◌}
use Rattle.std.specs.Int.{FitsUnsignedBits}
use Rattle.std.proofs.lemmas.Bool.{cases_eq, cases_lt}
use Rattle.std.proofs.lemmas.Int.{ints}
use Rattle.std.proofs.lemmas.List.{get_or-set_other, get_or-set_same}
use Rattle.std.proofs.Math.Nat.{div-mul-le_self, lt-div-mul-add, mul-le-mul_right}
use Rattle.aggregate.specs.declared.search.Search.{Search}
use Rattle.aggregate.specs.Order.{below, up_to}
use Rattle.aggregate.specs.Search.{IsCounted, IsInPart, IsOutside, Seeks, begins, part_width}
use Rattle.aggregate.proofs.Rising.{below-append, below-next, below-order, is_lt, not_lt}

-- ---- parts

-- a later part begins behind an earlier one
begins-order : (s : Search) (j k : ℕ) → j ≤ k → begins s j ≤ℤ begins s k
begins-order s j k h =
    let m : j * part_width s ≤ k * part_width s = mul-le-mul_right (part_width s) h in
    omega (arith, ints, m)

-- and right behind the one before it
begins-next : (s : Search) (k : ℕ) → begins s (k + 1) ≡ (begins s k +ℤ pos (s.span / 16)) +ℤ pos 1
begins-next s k =
    let m : (k + 1) * part_width s ≡ k * part_width s + part_width s = grind arith in
    omega (arith, ints, m)

pub is-above : (z : ℤ) (n : ℕ) → FitsUnsignedBits 32 z → n ≡ nat_abs z → z ≡ pos n
is-above (pos m) n h e = ap pos (sym e)
is-above (negsuc m) n h e = absurd h

not-above : (z : ℤ) → (FitsUnsignedBits 32 z → ⊥) → (z <ℤ pos 0) ⊎ (pos (2 ^ 32) ≤ℤ z)
not-above (pos m) h = ⊎_elim (λ (l : m < 2 ^ 32). absurd (h l)) (λ (l : 2 ^ 32 ≤ m). inr (omega (arith, ints, l))) (cases_lt m (2 ^ 32))
not-above (negsuc m) h = inl (omega (arith, ints))

pub part-in : (s : Search) (x : ℤ) (above : ℕ) → x ≡ s.lo +ℤ pos above → above / part_width s < 16 → IsInPart s (above / part_width s) x
part-in s x above e few =
    let low : above / part_width s * part_width s ≤ above = div-mul-le_self above (part_width s) in
    let high : above < above / part_width s * part_width s + part_width s = lt-div-mul-add (omega arith) in
    let next = begins-next s (above / part_width s) in
    record { few = few; from = omega (arith, ints, low, e); to = omega (arith, ints, high, next, e) }

pub part-behind : (s : Search) (x : ℤ) (above : ℕ) → x ≡ s.lo +ℤ pos above → 16 ≤ above / part_width s → IsOutside s x
part-behind s x above e many =
    let low : above / part_width s * part_width s ≤ above = div-mul-le_self above (part_width s) in
    let all : 16 * part_width s ≤ above / part_width s * part_width s = mul-le-mul_right (part_width s) many in
    inr (omega (arith, ints, low, all, e))

pub part-out : (s : Search) (x : ℤ) → part_width s ≤ 2 ^ 28 → (FitsUnsignedBits 32 (x -ℤ s.lo) → ⊥) → IsOutside s x
part-out s x small h =
    ⊎_elim (λ (l : (x -ℤ s.lo) <ℤ pos 0). inl (omega (arith, ints, l))) (λ (l : pos (2 ^ 32) ≤ℤ (x -ℤ s.lo)). inr (omega (arith, ints, l, small))) (not-above (x -ℤ s.lo) h)

-- ---- one more number

below-low : (ns : List ℤ) (x a : ℤ) → x <ℤ a → below a (ns ++ x ∷ []) ≡ below a ns + 1
below-low ns x a h = below-append a ns x ∙ ap (λ b. below a ns + (if b then 1 else 0)) (is_lt x a h)

below-high : (ns : List ℤ) (x a : ℤ) → a ≤ℤ x → below a (ns ++ x ∷ []) ≡ below a ns
below-high ns x a h = below-append a ns x ∙ ap (λ b. below a ns + (if b then 1 else 0)) (not_lt x a h) ∙ omega arith

-- it lies between two bounds, below them, or above
between : (ns : List ℤ) (x a b : ℤ) (n : ℕ) → a ≤ℤ x → x <ℤ b → below a ns + n ≡ below b ns → below a (ns ++ x ∷ []) + (n + 1) ≡ below b (ns ++ x ∷ [])
between ns x a b n l h e = omega (arith, below-high ns x a l, below-low ns x b h, e)

before : (ns : List ℤ) (x a b : ℤ) (n : ℕ) → x <ℤ a → a ≤ℤ b → below a ns + n ≡ below b ns → below a (ns ++ x ∷ []) + n ≡ below b (ns ++ x ∷ [])
before ns x a b n l h e = let k : x <ℤ b = omega (arith, ints) in omega (arith, below-low ns x a l, below-low ns x b k, e)

behind : (ns : List ℤ) (x a b : ℤ) (n : ℕ) → b ≤ℤ x → a ≤ℤ b → below a ns + n ≡ below b ns → below a (ns ++ x ∷ []) + n ≡ below b (ns ++ x ∷ [])
behind ns x a b n l h e = let k : a ≤ℤ x = omega (arith, ints) in omega (arith, below-high ns x a k, below-high ns x b l, e)

-- a number in a part is counted there alone
pub counted-in : (s : Search) (ns : List ℤ) (part : ℕ) (x : ℤ) → IsInPart s part x → length s.counts ≡ 16 → IsCounted ns s
    → IsCounted (ns ++ x ∷ []) record { place = s.place; lo = s.lo; span = s.span; counts = set s.counts part (get_or s.counts part 0 + 1) }
counted-in s ns part x is long was k few =
    let now : List ℕ = set s.counts part (get_or s.counts part 0 + 1) in
    let all : List ℤ = ns ++ x ∷ [] in
    let P : ℕ → Type 0 = λ n. below (begins s k) all + n ≡ below (begins s (k + 1)) all in
    let next = begins-order s k (k + 1) (omega arith) in
    let same : k ≡ part → P (get_or now k 0) =
    λ e. subst (λ j. below (begins s j) all + get_or now j 0 ≡ below (begins s (j + 1)) all) (sym e)
    (subst (λ n. below (begins s part) all + n ≡ below (begins s (part + 1)) all) (sym (get_or-set_same s.counts part _ 0 (omega (arith, is.few, long))))
    (between ns x _ _ _ is.from is.to (was part is.few))) in
    let kept : P (get_or s.counts k 0) → k ≢ part → P (get_or now k 0) = λ p other. subst P (sym (get_or-set_other s.counts part k _ 0 other)) p in
    ⊎_elim same
    (λ other. ⊎_elim
    (λ (l : k < part). let first = begins-order s (k + 1) part (omega arith) in let above = is.from in kept (behind ns x _ _ _ (omega (arith, ints, first, above)) next (was k few)) other)
    (λ (l : part ≤ k). let last = begins-order s (part + 1) k (omega (arith, other)) in let under = is.to in kept (before ns x _ _ _ (omega (arith, ints, last, under)) next (was k few)) other)
    (cases_lt k part))
    (cases_eq k part)

-- a number in none is not counted
pub counted-out : (s : Search) (ns : List ℤ) (x : ℤ) → IsOutside s x → IsCounted ns s → IsCounted (ns ++ x ∷ []) s
counted-out s ns x is was k few =
    let next = begins-order s k (k + 1) (omega arith) in
    let first = begins-order s 0 k (omega arith) in
    let last = begins-order s (k + 1) 16 (omega arith) in
    ⊎_elim
    (λ (l : x <ℤ begins s 0). before ns x _ _ _ (omega (arith, ints, l, first)) next (was k few))
    (λ (l : begins s 16 ≤ℤ x). behind ns x _ _ _ (omega (arith, ints, l, last)) next (was k few))
    is

-- ---- the next pass

pub nothing-at : (n k : ℕ) → ◌≡◌ {A = ℕ} (get_or (replicate n 0) k 0) 0
nothing-at zero k = refl
nothing-at (suc n) zero = refl
nothing-at (suc n) (suc k) = nothing-at n k

pub nothing-counted : (s : Search) → s.counts ≡ replicate 16 0 → IsCounted [] s
nothing-counted s e k few = let zero_is = ap (λ (xs : List ℕ). get_or xs k 0) e ∙ nothing-at 16 k in omega (arith, zero_is)

-- it looks in the part that was chosen
pub Seeks-narrowed : (s now : Search) (all : List ℤ) (place part from : ℕ) → Seeks all all place s → part < 16
    → below (begins s part) all + now.place ≡ below s.lo all + s.place → (part < 15 → below s.lo all + s.place < below (begins s (part + 1)) all)
    → from ≡ min (part * part_width s) s.span → now.lo ≡ s.lo +ℤ pos from → now.span ≡ min (s.span - from) (s.span / 16) → now.counts ≡ replicate 16 0 → Seeks all [] place now
Seeks-narrowed s now all place part from k few placed inside from_is lo_is span_is zeros =
    let starts : part * part_width s ≤ s.span =
    ⊎_elim
    (λ (l : s.span < part * part_width s).
    let order : below ((s.lo +ℤ pos s.span) +ℤ pos 1) all ≤ below (begins s part) all = below-order _ _ all (omega (arith, ints, l)) in
    absurd (omega (arith, order, below-next (s.lo +ℤ pos s.span) all, k.lowest, k.highest, placed)))
    (λ (l : part * part_width s ≤ s.span). l)
    (cases_lt s.span (part * part_width s)) in
    let at : now.lo ≡ begins s part = lo_is ∙ ap (λ n. s.lo +ℤ pos n) (omega (arith, from_is, starts)) in
    record {
      lowest = ap (λ m. below m all + now.place) at ∙ placed ∙ k.lowest;
      highest =
          ⊎_elim
          (λ (l : s.span / 16 < s.span - part * part_width s).
          let early : part < 15 = ⊎_elim (λ (b : part < 15). b) (λ (b : 15 ≤ part). let m : 15 * part_width s ≤ part * part_width s = mul-le-mul_right (part_width s) b in absurd (omega (arith, l, m))) (cases_lt part 15) in
          let end : now.lo +ℤ pos now.span ≡ begins s part +ℤ pos (s.span / 16) = omega (arith, ints, at, span_is, from_is, starts, l) in
          subst (λ m. place < up_to m all) (sym end)
          (let i = inside early in
          let e = ap (λ m. below m all) (begins-next s part) ∙ below-next (begins s part +ℤ pos (s.span / 16)) all in
          omega (arith, i, e, k.lowest)))
          (λ (l : s.span - part * part_width s ≤ s.span / 16).
          let end : now.lo +ℤ pos now.span ≡ s.lo +ℤ pos s.span = omega (arith, ints, at, span_is, from_is, starts, l) in
          subst (λ m. place < up_to m all) (sym end) k.highest)
          (cases_lt (s.span / 16) (s.span - part * part_width s));
      counted = nothing-counted now zeros;
    }
