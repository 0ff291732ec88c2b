-- A loop that programs or erases byte after byte.
use Rattle.std.proofs.Common.{◌≡◌, ℕ, ◌+◌, ◌-◌, ◌<◌, ◌≤◌, List, length, get_or, bit_or, sym, ap, ◌∙◌, arith, ⊎_elim}
use Rattle.std.proofs.lemmas.List.{ext_get_or}
use Rattle.std.proofs.lemmas.Bool.{cases_lt}
use Rattle.afl_base.specs.Image.{or_at, zeros_at}
use Rattle.afl_base.proofs.Images.{length_or_at, or_at_before, or_at_inside, or_at_behind, length_zeros_at, zeros_at_before, zeros_at_inside, zeros_at_behind}

-- the first n of some bytes are programmed from a place on, and all others stay
pub record Programmed (old now : List ℕ) (at : ℕ) (bytes : List ℕ) (n : ℕ) : Type 0 where
  pub size : length now ≡ length old
  pub before : (k : ℕ) → k < at → get_or now k 0 ≡ get_or old k 0
  pub done : (k : ℕ) → k < n → get_or now (at + k) 0 ≡ bit_or (get_or old (at + k) 0) (get_or bytes k 0)
  pub behind : (k : ℕ) → at + n ≤ k → get_or now k 0 ≡ get_or old k 0

pub programmed-all : (old now : List ℕ) (at : ℕ) (bytes : List ℕ) (n : ℕ) → length bytes ≤ n → n ≤ length bytes → at + length bytes ≤ length old → Programmed old now at bytes n → now ≡ or_at old at bytes
programmed-all old now at bytes n least most fits p =
    ext_get_or 0 now (or_at old at bytes) (p.size ∙ sym (length_or_at old at bytes)) (λ k h.
    let long : length now ≡ length old = p.size in
    ⊎_elim
    (λ (w : k < at). p.before k w ∙ sym (or_at_before old at bytes k w))
    (λ (w : at ≤ k). ⊎_elim
    (λ (v : k < at + length bytes).
    let e : at + (k - at) ≡ k = omega arith in
    ap (λ i. get_or now i 0) (sym e) ∙ p.done (k - at) (omega arith) ∙ sym (or_at_inside old at bytes (k - at) (omega arith) (omega arith)) ∙ ap (λ i. get_or (or_at old at bytes) i 0) e)
    (λ (v : at + length bytes ≤ k). p.behind k (omega arith) ∙ sym (or_at_behind old at bytes k v))
    (cases_lt k (at + length bytes)))
    (cases_lt k at))

-- n bytes from a place on are zero, and all others stay
pub record Erased (old now : List ℕ) (at n : ℕ) : Type 0 where
  pub size : length now ≡ length old
  pub before : (k : ℕ) → k < at → get_or now k 0 ≡ get_or old k 0
  pub done : (k : ℕ) → at ≤ k → k < at + n → get_or now k 0 ≡ 0
  pub behind : (k : ℕ) → at + n ≤ k → get_or now k 0 ≡ get_or old k 0

pub erased-all : (old now : List ℕ) (at n : ℕ) → at + n ≤ length old → Erased old now at n → now ≡ zeros_at old at n
erased-all old now at n fits p =
    ext_get_or 0 now (zeros_at old at n) (p.size ∙ sym (length_zeros_at old at n fits)) (λ k h.
    ⊎_elim
    (λ (w : k < at). p.before k w ∙ sym (zeros_at_before old at n k fits w))
    (λ (w : at ≤ k). ⊎_elim
    (λ (v : k < at + n). p.done k w v ∙ sym (zeros_at_inside old at n k fits w v))
    (λ (v : at + n ≤ k). p.behind k v ∙ sym (zeros_at_behind old at n k fits v))
    (cases_lt k (at + n)))
    (cases_lt k at))
