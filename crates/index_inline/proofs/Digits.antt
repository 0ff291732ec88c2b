-- A halving takes one of the digits of what is left.
use Rattle.std.proofs.Common.{◌≡◌, ◌≤◌, ◌<◌, ◌+◌, ◌/◌, ℕ, zero, suc, refl, arith}
use Rattle.db_model.specs.Cost.{halvings, bits}

halvings_grow : (f g v w : ℕ) → v ≤ w → f ≤ g → halvings f v ≤ halvings g w
halvings_grow zero g v w h k = omega arith
halvings_grow (suc f) zero v w h k = omega arith
halvings_grow (suc f) (suc g) zero w h k = omega arith
halvings_grow (suc f) (suc g) (suc v) zero h k = omega arith
halvings_grow (suc f) (suc g) (suc v) (suc w) h k =
    let deep : halvings f (suc v / 2) ≤ halvings g (suc w / 2) = halvings_grow f g (suc v / 2) (suc w / 2) (omega arith) (omega arith) in
    omega arith

pub bits_less : (v w : ℕ) → 0 < w → v ≤ w / 2 → bits v + 1 ≤ bits w
unfolding bits
bits_less v zero h k = omega arith
bits_less v (suc w) h k =
    let deep : halvings v v ≤ halvings w (suc w / 2) = halvings_grow v w v (suc w / 2) (omega arith) (omega arith) in
    omega arith

pub bits_grow : (v w : ℕ) → v ≤ w → bits v ≤ bits w
unfolding bits
bits_grow v w h = halvings_grow v w v w h h

pub bits_none : bits 0 ≡ 0
unfolding bits
bits_none = refl
