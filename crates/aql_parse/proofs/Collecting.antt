-- Items that are collected one by one, at most 8.
use Rattle.std.proofs.Common.{◌≡◌, ◌<◌, ◌≤◌, Bool, true, false, List, [], ◌++◌, length, Some, None, refl, sym, ◌∙◌, ap, append-nil, arith, nat_le, if◌then◌else◌}
use Rattle.std.proofs.lemmas.Bool.Decides.{nat_tests}
use Rattle.aql_parse.specs.Built.{at_most_8}

-- the items so far and those to come are all
pub record Collecting {A : Type 0} (so_far rest all : List A) : Type 0 where
  pub joined : so_far ++ rest ≡ all
  pub few : length so_far ≤ 8

pub within : {A : Type 0} (xs : List A) (b : Bool) → nat_le (length xs) 8 ≡ b → length xs ≤ 8 → b ≡ true
within xs true e h = refl
within xs false e h = absurd (grind (arith, nat_tests))

beyond : {A : Type 0} (xs : List A) (b : Bool) → nat_le (length xs) 8 ≡ b → 8 < length xs → b ≡ false
beyond xs false e h = refl
beyond xs true e h = absurd (grind (arith, nat_tests))

pub collected : {A : Type 0} (so_far rest all : List A) → Collecting so_far rest all → rest ≡ [] → Some so_far ≡ at_most_8 all
collected so_far rest all c e =
    let same : so_far ≡ all = sym (append-nil so_far) ∙ ap (λ r. so_far ++ r) (sym e) ∙ c.joined in
    let few : length all ≤ 8 = omega (arith, ap length same, c.few) in
    ap (λ x. Some x) same ∙ sym (ap (λ b. if b then Some all else None) (within all (nat_le (length all) 8) refl few))
