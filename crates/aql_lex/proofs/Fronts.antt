-- When only white space is left.
use Rattle.std.proofs.Common.{ℕ, ◌+◌, ◌&&◌, ◌≤◌, List, [], ◌∷◌, length, Bool, true, false, cond, refl, arith, IsTrue}
use Rattle.std.specs.List.{prefix_len, list_all}

-- where the run that passes is all, all pass
pub all_pass : (p : ℕ → Bool) (bs : List ℕ) → length bs ≤ prefix_len p bs → IsTrue (list_all p bs)
all_pass p [] h = refl
all_pass p (b ∷ bs) h = go (p b) h (all_pass p bs)
  where
    go : (t : Bool) → length (b ∷ bs) ≤ cond t (1 + prefix_len p bs) 0 → (length bs ≤ prefix_len p bs → IsTrue (list_all p bs)) → IsTrue (t && list_all p bs)
    go true h rest = rest (omega arith)
    go false h rest = absurd (omega arith)
