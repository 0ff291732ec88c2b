-- Parts of an image that are all zero, piece by piece.
use Rattle.std.proofs.Common.{◌≡◌, ℕ, ◌+◌, ◌-◌, ◌≤◌, true, false, ◌==◌, List, [], ◌++◌, take, drop, slice_range, refl, ap, sym, ◌∙◌, arith}
use Rattle.std.proofs.lemmas.List.{drop-drop}
use Rattle.std.proofs.lemmas.List.Folds.{list_all-append}
use Rattle.flash_range.proofs.Ranges.{take_add}
use Rattle.padded.specs.Zeros.{is_zeros}

-- a part is a front part and what follows it
pub slice_split : (xs : List ℕ) (a b c : ℕ) → a ≤ b → b ≤ c → slice_range xs a c ≡ slice_range xs a b ++ slice_range xs b c
slice_split xs a b c low high =
    let e : c - a ≡ b - a + (c - b) = omega arith in
    let f : a + (b - a) ≡ b = omega arith in
    ap (λ n. take n (drop a xs)) e ∙ take_add (drop a xs) (b - a) (c - b)
    ∙ ap (λ t. take (b - a) (drop a xs) ++ take (c - b) t) (drop-drop (b - a) a xs ∙ ap (λ n. drop n xs) f)

-- behind a piece of zeros the rest decides
pub zeros_more : (xs : List ℕ) (a b c : ℕ) → a ≤ b → b ≤ c → is_zeros (slice_range xs a b) ≡ true → is_zeros (slice_range xs b c) ≡ is_zeros (slice_range xs a c)
zeros_more xs a b c low high zeros = sym (ap is_zeros (slice_split xs a b c low high) ∙ list_all-append (λ x. x == 0) (slice_range xs a b) (slice_range xs b c) ∙ (rw zeros refl))

-- a piece that is not zero decides
pub zeros_stop : (xs : List ℕ) (a b c : ℕ) → a ≤ b → b ≤ c → is_zeros (slice_range xs a b) ≡ false → is_zeros (slice_range xs a c) ≡ false
zeros_stop xs a b c low high stop = ap is_zeros (slice_split xs a b c low high) ∙ list_all-append (λ x. x == 0) (slice_range xs a b) (slice_range xs b c) ∙ (rw stop refl)
