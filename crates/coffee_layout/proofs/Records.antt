-- Tests of the records of a log, one by one.
use Rattle.std.proofs.Common.{◌≡◌, ℕ, ◌+◌, ◌≤◌, ◌<◌, Bool, true, ◌&&◌, cond, [], ◌∷◌, drop, refl, ap, ◌∙◌, arith}
use Rattle.std.specs.List.{list_all, prefix_len}
use Rattle.std.proofs.lemmas.List.{drop_more, drop_all}
use Rattle.std.proofs.lemmas.List.FromFn.{get_or-range_with_len}
use Rattle.coffee_layout.specs.FileBytes.{records}

-- the records from i on: i and those behind it
pub records_more : (i : ℕ) → i < 30 → drop i records ≡ i ∷ drop (i + 1) records
unfolding records
records_more i h = drop_more records i 0 h ∙ ap (λ k. k ∷ drop (i + 1) records) (get_or-range_with_len 0 30 i 0 h ∙ omega arith)

pub records_end : (i : ℕ) → 30 ≤ i → drop i records ≡ []
unfolding records
records_end i h = drop_all i records h

pub all_more : (t : ℕ → Bool) (i : ℕ) → i < 30 → list_all t (drop i records) ≡ t i && list_all t (drop (i + 1) records)
all_more t i h = rw (records_more i h) refl

pub all_end : (t : ℕ → Bool) (i : ℕ) → 30 ≤ i → list_all t (drop i records) ≡ true
all_end t i h = rw (records_end i h) refl

pub used_more : (t : ℕ → Bool) (i : ℕ) → i < 30 → prefix_len t (drop i records) ≡ cond (t i) (1 + prefix_len t (drop (i + 1) records)) 0
used_more t i h = rw (records_more i h) refl

pub used_end : (t : ℕ → Bool) (i : ℕ) → 30 ≤ i → prefix_len t (drop i records) ≡ 0
used_end t i h = rw (records_end i h) refl
