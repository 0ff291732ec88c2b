-- Sums over the slots of a list, slot by slot.
use Rattle.std.proofs.Common.{◌≡◌, ℕ, zero, suc, ◌+◌, ◌<◌, ◌≤◌, List, [], ◌∷◌, length, map, take, get_or, Option, ap, ◌∙◌, arith}
use Rattle.afl_base.specs.Files.{Table}
use Rattle.db_model.specs.Cost.{sum}
use Rattle.tuple_file.specs.declared.tuples.Tuples.{Tuples}
use Rattle.session_model.specs.declared.held.Indexed.{Indexed}
use Rattle.session_start.specs.Reads.{all_reads, all_slots, index_reads, slots_of_relation}

sum_next : {A : Type 0} (f : A → ℕ) (xs : List A) (n : ℕ) (d : A) → n < length xs → sum (map f (take (n + 1) xs)) ≡ sum (map f (take n xs)) + f (get_or xs n d)
sum_next f [] n d h = absurd (omega (arith, h))
sum_next f (x ∷ xs) zero d h = omega arith
sum_next f (x ∷ xs) (suc n) d h =
    let more : suc n + 1 ≡ suc (n + 1) = omega arith in
    let rest = sum_next f xs n d (omega (arith, h)) in
    let all : f x + sum (map f (take (n + 1) xs)) ≡ f x + sum (map f (take n xs)) + f (get_or xs n d) = omega (arith, rest) in
    ap (λ (k : ℕ). sum (map f (take k (x ∷ xs)))) more ∙ all

sum_within : {A : Type 0} (f : A → ℕ) (xs : List A) (n : ℕ) → sum (map f (take n xs)) ≤ sum (map f xs)
sum_within f xs zero = omega arith
sum_within f [] (suc n) = omega arith
sum_within f (x ∷ xs) (suc n) = omega (arith, sum_within f xs n)

module _ (files : Table) (relations : List (Option Tuples)) where
  pub slots_next : (n : ℕ) (d : Option Tuples) → n < length relations → all_slots files (take (n + 1) relations) ≡ all_slots files (take n relations) + slots_of_relation files (get_or relations n d)
  unfolding all_slots
  slots_next n d h = sum_next (slots_of_relation files) relations n d h

  pub slots_within : (n : ℕ) → all_slots files (take n relations) ≤ all_slots files relations
  unfolding all_slots
  slots_within n = sum_within (slots_of_relation files) relations n

  pub reads_next : (indexes : List (Option Indexed)) (n : ℕ) (d : Option Indexed) → n < length indexes
      → all_reads files relations (take (n + 1) indexes) ≡ all_reads files relations (take n indexes) + index_reads files relations (get_or indexes n d)
  unfolding all_reads
  reads_next indexes n d h = sum_next (index_reads files relations) indexes n d h

  pub reads_within : (indexes : List (Option Indexed)) (n : ℕ) → all_reads files relations (take n indexes) ≤ all_reads files relations indexes
  unfolding all_reads
  reads_within indexes n = sum_within (index_reads files relations) indexes n
