-- What the tests of rows and indexes read, as the database says it.
use Rattle.std.proofs.Common.{◌≡◌, ◌≢◌, ℕ, zero, suc, ◌+◌, ◌*◌, ◌<◌, ◌≤◌, Bool, true, false, cond, ◌==◌, List, [], ◌∷◌, filter, length, map, get_or, replicate, Option, Some, None, if◌then◌else◌, refl, ap, sym, ◌∙◌, subst, arith}
use Rattle.std.specs.Prelude.{option_map}
use Rattle.std.specs.List.{range_with_len}
use Rattle.std.specs.Option.{option_map_or}
use Rattle.std.proofs.Math.Logic.{⊎_elim}
use Rattle.std.proofs.lemmas.Bool.{cases_eq, cases_lt}
use Rattle.std.proofs.lemmas.Bool.Decides.{nat_tests}
use Rattle.std.proofs.lemmas.List.{ext_get_or, get_or_past}
use Rattle.std.proofs.lemmas.List.FromFn.{get_or-map-range_with_len, length-map-range_with_len}
use Rattle.afl_base.specs.Files.{State, Table}
use Rattle.catalog.specs.Rules.{catalog_in}
use Rattle.db_model.specs.Catalog.{Index}
use Rattle.db_model.specs.Cost.{sum}
use Rattle.db_model.specs.Database.{Database, Relation, used_things}
use Rattle.db_model.specs.RunCost.{slots_opened}
use Rattle.padded.proofs.Facts.{seen_at}
use Rattle.stored.specs.Base.{base_of}
use Rattle.tuple_file.specs.declared.tuples.Tuples.{Tuples}
use Rattle.session_model.specs.declared.held.Held.{Held}
use Rattle.session_model.specs.declared.held.Indexed.{Indexed}
use Rattle.session_model.specs.Indexed.{index_known}
use Rattle.session_model.specs.View.{relation_of_rows, view}
use Rattle.session_start.specs.Found.{AreFilesFound, slots_held}
use Rattle.session_start.specs.Reads.{all_reads, all_slots, index_reads, slots_of_relation}
use Rattle.session_start.proofs.Opened.{base_is}
use Rattle.tuple_file.proofs.Columns.{rows_counted}

-- ---- sums over numbers

abbrev over : (ℕ → ℕ) → ℕ → ℕ → ℕ
over f a n = sum (map f (range_with_len a n))

over_same : (f g : ℕ → ℕ) → ((k : ℕ) → f k ≡ g k) → (a n : ℕ) → over f a n ≡ over g a n
over_same f g h a zero = refl
over_same f g h a (suc n) = omega (arith, h a, over_same f g h (a + 1) n)

over_sum : (f g : ℕ → ℕ) (a n : ℕ) → over (λ k. f k + g k) a n ≡ over f a n + over g a n
over_sum f g a zero = refl
over_sum f g a (suc n) = omega (arith, over_sum f g (a + 1) n)

-- f at one number, else 0
abbrev only : (ℕ → ℕ) → ℕ → ℕ → ℕ
only f r k = if r == k then f k else 0

only_here : (f : ℕ → ℕ) (r k : ℕ) → r ≡ k → only f r k ≡ f r
only_here f r k e = let t : (r == k) ≡ true = grind (arith, nat_tests) in rw t (ap f (sym e))

over_pick : (f : ℕ → ℕ) (r a n : ℕ) → a ≤ r → r < a + n → f r ≤ over (only f r) a n
over_pick f r a zero low high = absurd (omega (arith, low, high))
over_pick f r a (suc n) low high =
    ⊎_elim
    (λ (here : r ≡ a). let first = only_here f r a here in omega (arith, first))
    (λ (there : r ≢ a). let rest = over_pick f r (a + 1) n (omega (arith, low, there)) (omega (arith, high)) in omega (arith, rest))
    (cases_eq r a)

sum_through : {A : Type 0} (f : A → ℕ) (g : ℕ → A) (ks : List ℕ) → sum (map f (map g ks)) ≡ sum (map (λ k. f (g k)) ks)
sum_through f g [] = refl
sum_through f g (k ∷ ks) = omega (arith, sum_through f g ks)

as_listed : {A : Type 0} (xs : List (Option A)) → map (λ k. get_or xs k None) (range_with_len 0 (length xs)) ≡ xs
as_listed xs =
    let many = length-map-range_with_len (λ k. get_or xs k None) 0 (length xs) in
    ext_get_or None (map (λ k. get_or xs k None) (range_with_len 0 (length xs))) xs many
    (λ i h. get_or-map-range_with_len (λ k. get_or xs k None) 0 (length xs) i i None (omega (arith, h, many)) (omega arith))

-- ---- the slots of each relation, once for each of its indexes

abbrev many : List (Option Indexed) → ℕ → ℕ
many xs k = length (filter (λ (index : Index). index.relation == k) (used_things (map (option_map index_known) xs)))

module _ (files : Table) (relations : List (Option Tuples)) where
  abbrev slots_at : ℕ → ℕ
  slots_at k = slots_of_relation files (get_or relations k None)

  abbrev slots_of : Option Indexed → ℕ
  slots_of None = 0
  slots_of (Some x) = slots_at x.relation

  one_more : (x : Indexed) (xs : List (Option Indexed)) (k : ℕ) → slots_at k * (1 + many (Some x ∷ xs) k) ≡ slots_at k * (1 + many xs k) + only slots_at x.relation k
  one_more x xs k = by_test (x.relation == k) (filter (λ (index : Index). index.relation == k) (used_things (map (option_map index_known) xs)))
    where
      by_test : (b : Bool) (rest : List Index) → slots_at k * (1 + length (cond b (index_known x ∷ rest) rest)) ≡ slots_at k * (1 + length rest) + (if b then slots_at k else 0)
      by_test true rest = times_more (slots_at k) (length rest)
        where
          times_more : (n l : ℕ) → n * (1 + suc l) ≡ n * (1 + l) + n
          times_more n l = grind arith
      by_test false rest = omega arith

  picked : length relations ≡ 8 → (r : ℕ) → slots_at r ≤ over (only slots_at r) 0 8
  picked eight r =
      ⊎_elim
      (λ (less : r < 8). over_pick slots_at r 0 8 (omega arith) (omega (arith, less)))
      (λ (more : 8 ≤ r). let none : slots_at r ≡ 0 = ap (slots_of_relation files) (get_or_past relations r None (omega (arith, eight, more))) in omega (arith, none))
      (cases_lt r 8)

  counted : length relations ≡ 8 → (xs : List (Option Indexed)) → over slots_at 0 8 + sum (map slots_of xs) ≤ over (λ k. slots_at k * (1 + many xs k)) 0 8
  counted eight [] =
      let one : (n : ℕ) → n ≡ n * (1 + 0) = λ n. grind arith in
      let all = over_same slots_at (λ k. slots_at k * (1 + many [] k)) (λ k. one (slots_at k)) 0 8 in
      omega (arith, all)
  counted eight (None ∷ xs) = let rest = counted eight xs in omega (arith, rest)
  counted eight (Some x ∷ xs) =
      let rest = counted eight xs in
      let all = over_same (λ k. slots_at k * (1 + many (Some x ∷ xs) k)) (λ k. slots_at k * (1 + many xs k) + only slots_at x.relation k) (one_more x xs) 0 8 in
      let two = over_sum (λ k. slots_at k * (1 + many xs k)) (only slots_at x.relation) 0 8 in
      omega (arith, rest, all, two, picked eight x.relation)

  reads_counted : (xs : List (Option Indexed)) → sum (map (index_reads files relations) xs) ≤ 15 * sum (map slots_of xs) + 2048 * length xs
  reads_counted [] = omega arith
  reads_counted (None ∷ xs) = omega (arith, reads_counted xs)
  reads_counted (Some x ∷ xs) = omega (arith, reads_counted xs)

  slots_listed : length relations ≡ 8 → sum (map (slots_of_relation files) relations) ≡ over slots_at 0 8
  slots_listed eight =
      ap (λ (xs : List (Option Tuples)). sum (map (slots_of_relation files) xs)) (sym (as_listed relations))
      ∙ sum_through (slots_of_relation files) (λ k. get_or relations k None) (range_with_len 0 (length relations))
      ∙ ap (λ (n : ℕ). over slots_at 0 n) eight

-- ---- all of it

opened_at : (files : Table) (held : Held) (k : ℕ) → slots_opened (view files held (replicate 4 None)) k ≡ slots_of_relation files (get_or held.relations k None) * (1 + many held.indexes k)
opened_at files held k =
    ap (λ (o : Option Relation). option_map_or (λ (r : Relation). length r.rows * (1 + many held.indexes k)) o 0) (seen_at (relation_of_rows files) held.relations k)
    ∙ by_slot (get_or held.relations k None) (many held.indexes k)
  where
    by_slot : (o : Option Tuples) (m : ℕ) → option_map_or (λ (r : Relation). length r.rows * (1 + m)) (option_map (relation_of_rows files) o) 0 ≡ slots_of_relation files o * (1 + m)
    by_slot None m = grind arith
    by_slot (Some t) m = ap (λ (n : ℕ). n * (1 + m)) (rows_counted files t)

pub opening_reads : (files : Table) (held : Held) → length held.relations ≡ 8 → length held.indexes ≡ 8
    → 6 * all_slots files held.relations + all_reads files held.relations held.indexes ≤ 16384 + 16 * sum (map (slots_opened (view files held (replicate 4 None))) (range_with_len 0 8))
unfolding all_slots all_reads
opening_reads files held eight eight_indexes =
    let listed = slots_listed files held.relations eight in
    let reads = reads_counted files held.relations held.indexes in
    let all = counted files held.relations eight held.indexes in
    let same = over_same (slots_opened (view files held (replicate 4 None))) (λ k. slots_of_relation files (get_or held.relations k None) * (1 + many held.indexes k)) (opened_at files held) 0 8 in
    final (sum (map (slots_of_relation files) held.relations)) (sum (map (index_reads files held.relations) held.indexes)) (sum (map (slots_of files held.relations) held.indexes)) (over (slots_at files held.relations) 0 8)
    (over (λ k. slots_of_relation files (get_or held.relations k None) * (1 + many held.indexes k)) 0 8) (over (slots_opened (view files held (replicate 4 None))) 0 8) (length held.indexes) listed reads all same eight_indexes
  where
    final : (slots reads named each counted opened n : ℕ) → slots ≡ each → reads ≤ 15 * named + 2048 * n → each + named ≤ counted → opened ≡ counted → n ≡ 8 → 6 * slots + reads ≤ 16384 + 16 * opened
    final slots reads named each counted opened n a b c d e = omega (arith, a, b, c, d, e)

-- the catalog is read, and then all rows and indexes, or some of them
pub opened_within : (state : State) (held : Held) → AreFilesFound state held → slots_held held ≡ catalog_in state.files → (before loaded now : ℕ) → loaded ≤ before + 99
    → now ≤ loaded + 6 * all_slots state.files held.relations + all_reads state.files held.relations held.indexes
    → now ≤ before + 1024 + 16384 + 16 * sum (map (slots_opened (base_of state.files)) (range_with_len 0 8))
opened_within state held found same before loaded now catalog judged =
    let most = opening_reads state.files held found.eight found.eight_indexes in
    let sum_of = λ (db : Database). sum (map (slots_opened db) (range_with_len 0 8)) in
    subst (λ (db : Database). now ≤ before + 1024 + 16384 + 16 * sum_of db) (sym (base_is state held found same))
    (omega (arith, catalog, judged, most))
