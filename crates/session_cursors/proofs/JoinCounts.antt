-- How many pairs are to come: those of each left slot, one after the other.
use Rattle.std.proofs.Common.{◌≡◌, ℕ, zero, suc, ◌+◌, ◌-◌, ◌<◌, ◌≤◌, Bool, true, false, cond, List, [], ◌∷◌, ◌++◌, length, map, drop, filter, flat_map, get_or, replicate, slice_get, refl, ap, sym, ◌∙◌, subst, arith}
use Rattle.std.specs.List.{range_with_len}
use Rattle.std.proofs.Math.Logic.{⊎_elim}
use Rattle.std.proofs.lemmas.Bool.{cases_eq}
use Rattle.std.proofs.lemmas.List.Concat.{flat_map-cons}
use Rattle.db_model.specs.declared.values.Value.{Value}
use Rattle.db_model.specs.Ahead.{partners}
use Rattle.db_model.specs.Answers.{live_tuples, same_value}
use Rattle.db_model.specs.Cost.{sum}
use Rattle.db_model.specs.Row.{Row, no_row}

-- ---- the partners behind one of them are fewer

fewer_behind : (f : List Value → Bool) (b c : Bool) (t : List Value) (xs : List (List Value)) → f t ≡ c → length (filter f xs) ≤ length (filter f (cond b (t ∷ xs) xs))
fewer_behind f false c t xs e = omega arith
fewer_behind f true true t xs e = subst (λ (m : Bool). length (filter f xs) ≤ length (cond m (t ∷ filter f xs) (filter f xs))) (sym e) (omega arith)
fewer_behind f true false t xs e = subst (λ (m : Bool). length (filter f xs) ≤ length (cond m (t ∷ filter f xs) (filter f xs))) (sym e) (omega arith)

pub one_more : (f : List Value → Bool) (rights : List Row) (i : ℕ) (right : List Value) → i < length rights → get_or rights i no_row ≡ record { tuple = right; live = true } → f right ≡ true
    → 1 + length (filter f (live_tuples (drop (i + 1) rights))) ≤ length (filter f (live_tuples rights))
one_more f [] i right below is passes = absurd (omega arith)
one_more f (r ∷ rights) zero right below is passes =
    subst (λ (x : Row). 1 + length (filter f (live_tuples rights)) ≤ length (filter f (live_tuples (x ∷ rights)))) (sym is)
    (subst (λ (m : Bool). 1 + length (filter f (live_tuples rights)) ≤ length (cond m (right ∷ filter f (live_tuples rights)) (filter f (live_tuples rights)))) (sym passes) (omega arith))
one_more f (r ∷ rights) (suc i) right below is passes =
    let rest = one_more f rights i right (omega (arith, below)) is passes in
    let next : suc i + 1 ≡ suc (i + 1) = omega arith in
    let same : length (filter f (live_tuples (drop (suc i + 1) (r ∷ rights)))) ≡ length (filter f (live_tuples (drop (i + 1) rights))) = ap (λ (n : ℕ). length (filter f (live_tuples (drop n (r ∷ rights))))) next in
    omega (arith, rest, same, fewer_behind f r.live (f r.tuple) r.tuple (live_tuples rights) refl)

-- and those behind any slot
behind_fewer : (f : List Value → Bool) (i : ℕ) (rights : List Row) → length (filter f (live_tuples (drop i rights))) ≤ length (filter f (live_tuples rights))
behind_fewer f zero rights = omega arith
behind_fewer f (suc i) [] = omega arith
behind_fewer f (suc i) (r ∷ rights) = omega (arith, behind_fewer f i rights, fewer_behind f r.live (f r.tuple) r.tuple (live_tuples rights) refl)

live_fewer : (b : Bool) (m n : ℕ) → m ≤ n → cond b m 0 ≤ cond b n 0
live_fewer true m n h = h
live_fewer false m n h = omega arith

pub partners_behind : (on : ℕ × ℕ) (i : ℕ) (rights : List Row) (l : Row) → partners on (drop i rights) l ≤ partners on rights l
partners_behind on i rights l =
    let f : List Value → Bool = λ r. same_value (slice_get l.tuple on.0) (slice_get r on.1) in
    live_fewer l.live (length (filter f (live_tuples (drop i rights)))) (length (filter f (live_tuples rights))) (behind_fewer f i rights)

-- the first of the pairs to come is one of equal values
front_passes : (f : List Value × List Value → Bool) (b : Bool) (p q : List Value × List Value) (xs ys zs : List (List Value × List Value)) → f q ≡ b → cond b (q ∷ xs) xs ++ ys ≡ p ∷ zs → (xs ++ ys ≡ p ∷ zs → f p ≡ true) → f p ≡ true
front_passes f true p q xs ys zs e is later = let same : q ≡ p = cc in ap f (sym same) ∙ e
front_passes f false p q xs ys zs e is later = later is

last_passes : (f : List Value × List Value → Bool) (p : List Value × List Value) (ys zs : List (List Value × List Value)) → filter f ys ≡ p ∷ zs → f p ≡ true
last_passes f p [] zs e = absurd (cc)
last_passes f p (q ∷ ys) zs e = by_test (f q) refl e (λ h. last_passes f p ys zs h)
  where
    by_test : (b : Bool) → f q ≡ b → cond b (q ∷ filter f ys) (filter f ys) ≡ p ∷ zs → (filter f ys ≡ p ∷ zs → f p ≡ true) → f p ≡ true
    by_test true h is later = let same : q ≡ p = cc in ap f (sym same) ∙ h
    by_test false h is later = later is

pub head_passes : (f : List Value × List Value → Bool) (p : List Value × List Value) (xs ys zs : List (List Value × List Value)) → filter f xs ++ filter f ys ≡ p ∷ zs → f p ≡ true
head_passes f p [] ys zs e = last_passes f p ys zs e
head_passes f p (q ∷ xs) ys zs e = front_passes f (f q) p q (filter f xs) (filter f ys) zs refl e (λ h. head_passes f p xs ys zs h)

-- ---- rows by their slots

pub rows_behind : (xs : List Row) (f : ℕ → Row) (n : ℕ) → ((i : ℕ) → f (n + i) ≡ get_or xs i no_row) → xs ≡ map f (range_with_len n (length xs))
rows_behind [] f n same = refl
rows_behind (x ∷ xs) f n same =
    let here : n + 0 ≡ n = omega arith in
    ap (λ (l : List Row). x ∷ l) (rows_behind xs f (n + 1) (λ i. let next : (n + 1) + i ≡ n + suc i = omega arith in ap f next ∙ same (suc i)))
    ∙ ap (λ (r : Row). r ∷ map f (range_with_len (n + 1) (length xs))) (sym (same 0) ∙ ap f here)

-- ---- the slots at which FETCHes stop, by the number of pairs of each

module _ (k : ℕ → ℕ) where
  abbrev pub stops_from : ℕ → ℕ → List ℕ
  stops_from from n = flat_map (λ slot. replicate (k slot) slot) (range_with_len from n)

  abbrev pub many_from : ℕ → ℕ → ℕ
  many_from from n = sum (map k (range_with_len from n))

  pub first_stops : (from n : ℕ) → stops_from from (suc n) ≡ replicate (k from) from ++ stops_from (from + 1) n
  first_stops from n = flat_map-cons (λ slot. replicate (k slot) slot) from (range_with_len (from + 1) n)

  pub no_stops : (from n : ℕ) → many_from from n ≡ 0 → stops_from from n ≡ []
  no_stops from zero e = refl
  no_stops from (suc n) e =
      let none : k from ≡ 0 = omega (arith, e) in
      let rest : many_from (from + 1) n ≡ 0 = omega (arith, e) in
      first_stops from n ∙ ap (λ (m : ℕ). replicate m from ++ stops_from (from + 1) n) none ∙ no_stops (from + 1) n rest

  -- slots without a pair are no stops
  pub skipped : (from j n : ℕ) → many_from from j ≡ 0 → stops_from from (j + n) ≡ stops_from (from + j) n
  skipped from zero n e =
      let here : from ≡ from + 0 = omega arith in
      let whole : 0 + n ≡ n = omega arith in
      ap (λ (m : ℕ). stops_from from m) whole ∙ ap (λ (m : ℕ). stops_from m n) here
  skipped from (suc j) n e =
      let none : k from ≡ 0 = omega (arith, e) in
      let rest : many_from (from + 1) j ≡ 0 = omega (arith, e) in
      let next : (from + 1) + j ≡ from + suc j = omega arith in
      let more : suc j + n ≡ suc (j + n) = omega arith in
      ap (λ (m : ℕ). stops_from from m) more ∙ first_stops from (j + n) ∙ ap (λ (m : ℕ). replicate m from ++ stops_from (from + 1) (j + n)) none ∙ skipped (from + 1) j n rest ∙ ap (λ (m : ℕ). stops_from m n) next

  pub many_split : (from j n : ℕ) → many_from from (j + n) ≡ many_from from j + many_from (from + j) n
  many_split from zero n =
      let here : from + 0 ≡ from = omega arith in
      let whole : 0 + n ≡ n = omega arith in
      omega (arith, ap (λ (m : ℕ). many_from from m) whole, ap (λ (m : ℕ). many_from m n) here)
  many_split from (suc j) n =
      let next : (from + 1) + j ≡ from + suc j = omega arith in
      let more : suc j + n ≡ suc (j + n) = omega arith in
      omega (arith, many_split (from + 1) j n, ap (λ (m : ℕ). many_from from m) more, ap (λ (m : ℕ). many_from m n) next)

  -- the pair was of a slot behind: this is the first that has pairs
  pub stop_behind : (at end b a a_now : ℕ) → at < b → b < end → a + many_from (at + 1) (end - (at + 1)) ≡ 1 + (a_now + many_from (b + 1) (end - (b + 1))) → 1 + a_now ≤ k b
      → replicate a at ++ stops_from (at + 1) (end - (at + 1)) ≡ b ∷ (replicate a_now b ++ stops_from (b + 1) (end - (b + 1)))
  stop_behind at end b a a_now later below counted some =
      let j : ℕ = b - (at + 1) in
      let m : ℕ = end - (b + 1) in
      let whole : end - (at + 1) ≡ j + suc m = omega (arith, later, below) in
      let there : (at + 1) + j ≡ b = omega (arith, later) in
      let parts : many_from (at + 1) (end - (at + 1)) ≡ many_from (at + 1) j + many_from b (suc m) =
      ap (λ (n : ℕ). many_from (at + 1) n) whole ∙ many_split (at + 1) j (suc m) ∙ ap (λ (n : ℕ). many_from (at + 1) j + many_from n (suc m)) there in
      let none : a ≡ 0 = omega (arith, counted, parts, some) in
      let skip : many_from (at + 1) j ≡ 0 = omega (arith, counted, parts, some) in
      let left : k b ≡ suc a_now = omega (arith, counted, parts, some) in
      ap (λ (n : ℕ). replicate n at ++ stops_from (at + 1) (end - (at + 1))) none
      ∙ ap (λ (n : ℕ). stops_from (at + 1) n) whole
      ∙ skipped (at + 1) j (suc m) skip
      ∙ ap (λ (n : ℕ). stops_from n (suc m)) there
      ∙ first_stops b m
      ∙ ap (λ (n : ℕ). replicate n b ++ stops_from (b + 1) m) left

  -- a stop is one of the slots
  record Within (from n stop : ℕ) : Type 0 where
    after : from ≤ stop
    before : stop < from + n

  first_within : (from n m stop : ℕ) (rest : List ℕ) → replicate m from ++ stops_from (from + 1) n ≡ stop ∷ rest → (stops_from (from + 1) n ≡ stop ∷ rest → Within (from + 1) n stop) → Within from (suc n) stop
  first_within from n zero stop rest e later = let w = later e in record { after = omega (arith, w.after); before = omega (arith, w.before) }
  first_within from n (suc m) stop rest e later = let same : from ≡ stop = cc in record { after = omega (arith, same); before = omega (arith, same) }

  stop_within : (from n stop : ℕ) (rest : List ℕ) → stops_from from n ≡ stop ∷ rest → Within from n stop
  stop_within from zero stop rest e = absurd (cc)
  stop_within from (suc n) stop rest e = first_within from n (k from) stop rest (sym (first_stops from n) ∙ e) (λ h. stop_within (from + 1) n stop rest h)

  -- where no pair was passed up to a slot, the next stop is there or behind
  pub stop_beyond : (at end b a a_now stop : ℕ) (rest : List ℕ) → at ≤ b → b < end → a + many_from (at + 1) (end - (at + 1)) ≡ a_now + many_from (b + 1) (end - (b + 1)) → a_now ≤ k b
      → replicate a at ++ stops_from (at + 1) (end - (at + 1)) ≡ stop ∷ rest → (b ≤ stop) × (stop < end)
  stop_beyond at end b a a_now stop rest later below counted few e =
      ⊎_elim
      (λ (same : b ≡ at).
      let w = first_within at (end - (at + 1)) a stop rest e (λ h. stop_within (at + 1) (end - (at + 1)) stop rest h) in
      (omega (arith, same, w.after), omega (arith, w.before, later, below)))
      (λ other.
      let j : ℕ = b - (at + 1) in
      let m : ℕ = end - (b + 1) in
      let whole : end - (at + 1) ≡ j + suc m = omega (arith, later, below, other) in
      let there : (at + 1) + j ≡ b = omega (arith, later, other) in
      let parts : many_from (at + 1) (end - (at + 1)) ≡ many_from (at + 1) j + many_from b (suc m) =
      ap (λ (n : ℕ). many_from (at + 1) n) whole ∙ many_split (at + 1) j (suc m) ∙ ap (λ (n : ℕ). many_from (at + 1) j + many_from n (suc m)) there in
      let none : a ≡ 0 = omega (arith, counted, parts, few) in
      let skip : many_from (at + 1) j ≡ 0 = omega (arith, counted, parts, few) in
      let passed : replicate a at ++ stops_from (at + 1) (end - (at + 1)) ≡ stops_from b (suc m) =
      ap (λ (n : ℕ). replicate n at ++ stops_from (at + 1) (end - (at + 1))) none
      ∙ ap (λ (n : ℕ). stops_from (at + 1) n) whole ∙ skipped (at + 1) j (suc m) skip ∙ ap (λ (n : ℕ). stops_from n (suc m)) there in
      let w = stop_within b (suc m) stop rest (sym passed ∙ e) in
      (w.after, omega (arith, w.before, below)))
      (cases_eq b at)

-- ---- the numbers from one on

pub drop_range : (n a m : ℕ) → drop n (range_with_len a m) ≡ range_with_len (a + n) (m - n)
drop_range zero a m =
    let same : a ≡ a + 0 = omega arith in
    let whole : m ≡ m - 0 = omega arith in
    ap (λ (b : ℕ). range_with_len b m) same ∙ ap (λ (n : ℕ). range_with_len (a + 0) n) whole
drop_range (suc n) a zero = let none : 0 ≡ 0 - suc n = omega arith in ap (λ (m : ℕ). range_with_len (a + suc n) m) none
drop_range (suc n) a (suc m) =
    let b : (a + 1) + n ≡ a + suc n = omega arith in
    let left : m - n ≡ suc m - suc n = omega arith in
    drop_range n (a + 1) m ∙ ap (λ (x : ℕ). range_with_len x (m - n)) b ∙ ap (λ (x : ℕ). range_with_len (a + suc n) x) left
