-- Lists of slots that tests pass, and what is read at them.
use Rattle.std.proofs.Common.{◌≡◌, ℕ, zero, suc, ◌+◌, ◌≤◌, Bool, true, false, cond, ◌&&◌, List, [], ◌∷◌, ◌++◌, length, map, get_or, filter, take, drop, refl, ap, sym, ◌∙◌, subst, arith}
use Rattle.std.specs.List.{range_with_len}
use Rattle.db_model.specs.declared.values.Value.{Value}
use Rattle.db_model.specs.Answers.{live_tuples}
use Rattle.db_model.specs.Row.{Row, no_row}
use Rattle.cursor.specs.Remaining.{is_live_and, passing, tuples_at}

-- ---- one step of a filter

pub kept : {X : Type 0} (b : Bool) (x : X) (ys : List X) → b ≡ true → cond b (x ∷ ys) ys ≡ x ∷ ys
kept true x ys e = refl
kept false x ys e = absurd (cc)

pub passed_over : {X : Type 0} (b : Bool) (x : X) (ys : List X) → b ≡ false → cond b (x ∷ ys) ys ≡ ys
passed_over false x ys e = refl
passed_over true x ys e = absurd (cc)

both_steps : {X : Type 0} (b c : Bool) (x : X) (ys zs : List X) → b ≡ c → ys ≡ zs → cond b (x ∷ ys) ys ≡ cond c (x ∷ zs) zs
both_steps true true x ys zs e same = ap (λ (l : List _). x ∷ l) same
both_steps false false x ys zs e same = same
both_steps true false x ys zs e same = absurd (cc)
both_steps false true x ys zs e same = absurd (cc)

-- ---- filters of filters

-- a test that passes less passes the same of what another passes
weaker_step : {X : Type 0} (m : X → Bool) (p : Bool) (x : X) (ys zs : List X) → (m x ≡ true → p ≡ true) → filter m ys ≡ filter m zs → filter m (cond p (x ∷ ys) ys) ≡ filter m (x ∷ zs)
weaker_step m true x ys zs h same = both_steps (m x) (m x) x (filter m ys) (filter m zs) refl same
weaker_step m false x ys zs h same = same ∙ sym (passed_over (m x) x (filter m zs) (never (m x) h))
  where
    never : (b : Bool) → (b ≡ true → false ≡ true) → b ≡ false
    never false k = refl
    never true k = sym (k refl)

pub filter_weaker : {X : Type 0} (m p : X → Bool) (xs : List X) → ((x : X) → m x ≡ true → p x ≡ true) → filter m (filter p xs) ≡ filter m xs
filter_weaker m p [] h = refl
filter_weaker m p (x ∷ xs) h = weaker_step m (p x) x (filter p xs) xs (h x) (filter_weaker m p xs h)

-- two tests in either order
swap_step : {X : Type 0} (p q : X → Bool) (b c : Bool) (x : X) (ps qs : List X) → p x ≡ b → q x ≡ c → filter p qs ≡ filter q ps → filter p (cond c (x ∷ qs) qs) ≡ filter q (cond b (x ∷ ps) ps)
swap_step p q true true x ps qs e f same = kept (p x) x (filter p qs) e ∙ ap (λ (l : List _). x ∷ l) same ∙ sym (kept (q x) x (filter q ps) f)
swap_step p q true false x ps qs e f same = same ∙ sym (passed_over (q x) x (filter q ps) f)
swap_step p q false true x ps qs e f same = passed_over (p x) x (filter p qs) e ∙ same
swap_step p q false false x ps qs e f same = same

pub filter_swap : {X : Type 0} (p q : X → Bool) (xs : List X) → filter p (filter q xs) ≡ filter q (filter p xs)
filter_swap p q [] = refl
filter_swap p q (x ∷ xs) = swap_step p q (p x) (q x) x (filter p xs) (filter q xs) refl refl (filter_swap p q xs)

-- ---- what is read at slots

pub at_front : {X : Type 0} (xs : List X) (a k : ℕ) (d : X) → a + suc k ≤ length xs → take (suc k) (drop a xs) ≡ get_or xs a d ∷ take k (drop (a + 1) xs)
at_front [] a k d h = absurd (omega arith)
at_front (x ∷ xs) zero k d h = refl
at_front (x ∷ xs) (suc a) k d h =
    let e : suc (a + 1) ≡ suc a + 1 = omega arith in
    subst (λ (n : ℕ). take (suc k) (drop a xs) ≡ get_or xs a d ∷ take k (drop n (x ∷ xs))) e (at_front xs a k d (omega arith))

module _ {X Y : Type 0} (f : X → Y) (p : X → Bool) (d : X) where
  read_step : (b : Bool) (xs : List X) (a : ℕ) (rest : List ℕ) (ys : List X) → map (λ s. f (get_or xs s d)) rest ≡ map f ys
      → map (λ s. f (get_or xs s d)) (cond b (a ∷ rest) rest) ≡ map f (cond b (get_or xs a d ∷ ys) ys)
  read_step true xs a rest ys same = ap (λ (l : List Y). f (get_or xs a d) ∷ l) same
  read_step false xs a rest ys same = same

  -- what is read at the slots that pass, in the part of a list that they are of
  pub read_at : (xs : List X) (a k : ℕ) → a + k ≤ length xs → map (λ s. f (get_or xs s d)) (filter (λ s. p (get_or xs s d)) (range_with_len a k)) ≡ map f (filter p (take k (drop a xs)))
  read_at xs a zero h = refl
  read_at xs a (suc k) h =
      read_step (p (get_or xs a d)) xs a (filter (λ s. p (get_or xs s d)) (range_with_len (a + 1) k)) (filter p (take k (drop (a + 1) xs))) (read_at xs (a + 1) k (omega arith))
      ∙ ap (λ (l : List X). map f (filter p l)) (sym (at_front xs a k d h))

-- the live tuples that pass a test are those of the live rows that do
live_step : (test : List Value → Bool) (row : Row) (b : Bool) (ys : List (List Value)) (zs : List Row) → row.live ≡ b → ys ≡ map (λ (r : Row). r.tuple) zs
    → filter test (cond b (row.tuple ∷ []) []) ++ ys ≡ map (λ (r : Row). r.tuple) (cond (b && test row.tuple) (row ∷ zs) zs)
live_step test row false ys zs e same = same
live_step test row true ys zs e same = here (test row.tuple)
  where
    here : (c : Bool) → cond c (row.tuple ∷ []) [] ++ ys ≡ map (λ (r : Row). r.tuple) (cond c (row ∷ zs) zs)
    here true = ap (λ (l : List (List Value)). row.tuple ∷ l) same
    here false = same

by_live : (test : List Value → Bool) (b : Bool) (t : List Value) (ts : List (List Value)) → filter test (cond b (t ∷ ts) ts) ≡ filter test (cond b (t ∷ []) []) ++ filter test ts
by_live test false t ts = refl
by_live test true t ts = here (test t)
  where
    here : (c : Bool) → cond c (t ∷ filter test ts) (filter test ts) ≡ cond c (t ∷ []) [] ++ filter test ts
    here true = refl
    here false = refl

pub live_filter : (test : List Value → Bool) (rows : List Row) → filter test (live_tuples rows) ≡ map (λ (r : Row). r.tuple) (filter (is_live_and test) rows)
live_filter test [] = refl
live_filter test (row ∷ rows) =
    by_live test row.live row.tuple (live_tuples rows)
    ∙ live_step test row row.live (filter test (live_tuples rows)) (filter (is_live_and test) rows) refl (live_filter test rows)

-- the live tuples of part of some rows that pass a test, by their slots
pub live_at : (test : List Value → Bool) (all : List Row) (a k : ℕ) → a + k ≤ length all → tuples_at (passing test all (range_with_len a k)) all ≡ filter test (live_tuples (take k (drop a all)))
live_at test all a k h = read_at (λ (r : Row). r.tuple) (is_live_and test) no_row all a k h ∙ sym (live_filter test (take k (drop a all)))
