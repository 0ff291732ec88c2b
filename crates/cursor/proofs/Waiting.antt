-- What cursors have still to answer, where rows come behind the others.
use Rattle.std.proofs.Common.{◌≡◌, ℕ, zero, suc, ◌+◌, ◌-◌, ◌<◌, ◌≤◌, Bool, true, false, cond, ◌&&◌, List, [], ◌∷◌, ◌++◌, length, map, get_or, filter, take, drop, refl, ap, sym, ◌∙◌, arith, slice_get}
use Rattle.std.specs.Prelude.{flat_map}
use Rattle.std.specs.List.{range_with_len}
use Rattle.std.proofs.lemmas.List.{ext_get_or, get_or-take, length-take-le}
use Rattle.std.proofs.lemmas.List.Concat.{flat_map-cons}
use Rattle.db_model.specs.declared.values.Value.{Value}
use Rattle.db_model.specs.Answers.{live_tuples, same_value}
use Rattle.db_model.specs.Row.{Row, no_row}
use Rattle.index_set.specs.Walks.{RowsGrow, Waits, search_takes}
use Rattle.index_set.proofs.Grown.{tests_same}
use Rattle.cursor.specs.declared.join.JoinCursor.{JoinCursor}
use Rattle.cursor.specs.declared.select.SelectCursor.{SelectCursor}
use Rattle.cursor.specs.Pairs.{lefts_of, matching, pairs_left, rights_of}
use Rattle.cursor.specs.Remaining.{is_live_and, passes_code, remaining, slots_to_answer}
use Rattle.cursor.proofs.Joins.{all_passed}

-- ---- one relation

both_step : (m : ℕ → Bool) (b : Bool) (x : ℕ) (ys zs : List ℕ) → filter m ys ≡ zs → filter m (cond b (x ∷ ys) ys) ≡ cond (b && m x) (x ∷ zs) zs
both_step m false x ys zs e = e
both_step m true x ys zs e = here (m x)
  where
    here : (c : Bool) → cond c (x ∷ filter m ys) (filter m ys) ≡ cond c (x ∷ zs) zs
    here true = ap (λ (l : List ℕ). x ∷ l) e
    here false = e

filter_both : (m g : ℕ → Bool) (xs : List ℕ) → filter m (filter g xs) ≡ filter (λ x. g x && m x) xs
filter_both m g [] = refl
filter_both m g (x ∷ xs) = both_step m (g x) x (filter g xs) (filter (λ x. g x && m x) xs) (filter_both m g xs)

pub reads_step : (f h : ℕ → List Value) (b : Bool) (a : ℕ) (xs : List ℕ) → f a ≡ h a → map f xs ≡ map h xs → map f (cond b (a ∷ xs) xs) ≡ map h (cond b (a ∷ xs) xs)
reads_step f h true a xs here rest = λ i. here i ∷ rest i
reads_step f h false a xs here rest = rest

reads_same : (p : ℕ → Bool) (f h : ℕ → List Value) (a n m : ℕ) → a + n ≤ m → ((i : ℕ) → i < m → f i ≡ h i) → map f (filter p (range_with_len a n)) ≡ map h (filter p (range_with_len a n))
reads_same p f h a zero m few same = refl
reads_same p f h a (suc n) m few same = reads_step f h (p a) a (filter p (range_with_len (a + 1) n)) (same a (omega arith)) (reads_same p f h (a + 1) n m (omega arith) same)

-- a slot that is left
picks : SelectCursor → List Row → ℕ → Bool
picks c all slot = search_takes c.candidates.search (get_or all slot no_row) && is_live_and (passes_code c.code) (get_or all slot no_row)

picked : (c : SelectCursor) (all : List Row) → slots_to_answer c all ≡ filter (picks c all) (range_with_len c.candidates.from (c.candidates.slots - c.candidates.from))
unfolding picks
picked c all =
    filter_both (λ slot. is_live_and (passes_code c.code) (get_or all slot no_row)) (λ slot. search_takes c.candidates.search (get_or all slot no_row))
    (range_with_len c.candidates.from (c.candidates.slots - c.candidates.from))

module _ (c : SelectCursor) (old new : List Row) (grow : RowsGrow old new) (w : Waits c.candidates old) where
  few : c.candidates.from + (c.candidates.slots - c.candidates.from) ≤ length old
  few = omega (arith, w.few, c.candidates.order, c.candidates.within)

  pub slots_kept : slots_to_answer c new ≡ slots_to_answer c old
  unfolding picks
  slots_kept =
      picked c new
      ∙ tests_same (picks c new) (picks c old) c.candidates.from (c.candidates.slots - c.candidates.from) (length old) few
      (λ i below. ap (λ (r : Row). search_takes c.candidates.search r && is_live_and (passes_code c.code) r) (grow.same i below))
      ∙ sym (picked c old)

  pub remaining_kept : remaining c new ≡ remaining c old
  remaining_kept =
      ap (map (λ (slot : ℕ). (get_or new slot no_row).tuple)) (slots_kept ∙ picked c old)
      ∙ reads_same (picks c old) (λ slot. (get_or new slot no_row).tuple) (λ slot. (get_or old slot no_row).tuple) c.candidates.from (c.candidates.slots - c.candidates.from) (length old) few
      (λ i below. ap (λ (r : Row). r.tuple) (grow.same i below))
      ∙ ap (map (λ (slot : ℕ). (get_or old slot no_row).tuple)) (sym (picked c old))

pub remaining_none : (c : SelectCursor) (all : List Row) → c.candidates.slots ≡ 0 → remaining c all ≡ []
remaining_none c all e =
    let none : c.candidates.slots - c.candidates.from ≡ 0 = omega (arith, e) in
    ap (map (λ (slot : ℕ). (get_or all slot no_row).tuple)) (picked c all ∙ ap (λ (n : ℕ). filter (picks c all) (range_with_len c.candidates.from n)) none)

-- ---- two relations

take_kept : (n : ℕ) (old new : List Row) → RowsGrow old new → n ≤ length old → take n new ≡ take n old
take_kept n old new grow few =
    let long : length (take n new) ≡ n = length-take-le n new (omega (arith, few, grow.more)) in
    let short : length (take n old) ≡ n = length-take-le n old few in
    ext_get_or no_row (take n new) (take n old) (long ∙ sym short)
    (λ i below.
    let inside : i < n = omega (arith, below, long) in
    get_or-take n new i no_row inside ∙ grow.same i (omega (arith, inside, few)) ∙ sym (get_or-take n old i no_row inside))

pub pairs_kept : (c : JoinCursor) (lefts lefts_now rights rights_now : List Row) → RowsGrow lefts lefts_now → RowsGrow rights rights_now → c.left_slots ≤ length lefts → c.right_slots ≤ length rights
    → pairs_left c lefts_now rights_now ≡ pairs_left c lefts rights
pairs_kept c lefts lefts_now rights rights_now l r few_l few_r =
    let ls = take_kept c.left_slots lefts lefts_now l few_l in
    let rs = take_kept c.right_slots rights rights_now r few_r in
    λ i. matching c.left_on c.right_on (take 1 (drop c.at (ls i))) (drop c.from (rs i)) ++ matching c.left_on c.right_on (drop (c.at + 1) (ls i)) (rs i)

pub left_none : (c : JoinCursor) (lefts rights : List Row) → c.left_slots ≡ 0 → pairs_left c lefts rights ≡ []
left_none c lefts rights e = all_passed c lefts rights (omega (arith, e))

flat_none : (xs : List (List Value)) → flat_map {A = List Value × List Value} (λ (x : List Value). map (λ (y : List Value). (x, y)) []) xs ≡ []
flat_none [] = refl
flat_none (x ∷ xs) = flat_map-cons {A = List Value × List Value} (λ (x : List Value). map (λ (y : List Value). (x, y)) []) x xs ∙ flat_none xs

no_rights : (left_on right_on : ℕ) (lefts rights : List Row) → rights ≡ [] → matching left_on right_on lefts rights ≡ []
no_rights left_on right_on lefts rights e =
    ap (matching left_on right_on lefts) e
    ∙ ap (filter (λ (pair : List Value × List Value). same_value (slice_get pair.0 left_on) (slice_get pair.1 right_on))) (flat_none (live_tuples lefts))

drop_none : (n : ℕ) → drop {A = Row} n [] ≡ []
drop_none zero = refl
drop_none (suc n) = refl

pub right_none : (c : JoinCursor) (lefts rights : List Row) → c.right_slots ≡ 0 → pairs_left c lefts rights ≡ []
right_none c lefts rights e =
    let none : rights_of c rights ≡ [] = ap (λ (n : ℕ). take n rights) e in
    let here = no_rights c.left_on c.right_on (take 1 (drop c.at (lefts_of c lefts))) (drop c.from (rights_of c rights)) (ap (drop c.from) none ∙ drop_none c.from) in
    let behind = no_rights c.left_on c.right_on (drop (c.at + 1) (lefts_of c lefts)) (rights_of c rights) none in
    λ i. here i ++ behind i
