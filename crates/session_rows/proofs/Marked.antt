-- Rows that are marked one after the other, and the same rows removed at once.
use Rattle.std.proofs.Common.{◌≡◌, ◌≢◌, ℕ, zero, suc, ◌+◌, ◌<◌, ◌≤◌, ◌⊎◌, Bool, true, false, cond, eqb, ◌-◌, List, [], ◌∷◌, ◌++◌, length, map, set, get_or, take, drop, filter, Option, refl, ap, sym, ◌∙◌, subst, arith, inl, inr}
use Rattle.std.specs.Prelude.{◌||◌}
use Rattle.std.specs.List.{range_with_len}
use Rattle.std.proofs.Math.Logic.{⊎_elim}
use Rattle.std.proofs.lemmas.Bool.{cases_eq, cases_lt}
use Rattle.std.proofs.lemmas.Bool.Decides.{nat_tests}
use Rattle.std.proofs.lemmas.List.{take_all, ext_get_or, get_or-append_right, get_or-drop, get_or-map, get_or-set_other, get_or-set_same, get_or-take, get_or_append_left, length-append, length-drop, length-map, length-set, length-take-le}
use Rattle.db_model.specs.declared.schemas.Attribute.{Attribute}
use Rattle.db_model.specs.Cond.{Cond}
use Rattle.db_model.specs.Item.{selects}
use Rattle.db_model.specs.Row.{Row, no_row}
use Rattle.db_model.specs.Step.{removed_row}
use Rattle.cursor.specs.Remaining.{is_live_and, selected_slots}
use Rattle.session_rows.specs.CutRows.{RemovesFront}
use Rattle.session_rows.specs.Marking.{IsSelected, dead, marked}
use Rattle.session_rows.specs.declared.selecting.Selected.{Selected}
use Rattle.session_model.proofs.Running.{is_equal}
use Rattle.session_rows.proofs.Removes.{counted}

abbrev is_in : ℕ → List ℕ → Bool
is_in i [] = false
is_in i (slot ∷ slots) = eqb i slot || is_in i slots

length_marked : (slots : List ℕ) (rows : List Row) → length (marked slots rows) ≡ length rows
length_marked [] rows = refl
length_marked (slot ∷ slots) rows = length_marked slots (set rows slot (dead (get_or rows slot no_row))) ∙ length-set rows slot (dead (get_or rows slot no_row))

same_or : (i slot : ℕ) → (eqb i slot ≡ true) × (i ≡ slot) ⊎ (eqb i slot ≡ false) × (i ≢ slot)
same_or i slot = ⊎_elim (λ e. inl (grind (arith, nat_tests), e)) (λ n. inr (grind (arith, nat_tests), n)) (cases_eq i slot)

by_both : (b c : Bool) (old : Row) (now : Row) → now ≡ cond b (dead old) old → cond c (dead now) now ≡ cond (b || c) (dead old) old
by_both true true old now e = ap dead e
by_both true false old now e = e
by_both false true old now e = ap dead e
by_both false false old now e = e

marked_at : (slots : List ℕ) (rows : List Row) (i : ℕ) → i < length rows → get_or (marked slots rows) i no_row ≡ cond (is_in i slots) (dead (get_or rows i no_row)) (get_or rows i no_row)
marked_at [] rows i below = refl
marked_at (slot ∷ slots) rows i below =
    let made : Row = dead (get_or rows slot no_row) in
    marked_at slots (set rows slot made) i (omega (arith, length-set rows slot made))
    ∙ by_both (eqb i slot) (is_in i slots) (get_or rows i no_row) (get_or (set rows slot made) i no_row)
    (⊎_elim
    (λ same. subst (λ (b : Bool). get_or (set rows slot made) i no_row ≡ cond b (dead (get_or rows i no_row)) (get_or rows i no_row)) (sym same.0)
    (ap (λ (n : ℕ). get_or (set rows slot made) n no_row) same.1 ∙ get_or-set_same rows slot made no_row (omega (arith, same.1)) ∙ ap (λ (n : ℕ). dead (get_or rows n no_row)) (sym same.1)))
    (λ other. subst (λ (b : Bool). get_or (set rows slot made) i no_row ≡ cond b (dead (get_or rows i no_row)) (get_or rows i no_row)) (sym other.0)
    (get_or-set_other rows slot i made no_row other.1))
    (same_or i slot))

eqb_other : (i a : ℕ) → i ≢ a → eqb i a ≡ false
eqb_other i a h = grind (arith, nat_tests)

behind : (b : Bool) (i a : ℕ) (rest : List ℕ) (v : Bool) → i ≢ a → is_in i rest ≡ v → is_in i (cond b (a ∷ rest) rest) ≡ v
behind true i a rest v other h = ap (λ (x : Bool). x || is_in i rest) (eqb_other i a other) ∙ h
behind false i a rest v other h = h

here : (b : Bool) (i a : ℕ) (rest : List ℕ) → i ≡ a → is_in i rest ≡ false → is_in i (cond b (a ∷ rest) rest) ≡ b
here true i a rest same h = ap (λ (x : Bool). x || is_in i rest) (is_equal i a same)
here false i a rest same h = h

in_none : (f : ℕ → Bool) (a n i : ℕ) → i < a → is_in i (filter f (range_with_len a n)) ≡ false
in_none f a zero i h = refl
in_none f a (suc n) i h = behind (f a) i a (filter f (range_with_len (a + 1) n)) false (λ e. absurd (omega arith)) (in_none f (a + 1) n i (omega arith))

in_filter : (f : ℕ → Bool) (a n i : ℕ) → a ≤ i → i < a + n → is_in i (filter f (range_with_len a n)) ≡ f i
in_filter f a zero i low high = absurd (omega arith)
in_filter f a (suc n) i low high =
    ⊎_elim
    (λ same. here (f a) i a (filter f (range_with_len (a + 1) n)) same (in_none f (a + 1) n i (omega arith)) ∙ ap f (sym same))
    (λ other. behind (f a) i a (filter f (range_with_len (a + 1) n)) (f i) other (in_filter f (a + 1) n i (omega arith) (omega arith)))
    (cases_eq i a)

-- the rows that a test picks are marked one after the other
pub marked_all : (test : Row → Bool) (rows : List Row) → marked (filter (λ slot. test (get_or rows slot no_row)) (range_with_len 0 (length rows))) rows ≡ map (λ row. cond (test row) (dead row) row) rows
marked_all test rows =
    let slots = filter (λ slot. test (get_or rows slot no_row)) (range_with_len 0 (length rows)) in
    ext_get_or no_row (marked slots rows) (map (λ row. cond (test row) (dead row) row) rows) (length_marked slots rows ∙ sym (length-map rows (λ row. cond (test row) (dead row) row)))
    (λ i below.
    let inside : i < length rows = omega (arith, length_marked slots rows) in
    marked_at slots rows i inside
    ∙ ap (λ (b : Bool). cond b (dead (get_or rows i no_row)) (get_or rows i no_row)) (in_filter (λ slot. test (get_or rows slot no_row)) 0 (length rows) i (omega arith) (omega arith))
    ∙ sym (get_or-map (λ row. cond (test row) (dead row) row) rows i no_row no_row inside))

-- ---- the first of the slots that a test picks

in_past : (f : ℕ → Bool) (a n i : ℕ) → a + n ≤ i → is_in i (filter f (range_with_len a n)) ≡ false
in_past f a zero i past = refl
in_past f a (suc n) i past = behind (f a) i a (filter f (range_with_len (a + 1) n)) false (λ e. absurd (omega arith)) (in_past f (a + 1) n i (omega arith))

marked_before : (test : Row → Bool) (rows : List Row) (m : ℕ) → m ≤ length rows
    → marked (filter (λ slot. test (get_or rows slot no_row)) (range_with_len 0 m)) rows ≡ map (λ row. cond (test row) (dead row) row) (take m rows) ++ drop m rows
marked_before test rows m most =
    let f : ℕ → Bool = λ slot. test (get_or rows slot no_row) in
    let slots = filter f (range_with_len 0 m) in
    let now : Row → Row = λ row. cond (test row) (dead row) row in
    let front : List Row = map now (take m rows) in
    let long : length front ≡ m = length-map (take m rows) now ∙ length-take-le m rows most in
    let all : length (front ++ drop m rows) ≡ length rows = omega (arith, length-append front (drop m rows), long, length-drop m rows, most) in
    ext_get_or no_row (marked slots rows) (front ++ drop m rows) (length_marked slots rows ∙ sym all)
    (λ i below.
    let inside : i < length rows = omega (arith, length_marked slots rows) in
    marked_at slots rows i inside
    ∙ ⊎_elim
    (λ first.
    ap (λ (b : Bool). cond b (dead (get_or rows i no_row)) (get_or rows i no_row)) (in_filter f 0 m i (omega arith) (omega arith))
    ∙ sym (get_or_append_left front (drop m rows) no_row i (omega (arith, long, first)) ∙ get_or-map now (take m rows) i no_row no_row (omega (arith, length-take-le m rows most, first)) ∙ ap now (get_or-take m rows i no_row first)))
    (λ past.
    let at : m + (i - m) ≡ i = omega (arith, past) in
    ap (λ (b : Bool). cond b (dead (get_or rows i no_row)) (get_or rows i no_row)) (in_past f 0 m i (omega (arith, past)))
    ∙ sym (get_or-append_right front (drop m rows) m i no_row long past ∙ get_or-drop m rows (i - m) no_row ∙ ap (λ (n : ℕ). get_or rows n no_row) at))
    (cases_lt i m))

-- some numbers are those of the first so many that a test picks
record PickedBefore (f : ℕ → Bool) (a k : ℕ) (picked : List ℕ) : Type 0 where
  many : ℕ
  within : many ≤ k
  is : picked ≡ filter f (range_with_len a many)

picked_before : (f : ℕ → Bool) (a k n : ℕ) → PickedBefore f a k (take n (filter f (range_with_len a k)))
picked_before f a k zero = record { many = 0; within = omega arith; is = refl }
picked_before f a zero (suc n) = record { many = 0; within = omega arith; is = refl }
picked_before f a (suc k) (suc n) = by_test (f a) refl (picked_before f (a + 1) k n) (picked_before f (a + 1) k (suc n))
  where
    by_test : (b : Bool) → f a ≡ b → PickedBefore f (a + 1) k (take n (filter f (range_with_len (a + 1) k))) → PickedBefore f (a + 1) k (take (suc n) (filter f (range_with_len (a + 1) k)))
        → PickedBefore f a (suc k) (take (suc n) (cond b (a ∷ filter f (range_with_len (a + 1) k)) (filter f (range_with_len (a + 1) k))))
    by_test true e p q = record {
      many = suc p.many;
      within = omega (arith, p.within);
      is = ap (λ (xs : List ℕ). a ∷ xs) p.is ∙ sym (ap (λ (b : Bool). cond b (a ∷ filter f (range_with_len (a + 1) p.many)) (filter f (range_with_len (a + 1) p.many))) e);
    }
    by_test false e p q = record {
      many = suc q.many;
      within = omega (arith, q.within);
      is = q.is ∙ sym (ap (λ (b : Bool). cond b (a ∷ filter f (range_with_len (a + 1) q.many)) (filter f (range_with_len (a + 1) q.many))) e);
    }

-- the rows in some of the first slots that a condition selects, at most 29, are removed
pub front_removed : (s : Selected) (attributes : List Attribute) (condition : Option Cond) (all : List Row) (n : ℕ) → s.count ≤ 29 → IsSelected s (selected_slots attributes condition all)
    → (now : List Row) → now ≡ marked (take n s.first) all → RemovesFront attributes condition all now
front_removed s attributes condition all n few is now e =
    let slots : List ℕ = selected_slots attributes condition all in
    let test : Row → Bool = is_live_and (selects attributes condition) in
    let first : s.first ≡ slots = is.first ∙ take_all 29 slots (omega (arith, few, is.count)) in
    let p = picked_before (λ slot. test (get_or all slot no_row)) 0 (length all) n in record {
      done = p.many;
      whole = inr (inr (omega (arith, few, is.count, counted attributes condition all)));
      is = e ∙ ap (λ (l : List ℕ). marked (take n l) all) first ∙ ap (λ (l : List ℕ). marked l all) p.is ∙ marked_before test all p.many p.within;
    }

-- one more of some slots is marked
pub marks_next : (rows : List Row) (slots : List ℕ) (i slot : ℕ) → i < length slots → slot ≡ get_or slots i 0
    → set (marked (take i slots) rows) slot (dead (get_or (marked (take i slots) rows) slot no_row)) ≡ marked (take (suc i) slots) rows
marks_next rows [] i slot below e = absurd (omega arith)
marks_next rows (s ∷ slots) zero slot below e = ap (λ (n : ℕ). set rows n (dead (get_or rows n no_row))) e
marks_next rows (s ∷ slots) (suc i) slot below e = marks_next (set rows s (dead (get_or rows s no_row))) slots i slot (omega arith) e

-- the first slots are all of them where they are at most 29, and so the rows that a condition selects are removed
pub all_removed : (s : Selected) (attributes : List Attribute) (condition : Option Cond) (all : List Row) → s.count ≤ 29 → IsSelected s (selected_slots attributes condition all)
    → marked s.first all ≡ map (removed_row attributes condition) all
all_removed s attributes condition all few is =
    let slots : List ℕ = selected_slots attributes condition all in
    let first : s.first ≡ slots = is.first ∙ take_all 29 slots (omega (arith, few, is.count)) in
    ap (λ (l : List ℕ). marked l all) first ∙ marked_all (is_live_and (selects attributes condition)) all
