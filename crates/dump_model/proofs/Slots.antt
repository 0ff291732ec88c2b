-- Slots that are filled from the front, and names in them.
use Rattle.std.proofs.Common.{◌≡◌, refl, sym, ap, ◌∙◌, ℕ, ◌+◌, ◌-◌, ◌<◌, ◌≤◌, Bool, true, false, List, [], ◌∷◌, ◌++◌, length, map, set, replicate, append_assoc, length-append, arith, cond, Option, Some, None, zero, suc}
use Rattle.std.specs.Prelude.{IsTrue, not, ◌||◌}
use Rattle.std.specs.Str.{bytes_eq}
use Rattle.std.proofs.Math.Seq.{set-append_seam}
use Rattle.std.proofs.lemmas.List.{length-map, map-append}
use Rattle.std.proofs.lemmas.Slice.Eq.{bytes_eq-Decides}
use Rattle.db_model.specs.Database.{Relation, used_things, free_from, is_among, relation_from}
use Rattle.dump_model.specs.Packed.{slots_for}
use Rattle.db_model.specs.Sound.{are_distinct}
use Rattle.dump_model.proofs.Facts.{relation_names}
use Rattle.dump_model.proofs.Lexing.{false_true, and_left, and_right}
use Rattle.db_model.proofs.SoundRows.{other_name}
use Rattle.padded.proofs.Facts.{neither_left, neither_right}

-- ---- tests

pub not_true : (b : Bool) → IsTrue (not b) → b ≡ false
not_true true h = absurd (false_true h)
not_true false h = refl

pub or_true : (a : Bool) {b : Bool} → b ≡ true → (a || b) ≡ true
or_true true h = refl
or_true false h = h

pub same_name : (name : List ℕ) → bytes_eq name name ≡ true
same_name name = (bytes_eq-Decides name name).1 refl

-- a name that is none of some is another than each of them
pub not_first : (m n : List ℕ) (names : List (List ℕ)) → is_among m names ≡ false → is_among n names ≡ true → bytes_eq m n ≡ false
not_first m n names apart here = by_test (bytes_eq m n) refl
  where
    by_test : (b : Bool) → bytes_eq m n ≡ b → b ≡ false
    by_test true e = absurd (false_true (sym apart ∙ ap (λ name. is_among name names) ((bytes_eq-Decides m n).0 e) ∙ here))
    by_test false e = refl

-- a name is not among those before it
pub among_front : (name : List ℕ) (xs ys : List (List ℕ)) → IsTrue (are_distinct (xs ++ name ∷ ys)) → is_among name xs ≡ false
among_front name [] ys h = refl
among_front name (x ∷ xs) ys h =
    let apart = not_true (is_among x (xs ++ name ∷ ys)) (and_left (not (is_among x (xs ++ name ∷ ys))) (are_distinct (xs ++ name ∷ ys)) h) in
    let rest = among_front name xs ys (and_right (not (is_among x (xs ++ name ∷ ys))) (are_distinct (xs ++ name ∷ ys)) h) in
    let one = among_seam xs apart in
    ap (λ t. t || is_among name xs) (other_name name x one) ∙ rest
  where
    among_seam : (zs : List (List ℕ)) → is_among x (zs ++ name ∷ ys) ≡ false → bytes_eq name x ≡ false
    among_seam [] e = neither_left (bytes_eq name x) (is_among x ys) e
    among_seam (z ∷ zs) e = among_seam zs (neither_right (bytes_eq z x) (is_among x (zs ++ name ∷ ys)) e)

-- ---- slots filled from the front

-- what is in the used slots
pub used_front : {A : Type 0} (xs : List A) (m : ℕ) → used_things (map (λ x. Some x) xs ++ replicate m None) ≡ xs
used_front [] zero = refl
used_front [] (suc m) = used_front [] m
used_front (x ∷ xs) m = ap (λ ys. x ∷ ys) (used_front xs m)

pub used_few : {A : Type 0} (slots : List (Option A)) → length (used_things slots) ≤ length slots
used_few [] = omega arith
used_few (None ∷ slots) = let e = used_few slots in omega (arith, e)
used_few (Some x ∷ slots) = let e = used_few slots in omega (arith, e)

-- the first free slot is behind them
pub slots_next : {A : Type 0} (n : ℕ) (xs : List A) → length xs < n → slots_for n xs ≡ map (λ x. Some x) xs ++ None ∷ replicate (n - (length xs + 1)) None
slots_next n xs h =
    let e : n - length xs ≡ suc (n - (length xs + 1)) = omega arith in
    ap (λ k. map (λ x. Some x) xs ++ replicate k None) e

pub slots_more : {A : Type 0} (n : ℕ) (xs : List A) (x : A) → slots_for n (xs ++ x ∷ []) ≡ map (λ x. Some x) xs ++ Some x ∷ replicate (n - (length xs + 1)) None
slots_more n xs x =
    let many : length (xs ++ x ∷ []) ≡ length xs + 1 = length-append xs (x ∷ []) in
    ap (λ k. map (λ x. Some x) (xs ++ x ∷ []) ++ replicate (n - k) None) many
    ∙ ap (λ front. front ++ replicate (n - (length xs + 1)) None) (map-append (λ x. Some x) xs (x ∷ []))
    ∙ append_assoc (map (λ x. Some x) xs) (Some x ∷ []) (replicate (n - (length xs + 1)) None)

pub free_at : {A : Type 0} (n : ℕ) (xs : List A) (behind : List (Option A)) → free_from n (map (λ x. Some x) xs ++ None ∷ behind) ≡ Some (n + length xs)
free_at n [] behind = let e : n ≡ n + 0 = omega arith in ap (λ k. Some k) e
free_at n (x ∷ xs) behind = let e : (n + 1) + length xs ≡ n + length (x ∷ xs) = omega arith in free_at (n + 1) xs behind ∙ ap (λ k. Some k) e

pub set_at : {A : Type 0} (xs : List A) (old new : Option A) (behind : List (Option A)) → set (map (λ x. Some x) xs ++ old ∷ behind) (length xs) new ≡ map (λ x. Some x) xs ++ new ∷ behind
set_at xs old new behind =
    ap (λ k. set (map (λ x. Some x) xs ++ old ∷ behind) k new) (sym (length-map xs (λ x. Some x))) ∙ set-append_seam (map (λ x. Some x) xs) old behind new

-- the first free slot is taken
pub slot_taken : {A : Type 0} (n : ℕ) (xs : List A) (x : A) → length xs < n → set (slots_for n xs) (length xs) (Some x) ≡ slots_for n (xs ++ x ∷ [])
slot_taken n xs x h =
    ap (λ slots. set slots (length xs) (Some x)) (slots_next n xs h) ∙ set_at xs None (Some x) (replicate (n - (length xs + 1)) None) ∙ sym (slots_more n xs x)

pub slot_free : {A : Type 0} (n : ℕ) (xs : List A) → length xs < n → free_from 0 (slots_for n xs) ≡ Some (length xs)
slot_free n xs h = ap (free_from 0) (slots_next n xs h) ∙ free_at 0 xs (replicate (n - (length xs + 1)) None) ∙ (let e : 0 + length xs ≡ length xs = omega arith in ap (λ k. Some k) e)

-- the last one that was taken is another
pub slot_changed : {A : Type 0} (n : ℕ) (xs : List A) (x y : A) → set (slots_for n (xs ++ x ∷ [])) (length xs) (Some y) ≡ slots_for n (xs ++ y ∷ [])
slot_changed n xs x y =
    ap (λ slots. set slots (length xs) (Some y)) (slots_more n xs x) ∙ set_at xs (Some x) (Some y) (replicate (n - (length xs + 1)) None) ∙ sym (slots_more n xs y)

-- ---- relations by name

absent_in : (name : List ℕ) (n m : ℕ) → relation_from name n (replicate m None) ≡ None
absent_in name n zero = refl
absent_in name n (suc m) = absent_in name (n + 1) m

-- a name that none of them has
absent_from : (name : List ℕ) (n : ℕ) (rs : List Relation) (m : ℕ) → is_among name (relation_names rs) ≡ false → relation_from name n (map (λ x. Some x) rs ++ replicate m None) ≡ None
absent_from name n [] m fresh = absent_in name n m
absent_from name n (r ∷ rs) m fresh =
    let other = neither_left (bytes_eq r.schema.name name) (is_among name (relation_names rs)) fresh in
    ap (λ t. cond t (Some (n, r)) (relation_from name (n + 1) (map (λ x. Some x) rs ++ replicate m None))) other
    ∙ absent_from name (n + 1) rs m (neither_right (bytes_eq r.schema.name name) (is_among name (relation_names rs)) fresh)

pub absent : (name : List ℕ) (n : ℕ) (rs : List Relation) → is_among name (relation_names rs) ≡ false → relation_from name 0 (slots_for n rs) ≡ None
absent name n rs fresh = absent_from name 0 rs (n - length rs) fresh

found_from : (n : ℕ) (rs : List Relation) (r : Relation) (behind : List (Option Relation)) → is_among r.schema.name (relation_names rs) ≡ false → relation_from r.schema.name n (map (λ x. Some x) rs ++ Some r ∷ behind) ≡ Some (n + length rs, r)
found_from n [] r behind fresh =
    let e : n ≡ n + 0 = omega arith in
    ap (λ t. cond t (Some (n, r)) (relation_from r.schema.name (n + 1) behind)) (same_name r.schema.name) ∙ ap (λ k. Some (k, r)) e
found_from n (q ∷ rs) r behind fresh =
    let other = neither_left (bytes_eq q.schema.name r.schema.name) (is_among r.schema.name (relation_names rs)) fresh in
    let e : (n + 1) + length rs ≡ n + length (q ∷ rs) = omega arith in
    ap (λ t. cond t (Some (n, q)) (relation_from r.schema.name (n + 1) (map (λ x. Some x) rs ++ Some r ∷ behind))) other
    ∙ found_from (n + 1) rs r behind (neither_right (bytes_eq q.schema.name r.schema.name) (is_among r.schema.name (relation_names rs)) fresh)
    ∙ ap (λ k. Some (k, r)) e

-- the last one is found by its name
pub found_last : (n : ℕ) (rs : List Relation) (r : Relation) → is_among r.schema.name (relation_names rs) ≡ false → relation_from r.schema.name 0 (slots_for n (rs ++ r ∷ [])) ≡ Some (length rs, r)
found_last n rs r fresh =
    ap (relation_from r.schema.name 0) (slots_more n rs r) ∙ found_from 0 rs r (replicate (n - (length rs + 1)) None) fresh ∙ (let e : 0 + length rs ≡ length rs = omega arith in ap (λ k. Some (k, r)) e)
