-- A tuple that satisfies a condition has its value in the range.
use Rattle.std.proofs.Common.{◌≡◌, ℕ, ℤ, pos, ◌+ℤ◌, ◌-ℤ◌, ◌≤ℤ◌, Bool, true, false, ◌&&◌, ◌||◌, List, Option, Some, None, refl, option_and_then, slice_get, nat_eq, if◌then◌else◌, arith, ◌⊎◌, inl, inr, ⊎_elim, eqb-true}
use Rattle.std.specs.Prelude.{int_le}
use Rattle.std.specs.Int.{int_min, int_max}
use Rattle.std.specs.Ordering.{int_cmp}
use Rattle.std.proofs.lemmas.Int.{ints, clamps}
use Rattle.db_model.specs.declared.commands.Compare.{Compare}
use Rattle.db_model.specs.declared.commands.Compare.TheVariants as compare
use Rattle.db_model.specs.declared.schemas.Attribute.{Attribute}
use Rattle.db_model.specs.declared.schemas.Range.{Range}
use Rattle.db_model.specs.declared.schemas.Range.TheVariants.{Empty, Between}
use Rattle.db_model.specs.declared.values.Value.{Value}
use Rattle.db_model.specs.declared.values.Value.TheVariants as value
use Rattle.db_model.specs.Cond.{Number, Attribute as Name, Tip, Cond, Comparison, And, Or}
use Rattle.db_model.specs.Item as db
use Rattle.db_model.specs.Ranges.{lowest, highest, everything, interval, compared_to, mirrored, common, spanned, range, range_of, is_at}
use Rattle.lvm.specs.Within.{IsInRange}

within-interval : (lo hi z : ℤ) → lo ≤ℤ z → z ≤ℤ hi → IsInRange (interval lo hi) z
within-interval lo hi z h k = let e : int_le lo hi ≡ true = grind (arith, ints) in rw e (h, k)

-- how z and c stand to one another
within-compared : (how : Compare) (z c : ℤ) → lowest ≤ℤ z → z ≤ℤ highest → db.satisfies how (int_cmp z c) ≡ true → IsInRange (compared_to how c) z
within-compared compare.Eq z c l h e = (grind (arith, ints), grind (arith, ints))
within-compared compare.Ne z c l h e = (l, h)
within-compared compare.Lt z c l h e = within-interval lowest (c -ℤ pos 1) z l (grind (arith, ints))
within-compared compare.Le z c l h e = (l, grind (arith, ints))
within-compared compare.Gt z c l h e = within-interval (c +ℤ pos 1) highest z (grind (arith, ints)) h
within-compared compare.Ge z c l h e = (grind (arith, ints), h)

within-mirrored : (how : Compare) (z c : ℤ) → lowest ≤ℤ z → z ≤ℤ highest → db.satisfies how (int_cmp c z) ≡ true → IsInRange (compared_to (mirrored how) c) z
within-mirrored compare.Eq z c l h e = (grind (arith, ints), grind (arith, ints))
within-mirrored compare.Ne z c l h e = (l, h)
within-mirrored compare.Lt z c l h e = within-interval (c +ℤ pos 1) highest z (grind (arith, ints)) h
within-mirrored compare.Le z c l h e = (grind (arith, ints), h)
within-mirrored compare.Gt z c l h e = within-interval lowest (c -ℤ pos 1) z l (grind (arith, ints))
within-mirrored compare.Ge z c l h e = (l, grind (arith, ints))

within-common : (r q : Range) (z : ℤ) → IsInRange r z → IsInRange q z → IsInRange (common r q) z
within-common Empty q z h k = absurd h
within-common (Between a b) Empty z h k = absurd k
within-common (Between a b) (Between c d) z h k =
    let al : a ≤ℤ z = h.0 in
    let bl : z ≤ℤ b = h.1 in
    let cl : c ≤ℤ z = k.0 in
    let dl : z ≤ℤ d = k.1 in
    within-interval (int_max a c) (int_min b d) z (omega (arith, ints, clamps)) (omega (arith, ints, clamps))

within-spanned_left : (r q : Range) (z : ℤ) → IsInRange r z → IsInRange (spanned r q) z
within-spanned_left Empty q z h = absurd h
within-spanned_left (Between a b) Empty z h = h
within-spanned_left (Between a b) (Between c d) z h =
    let al : a ≤ℤ z = h.0 in
    let bl : z ≤ℤ b = h.1 in
    (omega (arith, ints, clamps), omega (arith, ints, clamps))

within-spanned_right : (r q : Range) (z : ℤ) → IsInRange q z → IsInRange (spanned r q) z
within-spanned_right Empty q z h = h
within-spanned_right (Between a b) Empty z h = absurd h
within-spanned_right (Between a b) (Between c d) z h =
    let cl : c ≤ℤ z = h.0 in
    let dl : z ≤ℤ d = h.1 in
    (omega (arith, ints, clamps), omega (arith, ints, clamps))

-- an attribute at the place, compared with a number
within-name : (how : Compare) (o : Option ℕ) (values : List Value) (place : ℕ) (c z : ℤ) → lowest ≤ℤ z → z ≤ℤ highest → slice_get values place ≡ Some (value.Number z)
    → db.compared how (db.item_of (option_and_then (slice_get values) o)) (db.OfNumber (Some c)) ≡ true → IsInRange (if is_at o place then compared_to how c else everything) z
within-name how None values place c z l h v e = (l, h)
within-name how (Some k) values place c z l h v e = at (nat_eq k place) refl
  where
    at : (b : Bool) → nat_eq k place ≡ b → IsInRange (if b then compared_to how c else everything) z
    at false n = (l, h)
    at true n =
        let s : k ≡ place = eqb-true k place n in
        let w : slice_get values k ≡ Some (value.Number z) = rw s v in
        within-compared how z c l h (rw w at e)

within-number : (how : Compare) (o : Option ℕ) (values : List Value) (place : ℕ) (c z : ℤ) → lowest ≤ℤ z → z ≤ℤ highest → slice_get values place ≡ Some (value.Number z)
    → db.compared how (db.OfNumber (Some c)) (db.item_of (option_and_then (slice_get values) o)) ≡ true → IsInRange (if is_at o place then compared_to (mirrored how) c else everything) z
within-number how None values place c z l h v e = (l, h)
within-number how (Some k) values place c z l h v e = at (nat_eq k place) refl
  where
    at : (b : Bool) → nat_eq k place ≡ b → IsInRange (if b then compared_to (mirrored how) c else everything) z
    at false n = (l, h)
    at true n =
        let s : k ≡ place = eqb-true k place n in
        let w : slice_get values k ≡ Some (value.Number z) = rw s v in
        within-mirrored how z c l h (rw w at e)

and_true : (b c : Bool) → b && c ≡ true → (b ≡ true) × (c ≡ true)
and_true true c e = (refl, e)
and_true false c e = cc

or_true : (b c : Bool) → b || c ≡ true → (b ≡ true) ⊎ (c ≡ true)
or_true true c e = inl refl
or_true false c e = inr e

pub within-range : (attributes : List Attribute) (values : List Value) (place : ℕ) (c : Cond) (z : ℤ) → lowest ≤ℤ z → z ≤ℤ highest → slice_get values place ≡ Some (value.Number z)
    → db.holds attributes values c ≡ true → IsInRange (range attributes place c) z
within-range attributes values place (Comparison how (Tip (Name name)) (Tip (Number c))) z l h v e = within-name how (db.place_of name attributes) values place c z l h v e
within-range attributes values place (Comparison how (Tip (Number c)) (Tip (Name name))) z l h v e = within-number how (db.place_of name attributes) values place c z l h v e
within-range attributes values place (And c d) z l h v e =
    let b : (db.holds attributes values c ≡ true) × (db.holds attributes values d ≡ true) = and_true (db.holds attributes values c) (db.holds attributes values d) e in
    within-common (range attributes place c) (range attributes place d) z (within-range attributes values place c z l h v b.0) (within-range attributes values place d z l h v b.1)
within-range attributes values place (Or c d) z l h v e =
    ⊎_elim (λ b. within-spanned_left (range attributes place c) (range attributes place d) z (within-range attributes values place c z l h v b))
    (λ b. within-spanned_right (range attributes place c) (range attributes place d) z (within-range attributes values place d z l h v b))
    (or_true (db.holds attributes values c) (db.holds attributes values d) e)
within-range attributes values place _ z l h v e = (l, h)

pub within-range_of : (attributes : List Attribute) (values : List Value) (place : ℕ) (condition : Option Cond) (z : ℤ) → lowest ≤ℤ z → z ≤ℤ highest → slice_get values place ≡ Some (value.Number z)
    → db.selects attributes condition values ≡ true → IsInRange (range_of attributes place condition) z
within-range_of attributes values place None z l h v e = (l, h)
within-range_of attributes values place (Some c) z l h v e = within-range attributes values place c z l h v e
