-- Blocks of left rows: what they hold, and the right slots of their numbers.
use Rattle.std.proofs.Common.{◌≡◌, ℕ, ℤ, zero, suc, ◌+◌, ◌-◌, ◌<◌, ◌≤◌, Bool, true, false, cond, List, [], ◌∷◌, get_or, Option, Some, None, refl, ap, sym, ◌∙◌, subst, arith, slice_get, ⊎_elim}
use Rattle.std.specs.Prelude.{◌&&◌, IfNone, IfSome}
use Rattle.std.specs.List.{range_with_len}
use Rattle.std.specs.Ordering.{int_eq}
use Rattle.std.proofs.lemmas.Bool.{cases_eq, cases_lt}
use Rattle.std.proofs.lemmas.Bool.Decides.{Decides-int_eq}
use Rattle.db_model.specs.declared.schemas.Attribute.{Attribute}
use Rattle.db_model.specs.declared.schemas.Domain.{Domain}
use Rattle.db_model.specs.declared.schemas.Domain.TheVariants.{Int, Long, Time, Str}
use Rattle.db_model.specs.declared.values.Value.{Value}
use Rattle.db_model.specs.declared.values.Value.TheVariants.{Number, Text}
use Rattle.db_model.specs.Answers.{same_value}
use Rattle.db_model.specs.Row.{AllSuit, Row, no_row, suits}
use Rattle.tuple_file.specs.Column.{IsNumber, is_number}
use Rattle.cursor.specs.declared.block.Block.{Block}
use Rattle.cursor.specs.Blocks.{AreMarked, HasMet, LiesBetween, number_held, number_of_row, number_of_value}
use Rattle.cursor.specs.Pairs.{belongs, partner_slots}
use Rattle.cursor.specs.Remaining.{is_live_and, passing}
use Rattle.cursor.proofs.Lists.{kept, passed_over}

-- what holds before a number and at it holds before the next
pub up_to : (P : ℕ → Type 0) (n k : ℕ) → (k < n → P k) → P n → k < n + 1 → P k
up_to P n k before here less =
    ⊎_elim before (λ (most : n ≤ k). let same : n ≡ k = omega arith in subst P same here) (cases_lt k n)

pub on_some : {A P : Type 0} (found : Option A) → P → IfSome found (λ _. P)
on_some None p = tt
on_some (Some x) p = p

pub on_none : {A P : Type 0} (found : Option A) → (found ≡ None → P) → IfNone found P
on_none None p = p refl
on_none (Some x) p = tt

-- ---- numbers of rows

number_suits : (d : Domain) (v : Value) → suits d v ≡ true → is_number d ≡ true → number_of_value (Some v) ≡ None → ⊥
number_suits d (Number z) s n e = absurd (cc)
number_suits Int (Text bytes) s n e = absurd (cc)
number_suits Long (Text bytes) s n e = absurd (cc)
number_suits Time (Text bytes) s n e = absurd (cc)
number_suits (Str k) (Text bytes) s n e = absurd (cc)

-- a tuple has a number at each place of numbers
has_number : (attributes : List Attribute) (tuple : List Value) (place : ℕ) → AllSuit attributes tuple → IsNumber attributes place → number_of_value (slice_get tuple place) ≡ None → ⊥
has_number [] tuple place s n e = absurd (cc)
has_number (a ∷ attributes) [] place s n e = absurd (s)
has_number (a ∷ attributes) (v ∷ tuple) zero s n e = number_suits a.domain v s.0 n e
has_number (a ∷ attributes) (v ∷ tuple) (suc place) s n e = has_number attributes tuple place s.1 n e

module _ (r : Row) (tuple : List Value) (live : Bool) (is : r ≡ record { tuple = tuple; live = live }) where
  pub live_there : live ≡ true → r ≡ record { tuple = tuple; live = true }
  live_there alive = is ∙ ap (λ (b : Bool). record { tuple = tuple; live = b }) alive

  pub removed_there : live ≡ false → r.live ≡ false
  removed_there dead = ap (λ (row : Row). row.live) is ∙ dead

  pub number_read : (place : ℕ) → live ≡ true → number_of_value (slice_get tuple place) ≡ number_of_row place r
  number_read place alive = sym (ap (number_of_row place) (live_there alive))

  pub number_missing : (place : ℕ) → live ≡ false → None ≡ number_of_row place r
  number_missing place dead = sym (ap (number_of_row place) (is ∙ ap (λ (b : Bool). record { tuple = tuple; live = b }) dead))

pub numbers_suit : (attributes : List Attribute) (tuple : List Value) (place : ℕ) (dead : Bool) → AllSuit attributes tuple → IsNumber attributes place → number_of_value (slice_get tuple place) ≡ None → dead ≡ false
numbers_suit attributes tuple place dead s n e = absurd (has_number attributes tuple place s n e)

-- ---- rows with a number

other_number : (b : Bool) (z y : ℤ) → int_eq z y ≡ b → (Some y ≡ Some z → ⊥) → b ≡ false
other_number false z y e h = refl
other_number true z y e h = absurd (h (ap (λ (x : ℤ). Some x) (sym ((Decides-int_eq z y).0 e))))

module _ (z : ℤ) (place : ℕ) where
  not_same : (b : Bool) (o : Option Value) → (cond b (number_of_value o) None ≡ Some z → ⊥) → b && same_value (Some (Number z)) o ≡ false
  not_same false o h = refl
  not_same true None h = refl
  not_same true (Some (Text bytes)) h = refl
  not_same true (Some (Number y)) h = other_number (int_eq z y) z y refl h

  is_same : (b : Bool) (o : Option Value) → cond b (number_of_value o) None ≡ Some z → b && same_value (Some (Number z)) o ≡ true
  is_same false o h = absurd (cc)
  is_same true None h = absurd (cc)
  is_same true (Some (Text bytes)) h = absurd (cc)
  is_same true (Some (Number y)) h =
      let e : y ≡ z = cc in
      (Decides-int_eq z y).1 (sym e)

  pub no_partner : (r : Row) → (number_of_row place r ≡ Some z → ⊥) → is_live_and (belongs (Some (Number z)) place) r ≡ false
  no_partner r h = not_same r.live (slice_get r.tuple place) h

  pub one_partner : (r : Row) → number_of_row place r ≡ Some z → is_live_and (belongs (Some (Number z)) place) r ≡ true
  one_partner r h = is_same r.live (slice_get r.tuple place) h

-- ---- the slots of partners

module _ (test : List Value → Bool) (rights : List Row) (n : ℕ) where
  first_slot : (a : ℕ) → a < n → range_with_len a (n - a) ≡ a ∷ range_with_len (a + 1) (n - (a + 1))
  first_slot a less =
      let e : n - a ≡ suc (n - (a + 1)) = omega arith in
      ap (range_with_len a) e

  pub partner_passed : (a : ℕ) → a < n → is_live_and test (get_or rights a no_row) ≡ false → partner_slots test rights a n ≡ partner_slots test rights (a + 1) n
  partner_passed a less e =
      ap (passing test rights) (first_slot a less)
      ∙ passed_over (is_live_and test (get_or rights a no_row)) a (partner_slots test rights (a + 1) n) e

  pub partner_found : (a : ℕ) → a < n → is_live_and test (get_or rights a no_row) ≡ true → partner_slots test rights a n ≡ a ∷ partner_slots test rights (a + 1) n
  partner_found a less e =
      ap (passing test rights) (first_slot a less)
      ∙ kept (is_live_and test (get_or rights a no_row)) a (partner_slots test rights (a + 1) n) e

  pub partners_passed : (k a : ℕ) → a + k ≤ n → ((s : ℕ) → a ≤ s → s < a + k → is_live_and test (get_or rights s no_row) ≡ false) → partner_slots test rights a n ≡ partner_slots test rights (a + k) n
  partners_passed zero a fits none =
      let e : a ≡ a + 0 = omega arith in
      ap (λ (m : ℕ). partner_slots test rights m n) e
  partners_passed (suc k) a fits none =
      let e : a + 1 + k ≡ a + suc k = omega arith in
      partner_passed a (omega arith) (none a (omega arith) (omega arith))
      ∙ partners_passed k (a + 1) (omega arith) (λ s more less. none s (omega arith) (omega arith))
      ∙ ap (λ (m : ℕ). partner_slots test rights m n) e

  pub no_partners : (a : ℕ) → ((s : ℕ) → a ≤ s → s < n → is_live_and test (get_or rights s no_row) ≡ false) → partner_slots test rights a n ≡ []
  no_partners a none = ⊎_elim some over (cases_lt a n)
    where
      over : n ≤ a → partner_slots test rights a n ≡ []
      over h = let e : n - a ≡ 0 = omega arith in ap (λ (m : ℕ). passing test rights (range_with_len a m)) e

      some : a < n → partner_slots test rights a n ≡ []
      some h =
          let e : a + (n - a) ≡ n = omega arith in
          let f : n - n ≡ 0 = omega arith in
          partners_passed (n - a) a (omega arith) (λ s more less. none s more (omega arith))
          ∙ ap (λ (m : ℕ). partner_slots test rights m n) e
          ∙ ap (λ (m : ℕ). passing test rights (range_with_len n m)) f

-- ---- a right row that was read

pub met_more : (old new : Block) (place slot : ℕ) (rights : List Row) (found : Option ℤ) → new ≡ record old { seen = new.seen; firsts = new.firsts; ends = new.ends }
    → found ≡ number_of_row place (get_or rights slot no_row)
    → ((k s : ℕ) → LiesBetween old k s → LiesBetween new k s)
    → (AreMarked old → (k : ℕ) (z : ℤ) → k < old.end - old.begin → number_held old k ≡ Some z → found ≡ Some z → LiesBetween new k slot)
    → ((s : ℕ) → s < new.seen → (s ≡ slot → ⊥) → s < old.seen)
    → HasMet old place rights → HasMet new place rights
met_more old new place slot rights found kept is widens meets others met = record {
  marked = subst AreMarked (sym kept) met.marked;
  lies = λ nth s z less below held number.
      let less_old : nth < old.end - old.begin = subst (λ (b : Block). nth < b.end - b.begin) kept less in
      let held_old : number_held old nth ≡ Some z = subst (λ (b : Block). number_held b nth ≡ Some z) kept held in
      ⊎_elim
      (λ (here : s ≡ slot). subst (LiesBetween new nth) (sym here) (meets met.marked nth z less_old held_old (is ∙ ap (λ (n : ℕ). number_of_row place (get_or rights n no_row)) (sym here) ∙ number)))
      (λ (other : s ≡ slot → ⊥). widens nth s (met.lies nth s z less_old (others s below other) held_old number))
      (cases_eq s slot);
}
