-- Steps of a join by blocks.
use Rattle.std.proofs.Common.{◌≡◌, ℕ, ℤ, ◌+◌, ◌-◌, ◌<◌, ◌≤◌, Bool, true, false, cond, List, [], get_or, Option, Some, None, ap, sym, ◌∙◌, subst, arith, nat_lt}
use Rattle.std.proofs.lemmas.Bool.Decides.{nat_tests}
use Rattle.db_model.specs.declared.values.Value.TheVariants.{Number}
use Rattle.db_model.specs.Row.{Row, no_row}
use Rattle.cursor.specs.declared.block.Block.{Block}
use Rattle.cursor.specs.declared.join.JoinCursor.{JoinCursor}
use Rattle.cursor.specs.Blocks.{FindsSlot, HasMet, number_held, number_of_row}
use Rattle.cursor.specs.Pairs.{belongs, partner_slots}
use Rattle.cursor.specs.Remaining.{is_live_and}
use Rattle.cursor.proofs.Blocks.{no_partner, no_partners, one_partner, partner_found, partner_passed, partners_passed}

-- the right slots before one have been passed, and had no partner
pub record Passing (before now : Block) (c : JoinCursor) (z : ℤ) (rights : List Row) (slot : ℕ) : Type 0 where
  pub met : HasMet now c.right_on rights
  pub none : partner_slots (belongs (Some (Number z)) c.right_on) rights c.from c.right_slots ≡ partner_slots (belongs (Some (Number z)) c.right_on) rights slot c.right_slots

-- ---- the right slots of one left row

module _ (b : Block) (c : JoinCursor) (rights : List Row) (nth : ℕ) (z : ℤ) (held : number_held b nth ≡ Some z) (inside : nth < b.end - b.begin) (met : HasMet b c.right_on rights) where
  not_before : (s : ℕ) → s < get_or b.firsts nth 0 → s < b.seen → is_live_and (belongs (Some (Number z)) c.right_on) (get_or rights s no_row) ≡ false
  not_before s less below =
      no_partner z c.right_on (get_or rights s no_row) (λ is. let lies = met.lies nth s z inside below held is in absurd (omega (arith, lies.first, less)))

  not_behind : (s : ℕ) → get_or b.ends nth 0 ≤ s → s < b.seen → is_live_and (belongs (Some (Number z)) c.right_on) (get_or rights s no_row) ≡ false
  not_behind s more below =
      no_partner z c.right_on (get_or rights s no_row) (λ is. let lies = met.lies nth s z inside below held is in absurd (omega (arith, lies.last, more)))

  pub skips_first : (first : ℕ) → c.from ≤ first → first ≤ b.seen → b.seen ≤ c.right_slots
      → ((s : ℕ) → c.from ≤ s → s < first → (b.seen ≡ c.right_slots) × (s < get_or b.firsts nth 0))
      → partner_slots (belongs (Some (Number z)) c.right_on) rights c.from c.right_slots ≡ partner_slots (belongs (Some (Number z)) c.right_on) rights first c.right_slots
  skips_first first order within few before =
      let whole : c.from + (first - c.from) ≡ first = omega arith in
      partners_passed (belongs (Some (Number z)) c.right_on) rights c.right_slots (first - c.from) c.from (omega arith)
      (λ s more less. let below : s < first = omega arith in not_before s (before s more below).1 (omega arith))
      ∙ ap (λ (n : ℕ). partner_slots (belongs (Some (Number z)) c.right_on) rights n c.right_slots) whole

  pub none_behind : (end slot : ℕ) → end ≤ slot
      → ((s : ℕ) → end ≤ s → s < c.right_slots → (b.seen ≡ c.right_slots) × (get_or b.ends nth 0 ≤ s))
      → partner_slots (belongs (Some (Number z)) c.right_on) rights slot c.right_slots ≡ []
  none_behind end slot order behind =
      no_partners (belongs (Some (Number z)) c.right_on) rights c.right_slots slot
      (λ s more less. let past = behind s (omega arith) less in not_behind s past.1 (omega (arith, past.0, less)))

pub passes_one : (before now new : Block) (c : JoinCursor) (z : ℤ) (rights : List Row) (slot : ℕ) (found : Option ℤ) → Passing before now c z rights slot → slot < c.right_slots
    → found ≡ number_of_row c.right_on (get_or rights slot no_row) → (found ≡ Some z → ⊥) → HasMet new c.right_on rights → Passing before new c z rights (slot + 1)
passes_one before now new c z rights slot found p less is other met = record {
  met = met;
  none = p.none ∙ partner_passed (belongs (Some (Number z)) c.right_on) rights c.right_slots slot less (no_partner z c.right_on (get_or rights slot no_row) (λ e. other (is ∙ e)));
}

pub finds_one : (held : Option ℤ) (z : ℤ) (found : Option ℕ) (slot place : ℕ) (rights : List Row) (from count : ℕ) → held ≡ Some z → found ≡ Some slot
    → partner_slots (belongs (Some (Number z)) place) rights from count ≡ partner_slots (belongs (Some (Number z)) place) rights slot count
    → slot < count → number_of_row place (get_or rights slot no_row) ≡ Some z → FindsSlot found held place rights from count
finds_one held z found slot place rights from count is made none less number =
    subst (λ (h : Option ℤ). FindsSlot found h place rights from count) (sym is)
    (subst (λ (f : Option ℕ). FindsSlot f (Some z) place rights from count) (sym made)
    (none ∙ partner_found (belongs (Some (Number z)) place) rights count slot less (one_partner z place (get_or rights slot no_row) number)))

pub finds_none : (held : Option ℤ) (z : ℤ) (place : ℕ) (rights : List Row) (from count : ℕ) → held ≡ Some z → partner_slots (belongs (Some (Number z)) place) rights from count ≡ [] → FindsSlot None held place rights from count
finds_none held z place rights from count is none = subst (λ (h : Option ℤ). FindsSlot None h place rights from count) (sym is) none

pub small_slot : (n : ℕ) → n < 32768 → cond (nat_lt n 32768) (Some n) None ≡ Some n
small_slot n less =
    let t : nat_lt n 32768 ≡ true = grind (arith, nat_tests) in
    ap (λ (b : Bool). cond b (Some n) None) t
