-- Places over more keys.
use Rattle.std.proofs.Common.{◌≡◌, ◌≤◌, ◌<◌, ◌++◌, List, length, ℕ, ℤ, pos, arith, ap, ◌∙◌, length-append}
use Rattle.std.proofs.Math.Logic.{⊎_elim}
use Rattle.std.proofs.lemmas.Bool.{cases_lt}
use Rattle.std.specs.Ordering.{int_eq}
use Rattle.std.proofs.Math.ListN.{get_or-append}
use Rattle.afl_base.specs.Keys.{HasNone, IsFirstOf, is_key_at}

same_at : (key : ℤ) (keys more : List ℤ) (i : ℕ) → i < length keys → is_key_at key (keys ++ more) i ≡ is_key_at key keys i
same_at key keys more i h = ap (λ (k : ℤ). int_eq k key) (get_or-append keys more (pos 0) i h)

pub still_first : (key : ℤ) (keys more : List ℤ) (from slot : ℕ) → IsFirstOf key keys from slot → IsFirstOf key (keys ++ more) from slot
still_first key keys more from slot f =
    let size = length-append keys more in
    let below = f.within in
    record {
      order = f.order;
      within = omega (arith, size, below);
      here = same_at key keys more slot f.within ∙ f.here;
      before = λ i h k. same_at key keys more i (omega (arith, below, k)) ∙ f.before i h k;
    }

pub later_first : (key : ℤ) (keys more : List ℤ) (from slot : ℕ) → HasNone key keys from → from ≤ length keys → IsFirstOf key (keys ++ more) (length keys) slot → IsFirstOf key (keys ++ more) from slot
later_first key keys more from slot none h f =
    let after = f.order in
    record {
      order = omega (arith, h, after);
      within = f.within;
      here = f.here;
      before = λ i a b. ⊎_elim (λ below. same_at key keys more i below ∙ none i a below) (λ behind. f.before i behind b) (cases_lt i (length keys));
    }

pub later_none : (key : ℤ) (keys more : List ℤ) (from : ℕ) → HasNone key keys from → HasNone key (keys ++ more) (length keys) → HasNone key (keys ++ more) from
later_none key keys more from none later i h below = ⊎_elim (λ b. same_at key keys more i b ∙ none i h b) (λ behind. later i behind below) (cases_lt i (length keys))
