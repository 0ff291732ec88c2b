-- The root is where a search begins.
use Rattle.std.proofs.Common.{◌≡◌, ◌≤◌, ◌+◌, ℕ, ℤ, List, [], ◌∷◌, refl, arith, sym, ◌∙◌}
use Rattle.std.specs.Prelude.{Err, IfOk, IfSome, None, Ok, Option, Result, Some}
use Rattle.afl_base.specs.Fields.{u16_at}
use Rattle.index_tree.specs.Trees.{IsTreeOf, numbered}
use Rattle.index_maxheap.specs.Searches.{IsStart, walk_left}
use Rattle.index_maxheap.specs.declared.places.Found.{Found}
use Rattle.index_maxheap.specs.declared.places.Place.{Place}

none_numbered : (keys : List ℤ) → numbered 0 keys ≡ [] → keys ≡ []
none_numbered [] e = refl
none_numbered (k ∷ ks) e = absurd cc

pub root_start : (bytes : List ℕ) (keys : List ℤ) (key : ℤ) (from bucket : ℕ) → IsTreeOf bytes keys → bucket ≡ u16_at bytes 0 → IsStart bytes keys key from (record { bucket = bucket; pair = 0; hop = 0 })
root_start bytes keys key from bucket tree is = record {
  none = λ z. none_numbered keys ((tree.each key 0).none (sym is ∙ z));
  some = λ some. (
    0,
    record { least = omega arith; exact = λ low. refl },
    record {
      there = is;
      some = some;
      good = record { full = λ i h. absurd (omega (arith, h)); within = omega arith; short = omega arith };
      rest = refl;
    },
  );
}

-- the root's number is read once
pub root_paid : (now was start e bucket : ℕ) → now ≤ was + walk_left e (Some (record { bucket = bucket; pair = 0; hop = 0 })) → was ≤ start + 3 → now + 9 ≤ start + walk_left e None
root_paid now was start e bucket more first = omega (arith, more, first)

pub root_found : (now was start e bucket : ℕ) (place : Place) → now + walk_left e (Some place) ≤ was + walk_left e (Some (record { bucket = bucket; pair = 0; hop = 0 })) + 9 → was ≤ start + 3 → now + walk_left e (Some place) ≤ start + walk_left e None
root_found now was start e bucket place more first = omega (arith, more, first)

-- and so for what is found
pub roots_found : {E : Type 0} (r : Result (Option Found) E) (now was start e bucket : ℕ) → IfOk r (λ f. IfSome f (λ g. now + walk_left e (Some g.place) ≤ was + walk_left e (Some (record { bucket = bucket; pair = 0; hop = 0 })) + 9)) → was ≤ start + 3 →
    IfOk r (λ f. IfSome f (λ g. now + walk_left e (Some g.place) ≤ start + walk_left e None))
roots_found (Err x) now was start e bucket more first = more
roots_found (Ok None) now was start e bucket more first = more
roots_found (Ok (Some g)) now was start e bucket more first = root_found now was start e bucket g.place more first
