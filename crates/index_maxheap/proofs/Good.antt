-- Places that stay good.
use Rattle.std.proofs.Common.{◌≢◌, ◌≤◌, ◌+◌, ℕ, ℤ, List, ◌++◌, length, drop, ap, ◌∙◌, sym, subst}
use Rattle.std.specs.Prelude.{None, Option, Some}
use Rattle.std.specs.List.{filter}
use Rattle.index_tree.specs.Pairs.{Pair, goes, reaching}
use Rattle.index_tree.specs.Places.{IsPlaceAt, KeepsNumbers, is_wanted}
use Rattle.index_tree.specs.Trees.{numbered}
use Rattle.index_tree.proofs.Numbered.{numbered-append}
use Rattle.index_tree.proofs.Reach.{filter_weaker}
use Rattle.index_tree.proofs.Stays.{place_stays}
use Rattle.index_maxheap.specs.Searches.{IsPlaceOf}
use Rattle.index_maxheap.specs.declared.places.Place.{Place}
use Rattle.index_maxheap.proofs.Firsts.{later_is}

pub good_inserts : (old new : List ℕ) (keys more : List ℤ) (key : ℤ) (from : ℕ) (place : Option Place) → KeepsNumbers old new → IsPlaceOf old keys key from place → IsPlaceOf new (keys ++ more) key from place
good_inserts old new keys more key from None keeps at = tt
good_inserts old new keys more key from (Some place) keeps at = (
  at.0,
  at.1,
  subst (λ (ps : List Pair). IsPlaceAt new ps key from place.bucket place.pair at.0) (sym (numbered-append 0 keys more))
      (place_stays old new (numbered 0 keys) (numbered (0 + length keys) more) key from place.bucket place.pair at.0 keeps at.2),
)

pub good_again : (first then last : List ℕ) → KeepsNumbers first then → KeepsNumbers then last → KeepsNumbers first last
good_again first then last a b = λ key hop some. b key hop (subst (λ (n : ℕ). n ≢ 0) (sym (a key hop some)) some) ∙ a key hop some

pub good_later : (bytes : List ℕ) (keys : List ℤ) (key : ℤ) (from to : ℕ) (place : Option Place) → from ≤ to → IsPlaceOf bytes keys key from place → IsPlaceOf bytes keys key to place
good_later bytes keys key from to None h at = tt
good_later bytes keys key from to (Some place) h at =
    let ps : List Pair = numbered 0 keys in
    let rest : List Pair = drop place.pair (reaching (goes key) at.0 ps) in (
      at.0,
      at.1,
      record {
        there = at.2.there;
        some = at.2.some;
        good = at.2.good;
        rest = sym (filter_weaker (is_wanted key to) (is_wanted key from) (later_is key from to h) rest)
            ∙ ap (filter (is_wanted key to)) at.2.rest
            ∙ filter_weaker (is_wanted key to) (is_wanted key from) (later_is key from to h) ps;
      },
    )
