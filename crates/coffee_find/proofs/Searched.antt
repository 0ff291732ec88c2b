-- Where the search by the first broken rule finds nothing, an image mends to no files.
use Rattle.std.proofs.Common.{◌≡◌, ◌≢◌, ◌⊎◌, inl, inr, ⊎_elim, ℕ, ◌*◌, ◌≤◌, ◌<◌, List, length, Some, refl, ap, sym, arith}
use Rattle.coffee_layout.specs.Rules.{broken_image}
use Rattle.coffee_layout.specs.declared.unit.BadImage.{BadImage}
use Rattle.coffee_cuts.specs.Cuts.{UnderWay, Nothing, Beginning, Building, Erasing, Unnamed, Naming, Replacing}
use Rattle.coffee_cuts.specs.Shown.{ShowsUnderWay}
use Rattle.coffee_cuts.proofs.Shown.{first_rules_show}
use Rattle.coffee_find.specs.Found.{MendsToNone}
use Rattle.coffee_find.specs.Guesses.{IsHeadWrong, IsWrong, MendsBy}
use Rattle.coffee_find.specs.declared.finding.Guess.TheVariants.{Nothing as no_guess, Header, TornHeader, Erased, Replaced}

-- the guesses that are wrong, by the rule that is broken first
pub record AreWrong (image : List ℕ) (bad : BadImage) : Type 0 where
  pub header : bad.rule ≡ 1 → IsWrong image bad.place Header
  pub torn_header : bad.rule ≡ 1 → IsWrong image bad.place TornHeader
  pub erased : 1 ≤ bad.rule → bad.rule ≤ 4 → IsWrong image bad.place Erased
  pub replaced : 5 ≤ bad.rule → bad.rule ≤ 6 → IsWrong image bad.place Replaced
  pub named : 7 ≤ bad.rule → bad.rule ≤ 9 → IsWrong image bad.place Header
  pub nothing : (bad.rule ≡ 12) ⊎ (bad.rule ≡ 10) → IsWrong image bad.place no_guess

module _ (image : List ℕ) (bad : BadImage) where
  pub head_wrong : bad.rule ≡ 1 → IsHeadWrong image bad.place → AreWrong image bad
  head_wrong rule w = record {
    header = λ e. w.header;
    torn_header = λ e. w.torn_header;
    erased = λ low high. w.erased;
    replaced = λ low high. absurd (omega (arith, rule, low));
    named = λ low high. absurd (omega (arith, rule, low));
    nothing = ⊎_elim (λ (e : bad.rule ≡ 12). absurd (omega (arith, rule, e))) (λ (e : bad.rule ≡ 10). absurd (omega (arith, rule, e)));
  }

  pub erased_wrong : 2 ≤ bad.rule → bad.rule ≤ 4 → IsWrong image bad.place Erased → AreWrong image bad
  erased_wrong from to w = record {
    header = λ e. absurd (omega (arith, from, e));
    torn_header = λ e. absurd (omega (arith, from, e));
    erased = λ low high. w;
    replaced = λ low high. absurd (omega (arith, to, low));
    named = λ low high. absurd (omega (arith, to, low));
    nothing = ⊎_elim (λ (e : bad.rule ≡ 12). absurd (omega (arith, to, e))) (λ (e : bad.rule ≡ 10). absurd (omega (arith, to, e)));
  }

  pub replaced_wrong : 5 ≤ bad.rule → bad.rule ≤ 6 → IsWrong image bad.place Replaced → AreWrong image bad
  replaced_wrong from to w = record {
    header = λ e. absurd (omega (arith, from, e));
    torn_header = λ e. absurd (omega (arith, from, e));
    erased = λ low high. absurd (omega (arith, from, high));
    replaced = λ low high. w;
    named = λ low high. absurd (omega (arith, to, low));
    nothing = ⊎_elim (λ (e : bad.rule ≡ 12). absurd (omega (arith, to, e))) (λ (e : bad.rule ≡ 10). absurd (omega (arith, to, e)));
  }

  pub named_wrong : 7 ≤ bad.rule → bad.rule ≤ 9 → IsWrong image bad.place Header → AreWrong image bad
  named_wrong from to w = record {
    header = λ e. w;
    torn_header = λ e. absurd (omega (arith, from, e));
    erased = λ low high. absurd (omega (arith, from, high));
    replaced = λ low high. absurd (omega (arith, from, high));
    named = λ low high. w;
    nothing = ⊎_elim (λ (e : bad.rule ≡ 12). absurd (omega (arith, to, e))) (λ (e : bad.rule ≡ 10). absurd (omega (arith, to, e)));
  }

  pub nothing_wrong : 10 ≤ bad.rule → IsWrong image bad.place no_guess → AreWrong image bad
  nothing_wrong rule w = record {
    header = λ e. absurd (omega (arith, rule, e));
    torn_header = λ e. absurd (omega (arith, rule, e));
    erased = λ low high. absurd (omega (arith, rule, high));
    replaced = λ low high. absurd (omega (arith, rule, high));
    named = λ low high. absurd (omega (arith, rule, high));
    nothing = λ e. w;
  }

  pub none_wrong : (bad.rule < 1) ⊎ ((10 ≤ bad.rule) × (bad.rule ≢ 12) × (bad.rule ≢ 10)) → AreWrong image bad
  none_wrong (inl low) = record {
    header = λ e. absurd (omega (arith, low, e));
    torn_header = λ e. absurd (omega (arith, low, e));
    erased = λ from to. absurd (omega (arith, low, from));
    replaced = λ from to. absurd (omega (arith, low, from));
    named = λ from to. absurd (omega (arith, low, from));
    nothing = ⊎_elim (λ (e : bad.rule ≡ 12). absurd (omega (arith, low, e))) (λ (e : bad.rule ≡ 10). absurd (omega (arith, low, e)));
  }
  none_wrong (inr out) = let high = out.0 in record {
    header = λ e. absurd (omega (arith, high, e));
    torn_header = λ e. absurd (omega (arith, high, e));
    erased = λ from to. absurd (omega (arith, high, to));
    replaced = λ from to. absurd (omega (arith, high, to));
    named = λ from to. absurd (omega (arith, high, to));
    nothing = ⊎_elim (λ (e : bad.rule ≡ 12). absurd (out.1 e)) (λ (e : bad.rule ≡ 10). absurd (out.2 e));
  }

module _ (image : List ℕ) (sectors : ℕ) (size : length image ≡ 4096 * sectors) (bad : BadImage) (broken : broken_image image ≡ Some bad) (wrong : AreWrong image bad) where
  by_way : (way : UnderWay) → MendsBy image way → ShowsUnderWay image bad way → ⊥
  by_way Nothing m s = wrong.nothing s.0 Nothing refl m
  by_way (Beginning page) m s = wrong.torn_header (ap (λ (b : BadImage). b.rule) s) (Beginning page) (refl, sym (ap (λ (b : BadImage). b.place) s)) m
  by_way (Building page) m s = wrong.header (ap (λ (b : BadImage). b.rule) s) (Building page) (refl, sym (ap (λ (b : BadImage). b.place) s)) m
  by_way (Erasing sector page) m (inl alone) = wrong.nothing alone.0 Nothing refl (record { found = tt; settles = alone.1 })
  by_way (Erasing sector page) m (inr s) = wrong.erased s.0 s.1 (Erasing sector page) (refl, sym s.2) m
  by_way (Unnamed log) m s =
      let low : 7 ≤ bad.rule = ⊎_elim (λ (e : bad.rule ≡ 7). omega (arith, e)) (λ (e : bad.rule ≡ 9). omega (arith, e)) s.0 in
      let high : bad.rule ≤ 9 = ⊎_elim (λ (e : bad.rule ≡ 7). omega (arith, e)) (λ (e : bad.rule ≡ 9). omega (arith, e)) s.0 in
      wrong.named low high (Unnamed log) (refl, sym s.1) m
  by_way (Naming page) m s =
      let rule : bad.rule ≡ 8 = ap (λ (b : BadImage). b.rule) s in
      wrong.named (omega (arith, rule)) (omega (arith, rule)) (Naming page) (refl, sym (ap (λ (b : BadImage). b.place) s)) m
  by_way (Replacing dropped kept) m s =
      let low : 5 ≤ bad.rule = ⊎_elim (λ (e : bad.rule ≡ 5). omega (arith, e)) (λ (e : bad.rule ≡ 6). omega (arith, e)) s in
      let high : bad.rule ≤ 6 = ⊎_elim (λ (e : bad.rule ≡ 5). omega (arith, e)) (λ (e : bad.rule ≡ 6). omega (arith, e)) s in
      wrong.replaced low high (Replacing dropped kept) refl m

  pub mends_to_none : MendsToNone image
  mends_to_none files m = by_way m.under_way (record { found = m.found; settles = m.settles }) (first_rules_show image sectors size bad broken files m)
