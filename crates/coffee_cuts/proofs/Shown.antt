-- Where a search by the first broken rule looks: at what was under way, whatever that was.
use Rattle.std.proofs.Common.{◌≡◌, inl, inr, ⊎_elim, ℕ, ◌*◌, ◌/◌, List, length, Some, None, ap, sym, subst, ◌∙◌, arith}
use Rattle.afl_base.specs.Image.{zeros_at}
use Rattle.coffee_layout.specs.Files.{NamedFile}
use Rattle.coffee_layout.specs.Rules.{broken_image}
use Rattle.coffee_layout.specs.declared.unit.BadImage.{BadImage}
use Rattle.coffee_cuts.specs.Cuts.{IsFound, IsSettled, MendsTo, UnderWay, Nothing, Beginning, Building, Erasing, Unnamed, Naming, Replacing, settled}
use Rattle.coffee_cuts.specs.Shown.{IsOnlyRecordTorn, ShowsUnderWay}
use Rattle.coffee_cuts.proofs.ErasedSectors.{BreaksIn, erasings_break_in_their_sector}
use Rattle.coffee_cuts.proofs.FirstRules.{drafts_break_rule_1, torn_headers_break_rule_1}
use Rattle.coffee_cuts.proofs.LoneLogs.{lone_logs_break_rule_7_or_9}
use Rattle.coffee_cuts.proofs.NamedLogs.{namings_break_rule_8}
use Rattle.coffee_cuts.proofs.Replaced.{replacings_break_names}
use Rattle.coffee_cuts.proofs.SupersedingRule.{breaks_at_log}
use Rattle.coffee_cuts.proofs.TornRule.{torn_records_break_rule_12}

one_bad : (a b : BadImage) → Some a ≡ Some b → b ≡ a
one_bad a b e = cc

not_none : {A : Type 0} (b : BadImage) → None ≡ Some b → A
not_none b e = cc

module _ (image : List ℕ) (sectors : ℕ) (size : length image ≡ 4096 * sectors) (bad : BadImage) (broken : broken_image image ≡ Some bad) where
  alone : IsSettled image → IsOnlyRecordTorn image bad
  alone (inl sound) = not_none bad (sym sound ∙ broken)
  alone (inr (inl torn)) = ⊎_elim
      (λ (none : broken_image image ≡ None). not_none bad (sym none ∙ broken))
      (λ (twelve : broken_image image ≡ Some (record { rule = 12; place = torn.log })).
      let same = one_bad (record { rule = 12; place = torn.log }) bad (sym twelve ∙ broken) in
      (inl (ap (λ (b : BadImage). b.rule) same), inr (inl torn)))
      (torn_records_break_rule_12 image sectors size torn)
  alone (inr (inr s)) = ⊎_elim
      (λ (none : broken_image image ≡ None). not_none bad (sym none ∙ broken))
      (⊎_elim
      (λ (twelve : broken_image image ≡ Some (record { rule = 12; place = s.log.0 })).
      let same = one_bad (record { rule = 12; place = s.log.0 }) bad (sym twelve ∙ broken) in
      (inl (ap (λ (b : BadImage). b.rule) same), inr (inr s)))
      (λ (ten : broken_image image ≡ Some (record { rule = 10; place = s.log.0 })).
      let same = one_bad (record { rule = 10; place = s.log.0 }) bad (sym ten ∙ broken) in
      (inr (ap (λ (b : BadImage). b.rule) same), inr (inr s))))
      (breaks_at_log image sectors size s)

  by_case : (w : UnderWay) → IsFound image w → IsSettled (settled image w) → ShowsUnderWay image bad w
  by_case Nothing f s = alone s
  by_case (Beginning page) f s = one_bad (record { rule = 1; place = page }) bad (sym (torn_headers_break_rule_1 image page sectors size f s) ∙ broken)
  by_case (Building page) f s = one_bad (record { rule = 1; place = page }) bad (sym (drafts_break_rule_1 image page sectors size f s) ∙ broken)
  by_case (Erasing sector page) f s = ⊎_elim
      (λ (same : image ≡ zeros_at image (4096 * sector) 4096). inl (alone (subst IsSettled (sym same) s)))
      (λ (b : BreaksIn sector (broken_image image)).
      let is : bad ≡ record { rule = b.rule; place = b.place } = one_bad (record { rule = b.rule; place = b.place }) bad (sym b.is ∙ broken) in
      let rule : bad.rule ≡ b.rule = ap (λ (x : BadImage). x.rule) is in
      let some = b.some in
      let few = b.few in
      inr (omega (arith, rule, some), omega (arith, rule, few), ap (λ (x : BadImage). x.place / 16) is ∙ b.there))
      (erasings_break_in_their_sector image sectors size sector page f s)
  by_case (Unnamed log) f s =
      let b = lone_logs_break_rule_7_or_9 image log sectors size f s in
      let is : bad ≡ record { rule = b.rule; place = log } = one_bad (record { rule = b.rule; place = log }) bad (sym b.is ∙ broken) in
      let rule : bad.rule ≡ b.rule = ap (λ (x : BadImage). x.rule) is in
      (⊎_elim (λ (e : b.rule ≡ 7). inl (rule ∙ e)) (λ (e : b.rule ≡ 9). inr (rule ∙ e)) b.which, ap (λ (x : BadImage). x.place) is)
  by_case (Naming page) f s = one_bad (record { rule = 8; place = page }) bad (sym (namings_break_rule_8 image page sectors size f s) ∙ broken)
  by_case (Replacing dropped kept) f s =
      let b = replacings_break_names image sectors size dropped kept f s in
      let is : bad ≡ record { rule = b.rule; place = b.place } = one_bad (record { rule = b.rule; place = b.place }) bad (sym b.is ∙ broken) in
      let rule : bad.rule ≡ b.rule = ap (λ (x : BadImage). x.rule) is in
      ⊎_elim (λ (e : b.rule ≡ 5). inl (rule ∙ e)) (λ (e : b.rule ≡ 6). inr (rule ∙ e)) b.which

  -- so of whatever an image mends to, the first broken rule shows what was under way
  pub first_rules_show : (files : List NamedFile) (m : MendsTo image files) → ShowsUnderWay image bad m.under_way
  first_rules_show files m = by_case m.under_way m.found m.settles
