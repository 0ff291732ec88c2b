-- An image that breaks another rule than 12 first is not settled; and where it is 12, the record of that log alone may be torn.
use Rattle.std.proofs.Common.{◌≡◌, ◌⊎◌, inl, inr, ⊎_elim, ℕ, ◌+◌, ◌*◌, ◌≤◌, ◌<◌, List, length, Some, None, refl, ap, sym, subst, ◌∙◌, arith}
use Rattle.std.proofs.lemmas.Bool.{cases_lt}
use Rattle.afl_base.specs.Image.{zeros_at}
use Rattle.coffee_layout.specs.Rules.{broken_image}
use Rattle.coffee_layout.specs.declared.unit.BadImage.{BadImage}
use Rattle.afl_base.specs.declared.ids.PageId.{PageId}
use Rattle.coffee_layout.specs.Units.{pages_of}
use Rattle.coffee_cuts.specs.Cuts.{HasTornRecord, IsActiveAt, IsSettled, IsSuperseding, next_record, without_two}
use Rattle.coffee_cuts.proofs.SettledRules.{fits}
use Rattle.coffee_cuts.proofs.Superseding.{in_use, log_active}
use Rattle.coffee_cuts.proofs.SupersedingRule.{breaks_at_log}
use Rattle.coffee_cuts.proofs.TornAlone.{log_inside, owner, torn_supersedes}
use Rattle.coffee_find.specs.Search.{IsTornAtMost}
use Rattle.coffee_layout.specs.FileBytes.{table_of, used_in}
use Rattle.coffee_cuts.proofs.TornRule.{torn_records_break_rule_12}

bad_none : {A : Type 0} (b : BadImage) → None ≡ Some b → A
bad_none b e = cc

bad_same : (a b : BadImage) → Some a ≡ Some b → a ≡ b
bad_same a b e = cc

module _ (image : List ℕ) (sectors : ℕ) (size : length image ≡ 4096 * sectors) (bad : BadImage) (broken : broken_image image ≡ Some bad) where
  twelve : (t : HasTornRecord image) → bad ≡ record { rule = 12; place = t.log }
  twelve t = ⊎_elim
      (λ (none : broken_image image ≡ None). bad_none bad (sym none ∙ broken))
      (λ (is : broken_image image ≡ Some (record { rule = 12; place = t.log })). bad_same bad (record { rule = 12; place = t.log }) (sym broken ∙ is))
      (torn_records_break_rule_12 image sectors size t)

  ten : (t : IsSuperseding image) → (bad ≡ record { rule = 12; place = t.log.0 }) ⊎ (bad ≡ record { rule = 10; place = t.log.0 })
  ten t = ⊎_elim
      (λ (none : broken_image image ≡ None). bad_none bad (sym none ∙ broken))
      (⊎_elim
      (λ (is : broken_image image ≡ Some (record { rule = 12; place = t.log.0 })). inl (bad_same bad (record { rule = 12; place = t.log.0 }) (sym broken ∙ is)))
      (λ (is : broken_image image ≡ Some (record { rule = 10; place = t.log.0 })). inr (bad_same bad (record { rule = 10; place = t.log.0 }) (sym broken ∙ is))))
      (breaks_at_log image sectors size t)

  pub other_rule : (bad.rule ≡ 12 → ⊥) → (bad.rule ≡ 10 → ⊥) → IsSettled image → ⊥
  other_rule other not_ten (inl sound) = bad_none bad (sym sound ∙ broken)
  other_rule other not_ten (inr (inl t)) = other (ap (λ (b : BadImage). b.rule) (twelve t))
  other_rule other not_ten (inr (inr t)) = ⊎_elim
      (λ (e : bad ≡ record { rule = 12; place = t.log.0 }). other (ap (λ (b : BadImage). b.rule) e))
      (λ (e : bad ≡ record { rule = 10; place = t.log.0 }). not_ten (ap (λ (b : BadImage). b.rule) e))
      (ten t)

  pub same_log : (t : HasTornRecord image) → t.log ≡ bad.place
  same_log t = sym (ap (λ (b : BadImage). b.place) (twelve t))

  pub same_superseded : (t : IsSuperseding image) → t.log.0 ≡ bad.place
  same_superseded t = ⊎_elim
      (λ (e : bad ≡ record { rule = 12; place = t.log.0 }). sym (ap (λ (b : BadImage). b.place) e))
      (λ (e : bad ≡ record { rule = 10; place = t.log.0 }). sym (ap (λ (b : BadImage). b.place) e))
      (ten t)

  pub is_broken : broken_image image ≡ None → ⊥
  is_broken none = bad_none bad (sym none ∙ broken)

  -- so only the record of that log may be torn
  pub at_most : IsTornAtMost image bad.place
  at_most = record { broken = is_broken; torn = same_log; superseding = same_superseded }

-- THE LAST RECORD OF A LOG

-- where it is not torn, the image is not settled
pub last_missed : (image : List ℕ) (sectors log place : ℕ) → length image ≡ 4096 * sectors → IsTornAtMost image log → place ≡ next_record image log → used_in (table_of image log) ≡ 29 → (broken_image (zeros_at image place 128) ≡ None → ⊥) → IsSettled image → ⊥
last_missed image sectors log place size m is last blank (inl sound) = m.broken sound
last_missed image sectors log place size m is last blank (inr (inl t)) =
    blank (subst (λ p. broken_image (zeros_at image p 128) ≡ None) (ap (next_record image) (m.torn t) ∙ sym is) t.sound)
last_missed image sectors log place size m is last blank (inr (inr t)) =
    let free = t.free in
    let used = in_use image (omega (arith, size)) t in
    let count : used_in (table_of image t.log.0) ≡ 29 = ap (λ l. used_in (table_of image l)) (m.superseding t) ∙ last in
    absurd (omega (arith, free, used, count))

-- A RECORD BEFORE IT

module _ (image : List ℕ) (sectors : ℕ) (size : length image ≡ 4096 * sectors) (log : PageId) (m : IsTornAtMost image log.0) (low : used_in (table_of image log.0) < 29) where
  whole : 256 * pages_of image ≡ length image
  whole = omega (arith, size)

  abbrev used : ℕ
  used = used_in (table_of image log.0)

  abbrev base : List ℕ
  base = without_two image log.0 (used_in (table_of image log.0))

  -- an image that is settled is superseding here
  pub settled_supersedes : IsSettled image → (t : IsSuperseding image) × (t.log ≡ log) × (t.file.used ≡ used)
  settled_supersedes (inl sound) = absurd (m.broken sound)
  settled_supersedes (inr (inl t)) =
      let same : t.log ≡ log.0 = m.torn t in
      let few : used_in (table_of image t.log) < 29 = subst (λ l. used_in (table_of image l) < 29) (sym same) low in
      let o = owner image whole t few in
      let s = torn_supersedes image whole t few o.0 (record { 0 = t.log }) refl o.2 o.1 in
      let u = in_use image whole s.0 in
      (s.0, s.1 ∙ ap (λ n. record { 0 = n }) same, sym u ∙ ap (λ (l : PageId). used_in (table_of image l.0)) (s.1 ∙ ap (λ n. record { 0 = n }) same))
  settled_supersedes (inr (inr t)) =
      let same : t.log.0 ≡ log.0 = m.superseding t in
      (t, ap (λ n. record { 0 = n }) same, sym (in_use image whole t) ∙ ap (λ l. used_in (table_of image l)) same)

  -- so without the two records it is sound
  pub two_missed : (broken_image base ≡ None → ⊥) → IsSettled image → ⊥
  two_missed broken s =
      let t = settled_supersedes s in
      broken (subst (λ (l : PageId). broken_image (without_two image l.0 used) ≡ None) t.1 (subst (λ n. broken_image (without_two image t.0.log.0 n) ≡ None) t.2 t.0.sound))

-- WHERE NO RECORD MAY BE TORN

module _ (image : List ℕ) (sectors : ℕ) (size : length image ≡ 4096 * sectors) (log : ℕ) (m : IsTornAtMost image log) where
  pub missed_inactive : (IsActiveAt image log 19 → ⊥) → IsSettled image → ⊥
  missed_inactive none (inl sound) = m.broken sound
  missed_inactive none (inr (inl t)) = none (subst (λ l. IsActiveAt image l 19) (m.torn t) t.is_log)
  missed_inactive none (inr (inr t)) = none (subst (λ l. IsActiveAt image l 19) (m.superseding t) (log_active image (omega (arith, size)) t))

  -- all records are in use, or the log does not lie inside the flash
  pub missed_full : (used : ℕ) → used ≡ used_in (table_of image log) → (used ≡ 30) ⊎ (length image < 256 * log + 4096) → IsSettled image → ⊥
  missed_full used is full (inl sound) = m.broken sound
  missed_full used is full (inr (inl t)) =
      let same = m.torn t in
      let count : used_in (table_of image t.log) ≡ used = ap (λ l. used_in (table_of image l)) same ∙ sym is in
      let free = t.free in
      let inside : 256 * t.log + 4096 ≤ length image = ⊎_elim
      (λ (low : used_in (table_of image t.log) < 29). log_inside image (omega (arith, size)) t low)
      (λ (high : 29 ≤ used_in (table_of image t.log)).
      let room : next_record image t.log + 128 ≤ length image = fits image (omega (arith, size)) t in
      let at : next_record image t.log ≡ 256 * t.log + 96 + 128 * used_in (table_of image t.log) = refl in
      omega (arith, room, at, high, size))
      (cases_lt (used_in (table_of image t.log)) 29) in
      ⊎_elim
      (λ (all : used ≡ 30). absurd (omega (arith, all, count, free)))
      (λ (far : length image < 256 * log + 4096). absurd (omega (arith, far, inside, same)))
      full
  missed_full used is full (inr (inr t)) =
      let same = m.superseding t in
      let count : used_in (table_of image t.log.0) ≡ used = ap (λ l. used_in (table_of image l)) same ∙ sym is in
      let in_it = in_use image (omega (arith, size)) t in
      let free = t.free in
      let room = t.inside in
      ⊎_elim
      (λ (all : used ≡ 30). absurd (omega (arith, all, count, free, in_it)))
      (λ (far : length image < 256 * log + 4096). absurd (omega (arith, far, room, same)))
      full
