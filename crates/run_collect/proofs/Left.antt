-- What a collection leaves and says, status by status.
use Rattle.std.proofs.Common.{◌≡◌, ◌⊎◌, inl, inr, ℕ, ◌*◌, ◌/◌, ◌≤◌, Bool, List, [], length, Option, refl, ap, sym, subst, ◌∙◌, arith, length-append}
use Rattle.std.specs.Io.KnownBytes.{append_known}
use Rattle.coffee_layout.specs.Marks.{is_taken}
use Rattle.coffee_layout.specs.Tiling.{IsTiled, nowhere, units_of}
use Rattle.coffee_layout.specs.declared.unit.Unit.{Unit}
use Rattle.coffee_space.specs.Collection.{IsCollected, number_taken}
use Rattle.coffee_space.specs.Cutting.{IsCutCollection}
use Rattle.reply_text.specs.WroteLess.{WroteLess}
use Rattle.reply_text.proofs.Pieces.{append_known-nil}
use Rattle.image_model.specs.Images.{IsFirstBroken, IsSound, base}
use Rattle.image_model.specs.Mending.{ImageMendsTo}
use Rattle.image_model.proofs.OneBase.{sound_mends}
use Rattle.run_collect.specs.Collects.{BreaksCollectionOff, Collected, Collects, Failed, IsCollectStatus, NumberUnsaid, RefusalUnsaid, Refuses, erased_line}
use Rattle.run_collect.specs.Comes.{CollectsTo, IsCollectionSaid}
use Rattle.run_collect.specs.declared.came.Came.{Came}
use Rattle.run_collect.specs.declared.came.Came.TheVariants as came
use Rattle.run_collect.proofs.Kept.{CollectionsMend, collected_files, tiled}
use Rattle.run_collect.proofs.SameBase.{collected_base, collected_sound, cut_mends}

-- ---- what is left

-- a collection of a sound image, which was judged before
pub left_collected : (old mid new : List ℕ) (sectors erased : ℕ) → length old ≡ 4096 * sectors → mid ≡ old → length new ≡ length mid → IsSound old
    → ((building : ℕ → Bool) (us : List Unit) → IsTiled building mid us → IsCollected building mid new us)
    → ((building : ℕ → Bool) (us : List Unit) → IsTiled building mid us → erased ≡ number_taken (is_taken us) (length mid / 4096))
    → CollectsTo old new (came.Collected erased)
left_collected old mid new sectors erased size same long s collected number =
    let there : IsTiled nowhere mid (units_of old) = subst (λ i. IsTiled nowhere i (units_of old)) (sym same) (tiled old old sectors size refl s.volume) in
    let is : IsCollected nowhere old new (units_of old) = subst (λ i. IsCollected nowhere i new (units_of old)) same (collected nowhere (units_of old) there) in
    let sized : length new ≡ length old = long ∙ ap length same in (
      record {
        sound = s;
        collected = is;
        still = collected_sound old new sectors size sized s is;
        files = collected_files old new sectors size sized s.volume is;
        same = collected_base old new sectors size sized s is;
      },
      number nowhere (units_of old) there ∙ ap (λ (i : List ℕ). number_taken (is_taken (units_of old)) (length i / 4096)) same,
    )

-- an image that is as it was
pub left_same : (old new : List ℕ) (sectors : ℕ) → length old ≡ 4096 * sectors → new ≡ old → BreaksCollectionOff old new
left_same old new sectors size same = record {
  sound = λ s. subst (λ i. ImageMendsTo i (λ db. db ≡ base old)) (sym same) (sound_mends old sectors size s);
  other = λ unsound. same;
}

-- one whose collection broke off
pub left_cut : CollectionsMend → (old mid new : List ℕ) (sectors : ℕ) → length old ≡ 4096 * sectors → sectors ≤ 4095 → mid ≡ old → length new ≡ length mid → IsSound old
    → ((building : ℕ → Bool) (us : List Unit) → IsTiled building mid us → IsCutCollection building mid new us) → BreaksCollectionOff old new
left_cut mend old mid new sectors size few same long s cut =
    let there : IsTiled nowhere mid (units_of old) = subst (λ i. IsTiled nowhere i (units_of old)) (sym same) (tiled old old sectors size refl s.volume) in
    let is : IsCutCollection nowhere old new (units_of old) = subst (λ i. IsCutCollection nowhere i new (units_of old)) same (cut nowhere (units_of old) there) in
    record {
      sound = λ t. cut_mends old new sectors size (long ∙ ap length same) s mend (omega (arith, few)) is;
      other = λ unsound. absurd (unsound s);
    }

-- ---- statuses

module _ (status : ℕ) (old new : List ℕ) (held now : Option (List ℕ)) where
  by_done : status ≡ 0 → Collected old new held now → Collects status old new held now
  by_done is left = record {
    done = λ e. left;
    failed = λ e. absurd (omega (arith, is, e));
    unsaid = λ e. absurd (omega (arith, is, e));
    refused = λ e. absurd (omega (arith, is, e));
  }

  by_failed : status ≡ 4 → Failed old new held now → Collects status old new held now
  by_failed is left = record {
    done = λ e. absurd (omega (arith, is, e));
    failed = λ e. left;
    unsaid = λ e. absurd (omega (arith, is, e));
    refused = λ e. absurd (omega (arith, is, e));
  }

  by_unsaid : status ≡ 5 → NumberUnsaid old new held now ⊎ RefusalUnsaid old new held now → Collects status old new held now
  by_unsaid is left = record {
    done = λ e. absurd (omega (arith, is, e));
    failed = λ e. absurd (omega (arith, is, e));
    unsaid = λ e. left;
    refused = λ e. absurd (omega (arith, is, e));
  }

  by_refused : status ≡ 6 → Refuses old new held now → Collects status old new held now
  by_refused is left = record {
    done = λ e. absurd (omega (arith, is, e));
    failed = λ e. absurd (omega (arith, is, e));
    unsaid = λ e. absurd (omega (arith, is, e));
    refused = λ e. left;
  }

  none_less : WroteLess held now [] → ⊥
  none_less w = omega (arith, w.some, ap length w.whole, length-append w.written w.left)

  pub collects : (c : Came) → CollectsTo old new c → IsCollectionSaid status c held now → Collects status old new held now
  collects (came.Collected erased) left (inl all) = by_done all.0 (record { image = left.0; written = all.1 ∙ ap (λ n. append_known held (erased_line n)) left.1 })
  collects (came.Collected erased) left (inr less) = by_unsaid less.0 (inl (record { image = left.0; written = subst (λ n. WroteLess held now (erased_line n)) left.1 less.1 }))
  collects (came.Refused bad) left (inl all) = by_refused all.0 (record { rule = bad.rule; place = bad.place; left = left; written = all.1 })
  collects (came.Refused bad) left (inr less) = by_unsaid less.0 (inr (record { rule = bad.rule; place = bad.place; left = left; written = less.1 }))
  collects came.Failed left (inl all) = by_failed all.0 (record { image = left; unwritten = all.1 ∙ append_known-nil held })
  collects came.Failed left (inr less) = absurd (none_less less.1)

  -- an image that is not sound
  pub unsound_status : IsCollectStatus status → Collects status old new held now → (IsSound old → ⊥) → (status ≡ 4) ⊎ (status ≡ 5) ⊎ (status ≡ 6)
  unsound_status (inl zero_is) c unsound = absurd (unsound (c.done zero_is).image.sound)
  unsound_status (inr rest) c unsound = rest

  -- a sound one, where nothing failed
  pub faultless_status : IsCollectStatus status → Collects status old new held now → IsSound old → ((rule place : ℕ) → IsFirstBroken old rule place → ⊥) → (status ≡ 4 → ⊥) → (status ≡ 5 → ⊥) → status ≡ 0
  faultless_status (inl zero_is) c s unbroken no_four no_five = zero_is
  faultless_status (inr (inl four)) c s unbroken no_four no_five = absurd (no_four four)
  faultless_status (inr (inr (inl five))) c s unbroken no_four no_five = absurd (no_five five)
  faultless_status (inr (inr (inr six))) c s unbroken no_four no_five = let r = c.refused six in absurd (unbroken r.rule r.place r.left.first)
