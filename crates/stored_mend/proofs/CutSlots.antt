-- A relation slot of which a write was cut off.
use Rattle.std.proofs.Common.{◌≡◌, ◌≢◌, inl, inr, ⊎_elim, ℕ, ◌+◌, ◌*◌, ◌<◌, ◌≤◌, List, [], ◌∷◌, ◌++◌, length, take, drop, replicate, Some, None, IsTrue, refl, ap, sym, subst, ◌∙◌, arith}
use Rattle.std.specs.Prelude.{slice_range}
use Rattle.std.proofs.lemmas.Bool.{cases_eq, cases_lt}
use Rattle.std.proofs.lemmas.List.{append-nil, drop_all, length-replicate, length-take-le, take-append-drop, take-append-le}
use Rattle.std.proofs.lemmas.Slice.{drop-append-drop}
use Rattle.std.proofs.lemmas.Slice.Eq.{bytes_eq-Decides}
use Rattle.afl_base.specs.CutFiles.{OverwritesFront}
use Rattle.afl_base.specs.Fields.{put_at}
use Rattle.afl_base.specs.Files.{State, bytes_at}
use Rattle.catalog.specs.Rules.{catalog_bytes_in}
use Rattle.db_model.specs.Catalog.{relation_slot_bytes}
use Rattle.db_model.specs.Database.{Database}
use Rattle.padded.proofs.Facts.{bytes_eq_same}
use Rattle.stored.specs.CutTables.{IsEdge, IsEmptiedInPart, IsSlot, relation, slot_bytes}
use Rattle.stored.specs.Mended.{mended_base, mended_catalog, whole_bytes, whole_catalog}
use Rattle.stored.specs.declared.half.Half.{Half}
use Rattle.stored.proofs.CatalogParts.{IsFrontPart, here_part}
use Rattle.stored.proofs.MendedBase.{whole_long}
use Rattle.stored_mend.specs.Listed.{IsListedTo, Reach}
use Rattle.stored_mend.specs.Mending.{HasInSlot, IsWholeCatalog}
use Rattle.stored_mend.proofs.CatalogKept.{after, catalog_before, emptied_front, whole_found}
use Rattle.stored_mend.proofs.CutCalls.{IsLeft}
use Rattle.stored_mend.proofs.HalfKept.{relation_at_slot}
use Rattle.stored_mend.proofs.ListedSlots.{keeps_becomes}
use Rattle.stored_mend.proofs.ListedSteps.{slot_cut}
use Rattle.stored_mend.proofs.PutOver.{length-range, take_zeros}
use Rattle.stored_mend.proofs.SlotEdits.{DifferIn, differ_put}

-- ---- a slot without a name is emptied

-- zeros stand in front up to where a region ends: as far as they stood, or farther
more_zeros : (k n : ℕ) (slot : List ℕ) → 0 < n → n < 176 → IsEdge k n → IsEmptiedInPart k slot → IsEmptiedInPart k (take n (relation_slot_bytes None) ++ drop n slot)
more_zeros k n slot some less edge p =
    let zeros : take n (relation_slot_bytes None) ≡ replicate n 0 =
    take-append-le n (replicate 175 0) (1 ∷ []) (omega (arith, less, length-replicate {A = ℕ} 175 0)) ∙ take_zeros n 175 (omega (arith, less)) in
    let long : length (replicate {A = ℕ} p.at 0) ≡ p.at = length-replicate {A = ℕ} p.at 0 in
    let behind : List ℕ = drop p.at (relation_slot_bytes (Some p.was)) in
    ⊎_elim
    (λ (past : p.at < n). record {
      was = p.was;
      valid = p.valid;
      at = n;
      inside = (some, less);
      edge = edge;
      bytes = ap (λ (xs : List ℕ). xs ++ drop n slot) zeros
          ∙ ap (λ (xs : List ℕ). replicate n 0 ++ xs) (ap (drop n) p.bytes ∙ drop-append-drop p.at (relation_slot_bytes (Some p.was)) (replicate p.at 0) n (omega (arith, past)) long);
    })
    (λ (within : n ≤ p.at).
    let front : take n slot ≡ replicate n 0 = ap (take n) p.bytes ∙ take-append-le n (replicate p.at 0) behind (omega (arith, within, long)) ∙ take_zeros n p.at within in
    subst (IsEmptiedInPart k) (sym (ap (λ (xs : List ℕ). xs ++ drop n slot) (zeros ∙ sym front) ∙ take-append-drop n slot)) p)
    (cases_lt p.at n)

emptied_part : (half : Half) (version k n : ℕ) (slot : List ℕ) → length slot ≡ 176 → IsFrontPart (176 * k) 176 n → n ≤ 176 → IsSlot half version k slot None
    → IsSlot half version k (take n (relation_slot_bytes None) ++ drop n slot) None
emptied_part half version k n slot size front few (inl written) =
    let is : slot ≡ relation_slot_bytes None = (bytes_eq-Decides slot (relation_slot_bytes None)).0 written in
    inl (bytes_eq_same (take n (relation_slot_bytes None) ++ drop n slot) (relation_slot_bytes None)
    (ap (λ (xs : List ℕ). take n (relation_slot_bytes None) ++ drop n xs) is ∙ take-append-drop n (relation_slot_bytes None)))
emptied_part half version k n slot size front few (inr part) = ⊎_elim
    (λ (none : n ≡ 0). inr (part.0, subst (λ (m : ℕ). IsEmptiedInPart k (take m (relation_slot_bytes None) ++ drop m slot)) (sym none) part.1))
    (λ (some : n ≢ 0). ⊎_elim
    (λ (all : n ≡ 176). inl (bytes_eq_same (take n (relation_slot_bytes None) ++ drop n slot) (relation_slot_bytes None)
    (ap (λ (xs : List ℕ). take n (relation_slot_bytes None) ++ xs) (drop_all n slot (omega (arith, all, size))) ∙ append-nil (take n (relation_slot_bytes None)) ∙ ap (λ (m : ℕ). take m (relation_slot_bytes None)) all)))
    (λ (less : n ≢ 176). inr (part.0, more_zeros k n slot (omega (arith, some)) (omega (arith, less, few)) (edge some less) part.1))
    (cases_eq n 176))
    (cases_eq n 0)
  where
    edge : n ≢ 0 → n ≢ 176 → IsEdge k n
    edge some less = ⊎_elim (λ (none : n ≡ 0). absurd (some none)) (λ rest. ⊎_elim (λ (all : n ≡ 176). absurd (less all)) (λ (ends : IsEdge k n). ends) rest) front

module _ (old now : State) (cat slot : ℕ) (reach : Reach) (below : slot < 8) (told : IsTrue old.tells) (w : IsWholeCatalog old.files cat) (l : IsListedTo reach old.files) where
  abbrev was : List ℕ
  was = bytes_at old.files cat

  here_is : slot_bytes old.files slot ≡ slice_range was (176 * slot) (176 * slot + 176)
  here_is = ap (λ (xs : List ℕ). slice_range xs (176 * slot) (176 * slot + 176)) (whole_found old.files cat w)

  pub emptied_left : HasInSlot old slot None → OverwritesFront old now cat (176 * slot) (relation_slot_bytes None) → IsLeft now.files (λ (db : Database). db ≡ mended_base old.files)
  emptied_left unused f =
      let n : ℕ = f.done in
      let part : List ℕ = take f.done (relation_slot_bytes None) in
      let few : length part ≡ f.done = length-take-le f.done (relation_slot_bytes None) f.within in
      let within = f.within in
      let long = w.long in
      let kept = emptied_front old now cat slot f.done w below f.within f.whole f.is unused in
      let now_is : catalog_bytes_in now.files ≡ put_at was (176 * slot) part = after old now cat _ _ w f.is told in
      let d : DifferIn was (put_at was (176 * slot) part) slot = differ_put was part (176 * slot) slot long below (omega arith) (omega (arith, few, within)) in
      let size = d.size in
      let whole : whole_catalog now.files ≡ put_at was (176 * slot) part = ap whole_bytes now_is ∙ whole_long (put_at was (176 * slot) part) (omega (arith, size, long)) in
      let room : 176 * slot + 176 ≤ length was = omega (arith, below, long) in
      let slot_now : slot_bytes now.files slot ≡ take f.done (relation_slot_bytes None) ++ drop f.done (slot_bytes old.files slot) =
      ap (λ (xs : List ℕ). slice_range xs (176 * slot) (176 * slot + 176)) whole
      ∙ here_part was (relation_slot_bytes None) (176 * slot) 176 f.done refl f.within room
      ∙ ap (λ (xs : List ℕ). take f.done (relation_slot_bytes None) ++ drop f.done xs) (sym here_is) in
      let size_here : length (slot_bytes old.files slot) ≡ 176 = ap (λ (xs : List ℕ). length xs) here_is ∙ length-range was (176 * slot) 176 room in
      let none : relation old.files slot ≡ None = relation_at_slot old.files slot below ∙ unused told in
      record {
        cut = slot_cut old now cat slot reach below told w (keeps_becomes old now cat _ _ w f.is kept.base)
            (subst (λ (xs : List ℕ). DifferIn xs (catalog_bytes_in now.files) slot) (sym (catalog_before old.files cat w)) (subst (λ (xs : List ℕ). DifferIn was xs slot) (sym now_is) d)) l
            (λ half h.
            let v : ℕ = (mended_catalog old.files).version in
            let was_slot : IsSlot half v slot (slot_bytes old.files slot) None = subst (IsSlot half v slot (slot_bytes old.files slot)) none (h.slots slot below) in
            subst (IsSlot half v slot (slot_bytes now.files slot)) (sym none)
            (subst (λ (xs : List ℕ). IsSlot half v slot xs None) (sym slot_now) (emptied_part half v slot f.done (slot_bytes old.files slot) size_here f.whole f.within was_slot)));
        is = kept.base told;
      }
