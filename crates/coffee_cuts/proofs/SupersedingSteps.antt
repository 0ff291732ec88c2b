-- Where a repair that is superseding a torn record is cut, the image mends to the same files still.
use Rattle.std.proofs.Common.{◌≡◌, ⊎_elim, ℕ, ◌+◌, ◌*◌, ◌/◌, ◌<◌, ◌≤◌, List, length, get_or, refl, ap, sym, subst, ◌∙◌, arith}
use Rattle.std.specs.List.{Contains}
use Rattle.std.proofs.lemmas.List.{ext_get_or}
use Rattle.coffee_layout.specs.FileBytes.{file_byte, record_place}
use Rattle.coffee_layout.specs.Files.{files_of, listed}
use Rattle.coffee_layout.specs.Rules.{broken_image}
use Rattle.coffee_layout.specs.Units.{pages_of}
use Rattle.flash_range.specs.Range.{Outside}
use Rattle.coffee_cuts.specs.Cuts.{IsSuperseding, without_two}
use Rattle.coffee_cuts.specs.Superseded.{SupersedesFurther}
use Rattle.coffee_cuts.proofs.Superseding.{in_or_out, superseding_files, two_long, two_number, two_others, two_records}

module _ (image new : List ℕ) (whole : 256 * pages_of image ≡ length image) (t : IsSuperseding image) (g : SupersedesFurther image new t) where
  abbrev log : ℕ
  log = t.log.0

  abbrev used : ℕ
  used = t.file.used

  inside : 256 * log + 4096 ≤ length new
  inside = let i = t.inside in let l = g.long in omega (arith, i, l)

  base_same : without_two new log used ≡ without_two image log used
  base_same = ext_get_or 0 (without_two new log used) (without_two image log used) (two_long new log used t.free inside ∙ g.long ∙ sym (two_long image log used t.free t.inside)) (λ k less. by_place k)
    where
      by_place : (k : ℕ) → get_or (without_two new log used) k 0 ≡ get_or (without_two image log used) k 0
      by_place k = ⊎_elim
          (λ (slot : (256 * log + 34 + 2 * used ≤ k) × (k < 256 * log + 34 + 2 * used + 2)).
          let from = slot.0 in
          let to = slot.1 in
          two_number new log used t.free inside k from (omega (arith, to)) ∙ sym (two_number image log used t.free t.inside k from (omega (arith, to))))
          (λ (out : Outside (256 * log + 34 + 2 * used) 2 k). ⊎_elim
          (λ (there : (record_place log used ≤ k) × (k < record_place log used + 256)).
          two_records new log used t.free inside k there.0 there.1 ∙ sym (two_records image log used t.free t.inside k there.0 there.1))
          (λ (beside : Outside (record_place log used) 256 k).
          sym (two_others new log used t.free inside k beside out) ∙ g.others k (λ a b. beside (omega (arith, a)) (omega (arith, b))) out ∙ two_others image log used t.free t.inside k beside out)
          (in_or_out (record_place log used) 256 k))
          (in_or_out (256 * log + 34 + 2 * used) 2 k)

  pub goes_on : (s : IsSuperseding new) × (s.log ≡ t.log) × (s.file ≡ t.file)
  goes_on = (
    record {
      file = t.file;
      log = t.log;
      logged = t.logged;
      free = t.free;
      inside = inside;
      sound = ap broken_image base_same ∙ t.sound;
      there = subst (λ x. Contains (listed x) t.file) (sym base_same) t.there;
      done = g.done;
      within = g.within;
      number = g.number;
      front = λ k low. g.front k low ∙ ap (λ x. file_byte x t.file.page.0 t.file.log k) (sym base_same);
      rest = g.rest;
    },
    refl,
    refl,
  )

  pub on_files : files_of new ≡ files_of image
  unfolding goes_on
  on_files =
      let long = g.long in
      let whole_new : 256 * pages_of new ≡ length new = ap (λ m. 256 * (m / 256)) long ∙ whole ∙ sym long in
      superseding_files new whole_new goes_on.0 ∙ ap files_of base_same ∙ sym (superseding_files image whole t)
