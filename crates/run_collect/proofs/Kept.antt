-- A collected image keeps the rules 1 to 13 and has the files that it had, and what a cut within the collection leaves mends to them.
use Rattle.std.proofs.Common.{◌≡◌, ⊎_elim, ℕ, ◌*◌, ◌≤◌, Bool, true, false, List, [], ◌∷◌, length, map, None, cond, refl, ap, sym, subst, ◌∙◌, arith}
use Rattle.std.specs.List.{filter}
use Rattle.coffee_cuts.proofs.TornRecords.{map_among}
use Rattle.padded.proofs.Facts.{true_or_false}
use Rattle.coffee_cuts.specs.Mending.{IsTable, MendsToTable}
use Rattle.coffee_layout.specs.Files.{Placed, extents, files_in, files_of, is_file, listed, named_file}
use Rattle.coffee_layout.specs.Rules.{broken_image}
use Rattle.coffee_layout.specs.Tiling.{IsTiled, nowhere, units_of}
use Rattle.coffee_layout.specs.Units.{pages_of}
use Rattle.coffee_layout.specs.Walks.{has_few}
use Rattle.coffee_layout.specs.declared.file.FileAt.{FileAt}
use Rattle.coffee_layout.specs.declared.unit.Unit.{Unit}
use Rattle.coffee_layout.proofs.Tilings.{units_tiled}
use Rattle.coffee_merge.specs.Holding.{Entries, HoldsTable, IsIn, Stays}
use Rattle.coffee_merge.specs.Torn.{TearsCollection}
use Rattle.coffee_merge.proofs.Holdings.{holds_tiled}
use Rattle.coffee_merge.proofs.MovedFiles.{content_same}
use Rattle.coffee_merge.proofs.Obtained.{obtained}
use Rattle.coffee_merge.proofs.SoundHolders.{file_holder, named_is}
use Rattle.coffee_merge.proofs.SoundImages.{held_sound}
use Rattle.coffee_merge.proofs.SoundRules.{file_active}
use Rattle.coffee_merge.proofs.SoundTables.{sound_few, sound_sparing}
use Rattle.coffee_merge.proofs.SoundUnits.{Among}
use Rattle.coffee_space.specs.Collection.{IsCollected, active_extents, is_active_extent}
use Rattle.coffee_space.specs.Cutting.{IsCutCollection}
use Rattle.coffee_volume.specs.Cuts.{MendsToFiles}
use Rattle.coffee_volume.specs.KeptTables.{files_mend, length_places}
use Rattle.coffee_volume.specs.Mounting.{mounted_state, mounted_table}
use Rattle.coffee_volume.specs.Volumes.{places}
use Rattle.coffee_volume.proofs.MountedTables.{mounted_holds, mounted_length, mounted_places}

-- ---- lists

-- what passes a test is among what passes a weaker one
filter_within : (p q : Placed → Bool) → ((e : Placed) → p e ≡ true → q e ≡ true) → (es : List Placed) → filter p (filter q es) ≡ filter p es
filter_within p q weaker [] = refl
filter_within p q weaker (e ∷ es) =
    let rest = filter_within p q weaker es in
    ⊎_elim
    (λ (t : q e ≡ true). ap (λ b. filter p (cond b (e ∷ filter q es) (filter q es))) t ∙ ap (λ r. cond (p e) (e ∷ r) r) rest)
    (λ (f : q e ≡ false). ap (λ b. filter p (cond b (e ∷ filter q es) (filter q es))) f ∙ rest ∙ sym (ap (λ b. cond b (e ∷ filter p es) (filter p es)) (⊎_elim
    (λ (t : p e ≡ true). let no : true ≡ false = sym (weaker e t) ∙ f in absurd (cc))
    (λ (g : p e ≡ false). g)
    (true_or_false (p e)))))
    (true_or_false (q e))

-- the files are those among the active extents
active_files : (us : List Unit) → filter is_file (active_extents us) ≡ files_in us
active_files us = filter_within is_file is_active_extent file_active (extents 0 us)

-- ---- a sound image

-- what a cut within a collection leaves of an image that holds a table mends to its files
abbrev pub CollectionsMend : Type 0
CollectionsMend = (whole new : List ℕ) (table : Entries) → IsTable whole table None → length new ≡ length whole → TearsCollection whole new → MendsToTable new whole table

module _ (old new : List ℕ) (sectors : ℕ) (size : length old ≡ 4096 * sectors) (long : length new ≡ length old) (sound : broken_image old ≡ None) where
  whole : 256 * pages_of old ≡ length old
  whole = omega (arith, size)

  holds : HoldsTable old (places (mounted_table (listed old))) None
  holds = mounted_holds old (listed old) refl sound whole

  few : length (places (mounted_table (listed old))) ≤ 32
  few = omega (arith, length_places (mounted_table (listed old)), mounted_length (listed old) (sound_few old sound whole))

  sparing : (i : ℕ) (e : FileAt) → IsIn (places (mounted_table (listed old))) i e → has_few e ≡ true
  sparing i e is = sound_sparing old _ i e sound whole (subst (λ t. IsIn t i e) (mounted_places (listed old)) is)

  pub tiled : IsTiled nowhere old (units_of old)
  tiled = holds_tiled old (places (mounted_table (listed old))) None holds

  -- what a cut within its collection leaves
  pub cut_files : CollectionsMend → sectors ≤ 4096 → IsCutCollection nowhere old new (units_of old) → MendsToFiles new (mounted_state old).files
  cut_files mend small cut =
      let is : IsTable old (places (mounted_table (listed old))) None = record { holds = holds; few = few; sparing = sparing; sectors = sectors; size = size; small = small } in
      let tears : TearsCollection old new = record { cut = λ us t. subst (IsCutCollection nowhere old new) (units_tiled nowhere old us t) cut } in
      files_mend true new old (mounted_table (listed old)) refl (mend old new (places (mounted_table (listed old))) is long tears)

  module _ (c : IsCollected nowhere old new (units_of old)) where
    units : active_extents (units_of new) ≡ active_extents (units_of old)
    units = ap active_extents (units_tiled nowhere new _ c.tiled) ∙ c.extents

    stays : Stays old new (places (mounted_table (listed old)))
    stays = obtained old new (places (mounted_table (listed old))) holds long (subst (λ us. IsTiled nowhere new us) (sym (units_tiled nowhere new _ c.tiled)) c.tiled) units c.active

    files_there : files_in (units_of new) ≡ files_in (units_of old)
    files_there = sym (active_files (units_of new)) ∙ ap (filter is_file) units ∙ active_files (units_of old)

    file_same : (f : Placed) → Among f (files_in (units_of old)) → named_file new f ≡ named_file old f
    file_same f a =
        let by = file_holder old (places (mounted_table (listed old))) f holds a in
        let before = holds.stored by.place by.entry by.is_in in
        let after = stays.holds.stored by.place by.entry by.is_in in
        ap (named_file new) by.is ∙ named_is new by.entry after ∙ content_same old new by.entry before after (stays.kept by.place by.entry by.is_in)
        ∙ sym (named_is old by.entry before) ∙ sym (ap (named_file old) by.is)

    pub collected_files : files_of new ≡ files_of old
    collected_files = ap (map (named_file new)) files_there ∙ map_among (named_file new) (named_file old) (files_in (units_of old)) file_same

    pub collected_unbroken : broken_image new ≡ None
    collected_unbroken = held_sound new (places (mounted_table (listed old))) stays.holds few sparing
