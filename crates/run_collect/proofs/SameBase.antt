-- A collected image is sound and stands for the database that it stood for, and what a cut within the collection leaves mends to it.
use Rattle.std.proofs.Common.{◌≡◌, ℕ, ◌*◌, ◌≤◌, List, length, refl, ap, sym, subst}
use Rattle.coffee_layout.specs.Tiling.{nowhere, units_of}
use Rattle.coffee_space.specs.Collection.{IsCollected}
use Rattle.coffee_space.specs.Cutting.{IsCutCollection}
use Rattle.coffee_volume.specs.Cuts.{MendsToFiles}
use Rattle.image_model.specs.Images.{IsSound, base, files_of_image}
use Rattle.image_model.specs.Mending.{ImageMendsTo}
use Rattle.image_model.proofs.Mounted.{mounted_files}
use Rattle.image_model.proofs.OneBase.{sound_base, sound_cut}
use Rattle.stored.specs.Base.{base_of}
use Rattle.stored.specs.Sound.{IsSoundTable}
use Rattle.run_collect.proofs.Kept.{CollectionsMend, collected_files, collected_unbroken, cut_files}

module _ (old new : List ℕ) (sectors : ℕ) (size : length old ≡ 4096 * sectors) (long : length new ≡ length old) (s : IsSound old) where
  pub cut_mends : CollectionsMend → sectors ≤ 4096 → IsCutCollection nowhere old new (units_of old) → ImageMendsTo new (λ db. db ≡ base old)
  cut_mends mend small cut = record {
    files = files_of_image old;
    mends_to = subst (MendsToFiles new) (mounted_files old) (cut_files old new sectors size long s.volume mend small cut);
    cut = sound_cut old sectors size s;
    is = sound_base old s;
  }

  module _ (c : IsCollected nowhere old new (units_of old)) where
    tables_same : files_of_image new ≡ files_of_image old
    unfolding files_of_image
    tables_same = rw (collected_files old new sectors size long s.volume c) refl

    pub collected_base : base new ≡ base old
    unfolding base
    collected_base = ap base_of tables_same

    pub collected_sound : IsSound new
    collected_sound = record {
      volume = collected_unbroken old new sectors size long s.volume c;
      database = subst IsSoundTable (sym tables_same) s.database;
    }
