-- The image of a volume over a sound database.
use Rattle.std.proofs.Common.{◌≡◌, ℕ, ◌*◌, ◌/◌, ◌<◌, true, List, length, Option, Some, None, refl, ap, sym, subst, ◌∙◌, arith}
use Rattle.std.specs.Prelude.{IsTrue, is_some, option_map, unwrap_or}
use Rattle.afl_base.specs.Files.{AreDistinct, File, IsLive, IsNamed, Table, file_at, no_file, place}
use Rattle.coffee_layout.specs.Marks.{IsCramped}
use Rattle.coffee_layout.specs.Rules.{broken_image}
use Rattle.coffee_layout.specs.Tiling.{units_of}
use Rattle.coffee_layout.specs.Units.{pages_of}
use Rattle.coffee_volume.proofs.MountedShares.{mounted_cramped}
use Rattle.coffee_layout.specs.Files.{listed}
use Rattle.coffee_merge.proofs.SoundTables.{sound_few}
use Rattle.coffee_volume.proofs.MountedTables.{mounted_length}
use Rattle.coffee_volume.proofs.Tables.{length_seen}
use Rattle.coffee_volume.specs.Mounting.{mounted_state, mounted_table}
use Rattle.space_model.specs.Enough.{enough}
use Rattle.stored.proofs.Crowded.{crowded}
use Rattle.stored.proofs.FilesOf.{in_table}
use Rattle.stored.proofs.SameBase.{base_same, sound_same}
use Rattle.stored.specs.Base.{base_of}
use Rattle.stored.specs.Same.{HaveSameFiles}
use Rattle.stored.specs.Sound.{IsSoundTable}
use Rattle.image_model.proofs.Mounted.{mounted_files}
use Rattle.image_model.proofs.SameFiles.{distinct_image}
use Rattle.coffee_volume.specs.Asking.{AsksOf}
use Rattle.db_model.specs.declared.commands.Command.{Command}
use Rattle.db_model.specs.Database.{Database}
use Rattle.session_model.specs.Wanted.{WantsOver, room_in}
use Rattle.space_model.specs.FileNames.{asks_in, size_in}
use Rattle.space_model.specs.Wants.{Wants}
use Rattle.image_model.proofs.WantedThere.{room_stays, size_stays}
use Rattle.space_model.proofs.StillWanted.{wanted_still}
use Rattle.image_model.specs.Images.{IsSound, base}
use Rattle.image_model.specs.Lacking.{WantsOf}

-- a file of a name is live, and has it
named_there : (o : Option File) (name : List ℕ) → option_map (λ (f : File). f.name) o ≡ Some name → IsTrue (is_some o) × ((unwrap_or o no_file).name ≡ name)
named_there None name e = absurd (let n : ⊥ = cc in n)
named_there (Some f) name e = (refl, ap (λ (o : Option (List ℕ)). unwrap_or o f.name) e)

module _ (files : Table) (image : List ℕ) (sectors : ℕ) (size : length image ≡ 4096 * sectors) (places : length files ≡ 32) (d : AreDistinct files)
    (same : HaveSameFiles files (mounted_state image).files) (kept : broken_image image ≡ None) where
  whole : 256 * pages_of image ≡ length image
  whole = omega (arith, size)

  pub image_distinct : AreDistinct (mounted_state image).files
  image_distinct = distinct_image image kept whole

  long : length (mounted_state image).files ≡ 32
  long = length_seen true image (mounted_table (listed image)) ∙ mounted_length (listed image) (sound_few image kept whole)

  pub base_back : base image ≡ base_of files
  unfolding base
  base_back = ap base_of (sym (mounted_files image)) ∙ sym (base_same files (mounted_state image).files d image_distinct same)

  pub sound_back : IsSoundTable files → IsSound image
  sound_back sound = record {
    volume = kept;
    database = subst IsSoundTable (mounted_files image)
        (sound_same files (mounted_state image).files d image_distinct same (in_table files places) sound);
  }

  pub small_back : IsSoundTable files → (n : ℕ) → IsCramped (units_of image) n → length image / 4096 < enough (base image) n
  small_back sound n cramped =
      let table : IsSoundTable (mounted_state image).files = sound_same files (mounted_state image).files d image_distinct same (in_table files places) sound in
      let many = mounted_cramped image n sectors kept size cramped in
      let few = crowded (mounted_state image).files n sectors long image_distinct table many in
      let is : sectors ≡ length image / 4096 = omega (arith, size) in
      subst (λ (k : ℕ). k < enough (base image) n) is
      (subst (λ db. sectors < enough db n) (sym (base_same files (mounted_state image).files d image_distinct same) ∙ sym base_back) few)

  -- what a command wants of the files it wants of the image
  pub lacks_back : (asks : ℕ → ℕ → ℕ → ℕ → Type 0) → ((id w b need : ℕ) → IsLive files id → asks id w b need → AsksOf image (file_at files id).name w b need)
      → (c : Command) (n : ℕ) → WantsOver asks files (base_of files) c n → WantsOf image c n
  unfolding base
  lacks_back asks asked c n w =
      subst (λ (t : Table). Wants (size_in t) (AsksOf image) (room_in t) (base_of t) c n) (mounted_files image)
      (subst (λ (db : Database). Wants (size_in (mounted_state image).files) (AsksOf image) (room_in (mounted_state image).files) db c n)
      (base_same files (mounted_state image).files d image_distinct same)
      (wanted_still (size_in files) (size_in (mounted_state image).files) (asks_in asks files) (AsksOf image) (room_in files) (room_in (mounted_state image).files)
      (size_stays files (mounted_state image).files d image_distinct same) (room_stays files (mounted_state image).files d image_distinct same)
      (λ name w b need a.
      let there : (id : ℕ) × IsNamed files id name × asks id w b need = a in
      let named = named_there (place files there.0) name there.1 in
      subst (λ (x : List ℕ). AsksOf image x w b need) named.1 (asked there.0 w b need named.0 there.2))
      (base_of files) c n w))
