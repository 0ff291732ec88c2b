-- What superseding a torn record is given, and what a cut leaves of it.
use Rattle.std.specs.Prelude.{◌≡◌, ◌⊎◌, ℕ, ◌<◌, List, slice_index}
use Rattle.afl_base.specs.Image.{zeros_at}
use Rattle.coffee_cuts.specs.Cuts.{IsSuperseding, without_two}
use Rattle.coffee_cuts.specs.Superseded.{SupersedesFurther, IsSuperseded}
use Rattle.coffee_find.specs.Found.{IsTornAt}
use Rattle.coffee_find.specs.declared.trouble.TornRecord.{TornRecord}
use Rattle.coffee_layout.specs.FileBytes.{file_byte}
use Rattle.coffee_layout.specs.declared.file.FileAt.{FileAt}
use Rattle.coffee_mend.specs.Joined.{IsOwner}

-- a torn record is the one that is being superseded, and these are the bytes of the first region of its file
pub record HoldsFirst (image : List ℕ) (r : TornRecord) (region : List ℕ) (t : IsSuperseding image) : Type 0 where
  pub log_is : t.log ≡ r.log
  pub used_is : t.file.used ≡ r.used
  pub bytes : (k : ℕ) → k < 128 → slice_index region k ≡ file_byte (without_two image t.log.0 t.file.used) t.file.page.0 t.file.log k

-- a repair that was superseding a torn record has gone on with it, or is done
abbrev pub GoesOnOrIsDone : (image new : List ℕ) → IsSuperseding image → Type 0
GoesOnOrIsDone image new t = SupersedesFurther image new t ⊎ IsSuperseded image new t

-- an image is sound but for a torn record of the log of a file
pub record IsTornOf (image : List ℕ) (r : TornRecord) (file : FileAt) : Type 0 where
  pub torn : IsTornAt image r.log.0 r.place
  pub owner : IsOwner (zeros_at image r.place 128) r.log file
