use Rattle.std.proofs.Common.{◌≤◌, subst, sym}
use Rattle.db_model.specs.Database.{Database}
use Rattle.space_model.specs.Enough.{most}
use Rattle.image_model.proofs.HandedBack.{base_back, lacks_back, small_back, sound_back}
use Rattle.image_model.proofs.SameFiles.{same_files}
use Rattle.image_model.proofs.returned.sound_files_are_a_sound_image.Goals as goal

pub returns-clause-sound : goal.returns-clause-sound
returns-clause-sound g c =
    let u = c.ends.ensures in
    λ told idle sound.
    sound_back _ _ u.size.0 u.size.1 c.tell_places.ensures.places c.tell_places.ensures.distinct
    (same_files _ _ (u.each told idle) (u.only told idle)) (u.sound told idle) sound

pub returns-clause-base : goal.returns-clause-base
returns-clause-base g c =
    let u = c.ends.ensures in
    λ told idle sound.
    base_back _ _ u.size.0 u.size.1 c.tell_places.ensures.places c.tell_places.ensures.distinct
    (same_files _ _ (u.each told idle) (u.only told idle)) (u.sound told idle)

pub returns-clause-lacks : goal.returns-clause-lacks
returns-clause-lacks g c =
    let u = c.ends.ensures in
    λ told idle sound command n wants few lacks.
    let same = same_files _ _ (u.each told idle) (u.only told idle) in
    record {
      wants = lacks_back _ _ u.size.0 u.size.1 c.tell_places.ensures.places c.tell_places.ensures.distinct same (u.sound told idle) _ (u.asked told idle) command n wants;
      few = subst (λ (db : Database). n ≤ most db command)
          (sym (base_back _ _ u.size.0 u.size.1 c.tell_places.ensures.places c.tell_places.ensures.distinct same (u.sound told idle))) few;
      cramped = u.cramped told n lacks;
      small = small_back _ _ u.size.0 u.size.1 c.tell_places.ensures.places c.tell_places.ensures.distinct same (u.sound told idle) sound n (u.cramped told n lacks);
    }
