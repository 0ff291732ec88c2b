use Rattle.std.proofs.Common.{◌∙◌, refl, subst, sym}
use Rattle.stored_mend.specs.Mending.{IsPutRight}
use Rattle.run_repair.proofs.Interrupted.{state_mends}
use Rattle.image_model.proofs.SameFiles.{same_files}
use Rattle.run_repair.proofs.Told.{image_reported}
use Rattle.run_repair.proofs.mending.mend_volume.Goals as goal

pub returns-in-Ok-clause-restored : goal.returns-in-Ok-clause-restored
returns-in-Ok-clause-restored g c = λ told cut.
    let table = c.in-Ok.ensures.sound told cut in
    let still = c.in-Ok.ensures.kept.tells ∙ told in
    let idle = c.in-Ok.ensures.idle in
    record {
      sound = c.sound_files_are_a_sound_image.ensures.sound still idle table;
      base_is = subst (IsPutRight _) (sym (c.sound_files_are_a_sound_image.ensures.base still idle table)) ((c.in-Ok.ensures.stands told).base table);
    }

pub returns-in-Err-Space-clause-space : goal.returns-in-Err-Space-clause-space
returns-in-Err-Space-clause-space g c = λ told cut.
    let lacks = rw c.in-Err-Space.field-0-is at c.in-Err-Space.ensures.frame.lacks in
    let left = (rw c.in-Err-Space.field-0-is at c.in-Err-Space.ensures.space) told cut in
    state_mends _ (g.F.Flash.image c.mend_database.new.files.flash) _ c.in-Err-Space.need (c.ends-in-Err-Space.ensures.sound left.tells left.idle) (c.ends-in-Err-Space.ensures.each left.tells left.idle)
    (c.ends-in-Err-Space.ensures.only left.tells left.idle) left (c.ends-in-Err-Space.ensures.cramped left.tells c.in-Err-Space.need lacks)

pub returns-in-Err-Space-clause-unbroken : goal.returns-in-Err-Space-clause-unbroken
returns-in-Err-Space-clause-unbroken g c = λ told cut.
    let left = (rw c.in-Err-Space.field-0-is at c.in-Err-Space.ensures.space) told cut in
    c.ends-in-Err-Space.ensures.sound left.tells left.idle

pub returns-in-Err-Failed-clause-cut : goal.returns-in-Err-Failed-clause-cut
returns-in-Err-Failed-clause-cut g c = λ cuts told cut.
    (rw c.in-Err-Failed.field-0-is at (c.in-Err-Failed.ensures.cut told cut cuts)) refl

-- what is told

pub returns-in-Ok-clause-reported : goal.returns-in-Ok-clause-reported
returns-in-Ok-clause-reported g c = λ told cut none.
    let still = c.in-Ok.ensures.kept.tells ∙ told in
    let idle = c.in-Ok.ensures.idle in
    let u = c.ends.ensures in
    image_reported _ _ _ _ u.size.0 u.size.1 c.tell_places.ensures.places c.tell_places.ensures.distinct (same_files _ _ (u.each still idle) (u.only still idle)) (u.sound still idle)
    (c.in-Ok.ensures.reported told cut none)
