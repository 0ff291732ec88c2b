use Rattle.std.proofs.Common.{◌/◌, length}
use Rattle.db_model.specs.Script.{commands}
use Rattle.image_model.specs.Images.{base}
use Rattle.run_laws.proofs.Planned.{enough_before, has_space, sound_base}
use Rattle.run_laws.proofs.laws.planned_runs_find_space.Goals as goal

pub returns : goal.returns
returns c = λ read reader rows old text sound told keeps planned.
    has_space read reader old text told
    (enough_before read (base old.image) (length old.image / 4096) (c.scripts_are_answered_in_order.ensures.last read (base old.image)) (commands text)
    (c.planned_flash_has_enough.ensures read (base old.image) (commands text) rows (length old.image / 4096)
    (sound_base c.sound_files_are_a_sound_database.ensures old.image sound) keeps planned))
