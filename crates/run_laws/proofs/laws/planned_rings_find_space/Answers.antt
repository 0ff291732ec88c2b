use Rattle.std.proofs.Common.{◌/◌, length}
use Rattle.db_model.specs.Script.{commands}
use Rattle.image_model.specs.Images.{base}
use Rattle.run_laws.proofs.Planned.{enough_before, has_space, sound_base}
use Rattle.run_laws.proofs.laws.planned_rings_find_space.Goals as goal

pub returns-clause-rows : goal.returns-clause-rows
returns-clause-rows c = λ read reader rows old text sound told keeps planned.
    has_space read reader old text told
    (enough_before read (base old.image) (length old.image / 4096) (c.scripts_are_answered_in_order.ensures.last read (base old.image)) (commands text)
    (c.planned_flash_has_enough_for_rings.ensures.rows read (base old.image) (commands text) rows (length old.image / 4096)
    (sound_base c.sound_files_are_a_sound_database.ensures old.image sound) keeps planned))

pub returns-clause-slots : goal.returns-clause-slots
returns-clause-slots c = λ read reader rows old text sound told keeps planned.
    has_space read reader old text told
    (enough_before read (base old.image) (length old.image / 4096) (c.scripts_are_answered_in_order.ensures.last read (base old.image)) (commands text)
    (c.planned_flash_has_enough_for_rings.ensures.slots read (base old.image) (commands text) rows (length old.image / 4096)
    (sound_base c.sound_files_are_a_sound_database.ensures old.image sound) keeps planned))
