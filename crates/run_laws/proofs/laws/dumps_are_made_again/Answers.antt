use Rattle.std.proofs.Common.{ap, ◌∙◌}
use Rattle.image_model.specs.Images.{base}
use Rattle.run_laws.proofs.Planned.{sound_base}
use Rattle.run_laws.proofs.Remade.{made_again, same_dump}
use Rattle.run_laws.proofs.laws.dumps_are_made_again.Goals as goal

pub returns-clause-packed : goal.returns-clause-packed
returns-clause-packed c = λ read reader.
    made_again (c.dumped_scripts_make_their_image.ensures read reader) c.erased_image_is_sound.ensures.base (sound_base c.sound_files_are_a_sound_database.ensures)

pub returns-clause-same : goal.returns-clause-same
returns-clause-same c = λ read reader sectors dumped told old new next again runs next_is dumps.
    let made = made_again (c.dumped_scripts_make_their_image.ensures read reader) c.erased_image_is_sound.ensures.base (sound_base c.sound_files_are_a_sound_database.ensures) sectors dumped told old new runs in
    same_dump c.packed_databases_have_the_same_script.ensures.script (sound_base c.sound_files_are_a_sound_database.ensures) dumped told next again runs.dumps (ap base next_is ∙ made.base_is) dumps
