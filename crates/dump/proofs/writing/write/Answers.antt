use Rattle.dump.proofs.WholeScript.{indexes_cut, script_written}
use Rattle.dump.proofs.writing.write.Goals as goal

pub returns-in-Ok-clause-wrote : goal.returns-in-Ok-clause-wrote
returns-in-Ok-clause-wrote g c = λ told.
    let sound = c.database_is_sound.ensures.sound told (c.database_is_sound.ensures.going c.requires.running) in
    script_written _ _ _ _ _ c.in-Ok.ensures.written (c.in_ok-write_relations.ensures.wrote told sound) c.in_ok-write_relations.ensures.same.database sound

pub returns-in-Err-clause-wrote : goal.returns-in-Err-clause-wrote
returns-in-Err-clause-wrote g c = λ told.
    let sound = c.database_is_sound.ensures.sound told (c.database_is_sound.ensures.going c.requires.running) in
    indexes_cut _ _ _ _ _ c.in-Err.ensures.failed (c.in_ok-write_relations.ensures.wrote told sound) c.in_ok-write_relations.ensures.same.database sound
