use Rattle.run_look.proofs.Whole.{all_written, indexes_cut}
use Rattle.run_look.proofs.writing.write_database.Goals as goal

pub returns-in-Ok-clause-wrote : goal.returns-in-Ok-clause-wrote
returns-in-Ok-clause-wrote g c = λ told.
    let sound = c.database_is_sound.ensures.sound told (c.database_is_sound.ensures.going c.requires.running) in
    all_written _ _ _ _ _ (c.in_ok-write_relations.ensures.wrote told sound) c.in_ok-write_relations.ensures.same.database sound c.in-Ok.ensures.written

pub returns-in-Err-clause-wrote : goal.returns-in-Err-clause-wrote
returns-in-Err-clause-wrote g c = λ told.
    let sound = c.database_is_sound.ensures.sound told (c.database_is_sound.ensures.going c.requires.running) in
    indexes_cut _ _ _ _ _ (c.in_ok-write_relations.ensures.wrote told sound) c.in_ok-write_relations.ensures.same.database sound c.in-Err.ensures.failed
