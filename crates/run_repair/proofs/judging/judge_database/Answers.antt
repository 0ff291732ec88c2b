use Rattle.run_repair.proofs.judging.judge_database.Goals as goal

pub returns-in-Ok-Ok-clause-sound : goal.returns-in-Ok-Ok-clause-sound
returns-in-Ok-Ok-clause-sound g c = λ told. rw c.in-Ok-Ok.field-0-is at (c.in-Ok-Ok.ensures.sound told)

pub returns-in-Ok-Err-clause-bad : goal.returns-in-Ok-Err-clause-bad
returns-in-Ok-Err-clause-bad g c = λ told. rw c.in-Ok-Err.field-0-is at (c.in-Ok-Err.ensures.bad told)
