use Rattle.antelope_engine.proofs.session.Session.start.Goals as goal

pub returns-in-Ok-Ok-clause-sound : goal.returns-in-Ok-Ok-clause-sound
returns-in-Ok-Ok-clause-sound g c = rw (← c.new-session.ensures.files) (rw c.in-Ok-Ok.field-0-is at c.in-Ok-Ok.ensures.sound)

pub returns-in-Ok-Ok-clause-base : goal.returns-in-Ok-Ok-clause-base
returns-in-Ok-Ok-clause-base g c = rw (← c.new-session.ensures.files) (rw c.in-Ok-Ok.field-0-is at c.in-Ok-Ok.ensures.base)

pub returns-in-Ok-Ok-clause-reads : goal.returns-in-Ok-Ok-clause-reads
returns-in-Ok-Ok-clause-reads g c = rw (← c.new-session.ensures.files) c.in-Ok-Ok.ensures.reads

pub returns-in-Ok-Err-clause-bad : goal.returns-in-Ok-Err-clause-bad
returns-in-Ok-Err-clause-bad g c = rw (← c.new-session.ensures.files) (rw c.in-Ok-Err.field-0-is at c.in-Ok-Err.ensures.bad)

pub returns-in-Ok-Err-clause-reads : goal.returns-in-Ok-Err-clause-reads
returns-in-Ok-Err-clause-reads g c = rw (← c.new-session.ensures.files) (rw (← c.session.view_is) at c.in-Ok-Err.ensures.reads)

pub returns-in-Err-clause-reads : goal.returns-in-Err-clause-reads
returns-in-Err-clause-reads g c = rw (← c.new-session.ensures.files) (rw (← c.session-in-Err.view_is) at c.in-Err.ensures.reads)
