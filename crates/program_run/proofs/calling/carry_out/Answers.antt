use Rattle.program_run.proofs.calling.carry_out.Goals as goal

pub returns-in-None-clause-ran : goal.returns-in-None-clause-ran
returns-in-None-clause-ran g c = λ told none form is. c.run.ensures.ran told form is
