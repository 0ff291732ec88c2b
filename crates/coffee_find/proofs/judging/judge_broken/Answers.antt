use Rattle.coffee_find.proofs.judging.judge_broken.Goals as goal

pub returns-in-None-clause-judged : goal.returns-in-None-clause-judged
returns-in-None-clause-judged g c = λ t broken. record { broken = broken; mends = rw c.in-None.is at (c.in_ok-trouble.ensures.none t broken) }
