use Rattle.cursor.proofs.block.Block.see.Goals as goal

pub returns-then-self-slot-clause-widens : goal.returns-then-self-slot-clause-widens
returns-then-self-slot-clause-widens c = λ k s old. let new = c.meet_found.ensures.widens k s old in record { first = new.first; last = new.last }
