use Rattle.cursor.proofs.block.Block.note.Goals as goal

pub returns-then-self-nth-clause-widens : goal.returns-then-self-nth-clause-widens
returns-then-self-nth-clause-widens c = λ k s old. record {
  first = c.widen.ensures.firsts k s old.first;
  last = c.widen.ensures.ends k s old.last;
}
