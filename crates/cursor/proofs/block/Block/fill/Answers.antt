use Rattle.std.proofs.Common.{rules, ◌∙◌}
use Rattle.cursor.proofs.block.Block.fill.Goals as goal

pub rows-preserved : goal.rows-preserved
rows-preserved g c =
    let inv = c.rows.invariant in
    record {
      same = search rules;
      lent = search rules;
      reads_later = search rules;
      faults = search rules;
      kept = search rules;
      begins = search rules;
      anew = search rules;
      order = search rules;
      within = search rules;
      size = c.number_in.ensures.size ∙ inv.size;
      marked = c.push.ensures.marked inv.marked;
      reads = search rules;
      lefts = search rules;
    }
