use Rattle.std.proofs.Common.{sym}
use Rattle.run_look.proofs.Places.{nowhere}
use Rattle.run_look.proofs.indexes.write_index_at.Goals as goal
use Rattle.reply_text.proofs.Pieces.{append_known-nil}

pub returns-in-None-clause-written : goal.returns-in-None-clause-written
returns-in-None-clause-written g c =
    let lookup = rw c.as_slice.ensures.items at (rw c.from.ensures at c.in-None.ensures.lookup) in
    rw (nowhere c.args.schema.now.attributes c.args.place lookup.0) (sym (append_known-nil (g.K.Sink.held c.args.out.now)))
