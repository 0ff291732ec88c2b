use Rattle.std.proofs.Common.{rules}
use Rattle.buffered_sink.proofs.Fronts.{less_sent, less_unsent}
use Rattle.dump.proofs.SentLines.{line_some}
use Rattle.padded.proofs.Facts.{on_err}
use Rattle.dump.proofs.sent.index_through.Goals as goal

pub returns-in_err-write_index_line-clause-failed : goal.returns-in_err-write_index_line-clause-failed
returns-in_err-write_index_line-clause-failed g c =
    let grew = c.write_index_line.new.out.grew _ c.requires.now in
    let less = less_unsent _ _ _ _ _ c.requires.none grew c.in_err-write_index_line.ensures.failed in
    on_err c.from_residual.result (search (rules, less))

pub returns-in_err-flush-clause-failed : goal.returns-in_err-flush-clause-failed
returns-in_err-flush-clause-failed g c =
    let e = c.in_err-flush.ensures in
    let grew = c.write_index_line.new.out.grew _ c.requires.now in
    let less = less_sent _ _ _ _ _ _ _ c.requires.none grew e.hands e.some c.in_ok-write_index_line.ensures.written (line_some _) in
    on_err c.from_residual-in_err-flush.result (search (rules, less))
