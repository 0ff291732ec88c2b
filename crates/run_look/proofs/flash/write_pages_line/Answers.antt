use Rattle.std.proofs.Common.{rules}
use Rattle.std.proofs.lemmas.Result.{on_err_weaker, on_ok_weaker}
use Rattle.dump.proofs.LineTexts.{less_first, less_last, less_second, wrote_parts}
use Rattle.run_look.proofs.Texts.{pages_parts}
use Rattle.run_look.proofs.flash.write_pages_line.Goals as goal

pub returns-in_err-write_sectors-clause-failed : goal.returns-in_err-write_sectors-clause-failed
returns-in_err-write_sectors-clause-failed g c =
    let less = less_first (pages_parts c.args.sectors c.args.counts.now) c.in_err-write_sectors.ensures.failed in
    search (rules, less)

pub returns-in_err-write_count-clause-failed : goal.returns-in_err-write_count-clause-failed
returns-in_err-write_count-clause-failed g c =
    let less = less_second (g.K.Sink.held c.args.out.now) (pages_parts c.args.sectors c.args.counts.now) c.in_ok-write_sectors.ensures.written (rw c.from.ensures at c.in_err-write_count.ensures.failed) in
    search (rules, less)

pub returns-clause-written : goal.returns-clause-written
returns-clause-written g c =
    on_ok_weaker c.write_line_of_counts.result (λ e. wrote_parts (g.K.Sink.held c.args.out.now) (pages_parts c.args.sectors c.args.counts.now) c.in_ok-write_sectors.ensures.written (rw c.from.ensures at c.in_ok-write_count.ensures.written) e)
    (rw (c.from-2.ensures, c.from-3.ensures) at c.write_line_of_counts.ensures.written)

pub returns-clause-failed : goal.returns-clause-failed
returns-clause-failed g c =
    on_err_weaker c.write_line_of_counts.result (λ w. less_last (g.K.Sink.held c.args.out.now) (pages_parts c.args.sectors c.args.counts.now) c.in_ok-write_sectors.ensures.written (rw c.from.ensures at c.in_ok-write_count.ensures.written) w)
    (rw (c.from-2.ensures, c.from-3.ensures) at c.write_line_of_counts.ensures.failed)
