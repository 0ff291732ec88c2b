use Rattle.std.proofs.Common.{inr}
use Rattle.antelope_run.proofs.Behind.{no_input, wrote_by}
use Rattle.antelope_run.proofs.Halts.{dumped_cause, stopped_only}
use Rattle.antelope_run.proofs.following.write_line.Goals as goal

pub returns-clause-wrote : goal.returns-clause-wrote
returns-clause-wrote g c = λ told sound. rw c.stopped.ensures (wrote_by _ _ _ c.write_flash.result (c.write_flash.ensures.wrote told sound))

pub returns-clause-halts : goal.returns-clause-halts
returns-clause-halts g c = rw c.stopped.ensures (stopped_only c.write_flash.result)

pub returns-clause-frame : goal.returns-clause-frame
returns-clause-frame g c =
    let e = c.write_flash.ensures.frame in
    let cause = dumped_cause c.write_flash.result 0 _ _ _ _ e.cause in
    record {
      same = e.same;
      lent = e.lent;
      sink_lent = e.sink_lent;
      later = e.cause.files_later;
      sink_later = e.cause.replies_later;
      input = λ is. no_input c.stopped.result (rw c.stopped.ensures (stopped_only c.write_flash.result)) is;
      flash = λ is. inr (cause.flash (rw c.stopped.ensures at is));
      sink = λ is. inr (cause.sink (rw c.stopped.ensures at is));
    }
