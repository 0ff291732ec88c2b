use Rattle.std.proofs.Common.{arith, ◌∙◌}
use Rattle.std.specs.Prelude.{Some}
use Rattle.afl_base.specs.Files.{bytes_at}
use Rattle.db_model.specs.Cost.{keys_beside}
use Rattle.index_maxheap.specs.Searches.{walk_left}
use Rattle.index_maxheap.proofs.Firsts.{has_none, is_first}
use Rattle.index_maxheap.proofs.Onward.{look_paid, onward_paid, place_far, place_near}
use Rattle.index_maxheap.proofs.searching.walk.Goals as goal

pub returns-then-start-gt1024-clause-next : goal.returns-then-start-gt1024-clause-next
returns-then-start-gt1024-clause-next g c = λ told keys tree start.
    let bytes = bytes_at (g.V.Files.state c.args.files.now).files c.args.index in
    place_far bytes keys c.args.key.now c.args.from c.args.start tree (start.some c.if-start-eq0.false) c.if-start-gt1024.true

pub returns-in_err-slot-clause-reads : goal.returns-in_err-slot-clause-reads
returns-in_err-slot-clause-reads g c = λ told keys tree start.
    let bytes = bytes_at (g.V.Files.state c.args.files.now).files c.args.index in
    let e = keys_beside c.args.key.now keys in
    let walks = c.loop-hops.invariant.walks told keys tree start in
    let near = place_near bytes keys c.args.key.now c.args.from c.loop-hops.place tree walks.0 in
    look_paid (g.V.Files.reads c.look_in.new.files) (g.V.Files.reads c.loop-hops.files) (g.V.Files.reads c.args.files.now) e (walk_left e (Some c.args.start)) c.loop-hops.place near c.look_in.ensures.reads walks.1

pub returns-in-Found-clause-next : goal.returns-in-Found-clause-next
returns-in-Found-clause-next g c = λ told keys tree start.
    let bytes = bytes_at (g.V.Files.state c.args.files.now).files c.args.index in
    let key = c.args.key.now in
    let walks = c.loop-hops.invariant.walks told keys tree start in
    let steps = rw c.in-Found.is at ((rw c.loop-hops.invariant.same at c.in_ok-slot.ensures.steps) told keys tree walks.0) in
    (is_first key c.args.from c.in-Found.slot keys steps.0 steps.1, steps.2)

pub returns-in-Found-clause-reads : goal.returns-in-Found-clause-reads
returns-in-Found-clause-reads g c = λ told keys tree start.
    let bytes = bytes_at (g.V.Files.state c.args.files.now).files c.args.index in
    let e = keys_beside c.args.key.now keys in
    let walks = c.loop-hops.invariant.walks told keys tree start in
    let near = place_near bytes keys c.args.key.now c.args.from c.loop-hops.place tree walks.0 in
    look_paid (g.V.Files.reads c.look_in.new.files) (g.V.Files.reads c.loop-hops.files) (g.V.Files.reads c.args.files.now) e (walk_left e (Some c.args.start)) c.loop-hops.place near c.look_in.ensures.reads walks.1

pub returns-in-End-clause-next : goal.returns-in-End-clause-next
returns-in-End-clause-next g c = λ told keys tree start.
    let walks = c.loop-hops.invariant.walks told keys tree start in
    let steps = rw c.in-End.is at ((rw c.loop-hops.invariant.same at c.in_ok-slot.ensures.steps) told keys tree walks.0) in
    has_none c.args.key.now c.args.from keys steps

pub returns-in-End-clause-reads : goal.returns-in-End-clause-reads
returns-in-End-clause-reads g c = λ told keys tree start.
    let bytes = bytes_at (g.V.Files.state c.args.files.now).files c.args.index in
    let e = keys_beside c.args.key.now keys in
    let walks = c.loop-hops.invariant.walks told keys tree start in
    let near = place_near bytes keys c.args.key.now c.args.from c.loop-hops.place tree walks.0 in
    look_paid (g.V.Files.reads c.look_in.new.files) (g.V.Files.reads c.loop-hops.files) (g.V.Files.reads c.args.files.now) e (walk_left e (Some c.args.start)) c.loop-hops.place near c.look_in.ensures.reads walks.1

pub loop-hops-preserved : goal.loop-hops-preserved
loop-hops-preserved g c =
    let old = g.V.Files.state c.args.files.now in
    let bytes = bytes_at old.files c.args.index in
    let inv = c.loop-hops.invariant in
    let safe = rw c.in-Onward.is at c.in_ok-slot.ensures.safe in
    record {
      same = c.in_ok-slot.ensures.frame.same ∙ inv.same;
      lent = c.in_ok-slot.ensures.frame.lent ∙ inv.lent;
      reads_later = omega (arith, c.in_ok-slot.ensures.frame.later, inv.reads_later);
      faults = omega (arith, c.in_ok-slot.ensures.frame.faultless, inv.faults);
      safe = safe.0;
      near = (let next = safe.1 in let near = inv.near in omega (arith, next, near));
      walks = λ told keys tree start.
          let e = keys_beside c.args.key.now keys in
          let walks = inv.walks told keys tree start in
          let steps = rw c.in-Onward.is at ((rw inv.same at c.in_ok-slot.ensures.steps) told keys tree walks.0) in
          let near = place_near bytes keys c.args.key.now c.args.from c.loop-hops.place tree walks.0 in
          (steps, onward_paid (g.V.Files.reads c.look_in.new.files) (g.V.Files.reads c.loop-hops.files) (g.V.Files.reads c.args.files.now) e (walk_left e (Some c.args.start)) c.loop-hops.place c.in-Onward.onward near safe.1 c.look_in.ensures.reads walks.1);
    }

pub returns-clause-next : goal.returns-clause-next
returns-clause-next g c = λ told keys tree start.
    let bytes = bytes_at (g.V.Files.state c.args.files.now).files c.args.index in
    let walks = c.loop-hops.invariant.walks told keys tree start in
    place_far bytes keys c.args.key.now c.args.from c.loop-hops.place tree walks.0 (omega (arith, c.loop-hops.invariant.near, c.loop-hops-test.false))
