use Rattle.std.proofs.Common.{true, None, refl, take, ap, ◌∙◌, arith, ℕ}
use Rattle.std.proofs.lemmas.List.{length-take}
use Rattle.std.specs.Io.KnownBytes.{append_known}
use Rattle.reply_text.proofs.Pieces.{append_known-nil}
use Rattle.serve.specs.Front.{front_held, fronted}
use Rattle.serve.proofs.Holding.{holds_failed, holds_written}
use Rattle.serve.proofs.framed.FramedSink.write.Goals as goal

-- the byte did not go out
pub invariant_of-self : goal.invariant_of-self
invariant_of-self g c =
    let old = c.args.self.now in
    let new = c.send_front.new.out in
    let e = c.in-Err.ensures in
    record {
      on = λ start is. holds_failed start (fronted (g.K.Sink.held old.out.now) (g.K.Sink.faults old.out.now) old.front old.failed) (fronted (g.K.Sink.held new) (g.K.Sink.faults new) old.front true)
          (old.on start is) (ap (λ h. front_held h old.front) e.held) refl e.frame.cause.failed e.frame.cause.later;
    }

-- it did, and what follows, too
pub invariant_of-self-in-Ok-write : goal.invariant_of-self-in-Ok-write
invariant_of-self-in-Ok-write g c =
    let old = c.args.self.now in
    let new = c.write.new.self in
    let e = c.in-Ok.ensures in
    let w = c.in-Ok-write.ensures in
    let wrote = take c.in-Ok-write.taken c.args.bytes.now in
    record {
      on = λ start is. holds_written start (fronted (g.K.Sink.held old.out.now) (g.K.Sink.faults old.out.now) old.front old.failed) (fronted (g.K.Sink.held new) (g.K.Sink.faults new) None old.failed) wrote
          (old.on start is) (append_known-nil (g.K.Sink.held new) ∙ w.bytes ∙ ap (λ h. append_known h wrote) e.sent) (omega (arith, w.least, w.most, length-take {A = ℕ} c.in-Ok-write.taken c.args.bytes.now)) refl (w.frame.faultless ∙ e.frame.faultless);
    }

-- it did, and what follows did not
pub invariant_of-self-in-Err-write : goal.invariant_of-self-in-Err-write
invariant_of-self-in-Err-write g c =
    let old = c.args.self.now in
    let new = c.write.new.self in
    let e = c.in-Ok.ensures in
    let w = c.in-Err-write.ensures in
    record {
      on = λ start is. holds_failed start (fronted (g.K.Sink.held old.out.now) (g.K.Sink.faults old.out.now) old.front old.failed) (fronted (g.K.Sink.held new) (g.K.Sink.faults new) None true)
          (old.on start is) (append_known-nil (g.K.Sink.held new) ∙ w.failed ∙ e.sent) refl
          (omega (arith, e.frame.cause.later, w.frame.cause.failed)) (omega (arith, e.frame.cause.later, w.frame.cause.later));
    }
