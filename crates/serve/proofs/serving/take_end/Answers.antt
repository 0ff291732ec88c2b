use Rattle.std.proofs.Common.{List, inl, inr, refl, sym, subst, ◌∙◌, arith}
use Rattle.run_entries.proofs.Single.{refused_carried, refused_halts}
use Rattle.run_entries.specs.Carried.{Carried, HaltsIn, standing_of, limits_of}
use Rattle.db_model.specs.declared.refusals.Refusal.TheVariants as no
use Rattle.run_input.specs.declared.ending.Ending.TheVariants.{Sink}
use Rattle.serve.proofs.Ending.{begun_unended, sink_flash, true_false}
use Rattle.run_frames.specs.Frames.{Frame, Unfinished}
use Rattle.run_frames.specs.Served.{serve_talk}
use Rattle.serve.proofs.serving.take_end.Goals as goal

pub returns-in-Ok-clause-ends : goal.returns-in-Ok-clause-ends
returns-in-Ok-clause-ends g c = record {
  going = λ e. e;
  kept = λ e f. f;
  carried = λ going tells read reader q k.
      let a = standing_of g.V.Files.state g.V.Files.reads c.args.session.now (g.K.Sink.held c.args.out.now) in
      let b = standing_of g.V.Files.state g.V.Files.reads c.args.session.now (g.K.Sink.held c.refuse.new.out) in
      subst (λ (fs : List Frame). Carried (serve_talk read) fs a b) (sym (begun_unended q (sym c.if-not-is_begun.false ∙ c.is_begun.ensures q k)))
      (refused_carried (serve_talk read) Unfinished a b refl no.Unfinished refl refl refl (omega arith) c.in-Ok.ensures.written);
  on = record { faults = omega arith; replies = c.in-Ok.ensures.frame.cause.later; store = refl; lent = refl };
}

pub returns-in-Err-clause-halts : goal.returns-in-Err-clause-halts
returns-in-Err-clause-halts g c = record {
  kept = λ e f lost. absurd (true_false (sym lost ∙ f));
  flash = λ e is. absurd (sink_flash is);
  sink = λ e is. c.in-Err.ensures.frame.cause.failed;
  halts = λ going tells read reader q k.
      let a = standing_of g.V.Files.state g.V.Files.reads c.args.session.now (g.K.Sink.held c.args.out.now) in
      let b = standing_of g.V.Files.state g.V.Files.reads c.args.session.now (g.K.Sink.held c.refuse.new.out) in
      let limits = limits_of g.V.Files c.args.session.now in
      subst (λ (fs : List Frame). HaltsIn (serve_talk read) limits fs a b Sink) (sym (begun_unended q (sym c.if-not-is_begun.false ∙ c.is_begun.ensures q k)))
      (refused_halts (serve_talk read) Unfinished a b refl no.Unfinished refl refl limits (omega arith) c.in-Err.ensures.failed);
  on = record { faults = omega arith; replies = c.in-Err.ensures.frame.cause.later; store = refl; lent = refl };
}

pub returns-then-is_stopped-clause-silent : goal.returns-then-is_stopped-clause-silent
returns-then-is_stopped-clause-silent g c = inl refl

pub returns-then-not-is_begun-clause-silent : goal.returns-then-not-is_begun-clause-silent
returns-then-not-is_begun-clause-silent g c = inl refl

pub returns-in-Ok-clause-silent : goal.returns-in-Ok-clause-silent
returns-in-Ok-clause-silent g c = inr (λ q k. (Unfinished, begun_unended q (sym c.if-not-is_begun.false ∙ c.is_begun.ensures q k)))

pub returns-in-Err-clause-silent : goal.returns-in-Err-clause-silent
returns-in-Err-clause-silent g c = inr (λ q k. (Unfinished, begun_unended q (sym c.if-not-is_begun.false ∙ c.is_begun.ensures q k)))
