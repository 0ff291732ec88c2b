use Rattle.std.proofs.Common.{List, inl, inr, refl, ap, sym, subst, arith}
use Rattle.run_entries.proofs.Single.{refused_carried, refused_halts}
use Rattle.run_entries.specs.Carried.{Carried, HaltsIn, standing_of, limits_of}
use Rattle.db_model.specs.declared.refusals.Refusal.TheVariants as no
use Rattle.run_input.specs.declared.ending.Ending.TheVariants.{Sink}
use Rattle.serve.specs.Gathers.{client_in, command_in, told}
use Rattle.run_frames.specs.Frames.{Asked, Frame, Broken, Long}
use Rattle.run_frames.specs.Served.{serve_talk}
use Rattle.serve.proofs.serving.answer_fed.Goals as goal

pub returns-in-Ok-refuse-clause-carried : goal.returns-in-Ok-refuse-clause-carried
returns-in-Ok-refuse-clause-carried g c = λ tells read reader.
    let a = standing_of g.V.Files.state g.V.Files.reads c.args.session.now (g.K.Sink.held c.args.out.now) in
    let b = standing_of g.V.Files.state g.V.Files.reads c.args.session.now (g.K.Sink.held c.refuse.new.out) in
    subst (λ (fs : List Frame). Carried (serve_talk read) fs a b) (ap (λ fed. told fed c.args.decoder.now) (sym c.in-Bad.is))
    (refused_carried (serve_talk read) Broken a b refl no.Frame refl refl refl (omega arith) c.in-Ok-refuse.ensures.written)

pub returns-in-Err-refuse-clause-halts : goal.returns-in-Err-refuse-clause-halts
returns-in-Err-refuse-clause-halts g c = λ tells read reader.
    let a = standing_of g.V.Files.state g.V.Files.reads c.args.session.now (g.K.Sink.held c.args.out.now) in
    let b = standing_of g.V.Files.state g.V.Files.reads c.args.session.now (g.K.Sink.held c.refuse.new.out) in
    let limits = limits_of g.V.Files c.args.session.now in
    subst (λ (fs : List Frame). HaltsIn (serve_talk read) limits fs a b Sink) (ap (λ fed. told fed c.args.decoder.now) (sym c.in-Bad.is))
    (refused_halts (serve_talk read) Broken a b refl no.Frame refl refl limits (omega arith) c.in-Err-refuse.ensures.failed)

pub returns-in-Ok-refuse-2-clause-carried : goal.returns-in-Ok-refuse-2-clause-carried
returns-in-Ok-refuse-2-clause-carried g c = λ tells read reader.
    let a = standing_of g.V.Files.state g.V.Files.reads c.args.session.now (g.K.Sink.held c.args.out.now) in
    let b = standing_of g.V.Files.state g.V.Files.reads c.args.session.now (g.K.Sink.held c.refuse-in-Long.new.out) in
    subst (λ (fs : List Frame). Carried (serve_talk read) fs a b) (ap (λ fed. told fed c.args.decoder.now) (sym c.in-Long.is))
    (refused_carried (serve_talk read) (Long c.in-Long.client) a b refl no.Long refl refl refl (omega arith) c.in-Ok-refuse-2.ensures.written)

pub returns-in-Err-refuse-2-clause-halts : goal.returns-in-Err-refuse-2-clause-halts
returns-in-Err-refuse-2-clause-halts g c = λ tells read reader.
    let a = standing_of g.V.Files.state g.V.Files.reads c.args.session.now (g.K.Sink.held c.args.out.now) in
    let b = standing_of g.V.Files.state g.V.Files.reads c.args.session.now (g.K.Sink.held c.refuse-in-Long.new.out) in
    let limits = limits_of g.V.Files c.args.session.now in
    subst (λ (fs : List Frame). HaltsIn (serve_talk read) limits fs a b Sink) (ap (λ fed. told fed c.args.decoder.now) (sym c.in-Long.is))
    (refused_halts (serve_talk read) (Long c.in-Long.client) a b refl no.Long refl refl limits (omega arith) c.in-Err-refuse-2.ensures.failed)

-- a frame has one reply
pub returns-in-More-clause-silent : goal.returns-in-More-clause-silent
returns-in-More-clause-silent g c = inl refl

pub returns-in-Ok-clause-silent : goal.returns-in-Ok-clause-silent
returns-in-Ok-clause-silent g c = inr (Asked (client_in c.args.decoder.now) (command_in c.args.decoder.now), ap (λ fed. told fed c.args.decoder.now) c.in-Frame.is)

pub returns-in-Err-clause-silent : goal.returns-in-Err-clause-silent
returns-in-Err-clause-silent g c = inr (Asked (client_in c.args.decoder.now) (command_in c.args.decoder.now), ap (λ fed. told fed c.args.decoder.now) c.in-Frame.is)

pub returns-in-Ok-refuse-clause-silent : goal.returns-in-Ok-refuse-clause-silent
returns-in-Ok-refuse-clause-silent g c = inr (Broken, ap (λ fed. told fed c.args.decoder.now) c.in-Bad.is)

pub returns-in-Err-refuse-clause-silent : goal.returns-in-Err-refuse-clause-silent
returns-in-Err-refuse-clause-silent g c = inr (Broken, ap (λ fed. told fed c.args.decoder.now) c.in-Bad.is)

pub returns-in-Ok-refuse-2-clause-silent : goal.returns-in-Ok-refuse-2-clause-silent
returns-in-Ok-refuse-2-clause-silent g c = inr (Long c.in-Long.client, ap (λ fed. told fed c.args.decoder.now) c.in-Long.is)

pub returns-in-Err-refuse-2-clause-silent : goal.returns-in-Err-refuse-2-clause-silent
returns-in-Err-refuse-2-clause-silent g c = inr (Long c.in-Long.client, ap (λ fed. told fed c.args.decoder.now) c.in-Long.is)
