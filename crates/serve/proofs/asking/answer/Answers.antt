use Rattle.std.proofs.Common.{refl, ap, arith}
use Rattle.run_entries.proofs.Single.{refused_carried}
use Rattle.run_entries.specs.Carried.{standing_of}
use Rattle.session_model.specs.Steps.{outcome_of}
use Rattle.serve.proofs.Replied.{refused_is, refused_says_less}
use Rattle.run_frames.specs.Frames.{Asked}
use Rattle.run_frames.specs.Served.{serve_talk}
use Rattle.serve.proofs.asking.answer.Goals as goal

pub returns-in-Ok-refuse-clause-answered : goal.returns-in-Ok-refuse-clause-answered
returns-in-Ok-refuse-clause-answered g c = λ told read reader.
    let frame = Asked c.args.client c.args.bytes.now in
    let r = c.in-Err.refusal in
    let a = standing_of g.V.Files.state g.V.Files.reads c.args.session.now (g.K.Sink.held c.args.out.now) in
    let b = standing_of g.V.Files.state g.V.Files.reads c.args.session.now (g.K.Sink.held c.refuse.new.out) in
    let is = c.in-Err.ensures.heard read reader in (
      refused_carried (serve_talk read) frame a b refl r is refl refl (omega arith) c.in-Ok-refuse.ensures.written,
      ap (λ d. outcome_of d.1) (refused_is (serve_talk read) frame a b r is refl refl),
    )

pub returns-in-Err-refuse-clause-answered : goal.returns-in-Err-refuse-clause-answered
returns-in-Err-refuse-clause-answered g c = λ told read reader.
    let frame = Asked c.args.client c.args.bytes.now in
    let a = standing_of g.V.Files.state g.V.Files.reads c.args.session.now (g.K.Sink.held c.args.out.now) in
    let b = standing_of g.V.Files.state g.V.Files.reads c.args.session.now (g.K.Sink.held c.refuse.new.out) in
    refused_says_less (serve_talk read) frame a b c.in-Err.refusal (c.in-Err.ensures.heard read reader) refl refl (omega arith) c.in-Err-refuse.ensures.failed
