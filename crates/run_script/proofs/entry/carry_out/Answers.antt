use Rattle.std.proofs.Common.{◌≡◌, Ok, Err, subst, sym, [], ◌∷◌, refl, arith, rules}
use Rattle.std.proofs.lemmas.Result.{IfErr-weaker, on_ok_weaker}
use Rattle.db_model.specs.ReplyText.{refusal_text}
use Rattle.db_model.specs.Script.{Bytes}
use Rattle.padded.proofs.Facts.{err_is}
use Rattle.run_input.specs.declared.ending.Ending.{Ending}
use Rattle.run_input.specs.declared.ending.Ending.TheVariants.{Sink}
use Rattle.reply_text.specs.WroteLess.{WroteLess}
use Rattle.run_entries.proofs.Single.{refused_carried, refused_halts}
use Rattle.run_entries.specs.Carried.{HaltsIn, standing_of, limits_of}
use Rattle.run_model.specs.Scripts.{script_talk}
use Rattle.run_script.proofs.entry.carry_out.Goals as goal

pub returns-in-Ok-clause-carried : goal.returns-in-Ok-clause-carried
returns-in-Ok-clause-carried g c = λ told. on_ok_weaker c.execute.result
    (λ carried read reader.
    let bytes = c.args.bytes.now in
    carried read bytes (c.readings_are_unique.ensures.reading bytes (read bytes) (Ok c.parse.new.command) (reader.reads bytes) c.in-Ok.ensures.reading))
    (c.execute.ensures.carried told)

pub returns-in-Ok-clause-halts : goal.returns-in-Ok-clause-halts
returns-in-Ok-clause-halts g c = λ told. IfErr-weaker c.execute.result _ _
    (λ halt halts read reader.
    let bytes = c.args.bytes.now in
    halts read bytes (c.readings_are_unique.ensures.reading bytes (read bytes) (Ok c.parse.new.command) (reader.reads bytes) c.in-Ok.ensures.reading))
    (c.execute.ensures.halts told)

pub returns-in_ok-refuse-in-Err-clause-carried : goal.returns-in_ok-refuse-in-Err-clause-carried
returns-in_ok-refuse-in-Err-clause-carried g c = λ told read reader.
    let bytes = c.args.bytes.now in
    let r = c.in-Err.refusal in
    let a = standing_of g.V.Files.state g.V.Files.reads c.args.session.now (g.K.Sink.held c.args.out.now) in
    let b = standing_of g.V.Files.state g.V.Files.reads c.args.session.now (g.K.Sink.held c.refuse.new.out) in
    let is = c.readings_are_unique.ensures.reading bytes (read bytes) (Err r) (reader.reads bytes) c.in-Err.ensures.reading in
    refused_carried (script_talk read) (Bytes bytes) a b refl r is refl refl (omega arith) c.in_ok-refuse-in-Err.ensures.written

pub returns-in_err-refuse-in-Err-clause-halts : goal.returns-in_err-refuse-in-Err-clause-halts
returns-in_err-refuse-in-Err-clause-halts g c = λ told. rw (err_is c.from_residual.result _ c.from_residual.ensures.1) (λ read reader.
    let bytes = c.args.bytes.now in
    let r = c.in-Err.refusal in
    let a = standing_of g.V.Files.state g.V.Files.reads c.args.session.now (g.K.Sink.held c.args.out.now) in
    let b = standing_of g.V.Files.state g.V.Files.reads c.args.session.now (g.K.Sink.held c.refuse.new.out) in
    let is = c.readings_are_unique.ensures.reading bytes (read bytes) (Err r) (reader.reads bytes) c.in-Err.ensures.reading in
    let less : WroteLess (g.K.Sink.held c.args.out.now) (g.K.Sink.held c.refuse.new.out) (refusal_text r) = search rules in
    let sink : c.in_err-refuse-in-Err.field-0.0 ≡ Sink = search rules in
    let R : Ending → Type 0 = λ halt. HaltsIn (script_talk read) (limits_of g.V.Files c.args.session.now) (Bytes bytes ∷ []) a b halt in
    subst R (sym sink) (refused_halts (script_talk read) (Bytes bytes) a b refl r is refl (limits_of g.V.Files c.args.session.now) (omega arith) less))
