use Rattle.std.proofs.Common.{◌≡◌, ◌<◌, inl, inr, subst, sym, length, List, refl, arith, rules}
use Rattle.std.proofs.lemmas.Bool.Decides.{nat_tests}
use Rattle.db_model.specs.declared.refusals.Refusal.TheVariants as no
use Rattle.db_model.specs.ReplyText.{refusal_text}
use Rattle.db_model.specs.Script.{Entry, Unfinished, past_white, unended}
use Rattle.run_input.specs.declared.ending.Ending.{Ending}
use Rattle.run_input.specs.declared.ending.Ending.TheVariants.{Sink}
use Rattle.padded.proofs.Facts.{err_is}
use Rattle.reply_text.specs.WroteLess.{WroteLess}
use Rattle.run_script.proofs.Gathering.{unclosed_some}
use Rattle.run_entries.proofs.Single.{refused_carried, refused_halts}
use Rattle.run_entries.specs.Carried.{Carried, HaltsIn, standing_of, limits_of}
use Rattle.run_model.specs.Scripts.{script_talk}
use Rattle.run_script.proofs.running.answer_unended.Goals as goal

pub returns-clause-carried : goal.returns-clause-carried
returns-clause-carried g c = λ told read reader p gathers.
    let v = c.args.piece.now in
    let some : 0 < length v.bytes.items = grind (arith, nat_tests, c.if-is_empty.ensures) in
    let a = standing_of g.V.Files.state g.V.Files.reads c.args.session.now (g.K.Sink.held c.args.out.now) in
    let b = standing_of g.V.Files.state g.V.Files.reads c.args.session.now (g.K.Sink.held c.refuse.new.out) in
    let P : List Entry → Type 0 = λ es. Carried (script_talk read) es a b in
    subst P (sym (unclosed_some p v.bytes.items v.long gathers some))
    (refused_carried (script_talk read) Unfinished a b refl no.Unfinished refl refl refl (omega arith) c.in_ok-refuse.ensures.written)

pub returns-in_err-refuse-clause-halts : goal.returns-in_err-refuse-clause-halts
returns-in_err-refuse-clause-halts g c = λ told. rw (err_is c.from_residual.result _ c.from_residual.ensures.1) (λ read reader p gathers.
    let v = c.args.piece.now in
    let some : 0 < length v.bytes.items = grind (arith, nat_tests, c.if-is_empty.ensures) in
    let a = standing_of g.V.Files.state g.V.Files.reads c.args.session.now (g.K.Sink.held c.args.out.now) in
    let b = standing_of g.V.Files.state g.V.Files.reads c.args.session.now (g.K.Sink.held c.refuse.new.out) in
    let less : WroteLess (g.K.Sink.held c.args.out.now) (g.K.Sink.held c.refuse.new.out) (refusal_text no.Unfinished) = search rules in
    let sink : c.in_err-refuse.field-0.0 ≡ Sink = search rules in
    let R : Ending → Type 0 = λ halt. HaltsIn (script_talk read) (limits_of g.V.Files c.args.session.now) (unended (past_white p)) a b halt in
    let P : List Entry → Type 0 = λ es. HaltsIn (script_talk read) (limits_of g.V.Files c.args.session.now) es a b Sink in
    subst R (sym sink) (subst P (sym (unclosed_some p v.bytes.items v.long gathers some))
    (refused_halts (script_talk read) Unfinished a b refl no.Unfinished refl refl (limits_of g.V.Files c.args.session.now) (omega arith) less)))

pub returns-then-is_empty-clause-silent : goal.returns-then-is_empty-clause-silent
returns-then-is_empty-clause-silent g c = inl refl

pub returns-clause-silent : goal.returns-clause-silent
returns-clause-silent g c =
    let v = c.args.piece.now in
    let some : 0 < length v.bytes.items = grind (arith, nat_tests, c.if-is_empty.ensures) in
    inr (λ p gathers. (Unfinished, unclosed_some p v.bytes.items v.long gathers some))

pub returns-in_err-refuse-clause-silent : goal.returns-in_err-refuse-clause-silent
returns-in_err-refuse-clause-silent g c =
    let v = c.args.piece.now in
    let some : 0 < length v.bytes.items = grind (arith, nat_tests, c.if-is_empty.ensures) in
    inr (λ p gathers. (Unfinished, unclosed_some p v.bytes.items v.long gathers some))
