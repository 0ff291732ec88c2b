use Rattle.std.proofs.Common.{◌≡◌, false, ap, subst, sym, ◌∙◌, [], ◌∷◌, rules}
use Rattle.std.specs.Io.KnownBytes.{append_known}
use Rattle.db_model.specs.Script.{Bytes}
use Rattle.run_input.specs.declared.ending.Ending.{Ending}
use Rattle.db_model.specs.declared.refusals.Refusal.TheVariants as no
use Rattle.db_model.specs.ReplyText.{refusal_text}
use Rattle.run_model.specs.Scripts.{script_talk}
use Rattle.std.specs.Prelude.{ℕ, List, Option}
use Rattle.run_input.specs.declared.ending.Ending.TheVariants.{Sink}
use Rattle.padded.proofs.Facts.{err_is}
use Rattle.reply_text.specs.WroteLess.{WroteLess}
use Rattle.run_entries.proofs.Single.{command_faulted, command_found, command_halts_less, command_unsaid}
use Rattle.run_entries.specs.Carried.{HaltsIn, standing_of, limits_of}
use Rattle.run_script.proofs.entry.execute.Goals as goal

pub returns-in_ok-refuse-in-Ok-NoSpace-clause-halts : goal.returns-in_ok-refuse-in-Ok-NoSpace-clause-halts
returns-in_ok-refuse-in-Ok-NoSpace-clause-halts g c = λ told read bytes is.
    let e = c.in-Ok-NoSpace.ensures in
    let does = rw c.in-Ok-NoSpace.field-0-is at (e.done told) in
    let s = c.exec.new.self in
    let n = c.in-Ok-NoSpace.need in
    let state = g.V.Files.state in
    let a = standing_of state g.V.Files.reads c.args.session.now (g.K.Sink.held c.args.out.now) in
    let b = standing_of state g.V.Files.reads s (g.K.Sink.held c.refuse.new.out) in
    let kept : s.lost ≡ false = search (rules, e.stops.lost) in
    command_found (script_talk read) (Bytes bytes) a b (e.goes_on kept).tells c.args.command.now is (limits_of g.V.Files s) (e.reads told) n does.0 does.2
    (rw c.in-Ok-NoSpace.field-0-is at (e.space told))
    (c.in_ok-refuse-in-Ok-NoSpace.ensures.written ∙ ap (λ (h : Option (List ℕ)). append_known h (refusal_text (no.Space n))) does.1)

pub returns-in_err-refuse-in-Ok-NoSpace-clause-halts : goal.returns-in_err-refuse-in-Ok-NoSpace-clause-halts
returns-in_err-refuse-in-Ok-NoSpace-clause-halts g c = λ told. rw (err_is c.from_residual.result _ c.from_residual.ensures.1) (λ read bytes is.
    let e = c.in-Ok-NoSpace.ensures in
    let does = rw c.in-Ok-NoSpace.field-0-is at (e.done told) in
    let s = c.exec.new.self in
    let n = c.in-Ok-NoSpace.need in
    let state = g.V.Files.state in
    let a = standing_of state g.V.Files.reads c.args.session.now (g.K.Sink.held c.args.out.now) in
    let b = standing_of state g.V.Files.reads s (g.K.Sink.held c.refuse.new.out) in
    let kept : s.lost ≡ false = search (rules, e.stops.lost) in
    let R : Ending → Type 0 = λ halt. HaltsIn (script_talk read) (limits_of g.V.Files s) (Bytes bytes ∷ []) a b halt in
    let less : WroteLess (g.K.Sink.held c.exec.new.out) (g.K.Sink.held c.refuse.new.out) (refusal_text (no.Space n)) = search rules in
    let sink : c.in_err-refuse-in-Ok-NoSpace.field-0.0 ≡ Sink = search rules in
    subst R (sym sink)
    (command_unsaid (script_talk read) (Bytes bytes) a b (e.goes_on kept).tells c.args.command.now is (limits_of g.V.Files s) (e.reads told) n does.0 does.2
    (rw c.in-Ok-NoSpace.field-0-is at (e.space told)) (g.K.Sink.held c.exec.new.out) does.1 less))

pub returns-in-Err-Sink-clause-halts : goal.returns-in-Err-Sink-clause-halts
returns-in-Err-Sink-clause-halts g c = λ told read bytes is.
    let e = c.in-Err-Sink.ensures in
    let s = c.exec.new.self in
    let a = standing_of g.V.Files.state g.V.Files.reads c.args.session.now (g.K.Sink.held c.args.out.now) in
    let b = standing_of g.V.Files.state g.V.Files.reads s (g.K.Sink.held c.exec.new.out) in
    let kept : s.lost ≡ false = search (rules, e.stops.lost) in
    let less = e.sink told (search rules) in
    command_halts_less (script_talk read) (Bytes bytes) a b (e.goes_on kept).tells c.args.command.now is (limits_of g.V.Files s) (e.reads told) less.1 less.0

pub returns-in-Err-Flash-clause-halts : goal.returns-in-Err-Flash-clause-halts
returns-in-Err-Flash-clause-halts g c = λ told read bytes is.
    let e = c.in-Err-Flash.ensures in
    let s = c.exec.new.self in
    let a = standing_of g.V.Files.state g.V.Files.reads c.args.session.now (g.K.Sink.held c.args.out.now) in
    let b = standing_of g.V.Files.state g.V.Files.reads s (g.K.Sink.held c.exec.new.out) in
    let off = e.flash told (search rules) in
    command_faulted (script_talk read) (Bytes bytes) a b c.args.command.now is (limits_of g.V.Files s) (e.reads told) off.part (λ changes. ap g.K.Sink.held (off.unsaid changes)) off.mends
