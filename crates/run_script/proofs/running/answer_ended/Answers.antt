use Rattle.std.proofs.Common.{◌≡◌, ◌<◌, inl, inr, Bool, subst, sym, length, List, ℕ, [], ◌∷◌, refl, arith, rules}
use Rattle.std.proofs.lemmas.Bool.Decides.{nat_tests}
use Rattle.db_model.specs.declared.refusals.Refusal.TheVariants as no
use Rattle.db_model.specs.ReplyText.{refusal_text}
use Rattle.db_model.specs.Script.{Bytes, Entry, Long, ended, past_white}
use Rattle.run_input.specs.declared.ending.Ending.{Ending}
use Rattle.run_input.specs.declared.ending.Ending.TheVariants.{Sink}
use Rattle.padded.proofs.Facts.{err_is}
use Rattle.reply_text.specs.WroteLess.{WroteLess}
use Rattle.run_script.proofs.Gathering.{said_long, said_some}
use Rattle.run_entries.proofs.Single.{refused_carried, refused_halts}
use Rattle.run_entries.specs.Carried.{Carried, HaltsIn, standing_of, limits_of}
use Rattle.run_script.specs.Gathers.{GathersPiece}
use Rattle.run_model.specs.Scripts.{script_talk}
use Rattle.run_script.proofs.running.answer_ended.Goals as goal

pub returns-then-piece-clause-carried : goal.returns-then-piece-clause-carried
returns-then-piece-clause-carried g c = λ told read reader p gathers.
    let v = c.args.piece.now in
    let a = standing_of g.V.Files.state g.V.Files.reads c.args.session.now (g.K.Sink.held c.args.out.now) in
    let b = standing_of g.V.Files.state g.V.Files.reads c.args.session.now (g.K.Sink.held c.refuse.new.out) in
    let P : List Entry → Type 0 = λ es. Carried (script_talk read) es a b in
    subst P (sym (said_long p v.bytes.items (subst (λ (l : Bool). GathersPiece p v.bytes.items l) c.if-piece.true gathers)))
    (refused_carried (script_talk read) Long a b refl no.Long refl refl refl (omega arith) c.in_ok-refuse.ensures.written)

pub returns-in_err-refuse-clause-halts : goal.returns-in_err-refuse-clause-halts
returns-in_err-refuse-clause-halts g c = λ told. rw (err_is c.from_residual.result _ c.from_residual.ensures.1) (λ read reader p gathers.
    let v = c.args.piece.now in
    let a = standing_of g.V.Files.state g.V.Files.reads c.args.session.now (g.K.Sink.held c.args.out.now) in
    let b = standing_of g.V.Files.state g.V.Files.reads c.args.session.now (g.K.Sink.held c.refuse.new.out) in
    let less : WroteLess (g.K.Sink.held c.args.out.now) (g.K.Sink.held c.refuse.new.out) (refusal_text no.Long) = search rules in
    let sink : c.in_err-refuse.field-0.0 ≡ Sink = search rules in
    let R : Ending → Type 0 = λ halt. HaltsIn (script_talk read) (limits_of g.V.Files c.args.session.now) (ended (past_white p)) a b halt in
    let P : List Entry → Type 0 = λ es. HaltsIn (script_talk read) (limits_of g.V.Files c.args.session.now) es a b Sink in
    subst R (sym sink) (subst P (sym (said_long p v.bytes.items (subst (λ (l : Bool). GathersPiece p v.bytes.items l) c.if-piece.true gathers)))
    (refused_halts (script_talk read) Long a b refl no.Long refl refl (limits_of g.V.Files c.args.session.now) (omega arith) less)))

pub returns-clause-carried : goal.returns-clause-carried
returns-clause-carried g c = λ told read reader p gathers.
    let v = c.args.piece.now in
    let some : 0 < length v.bytes.items = grind (arith, nat_tests, c.if-is_empty.ensures) in
    let is : ended (past_white p) ≡ Bytes v.bytes.items ∷ [] = said_some p v.bytes.items (subst (λ (l : Bool). GathersPiece p v.bytes.items l) c.if-piece.false gathers) some in
    let a = standing_of g.V.Files.state g.V.Files.reads c.args.session.now (g.K.Sink.held c.args.out.now) in
    let b = standing_of g.V.Files.state g.V.Files.reads c.carry_out.new.session (g.K.Sink.held c.carry_out.new.out) in
    let P : List Entry → Type 0 = λ es. Carried (script_talk read) es a b in
    let Q : List ℕ → Type 0 = λ bytes. Carried (script_talk read) (Bytes bytes ∷ []) a b in
    subst P (sym is) (subst Q c.as_slice.ensures.value (c.in_ok-carry_out.ensures.carried told read reader))

pub returns-in_err-carry_out-clause-halts : goal.returns-in_err-carry_out-clause-halts
returns-in_err-carry_out-clause-halts g c = λ told. rw (err_is c.from_residual-in_err-carry_out.result _ c.from_residual-in_err-carry_out.ensures.1) (λ read reader p gathers.
    let v = c.args.piece.now in
    let some : 0 < length v.bytes.items = grind (arith, nat_tests, c.if-is_empty.ensures) in
    let is : ended (past_white p) ≡ Bytes v.bytes.items ∷ [] = said_some p v.bytes.items (subst (λ (l : Bool). GathersPiece p v.bytes.items l) c.if-piece.false gathers) some in
    let a = standing_of g.V.Files.state g.V.Files.reads c.args.session.now (g.K.Sink.held c.args.out.now) in
    let b = standing_of g.V.Files.state g.V.Files.reads c.carry_out.new.session (g.K.Sink.held c.carry_out.new.out) in
    let L = limits_of g.V.Files c.carry_out.new.session in
    let P : List Entry → Type 0 = λ es. HaltsIn (script_talk read) L es a b c.in_err-carry_out.field-0.0 in
    let Q : List ℕ → Type 0 = λ bytes. HaltsIn (script_talk read) L (Bytes bytes ∷ []) a b c.in_err-carry_out.field-0.0 in
    subst P (sym is) (subst Q c.as_slice.ensures.value (c.in_err-carry_out.ensures.halts told read reader)))

pub returns-then-piece-clause-silent : goal.returns-then-piece-clause-silent
returns-then-piece-clause-silent g c = inr (λ p gathers. (Long, said_long p c.args.piece.now.bytes.items (subst (λ (l : Bool). GathersPiece p c.args.piece.now.bytes.items l) c.if-piece.true gathers)))

pub returns-in_err-refuse-clause-silent : goal.returns-in_err-refuse-clause-silent
returns-in_err-refuse-clause-silent g c = inr (λ p gathers. (Long, said_long p c.args.piece.now.bytes.items (subst (λ (l : Bool). GathersPiece p c.args.piece.now.bytes.items l) c.if-piece.true gathers)))

pub returns-then-is_empty-clause-silent : goal.returns-then-is_empty-clause-silent
returns-then-is_empty-clause-silent g c = inl refl

pub returns-clause-silent : goal.returns-clause-silent
returns-clause-silent g c =
    let v = c.args.piece.now in
    let some : 0 < length v.bytes.items = grind (arith, nat_tests, c.if-is_empty.ensures) in
    inr (λ p gathers. (Bytes v.bytes.items, said_some p v.bytes.items (subst (λ (l : Bool). GathersPiece p v.bytes.items l) c.if-piece.false gathers) some))

pub returns-in_err-carry_out-clause-silent : goal.returns-in_err-carry_out-clause-silent
returns-in_err-carry_out-clause-silent g c =
    let v = c.args.piece.now in
    let some : 0 < length v.bytes.items = grind (arith, nat_tests, c.if-is_empty.ensures) in
    inr (λ p gathers. (Bytes v.bytes.items, said_some p v.bytes.items (subst (λ (l : Bool). GathersPiece p v.bytes.items l) c.if-piece.false gathers) some))
