use Rattle.std.proofs.Common.{◌≡◌, ◌+◌, ◌*◌, inl, inr, length, ap, ◌∙◌, arith, ⊎_elim}
use Rattle.padded.proofs.Facts.{on_err}
use Rattle.afl_base.specs.Image.{or_at}
use Rattle.afl_base.specs.Fields.{u16_bytes}
use Rattle.coffee_merge.proofs.CutMarkLaws.{one_of}
use Rattle.coffee_merge.specs.Flags.{flagged}
use Rattle.coffee_merge.proofs.Numbered.{put_number}
use Rattle.coffee_merge.proofs.logging.name_log.Goals as goal

pub returns-clause-written : goal.returns-clause-written
returns-clause-written g c = λ t.
    let old = g.F.Flash.image c.args.flash.now in
    let place : 256 * c.args.page.0 + 0 ≡ 256 * c.args.page.0 = omega arith in
    c.in_ok-program-2.ensures.programmed t
    ∙ ap (λ i. flagged i c.args.page.0 8) (c.in_ok-program.ensures.programmed t ∙ ap (λ k. or_at old k c.put_u16.new.bytes) place ∙ ap (λ bytes. or_at old (256 * c.args.page.0) bytes) (c.put_u16.ensures ∙ put_number (c.args.log.0 + 1)))

pub returns-in_err-program-clause-cut : goal.returns-in_err-program-clause-cut
returns-in_err-program-clause-cut g c = λ t u.
    let old = g.F.Flash.image c.args.flash.now in
    let place : 256 * c.args.page.0 + 0 ≡ 256 * c.args.page.0 = omega arith in
    let two : length c.put_u16.new.bytes ≡ 2 = omega (arith, c.put_u16.auto.bytes) in
    on_err c.from_residual.result
    (⊎_elim inl (λ is. inr (inl (is ∙ ap (λ k. or_at old k c.put_u16.new.bytes) place ∙ ap (λ bytes. or_at old (256 * c.args.page.0) bytes) (c.put_u16.ensures ∙ put_number (c.args.log.0 + 1)))))
    (one_of old (g.F.Flash.image c.program.new.self) _ c.put_u16.new.bytes (c.in_err-program.ensures.cut t u) (omega arith)))

pub returns-in_err-program-2-clause-cut : goal.returns-in_err-program-2-clause-cut
returns-in_err-program-2-clause-cut g c = λ t u.
    let old = g.F.Flash.image c.args.flash.now in
    let place : 256 * c.args.page.0 + 0 ≡ 256 * c.args.page.0 = omega arith in
    let mid : g.F.Flash.image c.program.new.self ≡ or_at old (256 * c.args.page.0) (u16_bytes (c.args.log.0 + 1)) =
    c.in_ok-program.ensures.programmed t ∙ ap (λ k. or_at old k c.put_u16.new.bytes) place ∙ ap (λ bytes. or_at old (256 * c.args.page.0) bytes) (c.put_u16.ensures ∙ put_number (c.args.log.0 + 1)) in
    on_err c.from_residual-in_err-program-2.result
    (inr (⊎_elim (λ is. inl (is ∙ mid)) (λ is. inr (is ∙ ap (λ i. flagged i c.args.page.0 8) mid))
    (one_of (g.F.Flash.image c.program.new.self) (g.F.Flash.image c.program-2.new.self) _ _ (c.in_err-program-2.ensures.cut t u) (omega arith))))
