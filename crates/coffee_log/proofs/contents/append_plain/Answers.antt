use Rattle.std.proofs.Common.{◌≡◌, ◌+◌, ◌*◌, ap, get_or, arith, ◌∙◌}
use Rattle.padded.proofs.Facts.{on_err}
use Rattle.flash_range.proofs.Ranges.{or_outside}
use Rattle.coffee_log.proofs.FileCutLaws.{cut_stays, plain_cut}
use Rattle.coffee_log.proofs.Appends.{append_becomes}
use Rattle.coffee_log.proofs.contents.append_plain.Goals as goal

pub returns-clause-becomes : goal.returns-clause-becomes
returns-clause-becomes g c = λ t pages used log is plain fits exists.
    append_becomes (g.F.Flash.image c.args.flash.now) (g.F.Flash.image c.program_range.new.flash) c.args.bytes.now c.args.page.0 pages log used c.args.at _ (c.in_ok-program_range.ensures.programmed t) (omega arith) is plain fits exists

pub returns-clause-others : goal.returns-clause-others
returns-clause-others g c = λ t k out.
    let place : 256 * c.from.result + 32 + c.args.at ≡ 256 * c.args.page.0 + 32 + c.args.at = omega arith in
    ap (λ i. get_or i k 0) (c.in_ok-program_range.ensures.programmed t) ∙ or_outside (g.F.Flash.image c.args.flash.now) _ c.args.bytes.now k (λ a b. out (omega arith) (omega arith))

pub returns-in_err-program_range-clause-cut : goal.returns-in_err-program_range-clause-cut
returns-in_err-program_range-clause-cut g c = λ t u. on_err c.from_residual.result (λ pages used log is plain fits exists.
    plain_cut (g.F.Flash.image c.args.flash.now) (g.F.Flash.image c.program_range.new.flash) c.args.bytes.now c.args.page.0 pages log used c.args.at _ (c.in_err-program_range.ensures.cut t u) (omega arith) is plain fits exists)

pub returns-in_err-program_range-clause-stays : goal.returns-in_err-program_range-clause-stays
returns-in_err-program_range-clause-stays g c = λ t u. on_err c.from_residual.result (λ k out.
    let place : 256 * c.from.result + 32 + c.args.at ≡ 256 * c.args.page.0 + 32 + c.args.at = omega arith in
    cut_stays (g.F.Flash.image c.args.flash.now) (g.F.Flash.image c.program_range.new.flash) _ c.args.bytes.now k (c.in_err-program_range.ensures.cut t u) (λ a b. out (omega arith) (omega arith)))
