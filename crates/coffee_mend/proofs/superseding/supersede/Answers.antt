use Rattle.std.proofs.Common.{inl, arith}
use Rattle.std.proofs.lemmas.Result.{on_err_weaker, on_ok_weaker}
use Rattle.padded.proofs.Facts.{on_err}
use Rattle.coffee_mend.proofs.SupersedingWrites.{last_cut, name_cut, name_written, record_cut, record_written, superseded}
use Rattle.coffee_mend.proofs.superseding.supersede.Goals as goal

pub returns-in_err-program_range-clause-cut : goal.returns-in_err-program_range-clause-cut
returns-in_err-program_range-clause-cut g c = λ told cuts. on_err c.from_residual.result (λ t h some. inl
    (record_cut (g.F.Flash.image c.args.flash.now) c.args.torn.now c.args.region.now (omega (arith, c.sectors.ensures.size)) c.requires.torn t h (omega arith)
    (g.F.Flash.image c.program_range.new.flash) _ (omega arith) (c.in_err-program_range.ensures.cut told cuts)))

pub returns-in_err-program_range-2-clause-cut : goal.returns-in_err-program_range-2-clause-cut
returns-in_err-program_range-2-clause-cut g c = λ told cuts. on_err c.from_residual-in_err-program_range-2.result (λ t h some. inl
    (let written = record_written (g.F.Flash.image c.args.flash.now) c.args.torn.now c.args.region.now (omega (arith, c.sectors.ensures.size)) c.requires.torn t h (omega arith)
    (g.F.Flash.image c.program_range.new.flash) _ (omega arith) (c.in_ok-program_range.ensures.programmed told) in
    name_cut (g.F.Flash.image c.args.flash.now) c.args.torn.now c.args.region.now (omega (arith, c.sectors.ensures.size)) c.requires.torn t h some
    (g.F.Flash.image c.program_range.new.flash) (g.F.Flash.image c.program_range-2.new.flash) _ (omega (arith, c.from-page.ensures, c.from-used.ensures)) written
    (c.in_err-program_range-2.ensures.cut told cuts)))

pub returns-clause-superseded : goal.returns-clause-superseded
returns-clause-superseded g c = λ told. on_ok_weaker c.program_range-3.result (λ last t h some.
    let written = record_written (g.F.Flash.image c.args.flash.now) c.args.torn.now c.args.region.now (omega (arith, c.sectors.ensures.size)) c.requires.torn t h (omega arith)
    (g.F.Flash.image c.program_range.new.flash) _ (omega arith) (c.in_ok-program_range.ensures.programmed told) in
    let named = name_written (g.F.Flash.image c.args.flash.now) c.args.torn.now c.args.region.now (omega (arith, c.sectors.ensures.size)) c.requires.torn t h some
    (g.F.Flash.image c.program_range.new.flash) (g.F.Flash.image c.program_range-2.new.flash) _ (omega (arith, c.from-page.ensures, c.from-used.ensures)) written
    (c.in_ok-program_range-2.ensures.programmed told) in
    superseded (g.F.Flash.image c.args.flash.now) c.args.torn.now c.args.region.now (omega (arith, c.sectors.ensures.size)) c.requires.torn t h some
    (g.F.Flash.image c.program_range-2.new.flash) (g.F.Flash.image c.program_range-3.new.flash) _ (omega (arith, c.from-page.ensures, c.from-used.ensures)) named last)
    (c.program_range-3.ensures.programmed told)

pub returns-clause-cut : goal.returns-clause-cut
returns-clause-cut g c = λ told cuts. on_err_weaker c.program_range-3.result (λ cut t h some.
    let written = record_written (g.F.Flash.image c.args.flash.now) c.args.torn.now c.args.region.now (omega (arith, c.sectors.ensures.size)) c.requires.torn t h (omega arith)
    (g.F.Flash.image c.program_range.new.flash) _ (omega arith) (c.in_ok-program_range.ensures.programmed told) in
    let named = name_written (g.F.Flash.image c.args.flash.now) c.args.torn.now c.args.region.now (omega (arith, c.sectors.ensures.size)) c.requires.torn t h some
    (g.F.Flash.image c.program_range.new.flash) (g.F.Flash.image c.program_range-2.new.flash) _ (omega (arith, c.from-page.ensures, c.from-used.ensures)) written
    (c.in_ok-program_range-2.ensures.programmed told) in
    last_cut (g.F.Flash.image c.args.flash.now) c.args.torn.now c.args.region.now (omega (arith, c.sectors.ensures.size)) c.requires.torn t h some
    (g.F.Flash.image c.program_range-2.new.flash) (g.F.Flash.image c.program_range-3.new.flash) _ (omega (arith, c.from-page.ensures, c.from-used.ensures)) named cut)
    (c.program_range-3.ensures.cut told cuts)
