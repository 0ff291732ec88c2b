use Rattle.std.proofs.Common.{rules, arith, ◌≡◌, ◌+◌, ◌*◌, length, ap, ◌∙◌}
use Rattle.padded.proofs.Facts.{on_err}
use Rattle.afl_base.specs.Fields.{u16_at}
use Rattle.afl_base.proofs.FieldLaws.{u16_at-put_at}
use Rattle.coffee_mend.proofs.RecordFills.{bytes_cut, filled, name_cut}
use Rattle.coffee_mend.proofs.completing.fill_record.Goals as goal

pub returns-in_err-program_range-clause-cut : goal.returns-in_err-program_range-clause-cut
returns-in_err-program_range-clause-cut g c = λ t u. on_err c.from_residual.result (λ was all.
    let is : u16_at c.put_u16.new.bytes 0 ≡ c.args.region + 1 = ap (λ xs. u16_at xs 0) c.put_u16.ensures ∙ u16_at-put_at _ 0 (c.args.region + 1) (omega arith) (omega arith) in
    let two : length c.put_u16.new.bytes ≡ 2 = omega (arith, c.put_u16.auto.bytes) in
    bytes_cut (g.F.Flash.image c.args.flash.now) c.args.bytes.now c.put_u16.new.bytes c.args.torn.now.log c.args.torn.now.used c.args.region c.args.torn.now.place (256 * c.args.torn.now.log.0 + 32 + 2 * c.args.torn.now.used) (search rules) two is (omega arith) (omega arith) c.requires.torn.place (omega arith)
    (g.F.Flash.image c.program_range.new.flash) (c.in_err-program_range.ensures.cut t u))

pub returns-in_err-program_range-2-clause-cut : goal.returns-in_err-program_range-2-clause-cut
returns-in_err-program_range-2-clause-cut g c = λ t u. on_err c.from_residual-in_err-program_range-2.result (λ was all.
    let is : u16_at c.put_u16.new.bytes 0 ≡ c.args.region + 1 = ap (λ xs. u16_at xs 0) c.put_u16.ensures ∙ u16_at-put_at _ 0 (c.args.region + 1) (omega arith) (omega arith) in
    let two : length c.put_u16.new.bytes ≡ 2 = omega (arith, c.put_u16.auto.bytes) in
    name_cut (g.F.Flash.image c.args.flash.now) c.args.bytes.now c.put_u16.new.bytes c.args.torn.now.log c.args.torn.now.used c.args.region c.args.torn.now.place _ (search rules) two is (omega arith) (omega arith) c.requires.torn.place (omega arith) was all
    (g.F.Flash.image c.program_range.new.flash) (c.in_ok-program_range.ensures.programmed t) (g.F.Flash.image c.program_range-2.new.flash) (c.in_err-program_range-2.ensures.cut t u))

pub returns-clause-filled : goal.returns-clause-filled
returns-clause-filled g c = λ t was all.
    let is : u16_at c.put_u16.new.bytes 0 ≡ c.args.region + 1 = ap (λ xs. u16_at xs 0) c.put_u16.ensures ∙ u16_at-put_at _ 0 (c.args.region + 1) (omega arith) (omega arith) in
    let two : length c.put_u16.new.bytes ≡ 2 = omega (arith, c.put_u16.auto.bytes) in
    filled (g.F.Flash.image c.args.flash.now) c.args.bytes.now c.put_u16.new.bytes c.args.torn.now.log c.args.torn.now.used c.args.region c.args.torn.now.place _ (search rules) two is (omega arith) (omega arith) c.requires.torn.place (omega arith) was all
    (g.F.Flash.image c.program_range.new.flash) (c.in_ok-program_range.ensures.programmed t) (g.F.Flash.image c.program_range-2.new.flash) (c.in_ok-program_range-2.ensures.programmed t)
