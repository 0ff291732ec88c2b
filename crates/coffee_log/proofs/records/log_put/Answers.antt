use Rattle.std.proofs.Common.{rules, arith, ◌≡◌, ◌+◌, length, ap, ◌∙◌, inl}
use Rattle.padded.proofs.Facts.{on_err}
use Rattle.afl_base.specs.Fields.{u16_at}
use Rattle.afl_base.proofs.FieldLaws.{u16_at-put_at}
use Rattle.coffee_log.proofs.FileCutLaws.{number_cut, record_torn}
use Rattle.coffee_log.proofs.RecordLaws.{programs_record}
use Rattle.coffee_log.proofs.records.log_put.Goals as goal

pub returns-clause-put : goal.returns-clause-put
returns-clause-put g c = λ t was.
    let is : u16_at c.put_u16.new.bytes 0 ≡ c.args.region + 1 = ap (λ xs. u16_at xs 0) c.put_u16.ensures ∙ u16_at-put_at _ 0 (c.args.region + 1) (omega arith) (omega arith) in
    let two : length c.put_u16.new.bytes ≡ 2 = omega (arith, c.put_u16.auto.bytes) in
    programs_record (g.F.Flash.image c.args.flash.now) (g.F.Flash.image c.program_range.new.flash) (g.F.Flash.image c.program_range-2.new.flash) c.args.bytes.now c.put_u16.new.bytes c.args.log.0 c.args.used c.args.region _ _
    (c.in_ok-program_range.ensures.programmed t) (c.in_ok-program_range-2.ensures.programmed t) (omega arith) (omega arith) (search rules) two is (omega arith) (omega arith) was

pub returns-in_err-program_range-clause-cut : goal.returns-in_err-program_range-clause-cut
returns-in_err-program_range-clause-cut g c = λ t u. on_err c.from_residual.result (λ was.
    inl (record_torn (g.F.Flash.image c.args.flash.now) (g.F.Flash.image c.program_range.new.flash) c.args.bytes.now c.args.log c.args.used _ (c.in_err-program_range.ensures.cut t u) (omega arith) (search rules) (omega arith)))

pub returns-in_err-program_range-2-clause-cut : goal.returns-in_err-program_range-2-clause-cut
returns-in_err-program_range-2-clause-cut g c = λ t u. on_err c.from_residual-in_err-program_range-2.result (λ was.
    let is : u16_at c.put_u16.new.bytes 0 ≡ c.args.region + 1 = ap (λ xs. u16_at xs 0) c.put_u16.ensures ∙ u16_at-put_at _ 0 (c.args.region + 1) (omega arith) (omega arith) in
    let two : length c.put_u16.new.bytes ≡ 2 = omega (arith, c.put_u16.auto.bytes) in
    number_cut (g.F.Flash.image c.args.flash.now) (g.F.Flash.image c.program_range.new.flash) (g.F.Flash.image c.program_range-2.new.flash) c.args.bytes.now c.put_u16.new.bytes c.args.log c.args.used c.args.region _ _
    (c.in_ok-program_range.ensures.programmed t) (c.in_err-program_range-2.ensures.cut t u) (omega arith) (omega arith) (search rules) two is (omega arith) (omega arith) was)
