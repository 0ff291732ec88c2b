use Rattle.std.proofs.Common.{sym, ◌∙◌}
use Rattle.session_model.proofs.LeastReader.{reader_found, reader_later, reader_none}
use Rattle.session_model.proofs.readers.least_reader.Goals as goal

pub returns-then-is_reader : goal.returns-then-is_reader
returns-then-is_reader c = λ files. sym (c.loop-i.invariant files
    ∙ reader_found files c.args.name.now c.args.opens.now c.loop-i.i c.index-opens-i.result c.loop-i-test.true c.index-opens-i.is (sym (c.is_reader.ensures files) ∙ c.if-is_reader.true))

pub loop-i-preserved : goal.loop-i-preserved
loop-i-preserved c = λ files. c.loop-i.invariant files
    ∙ reader_later files c.args.name.now c.args.opens.now c.loop-i.i c.index-opens-i.result c.loop-i-test.true c.index-opens-i.is (sym (c.is_reader.ensures files) ∙ c.if-is_reader.false)

pub returns : goal.returns
returns c = λ files. sym (c.loop-i.invariant files ∙ reader_none files c.args.name.now c.args.opens.now c.loop-i.i c.loop-i-test.false)
