use Rattle.std.proofs.Common.{rules, ◌++◌, [], ◌∷◌}
use Rattle.std.proofs.lemmas.Result.{on_err_weaker}
use Rattle.reply_text.proofs.Pieces.{less_behind, less_front, less_third}
use Rattle.reply_text.proofs.rows.write_between.Goals as goal

pub returns-in_err-write_byte-clause-failed : goal.returns-in_err-write_byte-clause-failed
returns-in_err-write_byte-clause-failed g c =
    let mark = c.args.mark ∷ [] in
    let less = less_front (g.K.Sink.held c.args.out.now) (g.K.Sink.held c.write_byte.new.out) mark (c.args.bytes.now ++ mark) c.in_err-write_byte.ensures.failed in
    search (rules, less)

pub returns-in_err-write_all-clause-failed : goal.returns-in_err-write_all-clause-failed
returns-in_err-write_all-clause-failed g c =
    let h0 = g.K.Sink.held c.args.out.now in
    let h1 = g.K.Sink.held c.write_byte.new.out in
    let h2 = g.K.Sink.held c.write_all.new.out in
    let mark = c.args.mark ∷ [] in
    let bytes = c.args.bytes.now in
    let less = less_behind h0 h1 h2 mark (bytes ++ mark) c.in_ok-write_byte.ensures.written (less_front h1 h2 bytes mark c.in_err-write_all.ensures.failed) in
    search (rules, less)

pub returns-clause-failed : goal.returns-clause-failed
returns-clause-failed g c =
    let mark = c.args.mark ∷ [] in
    on_err_weaker c.write_byte-2.result (λ w. less_third (g.K.Sink.held c.args.out.now) (g.K.Sink.held c.write_byte.new.out) (g.K.Sink.held c.write_all.new.out) (g.K.Sink.held c.write_byte-2.new.out)
    mark c.args.bytes.now mark c.in_ok-write_byte.ensures.written c.in_ok-write_all.ensures.written w) c.write_byte-2.ensures.failed
