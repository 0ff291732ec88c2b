use Rattle.std.proofs.Common.{◌++◌, [], ◌∷◌, refl, rules}
use Rattle.std.specs.Prelude.{codes, decimal}
use Rattle.reply_text.proofs.Pieces.{held_more, less_behind, less_front}
use Rattle.run_collect.specs.Collects.{erased_line}
use Rattle.run_collect.proofs.lines.write_erased.Goals as goal

pub returns-in_err-write_count-clause-failed : goal.returns-in_err-write_count-clause-failed
returns-in_err-write_count-clause-failed g c =
    let less = less_front (g.K.Sink.held c.args.out.now) (g.K.Sink.held c.write_count.new.out) (codes "sectors erased " ++ decimal c.args.erased) (10 ∷ []) c.in_err-write_count.ensures.failed in
    search (rules, less)

pub returns-in_err-write_all-clause-failed : goal.returns-in_err-write_all-clause-failed
returns-in_err-write_all-clause-failed g c =
    let less = less_behind (g.K.Sink.held c.args.out.now) (g.K.Sink.held c.write_count.new.out) (g.K.Sink.held c.write_all.new.out) (codes "sectors erased " ++ decimal c.args.erased) (10 ∷ []) c.in_ok-write_count.ensures.written c.in_err-write_all.ensures.failed in
    search (rules, less)

pub returns-clause-written : goal.returns-clause-written
returns-clause-written g c =
    held_more (g.K.Sink.held c.args.out.now) (g.K.Sink.held c.write_count.new.out) (g.K.Sink.held c.write_all.new.out) (codes "sectors erased " ++ decimal c.args.erased) (10 ∷ []) (erased_line c.args.erased) c.in_ok-write_count.ensures.written c.in_ok-write_all.ensures.written refl
