use Rattle.std.proofs.Common.{rules, ◌++◌}
use Rattle.std.specs.Prelude.{codes}
use Rattle.std.proofs.lemmas.Result.{on_err_weaker}
use Rattle.reply_text.proofs.Pieces.{less_behind, less_front, less_third}
use Rattle.stored_mend.proofs.pieces.write_index.Goals as goal

pub returns-in_err-write_name-clause-failed : goal.returns-in_err-write_name-clause-failed
returns-in_err-write_name-clause-failed g c =
    let front = codes "index on " ++ c.args.relation.now ++ codes "." in
    let less = less_front _ _ (front ++ c.args.attribute.now) c.args.last.now (less_front _ _ front c.args.attribute.now c.in_err-write_name.ensures.failed) in
    search (rules, less)

pub returns-in_err-write_all-clause-failed : goal.returns-in_err-write_all-clause-failed
returns-in_err-write_all-clause-failed g c =
    let front = codes "index on " ++ c.args.relation.now ++ codes "." in
    let less = less_front _ _ (front ++ c.args.attribute.now) c.args.last.now (less_behind _ _ _ front c.args.attribute.now c.in_ok-write_name.ensures.written c.in_err-write_all.ensures.failed) in
    search (rules, less)

pub returns-clause-failed : goal.returns-clause-failed
returns-clause-failed g c =
    let front = codes "index on " ++ c.args.relation.now ++ codes "." in
    on_err_weaker c.write_all-2.result (λ w. less_third _ _ _ _ front c.args.attribute.now c.args.last.now c.in_ok-write_name.ensures.written c.in_ok-write_all.ensures.written w) c.write_all-2.ensures.failed
