use Rattle.std.proofs.lemmas.Result.{on_err_weaker}
use Rattle.reply_text.proofs.Pieces.{less_behind}
use Rattle.dump.proofs.schemas.write_schema.Goals as goal

pub returns-clause-failed : goal.returns-clause-failed
returns-clause-failed g c =
    on_err_weaker c.write_attributes.result (λ w. less_behind _ _ _ _ _ c.in_ok-write_relation_line.ensures.written w) (rw c.as_slice.ensures.items at c.write_attributes.ensures.failed)
