use Rattle.stored_mend.proofs.TakenRows.{not_taken}
use Rattle.stored_mend.proofs.filling.is_taken.Goals as goal

pub returns-else-is_row : goal.returns-else-is_row
returns-else-is_row c = not_taken c.is_row.result _ _ _ _ _ _ c.if-is_row.false c.is_row.ensures.row.1
