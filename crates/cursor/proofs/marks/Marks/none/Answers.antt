use Rattle.std.proofs.lemmas.List.{get_or-replicate}
use Rattle.cursor.proofs.marks.Marks.none.Goals as goal

pub returns : goal.returns
returns c = λ mark below. get_or-replicate 512 mark 0 0 below
