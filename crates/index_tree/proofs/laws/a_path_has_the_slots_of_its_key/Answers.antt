use Rattle.index_tree.proofs.Paths.{slots_along}
use Rattle.index_tree.proofs.laws.a_path_has_the_slots_of_its_key.Goals as goal

pub returns : goal.returns
returns c = λ bytes keys key hops tree far. slots_along bytes keys key hops tree far
