use Rattle.index_tree.proofs.Law.{rules_tree_of, tree_of_rules}
use Rattle.index_tree.proofs.laws.rules_are_the_tree.Goals as goal

pub returns-clause-tree : goal.returns-clause-tree
returns-clause-tree c = λ bytes key slots few rules. rules_tree_of bytes key slots few rules

pub returns-clause-rules : goal.returns-clause-rules
returns-clause-rules c = λ bytes key slots few tree. tree_of_rules bytes key slots few tree
