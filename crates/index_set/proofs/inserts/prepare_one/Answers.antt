use Rattle.std.proofs.Common.{ℕ, subst, sym}
use Rattle.index_set.specs.declared.info.Access.{Access}
use Rattle.index_set.specs.Inserts.{AsksFor}
use Rattle.index_set.proofs.inserts.prepare_one.Goals as goal

pub returns-in-Tree-clause-still : goal.returns-in-Tree-clause-still
returns-in-Tree-clause-still g c = λ told never.
    let files = c.args.files.now in
    let asks : Access → ℕ → Type 0 = λ access need. AsksFor (g.V.Files.asks files) (g.V.Files.state files) c.args.key.now need access in
    c.prepare_tree.ensures.still told (λ need asked. never need (subst (λ (a : Access). asks a need) (sym c.in-Tree.is) asked))
