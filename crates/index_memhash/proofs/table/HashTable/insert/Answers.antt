use Rattle.std.proofs.Common.{rules, ◌<◌}
use Rattle.std.specs.Prelude.{FitsSigned}
use Rattle.std.specs.Int.{w32}
use Rattle.std.proofs.lemmas.Int.{to_z-of_z}
use Rattle.index_memhash.proofs.Links.{table_more}
use Rattle.index_memhash.proofs.table.HashTable.insert.Goals as goal

pub invariant_of-self : goal.invariant_of-self
invariant_of-self c =
    let chain = c.chain_of-chain.ensures.hash in
    let fits : FitsSigned w32 c.args.key.now = search rules in
    let room : c.self.inside.len < 2048 = search rules in
    rw (to_z-of_z w32 c.args.key.now fits, c.from-entry.ensures, c.from-2.ensures, c.end_link-end.ensures, c.from-3.ensures, c.from.ensures, chain)
    (table_more c.self.inside.keys c.self.inside.links c.self.inside.last c.self.inside.len c.args.key.now room c.self.invariant)
