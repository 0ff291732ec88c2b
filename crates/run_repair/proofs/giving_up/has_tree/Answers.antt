use Rattle.std.proofs.Common.{◌≡◌, ℕ, ◌+◌, ◌*◌, arith, subst}
use Rattle.std.specs.Prelude.{slice_range}
use Rattle.afl_base.specs.Files.{bytes_at}
use Rattle.run_repair.proofs.LostTrees.{tree_read}
use Rattle.run_repair.proofs.giving_up.has_tree.Goals as goal

pub returns-clause-has : goal.returns-clause-has
returns-clause-has g c = λ told.
    let files = (g.V.Files.state c.args.files.now).files in
    let slot : c.from.result ≡ c.args.slot = omega (arith, c.from.ensures) in
    tree_read files c.in-Some.cat c.args.slot c.read.new.into c.in-Some.ensures.found
    (subst (λ (n : ℕ). c.read.new.into ≡ slice_range (bytes_at files c.in-Some.cat) (1408 + 8 * n) (1408 + 8 * n + 8)) slot (c.in_ok-read.ensures.bytes told))
