use Rattle.std.proofs.Common.{rules, w32}
use Rattle.std.specs.Prelude.{FitsSigned}
use Rattle.std.proofs.lemmas.Int.{to_z-of_z}
use Rattle.afl_base.specs.Files.{bytes_at}
use Rattle.index_maxheap.proofs.Chained.{beside_is}
use Rattle.index_maxheap.proofs.ends.is_beside.Goals as goal

pub returns-clause-beside : goal.returns-clause-beside
returns-clause-beside g c = λ told same.
    let bytes = bytes_at (g.V.Files.state c.args.files.now).files c.args.index in
    let fits : FitsSigned w32 c.get_i32-first.result = search rules in
    let node = rw (to_z-of_z w32 c.get_i32-first.result fits) at c.node.ensures.value in
    beside_is bytes c.read.new.into c.args.number c.node.result c.node-2.result c.get_i32-first.result c.args.key.now (rw c.bucket_place.ensures at (c.in_ok-read.ensures.bytes told)) c.get_i32-first.ensures node c.node-2.ensures.value same
