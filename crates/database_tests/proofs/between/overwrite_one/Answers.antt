use Rattle.std.proofs.Common.{arith}
use Rattle.database_tests.proofs.Kept.{overwritten_same}
use Rattle.database_tests.proofs.between.overwrite_one.Goals as goal

pub returns-clause-same : goal.returns-clause-same
returns-clause-same g c =
    let old = g.V.Files.state c.args.files.now in
    let new = g.V.Files.state c.overwrite.new.self in
    let over = rw c.in_ok-read.ensures.frame.same at c.in_ok-overwrite.ensures.overwritten in
    overwritten_same old new c.args.id c.args.at c.read.new.into (omega (arith, c.requires.range)) c.in_ok-read.ensures.bytes over
