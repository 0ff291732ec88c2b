use Rattle.std.proofs.Common.{rules, ◌≡◌, false, arith}
use Rattle.tuple_file.specs.Tuples.{rows}
use Rattle.cursor.proofs.BlockWalk.{fails_so, unserved}
use Rattle.cursor.proofs.join.JoinCursor.next_by_block.Goals as goal

pub returns-clause-reads_err : goal.returns-clause-reads_err
returns-clause-reads_err g c = λ told.
    let files = (g.V.Files.state c.args.files.now).files in
    let k = c.args.self.now in
    let b = c.args.block.now in
    let off : b.serves ≡ false = search rules in
    let cost = unserved b k (rows files k.left) (rows files k.right) off in
    fails_so c.next.result (c.next.ensures.fails told) (λ fails fits block. let f = fails fits in omega (arith, f.reads, cost))
