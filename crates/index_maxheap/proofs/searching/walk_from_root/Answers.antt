use Rattle.std.proofs.Common.{arith}
use Rattle.afl_base.specs.Files.{bytes_at}
use Rattle.db_model.specs.Cost.{keys_beside}
use Rattle.index_maxheap.proofs.Roots.{root_paid, root_start, roots_found}
use Rattle.index_maxheap.proofs.searching.walk_from_root.Goals as goal

pub returns-clause-next : goal.returns-clause-next
returns-clause-next g c = λ told keys tree.
    let bytes = bytes_at (g.V.Files.state c.args.files.now).files c.args.index in
    let start = root_start bytes keys c.args.key.now c.args.from c.in_ok-bucket.bucket tree (c.in_ok-bucket.ensures.number told) in
    (rw c.in_ok-bucket.ensures.frame.same at c.walk.ensures.next) told keys tree start

pub returns-clause-reads : goal.returns-clause-reads
returns-clause-reads g c = λ told keys tree.
    let bytes = bytes_at (g.V.Files.state c.args.files.now).files c.args.index in
    let start = root_start bytes keys c.args.key.now c.args.from c.in_ok-bucket.bucket tree (c.in_ok-bucket.ensures.number told) in
    (root_paid (g.V.Files.reads c.walk.new.files) (g.V.Files.reads c.read_number.new.files) (g.V.Files.reads c.args.files.now) (keys_beside c.args.key.now keys) c.in_ok-bucket.bucket
    ((rw c.in_ok-bucket.ensures.frame.same at c.walk.ensures.reads) told keys tree start) (omega (arith, c.in_ok-bucket.ensures.reads)))

pub returns-clause-reads_found : goal.returns-clause-reads_found
returns-clause-reads_found g c = λ told keys tree.
    let bytes = bytes_at (g.V.Files.state c.args.files.now).files c.args.index in
    let start = root_start bytes keys c.args.key.now c.args.from c.in_ok-bucket.bucket tree (c.in_ok-bucket.ensures.number told) in
    (roots_found c.walk.result (g.V.Files.reads c.walk.new.files) (g.V.Files.reads c.read_number.new.files) (g.V.Files.reads c.args.files.now) (keys_beside c.args.key.now keys) c.in_ok-bucket.bucket
    ((rw c.in_ok-bucket.ensures.frame.same at c.walk.ensures.reads_found) told keys tree start) (omega (arith, c.in_ok-bucket.ensures.reads)))
