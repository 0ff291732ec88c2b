use Rattle.afl_base.specs.Files.{bytes_at}
use Rattle.db_model.specs.Cost.{keys_beside}
use Rattle.index_maxheap.proofs.Chained.{behind_paid, chain_last, chain_more}
use Rattle.index_maxheap.proofs.ends.end_behind.Goals as goal

pub returns-then-next-eq0-clause-finds : goal.returns-then-next-eq0-clause-finds
returns-then-next-eq0-clause-finds g c = λ told keys tree lowest unmet.
    let bytes = bytes_at (g.V.Files.state c.args.files.now).files c.args.index in
    chain_last bytes keys c.args.key.now 4 c.args.number c.args.next c.next_place.result tree lowest.place lowest.full lowest.onward c.if-next-eq0.true c.next_place.ensures.place

pub returns-clause-finds : goal.returns-clause-finds
returns-clause-finds g c = λ told keys tree lowest unmet.
    let bytes = bytes_at (g.V.Files.state c.args.files.now).files c.args.index in
    let first = chain_more bytes c.args.key.now 4 c.args.number c.args.next lowest.place lowest.onward c.if-next-eq0.false in
    let start = c.in_ok-start.ensures.chain told keys tree first unmet in
    (rw c.in_ok-start.ensures.frame.same at c.chain_end.ensures.finds) told keys c.args.key.now start.0 tree start.2

pub returns-clause-reads : goal.returns-clause-reads
returns-clause-reads g c = λ told keys tree lowest unmet.
    let bytes = bytes_at (g.V.Files.state c.args.files.now).files c.args.index in
    let first = chain_more bytes c.args.key.now 4 c.args.number c.args.next lowest.place lowest.onward c.if-next-eq0.false in
    let start = c.in_ok-start.ensures.chain told keys tree first unmet in
    behind_paid (g.V.Files.reads c.chain_end.new.files) (g.V.Files.reads c.far_in_chain.new.files) (g.V.Files.reads c.args.files.now) (keys_beside c.args.key.now keys) start.0 start.1
    ((rw c.in_ok-start.ensures.frame.same at c.chain_end.ensures.reads) told keys c.args.key.now start.0 tree start.2) c.in_ok-start.ensures.reads
