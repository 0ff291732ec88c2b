use Rattle.std.proofs.Common.{◌+◌, ◌-◌, ◌≤◌, Some, None}
use Rattle.padded.proofs.Facts.{on_err}
use Rattle.db_model.specs.Row.{tuple_of}
use Rattle.tuple_file.specs.Tuples.{rows}
use Rattle.cursor.specs.Blocks.{HasMetRights, cost_in_blocks}
use Rattle.cursor.proofs.BlockPairs.{block_pairs, fault_paid, left_fault, left_read, lefts_there, none_paid, rights_there, row_paid, some_paid}
use Rattle.cursor.proofs.join.JoinCursor.pair_in_block.Goals as goal

pub returns-in_err-slot-clause-reads_err : goal.returns-in_err-slot-clause-reads_err
returns-in_err-slot-clause-reads_err g c = λ told.
    let state = g.V.Files.state c.args.files.now in
    let k = c.args.self.now in
    let b = c.args.block.now in
    let lefts = rows state.files k.left in
    let rights = rows state.files k.right in
    let many = lefts_there state k c.requires.may_read in
    let few = rights_there state k c.requires.may_read in
    let r0 = g.V.Files.reads c.args.files.now in
    let r1 = g.V.Files.reads c.partner.new.files in
    let h = c.in_err-slot.ensures in
    let most : HasMetRights b k lefts rights → r1 ≤ r0 + cost_in_blocks b k lefts rights =
    λ read. fault_paid b k lefts rights c.requires.block read c.requires.here c.requires.inside many few r0 r1 (row_paid b k lefts rights c.requires.block read c.requires.here c.requires.inside many few r0 r1 h.unread h.reads) in
    on_err _ most

pub returns-in_err-number_in-in-Some-clause-reads_err : goal.returns-in_err-number_in-in-Some-clause-reads_err
returns-in_err-number_in-in-Some-clause-reads_err g c = λ told.
    let state = g.V.Files.state c.args.files.now in
    let k = c.args.self.now in
    let b = c.args.block.now in
    let lefts = rows state.files k.left in
    let rights = rows state.files k.right in
    let many = lefts_there state k c.requires.may_read in
    let few = rights_there state k c.requires.may_read in
    let r0 = g.V.Files.reads c.args.files.now in
    let r1 = g.V.Files.reads c.partner.new.files in
    let r2 = g.V.Files.reads c.number_in.new.files in
    let most : HasMetRights b k lefts rights → r2 ≤ r0 + cost_in_blocks b k lefts rights =
    λ read.
    let finds = (rw c.in-Some.is at c.in_ok-slot.ensures.finds) told read.met in
    let seen = rw c.in-Some.is at c.in_ok-slot.ensures.seen in
    let below = seen.below in
    let there = (rw c.in-Some.is at c.in_ok-slot.ensures.tuple) told in
    let paid = rw c.in-Some.is at c.in_ok-slot.ensures.reads_some in
    left_fault b k lefts rights c.requires.block read c.requires.here c.requires.inside many few r0 r1 r2 c.in-Some.slot finds below c.partner.new.right there paid c.in_err-number_in-in-Some.ensures.reads in
    on_err _ most

pub returns-in_ok-number_in-in-Some-clause-pairs : goal.returns-in_ok-number_in-in-Some-clause-pairs
returns-in_ok-number_in-in-Some-clause-pairs g c = λ told read.
    let state = g.V.Files.state c.args.files.now in
    let k = c.args.self.now in
    let left = tuple_of k.left.schema.attributes c.number_in.new.row in
    let b = c.args.block.now in
    let lefts = rows state.files k.left in
    let rights = rows state.files k.right in
    let many = lefts_there state k c.requires.may_read in
    let few = rights_there state k c.requires.may_read in
    let r0 = g.V.Files.reads c.args.files.now in
    let r1 = g.V.Files.reads c.partner.new.files in
    let finds = (rw c.in-Some.is at c.in_ok-slot.ensures.finds) told read.met in
    let seen = rw c.in-Some.is at c.in_ok-slot.ensures.seen in
    let below = seen.below in
    let there = (rw c.in-Some.is at c.in_ok-slot.ensures.tuple) told in
    let paid = rw c.in-Some.is at c.in_ok-slot.ensures.reads_some in
    let row = left_read b k lefts rights c.requires.block read c.requires.here c.requires.inside many few c.in-Some.slot finds c.in_ok-number_in-in-Some.field-0 ((rw c.in_ok-slot.ensures.frame.same at c.in_ok-number_in-in-Some.ensures.number) told) left ((rw c.in_ok-slot.ensures.frame.same at c.in_ok-number_in-in-Some.ensures.tuple) told) in
    let pairs = block_pairs b k lefts rights c.requires.block read c.requires.here c.requires.inside many few (Some c.in-Some.slot) left c.partner.new.right finds below there row in
    rw c.get_tuple.ensures.tuple pairs

pub returns-in_ok-number_in-in-Some-clause-read : goal.returns-in_ok-number_in-in-Some-clause-read
returns-in_ok-number_in-in-Some-clause-read g c = λ told read. record {
  holds = rw c.in_ok-slot.ensures.kept read.holds;
  met = c.in_ok-slot.ensures.met told read.met;
}

pub returns-in_ok-number_in-in-Some-clause-reads : goal.returns-in_ok-number_in-in-Some-clause-reads
returns-in_ok-number_in-in-Some-clause-reads g c = λ told read.
    let state = g.V.Files.state c.args.files.now in
    let k = c.args.self.now in
    let left = tuple_of k.left.schema.attributes c.number_in.new.row in
    let b = c.args.block.now in
    let lefts = rows state.files k.left in
    let rights = rows state.files k.right in
    let many = lefts_there state k c.requires.may_read in
    let few = rights_there state k c.requires.may_read in
    let r0 = g.V.Files.reads c.args.files.now in
    let r1 = g.V.Files.reads c.partner.new.files in
    let finds = (rw c.in-Some.is at c.in_ok-slot.ensures.finds) told read.met in
    let seen = rw c.in-Some.is at c.in_ok-slot.ensures.seen in
    let below = seen.below in
    let there = (rw c.in-Some.is at c.in_ok-slot.ensures.tuple) told in
    let paid = rw c.in-Some.is at c.in_ok-slot.ensures.reads_some in
    let row = left_read b k lefts rights c.requires.block read c.requires.here c.requires.inside many few c.in-Some.slot finds c.in_ok-number_in-in-Some.field-0 ((rw c.in_ok-slot.ensures.frame.same at c.in_ok-number_in-in-Some.ensures.number) told) left ((rw c.in_ok-slot.ensures.frame.same at c.in_ok-number_in-in-Some.ensures.tuple) told) in
    let pairs = block_pairs b k lefts rights c.requires.block read c.requires.here c.requires.inside many few (Some c.in-Some.slot) left c.partner.new.right finds below there row in
    some_paid b k lefts rights c.requires.block read c.requires.here c.requires.inside many few r0 r1 (g.V.Files.reads c.number_in.new.files) c.in-Some.slot (left, c.partner.new.right) finds below pairs paid c.in_ok-number_in-in-Some.ensures.reads

pub returns-in-None-clause-pairs : goal.returns-in-None-clause-pairs
returns-in-None-clause-pairs g c = λ told read.
    let state = g.V.Files.state c.args.files.now in
    let k = c.args.self.now in
    let b = c.args.block.now in
    let lefts = rows state.files k.left in
    let rights = rows state.files k.right in
    let many = lefts_there state k c.requires.may_read in
    let few = rights_there state k c.requires.may_read in
    let r0 = g.V.Files.reads c.args.files.now in
    let r1 = g.V.Files.reads c.partner.new.files in
    block_pairs b k lefts rights c.requires.block read c.requires.here c.requires.inside many few None c.args.left.now c.partner.new.right ((rw c.in-None.is at c.in_ok-slot.ensures.finds) told read.met) tt tt tt

pub returns-in-None-clause-read : goal.returns-in-None-clause-read
returns-in-None-clause-read g c = λ told read. record {
  holds = rw c.in_ok-slot.ensures.kept read.holds;
  met = c.in_ok-slot.ensures.met told read.met;
}

pub returns-in-None-clause-reads : goal.returns-in-None-clause-reads
returns-in-None-clause-reads g c = λ told read.
    let state = g.V.Files.state c.args.files.now in
    let k = c.args.self.now in
    let b = c.args.block.now in
    let lefts = rows state.files k.left in
    let rights = rows state.files k.right in
    let many = lefts_there state k c.requires.may_read in
    let few = rights_there state k c.requires.may_read in
    let r0 = g.V.Files.reads c.args.files.now in
    let r1 = g.V.Files.reads c.partner.new.files in
    let h = c.in_ok-slot.ensures in
    let same = block_pairs b k lefts rights c.requires.block read c.requires.here c.requires.inside many few None c.args.left.now c.partner.new.right ((rw c.in-None.is at h.finds) told read.met) tt tt tt in
    none_paid b k lefts rights c.requires.block read c.requires.here c.requires.inside many few r0 r1 same (row_paid b k lefts rights c.requires.block read c.requires.here c.requires.inside many few r0 r1 h.unread h.reads)
