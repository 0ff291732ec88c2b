use Rattle.std.proofs.Common.{rules}
use Rattle.afl_base.specs.Files.{bytes_at, size_at}
use Rattle.index_tree.proofs.Inserted.{on_ok}
use Rattle.afl_base.proofs.CutLaws.{mends_as}
use Rattle.index_maxheap.proofs.CutInserts.{bucket_cut, on_error, pair_cut}
use Rattle.index_maxheap.proofs.Grows.{grown_bucket, grown_pair, keeps_itself, tree_grown}
use Rattle.index_maxheap.proofs.Told.{room_told}
use Rattle.index_maxheap.proofs.inserting.insert.Goals as goal

pub returns-in-Pair-clause-grown : goal.returns-in-Pair-clause-grown
returns-in-Pair-clause-grown g c = λ told keys tree many is.
    let old = g.V.Files.state c.args.files.now in
    let new = g.V.Files.state c.put_pair.new.files in
    let id = c.args.index in
    let key = c.args.key.now in
    let found = rw c.in-Pair.is at (room_told c.args.room.now (bytes_at old.files id) keys key tree is) in
    on_ok c.put_pair.result (λ puts. tree_grown (bytes_at old.files id) (bytes_at new.files id) keys key c.args.slot many (grown_pair old new id c.in-Pair.at c.args.slot keys key told tree many (search rules) found puts)) c.put_pair.ensures.put

pub returns-in-Pair-clause-keeps : goal.returns-in-Pair-clause-keeps
returns-in-Pair-clause-keeps g c = λ told keys tree many is.
    let old = g.V.Files.state c.args.files.now in
    let new = g.V.Files.state c.put_pair.new.files in
    let id = c.args.index in
    let key = c.args.key.now in
    let found = rw c.in-Pair.is at (room_told c.args.room.now (bytes_at old.files id) keys key tree is) in
    on_ok c.put_pair.result (λ puts. (grown_pair old new id c.in-Pair.at c.args.slot keys key told tree many (search rules) found puts).keeps) c.put_pair.ensures.put

pub returns-in-Bucket-clause-grown : goal.returns-in-Bucket-clause-grown
returns-in-Bucket-clause-grown g c = λ told keys tree many is.
    let old = g.V.Files.state c.args.files.now in
    let new = g.V.Files.state c.put_bucket.new.files in
    let id = c.args.index in
    let key = c.args.key.now in
    let found = rw c.in-Bucket.is at (room_told c.args.room.now (bytes_at old.files id) keys key tree is) in
    let within = rw c.in-Bucket.is at c.requires.room.place.within in
    on_ok c.put_bucket.result (λ puts. tree_grown (bytes_at old.files id) (bytes_at new.files id) keys key c.args.slot many (grown_bucket old new id c.in-Bucket.at c.args.slot keys key told tree many (search rules) within.0 found puts)) c.put_bucket.ensures.put

pub returns-in-Bucket-clause-keeps : goal.returns-in-Bucket-clause-keeps
returns-in-Bucket-clause-keeps g c = λ told keys tree many is.
    let old = g.V.Files.state c.args.files.now in
    let new = g.V.Files.state c.put_bucket.new.files in
    let id = c.args.index in
    let key = c.args.key.now in
    let found = rw c.in-Bucket.is at (room_told c.args.room.now (bytes_at old.files id) keys key tree is) in
    let within = rw c.in-Bucket.is at c.requires.room.place.within in
    on_ok c.put_bucket.result (λ puts. (grown_bucket old new id c.in-Bucket.at c.args.slot keys key told tree many (search rules) within.0 found puts).keeps) c.put_bucket.ensures.put

pub returns-in-Nowhere-clause-grown : goal.returns-in-Nowhere-clause-grown
returns-in-Nowhere-clause-grown g c = λ told keys tree many is.
    let old = g.V.Files.state c.args.files.now in
    absurd (rw c.in-Nowhere.is at (room_told c.args.room.now (bytes_at old.files c.args.index) keys c.args.key.now tree is))

pub returns-in-Nowhere-clause-only : goal.returns-in-Nowhere-clause-only
returns-in-Nowhere-clause-only g c =
    let old = g.V.Files.state c.args.files.now in
    (size_at old.files c.args.index, bytes_at old.files c.args.index, keeps_itself old c.args.index c.requires.live)

pub returns-in-Pair-clause-cut : goal.returns-in-Pair-clause-cut
returns-in-Pair-clause-cut g c = λ cuts told.
    let old = g.V.Files.state c.args.files.now in
    on_error c.put_pair.result (λ m. mends_as m (λ after part. pair_cut old after c.args.index c.args.slot c.args.room.now c.args.key.now (search rules) c.in-Pair.at c.in-Pair.is part)) (c.put_pair.ensures.cut cuts told)

pub returns-in-Bucket-clause-cut : goal.returns-in-Bucket-clause-cut
returns-in-Bucket-clause-cut g c = λ cuts told.
    let old = g.V.Files.state c.args.files.now in
    let within = rw c.in-Bucket.is at c.requires.room.place.within in
    on_error c.put_bucket.result (λ m. mends_as m (λ after part. bucket_cut old after c.args.index c.args.slot c.args.room.now c.args.key.now (search rules) c.in-Bucket.at c.in-Bucket.is within.0 part)) (c.put_bucket.ensures.cut cuts told)
