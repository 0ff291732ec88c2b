use Rattle.std.proofs.Common.{arith, ◌≡◌, ◌+◌, ◌∷◌, [], length}
use Rattle.std.specs.Prelude.{replicate}
use Rattle.afl_base.specs.Fields.{put_at, u16_at, u16_bytes}
use Rattle.afl_base.specs.Files.{draft_in}
use Rattle.afl_base.proofs.FieldLaws.{length-put_at, u16_at-put_at}
use Rattle.index_tree.specs.TreeFile.{bucket_place}
use Rattle.index_maxheap.proofs.Built.{drafts_then, zeros_again}
use Rattle.index_maxheap.proofs.building.write_bucket.Goals as goal
use Rattle.afl_base.proofs.Bits.{length_u16_bytes}

pub draft_write-requires-2-clause-zeros : goal.draft_write-requires-2-clause-zeros
draft_write-requires-2-clause-zeros g c = λ told.
    let old = g.V.Files.state c.args.files.now in
    let mid = g.V.Files.state c.draft_write.new.self in
    let first = rw c.bucket_place.ensures at c.in_ok-draft_write.ensures.written in
    let was = rw first.tells at told in
    let long : length c.put_u16.new.bytes ≡ 2 = rw c.put_u16.ensures (length-put_at (replicate 2 0) (u16_bytes (c.args.opened + 1)) 0 (omega (arith, length_u16_bytes (c.args.opened + 1)))) in
    zeros_again (draft_in old).bytes (draft_in mid).bytes (1 ∷ []) c.args.at (bucket_place c.args.opened + 194) (length c.put_u16.new.bytes) (first.bytes was) (omega (arith, c.requires.range)) (omega (arith, c.requires.fits)) (c.requires.zeros was) long

pub returns-clause-written : goal.returns-clause-written
returns-clause-written g c =
    let old = g.V.Files.state c.args.files.now in
    let mid = g.V.Files.state c.draft_write.new.self in
    let new = g.V.Files.state c.draft_write-2.new.self in
    let two = c.put_u16.new.bytes in
    let first = rw c.bucket_place.ensures at c.in_ok-draft_write.ensures.written in
    let long : length two ≡ 2 = rw c.put_u16.ensures (length-put_at (replicate 2 0) (u16_bytes (c.args.opened + 1)) 0 (omega (arith, length_u16_bytes (c.args.opened + 1)))) in
    let is : u16_at two 0 ≡ c.args.opened + 1 = rw c.put_u16.ensures (u16_at-put_at (replicate 2 0) 0 (c.args.opened + 1) (omega arith) (omega (arith, c.requires.few))) in
    (two, long, is, drafts_then old mid new (draft_in old).name (length (draft_in old).bytes) c.args.at (put_at (draft_in old).bytes (bucket_place c.args.opened + 194) (1 ∷ [])) two first c.in_ok-draft_write-2.ensures.written)
