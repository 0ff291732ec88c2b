use Rattle.std.proofs.Common.{arith, ◌≡◌, ◌≢◌, ◌+◌, ◌-◌, ◌/◌, ◌++◌, ◌∙◌, ap, inl, inr, length, take}
use Rattle.std.specs.Prelude.{replicate}
use Rattle.afl_base.specs.Fields.{put_at, u16_at, u16_bytes}
use Rattle.afl_base.specs.Files.{bytes_at, size_at}
use Rattle.afl_base.proofs.CutLaws.{mends_as}
use Rattle.afl_base.proofs.FileLaws.{becomes_then}
use Rattle.afl_base.proofs.FieldLaws.{length-put_at, u16_at-put_at}
use Rattle.afl_base.proofs.FrameLaws.{becomes_as, becomes_spares, spares_then}
use Rattle.index_maxheap.proofs.inserting.put_bucket.Goals as goal
use Rattle.afl_base.proofs.Bits.{length_u16_bytes}
use Rattle.padded.proofs.Facts.{on_err}

pub returns-clause-put : goal.returns-clause-put
returns-clause-put g c =
    let old = g.V.Files.state c.args.files.now in
    let mid = g.V.Files.state c.append.new.self in
    let new = g.V.Files.state c.overwrite.new.self in
    let id = c.args.index in
    let first = c.in_ok-append.ensures.appended in
    let w = c.first_bucket-bucket.result in
    let two = c.put_u16.new.bytes in
    let size = c.size.ensures in
    let number = (c.size.result - 683) / 195 + 1 in
    let long : length two ≡ 2 = rw c.put_u16.ensures (length-put_at (replicate 2 0) (u16_bytes number) 0 (omega (arith, length_u16_bytes number))) in
    let is : u16_at two 0 ≡ number = rw c.put_u16.ensures (u16_at-put_at (replicate 2 0) 0 number (omega arith) (omega (arith, c.requires.small, size))) in
    let both = becomes_then old mid new id (size_at old.files id + length w) (size_at mid.files id) (bytes_at old.files id ++ w) (put_at (bytes_at mid.files id) c.args.at two) first c.in_ok-overwrite.ensures.overwritten in (
      w,
      two,
      c.first_bucket-bucket.ensures,
      long,
      rw size at is,
      becomes_as old new id (size_at mid.files id) (size_at old.files id + 195) (put_at (bytes_at mid.files id) c.args.at two) (put_at (bytes_at old.files id ++ w) c.args.at two) both (first.size ∙ ap (λ n. size_at old.files id + n) c.first_bucket-bucket.ensures.long) (λ told. ap (λ xs. put_at xs c.args.at two) (first.bytes told)),
    )

pub returns-in_err-append-clause-cut : goal.returns-in_err-append-clause-cut
returns-in_err-append-clause-cut g c = λ cuts told.
    let old = g.V.Files.state c.args.files.now in
    let id = c.args.index in
    let number = (size_at old.files id - 683) / 195 + 1 in
    let two = put_at (replicate 2 0) 0 (u16_bytes number) in
    on_err c.from_residual.result (mends_as (c.in_err-append.ensures.cut cuts told) (λ after front. record {
      others = becomes_spares old after id _ _ c.requires.live front.is;
      bucket = c.first_bucket-bucket.result;
      two = two;
      first = c.first_bucket-bucket.ensures;
      long = length-put_at (replicate 2 0) (u16_bytes number) 0 (omega (arith, length_u16_bytes number));
      number = u16_at-put_at (replicate 2 0) 0 number (omega arith) (omega (arith, c.requires.small));
      done = front.done;
      bytes = inl (omega (arith, front.within, c.first_bucket-bucket.ensures.long), front.is.bytes told);
    }))

pub returns-in_err-overwrite-clause-cut : goal.returns-in_err-overwrite-clause-cut
returns-in_err-overwrite-clause-cut g c = λ cuts told.
    let old = g.V.Files.state c.args.files.now in
    let mid = g.V.Files.state c.append.new.self in
    let id = c.args.index in
    let put = c.in_ok-append.ensures.appended in
    let two = c.put_u16.new.bytes in
    let size = c.size.ensures in
    let number = (c.size.result - 683) / 195 + 1 in
    let long : length two ≡ 2 = rw c.put_u16.ensures (length-put_at (replicate 2 0) (u16_bytes number) 0 (omega (arith, length_u16_bytes number))) in
    let is : u16_at two 0 ≡ number = rw c.put_u16.ensures (u16_at-put_at (replicate 2 0) 0 number (omega arith) (omega (arith, c.requires.small, size))) in
    on_err c.from_residual-in_err-overwrite.result (mends_as (c.in_err-overwrite.ensures.cut cuts (put.tells ∙ told)) (λ after front. record {
      others = spares_then old mid after (λ k. k ≢ id) (λ k. k ≢ id) (λ k. k ≢ id) (becomes_spares old mid id _ _ c.requires.live put) (becomes_spares mid after id _ _ put.live front.is) (λ k other. (other, other));
      bucket = c.first_bucket-bucket.result;
      two = two;
      first = c.first_bucket-bucket.ensures;
      long = long;
      number = rw size at is;
      done = front.done;
      bytes = inr (omega (arith, front.within, long), front.is.bytes (put.tells ∙ told) ∙ ap (λ xs. put_at xs c.args.at (take front.done two)) (put.bytes told));
    }))
