use Rattle.std.proofs.Common.{arith}
use Rattle.afl_base.proofs.CutLaws.{mends_as}
use Rattle.afl_base.proofs.FrameLaws.{becomes_spares}
use Rattle.index_maxheap.proofs.inserting.put_pair.Goals as goal
use Rattle.padded.proofs.Facts.{on_err}

pub returns-in_err-overwrite-clause-cut : goal.returns-in_err-overwrite-clause-cut
returns-in_err-overwrite-clause-cut g c = λ cuts told.
    let old = g.V.Files.state c.args.files.now in
    on_err c.from_residual.result (mends_as (c.in_err-overwrite.ensures.cut cuts told) (λ after front. record {
      others = becomes_spares old after c.args.index _ _ c.requires.live front.is;
      six = c.pair_bytes-bytes.result;
      pair_is = c.pair_bytes-bytes.ensures;
      done = front.done;
      within = omega (arith, front.within, c.pair_bytes-bytes.ensures.long);
      bytes = front.is.bytes told;
    }))
