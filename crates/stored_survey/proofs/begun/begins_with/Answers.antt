use Rattle.std.proofs.Common.{rules}
use Rattle.afl_base.specs.Files.{bytes_at}
use Rattle.stored_survey.proofs.FirstCatalog.{piece_more}
use Rattle.stored_survey.proofs.begun.begins_with.Goals as goal

pub loop-at-preserved : goal.loop-at-preserved
loop-at-preserved g c = record {
  inside = search rules;
  front = λ told. piece_more (bytes_at (g.V.Files.state c.args.files.now).files c.args.cat) c.args.whole.now c.loop-at.at c.min-count.result (c.loop-at.invariant.front told)
      (((rw c.loop-at.invariant.same at c.in_ok-has_piece.ensures.is) told).0 c.if-not-branch.false);
  same = search rules;
  lent = search rules;
  later = search rules;
  faults = search rules;
}
