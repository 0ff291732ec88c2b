use Rattle.std.proofs.Common.{◌≡◌, take}
use Rattle.std.specs.Io.KnownBytes.{append_known}
use Rattle.db_model.specs.ReplyText.{value_text}
use Rattle.reply_text.specs.Projected.{value_at}
use Rattle.reply_text.proofs.Pieces.{joined}
use Rattle.reply_text.proofs.rows.write_projected.Given as goal

abbrev pub invariant-loop-at : goal.invariant-loop-at
invariant-loop-at g l = record {
  held : g.K.Sink.held l.out ≡ append_known (g.K.Sink.held l.fn.out) (joined (λ place. value_text (value_at l.tuple place)) (take l.at l.places));
  lent : g.K.Sink.lent l.out ≡ g.K.Sink.lent l.fn.out;
  faults : g.K.Sink.faults l.out ≡ g.K.Sink.faults l.fn.out;
}
