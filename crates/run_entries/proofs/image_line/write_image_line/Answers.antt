use Rattle.std.proofs.Common.{◌≡◌, List, ℕ, subst}
use Rattle.std.specs.Prelude.{OnErr, OnOk}
use Rattle.std.specs.Io.KnownBytes.{append_known}
use Rattle.reply_text.specs.WroteLess.{WroteLess}
use Rattle.run_entries.proofs.ImageLines.{image_parts}
use Rattle.run_entries.proofs.image_line.write_image_line.Goals as goal

pub returns-clause-written : goal.returns-clause-written
returns-clause-written g c = subst
    (λ (text : List ℕ). OnOk c.write_line_of_counts.result (g.K.Sink.held c.write_line_of_counts.new.out ≡ append_known (g.K.Sink.held c.args.out.now) text))
    (image_parts c.args.rule c.args.place)
    (rw c.from.ensures at rw c.from-2.ensures at c.write_line_of_counts.ensures.written)

pub returns-clause-failed : goal.returns-clause-failed
returns-clause-failed g c = subst
    (λ (text : List ℕ). OnErr c.write_line_of_counts.result (WroteLess (g.K.Sink.held c.args.out.now) (g.K.Sink.held c.write_line_of_counts.new.out) text))
    (image_parts c.args.rule c.args.place)
    (rw c.from.ensures at rw c.from-2.ensures at c.write_line_of_counts.ensures.failed)
