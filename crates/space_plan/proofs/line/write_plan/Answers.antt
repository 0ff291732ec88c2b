use Rattle.std.proofs.Common.{◌≡◌, List, ℕ, subst}
use Rattle.std.specs.Prelude.{OnErr, OnOk}
use Rattle.std.specs.Io.KnownBytes.{append_known}
use Rattle.reply_text.specs.WroteLess.{WroteLess}
use Rattle.space_plan.proofs.Lines.{plan_parts}
use Rattle.space_plan.proofs.line.write_plan.Goals as goal

pub returns-clause-written : goal.returns-clause-written
returns-clause-written g c = subst
    (λ (text : List ℕ). OnOk c.write_line_of_counts.result (g.K.Sink.held c.write_line_of_counts.new.out ≡ append_known (g.K.Sink.held c.args.out.now) text))
    (plan_parts c.args.needed c.args.present)
    (rw c.from.ensures at rw c.from-2.ensures at c.write_line_of_counts.ensures.written)

pub returns-clause-failed : goal.returns-clause-failed
returns-clause-failed g c = subst
    (λ (text : List ℕ). OnErr c.write_line_of_counts.result (WroteLess (g.K.Sink.held c.args.out.now) (g.K.Sink.held c.write_line_of_counts.new.out) text))
    (plan_parts c.args.needed c.args.present)
    (rw c.from.ensures at rw c.from-2.ensures at c.write_line_of_counts.ensures.failed)
