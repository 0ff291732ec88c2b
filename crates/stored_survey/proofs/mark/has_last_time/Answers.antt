use Rattle.std.proofs.Common.{sym, ◌∙◌}
use Rattle.stored_survey.proofs.Marks.{last_time, time_of}
use Rattle.stored_survey.proofs.mark.has_last_time.Goals as goal

pub returns-then-is_time : goal.returns-then-is_time
returns-then-is_time c =
    last_time c.args.schema.now c.in-Some.front.now c.in-Some.last.now c.has_a_time.result (sym c.as_slice-attributes.ensures.items ∙ c.in-Some.ensures.cases.0)
    (time_of c.in-Some.last.now.domain (sym c.is_time.ensures ∙ c.if-is_time.true)) c.has_a_time.ensures
