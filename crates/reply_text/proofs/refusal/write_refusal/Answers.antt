use Rattle.db_model.specs.ReplyText.{refusal_text}
use Rattle.reply_text.proofs.refusal.write_refusal.Goals as goal

pub returns-in-NoAttribute-clause-written : goal.returns-in-NoAttribute-clause-written
unfolding refusal_text
returns-in-NoAttribute-clause-written g c = rw (c.in-NoAttribute.is, ← c.from-in-NoAttribute.ensures) c.write_line_with-in-NoAttribute.ensures.written

pub returns-in-NotOrdered-clause-written : goal.returns-in-NotOrdered-clause-written
unfolding refusal_text
returns-in-NotOrdered-clause-written g c = rw c.in-NotOrdered.is c.write_line_with_signed.ensures.written
