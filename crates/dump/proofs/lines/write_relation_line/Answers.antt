use Rattle.dump.proofs.LineTexts.{relation_line}
use Rattle.dump.proofs.lines.write_relation_line.Goals as goal

pub returns-clause-written : goal.returns-clause-written
returns-clause-written g c = rw (relation_line c.args.relation.now, ← c.bytes.ensures.value) c.write_three.ensures.written

pub returns-clause-failed : goal.returns-clause-failed
returns-clause-failed g c = rw (relation_line c.args.relation.now, ← c.bytes.ensures.value) c.write_three.ensures.failed
