use Rattle.stored_mend.proofs.lines.write_mended.Goals as goal

pub returns-in-Relation-clause-written : goal.returns-in-Relation-clause-written
returns-in-Relation-clause-written g c = rw c.in-Relation.is (rw (c.from.ensures, c.number.ensures.value) at c.write_slot.ensures.written)

pub returns-in-Attribute-clause-written : goal.returns-in-Attribute-clause-written
returns-in-Attribute-clause-written g c = rw c.in-Attribute.is (rw c.bytes.ensures.value at c.write_name.ensures.written)

pub returns-in-Tree-clause-written : goal.returns-in-Tree-clause-written
returns-in-Tree-clause-written g c = rw c.in-Tree.is (rw (c.bytes-in-Tree.ensures.value, c.bytes-in-Tree-2.ensures.value) at c.write_index.ensures.written)

pub returns-in-Tree-clause-failed : goal.returns-in-Tree-clause-failed
returns-in-Tree-clause-failed g c = rw c.in-Tree.is (rw (c.bytes-in-Tree.ensures.value, c.bytes-in-Tree-2.ensures.value) at c.write_index.ensures.failed)

pub returns-in-Stray-clause-written : goal.returns-in-Stray-clause-written
returns-in-Stray-clause-written g c = rw c.in-Stray.is (rw (c.from-in-Stray.ensures, c.number-in-Stray.ensures.value) at c.write_slot-in-Stray.ensures.written)
