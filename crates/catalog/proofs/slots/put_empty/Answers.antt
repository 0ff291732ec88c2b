use Rattle.catalog.proofs.Changes.{empty_put}
use Rattle.catalog.proofs.slots.put_empty.Goals as goal

pub returns : goal.returns
returns c = empty_put c.args.bytes.now _ _ _ c.unused_slot-relation.result c.unused_slot-index.result c.requires c.unused_slot-relation.ensures c.unused_slot-index.ensures c.put_copies.ensures c.put_copies-2.ensures c.put_bytes.ensures
