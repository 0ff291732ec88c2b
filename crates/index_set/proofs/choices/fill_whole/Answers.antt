use Rattle.std.proofs.Common.{rules}
use Rattle.index_set.specs.Tables.{entries}
use Rattle.index_set.proofs.Verified.{no_size, no_whole}
use Rattle.index_set.proofs.choices.fill_whole.Goals as goal

pub returns-then-slots-gt-MOST_KEYS-clause-whole : goal.returns-then-slots-gt-MOST_KEYS-clause-whole
returns-then-slots-gt-MOST_KEYS-clause-whole g c = λ told.
    no_whole (entries c.args.tables.now c.args.table) c.len.result c.args.slots (g.V.Files.state c.args.files.now) c.args.column.now c.len.ensures.len c.len.ensures.few (search rules)

pub returns-then-slots-gt-MOST_KEYS-clause-size : goal.returns-then-slots-gt-MOST_KEYS-clause-size
returns-then-slots-gt-MOST_KEYS-clause-size g c = no_size (entries c.args.tables.now c.args.table) c.len.result c.args.slots c.len.ensures.len
