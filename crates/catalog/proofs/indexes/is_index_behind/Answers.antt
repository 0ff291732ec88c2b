use Rattle.std.proofs.Common.{ap, sym, ◌∙◌}
use Rattle.std.specs.Prelude.{not}
use Rattle.catalog.proofs.Choices.{and_last, and_left}
use Rattle.catalog.proofs.indexes.is_index_behind.Goals as goal
use Rattle.padded.proofs.Facts.{false_right}

pub returns-then-not-stands_on : goal.returns-then-not-stands_on
returns-then-not-stands_on c = sym (and_left _ _ (and_left _ _ (sym c.if-not-stands_on.ensures)))

pub returns-then-is_doubled : goal.returns-then-is_doubled
returns-then-is_doubled c = sym (and_left _ _ (false_right _ _ (ap not (sym c.if-is_doubled.ensures))))

pub returns : goal.returns
returns c = ap not c.is_surplus_table.ensures ∙ sym (and_last _ _ _ c.if-not-stands_on.ensures c.if-is_doubled.ensures)
