use Rattle.std.proofs.Common.{ap, sym, ◌∙◌, ℕ}
use Rattle.std.specs.Prelude.{nat_le}
use Rattle.db_model.specs.Database.{most_tables}
use Rattle.catalog.proofs.Choices.{and_after}
use Rattle.catalog.proofs.indexes.is_surplus_table.Goals as goal

pub returns-then-is_table : goal.returns-then-is_table
returns-then-is_table c = ap (λ (most : ℕ). nat_le most c.hash_tables.result) c.from.ensures ∙ ap (nat_le most_tables) c.hash_tables.ensures ∙ sym (and_after _ _ c.if-is_table.ensures)
