use Rattle.std.proofs.Common.{◌≡◌, ℕ, ℤ, List, refl}
use Rattle.db_model.specs.declared.commands.Agg.{Agg}
use Rattle.db_model.specs.declared.commands.Command.{Command}
use Rattle.db_model.specs.declared.commands.Command.TheVariants.{Ask, Aggregate, FetchCursor}
use Rattle.db_model.specs.declared.commands.Node.{Node}
use Rattle.db_model.specs.declared.commands.Query.{Query}
use Rattle.antelope_engine.specs.Writes.{WritesRows}
use Rattle.antelope_engine.proofs.writing.write.Goals as goal

-- no other command writes rows
none_left : (c : Command) → WritesRows c → ((query : Query) → c ≡ Ask query → ⊥)
    → ((list : List (Agg × List ℕ)) (relation : List ℕ) (nodes : List Node) → c ≡ Aggregate list relation nodes → ⊥)
    → ((number : ℤ) → c ≡ FetchCursor number → ⊥) → ⊥
none_left (Ask query) w a b d = a query refl
none_left (Aggregate list relation nodes) w a b d = b list relation nodes refl
none_left (FetchCursor number) w a b d = d number refl
none_left _ w a b d = w

pub returns-in-Ask : goal.returns-in-Ask
returns-in-Ask g c = record { written = rw c.in-Ask.is c.ask.ensures.written }

pub returns-in-Aggregate : goal.returns-in-Aggregate
returns-in-Aggregate g c = record { written = rw c.in-Aggregate.is c.aggregate.ensures.written }

pub returns-in-FetchCursor : goal.returns-in-FetchCursor
returns-in-FetchCursor g c = record { written = rw c.in-FetchCursor.is c.fetch_cursor.ensures.written }

pub unreachable-requires : goal.unreachable-requires
unreachable-requires g c = absurd (none_left c.args.command.now c.requires.rows c.in_default.not-Ask c.in_default.not-Aggregate c.in_default.not-FetchCursor)
