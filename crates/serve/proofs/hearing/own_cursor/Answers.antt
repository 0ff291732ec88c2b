use Rattle.std.proofs.Common.{ap, ◌∙◌}
use Rattle.db_model.specs.declared.commands.Command.TheVariants.{OpenCursor, FetchCursor, CloseCursor}
use Rattle.run_frames.specs.Served.{own_cursor}
use Rattle.serve.proofs.hearing.own_cursor.Goals as goal

pub returns-in-OpenCursor-clause-own : goal.returns-in-OpenCursor-clause-own
returns-in-OpenCursor-clause-own c = ap (own_cursor c.args.client) c.in-OpenCursor.is ∙ c.own.ensures (λ n. OpenCursor n c.in-OpenCursor.query)

pub returns-in-FetchCursor-clause-own : goal.returns-in-FetchCursor-clause-own
returns-in-FetchCursor-clause-own c = ap (own_cursor c.args.client) c.in-FetchCursor.is ∙ c.own-in-FetchCursor.ensures FetchCursor

pub returns-in-CloseCursor-clause-own : goal.returns-in-CloseCursor-clause-own
returns-in-CloseCursor-clause-own c = ap (own_cursor c.args.client) c.in-CloseCursor.is ∙ c.own-in-CloseCursor.ensures CloseCursor
