-- What is ahead of the cursors stays, unless a command opens, fetches or closes one.
use Rattle.std.proofs.Common.{◌≡◌}
use Rattle.db_model.specs.declared.commands.Command.{Command}
use Rattle.db_model.specs.declared.commands.Command.TheVariants.{Ask, Aggregate, OpenCursor, FetchCursor, CloseCursor}
use Rattle.db_model.specs.Ahead.{Aheads, aheads_after, is_refused}
use Rattle.db_model.specs.Database.{Database}
use Rattle.db_model.specs.Step.{Reads, step}
use Rattle.padded.proofs.Facts.{either_way}

pub stay : (db : Database) (aheads : Aheads) (c : Command) → (Reads c → ⊥) → aheads_after db aheads c ≡ aheads
stay db aheads (Ask query) h = absurd (h tt)
stay db aheads (Aggregate list relation nodes) h = absurd (h tt)
stay db aheads (OpenCursor number query) h = absurd (h tt)
stay db aheads (FetchCursor number) h = absurd (h tt)
stay db aheads (CloseCursor number) h = absurd (h tt)
stay db aheads c h = either_way (is_refused ((step db c).1)) aheads
