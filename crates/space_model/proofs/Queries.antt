-- Commands that change nothing ask for nothing.
use Rattle.std.proofs.Common.{◌≡◌, refl}
use Rattle.db_model.specs.declared.commands.Command.{Command}
use Rattle.db_model.specs.declared.commands.Command.TheVariants.{Ask, Aggregate, OpenCursor, FetchCursor, CloseCursor}
use Rattle.db_model.specs.Database.{Database}
use Rattle.db_model.specs.Step.{Reads}
use Rattle.space_model.specs.Enough.{most}

pub reads_need_nothing : (db : Database) (c : Command) → Reads c → most db c ≡ 0
reads_need_nothing db (Ask query) r = refl
reads_need_nothing db (Aggregate list relation nodes) r = refl
reads_need_nothing db (OpenCursor number query) r = refl
reads_need_nothing db (FetchCursor number) r = refl
reads_need_nothing db (CloseCursor number) r = refl
reads_need_nothing db _ r = absurd r
