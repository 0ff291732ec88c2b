-- A session that was only read.
use Rattle.std.specs.Prelude.{◌≡◌, false}
use Rattle.afl_base.specs.Files.{State}
use Rattle.antelope_engine.specs.Seen.{Seen}

-- it goes on, with the same files, database and cursors
pub record IsAsBefore {V : Type 0} (state : V → State) (old new : Seen V) : Type 0 where
  pub files : state new.files ≡ state old.files
  pub database : new.database ≡ old.database
  pub aheads : new.aheads ≡ old.aheads
  pub running : new.stopped ≡ false
  pub kept : old.lost ≡ false → new.lost ≡ false
