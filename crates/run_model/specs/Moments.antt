-- A moment before or after a run: what there is, how many faults were counted, and how many pages were read so far.
use Rattle.std.specs.Prelude.{ℕ}
use Rattle.afl_base.specs.declared.flash.Flash.{Ghosts as FlashOf}
use Rattle.afl_base.specs.declared.stream.Sink.{Ghosts as SinkOf}
use Rattle.afl_base.specs.declared.stream.Source.{Ghosts as SourceOf}
use Rattle.run_model.specs.Runs.{World, world}

-- how many faults the input, the flash and the sink have counted
pub record Counts : Type 0 where
  pub input : ℕ
  pub flash : ℕ
  pub sink : ℕ

abbrev pub counts_of : {F S K : Type 0} → FlashOf F → SourceOf S → SinkOf K → F → S → K → Counts
counts_of f s k flash input out = record { input = s.faults input; flash = f.faults flash; sink = k.faults out }

pub record Moment : Type 0 where
  pub world : World
  pub counts : Counts
  pub reads : ℕ

abbrev pub moment : {F S K : Type 0} → FlashOf F → SourceOf S → SinkOf K → F → S → K → Moment
moment f s k flash input out = record {
  world = world (f.image flash) (s.left input) (k.held out);
  counts = counts_of f s k flash input out;
  reads = f.reads flash;
}
