-- A runner and its sink as what takes an input.
use Rattle.run_input.specs.Through.{Out}
use Rattle.run_entries.specs.Taking.{Running, running}
use Rattle.run_script.specs.declared.piece.Piece.{Piece}
use Rattle.run_script.specs.declared.running.Runner.{Runner}

abbrev pub seen : {V : Type 0} → Runner V × Out → Running V Piece
seen a = running a.0.session.now a.0.piece a.1.held a.1.faults
