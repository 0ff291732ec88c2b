-- A server and its sink as what takes an input.
use Rattle.run_input.specs.Through.{Out}
use Rattle.run_entries.specs.Taking.{Running, running}
use Rattle.serve.specs.Gathers.{Decoding}
use Rattle.serve.specs.declared.serving.Server.{Server}

abbrev pub seen : {V : Type 0} → Server V × Out → Running V Decoding
seen a = running a.0.session.now a.0.decoder a.1.held a.1.faults
