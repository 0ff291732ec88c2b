-- What a sink holds once a text was written to it, or not to its end.
use Rattle.std.specs.Prelude.{◌≡◌, ⊤, ℕ, List, Option, Result, Ok, Err}
use Rattle.std.specs.Io.KnownBytes.{append_known}
use Rattle.reply_text.specs.WroteLess.{WroteLess}
use Rattle.afl_base.specs.declared.fault.Fault.{Fault}
use Rattle.afl_base.specs.declared.fault.Fault.TheVariants.{Flash, Sink}
use Rattle.session_model.specs.Steps.{WrotePart}

-- all of it; a proper prefix where the sink failed; a prefix where the files did
abbrev pub AppendsText : Result ⊤ Fault → Option (List ℕ) → Option (List ℕ) → List ℕ → Type 0
AppendsText (Ok done) old new all = new ≡ append_known old all
AppendsText (Err Sink) old new all = WroteLess old new all
AppendsText (Err Flash) old new all = WrotePart old new all
