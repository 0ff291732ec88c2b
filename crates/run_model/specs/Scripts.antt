-- Scripts: how their bytes are cut into entries, and how these are answered.
use Rattle.std.specs.Prelude.{ℕ, Bool, false, List, [], Result, Err}
use Rattle.db_model.specs.declared.commands.Command.{Command}
use Rattle.db_model.specs.declared.refusals.Refusal.{Refusal}
use Rattle.db_model.specs.declared.refusals.Refusal.TheVariants as no
use Rattle.db_model.specs.Script.{Entry, Long, Unfinished, Bytes, commands, past_white, unended, whole}
use Rattle.run_model.specs.Line.{Cut, Line}
use Rattle.db_model.specs.Pieces.{ended_by, piece_behind, quoted_behind}
use Rattle.run_model.specs.Talk.{Talk}

-- `read` reads the bytes of a command, or says why they are none (see `Reading` of db_model)
abbrev pub heard_in : (List ℕ → Result Command Refusal) → Entry → Result Command Refusal
heard_in read Long = Err no.Long
heard_in read Unfinished = Err no.Unfinished
heard_in read (Bytes bytes) = read bytes

-- a reply is its text
abbrev pub script_talk : (List ℕ → Result Command Refusal) → Talk Entry
script_talk read = record { heard = heard_in read; sent = λ entry text. text }

abbrev pub script_line : Line Entry
script_line = record { all = commands; whole = whole }

-- whether the piece at hand stands in quotes, and its bytes so far
abbrev pub script_cut : Cut Entry (Bool × List ℕ)
script_cut = record {
  start = (false, []);
  begun = λ q bytes. (quoted_behind q.0 bytes, piece_behind q.0 q.1 bytes);
  ended = λ q bytes. ended_by q.0 q.1 bytes;
  left = λ q. unended (past_white q.1);
}
