-- A line of frames as an input whose bytes come one by one.
use Rattle.std.proofs.Common.{ℕ, ◌<◌, List, length, arith}
use Rattle.std.specs.Prelude.{Result}
use Rattle.run_entries.specs.Taking.{Input}
use Rattle.db_model.specs.declared.commands.Command.{Command}
use Rattle.db_model.specs.declared.refusals.Refusal.{Refusal}
use Rattle.db_model.specs.ReplyText.{text}
use Rattle.db_model.specs.Step.{Reply}
use Rattle.serve.specs.Gathers.{Decoding, GathersPart}
use Rattle.run_frames.specs.Frames.{Frame, frame_cut}
use Rattle.run_frames.specs.Served.{serve_talk}

-- of the part at hand a decoder is kept
abbrev pub frame_input : Input Frame (List ℕ) Decoding
frame_input = record { talk = serve_talk; cut = frame_cut; Keeps = GathersPart }

-- no reply frame is empty
pub frame_some : (read : List ℕ → Result Command Refusal) (frame : Frame) (reply : Reply) → 0 < length ((serve_talk read).sent frame (text reply))
frame_some read frame reply = omega arith
