use Rattle.run_model.specs.Scripts.{script_cut, script_line, script_talk}
use Rattle.run_frames.specs.Frames.{frame_cut, frame_line}
use Rattle.run_frames.specs.Served.{serve_talk}
use Rattle.run_laws.proofs.Places.{one_place_unsaid, script_tells, served_tells}
use Rattle.run_laws.proofs.laws.one_place_is_unsaid.Goals as goal

pub returns-clause-scripts : goal.returns-clause-scripts
returns-clause-scripts c = λ read. one_place_unsaid script_cut script_line c.scripts_come_in_parts.ensures (script_talk read) (script_tells read)

pub returns-clause-served : goal.returns-clause-served
returns-clause-served c = λ read. one_place_unsaid frame_cut frame_line c.frames_come_in_parts.ensures (serve_talk read) (served_tells read)
