use Rattle.run_model.specs.Scripts.{script_line, script_talk}
use Rattle.run_frames.specs.Frames.{frame_line}
use Rattle.run_frames.specs.Served.{serve_talk}
use Rattle.run_laws.proofs.Survived.{restored_after}
use Rattle.run_laws.proofs.laws.interrupted_repairs_restore_what_cuts_left.Goals as goal

pub returns-clause-scripts : goal.returns-clause-scripts
returns-clause-scripts c = λ read is status old new sound sectors size run repairs left image held now before last.
    restored_after script_line (script_talk read) sectors old.world new.world c.interrupted_repairs_lose_nothing.ensures.ended (c.runs_survive_cuts.ensures.scripts read is status old new sound sectors size run) size repairs left image held now before last

pub returns-clause-served : goal.returns-clause-served
returns-clause-served c = λ read is status old new sound sectors size run repairs left image held now before last.
    restored_after frame_line (serve_talk read) sectors old.world new.world c.interrupted_repairs_lose_nothing.ensures.ended (c.runs_survive_cuts.ensures.served read is status old new sound sectors size run) size repairs left image held now before last
