use Rattle.run_model.specs.Scripts.{script_line, script_talk}
use Rattle.run_frames.specs.Frames.{frame_line}
use Rattle.run_frames.specs.Served.{serve_talk}
use Rattle.run_laws.proofs.Survived.{restored}
use Rattle.run_laws.proofs.laws.repairs_restore_what_cuts_left.Goals as goal

pub returns-clause-scripts : goal.returns-clause-scripts
returns-clause-scripts c = λ read is status old new sound sectors size run repair image held now repairs cut unsaid.
    restored script_line (script_talk read) sectors old.world new.world c.cut_images_are_repaired.ensures (c.runs_survive_cuts.ensures.scripts read is status old new sound sectors size run) size repair image held now repairs cut unsaid

pub returns-clause-served : goal.returns-clause-served
returns-clause-served c = λ read is status old new sound sectors size run repair image held now repairs cut unsaid.
    restored frame_line (serve_talk read) sectors old.world new.world c.cut_images_are_repaired.ensures (c.runs_survive_cuts.ensures.served read is status old new sound sectors size run) size repair image held now repairs cut unsaid
