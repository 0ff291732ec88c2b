use Rattle.run_model.specs.Scripts.{script_line, script_talk}
use Rattle.run_words.specs.declared.words.Form.TheVariants.{Run, Serve}
use Rattle.run_frames.specs.Frames.{frame_line}
use Rattle.run_frames.specs.Served.{serve_talk}
use Rattle.run_laws.proofs.Survived.{survived}
use Rattle.run_laws.proofs.laws.runs_survive_cuts.Goals as goal

pub returns-clause-scripts : goal.returns-clause-scripts
returns-clause-scripts c = λ read is status old new sound sectors size run.
    survived script_line (script_talk read) sectors c.sound_image_breaks_no_rule.ensures Run status old new sound size (λ done l. l read is) (λ b. b read is) run

pub returns-clause-served : goal.returns-clause-served
returns-clause-served c = λ read is status old new sound sectors size run.
    survived frame_line (serve_talk read) sectors c.sound_image_breaks_no_rule.ensures Serve status old new sound size (λ done l. l read is) (λ b. b read is) run
