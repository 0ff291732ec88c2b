use Rattle.stored.proofs.Crowded.{unbroken_table}
use Rattle.stored.proofs.sound_files_break_no_rule.Goals as goal

pub returns : goal.returns
returns c = unbroken_table
