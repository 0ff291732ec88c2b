use Rattle.std.proofs.Common.{sym, ◌∙◌, arith}
use Rattle.coffee_cuts.proofs.SupersededRecords.{superseded_files, superseded_sound}
use Rattle.coffee_cuts.proofs.Superseding.{superseding_files}
use Rattle.coffee_cuts.proofs.torn_records_are_superseded.Goals as goal

pub returns-clause-sound : goal.returns-clause-sound
returns-clause-sound c = λ image new sectors size t some s. superseded_sound image new (omega (arith, size)) t some s

pub returns-clause-files : goal.returns-clause-files
returns-clause-files c = λ image new sectors size t some s. superseded_files image new (omega (arith, size)) t some s ∙ sym (superseding_files image (omega (arith, size)) t)
