use Rattle.coffee_cuts.proofs.Shown.{first_rules_show}
use Rattle.coffee_cuts.proofs.first_rules_show_what_was_under_way.Goals as goal

pub returns : goal.returns
returns c = λ image files bad sectors size broken m. first_rules_show image sectors size bad broken files m
