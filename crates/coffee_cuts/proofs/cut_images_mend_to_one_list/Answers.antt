use Rattle.coffee_cuts.proofs.OneSettling.{one_list, one_table}
use Rattle.coffee_cuts.proofs.cut_images_mend_to_one_list.Goals as goal

pub returns-clause-files : goal.returns-clause-files
returns-clause-files c = one_list

pub returns-clause-tables : goal.returns-clause-tables
returns-clause-tables c = one_table
