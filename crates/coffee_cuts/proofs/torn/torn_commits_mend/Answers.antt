use Rattle.coffee_cuts.proofs.Commits.{added_mends, replacing_mends}
use Rattle.coffee_cuts.proofs.torn.torn_commits_mend.Goals as goal

pub returns : goal.returns
returns c = record {
  added = added_mends;
  replaced = λ whole new table d e i t is name few last cut. replacing_mends whole table d e i t is name few last new cut;
}
