use Rattle.std.proofs.Common.{◌≡◌, drop}
use Rattle.run_words.specs.Words.{names_differ}
use Rattle.run_words.proofs.planned.names_differ.Given as goal

abbrev pub invariant-loop-at : goal.invariant-loop-at
invariant-loop-at l = names_differ (drop l.at l.all) ≡ names_differ l.all
