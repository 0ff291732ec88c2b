use Rattle.std.proofs.Common.{◌≡◌}
use Rattle.db_model.specs.declared.commands.Agg.TheVariants.{Median}
use Rattle.language_tests.proofs.folds.pass.Given as goal

abbrev pub invariant-loop-k : goal.invariant-loop-k
invariant-loop-k l = record { median : l.fold.agg ≡ Median; pushed : l.fold.pushed ≡ l.k }
