use Rattle.std.proofs.Common.{◌≡◌}
use Rattle.db_model.specs.declared.commands.Agg.TheVariants.{Median}
use Rattle.language_tests.proofs.folds.median.Given as goal

abbrev pub invariant-loop : goal.invariant-loop
invariant-loop l = record { median : l.fold.agg ≡ Median; pushed : l.fold.pushed ≡ 0 }
