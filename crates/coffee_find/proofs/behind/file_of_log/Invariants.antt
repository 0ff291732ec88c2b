use Rattle.std.proofs.Common.{◌≢◌, Some}
use Rattle.std.specs.List.{AllWithin}
use Rattle.coffee_find.proofs.behind.file_of_log.Given as goal

-- no file so far has the log
abbrev pub invariant-loop-file : goal.invariant-loop-file
invariant-loop-file l = AllWithin (λ e. e.log ≢ Some l.fn.log) l.table 0 l.file-index
