use Rattle.std.proofs.Common.{◌≡◌, false, Some}
use Rattle.std.specs.List.{AllWithin}
use Rattle.coffee_merge.specs.Holding.{has_shape}
use Rattle.coffee_mend.proofs.owner.file_of_log.Given as goal

-- no file so far has the log
abbrev pub invariant-loop-file : goal.invariant-loop-file
invariant-loop-file l = AllWithin (λ e. e.log ≡ Some l.fn.log → has_shape e.kind e.pages ≡ false) l.table 0 l.file-index
