use Rattle.std.proofs.Common.{◌≡◌, ℕ, List, drop, map}
use Rattle.coffee_layout.specs.Files.{Placed, entry_of}
use Rattle.coffee_layout.specs.Rules.{first_failing, has_few_pages}
use Rattle.coffee_layout.proofs.measure.first_oversized.Given as goal

abbrev pub invariant-loop-file : goal.invariant-loop-file
invariant-loop-file l = (image : List ℕ) (files : List Placed) → l.table ≡ map (entry_of image) files → first_failing (has_few_pages image) (drop l.file-index files) ≡ first_failing (has_few_pages image) files
