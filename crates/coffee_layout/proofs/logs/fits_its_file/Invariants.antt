use Rattle.std.proofs.Common.{◌≡◌, drop}
use Rattle.coffee_layout.specs.Walks.{fits_entry}
use Rattle.coffee_layout.proofs.logs.fits_its_file.Given as goal

abbrev pub invariant-loop-file : goal.invariant-loop-file
invariant-loop-file g l = fits_entry l.page l.table (drop l.file-index l.files) ≡ fits_entry l.page l.table l.files
