use Rattle.std.proofs.Common.{arith}
use Rattle.afl_base.specs.Files.{bytes_at}
use Rattle.stored_mend.proofs.FilledRows.{filled_are_rows, has_attribute, limit_most}
use Rattle.stored_mend.proofs.filling.fill_row.Goals as goal

pub fill_part-requires-clause-few : goal.fill_part-requires-clause-few
fill_part-requires-clause-few g c = omega (arith, c.in-Some.ensures.few, limit_most c.args.catalog.now.version)

pub returns-in_ok-filled-in-Some-clause-rows : goal.returns-in_ok-filled-in-Some-clause-rows
returns-in_ok-filled-in-Some-clause-rows g c = λ told yes are.
    let old = bytes_at (g.V.Files.state c.args.files.now).files c.args.file in
    let new = bytes_at (g.V.Files.state c.fill_part.new.files).files c.args.file in
    filled_are_rows c.args.attributes.now old new ((c.in_ok-filled-in-Some.ensures.filled yes).filled told) c.args.catalog.now.version
    (has_attribute c.args.attributes.now c.in-Some.have c.in-Some.ensures.some c.in-Some.ensures.part) c.in-Some.ensures.few are
