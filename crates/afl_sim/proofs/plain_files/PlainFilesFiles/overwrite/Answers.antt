use Rattle.std.proofs.Common.{arith}
use Rattle.afl_base.specs.Files.{bytes_at}
use Rattle.afl_base.specs.Fields.{put_at}
use Rattle.afl_base.proofs.FieldLaws.{length-put_at}
use Rattle.afl_sim.proofs.PlainStates.{plain_becomes, plain_kept}
use Rattle.afl_sim.proofs.plain_files.PlainFilesFiles.overwrite.Goals as goal

pub invariant_of-self : goal.invariant_of-self
invariant_of-self g c =
    let a = c.self.inside in
    rw c.number.ensures.value
    (plain_kept g.row.CAP a.table a.draft c.args.id c.file-file.result c.overwrite.new.self _ _ _ c.self.invariant
    (omega (arith, c.number.ensures.below, c.number.ensures.value)) (rw (← c.self.view_is) at c.file-file.ensures.file) c.overwrite.ensures)

pub returns-clause-overwritten : goal.returns-clause-overwritten
returns-clause-overwritten g c =
    let a = c.self.inside in
    rw (← c.self.view_is, c.number.ensures.value)
    (plain_becomes g.row.CAP a.table a.draft c.args.id c.file-file.result c.overwrite.new.self (λ bytes. put_at bytes c.args.at c.args.bytes.now) _ _ _ c.self.invariant
    (omega (arith, c.number.ensures.below, c.number.ensures.value)) (rw (← c.self.view_is) at c.file-file.ensures.file) c.overwrite.ensures
    (length-put_at (bytes_at a.table c.args.id) c.args.bytes.now c.args.at (rw (← c.self.view_is) at c.requires.range)))
