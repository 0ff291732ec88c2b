use Rattle.std.proofs.Common.{◌≡◌, refl, arith}
use Rattle.afl_base.specs.Files.{File}
use Rattle.afl_sim.proofs.PlainStates.{plain_drafts, plain_written}
use Rattle.afl_sim.proofs.plain_files.PlainFilesFiles.draft_write.Goals as goal

pub invariant_of-self : goal.invariant_of-self
invariant_of-self g c =
    let a = c.self.inside in
    let f : File = c.drafted-draft.result in
    rw c.overwrite.ensures (plain_written g.row.CAP a.table f _ (rw c.drafted-draft.ensures at c.self.invariant) refl refl (λ (none : f.records ≡ 0). omega arith) refl)

pub returns-clause-written : goal.returns-clause-written
returns-clause-written g c =
    let a = c.self.inside in
    let f : File = c.drafted-draft.result in
    rw (← c.self.view_is, c.drafted-draft.ensures)
    (plain_drafts a.table f c.overwrite.new.self c.args.at _ c.args.bytes.now c.overwrite.ensures (rw (← c.self.view_is, c.drafted-draft.ensures) at c.requires.range))
