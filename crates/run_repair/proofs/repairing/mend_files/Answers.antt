use Rattle.run_repair.proofs.Interrupted.{alike_mends}
use Rattle.run_repair.proofs.repairing.mend_files.Goals as goal

pub returns-in-Err-Space-clause-space : goal.returns-in-Err-Space-clause-space
returns-in-Err-Space-clause-space g c = λ told cut. rw c.in-Err-Space.field-0-is at (c.in-Err-Space.ensures.space told cut)

pub returns-in-Err-Space-clause-wanted : goal.returns-in-Err-Space-clause-wanted
returns-in-Err-Space-clause-wanted g c = λ told cut. rw c.in-Err-Space.field-0-is at (c.in-Err-Space.ensures.wanted told cut)

pub returns-in-Err-Failed-clause-cut : goal.returns-in-Err-Failed-clause-cut
returns-in-Err-Failed-clause-cut g c = λ told cuts left.
    alike_mends (g.F.Flash.image c.args.flash.now) (g.F.Flash.image c.mend.new.flash) c.args.trouble.now c.sectors.result c.sectors.ensures.size c.requires.inside left
    (rw c.in-Err-Failed.field-0-is at (c.in-Err-Failed.ensures.cut told cuts left.files))
