use Rattle.std.proofs.Common.{◌∙◌}
use Rattle.padded.proofs.Facts.{err_is}
use Rattle.run_repair.specs.GivenUp.{NeedsPages}
use Rattle.run_repair.specs.Mends.{OnFault, OnSpaceless, StillMends}
use Rattle.run_repair.specs.declared.came.Hindrance.TheVariants.{Failed as FaultOfFlash}
use Rattle.run_repair.proofs.Interrupted.{on_error}
use Rattle.run_repair.proofs.Mended.{left_hindered}
use Rattle.run_repair.proofs.SettledTo.{database_needs, fault_through, files_need, left_repaired, restored_mends, settled_reported, spaceless_through}
use Rattle.run_repair.proofs.Told.{told_hindered}
use Rattle.run_repair.proofs.repairing.put_cut_right.Goals as goal

pub returns-in_err-settle_files-clause-leaves : goal.returns-in_err-settle_files-clause-leaves
returns-in_err-settle_files-clause-leaves g c = λ told unsound left.
    let came = c.from_residual in
    let why = c.in_err-settle_files.field-0.0 in
    left_hindered (g.F.Flash.image c.args.flash.now) (g.F.Flash.image c.settle_files.new.flash) came.result why unsound (c.args.trouble.now, left)
    (c.in_err-settle_files.ensures.hindered told left.files) (c.in_err-settle_files.ensures.space told left) (err_is came.result why came.ensures.1)

pub returns-in_err-settle_files-clause-cut : goal.returns-in_err-settle_files-clause-cut
returns-in_err-settle_files-clause-cut g c = λ told cuts left.
    let came = c.from_residual in
    let why = c.in_err-settle_files.field-0.0 in
    on_error came.result why (λ w. OnFault w (StillMends (g.F.Flash.image c.args.flash.now) (g.F.Flash.image c.settle_files.new.flash)))
    (err_is came.result why came.ensures.1) (c.in_err-settle_files.ensures.cut told cuts left)

pub returns-in_err-mend_image-clause-leaves : goal.returns-in_err-mend_image-clause-leaves
returns-in_err-mend_image-clause-leaves g c = λ told unsound left.
    let came = c.from_residual-in_err-mend_image in
    let why = c.in_err-mend_image.field-0.0 in
    let settled = c.in_ok-settle_files.ensures.settled told left in
    let size = c.settle_files.ensures.size ∙ c.sectors.ensures.size in
    left_hindered (g.F.Flash.image c.args.flash.now) (g.F.Flash.image c.mend_image.new.flash) came.result why unsound (c.args.trouble.now, left)
    (c.in_err-mend_image.ensures.hindered told settled.sound)
    (spaceless_through (g.F.Flash.image c.args.flash.now) (g.F.Flash.image c.settle_files.new.flash) (g.F.Flash.image c.mend_image.new.flash) why c.sectors.result size settled
    (c.in_err-mend_image.ensures.space told settled.sound settled.cut)) (err_is came.result why came.ensures.1)

pub returns-in_err-mend_image-clause-cut : goal.returns-in_err-mend_image-clause-cut
returns-in_err-mend_image-clause-cut g c = λ told cuts left.
    let came = c.from_residual-in_err-mend_image in
    let why = c.in_err-mend_image.field-0.0 in
    let settled = c.in_ok-settle_files.ensures.settled told left in
    let size = c.settle_files.ensures.size ∙ c.sectors.ensures.size in
    on_error came.result why (λ w. OnFault w (StillMends (g.F.Flash.image c.args.flash.now) (g.F.Flash.image c.mend_image.new.flash)))
    (err_is came.result why came.ensures.1)
    (fault_through (g.F.Flash.image c.args.flash.now) (g.F.Flash.image c.settle_files.new.flash) (g.F.Flash.image c.mend_image.new.flash) why c.sectors.result size settled
    (c.in_err-mend_image.ensures.cut told cuts settled.sound settled.cut))

pub returns-in_err-judge_image-clause-leaves : goal.returns-in_err-judge_image-clause-leaves
returns-in_err-judge_image-clause-leaves g c = λ told unsound left.
    let came = c.from_residual-in_err-judge_image in
    left_hindered (g.F.Flash.image c.args.flash.now) (g.F.Flash.image c.judge_image.new.flash) came.result FaultOfFlash unsound (c.args.trouble.now, left)
    tt tt (err_is came.result FaultOfFlash came.ensures.1)

pub returns-in_err-judge_image-clause-cut : goal.returns-in_err-judge_image-clause-cut
returns-in_err-judge_image-clause-cut g c = λ told cuts left.
    let came = c.from_residual-in_err-judge_image in
    let settled = c.in_ok-settle_files.ensures.settled told left in
    let size = c.mend_image.ensures.size ∙ c.settle_files.ensures.size ∙ c.sectors.ensures.size in
    let same = c.judge_image.ensures.same in
    on_error came.result FaultOfFlash (λ w. OnFault w (StillMends (g.F.Flash.image c.args.flash.now) (g.F.Flash.image c.judge_image.new.flash)))
    (err_is came.result FaultOfFlash came.ensures.1)
    (restored_mends (g.F.Flash.image c.args.flash.now) (g.F.Flash.image c.settle_files.new.flash) (g.F.Flash.image c.mend_image.new.flash) (g.F.Flash.image c.judge_image.new.flash) c.sectors.result size
    settled (c.in_ok-mend_image.ensures.restored told settled.sound settled.cut) same)

pub returns-in-Ok-clause-leaves : goal.returns-in-Ok-clause-leaves
returns-in-Ok-clause-leaves g c = λ told unsound left.
    let settled = c.in_ok-settle_files.ensures.settled told left in
    left_repaired (g.F.Flash.image c.args.flash.now) (g.F.Flash.image c.settle_files.new.flash) (g.F.Flash.image c.mend_image.new.flash) (g.F.Flash.image c.judge_image.new.flash) unsound (c.args.trouble.now, left)
    settled (c.in_ok-mend_image.ensures.restored told settled.sound settled.cut) c.judge_image.ensures.same

pub returns-in-Err-clause-leaves : goal.returns-in-Err-clause-leaves
returns-in-Err-clause-leaves g c = λ told unsound left.
    let settled = c.in_ok-settle_files.ensures.settled told left in
    let restored = c.in_ok-mend_image.ensures.restored told settled.sound settled.cut in
    absurd (c.sound_image_breaks_no_rule.ensures (g.F.Flash.image c.mend_image.new.flash) c.in-Err.bad.rule c.in-Err.bad.place restored.sound (rw c.in-Err.is at (c.in_ok-judge_image.ensures.bad told)))

-- what the pages are for

pub returns-in_err-settle_files-clause-needed : goal.returns-in_err-settle_files-clause-needed
returns-in_err-settle_files-clause-needed g c = λ told left.
    let came = c.from_residual in
    let why = c.in_err-settle_files.field-0.0 in
    let old = g.F.Flash.image c.args.flash.now in
    let new = g.F.Flash.image c.settle_files.new.flash in
    on_error came.result why (λ w. OnSpaceless w (λ need. NeedsPages old new)) (err_is came.result why came.ensures.1)
    (files_need old new c.args.trouble.now why (c.in_err-settle_files.ensures.needed told left.files))

pub returns-in_err-mend_image-clause-needed : goal.returns-in_err-mend_image-clause-needed
returns-in_err-mend_image-clause-needed g c = λ told left.
    let came = c.from_residual-in_err-mend_image in
    let why = c.in_err-mend_image.field-0.0 in
    let old = g.F.Flash.image c.args.flash.now in
    let new = g.F.Flash.image c.mend_image.new.flash in
    let settled = c.in_ok-settle_files.ensures.settled told left in
    on_error came.result why (λ w. OnSpaceless w (λ need. NeedsPages old new)) (err_is came.result why came.ensures.1)
    (database_needs old new why (c.in_err-mend_image.ensures.unbroken told settled.sound settled.cut))

pub returns-in_err-judge_image-clause-needed : goal.returns-in_err-judge_image-clause-needed
returns-in_err-judge_image-clause-needed g c = λ told left.
    let came = c.from_residual-in_err-judge_image in
    on_error came.result FaultOfFlash (λ w. OnSpaceless w (λ need. NeedsPages (g.F.Flash.image c.args.flash.now) (g.F.Flash.image c.judge_image.new.flash))) (err_is came.result FaultOfFlash came.ensures.1) tt

-- what is told

pub returns-in_err-settle_files-clause-reported : goal.returns-in_err-settle_files-clause-reported
returns-in_err-settle_files-clause-reported g c = λ told left none.
    let came = c.from_residual in
    told_hindered _ _ _ came.result c.in_err-settle_files.field-0.0 (err_is came.result c.in_err-settle_files.field-0.0 came.ensures.1)

pub returns-in_err-mend_image-clause-reported : goal.returns-in_err-mend_image-clause-reported
returns-in_err-mend_image-clause-reported g c = λ told left none.
    let came = c.from_residual-in_err-mend_image in
    told_hindered _ _ _ came.result c.in_err-mend_image.field-0.0 (err_is came.result c.in_err-mend_image.field-0.0 came.ensures.1)

pub returns-in_err-judge_image-clause-reported : goal.returns-in_err-judge_image-clause-reported
returns-in_err-judge_image-clause-reported g c = λ told left none.
    let came = c.from_residual-in_err-judge_image in
    told_hindered _ _ _ came.result FaultOfFlash (err_is came.result FaultOfFlash came.ensures.1)

pub returns-in-Ok-clause-reported : goal.returns-in-Ok-clause-reported
returns-in-Ok-clause-reported g c = λ told left none.
    let settled = c.in_ok-settle_files.ensures.settled told left in
    settled_reported (g.F.Flash.image c.args.flash.now) (g.F.Flash.image c.settle_files.new.flash) (g.F.Flash.image c.mend_image.new.flash) (g.F.Flash.image c.judge_image.new.flash) _
    settled (c.in_ok-mend_image.ensures.restored told settled.sound settled.cut) c.judge_image.ensures.same (c.in_ok-mend_image.ensures.reported told settled.sound settled.cut none)
