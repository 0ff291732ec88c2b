use Rattle.std.proofs.Common.{◌∙◌, List, subst, sym}
use Rattle.std.specs.Prelude.{ℕ}
use Rattle.padded.proofs.Facts.{err_is}
use Rattle.run_repair.specs.Mends.{OnFault, StillMends, StillMendsButLacks}
use Rattle.run_repair.specs.declared.came.Hindrance.TheVariants.{Failed as FaultOfFlash}
use Rattle.run_repair.proofs.Interrupted.{crowded_mends, on_error}
use Rattle.run_repair.proofs.SettledTo.{copy_needed, given_settled, giving_left, mended_settled, still_torn}
use Rattle.run_repair.proofs.repairing.settle_files.Goals as goal

pub returns-in_err-give_up_tree-in-Err-Spaceless-clause-cut : goal.returns-in_err-give_up_tree-in-Err-Spaceless-clause-cut
returns-in_err-give_up_tree-in-Err-Spaceless-clause-cut g c = λ told cuts left.
    let came = c.from_residual in
    let old = g.F.Flash.image c.args.flash.now in
    let mid = g.F.Flash.image c.mend_files.new.flash in
    let new = g.F.Flash.image c.give_up_tree.new.flash in
    let crowded = (rw c.in-Err-Spaceless.field-0-is at c.in-Err-Spaceless.ensures.space) told left.files in
    let awaits = rw c.in-Err-Spaceless.field-0-is at c.in-Err-Spaceless.ensures.wanted in
    on_error came.result FaultOfFlash (λ w. OnFault w (StillMends old new)) (err_is came.result FaultOfFlash came.ensures.1)
    (giving_left old mid new c.args.trouble.now c.sectors.result c.sectors.ensures.size (c.mend_files.ensures.size ∙ c.sectors.ensures.size) c.requires.inside left crowded.alike
    (c.in_err-give_up_tree-in-Err-Spaceless.ensures.cut told cuts (still_torn old mid c.args.trouble.now (awaits told left.files))))

pub returns-in-Ok-clause-settled : goal.returns-in-Ok-clause-settled
returns-in-Ok-clause-settled g c = λ told left.
    mended_settled (g.F.Flash.image c.args.flash.now) (g.F.Flash.image c.mend_files.new.flash) c.args.trouble.now c.sectors.result c.sectors.ensures.size c.requires.inside left
    (c.in-Ok.ensures.mended told left.files)

pub returns-then-branch-clause-settled : goal.returns-then-branch-clause-settled
returns-then-branch-clause-settled g c = λ told left.
    let crowded = (rw c.in-Err-Spaceless.field-0-is at c.in-Err-Spaceless.ensures.space) told left.files in
    let awaits = (rw c.in-Err-Spaceless.field-0-is at c.in-Err-Spaceless.ensures.wanted) told left.files in
    let old = g.F.Flash.image c.args.flash.now in
    let mid = g.F.Flash.image c.mend_files.new.flash in
    given_settled old mid (g.F.Flash.image c.give_up_tree.new.flash) c.sectors.result (c.mend_files.ensures.size ∙ c.sectors.ensures.size) crowded.alike
    (c.in_ok-give_up_tree-in-Err-Spaceless.ensures.given told (still_torn old mid c.args.trouble.now awaits) c.if-branch.true)

pub returns-else-branch-clause-space : goal.returns-else-branch-clause-space
returns-else-branch-clause-space g c = λ told left.
    let old = g.F.Flash.image c.args.flash.now in
    let mid = g.F.Flash.image c.mend_files.new.flash in
    let crowded = (rw c.in-Err-Spaceless.field-0-is at c.in-Err-Spaceless.ensures.space) told left.files in
    subst (λ (i : List ℕ). StillMendsButLacks old i c.in-Err-Spaceless.need) (sym (c.in_ok-give_up_tree-in-Err-Spaceless.ensures.stays c.if-branch.false))
    (crowded_mends old mid c.args.trouble.now c.sectors.result c.in-Err-Spaceless.need c.sectors.ensures.size c.requires.inside left crowded)

pub returns-else-branch-clause-needed : goal.returns-else-branch-clause-needed
returns-else-branch-clause-needed g c = λ told cut.
    let old = g.F.Flash.image c.args.flash.now in
    let mid = g.F.Flash.image c.mend_files.new.flash in
    let awaits = (rw c.in-Err-Spaceless.field-0-is at c.in-Err-Spaceless.ensures.wanted) told cut in
    let asked = c.in_ok-give_up_tree-in-Err-Spaceless.ensures in
    copy_needed old mid (g.F.Flash.image c.give_up_tree.new.flash) c.args.trouble.now cut (asked.stays c.if-branch.false) awaits
    (asked.needed told (still_torn old mid c.args.trouble.now awaits) c.if-branch.false)
