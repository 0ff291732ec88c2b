use Rattle.std.proofs.Common.{◌∙◌, refl, sym, arith}
use Rattle.coffee_merge.proofs.Drafting.{kept_then}
use Rattle.coffee_merge.proofs.Moving.{moves_file}
use Rattle.coffee_merge.proofs.TornFiles.{torn_draft, torn_replacing}
use Rattle.coffee_merge.proofs.rewrite.rewrite.Goals as goal

pub returns-clause-moved : goal.returns-clause-moved
returns-clause-moved g c = λ told.
    moves_file (g.F.Flash.image c.args.flash.now) (g.F.Flash.image c.begin_extent.new.flash) (g.F.Flash.image c.copy_file.new.flash) (g.F.Flash.image c.replace_file.new.flash) c.args.file.now c.in_ok-page.page c.args.pages c.requires.holds
    (c.in_ok-page.ensures.begun told) (c.in_ok-copy_file.ensures.copied told) (c.copy_file.ensures.other_pages told)
    (c.in_ok-replace_file.ensures.replaced told) (c.in_ok-replace_file.ensures.free told) (c.replace_file.ensures.other_pages told)

pub returns-in_err-copy_file-clause-cut : goal.returns-in_err-copy_file-clause-cut
returns-in_err-copy_file-clause-cut g c = λ t u failed table i h is few.
    let b = (c.in_ok-page.ensures.begun t table c.args.file.now.size h c.requires.holds).begins in
    torn_draft (g.F.Flash.image c.args.flash.now) (g.F.Flash.image c.begin_extent.new.flash) (g.F.Flash.image c.copy_file.new.flash) table b.kept c.begin_extent.ensures.frame.size
    _ b.holds (c.copy_file.ensures.head t u) (c.copy_file.ensures.other_pages t)

pub returns-in_err-replace_file-clause-cut : goal.returns-in_err-replace_file-clause-cut
returns-in_err-replace_file-clause-cut g c = λ t u failed table i h is few.
    let old = g.F.Flash.image c.args.flash.now in
    let begun = g.F.Flash.image c.begin_extent.new.flash in
    let copied = g.F.Flash.image c.copy_file.new.flash in
    let b = (c.in_ok-page.ensures.begun t table c.args.file.now.size h c.requires.holds).begins in
    let made = (c.in_ok-copy_file.ensures.copied t table _ i b.holds refl refl refl is b.zeros).copies in
    torn_replacing old copied (g.F.Flash.image c.replace_file.new.flash) table (kept_then old begun copied table b.kept made.kept) (c.copy_file.ensures.frame.size ∙ c.begin_extent.ensures.frame.size)
    _ i c.args.file.now made.holds is refl refl refl few
    (λ p less. made.same p less ∙ sym (made.kept i c.args.file.now is p (omega (arith, c.requires.fits.size, less))))
    (c.in_err-replace_file.ensures.cut t u)
