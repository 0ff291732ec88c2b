use Rattle.std.proofs.Common.{None, Some, rules, subst, sym}
use Rattle.std.proofs.lemmas.Result.{on_ok_weaker}
use Rattle.coffee_merge.proofs.Contents.{copied_there}
use Rattle.coffee_merge.specs.Holding.{HoldsTable}
use Rattle.coffee_merge.specs.CutMarks.{KeepsHead}
use Rattle.coffee_merge.specs.Takes.{KeepsFree, KeepsPagesBut}
use Rattle.coffee_merge.proofs.copy.copy_part.Goals as goal

pub returns-clause-copied : goal.returns-clause-copied
returns-clause-copied g c = λ told.
    on_ok_weaker c.write_extent.result
    (λ writes. copied_there (g.F.Flash.image c.args.flash.now) (g.F.Flash.image c.read_file.new.flash) (g.F.Flash.image c.write_extent.new.flash) c.args.page c.args.pages c.args.at c.args.n c.args.from.now c.read_file.new.into c.in_ok-read_file.ensures.frame.same
    (search rules) c.requires.range (λ k low. c.in_ok-read_file.ensures.bytes told k (search rules)) writes)
    (c.write_extent.ensures.written told)

pub returns-clause-free : goal.returns-clause-free
returns-clause-free g c = λ told.
    on_ok_weaker c.write_extent.result
    (λ free table d holds page pages. subst (λ image. KeepsFree image (g.F.Flash.image c.write_extent.new.flash)) c.in_ok-read_file.ensures.frame.same
    (free table d (subst (λ image. HoldsTable image table (Some d)) (sym c.in_ok-read_file.ensures.frame.same) holds) page pages))
    (c.write_extent.ensures.free told)

pub returns-clause-other_pages : goal.returns-clause-other_pages
returns-clause-other_pages g c = λ told.
    subst (λ image. KeepsPagesBut image (g.F.Flash.image c.write_extent.new.flash) c.args.page.0 c.args.pages None) c.in_ok-read_file.ensures.frame.same (c.write_extent.ensures.other_pages told)

pub returns-clause-head : goal.returns-clause-head
returns-clause-head g c = λ t u.
    subst (λ image. KeepsHead image (g.F.Flash.image c.write_extent.new.flash) c.args.page.0) c.in_ok-read_file.ensures.frame.same (c.write_extent.ensures.head t u)
