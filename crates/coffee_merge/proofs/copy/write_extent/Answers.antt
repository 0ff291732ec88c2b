use Rattle.std.proofs.Common.{◌≡◌, ◌+◌, ◌*◌, ap, arith, length}
use Rattle.std.proofs.lemmas.Result.{on_ok_weaker}
use Rattle.coffee_merge.proofs.CutMarkLaws.{head_stays}
use Rattle.coffee_merge.proofs.Contents.{written_there}
use Rattle.coffee_merge.proofs.Lowest.{range_inside, write_free}
use Rattle.coffee_merge.proofs.copy.write_extent.Goals as goal

pub returns-clause-written : goal.returns-clause-written
returns-clause-written g c = λ told.
    on_ok_weaker c.program_range.result
    (λ is. written_there (g.F.Flash.image c.args.flash.now) (g.F.Flash.image c.program_range.new.flash) c.args.page c.args.pages (256 * c.from.result + 32 + c.args.at) c.args.at c.args.bytes.now (ap (λ q. 256 * q + 32 + c.args.at) c.from.ensures) is)
    (c.program_range.ensures.programmed told)

pub returns-clause-free : goal.returns-clause-free
returns-clause-free g c = λ told.
    on_ok_weaker c.program_range.result
    (λ is. write_free (g.F.Flash.image c.args.flash.now) (g.F.Flash.image c.program_range.new.flash) c.args.page c.args.pages (256 * c.from.result + 32 + c.args.at) c.args.at c.args.bytes.now (ap (λ q. 256 * q + 32 + c.args.at) c.from.ensures) is c.requires.fits)
    (c.program_range.ensures.programmed told)

pub returns-clause-other_pages : goal.returns-clause-other_pages
returns-clause-other_pages g c = λ told p out apart.
    c.program_range.ensures.other_pages told p
    (range_inside c.args.page.0 c.args.pages (256 * c.from.result + 32 + c.args.at) c.args.at (length c.args.bytes.now) p (ap (λ q. 256 * q + 32 + c.args.at) c.from.ensures) c.requires.fits out)

pub returns-clause-head : goal.returns-clause-head
returns-clause-head g c = λ t u.
    let here : 256 * c.from.result + 32 + c.args.at ≡ 256 * c.args.page.0 + 32 + c.args.at = omega (arith, c.from.ensures) in
    head_stays c.program_range.result (g.F.Flash.image c.args.flash.now) (g.F.Flash.image c.program_range.new.flash) c.args.page.0 _ c.args.at c.args.bytes.now (c.program_range.ensures.programmed t) (c.program_range.ensures.cut t u) here
