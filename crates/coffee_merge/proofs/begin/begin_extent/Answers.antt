use Rattle.std.proofs.Common.{None, arith, refl}
use Rattle.coffee_merge.proofs.Drafting.{draft_begins, draft_valid, stays_begins}
use Rattle.coffee_merge.proofs.Lowest.{draft_frees, takes_by}
use Rattle.coffee_merge.proofs.Taken.{draft_takes, takes_after}
use Rattle.coffee_merge.proofs.TornFiles.{torn_header}
use Rattle.coffee_merge.proofs.begin.begin_extent.Goals as goal

pub returns-clause-begun : goal.returns-clause-begun
returns-clause-begun g c = λ t table size h fits.
    let old = g.F.Flash.image c.args.flash.now in
    let mid = g.F.Flash.image c.obtain_pages.new.flash in
    let new = g.F.Flash.image c.put_file_header.new.flash in
    let first = c.in_ok-page.ensures.run t table h in
    let written = c.in_ok-put_file_header.ensures.written t in
    record {
      begins = stays_begins old mid new table _ first.stays
          (draft_begins mid new table c.args.name.now c.args.kind c.in_ok-page.page.0 c.args.pages size first.stays.holds first.run c.requires.some (omega (arith, c.ranges.pages)) c.put_file_header.ensures.name c.requires.shape fits written);
      taken = takes_after old mid new c.in_ok-page.page.0 c.args.pages first.untaken
          (draft_takes mid new table c.args.name.now c.args.kind c.in_ok-page.page.0 c.args.pages first.stays.holds first.run c.requires.some (omega (arith, c.ranges.pages)) c.put_file_header.ensures.name written);
      lowest = takes_by old mid new c.in_ok-page.page.0 c.args.pages None first.looked first.run
          (λ p out apart. c.put_file_header.ensures.other_pages t p (λ same. out (omega arith) (omega (arith, c.requires.some))))
          (draft_frees mid new table c.args.name.now c.args.kind c.in_ok-page.page.0 c.args.pages first.stays.holds first.run c.requires.some (omega (arith, c.ranges.pages)) c.put_file_header.ensures.name written);
    }

pub returns-in_err-put_file_header-clause-cut : goal.returns-in_err-put_file_header-clause-cut
returns-in_err-put_file_header-clause-cut g c = λ t u failed table h.
    let first = c.in_ok-page.ensures.run t table h in
    torn_header (g.F.Flash.image c.args.flash.now) (g.F.Flash.image c.obtain_pages.new.flash) (g.F.Flash.image c.put_file_header.new.flash) table first.stays.kept c.obtain_pages.ensures.frame.size
    c.in_ok-page.page.0 c.args.pages _ first.stays.holds (draft_valid c.args.name.now c.args.kind c.in_ok-page.page.0 c.args.pages 0 c.put_file_header.ensures.name (omega (arith, c.ranges.pages))) refl c.requires.some first.run refl (c.in_err-put_file_header.ensures.cut t u)
