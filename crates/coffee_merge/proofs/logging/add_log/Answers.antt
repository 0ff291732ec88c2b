use Rattle.std.proofs.Common.{Some, arith, ◌∙◌}
use Rattle.coffee_merge.proofs.Logged.{has_log, logged, stays_logs}
use Rattle.coffee_merge.proofs.Lowest.{log_frees, not_extent, takes_by}
use Rattle.coffee_merge.proofs.Taken.{log_takes, takes_after}
use Rattle.coffee_merge.proofs.TornFiles.{torn_log, torn_naming}
use Rattle.coffee_merge.proofs.logging.add_log.Goals as goal

pub returns-clause-logged : goal.returns-clause-logged
returns-clause-logged g c = λ t table i h is none.
    let old = g.F.Flash.image c.args.flash.now in
    let mid = g.F.Flash.image c.obtain_pages.new.flash in
    let one = g.F.Flash.image c.put_log_header.new.flash in
    let new = g.F.Flash.image c.name_log.new.flash in
    let first = c.in_ok-log.ensures.run t table h in
    let inside = c.in_ok-log.ensures.inside in
    let has = has_log mid one new table i c.args.file.now c.in_ok-log.log first.stays.holds is none first.run c.put_log_header.ensures.name (omega arith) (c.in_ok-put_log_header.ensures.written t) (c.in_ok-name_log.ensures.written t) in
    record {
      logs = stays_logs old mid new table i c.args.file.now c.in_ok-log.log first.stays is none (logged mid new table i c.args.file.now c.in_ok-log.log first.stays.holds is none has (omega arith));
      taken = takes_after old mid new c.in_ok-log.log.0 16 first.untaken (log_takes mid new table i c.args.file.now c.in_ok-log.log first.stays.holds is has);
      lowest = takes_by old mid new c.in_ok-log.log.0 16 (Some c.args.file.now) first.looked first.run
          (λ p out apart. c.name_log.ensures.other_pages t p (not_extent p c.args.file.now apart) ∙ c.put_log_header.ensures.other_pages t p (λ same. out (omega arith) (omega arith)))
          (log_frees mid new c.args.file.now c.in_ok-log.log has);
    }

pub returns-in_err-put_log_header-clause-cut : goal.returns-in_err-put_log_header-clause-cut
returns-in_err-put_log_header-clause-cut g c = λ t u failed table i h is none.
    let first = c.in_ok-log.ensures.run t table h in
    torn_log (g.F.Flash.image c.args.flash.now) (g.F.Flash.image c.obtain_pages.new.flash) (g.F.Flash.image c.put_log_header.new.flash) table first.stays.kept c.obtain_pages.ensures.frame.size
    i c.args.file.now c.in_ok-log.log.0 first.stays.holds is none first.run (c.in_err-put_log_header.ensures.cut t u)

pub returns-in_err-name_log-clause-cut : goal.returns-in_err-name_log-clause-cut
returns-in_err-name_log-clause-cut g c = λ t u failed table i h is none.
    let first = c.in_ok-log.ensures.run t table h in
    torn_naming (g.F.Flash.image c.args.flash.now) (g.F.Flash.image c.obtain_pages.new.flash) (g.F.Flash.image c.name_log.new.flash) table first.stays.kept c.obtain_pages.ensures.frame.size
    (g.F.Flash.image c.put_log_header.new.flash) i c.args.file.now c.in_ok-log.log first.stays.holds is none first.run (c.in_ok-put_log_header.ensures.written t) (c.in_err-name_log.ensures.cut t u)
