use Rattle.std.proofs.Common.{rules, arith, ◌≡◌, ◌+◌, ◌-◌, ◌*◌, ◌/◌, ◌∙◌, Some, refl}
use Rattle.padded.proofs.Facts.{on_err}
use Rattle.afl_base.specs.Regions.{regions}
use Rattle.coffee_log.proofs.FileCutLaws.{overwrite_later}
use Rattle.coffee_log.proofs.AddedRecords.{adds_more, next_region}
use Rattle.coffee_log.proofs.FileSteps.{becomes_more, regions_more}
use Rattle.coffee_log.proofs.contents.overwrite_file.Goals as goal

pub loop-done-preserved : goal.loop-done-preserved
loop-done-preserved g c =
    let more : regions c.args.at (c.loop-done.done + c.min-n.result) ≡ regions c.args.at c.loop-done.done + 1 =
    regions_more c.args.at c.loop-done.done c.min-n.result (omega arith) (λ a. c.loop-done.invariant.turn a (omega arith)) (omega arith) in
    record {
      within = omega arith;
      turn = λ a b. omega arith;
      count = omega arith;
      size = search rules;
      lent = search rules;
      becomes = λ t size is ends fits.
          let b = c.loop-done.invariant.becomes t size is ends fits in
          becomes_more (g.F.Flash.image c.args.flash.now) (g.F.Flash.image c.loop-done.flash) (g.F.Flash.image c.put_part.new.flash) c.args.bytes.now _ c.args.file.now.page.0 c.args.file.now.pages (Some c.args.log) c.loop-done.records (c.loop-done.records + 1) size size c.args.at
          _ c.loop-done.done _ c.min-n.result b (c.in_ok-put_part.ensures.becomes t size size b.kept (omega arith) (omega arith) fits) refl refl (omega arith) (omega arith) (omega arith);
      adds = λ t is.
          let b = c.loop-done.invariant.adds t is in
          adds_more (g.F.Flash.image c.args.flash.now) (g.F.Flash.image c.loop-done.flash) (g.F.Flash.image c.put_part.new.flash) c.args.log.0 c.args.file.now.used c.loop-done.records (c.args.at / 128) _ (256 * c.args.file.now.pages - 32) (omega arith)
          (next_region c.args.at c.loop-done.done c.loop-done.records c.args.file.now.used c.loop-done.invariant.count (λ a. c.loop-done.invariant.turn a (omega arith))) b (c.in_ok-put_part.ensures.adds t b.more);
      others = λ t p out. c.put_part.ensures.other_pages t p out ∙ c.loop-done.invariant.others t p out;
      reads = omega arith;
      later = search rules;
      faults = search rules;
    }

pub returns-in_err-put_part-clause-cut : goal.returns-in_err-put_part-clause-cut
returns-in_err-put_part-clause-cut g c = λ t u. on_err c.from_residual.result (λ size is ends fits.
    let b = c.loop-done.invariant.becomes t size is ends fits in
    let part = c.in_err-put_part.ensures.cut t u size b.kept (omega arith) (omega arith) fits in
    overwrite_later (g.F.Flash.image c.args.flash.now) (g.F.Flash.image c.loop-done.flash) (g.F.Flash.image c.put_part.new.flash) c.args.bytes.now _ c.args.file.now.page.0 c.args.file.now.pages (Some c.args.log) c.loop-done.records size c.args.at _ c.loop-done.done _
    b part ends refl refl (omega arith) (omega arith) (λ some. c.loop-done.invariant.turn some (omega arith)) fits c.loop-done.invariant.size)
