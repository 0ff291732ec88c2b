use Rattle.std.proofs.Common.{◌≡◌, ◌+◌, ◌-◌, ◌*◌, ◌/◌, max, length, take, get_or, Some, refl, arith, ap, sym, subst, ⊎_elim, ◌∙◌}
use Rattle.std.proofs.lemmas.List.{get_or-replicate, take_all}
use Rattle.afl_base.specs.declared.ids.PageId.{PageId}
use Rattle.padded.proofs.Facts.{on_err, some_same}
use Rattle.coffee_log.proofs.AddedRecords.{part_adds}
use Rattle.coffee_log.proofs.FileCutLaws.{overwrite_before, overwrite_behind, overwrite_same, puts_below}
use Rattle.coffee_log.specs.Logs.{IsLog}
use Rattle.coffee_log.specs.FileChanges.{BeginsBelow, FileBecomes}
use Rattle.coffee_log.proofs.ContentLaws.{put_here, put_outside}
use Rattle.coffee_log.proofs.RecordPuts.{part_becomes}
use Rattle.coffee_log.proofs.contents.put_part.Goals as goal

pub returns-clause-becomes : goal.returns-clause-becomes
returns-clause-becomes g c = λ t size total is grows ends fits.
    part_becomes (g.F.Flash.image c.args.flash.now) (g.F.Flash.image c.load_front.new.flash) (g.F.Flash.image c.log_put.new.flash) c.put_bytes.new.bytes c.args.bytes.now c.args.file.now.page.0 c.args.file.now.pages c.args.log c.args.used size total c.args.at _ is
    c.in_ok-load_front.ensures.frame.same (omega arith) (c.in_ok-log_put.ensures.put t) (omega arith) (omega arith) grows ends fits
    (λ k low within out. put_outside c.load_front.new.buffer c.put_bytes.new.bytes c.args.bytes.now _ k c.put_bytes.ensures (omega arith) (λ a b. out (omega arith) (omega arith)) ∙ c.in_ok-load_front.ensures.bytes t k (omega arith))
    (λ k low. put_here c.load_front.new.buffer c.put_bytes.new.bytes c.args.bytes.now _ k c.put_bytes.ensures (omega arith) low)

pub returns-clause-adds : goal.returns-clause-adds
returns-clause-adds g c = λ t was.
    part_adds (g.F.Flash.image c.args.flash.now) (g.F.Flash.image c.load_front.new.flash) (g.F.Flash.image c.log_put.new.flash) c.put_bytes.new.bytes c.args.log.0 c.args.used _ (c.args.at / 128) (256 * c.args.file.now.pages - 32) was
    c.in_ok-load_front.ensures.frame.same (omega arith) (c.in_ok-log_put.ensures.put t)
    (λ k low behind. put_outside c.load_front.new.buffer c.put_bytes.new.bytes c.args.bytes.now _ k c.put_bytes.ensures (omega arith) (λ a b. omega arith) ∙ c.load_front.ensures.behind k (omega arith) ∙ get_or-replicate 128 k 0 0 low)

pub returns-in_err-load_front-clause-cut : goal.returns-in_err-load_front-clause-cut
returns-in_err-load_front-clause-cut g c = λ t u. on_err c.from_residual.result (λ size is low begins fits.
    overwrite_same (g.F.Flash.image c.args.flash.now) (g.F.Flash.image c.load_front.new.flash) c.args.bytes.now c.args.file.now.page.0 c.args.file.now.pages (Some c.args.log) c.args.used size c.args.at is low c.load_front.ensures.frame.same)

pub returns-in_err-log_put-clause-cut : goal.returns-in_err-log_put-clause-cut
returns-in_err-log_put-clause-cut g c = λ t u. on_err c.from_residual-in_err-log_put.result (λ size is low begins fits.
    let same = c.in_ok-load_front.ensures.frame.same in
    let was : IsLog (g.F.Flash.image c.load_front.new.flash) c.args.log.0 c.args.used = subst (λ i. IsLog i c.args.log.0 c.args.used) (sym same) (is.logged c.args.log refl) in
    let all : take (length c.args.bytes.now) c.args.bytes.now ≡ c.args.bytes.now = take_all (length c.args.bytes.now) c.args.bytes.now (omega arith) in
    ⊎_elim
    (λ torn. overwrite_before (g.F.Flash.image c.args.flash.now) (g.F.Flash.image c.log_put.new.flash) c.args.bytes.now c.args.file.now.page.0 c.args.file.now.pages (Some c.args.log) c.args.used size c.args.at is low
    (λ k out. torn k out ∙ ap (λ i. get_or i k 0) same))
    (λ puts. overwrite_behind (g.F.Flash.image c.args.flash.now) (g.F.Flash.image c.log_put.new.flash) c.args.bytes.now c.args.file.now.page.0 c.args.file.now.pages (Some c.args.log) (c.args.used + 1) size c.args.at
    (subst (λ xs. FileBecomes (g.F.Flash.image c.args.flash.now) (g.F.Flash.image c.log_put.new.flash) c.args.file.now.page.0 c.args.file.now.pages (Some c.args.log) (c.args.used + 1) (max size (c.args.at + length c.args.bytes.now)) c.args.at xs) (sym all)
    (part_becomes (g.F.Flash.image c.args.flash.now) (g.F.Flash.image c.load_front.new.flash) (g.F.Flash.image c.log_put.new.flash) c.put_bytes.new.bytes c.args.bytes.now c.args.file.now.page.0 c.args.file.now.pages c.args.log c.args.used size (max size (c.args.at + length c.args.bytes.now)) c.args.at _ is
    same (omega arith) (λ was. puts) (omega arith) (omega arith) (omega arith) (omega arith) (omega arith)
    (λ k low within out. put_outside c.load_front.new.buffer c.put_bytes.new.bytes c.args.bytes.now _ k c.put_bytes.ensures (omega arith) (λ a b. out (omega arith) (omega arith)) ∙ c.in_ok-load_front.ensures.bytes t k (omega arith))
    (λ k low. put_here c.load_front.new.buffer c.put_bytes.new.bytes c.args.bytes.now _ k c.put_bytes.ensures (omega arith) low)))
    (λ l named. subst (λ (m : PageId). BeginsBelow (g.F.Flash.image c.log_put.new.flash) m.0 (c.args.used + 1) size) (some_same c.args.log l named)
    (puts_below (g.F.Flash.image c.load_front.new.flash) (g.F.Flash.image c.log_put.new.flash) c.args.log.0 c.args.used _ size c.put_bytes.new.bytes puts (omega arith)
    (subst (λ i. BeginsBelow i c.args.log.0 c.args.used size) (sym same) (is.below c.args.log refl)) (omega arith)))
    (c.log_put.ensures.frame.size ∙ ap length same))
    (c.in_err-log_put.ensures.cut t u was))
