use Rattle.std.proofs.Common.{◌≡◌, ℕ, List, length, ap, sym, subst, ◌∙◌, arith}
use Rattle.padded.proofs.Facts.{on_err}
use Rattle.coffee_mend.specs.Completed.{IsFirstWith}
use Rattle.coffee_mend.specs.Mended.{MendsLike}
use Rattle.coffee_mend.proofs.Completions.{completed, cut_completed, torn_like}
use Rattle.coffee_mend.proofs.completing.complete.Goals as goal

pub returns-in_err-find_region-clause-cut : goal.returns-in_err-find_region-clause-cut
returns-in_err-find_region-clause-cut g c = λ t u of. on_err c.from_residual.result
    (subst (MendsLike (g.F.Flash.image c.args.flash.now)) (sym c.find_region.ensures.frame.same)
    (torn_like (g.F.Flash.image c.args.flash.now) c.sectors.result c.sectors.ensures.size (omega (arith, c.sectors.ensures.most)) c.args.torn.now c.requires.torn c.args.file.now of))

pub returns-in_err-fill_record-in-Some-clause-cut : goal.returns-in_err-fill_record-in-Some-clause-cut
returns-in_err-fill_record-in-Some-clause-cut g c = λ t u of. on_err c.from_residual-in_err-fill_record-in-Some.result
    (let old : List ℕ = g.F.Flash.image c.args.flash.now in
    let new : List ℕ = g.F.Flash.image c.fill_record.new.flash in
    let same = c.in_ok-find_region.ensures.frame.same in
    let long : length new ≡ length old = c.fill_record.ensures.frame.size ∙ ap (λ (xs : List ℕ). length xs) same in
    let f : IsFirstWith old c.args.torn.now.place c.args.file.now c.in-Some.region c.find_region.new.into = rw c.in-Some.is at (c.in_ok-find_region.ensures.found t) in
    cut_completed old c.sectors.result c.sectors.ensures.size (omega (arith, c.sectors.ensures.most)) c.args.torn.now c.requires.torn c.args.file.now of new long c.in-Some.region c.find_region.new.into f
    (rw same at (c.in_err-fill_record-in-Some.ensures.cut t u)))

pub returns-in_ok-fill_record-in-Some-clause-completed : goal.returns-in_ok-fill_record-in-Some-clause-completed
returns-in_ok-fill_record-in-Some-clause-completed g c = λ t of is.
    let old : List ℕ = g.F.Flash.image c.args.flash.now in
    let new : List ℕ = g.F.Flash.image c.fill_record.new.flash in
    let same = c.in_ok-find_region.ensures.frame.same in
    let long : length new ≡ length old = c.fill_record.ensures.frame.size ∙ ap (λ (xs : List ℕ). length xs) same in
    let f : IsFirstWith old c.args.torn.now.place c.args.file.now c.in-Some.region c.find_region.new.into = rw c.in-Some.is at (c.in_ok-find_region.ensures.found t) in
    completed old c.sectors.result c.sectors.ensures.size (omega (arith, c.sectors.ensures.most)) c.args.torn.now c.requires.torn c.args.file.now of new long c.in-Some.region c.find_region.new.into f
    (rw same at (c.in_ok-fill_record-in-Some.ensures.filled t))
