use Rattle.std.proofs.Common.{◌≡◌, inl, inr, ap, sym, ◌∙◌, arith, ⊎_elim}
use Rattle.std.proofs.lemmas.Result.{on_err_weaker}
use Rattle.padded.proofs.Facts.{on_err}
use Rattle.coffee_merge.specs.Flags.{flagged, obsoleted}
use Rattle.coffee_merge.proofs.CutMarkLaws.{one_of}
use Rattle.coffee_merge.proofs.commit.mark_obsolete.Goals as goal

pub returns-in_err-program-clause-cut : goal.returns-in_err-program-clause-cut
returns-in_err-program-clause-cut g c = λ t u. on_err c.from_residual.result
    (⊎_elim inl (λ is. inr (inl is)) (one_of (g.F.Flash.image c.args.flash.now) (g.F.Flash.image c.program.new.self) _ _ (c.in_err-program.ensures.cut t u) (omega arith)))

pub returns-in-Some-clause-cut : goal.returns-in-Some-clause-cut
returns-in-Some-clause-cut g c = λ t u.
    let old = g.F.Flash.image c.args.flash.now in
    let first : g.F.Flash.image c.program.new.self ≡ flagged old c.args.file.now.page.0 4 = c.in_ok-program.ensures.programmed t in
    on_err_weaker c.program-in-Some.result
    (λ cut. inr (⊎_elim
    (λ is. inl (is ∙ first))
    (λ is. inr (is ∙ ap (λ i. flagged i c.in-Some.log.0 4) first ∙ ap (λ log. obsoleted old c.args.file.now.page.0 log) (sym c.in-Some.is)))
    (one_of (g.F.Flash.image c.program.new.self) (g.F.Flash.image c.program-in-Some.new.self) _ _ cut (omega arith))))
    (c.program-in-Some.ensures.cut t u)
