use Rattle.std.proofs.Common.{inl, inr, ap, sym, subst, ◌∙◌, arith, ⊎_elim}
use Rattle.std.proofs.lemmas.Result.{on_err_weaker, on_ok_weaker}
use Rattle.padded.proofs.Facts.{on_err}
use Rattle.coffee_merge.specs.Flags.{obsoleted}
use Rattle.coffee_merge.specs.Holding.{CommitsExtent}
use Rattle.coffee_merge.specs.CutMarks.{IsCutObsolete}
use Rattle.coffee_merge.proofs.CutMarkLaws.{one_of}
use Rattle.coffee_merge.proofs.Commits.{replaces}
use Rattle.coffee_merge.specs.Takes.{KeepsFree}
use Rattle.coffee_merge.proofs.Lowest.{replace_free}
use Rattle.coffee_merge.proofs.commit.replace_file.Goals as goal

pub returns-clause-replaced : goal.returns-clause-replaced
returns-clause-replaced g c =
    λ told.
    on_ok_weaker c.mark_obsolete.result
    (λ is table d i holds place in_table named last.
    subst (λ image. CommitsExtent (g.F.Flash.image c.args.flash.now) image table i d)
    (sym (is ∙ ap (λ image. obsoleted image c.args.old.now.page.0 c.args.old.now.log) (c.in_ok-program.ensures.programmed told)))
    (replaces (g.F.Flash.image c.args.flash.now) table d c.args.old.now i c.args.page holds place in_table named last))
    (c.mark_obsolete.ensures.obsolete told)

pub returns-clause-free : goal.returns-clause-free
returns-clause-free g c =
    λ told.
    on_ok_weaker c.mark_obsolete.result
    (λ is table d i holds place in_table.
    subst (λ image. KeepsFree (g.F.Flash.image c.args.flash.now) image)
    (sym (is ∙ ap (λ image. obsoleted image c.args.old.now.page.0 c.args.old.now.log) (c.in_ok-program.ensures.programmed told)))
    (replace_free (g.F.Flash.image c.args.flash.now) table d c.args.old.now i c.args.page holds place in_table))
    (c.mark_obsolete.ensures.obsolete told)

pub returns-in_err-program-clause-cut : goal.returns-in_err-program-clause-cut
returns-in_err-program-clause-cut g c = λ t u. on_err c.from_residual.result
    (⊎_elim inl (λ is. inr (inl is)) (one_of (g.F.Flash.image c.args.flash.now) (g.F.Flash.image c.program.new.self) _ _ (c.in_err-program.ensures.cut t u) (omega arith)))

pub returns-clause-cut : goal.returns-clause-cut
returns-clause-cut g c = λ t u. on_err_weaker c.mark_obsolete.result
    (λ cut. inr (subst (λ i. IsCutObsolete i (g.F.Flash.image c.mark_obsolete.new.flash) c.args.old.now.page.0 c.args.old.now.log) (c.in_ok-program.ensures.programmed t) cut)) (c.mark_obsolete.ensures.cut t u)
