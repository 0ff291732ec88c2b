use Rattle.std.proofs.Common.{◌+◌, refl, subst, sym}
use Rattle.afl_base.specs.Files.{State}
use Rattle.stored_mend.specs.Listed.{IsListedTo, relations_below}
use Rattle.stored_mend.proofs.ListedSlots.{strange_listed}
use Rattle.stored_mend.proofs.ListedSteps.{listed_unwritten}
use Rattle.stored_mend.proofs.ReportOnce.{reports_more, reports_nothing}
use Rattle.stored_mend.proofs.CutCalls.{left_read}
use Rattle.stored_mend.proofs.CutListed.{listed_is_cut}
use Rattle.stored_mend.proofs.catalogs.mend_relation.Goals as goal

pub returns-in_default-clause-listed : goal.returns-in_default-clause-listed
returns-in_default-clause-listed g c = λ told l.
    listed_unwritten (g.V.Files.state c.args.files.now).files (relations_below c.args.slot) (relations_below (c.args.slot + 1)) refl l c.in_default.ensures.none

pub returns-in-None-clause-listed : goal.returns-in-None-clause-listed
returns-in-None-clause-listed g c = λ told l.
    subst (λ (s : State). IsListedTo (relations_below (c.args.slot + 1)) s.files) (sym c.in_ok-relation_in.ensures.frame.same)
    (strange_listed (g.V.Files.state c.args.files.now).files c.in-Some.cat c.args.slot (relations_below c.args.slot) (relations_below (c.args.slot + 1)) c.requires.slot c.in-Some.ensures.found.whole l
    (rw c.in-None.is at (c.in_ok-relation_in.ensures.strange told c.in-Some.ensures.found.whole)))

-- what is left where the slot could not be read

pub returns-in_err-relation_in-clause-cut : goal.returns-in_err-relation_in-clause-cut
returns-in_err-relation_in-clause-cut g c = λ told l cuts failed.
    left_read g.V.Files.state c.args.files.now c.relation_in.new.files c.in_err-relation_in.ensures.frame.same
    (record { cut = listed_is_cut (relations_below c.args.slot) (g.V.Files.state c.args.files.now).files l; is = refl }) (g.V.Files.mended c.args.files.now cuts told)

pub returns-in_default-clause-reported : goal.returns-in_default-clause-reported
returns-in_default-clause-reported g c = λ told. reports_nothing 2 _ _ _ _ refl refl

pub returns-in-None-clause-reported : goal.returns-in-None-clause-reported
returns-in-None-clause-reported g c = λ told. reports_nothing 2 _ _ _ _ c.in_ok-relation_in.ensures.frame.same refl
