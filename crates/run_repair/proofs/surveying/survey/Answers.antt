use Rattle.run_repair.proofs.Settled.{is_named_there, is_unnamed_there}
use Rattle.run_repair.proofs.surveying.survey.Goals as goal

pub returns-in-Some-clause-surveyed : goal.returns-in-Some-clause-surveyed
returns-in-Some-clause-surveyed g c = λ told.
    let files = (g.V.Files.state c.args.files.now).files in (
      (c.in_ok-may_be_cut.ensures.decides told).0 c.if-not-branch.false,
      is_named_there files c.in-Some.field-0 (rw (c.in_ok-may_be_cut.ensures.frame.same, c.catalog_file.ensures) at c.in-Some.ensures.found),
    )

pub returns-in-None-clause-surveyed : goal.returns-in-None-clause-surveyed
returns-in-None-clause-surveyed g c = λ told.
    let files = (g.V.Files.state c.args.files.now).files in (
      (c.in_ok-may_be_cut.ensures.decides told).0 c.if-not-branch.false,
      is_unnamed_there files (rw (c.in_ok-may_be_cut.ensures.frame.same, c.catalog_file.ensures) at c.in-None.ensures.none),
    )
