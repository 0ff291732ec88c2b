use Rattle.std.proofs.Common.{◌∙◌, arith}
use Rattle.stored_mend.proofs.ListedSound.{listed_sound}
use Rattle.stored_mend.proofs.ReportOnce.{reports_then}
use Rattle.stored_mend.proofs.mending.mend_listing.Goals as goal

pub returns-clause-listed : goal.returns-clause-listed
returns-clause-listed g c = λ told cut.
    listed_sound (g.V.Files.state c.remove_strays.new.files).files
    (c.in_ok-remove_strays.ensures.listed (c.in_ok-mend_catalog.ensures.kept.tells ∙ told) (c.in_ok-mend_catalog.ensures.listed told cut))

pub returns-clause-reported : goal.returns-clause-reported
returns-clause-reported g c = λ told cut.
    reports_then 26 16 42 _ _ _ _ _ _ (c.in_ok-mend_catalog.ensures.reported told cut) (c.in_ok-remove_strays.ensures.reported (c.in_ok-mend_catalog.ensures.kept.tells ∙ told) (c.in_ok-mend_catalog.ensures.listed told cut)) (omega arith)
