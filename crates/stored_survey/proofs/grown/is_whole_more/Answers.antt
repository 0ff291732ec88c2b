use Rattle.stored_survey.proofs.MoreParts.{fits_decides, no_attribute}
use Rattle.stored_survey.proofs.grown.is_whole_more.Goals as goal

pub returns-in-Some : goal.returns-in-Some
returns-in-Some c = record {
  is = λ e. fits_decides c.fits.result c.args.field.now c.args.schema.now c.in-Some.more e c.requires.few c.requires.length c.in-Some.ensures.some c.fits.ensures;
}

pub returns-in-None : goal.returns-in-None
returns-in-None c = record { is = λ e. no_attribute c.args.field.now c.args.schema.now c.requires.length c.in-None.ensures.none }
