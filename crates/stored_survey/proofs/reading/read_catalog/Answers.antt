use Rattle.std.proofs.Common.{◌≡◌, ◌∙◌, sym, ap, List, ℕ, Option, None, get_or, subst}
use Rattle.db_model.specs.declared.schemas.Schema.{Schema}
use Rattle.db_model.specs.Catalog.{catalog_of}
use Rattle.afl_base.proofs.FileLaws.{named_live}
use Rattle.space_model.specs.FileNames.{catalog_file}
use Rattle.stored_survey.proofs.Listed.{all_stand, one_falls, version_is}
use Rattle.stored_survey.proofs.Slots.{relations_read}
use Rattle.stored_survey.proofs.SlotsRead.{whole_is}
use Rattle.stored_survey.proofs.reading.read_catalog.Goals as goal

pub load_indexes-requires-clause-relations : goal.load_indexes-requires-clause-relations
load_indexes-requires-clause-relations g c =
    let files = (g.V.Files.state c.args.files.now).files in
    let read = rw c.in-Some.is at c.in_ok-read.ensures.read in
    rw c.in_ok-read.ensures.frame.same (λ told. read told ∙ ap (λ (xs : List ℕ). (catalog_of xs).relations) (sym (whole_is files c.args.cat c.requires.whole)))

pub load_indexes-requires-clause-live : goal.load_indexes-requires-clause-live
load_indexes-requires-clause-live g c =
    rw c.in_ok-read.ensures.frame.same (named_live (g.V.Files.state c.args.files.now).files c.args.cat catalog_file c.requires.whole.named)

pub size-requires : goal.size-requires
size-requires g c =
    rw (c.in_ok-loaded-in-Some.ensures.frame.same, c.in_ok-read.ensures.frame.same) (named_live (g.V.Files.state c.args.files.now).files c.args.cat catalog_file c.requires.whole.named)

pub returns-in-None-clause-none : goal.returns-in-None-clause-none
returns-in-None-clause-none g c = λ told. (rw c.in-None.is at c.in_ok-read.ensures.none) told

pub returns-in-Err-clause-none : goal.returns-in-Err-clause-none
returns-in-Err-clause-none g c = λ told.
    one_falls (g.V.Files.state c.args.files.now).files c.args.cat c.requires.whole _ ((rw (c.in_ok-read.ensures.frame.same, c.in-Err.is) at c.in_ok-loaded-in-Some.ensures.broken) told)

pub returns-in-Ok-clause-read : goal.returns-in-Ok-clause-read
returns-in-Ok-clause-read g c = λ told.
    let files = (g.V.Files.state c.args.files.now).files in
    let w = c.requires.whole in
    let relations = (rw c.in-Some.is at c.in_ok-read.ensures.read) told in
    let listed = (rw c.in-Some.is at c.in_ok-read.ensures.slots) told in
    let whole = whole_is files c.args.cat w in
    record {
      version = version_is files c.args.cat w c.in-Some.relations c.size.result c.version_of.result relations (rw (c.in_ok-loaded-in-Some.ensures.frame.same, c.in_ok-read.ensures.frame.same) at c.size.ensures) c.version_of.ensures;
      relations = relations ∙ sym (relations_read files);
      indexes = ((rw (c.in_ok-read.ensures.frame.same, c.in-Ok.is) at c.in_ok-loaded-in-Some.ensures.indexes) told) ∙ ap (λ (xs : List ℕ). (catalog_of xs).indexes) whole;
      slots = λ k schema below is. listed k schema below (ap (λ (os : List (Option Schema)). get_or os k None) (relations ∙ sym (relations_read files)) ∙ is);
      behind = all_stand files c.args.cat w ((rw (c.in_ok-read.ensures.frame.same, c.in-Ok.is) at c.in_ok-loaded-in-Some.ensures.sound) told);
    }
