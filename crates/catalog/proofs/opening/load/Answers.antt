use Rattle.std.proofs.Common.{ap, ◌∙◌}
use Rattle.db_model.specs.Catalog.{Catalog}
use Rattle.catalog.specs.Rules.{breaks_files, first}
use Rattle.catalog.proofs.Breaks.{breaks_14, breaks_18, breaks_inside, breaks_nothing}
use Rattle.catalog.proofs.opening.load.Goals as goal

pub returns-in-Some-clause-broken : goal.returns-in-Some-clause-broken
returns-in-Some-clause-broken g c = λ told. breaks_14 _ c.in-Some.place c.in-Some.ensures

pub returns-in-Err-clause-broken : goal.returns-in-Err-clause-broken
returns-in-Err-clause-broken g c = λ told.
    breaks_inside (g.V.Files.state c.args.files.now).files c.in-Err.bad.rule c.in-Err.bad.place c.in-None.ensures ((rw c.in-Err.is at c.in_ok-read_catalog.ensures.broken) told)

pub returns-in-Some-first_unmatched-clause-broken : goal.returns-in-Some-first_unmatched-clause-broken
returns-in-Some-first_unmatched-clause-broken g c = λ told.
    let files = (g.V.Files.state c.args.files.now).files in
    let catalog = (rw c.in-Ok.is at c.in_ok-read_catalog.ensures.catalog) told in
    let sound = (rw c.in-Ok.is at c.in_ok-read_catalog.ensures.sound) told in
    let found = rw c.in_ok-read_catalog.ensures.frame.same at c.in-Some-first_unmatched.ensures in
    breaks_18 files c.in-Some-first_unmatched.place c.in-None.ensures sound (found ∙ ap (λ (slots : Catalog). first 16 (breaks_files files slots.relations slots.indexes)) catalog)

pub returns-in-None-first_unmatched-clause-catalog : goal.returns-in-None-first_unmatched-clause-catalog
returns-in-None-first_unmatched-clause-catalog g c = λ told. (rw c.in-Ok.is at c.in_ok-read_catalog.ensures.catalog) told

pub returns-in-None-first_unmatched-clause-sound : goal.returns-in-None-first_unmatched-clause-sound
returns-in-None-first_unmatched-clause-sound g c = λ told.
    let files = (g.V.Files.state c.args.files.now).files in
    let catalog = (rw c.in-Ok.is at c.in_ok-read_catalog.ensures.catalog) told in
    let sound = (rw c.in-Ok.is at c.in_ok-read_catalog.ensures.sound) told in
    let none = rw c.in_ok-read_catalog.ensures.frame.same at c.in-None-first_unmatched.ensures in
    breaks_nothing files c.in-None.ensures sound (none ∙ ap (λ (slots : Catalog). first 16 (breaks_files files slots.relations slots.indexes)) catalog)
