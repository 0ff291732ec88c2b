use Rattle.std.proofs.Common.{ap, sym, ◌∙◌, length}
use Rattle.afl_base.specs.Files.{bytes_at}
use Rattle.db_model.specs.Catalog.{catalog_of}
use Rattle.catalog.specs.CatalogFile.{indexes_in}
use Rattle.catalog.proofs.Breaks.{big_enough, breaks_15, breaks_16, breaks_17, breaks_none, empty_breaks_none, form_of, nothing, same_catalog}
use Rattle.catalog.proofs.opening.read_file.Goals as goal

pub returns-in-None-clause-broken : goal.returns-in-None-clause-broken
returns-in-None-clause-broken g c = λ told. breaks_15 _ (sym c.in-None.is ∙ c.in_ok-version.ensures.version told)

pub returns-then-size-eq0-clause-catalog : goal.returns-then-size-eq0-clause-catalog
returns-then-size-eq0-clause-catalog g c = λ told.
    let size = rw c.in_ok-version.ensures.frame.same at c.size.ensures in
    c.clear.ensures.slots ∙ ap catalog_of (nothing (bytes_at (g.V.Files.state c.args.files.now).files c.args.cat) (sym size ∙ c.if-size-eq0.true))

pub returns-then-size-eq0-clause-sound : goal.returns-then-size-eq0-clause-sound
returns-then-size-eq0-clause-sound g c = λ told.
    let size = rw c.in_ok-version.ensures.frame.same at c.size.ensures in
    empty_breaks_none (bytes_at (g.V.Files.state c.args.files.now).files c.args.cat) (sym size ∙ c.if-size-eq0.true)

pub load_relations-requires-clause-version : goal.load_relations-requires-clause-version
load_relations-requires-clause-version g c =
    rw c.in_ok-version.ensures.frame.same (λ told. (form_of (bytes_at (g.V.Files.state c.args.files.now).files c.args.cat) c.in-Some.version (sym c.in-Some.is ∙ c.in_ok-version.ensures.version told)).1)

pub returns-in-Err-clause-broken : goal.returns-in-Err-clause-broken
returns-in-Err-clause-broken g c = λ told.
    let bytes = bytes_at (g.V.Files.state c.args.files.now).files c.args.cat in
    let form = form_of bytes c.in-Some.version (sym c.in-Some.is ∙ c.in_ok-version.ensures.version told) in
    let size = rw c.in_ok-version.ensures.frame.same at c.size.ensures in
    let broken = (rw (c.in_ok-version.ensures.frame.same, c.in-Err.is) at c.in_ok-load_relations.ensures.broken) told in
    breaks_16 bytes c.in-Err.place form.0 (λ e. c.if-size-eq0.false (size ∙ e)) broken

pub load_indexes-requires-clause-size : goal.load_indexes-requires-clause-size
load_indexes-requires-clause-size g c =
    let size = rw c.in_ok-version.ensures.frame.same at c.size.ensures in
    rw (c.in_ok-load_relations.ensures.frame.same, c.in_ok-version.ensures.frame.same) (big_enough (length (bytes_at (g.V.Files.state c.args.files.now).files c.args.cat)) (rw c.in-Some.is at c.in_ok-version.ensures.size) (λ e. c.if-size-eq0.false (size ∙ e)))

pub load_indexes-requires-clause-relations : goal.load_indexes-requires-clause-relations
load_indexes-requires-clause-relations g c =
    rw c.in_ok-load_relations.ensures.frame.same (rw c.in-Ok.is at c.in_ok-load_relations.ensures.relations)

pub returns-in-Err-2-clause-broken : goal.returns-in-Err-2-clause-broken
returns-in-Err-2-clause-broken g c = λ told.
    let bytes = bytes_at (g.V.Files.state c.args.files.now).files c.args.cat in
    let form = form_of bytes c.in-Some.version (sym c.in-Some.is ∙ c.in_ok-version.ensures.version told) in
    let size = rw c.in_ok-version.ensures.frame.same at c.size.ensures in
    let relations = (rw (c.in_ok-version.ensures.frame.same, c.in-Ok.is) at c.in_ok-load_relations.ensures.sound) told in
    let broken = (rw (c.in_ok-load_relations.ensures.frame.same, c.in_ok-version.ensures.frame.same, c.in-Err-2.is) at c.in_ok-indexes.ensures.broken) told in
    breaks_17 bytes c.in-Err-2.place form.0 (λ e. c.if-size-eq0.false (size ∙ e)) relations broken

pub returns-clause-catalog : goal.returns-clause-catalog
returns-clause-catalog g c = λ told.
    let bytes = bytes_at (g.V.Files.state c.args.files.now).files c.args.cat in
    let form = form_of bytes c.in-Some.version (sym c.in-Some.is ∙ c.in_ok-version.ensures.version told) in
    let relations = (rw (c.in_ok-version.ensures.frame.same, c.in-Ok.is) at c.in_ok-load_relations.ensures.relations) told in
    let indexes = (rw (c.in_ok-load_relations.ensures.frame.same, c.in_ok-version.ensures.frame.same, c.in-Ok-2.is) at c.in_ok-indexes.ensures.indexes) told in
    same_catalog bytes c.in-Some.version c.load_relations.new.relations (indexes_in c.in-Ok-2.indexes) form.1 relations indexes

pub returns-clause-sound : goal.returns-clause-sound
returns-clause-sound g c = λ told.
    let bytes = bytes_at (g.V.Files.state c.args.files.now).files c.args.cat in
    let form = form_of bytes c.in-Some.version (sym c.in-Some.is ∙ c.in_ok-version.ensures.version told) in
    let size = rw c.in_ok-version.ensures.frame.same at c.size.ensures in
    let relations = (rw (c.in_ok-version.ensures.frame.same, c.in-Ok.is) at c.in_ok-load_relations.ensures.sound) told in
    let indexes = (rw (c.in_ok-load_relations.ensures.frame.same, c.in_ok-version.ensures.frame.same, c.in-Ok-2.is) at c.in_ok-indexes.ensures.sound) told in
    breaks_none bytes form.0 (λ e. c.if-size-eq0.false (size ∙ e)) relations indexes

pub returns-clause-formed : goal.returns-clause-formed
returns-clause-formed g c = record {
  version = rw c.in-Some.is at c.in_ok-version.ensures.number;
  eight_relations = rw c.in-Ok.is at c.in_ok-load_relations.ensures.eight;
  eight_indexes = rw c.in-Ok-2.is at c.in_ok-indexes.ensures.eight;
  schemas = rw c.in-Ok.is at c.in_ok-load_relations.ensures.formed;
  indexes = rw c.in-Ok-2.is at c.in_ok-indexes.ensures.behind;
}

pub returns-clause-size : goal.returns-clause-size
returns-clause-size g c = rw c.in-Some.is at c.in_ok-version.ensures.size
