use Rattle.std.proofs.Common.{◌≡◌, ◌∙◌, sym, ap, arith, get_or, List, Option, Some, None}
use Rattle.std.specs.Prelude.{option_map}
use Rattle.catalog.specs.CatalogFile.{index_in}
use Rattle.db_model.specs.Catalog.{Index}
use Rattle.padded.proofs.Facts.{false_true, seen_at}
use Rattle.stored.specs.CutTables.{index_read}
use Rattle.stored_survey.proofs.Seen.{default_same, not_ok, other_seen}
use Rattle.stored_survey.proofs.finding.half_of_index.Goals as goal

pub returns-in-None-clause-shows : goal.returns-in-None-clause-shows
returns-in-None-clause-shows g c = λ told read.
    let files = (g.V.Files.state c.args.files.now).files in
    let indexes = c.args.catalog.now.indexes in
    let here = default_same indexes c.args.slot None c.index-catalog-slot.result (omega (arith, c.requires.indexes, c.requires.slot)) in
    c.half_of_free.ensures (sym (ap (λ (is : List (Option Index)). get_or is c.args.slot None) read.indexes) ∙ seen_at index_in indexes c.args.slot ∙ ap (option_map index_in) (here ∙ c.in-None.is))

pub returns-then-not-is_heap-clause-shows : goal.returns-then-not-is_heap-clause-shows
returns-then-not-is_heap-clause-shows g c = λ told read.
    let files = (g.V.Files.state c.args.files.now).files in
    let indexes = c.args.catalog.now.indexes in
    let here = default_same indexes c.args.slot None c.index-catalog-slot.result (omega (arith, c.requires.indexes, c.requires.slot)) in
    other_seen files c.args.slot c.requires.slot (index_in c.in-Some.entry)
    (sym (ap (λ (is : List (Option Index)). get_or is c.args.slot None) read.indexes) ∙ seen_at index_in indexes c.args.slot ∙ ap (option_map index_in) (here ∙ c.in-Some.is))
    (λ kind. false_true c.is_heap.result c.if-not-is_heap.true (c.is_heap.ensures.1 kind))

pub returns-in_ok-half-in-Some-clause-shows : goal.returns-in_ok-half-in-Some-clause-shows
returns-in_ok-half-in-Some-clause-shows g c = λ told read.
    let files = (g.V.Files.state c.args.files.now).files in
    let indexes = c.args.catalog.now.indexes in
    let here = default_same indexes c.args.slot None c.index-catalog-slot.result (omega (arith, c.requires.indexes, c.requires.slot)) in
    let is : index_read files c.args.slot ≡ Some (index_in c.in-Some.entry) =
    sym (ap (λ (is : List (Option Index)). get_or is c.args.slot None) read.indexes) ∙ seen_at index_in indexes c.args.slot ∙ ap (option_map index_in) (here ∙ c.in-Some.is) in
    c.in_ok-half-in-Some.ensures.shows told read (record { below = c.requires.slot; read = is }) (c.is_heap.ensures.0 c.if-not-is_heap.false)

pub returns-in_err-half-in-Some-clause-shows : goal.returns-in_err-half-in-Some-clause-shows
returns-in_err-half-in-Some-clause-shows g c = λ told read. not_ok _ _ c.from_residual.result c.from_residual.ensures.1
