use Rattle.std.proofs.Common.{◌≡◌, ◌∙◌, sym, ap, arith, get_or, List, Option, Some, None}
use Rattle.std.specs.Prelude.{option_map}
use Rattle.catalog.specs.CatalogFile.{index_in}
use Rattle.db_model.specs.Catalog.{Index}
use Rattle.padded.proofs.Facts.{seen_at}
use Rattle.stored.specs.CutTables.{index_read}
use Rattle.stored_survey.proofs.Seen.{default_same, not_ok}
use Rattle.stored_survey.proofs.indexes.is_sound_index.Goals as goal

pub returns-in-None-clause-kept : goal.returns-in-None-clause-kept
returns-in-None-clause-kept g c = λ told read sound.
    let indexes = c.args.catalog.now.indexes in
    let here = default_same indexes c.args.slot None c.index-catalog-slot.result (omega (arith, c.requires.indexes, c.requires.slot)) in
    c.is_sound_unindexed.ensures (sym (ap (λ (is : List (Option Index)). get_or is c.args.slot None) read.indexes) ∙ seen_at index_in indexes c.args.slot ∙ ap (option_map index_in) (here ∙ c.in-None.is))

pub returns-in_ok-sound-in-Some-clause-kept : goal.returns-in_ok-sound-in-Some-clause-kept
returns-in_ok-sound-in-Some-clause-kept g c = λ told read sound.
    let files = (g.V.Files.state c.args.files.now).files in
    let indexes = c.args.catalog.now.indexes in
    let here = default_same indexes c.args.slot None c.index-catalog-slot.result (omega (arith, c.requires.indexes, c.requires.slot)) in
    let is : index_read files c.args.slot ≡ Some (index_in c.in-Some.entry) =
    sym (ap (λ (is : List (Option Index)). get_or is c.args.slot None) read.indexes) ∙ seen_at index_in indexes c.args.slot ∙ ap (option_map index_in) (here ∙ c.in-Some.is) in
    c.in_ok-sound-in-Some.ensures.kept told read sound (record { below = c.requires.slot; read = is })

pub returns-in_err-sound-in-Some-clause-kept : goal.returns-in_err-sound-in-Some-clause-kept
returns-in_err-sound-in-Some-clause-kept g c = λ told read sound. not_ok _ _ c.from_residual.result c.from_residual.ensures.1
