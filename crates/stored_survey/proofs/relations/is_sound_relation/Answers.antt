use Rattle.std.proofs.Common.{◌≡◌, ◌∙◌, sym, ap, arith, get_or, List, Option, Some, None}
use Rattle.db_model.specs.declared.schemas.Schema.{Schema}
use Rattle.stored.specs.CutTables.{relation}
use Rattle.stored_survey.proofs.Seen.{default_same}
use Rattle.stored_survey.proofs.relations.is_sound_relation.Goals as goal

pub returns-in-None-clause-sound : goal.returns-in-None-clause-sound
returns-in-None-clause-sound g c = λ told read.
    let files = (g.V.Files.state c.args.files.now).files in
    let relations = c.args.catalog.now.relations in
    let here = default_same relations c.args.slot None c.index-catalog-slot.result (omega (arith, c.requires.relations, c.requires.slot)) in
    let none : relation files c.args.slot ≡ None = sym (ap (λ (os : List (Option Schema)). get_or os c.args.slot None) read.relations) ∙ here ∙ c.in-None.is in
    (rw c.in_ok-bytes.ensures.frame.same at c.is_sound_free.ensures) none (c.in_ok-bytes.ensures.bytes told)

pub returns-in_ok-sound-in-Some-clause-sound : goal.returns-in_ok-sound-in-Some-clause-sound
returns-in_ok-sound-in-Some-clause-sound g c = λ told read.
    let files = (g.V.Files.state c.args.files.now).files in
    let relations = c.args.catalog.now.relations in
    let here = default_same relations c.args.slot None c.index-catalog-slot.result (omega (arith, c.requires.relations, c.requires.slot)) in
    let is : relation files c.args.slot ≡ Some c.in-Some.schema = sym (ap (λ (os : List (Option Schema)). get_or os c.args.slot None) read.relations) ∙ here ∙ c.in-Some.is in
    (rw c.in_ok-bytes.ensures.frame.same at c.in_ok-sound-in-Some.ensures.sound) told read is (c.in_ok-bytes.ensures.bytes told)
