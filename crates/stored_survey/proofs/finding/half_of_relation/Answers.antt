use Rattle.std.proofs.Common.{◌≡◌, ◌∙◌, ◌*◌, ◌+◌, sym, ap, arith, subst, get_or, List, ℕ, Option, Some, None}
use Rattle.db_model.specs.declared.schemas.Schema.{Schema}
use Rattle.stored.specs.CutTables.{relation, slot_bytes}
use Rattle.stored_mend.specs.Slots.{IsReadSlot}
use Rattle.stored_survey.proofs.Seen.{default_same}
use Rattle.stored_survey.proofs.finding.half_of_relation.Goals as goal

pub returns-in-None-clause-shows : goal.returns-in-None-clause-shows
returns-in-None-clause-shows g c = λ told read.
    let files = (g.V.Files.state c.args.files.now).files in
    let relations = c.args.catalog.now.relations in
    let here = default_same relations c.args.slot None c.index-catalog-slot.result (omega (arith, c.requires.relations, c.requires.slot)) in
    let none : relation files c.args.slot ≡ None = sym (ap (λ (os : List (Option Schema)). get_or os c.args.slot None) read.relations) ∙ here ∙ c.in-None.is in
    (rw c.in_ok-bytes.ensures.frame.same at c.half_of_unused.ensures) none (c.in_ok-bytes.ensures.bytes told)

pub returns-in-Some-clause-shows : goal.returns-in-Some-clause-shows
returns-in-Some-clause-shows g c = λ told read.
    let files = (g.V.Files.state c.args.files.now).files in
    let relations = c.args.catalog.now.relations in
    let here = default_same relations c.args.slot None c.index-catalog-slot.result (omega (arith, c.requires.relations, c.requires.slot)) in
    let is : relation files c.args.slot ≡ Some c.in-Some.schema = sym (ap (λ (os : List (Option Schema)). get_or os c.args.slot None) read.relations) ∙ here ∙ c.in-Some.is in
    let bytes = c.in_ok-bytes.ensures.bytes told in
    (rw c.in_ok-bytes.ensures.frame.same at c.half_of_used.ensures)
    (subst (λ (xs : List ℕ). IsReadSlot xs c.in-Some.schema) (sym bytes) (read.slots c.args.slot c.in-Some.schema c.requires.slot is)) is bytes
