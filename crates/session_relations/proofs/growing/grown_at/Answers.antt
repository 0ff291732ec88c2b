use Rattle.std.proofs.Common.{arith, ◌≡◌, ◌<◌, List, [], length, Ok, Err, ap, subst, sym, ◌∙◌}
use Rattle.std.proofs.lemmas.List.{nil_from_length}
use Rattle.std.proofs.lemmas.Result.{err_from_is_err_and}
use Rattle.padded.proofs.Facts.{some_same}
use Rattle.db_model.specs.declared.refusals.Refusal.{Refusal}
use Rattle.db_model.specs.Row.{Row}
use Rattle.db_model.specs.Step.{Fine, add_attribute}
use Rattle.tuple_file.specs.declared.tuples.Tuples.{Tuples}
use Rattle.tuple_file.specs.Tuples.{rows}
use Rattle.session_relations.proofs.Found.{slot_item}
use Rattle.session_relations.proofs.growing.grown_at.Goals as goal

pub returns-in_ok-with_attribute-in-Some-clause-made : goal.returns-in_ok-with_attribute-in-Some-clause-made
returns-in_ok-with_attribute-in-Some-clause-made g c = λ db t there.
    let files = (g.V.Files.state c.args.files.now).files in
    let held = c.args.held.now in
    let slot = c.args.at.now.slot in
    let was = c.in-Some.tuples in
    let grown = c.in_ok-with_attribute-in-Some.field-0 in
    let below : slot < length held.relations = omega (arith, c.requires.eight) in
    let here = slot_item held.relations c.number.result slot c.index-held-number.result was c.number.ensures.value below c.index-held-number.is c.in-Some.is in
    let same : was ≡ t = some_same was t (sym here ∙ there) in
    let many : length (rows files was) ≡ c.count.result = sym c.count.ensures.rows in
    let none : rows files was ≡ [] = nil_from_length (rows files was) (many ∙ c.in_ok-with_attribute-in-Some.ensures.empty) in
    let made = c.in_ok-with_attribute-in-Some.ensures.made slot db (rows files was) many in
    subst (λ (z : Tuples). add_attribute c.args.name.now c.args.domain.now slot db (record { schema = z.schema; rows = rows files z }) ≡ Ok (record { schema = grown.schema; rows = [] }, Fine)) same
    (made ∙ ap (λ (all : List Row). Ok (record { schema = grown.schema; rows = all }, Fine)) none)

pub returns-in_err-with_attribute-in-Some-clause-refused : goal.returns-in_err-with_attribute-in-Some-clause-refused
returns-in_err-with_attribute-in-Some-clause-refused g c =
    let said = err_from_is_err_and c.from_residual.result c.from_residual.ensures.1 in
    let files = (g.V.Files.state c.args.files.now).files in
    let held = c.args.held.now in
    let slot = c.args.at.now.slot in
    let was = c.in-Some.tuples in
    let below : slot < length held.relations = omega (arith, c.requires.eight) in
    let here = slot_item held.relations c.number.result slot c.index-held-number.result was c.number.ensures.value below c.index-held-number.is c.in-Some.is in
    rw said.1 (λ db t there.
    let same : was ≡ t = some_same was t (sym here ∙ there) in
    subst (λ (z : Tuples). add_attribute c.args.name.now c.args.domain.now slot db (record { schema = z.schema; rows = rows files z }) ≡ Err said.0) same
    (c.in_err-with_attribute-in-Some.ensures.refused slot db (rows files was) (sym c.count.ensures.rows) ∙ ap (λ (refusal : Refusal). Err refusal) (sym said.2)))
