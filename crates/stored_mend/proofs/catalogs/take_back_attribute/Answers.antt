use Rattle.std.proofs.Common.{◌∙◌, ℕ, ◌-◌, ◌*◌, List, length, ap, sym, arith, refl, ◌≡◌}
use Rattle.std.proofs.lemmas.List.{length-replicate}
use Rattle.std.proofs.lemmas.Grind.{common_steps}
use Rattle.stored_mend.specs.Listed.{relations_below}
use Rattle.stored_mend.proofs.CatalogKept.{attribute_kept, schema_kept}
use Rattle.stored_mend.proofs.ListedSlots.{cleared_listed, rest_zeros, schema_done, zeros_listed}
use Rattle.stored_mend.proofs.ListedSteps.{half_written}
use Rattle.stored_mend.proofs.ReportCatalog.{attribute_reported}
use Rattle.stored_mend.proofs.ReportOnce.{reports_nothing}
use Rattle.afl_base.specs.Files.{KeepsBytes, State}
use Rattle.db_model.specs.Database.{Database}
use Rattle.stored.specs.Mended.{mended_base}
use Rattle.stored_mend.specs.Interrupted.{IsCutState}
use Rattle.stored_mend.proofs.CutAttributes.{attribute_left}
use Rattle.stored_mend.proofs.CutCalls.{failed_handed, left_after, left_read, room_left, space_handed}
use Rattle.stored_mend.proofs.CutListed.{listed_is_cut}
use Rattle.stored_mend.proofs.catalogs.take_back_attribute.Goals as goal

pub returns-clause-kept : goal.returns-clause-kept
returns-clause-kept g c = λ is.
    attribute_kept (g.V.Files.state c.args.files.now) (g.V.Files.state c.overwrite.new.files) c.in-Some.cat c.args.slot _ _ c.args.schema.now c.in-Some.ensures.found.whole c.requires.slot
    (rw c.in_ok-read.ensures.frame.same at c.in_ok-overwrite.ensures.put) is
    (grind (arith, common_steps, c.len-front.ensures.value, c.len-front.ensures.few))
    (omega (arith, c.from.ensures, c.len-front.ensures.value))

pub returns-in_default-clause-listed : goal.returns-in_default-clause-listed
returns-in_default-clause-listed g c = λ told is m.
    let files = (g.V.Files.state c.args.files.now).files in
    let done = schema_done files c.args.slot c.args.schema.now (relations_below c.args.slot) c.requires.slot (is told) m.listed in
    absurd (c.in_default.ensures.none (half_written files done.0 m.listed.known done.1.done))

pub returns-then-is_zeros-clause-listed : goal.returns-then-is_zeros-clause-listed
returns-then-is_zeros-clause-listed g c = λ told is m.
    let old = g.V.Files.state c.args.files.now in
    let n = length c.args.schema.now.attributes in
    zeros_listed old (g.V.Files.state c.read.new.self) c.in-Some.cat c.args.slot c.args.schema.now c.requires.slot told c.in-Some.ensures.found.whole (is told) (omega (arith, c.len-front.ensures.value, c.len-front.ensures.few)) m
    c.in_ok-read.ensures.frame.same _ _ c.read.new.into (c.in_ok-read.ensures.bytes told) (sym c.if-is_zeros.ensures)
    (omega (arith, c.from.ensures, c.len-front.ensures.value))
    (ap (λ (xs : List ℕ). length xs) (rest_zeros c.len-front.result n c.len-front.ensures.value) ∙ length-replicate {A = ℕ} (144 - 18 * n) 0)

pub returns-clause-listed : goal.returns-clause-listed
returns-clause-listed g c = λ told is m.
    let old = g.V.Files.state c.args.files.now in
    cleared_listed old (g.V.Files.state c.overwrite.new.files) c.in-Some.cat c.args.slot c.args.schema.now c.requires.slot told c.in-Some.ensures.found.whole (is told) (omega (arith, c.len-front.ensures.value, c.len-front.ensures.few)) m
    _ _ (omega (arith, c.from.ensures, c.len-front.ensures.value)) (rest_zeros c.len-front.result (length c.args.schema.now.attributes) c.len-front.ensures.value) (rw c.in_ok-read.ensures.frame.same at c.in_ok-overwrite.ensures.put) (returns-clause-kept g c is).base

-- what is left where a call failed

pub returns-in_err-read-clause-cut : goal.returns-in_err-read-clause-cut
returns-in_err-read-clause-cut g c = λ told is m cuts failed.
    left_read g.V.Files.state c.args.files.now c.read.new.self c.in_err-read.ensures.frame.same
    (record { cut = listed_is_cut (relations_below c.args.slot) (g.V.Files.state c.args.files.now).files m.listed; is = refl }) (g.V.Files.mended c.args.files.now cuts told)

pub returns-in_err-overwrite-clause-cut : goal.returns-in_err-overwrite-clause-cut
returns-in_err-overwrite-clause-cut g c = λ told is m cuts failed.
    let old = g.V.Files.state c.args.files.now in
    let left = rw c.in_ok-read.ensures.frame.same at c.overwrite.ensures.cut in
    left_after
    (left cuts told (failed_handed c.overwrite.result c.from_residual-in_err-overwrite.result c.in_err-overwrite.field-0.0 c.in_err-overwrite.was c.from_residual-in_err-overwrite.ensures.1 failed))
    (λ (after : State) f.
    attribute_left old after c.in-Some.cat c.args.slot (relations_below c.args.slot) c.args.schema.now c.requires.slot told c.in-Some.ensures.found.whole
    (omega (arith, c.len-front.ensures.value, c.len-front.ensures.few)) m.listed _ _
    (omega (arith, c.from.ensures, c.len-front.ensures.value)) (rest_zeros c.len-front.result (length c.args.schema.now.attributes) c.len-front.ensures.value) is f)

pub returns-in_err-overwrite-clause-space : goal.returns-in_err-overwrite-clause-space
returns-in_err-overwrite-clause-space g c = λ told is m.
    let old = g.V.Files.state c.args.files.now in
    let new = g.V.Files.state c.overwrite.new.files in
    let cat = c.in-Some.cat in
    let same : Database → Type 0 = λ db. db ≡ mended_base old.files in
    let kept = rw c.in_ok-read.ensures.frame.same at c.overwrite.ensures.space in
    space_handed c.overwrite.result c.from_residual-in_err-overwrite.result c.in_err-overwrite.field-0.0 (KeepsBytes old new cat) (IsCutState new same) c.in_err-overwrite.was c.from_residual-in_err-overwrite.ensures.1
    (λ k. room_left old new cat c.in-Some.ensures.found.live told k same c.requires.idle (listed_is_cut (relations_below c.args.slot) old.files m.listed) refl)
    kept

pub returns-in_default-clause-reported : goal.returns-in_default-clause-reported
returns-in_default-clause-reported g c = λ told is. reports_nothing 1 _ _ _ _ refl refl

pub returns-then-is_zeros-clause-reported : goal.returns-then-is_zeros-clause-reported
returns-then-is_zeros-clause-reported g c = λ told is. reports_nothing 1 _ _ _ _ c.in_ok-read.ensures.frame.same refl

pub returns-clause-reported : goal.returns-clause-reported
returns-clause-reported g c = λ told is.
    let old = g.V.Files.state c.args.files.now in
    let new = g.V.Files.state c.overwrite.new.files in
    let n = length c.args.schema.now.attributes in
    let kept = returns-clause-kept g c is in
    attribute_reported old new c.in-Some.cat c.args.slot _ _ c.read.new.into _ c.args.schema.now c.requires.slot told c.in-Some.ensures.found.whole (is told)
    (schema_kept old new c.args.slot c.args.schema.now kept c.requires.slot is (kept.tells ∙ told)) (omega (arith, c.len-front.ensures.value, c.len-front.ensures.few))
    (omega (arith, c.from.ensures, c.len-front.ensures.value))
    (ap (λ (xs : List ℕ). length xs) (rest_zeros c.len-front.result n c.len-front.ensures.value) ∙ length-replicate {A = ℕ} (144 - 18 * n) 0)
    (c.in_ok-read.ensures.bytes told) (sym c.if-is_zeros.ensures)
    (rest_zeros c.len-front.result n c.len-front.ensures.value) (rw c.in_ok-read.ensures.frame.same at c.in_ok-overwrite.ensures.put)
    _ _ c.add.ensures
