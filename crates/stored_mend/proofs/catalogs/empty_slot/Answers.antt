use Rattle.std.proofs.Common.{◌≡◌, ◌∙◌, ℕ, ◌+◌, ◌*◌, None, arith, subst, sym, refl}
use Rattle.std.specs.Prelude.{slice_range}
use Rattle.std.proofs.lemmas.Slice.Eq.{bytes_eq-Decides}
use Rattle.afl_base.specs.Files.{Overwrites, bytes_at, KeepsBytes, State}
use Rattle.db_model.specs.Catalog.{relation_slot_bytes}
use Rattle.padded.proofs.Facts.{false_true}
use Rattle.stored_mend.proofs.CatalogKept.{emptied_kept}
use Rattle.stored_mend.proofs.ListedSlots.{emptied_listed, unused_listed}
use Rattle.stored_mend.proofs.ReportCatalog.{emptied_reported}
use Rattle.stored_mend.proofs.ReportOnce.{reports_nothing}
use Rattle.afl_base.specs.CutFiles.{OverwritesFront}
use Rattle.db_model.specs.Database.{Database}
use Rattle.stored.specs.Mended.{mended_base}
use Rattle.stored_mend.specs.Interrupted.{IsCutState}
use Rattle.stored_mend.specs.Listed.{relations_below}
use Rattle.stored_mend.proofs.CutCalls.{failed_handed, left_after, left_read, room_left, space_handed}
use Rattle.stored_mend.proofs.CutListed.{listed_is_cut}
use Rattle.stored_mend.proofs.CutSlots.{emptied_left}
use Rattle.stored_mend.proofs.catalogs.empty_slot.Goals as goal

pub returns-clause-kept : goal.returns-clause-kept
returns-clause-kept g c = λ unused.
    let old = g.V.Files.state c.args.files.now in
    let new = g.V.Files.state c.overwrite.new.files in
    let slot : c.from-2.result ≡ c.args.slot = omega (arith, c.from-2.ensures) in
    emptied_kept old new c.args.cat c.args.slot c.requires.catalog.whole c.requires.slot
    (subst (λ (n : ℕ). Overwrites old new c.args.cat (176 * n) (relation_slot_bytes None)) slot
    (rw (c.in_ok-read.ensures.frame.same, c.unused_relation-unused.ensures) at c.in_ok-overwrite.ensures.put))
    unused

pub returns-then-eq-clause-listed : goal.returns-then-eq-clause-listed
returns-then-eq-clause-listed g c = λ told unused l.
    let old = g.V.Files.state c.args.files.now in
    let slot : c.from.result ≡ c.args.slot = omega (arith, c.from.ensures) in
    unused_listed old (g.V.Files.state c.read.new.self) c.args.cat c.args.slot c.requires.slot told c.requires.catalog.whole (unused told) l c.in_ok-read.ensures.frame.same
    (sym (subst (λ (n : ℕ). c.read.new.into ≡ slice_range (bytes_at old.files c.args.cat) (176 * n) (176 * n + 176)) slot (c.in_ok-read.ensures.bytes told))
    ∙ (bytes_eq-Decides c.read.new.into c.unused_relation-unused.result).0 (sym c.if-eq.ensures) ∙ c.unused_relation-unused.ensures)

pub returns-clause-listed : goal.returns-clause-listed
returns-clause-listed g c = λ told unused l.
    let old = g.V.Files.state c.args.files.now in
    let new = g.V.Files.state c.overwrite.new.files in
    let slot : c.from-2.result ≡ c.args.slot = omega (arith, c.from-2.ensures) in
    emptied_listed old new c.args.cat c.args.slot c.requires.slot told c.requires.catalog.whole (unused told) l
    (subst (λ (n : ℕ). Overwrites old new c.args.cat (176 * n) (relation_slot_bytes None)) slot
    (rw (c.in_ok-read.ensures.frame.same, c.unused_relation-unused.ensures) at c.in_ok-overwrite.ensures.put))
    (returns-clause-kept g c unused).base

-- what is left where a call failed

pub returns-in_err-read-clause-cut : goal.returns-in_err-read-clause-cut
returns-in_err-read-clause-cut g c = λ told unused l cuts failed.
    left_read g.V.Files.state c.args.files.now c.read.new.self c.in_err-read.ensures.frame.same
    (record { cut = listed_is_cut (relations_below c.args.slot) (g.V.Files.state c.args.files.now).files l; is = refl }) (g.V.Files.mended c.args.files.now cuts told)

pub returns-in_err-overwrite-clause-cut : goal.returns-in_err-overwrite-clause-cut
returns-in_err-overwrite-clause-cut g c = λ told unused l cuts failed.
    let old = g.V.Files.state c.args.files.now in
    let slot : c.from-2.result ≡ c.args.slot = omega (arith, c.from-2.ensures) in
    let left = rw (c.in_ok-read.ensures.frame.same, c.unused_relation-unused.ensures) at c.overwrite.ensures.cut in
    left_after
    (left cuts told (failed_handed c.overwrite.result c.from_residual-in_err-overwrite.result c.in_err-overwrite.field-0.0 c.in_err-overwrite.was c.from_residual-in_err-overwrite.ensures.1 failed))
    (λ (after : State) f.
    emptied_left old after c.args.cat c.args.slot (relations_below c.args.slot) c.requires.slot told c.requires.catalog.whole l unused
    (subst (λ (n : ℕ). OverwritesFront old after c.args.cat (176 * n) (relation_slot_bytes None)) slot f))

pub returns-in_err-overwrite-clause-space : goal.returns-in_err-overwrite-clause-space
returns-in_err-overwrite-clause-space g c = λ told unused l.
    let old = g.V.Files.state c.args.files.now in
    let new = g.V.Files.state c.overwrite.new.files in
    let same : Database → Type 0 = λ db. db ≡ mended_base old.files in
    let kept = rw c.in_ok-read.ensures.frame.same at c.overwrite.ensures.space in
    space_handed c.overwrite.result c.from_residual-in_err-overwrite.result c.in_err-overwrite.field-0.0 (KeepsBytes old new c.args.cat) (IsCutState new same) c.in_err-overwrite.was c.from_residual-in_err-overwrite.ensures.1
    (λ k. room_left old new c.args.cat c.requires.catalog.live told k same c.requires.idle (listed_is_cut (relations_below c.args.slot) old.files l) refl)
    kept

pub returns-then-eq-clause-reported : goal.returns-then-eq-clause-reported
returns-then-eq-clause-reported g c = λ told unused. reports_nothing 1 _ _ _ _ c.in_ok-read.ensures.frame.same refl

pub returns-clause-reported : goal.returns-clause-reported
returns-clause-reported g c = λ told unused.
    let old = g.V.Files.state c.args.files.now in
    let new = g.V.Files.state c.overwrite.new.files in
    let slot : c.from.result ≡ c.args.slot = omega (arith, c.from.ensures) in
    let again : c.from-2.result ≡ c.args.slot = omega (arith, c.from-2.ensures) in
    emptied_reported old new c.args.cat c.args.slot c.read.new.into c.requires.slot told c.requires.catalog.whole (unused told)
    (subst (λ (n : ℕ). c.read.new.into ≡ slice_range (bytes_at old.files c.args.cat) (176 * n) (176 * n + 176)) slot (c.in_ok-read.ensures.bytes told))
    (λ e. false_true _ (sym c.if-eq.ensures) ((bytes_eq-Decides c.read.new.into c.unused_relation-unused.result).1 (e ∙ sym c.unused_relation-unused.ensures)))
    (subst (λ (n : ℕ). Overwrites old new c.args.cat (176 * n) (relation_slot_bytes None)) again
    (rw (c.in_ok-read.ensures.frame.same, c.unused_relation-unused.ensures) at c.in_ok-overwrite.ensures.put))
    _ _ c.report_removed.ensures.told c.report_removed.ensures.still
