use Rattle.std.proofs.Common.{◌≡◌, ◌∙◌, ℕ, ◌+◌, ◌*◌, ap, arith, refl, subst, sym}
use Rattle.std.specs.Prelude.{is_some, slice_index}
use Rattle.afl_base.specs.Files.{IsNamed, IsUnnamed, State}
use Rattle.catalog.proofs.Named.{named_none}
use Rattle.space_model.specs.FileNames.{rows_file}
use Rattle.stored.specs.Mended.{whole_catalog, mended_base}
use Rattle.stored_mend.specs.Listed.{IsListedTo, rows_below}
use Rattle.stored_mend.specs.Reported.{with_line}
use Rattle.stored_mend.specs.declared.report.Mended.TheVariants.{Relation}
use Rattle.stored_mend.proofs.CatalogKept.{slot_is}
use Rattle.stored_mend.proofs.CatalogRead.{unused_at}
use Rattle.stored_mend.proofs.OneFile.{removed_changes}
use Rattle.stored_mend.proofs.ReportNames.{lone_slot}
use Rattle.stored_mend.proofs.ReportOnce.{reports_nothing}
use Rattle.stored_mend.proofs.ReportSteps.{seen_gone, seen_there, rows_removed_reports}
use Rattle.stored_mend.proofs.ListedFiles.{rows_removed, rows_unlisted, rows_used}
use Rattle.stored_mend.proofs.Unasked.{rows_gone}
use Rattle.padded.proofs.Facts.{on_err}
use Rattle.stored_mend.proofs.CutCalls.{left_either, left_read}
use Rattle.stored_mend.proofs.CutListed.{listed_is_cut}
use Rattle.stored_mend.proofs.strays.remove_rows.Goals as goal

pub returns-clause-kept : goal.returns-clause-kept
returns-clause-kept g c =
    let old = g.V.Files.state c.args.files.now in
    let same = c.in_ok-first.ensures.frame.same in
    let named = rw (c.rows_file.ensures, same) at c.in-Some-find.ensures.found in
    let zero : c.in_ok-first.first ≡ 0 = omega (arith, c.if-first-ne0.false) in
    let at : 176 * c.args.slot ≡ 176 * c.from.result = omega (arith, c.from.ensures) in
    rows_gone old (g.V.Files.state c.remove.new.self) c.in-Some-find.file c.args.slot
    (rw same at c.in_ok-remove.ensures.removed)
    (subst (λ (k : ℕ). IsNamed old.files c.in-Some-find.file (rows_file k)) (slot_is c.args.slot c.in-Some.id c.in-Some.ensures) named)
    (λ told. ap (slice_index (whole_catalog old.files)) at ∙ sym (c.in_ok-first.ensures.byte told) ∙ zero)

-- what is left is repaired

pub returns-in_default-find-clause-listed : goal.returns-in_default-find-clause-listed
returns-in_default-find-clause-listed g c = λ told l.
    let old = g.V.Files.state c.args.files.now in
    let same = c.in_ok-first.ensures.frame.same in
    let none = subst (λ (k : ℕ). IsUnnamed old.files (rows_file k)) (slot_is c.args.slot c.in-Some.id c.in-Some.ensures) (rw (c.rows_file.ensures, same) at c.in_default-find.ensures.none) in
    subst (λ (s : State). IsListedTo (rows_below (c.args.slot + 1)) s.files) (sym same)
    (rows_unlisted old.files c.args.slot (ap is_some (named_none old.files (rows_file c.args.slot) none)) l)

pub returns-then-first-ne0-clause-listed : goal.returns-then-first-ne0-clause-listed
returns-then-first-ne0-clause-listed g c = λ told l.
    let old = g.V.Files.state c.args.files.now in
    let at : 176 * c.args.slot ≡ 176 * c.from.result = omega (arith, c.from.ensures) in
    subst (λ (s : State). IsListedTo (rows_below (c.args.slot + 1)) s.files) (sym c.in_ok-first.ensures.frame.same)
    (rows_used old.files c.args.slot c.requires.slot
    (λ e. c.if-first-ne0.true (c.in_ok-first.ensures.byte told ∙ ap (slice_index (whole_catalog old.files)) (sym at) ∙ e)) l)

pub returns-clause-listed : goal.returns-clause-listed
returns-clause-listed g c = λ told l.
    let old = g.V.Files.state c.args.files.now in
    let same = c.in_ok-first.ensures.frame.same in
    let named = rw (c.rows_file.ensures, same) at c.in-Some-find.ensures.found in
    let zero : c.in_ok-first.first ≡ 0 = omega (arith, c.if-first-ne0.false) in
    let at : 176 * c.args.slot ≡ 176 * c.from.result = omega (arith, c.from.ensures) in
    rows_removed old (g.V.Files.state c.remove.new.self) c.in-Some-find.file c.args.slot c.requires.slot
    (rw same at c.in_ok-remove.ensures.removed)
    (subst (λ (k : ℕ). IsNamed old.files c.in-Some-find.file (rows_file k)) (slot_is c.args.slot c.in-Some.id c.in-Some.ensures) named)
    (ap (slice_index (whole_catalog old.files)) at ∙ sym (c.in_ok-first.ensures.byte told) ∙ zero)
    ((returns-clause-kept g c).base told) l

-- and what is left where the call failed

pub returns-in_err-first-clause-cut : goal.returns-in_err-first-clause-cut
returns-in_err-first-clause-cut g c = λ told l cuts.
    let old = g.V.Files.state c.args.files.now in
    on_err c.from_residual.result
    (left_read g.V.Files.state c.args.files.now c.first_byte.new.files c.in_err-first.ensures.frame.same
    (record { cut = listed_is_cut (rows_below c.args.slot) old.files l; is = refl }) (g.V.Files.mended c.args.files.now cuts told))

pub returns-in_err-remove-clause-cut : goal.returns-in_err-remove-clause-cut
returns-in_err-remove-clause-cut g c = λ told l cuts.
    let old = g.V.Files.state c.args.files.now in
    let same = c.in_ok-first.ensures.frame.same in
    let named = rw (c.rows_file.ensures, same) at c.in-Some-find.ensures.found in
    let zero : c.in_ok-first.first ≡ 0 = omega (arith, c.if-first-ne0.false) in
    let at : 176 * c.args.slot ≡ 176 * c.from.result = omega (arith, c.from.ensures) in
    let rows = subst (λ (k : ℕ). IsNamed old.files c.in-Some-find.file (rows_file k)) (slot_is c.args.slot c.in-Some.id c.in-Some.ensures) named in
    let unused : slice_index (whole_catalog old.files) (176 * c.args.slot) ≡ 0 = ap (slice_index (whole_catalog old.files)) at ∙ sym (c.in_ok-first.ensures.byte told) ∙ zero in
    let cut = rw same at c.in_err-remove.ensures.cut in
    on_err c.from_residual-in_err-remove.result
    (left_either old.files (record { cut = listed_is_cut (rows_below c.args.slot) old.files l; is = refl })
    (λ (after : State) removed.
    let base : mended_base after.files ≡ mended_base old.files = (rows_gone old after c.in-Some-find.file c.args.slot removed rows (λ here. unused)).base told in
    record {
      cut = listed_is_cut (rows_below (c.args.slot + 1)) after.files
          (rows_removed old after c.in-Some-find.file c.args.slot c.requires.slot removed rows unused base l);
      is = base;
    })
    (cut cuts told))

-- and told

pub returns-in_default-find-clause-reported : goal.returns-in_default-find-clause-reported
returns-in_default-find-clause-reported g c = λ told l. reports_nothing 1 _ _ _ _ c.in_ok-first.ensures.frame.same refl

pub returns-then-first-ne0-clause-reported : goal.returns-then-first-ne0-clause-reported
returns-then-first-ne0-clause-reported g c = λ told l. reports_nothing 1 _ _ _ _ c.in_ok-first.ensures.frame.same refl

pub returns-clause-reported : goal.returns-clause-reported
returns-clause-reported g c = λ told l.
    let old = g.V.Files.state c.args.files.now in
    let new = g.V.Files.state c.remove.new.self in
    let same = c.in_ok-first.ensures.frame.same in
    let id = slot_is c.args.slot c.in-Some.id c.in-Some.ensures in
    let named = rw (c.rows_file.ensures, same) at c.in-Some-find.ensures.found in
    let here = subst (λ (k : ℕ). IsNamed old.files c.in-Some-find.file (rows_file k)) id named in
    let removed = rw same at c.in_ok-remove.ensures.removed in
    let zero : c.in_ok-first.first ≡ 0 = omega (arith, c.if-first-ne0.false) in
    let at : 176 * c.args.slot ≡ 176 * c.from.result = omega (arith, c.from.ensures) in
    let unused = unused_at (whole_catalog old.files) c.args.slot (ap (slice_index (whole_catalog old.files)) at ∙ sym (c.in_ok-first.ensures.byte told) ∙ zero) in
    rows_removed_reports old new c.args.slot c.requires.slot (removed_changes old new c.in-Some-find.file (rows_file c.args.slot) removed here)
    unused (lone_slot old.files c.args.slot c.requires.slot l unused)
    (seen_there old.files c.in-Some-find.file (rows_file c.args.slot) here) (seen_gone old new c.in-Some-find.file (rows_file c.args.slot) removed here)
    _ _ (c.add.ensures ∙ ap (λ (k : ℕ). with_line c.args.report.now.mended (Relation k)) id)
