use Rattle.std.proofs.Common.{◌≡◌, ◌∙◌, ℕ, false, true, ◌+◌, ◌*◌, ap, arith, refl, subst, sym, ◌≢◌}
use Rattle.std.specs.Prelude.{is_some, slice_index}
use Rattle.afl_base.specs.Files.{IsNamed, IsUnnamed, State}
use Rattle.catalog.proofs.Named.{named_none}
use Rattle.space_model.specs.FileNames.{tree_file}
use Rattle.stored.specs.Mended.{whole_catalog, mended_base}
use Rattle.stored_mend.specs.Listed.{IsListedTo, trees_below}
use Rattle.stored_mend.specs.Reported.{with_line}
use Rattle.stored_mend.specs.declared.report.Mended.TheVariants.{Stray}
use Rattle.stored_mend.proofs.CatalogKept.{slot_is}
use Rattle.stored_mend.proofs.CatalogRead.{no_tree_at}
use Rattle.stored_mend.proofs.OneFile.{removed_changes}
use Rattle.stored_mend.proofs.ReportOnce.{reports_nothing}
use Rattle.stored_mend.proofs.ReportSteps.{seen_gone, seen_there, stray_reports}
use Rattle.stored_mend.proofs.ListedFiles.{code_tree, tree_listed, tree_removed}
use Rattle.stored_mend.proofs.Unasked.{tree_gone}
use Rattle.padded.proofs.Facts.{on_err}
use Rattle.stored_mend.proofs.CutCalls.{left_either, left_read}
use Rattle.stored_mend.proofs.CutListed.{listed_is_cut}
use Rattle.stored_mend.proofs.strays.remove_tree.Goals as goal

pub returns-clause-kept : goal.returns-clause-kept
returns-clause-kept g c =
    let old = g.V.Files.state c.args.files.now in
    let same = c.in_ok-first.ensures.frame.same in
    let named = rw (c.tree_file.ensures, same) at c.in-Some-find.ensures.found in
    let at : 1408 + 8 * c.args.slot ≡ 1408 + 8 * c.from.result = omega (arith, c.from.ensures) in
    tree_gone old (g.V.Files.state c.remove.new.self) c.in-Some-find.file c.args.slot
    (rw same at c.in_ok-remove.ensures.removed)
    (subst (λ (k : ℕ). IsNamed old.files c.in-Some-find.file (tree_file k)) (slot_is c.args.slot c.in-Some.id c.in-Some.ensures) named)
    (λ told e. c.if-first-eq2.false (c.in_ok-first.ensures.byte told ∙ ap (slice_index (whole_catalog old.files)) (sym at) ∙ e))

-- what is left is repaired

pub returns-in_default-find-clause-listed : goal.returns-in_default-find-clause-listed
returns-in_default-find-clause-listed g c = λ told l.
    let old = g.V.Files.state c.args.files.now in
    let same = c.in_ok-first.ensures.frame.same in
    let none = subst (λ (k : ℕ). IsUnnamed old.files (tree_file k)) (slot_is c.args.slot c.in-Some.id c.in-Some.ensures) (rw (c.tree_file.ensures, same) at c.in_default-find.ensures.none) in
    let gone = ap is_some (named_none old.files (tree_file c.args.slot) none) in
    subst (λ (s : State). IsListedTo (trees_below (c.args.slot + 1)) s.files) (sym same)
    (tree_listed old.files c.args.slot (λ there. absurd (let no : false ≡ true = sym gone ∙ there in let n : ⊥ = cc in n)) l)

pub returns-then-first-eq2-clause-listed : goal.returns-then-first-eq2-clause-listed
returns-then-first-eq2-clause-listed g c = λ told l.
    let old = g.V.Files.state c.args.files.now in
    let at : 1408 + 8 * c.args.slot ≡ 1408 + 8 * c.from.result = omega (arith, c.from.ensures) in
    subst (λ (s : State). IsListedTo (trees_below (c.args.slot + 1)) s.files) (sym c.in_ok-first.ensures.frame.same)
    (tree_listed old.files c.args.slot
    (λ there. code_tree old.files c.args.slot c.requires.slot (ap (slice_index (whole_catalog old.files)) at ∙ sym (c.in_ok-first.ensures.byte told) ∙ c.if-first-eq2.true)) l)

pub returns-clause-listed : goal.returns-clause-listed
returns-clause-listed g c = λ told l.
    let old = g.V.Files.state c.args.files.now in
    let same = c.in_ok-first.ensures.frame.same in
    let named = rw (c.tree_file.ensures, same) at c.in-Some-find.ensures.found in
    let at : 1408 + 8 * c.args.slot ≡ 1408 + 8 * c.from.result = omega (arith, c.from.ensures) in
    tree_removed old (g.V.Files.state c.remove.new.self) c.in-Some-find.file c.args.slot c.requires.slot
    (rw same at c.in_ok-remove.ensures.removed)
    (subst (λ (k : ℕ). IsNamed old.files c.in-Some-find.file (tree_file k)) (slot_is c.args.slot c.in-Some.id c.in-Some.ensures) named)
    (λ e. c.if-first-eq2.false (c.in_ok-first.ensures.byte told ∙ ap (slice_index (whole_catalog old.files)) (sym at) ∙ e))
    ((returns-clause-kept g c).base told) l

-- and what is left where the call failed

pub returns-in_err-first-clause-cut : goal.returns-in_err-first-clause-cut
returns-in_err-first-clause-cut g c = λ told l cuts.
    let old = g.V.Files.state c.args.files.now in
    on_err c.from_residual.result
    (left_read g.V.Files.state c.args.files.now c.first_byte.new.files c.in_err-first.ensures.frame.same
    (record { cut = listed_is_cut (trees_below c.args.slot) old.files l; is = refl }) (g.V.Files.mended c.args.files.now cuts told))

pub returns-in_err-remove-clause-cut : goal.returns-in_err-remove-clause-cut
returns-in_err-remove-clause-cut g c = λ told l cuts.
    let old = g.V.Files.state c.args.files.now in
    let same = c.in_ok-first.ensures.frame.same in
    let named = rw (c.tree_file.ensures, same) at c.in-Some-find.ensures.found in
    let at : 1408 + 8 * c.args.slot ≡ 1408 + 8 * c.from.result = omega (arith, c.from.ensures) in
    let tree = subst (λ (k : ℕ). IsNamed old.files c.in-Some-find.file (tree_file k)) (slot_is c.args.slot c.in-Some.id c.in-Some.ensures) named in
    let treeless : slice_index (whole_catalog old.files) (1408 + 8 * c.args.slot) ≢ 2 =
    λ e. c.if-first-eq2.false (c.in_ok-first.ensures.byte told ∙ ap (slice_index (whole_catalog old.files)) (sym at) ∙ e) in
    let cut = rw same at c.in_err-remove.ensures.cut in
    on_err c.from_residual-in_err-remove.result
    (left_either old.files (record { cut = listed_is_cut (trees_below c.args.slot) old.files l; is = refl })
    (λ (after : State) removed.
    let base : mended_base after.files ≡ mended_base old.files = (tree_gone old after c.in-Some-find.file c.args.slot removed tree (λ here. treeless)).base told in
    record {
      cut = listed_is_cut (trees_below (c.args.slot + 1)) after.files
          (tree_removed old after c.in-Some-find.file c.args.slot c.requires.slot removed tree treeless base l);
      is = base;
    })
    (cut cuts told))

-- and told

pub returns-in_default-find-clause-reported : goal.returns-in_default-find-clause-reported
returns-in_default-find-clause-reported g c = λ told. reports_nothing 1 _ _ _ _ c.in_ok-first.ensures.frame.same refl

pub returns-then-first-eq2-clause-reported : goal.returns-then-first-eq2-clause-reported
returns-then-first-eq2-clause-reported g c = λ told. reports_nothing 1 _ _ _ _ c.in_ok-first.ensures.frame.same refl

pub returns-clause-reported : goal.returns-clause-reported
returns-clause-reported g c = λ told.
    let old = g.V.Files.state c.args.files.now in
    let new = g.V.Files.state c.remove.new.self in
    let same = c.in_ok-first.ensures.frame.same in
    let id = slot_is c.args.slot c.in-Some.id c.in-Some.ensures in
    let named = rw (c.tree_file.ensures, same) at c.in-Some-find.ensures.found in
    let here = subst (λ (k : ℕ). IsNamed old.files c.in-Some-find.file (tree_file k)) id named in
    let removed = rw same at c.in_ok-remove.ensures.removed in
    let at : 1408 + 8 * c.args.slot ≡ 1408 + 8 * c.from.result = omega (arith, c.from.ensures) in
    stray_reports old new c.args.slot c.requires.slot (removed_changes old new c.in-Some-find.file (tree_file c.args.slot) removed here)
    (no_tree_at (whole_catalog old.files) c.args.slot (λ e. c.if-first-eq2.false (c.in_ok-first.ensures.byte told ∙ ap (slice_index (whole_catalog old.files)) (sym at) ∙ e)))
    (seen_there old.files c.in-Some-find.file (tree_file c.args.slot) here) (seen_gone old new c.in-Some-find.file (tree_file c.args.slot) removed here)
    _ _ (c.add.ensures ∙ ap (λ (k : ℕ). with_line c.args.report.now.mended (Stray k)) id)
