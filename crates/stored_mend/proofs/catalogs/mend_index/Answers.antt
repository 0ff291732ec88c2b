use Rattle.std.proofs.Common.{◌≡◌, ◌∙◌, ℕ, ◌+◌, ◌*◌, List, None, false, true, ap, arith, refl, subst, sym}
use Rattle.std.specs.Prelude.{is_some, slice_index, slice_index_or, slice_range}
use Rattle.afl_base.specs.Files.{IsNamed, IsUnnamed, Overwrites, State, bytes_at}
use Rattle.catalog.specs.Rules.{is_tree}
use Rattle.db_model.specs.Catalog.{index_at, index_slot_bytes}
use Rattle.space_model.specs.FileNames.{is_there, tree_file}
use Rattle.stored.proofs.SoundCut.{named_there}
use Rattle.stored_mend.specs.Listed.{IsListedTo, indexes_below}
use Rattle.catalog.proofs.Named.{named_none}
use Rattle.stored_mend.proofs.CatalogKept.{index_kept, slot_is, slot_number}
use Rattle.stored_mend.proofs.CatalogRead.{tree_at}
use Rattle.stored_mend.proofs.ListedIndexes.{blanked_listed, index_listed, tree_in_bytes}
use Rattle.stored_mend.proofs.ListedSlots.{keeps_becomes}
use Rattle.stored_mend.proofs.ListedSteps.{listed_unwritten}
use Rattle.stored_mend.proofs.IndexGone.{lacking_read, lacking_written, spares_catalog, tree_code, unbroken_without}
use Rattle.stored_mend.proofs.IndexLost.{index_lost}
use Rattle.stored_mend.proofs.ReportCatalog.{blank_spares, index_reported, spares_unchanged}
use Rattle.stored_mend.proofs.ReportOnce.{reports_nothing}
use Rattle.afl_base.specs.CutFiles.{OverwritesFront}
use Rattle.db_model.specs.Database.{Database}
use Rattle.stored.specs.Mended.{mended_base}
use Rattle.stored_mend.specs.Interrupted.{IsCutState}
use Rattle.stored_mend.proofs.CutCalls.{failed_handed, left_after, room_left, space_handed}
use Rattle.stored_mend.proofs.CutIndexes.{index_left}
use Rattle.stored_mend.proofs.catalogs.mend_index.Goals as goal

pub returns-clause-others : goal.returns-clause-others
returns-clause-others g c =
    spares_catalog (g.V.Files.state c.args.files.now) (g.V.Files.state c.overwrite.new.files) c.in-Some.cat _ _ c.in-Some.ensures.found.whole.named
    (rw (c.in_ok-report_index.ensures.frame.same, c.in_ok-read.ensures.frame.same) at c.in_ok-overwrite.ensures.put)

pub returns-clause-kept : goal.returns-clause-kept
returns-clause-kept g c =
    let old = g.V.Files.state c.args.files.now in
    let new = g.V.Files.state c.overwrite.new.files in
    let bytes = bytes_at old.files c.in-Some.cat in
    let slot : c.from.result ≡ c.args.slot = omega (arith, c.from.ensures) in
    let two : slice_index_or c.read.new.into 0 0 ≡ 2 = omega (arith, c.if-bytes-ne2.false) in
    index_kept old new c.in-Some.cat c.args.slot c.in-Some.ensures.found.whole c.requires.slot
    (subst (λ (n : ℕ). Overwrites old new c.in-Some.cat (1408 + 8 * n) (index_slot_bytes None)) slot
    (rw (c.in_ok-report_index.ensures.frame.same, c.in_ok-read.ensures.frame.same) at c.in_ok-overwrite.ensures.put))
    (λ told. subst (λ (n : ℕ). is_tree (index_at bytes n) ≡ true) slot (tree_at bytes c.from.result (ap (λ (xs : List ℕ). slice_index xs 0) (sym (c.in_ok-read.ensures.bytes told)) ∙ two)))
    (subst (λ (k : ℕ). IsUnnamed old.files (tree_file k)) (slot_is c.args.slot c.in-Some-new.id c.in-Some-new.ensures) (rw (c.tree_file.ensures, c.in_ok-read.ensures.frame.same) at c.in-None.ensures.none))

-- what is left is repaired

pub returns-in_default-clause-listed : goal.returns-in_default-clause-listed
returns-in_default-clause-listed g c = λ told l.
    listed_unwritten (g.V.Files.state c.args.files.now).files (indexes_below c.args.slot) (indexes_below (c.args.slot + 1)) refl l c.in_default.ensures.none

pub returns-then-bytes-ne2-clause-listed : goal.returns-then-bytes-ne2-clause-listed
returns-then-bytes-ne2-clause-listed g c = λ told l.
    let old = (g.V.Files.state c.args.files.now).files in
    let w = c.in-Some.ensures.found.whole in
    let slot : c.from.result ≡ c.args.slot = omega (arith, c.from.ensures) in
    subst (λ (s : State). IsListedTo (indexes_below (c.args.slot + 1)) s.files) (sym c.in_ok-read.ensures.frame.same)
    (index_listed old c.in-Some.cat c.args.slot w
    (λ tree. absurd (c.if-bytes-ne2.true (tree_code old c.in-Some.cat c.args.slot c.read.new.into w (tree_in_bytes old c.in-Some.cat c.args.slot c.requires.slot w tree)
    (subst (λ (n : ℕ). c.read.new.into ≡ slice_range (bytes_at old c.in-Some.cat) (1408 + 8 * n) (1408 + 8 * n + 8)) slot (c.in_ok-read.ensures.bytes told)))))
    l)

pub returns-in-Some-find-clause-listed : goal.returns-in-Some-find-clause-listed
returns-in-Some-find-clause-listed g c = λ told l.
    let old = g.V.Files.state c.args.files.now in
    let named = rw (c.tree_file.ensures, c.in_ok-read.ensures.frame.same) at c.in-Some-find.ensures.found in
    subst (λ (s : State). IsListedTo (indexes_below (c.args.slot + 1)) s.files) (sym c.in_ok-read.ensures.frame.same)
    (index_listed old.files c.in-Some.cat c.args.slot c.in-Some.ensures.found.whole
    (λ tree. named_there old.files c.in-Some-find.field-0 (tree_file c.args.slot) (subst (λ (k : ℕ). IsNamed old.files c.in-Some-find.field-0 (tree_file k)) (slot_is c.args.slot c.in-Some-new.id c.in-Some-new.ensures) named))
    l)

pub returns-clause-listed : goal.returns-clause-listed
returns-clause-listed g c = λ told l.
    let old = g.V.Files.state c.args.files.now in
    let new = g.V.Files.state c.overwrite.new.files in
    let slot : c.from.result ≡ c.args.slot = omega (arith, c.from.ensures) in
    let o = subst (λ (n : ℕ). Overwrites old new c.in-Some.cat (1408 + 8 * n) (index_slot_bytes None)) slot
    (rw (c.in_ok-report_index.ensures.frame.same, c.in_ok-read.ensures.frame.same) at c.in_ok-overwrite.ensures.put) in
    let none = subst (λ (k : ℕ). IsUnnamed old.files (tree_file k)) (slot_is c.args.slot c.in-Some-new.id c.in-Some-new.ensures) (rw (c.tree_file.ensures, c.in_ok-read.ensures.frame.same) at c.in-None.ensures.none) in
    blanked_listed old new c.in-Some.cat c.args.slot c.requires.slot told c.in-Some.ensures.found.whole
    (keeps_becomes old new c.in-Some.cat _ _ c.in-Some.ensures.found.whole o (returns-clause-kept g c).base) o (ap is_some (named_none old.files (tree_file c.args.slot) none)) l

pub returns-in_default-clause-loses : goal.returns-in_default-clause-loses
returns-in_default-clause-loses g c = λ told lacks. absurd (c.in_default.ensures.none (lacking_written (g.V.Files.state c.args.files.now).files c.args.slot c.requires.slot lacks))

pub returns-in_default-new-clause-loses : goal.returns-in_default-new-clause-loses
returns-in_default-new-clause-loses g c = λ told lacks. absurd (slot_number c.args.slot c.requires.slot c.new.result c.in_default-new.not-Some c.new.ensures)

pub returns-then-bytes-ne2-clause-loses : goal.returns-then-bytes-ne2-clause-loses
returns-then-bytes-ne2-clause-loses g c = λ told lacks.
    let old = (g.V.Files.state c.args.files.now).files in
    let slot : c.from.result ≡ c.args.slot = omega (arith, c.from.ensures) in
    absurd (c.if-bytes-ne2.true (tree_code old c.in-Some.cat c.args.slot c.read.new.into c.in-Some.ensures.found.whole (lacking_read old c.args.slot c.requires.slot lacks)
    (subst (λ (n : ℕ). c.read.new.into ≡ slice_range (bytes_at old c.in-Some.cat) (1408 + 8 * n) (1408 + 8 * n + 8)) slot (c.in_ok-read.ensures.bytes told))))

pub returns-in-Some-find-clause-loses : goal.returns-in-Some-find-clause-loses
returns-in-Some-find-clause-loses g c = λ told lacks.
    let old = g.V.Files.state c.args.files.now in
    let named = rw (c.tree_file.ensures, c.in_ok-read.ensures.frame.same) at c.in-Some-find.ensures.found in
    let there : is_there (tree_file c.args.slot) old.files ≡ true =
    named_there old.files c.in-Some-find.field-0 (tree_file c.args.slot) (subst (λ (k : ℕ). IsNamed old.files c.in-Some-find.field-0 (tree_file k)) (slot_is c.args.slot c.in-Some-new.id c.in-Some-new.ensures) named) in
    let no : false ≡ true = sym lacks.gone ∙ there in
    absurd (cc)

pub returns-clause-loses : goal.returns-clause-loses
returns-clause-loses g c = λ told lacks.
    let old = g.V.Files.state c.args.files.now in
    let new = g.V.Files.state c.overwrite.new.files in
    let slot : c.from.result ≡ c.args.slot = omega (arith, c.from.ensures) in
    let w = c.in-Some.ensures.found.whole in
    let o = subst (λ (n : ℕ). Overwrites old new c.in-Some.cat (1408 + 8 * n) (index_slot_bytes None)) slot
    (rw (c.in_ok-report_index.ensures.frame.same, c.in_ok-read.ensures.frame.same) at c.in_ok-overwrite.ensures.put) in
    index_lost old new c.in-Some.cat c.args.slot w c.requires.slot o told (unbroken_without old new c.in-Some.cat c.args.slot w c.requires.slot o told lacks)

-- what is left where the call failed

pub returns-in_err-overwrite-clause-cut : goal.returns-in_err-overwrite-clause-cut
returns-in_err-overwrite-clause-cut g c = λ told cut cuts failed.
    let old = g.V.Files.state c.args.files.now in
    let bytes = bytes_at old.files c.in-Some.cat in
    let slot : c.from.result ≡ c.args.slot = omega (arith, c.from.ensures) in
    let two : slice_index_or c.read.new.into 0 0 ≡ 2 = omega (arith, c.if-bytes-ne2.false) in
    let left = rw (c.in_ok-report_index.ensures.frame.same, c.in_ok-read.ensures.frame.same) at c.overwrite.ensures.cut in
    let tree : is_tree (index_at bytes c.args.slot) ≡ true =
    subst (λ (n : ℕ). is_tree (index_at bytes n) ≡ true) slot (tree_at bytes c.from.result (ap (λ (xs : List ℕ). slice_index xs 0) (sym (c.in_ok-read.ensures.bytes told)) ∙ two)) in
    let none = subst (λ (k : ℕ). IsUnnamed old.files (tree_file k)) (slot_is c.args.slot c.in-Some-new.id c.in-Some-new.ensures) (rw (c.tree_file.ensures, c.in_ok-read.ensures.frame.same) at c.in-None.ensures.none) in
    left_after
    (left cuts told (failed_handed c.overwrite.result c.from_residual-in_err-overwrite.result c.in_err-overwrite.field-0.0 c.in_err-overwrite.was c.from_residual-in_err-overwrite.ensures.1 failed))
    (λ (after : State) w.
    index_left old after c.in-Some.cat c.args.slot c.requires.slot told c.in-Some.ensures.found.whole tree none cut
    (subst (λ (n : ℕ). OverwritesFront old after c.in-Some.cat (1408 + 8 * n) (index_slot_bytes None)) slot w))

pub returns-in_err-overwrite-clause-space : goal.returns-in_err-overwrite-clause-space
returns-in_err-overwrite-clause-space g c = λ told cut.
    let old = g.V.Files.state c.args.files.now in
    let new = g.V.Files.state c.overwrite.new.files in
    let kept = rw (c.in_ok-report_index.ensures.frame.same, c.in_ok-read.ensures.frame.same) at c.overwrite.ensures.space in
    space_handed c.overwrite.result c.from_residual-in_err-overwrite.result c.in_err-overwrite.field-0.0 _ (IsCutState new (λ (db : Database). db ≡ mended_base old.files)) c.in_err-overwrite.was c.from_residual-in_err-overwrite.ensures.1
    (λ k. room_left old new c.in-Some.cat c.in-Some.ensures.found.live told k (λ (db : Database). db ≡ mended_base old.files) c.requires.idle cut refl)
    kept

-- what is told

pub returns-in_default-clause-reported : goal.returns-in_default-clause-reported
returns-in_default-clause-reported g c = λ told names. reports_nothing 1 _ _ _ _ refl refl

pub returns-then-bytes-ne2-clause-reported : goal.returns-then-bytes-ne2-clause-reported
returns-then-bytes-ne2-clause-reported g c = λ told names. reports_nothing 1 _ _ _ _ c.in_ok-read.ensures.frame.same refl

pub returns-in-Some-find-clause-reported : goal.returns-in-Some-find-clause-reported
returns-in-Some-find-clause-reported g c = λ told names. reports_nothing 1 _ _ _ _ c.in_ok-read.ensures.frame.same refl

pub returns-clause-reported : goal.returns-clause-reported
returns-clause-reported g c = λ told names.
    let old = g.V.Files.state c.args.files.now in
    let new = g.V.Files.state c.overwrite.new.files in
    let slot : c.from.result ≡ c.args.slot = omega (arith, c.from.ensures) in
    let two : slice_index_or c.read.new.into 0 0 ≡ 2 = omega (arith, c.if-bytes-ne2.false) in
    let line = rw c.in_ok-read.ensures.frame.same at c.in_ok-report_index.ensures.told in
    index_reported old new c.in-Some.cat c.args.slot c.read.new.into c.requires.slot told c.in-Some.ensures.found.whole
    (subst (λ (n : ℕ). Overwrites old new c.in-Some.cat (1408 + 8 * n) (index_slot_bytes None)) slot
    (rw (c.in_ok-report_index.ensures.frame.same, c.in_ok-read.ensures.frame.same) at c.in_ok-overwrite.ensures.put))
    (subst (λ (k : ℕ). IsUnnamed old.files (tree_file k)) (slot_is c.args.slot c.in-Some-new.id c.in-Some-new.ensures) (rw (c.tree_file.ensures, c.in_ok-read.ensures.frame.same) at c.in-None.ensures.none))
    (subst (λ (n : ℕ). c.read.new.into ≡ slice_range (bytes_at old.files c.in-Some.cat) (1408 + 8 * n) (1408 + 8 * n + 8)) slot (c.in_ok-read.ensures.bytes told))
    two names _ _ (line told c.in-Some.ensures.found.whole)

pub returns-clause-slots : goal.returns-clause-slots
returns-clause-slots g c = λ told.
    let old = g.V.Files.state c.args.files.now in
    let new = g.V.Files.state c.overwrite.new.files in
    let slot : c.from.result ≡ c.args.slot = omega (arith, c.from.ensures) in
    blank_spares old new c.in-Some.cat c.args.slot c.requires.slot told c.in-Some.ensures.found.whole
    (subst (λ (n : ℕ). Overwrites old new c.in-Some.cat (1408 + 8 * n) (index_slot_bytes None)) slot
    (rw (c.in_ok-report_index.ensures.frame.same, c.in_ok-read.ensures.frame.same) at c.in_ok-overwrite.ensures.put))

pub returns-then-bytes-ne2-clause-slots : goal.returns-then-bytes-ne2-clause-slots
returns-then-bytes-ne2-clause-slots g c = λ told. spares_unchanged _ _ c.args.slot c.in_ok-read.ensures.frame.same

pub returns-in-Some-find-clause-slots : goal.returns-in-Some-find-clause-slots
returns-in-Some-find-clause-slots g c = λ told. spares_unchanged _ _ c.args.slot c.in_ok-read.ensures.frame.same

pub returns-in_default-clause-slots : goal.returns-in_default-clause-slots
returns-in_default-clause-slots g c = λ told. spares_unchanged (g.V.Files.state c.args.files.now) (g.V.Files.state c.args.files.now) c.args.slot refl
