use Rattle.std.proofs.Common.{◌∙◌, ⊎_elim, arith, inl, inr, sym, refl, ◌<◌}
use Rattle.stored_mend.proofs.ListedFirst.{size_taken, taken_removed, taken_same, unnamed_none}
use Rattle.stored_mend.proofs.NoCatalog.{catalog_gone}
use Rattle.stored_mend.proofs.ReportCatalog.{gone_reports}
use Rattle.stored_mend.proofs.ReportOnce.{reports_nothing}
use Rattle.afl_base.specs.Files.{State, size_at}
use Rattle.stored_mend.proofs.CutCalls.{left_either}
use Rattle.stored_mend.proofs.CutListed.{taken_is_cut}
use Rattle.stored_mend.proofs.catalogs.take_back_catalog.Goals as goal

pub returns-clause-base : goal.returns-clause-base
returns-clause-base g c =
    catalog_gone (g.V.Files.state c.args.files.now) (g.V.Files.state c.remove.new.self) c.in-Some.cat
    (rw c.catalog_file.ensures at c.in-Some.ensures.found) (rw c.catalog_file.ensures at c.in-Some.ensures.only)
    (omega (arith, c.size-size.ensures, c.if-size-ge-SIZE_OF_VERSION_1.false)) c.in_ok-remove.ensures.removed

pub returns-clause-kept : goal.returns-clause-kept
returns-clause-kept g c =
    let removed = c.in_ok-remove.ensures.removed in
    record { base = λ told. returns-clause-base g c; draft = removed.draft; tells = removed.tells }

pub returns-in_default-clause-listed : goal.returns-in_default-clause-listed
returns-in_default-clause-listed g c = λ cut.
    let files = (g.V.Files.state c.args.files.now).files in
    taken_same files cut (inl (unnamed_none files (rw c.catalog_file.ensures at c.in_default.ensures.none)))

pub returns-then-size-eq0-clause-listed : goal.returns-then-size-eq0-clause-listed
returns-then-size-eq0-clause-listed g c = λ cut.
    let files = (g.V.Files.state c.args.files.now).files in
    taken_same files cut
    (size_taken files c.in-Some.cat (rw c.catalog_file.ensures at c.in-Some.ensures.found) (rw c.catalog_file.ensures at c.in-Some.ensures.only)
    (⊎_elim (λ none. inl (sym c.size-size.ensures ∙ none)) (λ long. inr (omega (arith, long.1, c.size-size.ensures))) c.then-size-eq0.either))

pub returns-clause-listed : goal.returns-clause-listed
returns-clause-listed g c =
    taken_removed (g.V.Files.state c.args.files.now) (g.V.Files.state c.remove.new.self) c.in-Some.cat
    (rw c.catalog_file.ensures at c.in-Some.ensures.found) (rw c.catalog_file.ensures at c.in-Some.ensures.only)
    (omega (arith, c.size-size.ensures, c.if-size-ge-SIZE_OF_VERSION_1.false)) c.in_ok-remove.ensures.removed

pub returns-in_err-remove-clause-cut : goal.returns-in_err-remove-clause-cut
returns-in_err-remove-clause-cut g c = λ told cut cuts failed.
    let old = g.V.Files.state c.args.files.now in
    let named = rw c.catalog_file.ensures at c.in-Some.ensures.found in
    let only = rw c.catalog_file.ensures at c.in-Some.ensures.only in
    let short : size_at old.files c.in-Some.cat < 1472 = omega (arith, c.size-size.ensures, c.if-size-ge-SIZE_OF_VERSION_1.false) in
    left_either old.files (record { cut = cut; is = refl })
    (λ (after : State) removed. record {
      cut = taken_is_cut after.files (taken_removed old after c.in-Some.cat named only short removed cut);
      is = catalog_gone old after c.in-Some.cat named only short removed;
    })
    (c.in_err-remove.ensures.cut cuts told)

pub returns-in_default-clause-reported : goal.returns-in_default-clause-reported
returns-in_default-clause-reported g c = λ told. reports_nothing 1 _ _ _ _ refl refl

pub returns-then-size-eq0-clause-reported : goal.returns-then-size-eq0-clause-reported
returns-then-size-eq0-clause-reported g c = λ told. reports_nothing 1 _ _ _ _ refl refl

pub returns-clause-reported : goal.returns-clause-reported
returns-clause-reported g c = λ told.
    gone_reports (g.V.Files.state c.args.files.now) (g.V.Files.state c.remove.new.self) c.in-Some.cat
    (rw c.catalog_file.ensures at c.in-Some.ensures.found) (rw c.catalog_file.ensures at c.in-Some.ensures.only)
    (omega (arith, c.size-size.ensures, c.if-size-eq0.false)) (omega (arith, c.size-size.ensures, c.if-size-ge-SIZE_OF_VERSION_1.false)) c.in_ok-remove.ensures.removed
    _ _ c.add.ensures
