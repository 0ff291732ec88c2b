use Rattle.std.proofs.Common.{◌∙◌, ℕ, ◌-◌, drop, ap, arith, refl, ◌≡◌}
use Rattle.std.proofs.lemmas.List.{length-drop, take_all}
use Rattle.db_model.specs.Catalog.{version_mark}
use Rattle.std.proofs.lemmas.Grind.{common_steps}
use Rattle.stored_mend.proofs.CatalogKept.{mark_kept, mends_same, prepared_appends}
use Rattle.stored_mend.proofs.IndexGone.{stranger_same}
use Rattle.stored_mend.proofs.ListedFirst.{marked_already}
use Rattle.stored_mend.proofs.MarkListed.{marked_half, marked_whole}
use Rattle.stored_mend.proofs.ReportCatalog.{mark_reports}
use Rattle.stored_mend.proofs.ReportOnce.{reports_nothing}
use Rattle.db_model.specs.Database.{Database}
use Rattle.afl_base.specs.Files.{KeepsBytes, State}
use Rattle.stored.specs.Mended.{mended_base}
use Rattle.stored_mend.specs.Interrupted.{IsCutState}
use Rattle.stored_mend.proofs.CutCalls.{failed_handed, left_after, left_before, room_left, space_handed, space_not, space_unless}
use Rattle.stored_mend.proofs.CutMark.{front_behind, mark_left}
use Rattle.stored_mend.proofs.catalogs.write_mark.Goals as goal

pub returns-then-written-eq8-clause-kept : goal.returns-then-written-eq8-clause-kept
returns-then-written-eq8-clause-kept g c = λ version. mends_same (g.V.Files.state c.args.files.now)

pub returns-clause-kept : goal.returns-clause-kept
returns-clause-kept g c = λ version.
    let old = g.V.Files.state c.args.files.now in
    let new = g.V.Files.state c.append.new.self in
    mark_kept old new c.args.cat _ c.requires.catalog.whole
    (prepared_appends old (g.V.Files.state c.prepare.new.self) new c.args.cat _ c.in_ok-prepare.ensures.contents c.in_ok-append.ensures.appended)
    (grind (arith, common_steps, c.size.ensures, c.requires.catalog.whole.long, c.requires.catalog.most))
    version

pub returns-then-written-eq8-clause-marked : goal.returns-then-written-eq8-clause-marked
returns-then-written-eq8-clause-marked g c = λ told wants half h. marked_already (g.V.Files.state c.args.files.now).files c.args.cat half c.requires.catalog.whole (grind (arith, common_steps, c.size.ensures, c.if-written-eq8.true, c.requires.catalog.whole.long)) h

pub returns-clause-known : goal.returns-clause-known
returns-clause-known g c =
    let old = g.V.Files.state c.args.files.now in
    let new = g.V.Files.state c.append.new.self in
    stranger_same old new c.args.cat _ _ c.requires.catalog.live (prepared_appends old (g.V.Files.state c.prepare.new.self) new c.args.cat _ c.in_ok-prepare.ensures.contents c.in_ok-append.ensures.appended)

pub returns-clause-marked : goal.returns-clause-marked
returns-clause-marked g c = λ told wants half h.
    let old = g.V.Files.state c.args.files.now in
    let new = g.V.Files.state c.append.new.self in
    let a = prepared_appends old (g.V.Files.state c.prepare.new.self) new c.args.cat _ c.in_ok-prepare.ensures.contents c.in_ok-append.ensures.appended in
    let base = (returns-clause-kept g c wants).base told in
    let marked = marked_whole old new c.args.cat _ c.requires.catalog.whole told a base wants half h
    (take_all (8 - (c.size.result - 1472)) (drop (c.size.result - 1472) version_mark) (omega (arith, length-drop (c.size.result - 1472) version_mark))
    ∙ ap (λ (k : ℕ). drop (k - 1472) version_mark) c.size.ensures) in
    record { done = marked_half old new c.args.cat _ c.requires.catalog.whole told a base wants half h marked; marked = marked }

-- what is left where the call failed

pub returns-in_err-prepare-clause-cut : goal.returns-in_err-prepare-clause-cut
returns-in_err-prepare-clause-cut g c = λ told wants cut cuts failed.
    left_before (g.V.Files.state c.args.files.now).files (record { cut = cut; is = refl })
    (c.prepare.ensures.cut cuts told
    (failed_handed c.prepare.result c.from_residual.result c.in_err-prepare.field-0.0 c.in_err-prepare.was c.from_residual.ensures.1 failed))

pub returns-in_err-prepare-clause-space : goal.returns-in_err-prepare-clause-space
returns-in_err-prepare-clause-space g c = λ told wants cut.
    let old = g.V.Files.state c.args.files.now in
    let new = g.V.Files.state c.prepare.new.self in
    let same : Database → Type 0 = λ db. db ≡ mended_base old.files in
    space_handed c.prepare.result c.from_residual.result c.in_err-prepare.field-0.0 (KeepsBytes old new c.args.cat) (IsCutState new same) c.in_err-prepare.was c.from_residual.ensures.1
    (λ k. room_left old new c.args.cat c.requires.catalog.live told k same c.requires.idle cut refl)
    (space_unless (KeepsBytes old new c.args.cat) c.prepare.result c.prepare.ensures.contents)

pub returns-in_err-append-clause-cut : goal.returns-in_err-append-clause-cut
returns-in_err-append-clause-cut g c = λ told wants cut cuts failed.
    let old = g.V.Files.state c.args.files.now in
    let mid = g.V.Files.state c.prepare.new.self in
    let k = c.in_ok-prepare.ensures.contents in
    left_after (c.in_err-append.ensures.cut cuts (k.tells ∙ told))
    (λ (after : State) f.
    mark_left old after c.args.cat _ c.requires.catalog.whole told wants
    (take_all (8 - (c.size.result - 1472)) (drop (c.size.result - 1472) version_mark) (omega (arith, length-drop (c.size.result - 1472) version_mark))
    ∙ ap (λ (k : ℕ). drop (k - 1472) version_mark) c.size.ensures)
    (front_behind old mid after c.args.cat _ k f) cut)

pub returns-in_err-append-clause-space : goal.returns-in_err-append-clause-space
returns-in_err-append-clause-space g c = λ told wants cut.
    space_not _ c.from_residual-in_err-append.result c.from_residual-in_err-append.ensures.1

pub returns-then-written-eq8-clause-reported : goal.returns-then-written-eq8-clause-reported
returns-then-written-eq8-clause-reported g c = λ told. reports_nothing 1 _ _ _ _ refl refl

pub returns-clause-reported : goal.returns-clause-reported
returns-clause-reported g c = λ told.
    let old = g.V.Files.state c.args.files.now in
    let new = g.V.Files.state c.append.new.self in
    mark_reports old new c.args.cat _ told c.requires.catalog.whole
    (prepared_appends old (g.V.Files.state c.prepare.new.self) new c.args.cat _ c.in_ok-prepare.ensures.contents c.in_ok-append.ensures.appended)
    (grind (arith, common_steps, c.size.ensures, c.if-written-eq8.false, c.requires.catalog.whole.long, c.requires.catalog.most))
    (grind (arith, common_steps, c.size.ensures, c.requires.catalog.whole.long, c.requires.catalog.most))
    _ _ c.add.ensures
