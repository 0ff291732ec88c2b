use Rattle.std.proofs.Common.{arith, ℕ, List, refl, subst}
use Rattle.std.proofs.Math.Logic.{⊎_elim}
use Rattle.afl_base.specs.declared.kind.Kind.TheVariants.{Fixed}
use Rattle.afl_base.specs.Files.{Creates}
use Rattle.stored.proofs.FewFiles.{few_files}
use Rattle.session_model.proofs.CutCatalogs.{database_of}
use Rattle.session_model.proofs.ReadAs.{running_alike}
use Rattle.session_model.proofs.CutHeld.{cut_held}
use Rattle.session_relations.proofs.CutPlaces.{made_table}
use Rattle.session_relations.proofs.CutViews.{made_cut}
use Rattle.session_relations.proofs.Keeping.{failed_handed, space_handed}
use Rattle.session_relations.proofs.Shown.{shows_made}
use Rattle.session_relations.proofs.creating.make_catalog.Goals as goal

pub create-requires-clause-place : goal.create-requires-clause-place
create-requires-clause-place g c =
    let s = g.V.Files.state c.args.files.now in
    let few = few_files s.files c.requires.running.distinct c.requires.running.known in
    omega (arith, few)

pub returns-clause-made : goal.returns-clause-made
returns-clause-made g c =
    let old = g.V.Files.state c.args.files.now in
    let new = g.V.Files.state c.create.new.self in
    shows_made old new c.args.tables.now c.args.held.now c.args.opens.now c.requires.running c.in_ok-cat.cat c.in_default.is
    (subst (λ (n : List ℕ). Creates old new c.in_ok-cat.cat n (Fixed 6)) c.catalog_file.ensures c.in_ok-cat.ensures.created)

pub returns-in_err-cat-clause-kept : goal.returns-in_err-cat-clause-kept
returns-in_err-cat-clause-kept g c =
    space_handed c.create.result c.from_residual.result c.in_err-cat.field-0.0 _ _ c.in_err-cat.was c.from_residual.ensures.1 (λ need kept. (kept, refl, c.in_default.is)) c.create.ensures.kept

pub returns-in_err-cat-clause-cut : goal.returns-in_err-cat-clause-cut
returns-in_err-cat-clause-cut g c = λ cuts told sound failed.
    let old = g.V.Files.state c.args.files.now in
    let tables = c.args.tables.now in
    let held = c.args.held.now in
    let opens = c.args.opens.now in
    let running = c.requires.running in
    ⊎_elim
    (λ before. record { files = old.files; mends_to = before; cut = cut_held old tables held opens running told sound; is = running_alike old tables held opens running told })
    (λ part. database_of part (λ after u. made_table old after tables held opens u.0 running told sound c.in_default.is (subst (λ (n : List ℕ). Creates old after u.0 n (Fixed 6)) c.catalog_file.ensures u.1))
    (λ after u. made_cut old after tables held opens u.0 running told c.in_default.is (subst (λ (n : List ℕ). Creates old after u.0 n (Fixed 6)) c.catalog_file.ensures u.1)))
    (c.create.ensures.cut cuts told (failed_handed c.create.result c.from_residual.result c.in_err-cat.field-0.0 c.in_err-cat.was c.from_residual.ensures.1 failed))
