use Rattle.std.proofs.Common.{arith, get_or, inl, ◌≡◌, ◌<◌, ℕ, Option, None, Some, IsTrue, ap, subst, sym, ◌∙◌}
use Rattle.db_model.specs.declared.schemas.Schema.{Schema}
use Rattle.db_model.specs.Database.{Database, free_from, with_relation}
use Rattle.tuple_file.specs.declared.tuples.Tuples.{Tuples}
use Rattle.session_model.specs.declared.held.Held.{Held}
use Rattle.session_model.specs.Carried.{IsEither}
use Rattle.session_model.specs.Frames.{with_tuples}
use Rattle.session_model.specs.Running.{IsRelationSlot, IsRunning}
use Rattle.session_model.specs.View.{view}
use Rattle.session_model.proofs.Catalogs.{catalog_there}
use Rattle.session_model.proofs.CutCatalogs.{database_of}
use Rattle.stored.specs.Mended.{mended_base}
use Rattle.stored.proofs.FewFiles.{few_files}
use Rattle.session_relations.specs.Changes.{MayMakeSlot, PutsSlot, Shows, bare_relation, bare_schema, changed_at}
use Rattle.db_model.specs.Sound.{IsSoundDatabase}
use Rattle.session_relations.proofs.CutTables.{created_table}
use Rattle.session_relations.proofs.CutViews.{created_cut}
use Rattle.session_relations.proofs.Keeping.{changes_done, changes_handed, changes_then, failed_handed, space_handed}
use Rattle.session_relations.proofs.Created.{new_tuples, shows_created, wants_first, wants_slot}
use Rattle.session_relations.proofs.Shown.{shows_kept, shows_room, shows_then}
use Rattle.session_relations.proofs.creating.add_relation.Goals as goal
use Rattle.db_model.proofs.Standing.{nothing_free}
use Rattle.afl_base.proofs.CauseLaws.{both_spaces}

pub make_rows-requires-clause-catalog : goal.make_rows-requires-clause-catalog
make_rows-requires-clause-catalog g c =
    let made = c.in_ok-cat.ensures.made in
    catalog_there (g.V.Files.state c.make_catalog.new.files) c.args.tables.now c.make_catalog.new.held c.args.opens.now c.in_ok-cat.cat made.running
    (ap (λ (h : Held). h.cat) c.in_ok-cat.ensures.cat)

pub make_rows-requires-clause-unnamed : goal.make_rows-requires-clause-unnamed
make_rows-requires-clause-unnamed g c =
    let s1 = g.V.Files.state c.make_catalog.new.files in
    let made = c.in_ok-cat.ensures.made in
    let below : c.args.slot < 8 = omega arith in
    let free : get_or c.make_catalog.new.held.relations c.args.slot None ≡ None =
    ap (λ (h : Held). get_or h.relations c.args.slot None) c.in_ok-cat.ensures.cat ∙ nothing_free c.args.held.now.relations c.args.slot c.requires.slot in
    let P : Option Tuples → Type 0 = λ o. IsRelationSlot s1 c.make_catalog.new.held.version c.args.slot o in
    subst P free (made.running.relations c.args.slot below)

pub make_rows-requires-clause-few : goal.make_rows-requires-clause-few
make_rows-requires-clause-few g c =
    let s1 = g.V.Files.state c.make_catalog.new.files in
    let made = c.in_ok-cat.ensures.made in
    let few = few_files s1.files made.running.distinct made.running.known in
    omega (arith, few)

pub returns-clause-made : goal.returns-clause-made
returns-clause-made g c =
    let s0 = g.V.Files.state c.args.files.now in
    let s1 = g.V.Files.state c.make_catalog.new.files in
    let s2 = g.V.Files.state c.make_rows.new.files in
    let tables = c.args.tables.now in
    let held = c.args.held.now in
    let opens = c.args.opens.now in
    let slot = c.args.slot in
    let name = c.args.name.now in
    let file = c.in_ok-file.file in
    let made = c.in_ok-cat.ensures.made in
    let h1 = c.make_catalog.new.held in
    let below : slot < 8 = omega arith in
    let schema = c.bare_schema-schema.result in
    let bare : schema ≡ bare_schema name = c.bare_schema-schema.ensures.schema in
    let free : get_or h1.relations slot None ≡ None =
    ap (λ (h : Held). get_or h.relations slot None) c.in_ok-cat.ensures.cat ∙ nothing_free held.relations slot c.requires.slot in
    let put : PutsSlot s1 s2 c.in_ok-cat.cat slot (Some (bare_schema name)) =
    subst (λ (s : Schema). PutsSlot s1 s2 c.in_ok-cat.cat slot (Some s)) bare c.in_ok-file.ensures.put in
    let shows = shows_created s1 s2 tables h1 opens made.running slot c.in_ok-cat.cat file name (ap (λ (h : Held). h.cat) c.in_ok-cat.ensures.cat) below free
    c.bare_schema-schema.ensures.name put c.in_ok-file.ensures.file in
    let after : Held = with_tuples h1 slot (Some (new_tuples file name)) in
    let all = shows_then s0 s1 s2 tables h1 after opens (view s0.files held opens) (λ db. changed_at db slot (Some (bare_relation name))) made shows in
    let db = changed_at (view s0.files held opens) slot (Some (bare_relation name)) in
    let by_schema = subst (λ (s : Schema). Shows s0 s2 tables (with_tuples h1 slot (Some (record { file = file; schema = s }))) opens db) (sym bare) all in
    subst (λ (n : ℕ). Shows s0 s2 tables (with_tuples h1 n (Some (record { file = file; schema = schema }))) opens db) (sym c.number.ensures.value) by_schema

pub returns-in_err-cat-clause-kept : goal.returns-in_err-cat-clause-kept
returns-in_err-cat-clause-kept g c =
    let s0 = g.V.Files.state c.args.files.now in
    let s1 = g.V.Files.state c.make_catalog.new.files in
    let tables = c.args.tables.now in
    let held = c.args.held.now in
    let opens = c.args.opens.now in
    space_handed c.make_catalog.result c.from_residual.result c.in_err-cat.field-0.0 _ _ c.in_err-cat.was c.from_residual.ensures.1
    (λ need kept. subst (λ (h : Held). Shows s0 s1 tables h opens (view s0.files held opens)) (sym kept.1) (shows_kept s0 s1 tables held opens c.requires.running kept.0))
    c.make_catalog.ensures.kept

pub returns-in_err-cat-clause-wants : goal.returns-in_err-cat-clause-wants
returns-in_err-cat-clause-wants g c = λ told.
    let s0 = g.V.Files.state c.args.files.now in
    let s1 = g.V.Files.state c.make_catalog.new.files in
    let tables = c.args.tables.now in
    let held = c.args.held.now in
    let opens = c.args.opens.now in
    let h1 = c.make_catalog.new.held in
    space_handed c.make_catalog.result c.from_residual.result c.in_err-cat.field-0.0 _ _ c.in_err-cat.was c.from_residual.ensures.1
    (λ need both. wants_first s1 tables h1 opens (subst (λ (h : Held). IsRunning s1 tables h opens) (sym both.0.1) (shows_kept s0 s1 tables held opens c.requires.running both.0.0).running)
    (g.V.Files.asks c.make_catalog.new.files) c.args.name.now _ (ap (λ (h : Held). h.cat) both.0.1 ∙ both.0.2) both.1)
    (both_spaces c.make_catalog.result _ _ c.make_catalog.ensures.kept c.make_catalog.ensures.need)

pub returns-in_err-file-clause-kept : goal.returns-in_err-file-clause-kept
returns-in_err-file-clause-kept g c =
    let s0 = g.V.Files.state c.args.files.now in
    let s1 = g.V.Files.state c.make_catalog.new.files in
    let s2 = g.V.Files.state c.make_rows.new.files in
    let tables = c.args.tables.now in
    let opens = c.args.opens.now in
    let h1 = c.make_catalog.new.held in
    let made = c.in_ok-cat.ensures.made in
    space_handed c.make_rows.result c.from_residual-in_err-file.result c.in_err-file.field-0.0 _ _ c.in_err-file.was c.from_residual-in_err-file.ensures.1
    (λ need kept. shows_then s0 s1 s2 tables h1 h1 opens (view s0.files c.args.held.now opens) (λ db. db) made
    (shows_room s1 s2 tables h1 opens made.running c.in_ok-cat.cat (ap (λ (h : Held). h.cat) c.in_ok-cat.ensures.cat) kept))
    c.make_rows.ensures.kept

pub returns-in_err-file-clause-wants : goal.returns-in_err-file-clause-wants
returns-in_err-file-clause-wants g c = λ told.
    let s1 = g.V.Files.state c.make_catalog.new.files in
    let s2 = g.V.Files.state c.make_rows.new.files in
    let tables = c.args.tables.now in
    let opens = c.args.opens.now in
    let slot = c.args.slot in
    let h1 = c.make_catalog.new.held in
    let made = c.in_ok-cat.ensures.made in
    let has : h1.cat ≡ Some c.in_ok-cat.cat = ap (λ (h : Held). h.cat) c.in_ok-cat.ensures.cat in
    let free : free_from 0 h1.relations ≡ Some slot = ap (λ (h : Held). free_from 0 h.relations) c.in_ok-cat.ensures.cat ∙ c.requires.slot in
    space_handed c.make_rows.result c.from_residual-in_err-file.result c.in_err-file.field-0.0 _ _ c.in_err-file.was c.from_residual-in_err-file.ensures.1
    (λ need both. wants_slot s2 tables h1 opens (shows_room s1 s2 tables h1 opens made.running c.in_ok-cat.cat has both.0).running
    (g.V.Files.asks c.make_rows.new.files) c.args.name.now need slot c.in_ok-cat.cat has free both.1)
    (both_spaces c.make_rows.result _ _ c.make_rows.ensures.kept c.make_rows.ensures.asked)

pub returns-in_err-cat-clause-frame : goal.returns-in_err-cat-clause-frame
returns-in_err-cat-clause-frame g c = changes_handed g.V.Files _ _ c.make_catalog.result c.from_residual.result c.in_err-cat.field-0.0 c.in_err-cat.was c.from_residual.ensures.1 c.make_catalog.ensures.frame

pub returns-in_err-file-clause-frame : goal.returns-in_err-file-clause-frame
returns-in_err-file-clause-frame g c =
    changes_handed g.V.Files _ _ c.make_rows.result c.from_residual-in_err-file.result c.in_err-file.field-0.0 c.in_err-file.was c.from_residual-in_err-file.ensures.1
    (changes_then g.V.Files _ _ _ _ _ c.make_catalog.ensures.frame c.make_rows.ensures.frame)

pub returns-clause-frame : goal.returns-clause-frame
returns-clause-frame g c = changes_done g.V.Files _ _ _ _ (changes_then g.V.Files _ _ _ _ _ c.make_catalog.ensures.frame c.make_rows.ensures.frame)

pub returns-in_err-cat-clause-cut : goal.returns-in_err-cat-clause-cut
returns-in_err-cat-clause-cut g c = λ cuts told sound after failed.
    let m = c.make_catalog.ensures.cut cuts told sound (failed_handed c.make_catalog.result c.from_residual.result c.in_err-cat.field-0.0 c.in_err-cat.was c.from_residual.ensures.1 failed) in
    record { files = m.files; mends_to = m.mends_to; cut = m.cut; is = inl m.is }

pub returns-in_err-file-clause-cut : goal.returns-in_err-file-clause-cut
returns-in_err-file-clause-cut g c = λ cuts told sound makes failed.
    let s1 = g.V.Files.state c.make_catalog.new.files in
    let tables = c.args.tables.now in
    let opens = c.args.opens.now in
    let slot = c.args.slot in
    let name = c.args.name.now in
    let cat = c.in_ok-cat.cat in
    let made = c.in_ok-cat.ensures.made in
    let h1 = c.make_catalog.new.held in
    let told1 : IsTrue s1.tells = made.tells ∙ told in
    let below : slot < 8 = omega arith in
    let bare : c.bare_schema-schema.result ≡ bare_schema name = c.bare_schema-schema.ensures.schema in
    let has : h1.cat ≡ Some cat = ap (λ (h : Held). h.cat) c.in_ok-cat.ensures.cat in
    let free : get_or h1.relations slot None ≡ None =
    ap (λ (h : Held). get_or h.relations slot None) c.in_ok-cat.ensures.cat ∙ nothing_free c.args.held.now.relations slot c.requires.slot in
    let m = c.make_rows.ensures.cut cuts told1
    (failed_handed c.make_rows.result c.from_residual-in_err-file.result c.in_err-file.field-0.0 c.in_err-file.was c.from_residual-in_err-file.ensures.1 failed) in
    let lowest : free_from 0 h1.relations ≡ Some slot = ap (λ (h : Held). free_from 0 h.relations) c.in_ok-cat.ensures.cat ∙ c.requires.slot in
    let good = c.bare_schema-schema.ensures.name in
    let sound1 = subst IsSoundDatabase (sym (made.seen told)) sound in
    let made1 = subst (λ (db : Database). IsSoundDatabase (changed_at db slot (Some (bare_relation name)))) (sym (made.seen told)) (makes good) in
    database_of m
    (λ after w. created_table s1 tables h1 opens made.running told1 sound1 slot cat has below after name free lowest good made1 (subst (λ (s : Schema). MayMakeSlot s1 after cat slot s) bare w))
    (λ after w.
    let part : MayMakeSlot s1 after cat slot (bare_schema name) = subst (λ (s : Schema). MayMakeSlot s1 after cat slot s) bare w in
    subst (λ (db : Database). IsEither db (with_relation db slot (Some (bare_relation name))) (mended_base after.files)) (made.seen told)
    (created_cut s1 tables h1 opens made.running told1 slot cat has below after name free c.bare_schema-schema.ensures.name part))
