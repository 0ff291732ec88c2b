use Rattle.std.proofs.Common.{arith, ◌<◌, ℕ, [], Some, refl, subst, sym}
use Rattle.padded.proofs.Facts.{some_inside}
use Rattle.session_model.specs.Frames.{with_tuples}
use Rattle.session_model.specs.View.{view}
use Rattle.session_model.proofs.Catalogs.{catalog_there}
use Rattle.session_model.proofs.CutCatalogs.{database_of}
use Rattle.session_relations.specs.Changes.{Shows, changed_at}
use Rattle.session_relations.proofs.CutGrown.{grown_table}
use Rattle.session_relations.proofs.CutViews.{grown_cut}
use Rattle.session_relations.proofs.Keeping.{failed_handed, on_space, space_handed}
use Rattle.session_relations.proofs.Grown.{shows_grown}
use Rattle.session_relations.proofs.Shown.{shows_room}
use Rattle.session_relations.proofs.growing.grow_relation.Goals as goal

pub put_slot-requires-clause-catalog : goal.put_slot-requires-clause-catalog
put_slot-requires-clause-catalog g c =
    catalog_there (g.V.Files.state c.args.files.now) c.args.tables.now c.args.held.now c.args.opens.now c.args.at.now.cat c.requires.running c.requires.cat

pub returns-clause-made : goal.returns-clause-made
returns-clause-made g c =
    let s0 = g.V.Files.state c.args.files.now in
    let s1 = g.V.Files.state c.put_slot.new.files in
    let tables = c.args.tables.now in
    let held = c.args.held.now in
    let opens = c.args.opens.now in
    let slot = c.args.at.now.slot in
    let grown = c.args.grown in
    let grows = c.requires.grows in
    let below : slot < 8 = omega arith in
    let shows = shows_grown s0 s1 tables held opens c.requires.running slot c.args.at.now.cat grows.was grown c.requires.cat below grows.there grows.empty grows.longer c.in_ok-put_slot.ensures.put in
    subst (λ (n : ℕ). Shows s0 s1 tables (with_tuples held n (Some grown)) opens (changed_at (view s0.files held opens) slot (Some (record { schema = grown.schema; rows = [] }))))
    (sym c.number.ensures.value) shows

pub returns-in_err-put_slot-clause-kept : goal.returns-in_err-put_slot-clause-kept
returns-in_err-put_slot-clause-kept g c =
    let s0 = g.V.Files.state c.args.files.now in
    let s1 = g.V.Files.state c.put_slot.new.files in
    space_handed c.put_slot.result c.from_residual.result c.in_err-put_slot.field-0.0 _ _ c.in_err-put_slot.was c.from_residual.ensures.1
    (λ need kept. shows_room s0 s1 c.args.tables.now c.args.held.now c.args.opens.now c.requires.running c.args.at.now.cat c.requires.cat kept) c.put_slot.ensures.kept

pub returns-in_err-put_slot-clause-held : goal.returns-in_err-put_slot-clause-held
returns-in_err-put_slot-clause-held g c = on_space c.from_residual.result refl

pub returns-in_err-put_slot-clause-cut : goal.returns-in_err-put_slot-clause-cut
returns-in_err-put_slot-clause-cut g c = λ cuts told sound grown failed.
    let s0 = g.V.Files.state c.args.files.now in
    let slot = c.args.at.now.slot in
    let grows = c.requires.grows in
    let below : slot < 8 = omega (arith, some_inside c.args.held.now.relations slot grows.was grows.there, c.requires.running.eight) in
    database_of
    (c.put_slot.ensures.cut cuts told (failed_handed c.put_slot.result c.from_residual.result c.in_err-put_slot.field-0.0 c.in_err-put_slot.was c.from_residual.ensures.1 failed))
    (λ after w.
    grown_table s0 c.args.tables.now c.args.held.now c.args.opens.now c.requires.running told sound slot c.args.at.now.cat c.requires.cat below grows.was c.args.grown grows.there grows.empty grows.longer grown after w)
    (λ after w.
    grown_cut s0 c.args.tables.now c.args.held.now c.args.opens.now c.requires.running told slot c.args.at.now.cat c.requires.cat below after grows.was c.args.grown grows.there grows.empty grows.longer w)
