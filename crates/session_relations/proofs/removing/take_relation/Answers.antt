use Rattle.std.proofs.Common.{arith, ◌<◌, ℕ, length, None, refl, subst, sym}
use Rattle.session_model.specs.Frames.{with_tuples}
use Rattle.session_model.specs.View.{view}
use Rattle.session_model.proofs.Catalogs.{catalog_there}
use Rattle.session_model.proofs.CutCatalogs.{database_of}
use Rattle.session_model.proofs.Running.{relation_there}
use Rattle.session_relations.specs.Changes.{Shows, changed_at}
use Rattle.session_relations.proofs.CutTables.{taken_table}
use Rattle.session_relations.proofs.CutViews.{taken_cut}
use Rattle.session_relations.proofs.Keeping.{failed_handed, on_space, space_handed}
use Rattle.session_relations.proofs.Found.{slot_item}
use Rattle.session_relations.proofs.Gone.{shows_removed}
use Rattle.session_relations.proofs.Shown.{shows_room}
use Rattle.session_relations.proofs.removing.take_relation.Goals as goal

pub take_slot-requires-clause-catalog : goal.take_slot-requires-clause-catalog
take_slot-requires-clause-catalog g c =
    catalog_there (g.V.Files.state c.args.files.now) c.args.tables.now c.args.held.now c.args.opens.now c.args.at.now.cat c.requires.running c.requires.cat

pub take_slot-requires-clause-named : goal.take_slot-requires-clause-named
take_slot-requires-clause-named g c =
    let s0 = g.V.Files.state c.args.files.now in
    let held = c.args.held.now in
    let slot = c.args.at.now.slot in
    let t = c.in-Some.tuples in
    let below : slot < length held.relations = omega (arith, c.requires.running.eight) in
    let there = slot_item held.relations c.number.result slot c.index-held-number.result t c.number.ensures.value below c.index-held-number.is c.in-Some.is in
    (relation_there s0 c.args.tables.now held c.args.opens.now c.requires.running slot t there).named

pub returns-clause-made : goal.returns-clause-made
returns-clause-made g c =
    let s0 = g.V.Files.state c.args.files.now in
    let s1 = g.V.Files.state c.take_slot.new.files in
    let tables = c.args.tables.now in
    let held = c.args.held.now in
    let opens = c.args.opens.now in
    let slot = c.args.at.now.slot in
    let t = c.in-Some.tuples in
    let few : slot < 8 = omega arith in
    let below : slot < length held.relations = omega (arith, c.requires.running.eight) in
    let there = slot_item held.relations c.number.result slot c.index-held-number.result t c.number.ensures.value below c.index-held-number.is c.in-Some.is in
    let shows = shows_removed s0 s1 tables held opens c.requires.running slot c.args.at.now.cat t c.requires.cat few there (c.requires.unread t there s0.files) c.requires.alone
    c.in_ok-take_slot.ensures.put c.in_ok-take_slot.ensures.gone in
    subst (λ (n : ℕ). Shows s0 s1 tables (with_tuples held n None) opens (changed_at (view s0.files held opens) slot None)) (sym c.number-2.ensures.value) shows

pub returns-in_err-take_slot-clause-kept : goal.returns-in_err-take_slot-clause-kept
returns-in_err-take_slot-clause-kept g c =
    let s0 = g.V.Files.state c.args.files.now in
    let s1 = g.V.Files.state c.take_slot.new.files in
    space_handed c.take_slot.result c.from_residual.result c.in_err-take_slot.field-0.0 _ _ c.in_err-take_slot.was c.from_residual.ensures.1
    (λ need kept. shows_room s0 s1 c.args.tables.now c.args.held.now c.args.opens.now c.requires.running c.args.at.now.cat c.requires.cat kept) c.take_slot.ensures.kept

pub returns-in_err-take_slot-clause-held : goal.returns-in_err-take_slot-clause-held
returns-in_err-take_slot-clause-held g c = on_space c.from_residual.result refl

pub returns-in_err-take_slot-clause-cut : goal.returns-in_err-take_slot-clause-cut
returns-in_err-take_slot-clause-cut g c = λ cuts told sound taken failed.
    let s0 = g.V.Files.state c.args.files.now in
    let slot = c.args.at.now.slot in
    let below : slot < 8 = omega arith in
    let t = c.in-Some.tuples in
    let held = c.args.held.now in
    let inside : slot < length held.relations = omega (arith, c.requires.running.eight) in
    let there = slot_item held.relations c.number.result slot c.index-held-number.result t c.number.ensures.value inside c.index-held-number.is c.in-Some.is in
    database_of
    (c.take_slot.ensures.cut cuts told (failed_handed c.take_slot.result c.from_residual.result c.in_err-take_slot.field-0.0 c.in_err-take_slot.was c.from_residual.ensures.1 failed))
    (λ after w. taken_table s0 c.args.tables.now c.args.held.now c.args.opens.now c.requires.running told sound slot c.args.at.now.cat c.requires.cat below t there taken after w)
    (λ after w. taken_cut s0 c.args.tables.now c.args.held.now c.args.opens.now c.requires.running told slot c.args.at.now.cat c.requires.cat below after w)
