use Rattle.std.proofs.Common.{refl}
use Rattle.catalog.specs.CatalogFile.{indexes_in}
use Rattle.session_model.specs.declared.held.Held.{Held}
use Rattle.session_start.proofs.Placed.{found_of, rows_there, same_slots, trees_there}
use Rattle.session_start.proofs.holding.hold.Goals as goal

pub hold_relations-requires : goal.hold_relations-requires
hold_relations-requires g c = record {
  matched = rows_there (g.V.Files.state c.args.files.now).files c.args.catalog.now.relations (indexes_in c.args.catalog.now.indexes) c.requires.matched;
}

pub hold_indexes-held-requires : goal.hold_indexes-held-requires
hold_indexes-held-requires g c = record {
  matched = trees_there (g.V.Files.state c.args.files.now).files c.args.catalog.now.relations (indexes_in c.args.catalog.now.indexes) c.requires.matched;
}

pub returns-clause-found : goal.returns-clause-found
returns-clause-found g c =
    let held : Held = record { version = c.args.catalog.now.version; cat = c.find-held.result; relations = c.hold_relations.new.relations; indexes = c.hold_indexes-held.result } in
    let live = c.live-first_is_live.ensures in
    found_of (g.V.Files.state c.args.files.now) c.args.catalog.now held refl c.requires.formed c.hold_relations.ensures.relations c.hold_relations.ensures.eight c.hold_indexes-held.ensures.indexes c.hold_indexes-held.ensures.eight
    live.places live.distinct c.requires.known c.requires.size c.requires.matched (rw c.catalog_file.ensures at c.find-held.ensures.found) (rw c.catalog_file.ensures at c.find-held.ensures.none)

pub returns-clause-catalog : goal.returns-clause-catalog
returns-clause-catalog g c =
    let held : Held = record { version = c.args.catalog.now.version; cat = c.find-held.result; relations = c.hold_relations.new.relations; indexes = c.hold_indexes-held.result } in
    same_slots (g.V.Files.state c.args.files.now) c.args.catalog.now held refl c.requires.formed c.hold_relations.ensures.relations c.hold_relations.ensures.eight c.hold_indexes-held.ensures.indexes c.hold_indexes-held.ensures.eight
