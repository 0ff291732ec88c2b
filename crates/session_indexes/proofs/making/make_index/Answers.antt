use Rattle.std.proofs.Common.{subst}
use Rattle.db_model.specs.declared.schemas.IndexKind.{IndexKind}
use Rattle.db_model.specs.declared.schemas.IndexKind.TheVariants.{Inline, MaxHeap}
use Rattle.session_indexes.specs.Made.{AsksNoIndex, keys_at}
use Rattle.session_indexes.proofs.Effects.{made_for}
use Rattle.session_indexes.proofs.PutParts.{made_in_part_for}
use Rattle.session_indexes.proofs.Tried.{unrefused_for}
use Rattle.session_indexes.proofs.making.make_index.Goals as goal

pub returns-in-Inline-clause-made : goal.returns-in-Inline-clause-made
returns-in-Inline-clause-made g c =
    made_for (g.V.Files.state c.args.files.now) (g.V.Files.state c.make_order.new.files) c.args.cat c.args.tuples.now c.args.index.now.site.now c.args.index.now.kind Inline c.in-Inline.is c.args.tables.now c.args.held.now.indexes
    c.make_order.result c.make_order.ensures.made

pub returns-in-MaxHeap-clause-made : goal.returns-in-MaxHeap-clause-made
returns-in-MaxHeap-clause-made g c =
    made_for (g.V.Files.state c.args.files.now) (g.V.Files.state c.make_tree.new.files) c.args.cat c.args.tuples.now c.args.index.now.site.now c.args.index.now.kind MaxHeap c.in-MaxHeap.is c.args.tables.now c.args.held.now.indexes
    c.make_tree.result c.make_tree.ensures.made

pub returns-in-Inline-clause-unrefused : goal.returns-in-Inline-clause-unrefused
returns-in-Inline-clause-unrefused g c = λ told.
    unrefused_for c.args.index.now.kind Inline c.args.held.now.indexes (keys_at (g.V.Files.state c.args.files.now) c.args.tuples.now c.args.index.now.site.now) c.make_order.result c.in-Inline.is
    (c.make_order.ensures.unrefused told)

pub returns-in-Inline-clause-cut : goal.returns-in-Inline-clause-cut
returns-in-Inline-clause-cut g c = λ cuts told failed.
    made_in_part_for (g.V.Files.state c.args.files.now) c.args.held.now.indexes c.args.cat c.args.tuples.now c.args.index.now.site.now c.args.index.now.kind Inline c.in-Inline.is
    (c.make_order.ensures.cut cuts told failed)

pub returns-in-MaxHeap-clause-cut : goal.returns-in-MaxHeap-clause-cut
returns-in-MaxHeap-clause-cut g c = λ cuts told failed.
    made_in_part_for (g.V.Files.state c.args.files.now) c.args.held.now.indexes c.args.cat c.args.tuples.now c.args.index.now.site.now c.args.index.now.kind MaxHeap c.in-MaxHeap.is
    (c.make_tree.ensures.cut cuts told failed)

pub returns-in-Inline-clause-spares : goal.returns-in-Inline-clause-spares
returns-in-Inline-clause-spares g c = λ told asked.
    let s0 = g.V.Files.state c.args.files.now in
    let none = subst (λ (kind : IndexKind). AsksNoIndex (g.V.Files.asks c.args.files.now) s0 c.args.cat c.args.index.now.site.now.slot kind) c.in-Inline.is asked in
    c.make_order.ensures.spares told none

pub returns-in-MaxHeap-clause-spares : goal.returns-in-MaxHeap-clause-spares
returns-in-MaxHeap-clause-spares g c = λ told asked.
    let s0 = g.V.Files.state c.args.files.now in
    let none = subst (λ (kind : IndexKind). AsksNoIndex (g.V.Files.asks c.args.files.now) s0 c.args.cat c.args.index.now.site.now.slot kind) c.in-MaxHeap.is asked in
    absurd none

pub returns-in-MemHash-clause-spares : goal.returns-in-MemHash-clause-spares
returns-in-MemHash-clause-spares g c = λ told asked.
    let s0 = g.V.Files.state c.args.files.now in
    let none = subst (λ (kind : IndexKind). AsksNoIndex (g.V.Files.asks c.args.files.now) s0 c.args.cat c.args.index.now.site.now.slot kind) c.in-MemHash.is asked in
    c.make_table.ensures.spares told none
