use Rattle.std.proofs.Common.{◌≡◌, ℕ, Some, ap, subst, sym, ◌∙◌}
use Rattle.std.specs.Prelude.{option_map}
use Rattle.antelope_engine.specs.Reading.{index_in_slot}
use Rattle.catalog.specs.CatalogFile.{index_in}
use Rattle.space_plan.specs.FurtherRows.{rows_to}
use Rattle.space_plan.proofs.Trees.{slot_is, tree_there}
use Rattle.space_plan.proofs.planning.planned_tree.Goals as goal

pub returns-in-MaxHeap : goal.returns-in-MaxHeap
returns-in-MaxHeap g c = λ told.
    let db = c.args.session.now.database in
    let index = index_in c.in_ok-index.index in
    let at_id : index_in_slot db c.in_ok-id.id ≡ Some index = sym c.index.ensures ∙ ap (option_map index_in) c.in_ok-index.was in
    let same : c.in_ok-id.id ≡ c.args.slot = slot_is c.args.slot c.in_ok-id.id c.new.result c.requires.slot c.new.ensures c.in_ok-id.was in
    let at : index_in_slot db c.args.slot ≡ Some index = subst (λ (k : ℕ). index_in_slot db k ≡ Some index) same at_id in
    tree_there (rows_to c.args.rows.now) db (index_in_slot db c.args.slot) index c.tree_size.result c.rows_in_slot-more.result c.buckets.result c.slots_in-slots.result at c.in-MaxHeap.is
    c.rows_in_slot-more.ensures (c.buckets.ensures told index at_id) c.slots_in-slots.ensures c.tree_size.ensures
