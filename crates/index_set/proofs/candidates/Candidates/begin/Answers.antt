use Rattle.std.proofs.Common.{rules, ◌≡◌, sym, subst, get_or, ℕ}
use Rattle.std.specs.Prelude.{FitsSigned}
use Rattle.std.specs.Int.{w32}
use Rattle.std.proofs.lemmas.Int.{to_z-of_z}
use Rattle.afl_base.specs.KeyColumn.{key_of}
use Rattle.index_inline.specs.Span.{IsSpan}
use Rattle.index_set.proofs.Begins.{nothing_begins, order_begins, order_level, scan_begins, table_begins, table_chosen, tree_begins, tree_chosen}
use Rattle.index_set.proofs.candidates.Candidates.begin.Goals as goal

pub returns-in-Nothing-clause-begins : goal.returns-in-Nothing-clause-begins
returns-in-Nothing-clause-begins g c = λ told all few indexes.
    let s = c.at_start.ensures in
    nothing_begins c.args.indexes.now c.args.ranges.now c.args.slots c.at_start.result s.search s.place s.from s.slots (sym c.in-Nothing.ensures.plan) (g.V.Files.state c.args.files.now) c.args.tables.now all few

pub returns-in-Scan-clause-begins : goal.returns-in-Scan-clause-begins
returns-in-Scan-clause-begins g c = λ told all few indexes.
    let s = c.at_start-in-Scan.ensures in
    scan_begins c.args.indexes.now c.args.ranges.now c.args.slots c.at_start-in-Scan.result s.search s.place s.from s.slots (sym c.in-Scan.ensures.plan) (g.V.Files.state c.args.files.now) c.args.tables.now all few

pub returns-in-Tree-clause-begins : goal.returns-in-Tree-clause-begins
returns-in-Tree-clause-begins g c = λ told all few indexes.
    let xs = c.args.indexes.now in
    let nth = c.in-Tree.nth in
    let y = c.get.result.now in
    let has = c.in-Tree.ensures.index in
    let e : y ≡ get_or xs nth y = subst (λ (k : ℕ). y ≡ get_or xs k y) c.from-in-Tree.ensures c.get.ensures in
    let bound : FitsSigned w32 c.in-Tree.key = search rules in
    let s = c.at_start-in-Tree.ensures in
    tree_begins xs c.args.ranges.now c.args.slots nth y has.within e c.at_start-in-Tree.result c.in-Tree.file c.in-Tree.key (rw (to_z-of_z w32 c.in-Tree.key bound) at s.search) s.place s.from s.slots
    (sym c.in-Tree.ensures.plan) (has.access_is y e) (g.V.Files.state c.args.files.now) c.args.tables.now all few indexes

pub returns-in-Tree-clause-chosen : goal.returns-in-Tree-clause-chosen
returns-in-Tree-clause-chosen g c =
    let xs = c.args.indexes.now in
    let nth = c.in-Tree.nth in
    let y = c.get.result.now in
    let has = c.in-Tree.ensures.index in
    let e : y ≡ get_or xs nth y = subst (λ (k : ℕ). y ≡ get_or xs k y) c.from-in-Tree.ensures c.get.ensures in
    let bound : FitsSigned w32 c.in-Tree.key = search rules in
    rw (rw (to_z-of_z w32 c.in-Tree.key bound) at c.at_start-in-Tree.ensures.search) (tree_chosen xs c.args.ranges.now c.args.slots nth y has.within e c.in-Tree.file c.in-Tree.key (has.access_is y e))

pub returns-in-Table-clause-begins : goal.returns-in-Table-clause-begins
returns-in-Table-clause-begins g c = λ told all few indexes.
    let xs = c.args.indexes.now in
    let nth = c.in-Table.nth in
    let y = c.get-in-Table.result.now in
    let has = c.in-Table.ensures.index in
    let e : y ≡ get_or xs nth y = subst (λ (k : ℕ). y ≡ get_or xs k y) c.from-in-Table.ensures c.get-in-Table.ensures in
    let bound : FitsSigned w32 c.in-Table.key = search rules in
    let s = c.at_start-in-Table.ensures in
    table_begins xs c.args.ranges.now c.args.slots nth y has.within e c.at_start-in-Table.result c.in-Table.table c.in-Table.key (rw (to_z-of_z w32 c.in-Table.key bound) at s.search) s.place s.from s.slots
    (sym c.in-Table.ensures.plan) (has.access_is y e) (g.V.Files.state c.args.files.now) c.args.tables.now all few indexes

pub returns-in-Table-clause-chosen : goal.returns-in-Table-clause-chosen
returns-in-Table-clause-chosen g c =
    let xs = c.args.indexes.now in
    let nth = c.in-Table.nth in
    let y = c.get-in-Table.result.now in
    let has = c.in-Table.ensures.index in
    let e : y ≡ get_or xs nth y = subst (λ (k : ℕ). y ≡ get_or xs k y) c.from-in-Table.ensures c.get-in-Table.ensures in
    let bound : FitsSigned w32 c.in-Table.key = search rules in
    rw (rw (to_z-of_z w32 c.in-Table.key bound) at c.at_start-in-Table.ensures.search) (table_chosen xs c.args.ranges.now c.args.slots nth y has.within e c.in-Table.table c.in-Table.key (has.access_is y e))

pub returns-in_ok-from-in-Order-clause-begins : goal.returns-in_ok-from-in-Order-clause-begins
returns-in_ok-from-in-Order-clause-begins g c = λ told all few indexes.
    let xs = c.args.indexes.now in
    let rs = c.args.ranges.now in
    let n = c.args.slots in
    let state = g.V.Files.state c.args.files.now in
    let tables = c.args.tables.now in
    let nth = c.in-Order.nth in
    let y = c.get-info.result.now in
    let has = c.in-Order.ensures.index in
    let e : y ≡ get_or xs nth y = subst (λ (k : ℕ). y ≡ get_or xs k y) c.from.ensures c.get-info.ensures in
    let s = c.between.ensures in
    let level = order_level xs rs n nth y has.within e state tables all few (has.access_is y e) indexes in
    let span : IsSpan c.range_of-range.result (key_of state y.column) n c.between.result.from c.between.result.end = rw (s.from, s.end) (c.in_ok-from-in-Order.ensures.span told level) in
    order_begins xs rs n nth y has.within e c.between.result c.range_of-range.result state tables all few s.search s.place s.slots c.range_of-range.ensures (sym c.in-Order.ensures.plan) indexes span
