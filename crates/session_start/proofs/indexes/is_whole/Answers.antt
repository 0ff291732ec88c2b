use Rattle.std.proofs.Common.{sym, subst, ◌∙◌, ℕ, IsTrue, ap, map}
use Rattle.std.specs.List.{range_with_len}
use Rattle.afl_base.specs.KeyColumn.{key_of}
use Rattle.db_model.specs.Step.{keys}
use Rattle.index_set.specs.declared.info.IndexInfo.{IndexInfo}
use Rattle.tuple_file.specs.Tuples.{rows}
use Rattle.session_start.proofs.Whole.{IsAlone, alone_ready, both_ok, column_keys, has_keys, kept_alone, on_ok, table_ready, told_ok}
use Rattle.session_start.proofs.indexes.is_whole.Goals as goal

pub returns-in-Order-clause-kept : goal.returns-in-Order-clause-kept
returns-in-Order-clause-kept g c = λ told.
    let state = g.V.Files.state c.args.files.now in
    let t = c.args.tuples.now in
    let x = c.args.index.now in
    let info : IndexInfo = record { attribute = x.attribute; column = c.column.result; access = x.access } in
    let columns = has_keys state t info (λ slot below. c.column.ensures.key state slot c.requires.holds told below) in
    on_ok _ _ c.verify_one.result
    (λ whole h. kept_alone state c.verify_one.new.tables x.access (keys x.attribute (rows state.files t)) whole (subst IsAlone (sym c.in-Order.is) tt) (h (rows state.files t) (sym c.count-slots.ensures.rows) columns))
    (c.verify_one.ensures.complete told)

pub returns-in-Order-clause-ready : goal.returns-in-Order-clause-ready
returns-in-Order-clause-ready g c =
    let state = g.V.Files.state c.args.files.now in
    let t = c.args.tuples.now in
    let x = c.args.index.now in
    let info : IndexInfo = record { attribute = x.attribute; column = c.column.result; access = x.access } in
    on_ok _ _ c.verify_one.result
    (λ whole h complete. alone_ready state c.verify_one.new.tables x t (subst IsAlone (sym c.in-Order.is) tt) c.requires.tree
    (λ told. (h told (rows state.files t) (sym c.count-slots.ensures.rows) (has_keys state t info (λ slot below. c.column.ensures.key state slot c.requires.holds told below))).0 complete))
    (told_ok (IsTrue state.tells) _ c.verify_one.result c.verify_one.ensures.complete)

pub returns-in-Tree-clause-kept : goal.returns-in-Tree-clause-kept
returns-in-Tree-clause-kept g c = λ told.
    let state = g.V.Files.state c.args.files.now in
    let t = c.args.tuples.now in
    let x = c.args.index.now in
    let info : IndexInfo = record { attribute = x.attribute; column = c.column.result; access = x.access } in
    let columns = has_keys state t info (λ slot below. c.column.ensures.key state slot c.requires.holds told below) in
    on_ok _ _ c.verify_one-in-Tree.result
    (λ whole h. kept_alone state c.verify_one-in-Tree.new.tables x.access (keys x.attribute (rows state.files t)) whole (subst IsAlone (sym c.in-Tree.is) tt) (h (rows state.files t) (sym c.count-slots.ensures.rows) columns))
    (c.verify_one-in-Tree.ensures.complete told)

pub returns-in-Tree-clause-ready : goal.returns-in-Tree-clause-ready
returns-in-Tree-clause-ready g c =
    let state = g.V.Files.state c.args.files.now in
    let t = c.args.tuples.now in
    let x = c.args.index.now in
    let info : IndexInfo = record { attribute = x.attribute; column = c.column.result; access = x.access } in
    on_ok _ _ c.verify_one-in-Tree.result
    (λ whole h complete. alone_ready state c.verify_one-in-Tree.new.tables x t (subst IsAlone (sym c.in-Tree.is) tt) c.requires.tree
    (λ told. (h told (rows state.files t) (sym c.count-slots.ensures.rows) (has_keys state t info (λ slot below. c.column.ensures.key state slot c.requires.holds told below))).0 complete))
    (told_ok (IsTrue state.tells) _ c.verify_one-in-Tree.result c.verify_one-in-Tree.ensures.complete)

pub returns-in-Table-clause-ready : goal.returns-in-Table-clause-ready
returns-in-Table-clause-ready g c =
    let state = g.V.Files.state c.args.files.now in
    let t = c.args.tuples.now in
    let x = c.args.index.now in
    let info : IndexInfo = record { attribute = x.attribute; column = c.column.result; access = x.access } in
    let columns = λ (told : IsTrue state.tells). column_keys state t info (λ slot below. c.column.ensures.key state slot c.requires.holds told below) in
    on_ok _ _ c.fill.result
    (λ whole h complete. table_ready state c.fill.new.tables x t c.in-Table.table c.in-Table.is c.requires.table (h.0 complete ∙ c.count-slots.ensures.slots)
    (λ told. h.1 told complete ∙ ap (λ (n : ℕ). map (key_of state c.column.result) (range_with_len 0 n)) c.count-slots.ensures.slots ∙ columns told))
    (both_ok _ _ c.fill.result c.fill.ensures.size (told_ok (IsTrue state.tells) _ c.fill.result c.fill.ensures.keys))
