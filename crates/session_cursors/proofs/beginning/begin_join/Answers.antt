use Rattle.std.proofs.Common.{◌≡◌, List, map, ap, sym, subst, ◌∙◌, arith}
use Rattle.index_set.specs.declared.info.IndexInfo.{IndexInfo}
use Rattle.index_set.specs.Complete.{AreReadable}
use Rattle.cursor.specs.Pairs.{matching, pairs_left}
use Rattle.tuple_file.specs.declared.tuples.Tuples.{Tuples}
use Rattle.tuple_file.specs.Tuples.{HoldsRows, rows, slots}
use Rattle.session_model.specs.Indexed.{infos_of}
use Rattle.session_model.specs.View.{project_pair}
use Rattle.session_model.proofs.Joins.{begun_join_waits}
use Rattle.session_model.proofs.Readable.{are_numbers, are_readable}
use Rattle.session_model.proofs.Running.{relation_there}
use Rattle.session_cursors.proofs.Begun.{join_begun}
use Rattle.session_cursors.proofs.beginning.begin_join.Goals as goal
use Rattle.tuple_file.proofs.Columns.{rows_counted}

pub indexes_of-indexes-requires-clause-short : goal.indexes_of-indexes-requires-clause-short
indexes_of-indexes-requires-clause-short g c = (relation_there (g.V.Files.state c.args.files.now) c.args.memory.now.tables.now c.args.memory.now.held.now c.args.memory.now.opens.now c.requires.running c.args.right.now.slot c.args.right.now.tuples.now c.requires.right).holds.file.short

pub indexes_of-indexes-requires-clause-numbers : goal.indexes_of-indexes-requires-clause-numbers
indexes_of-indexes-requires-clause-numbers g c = are_numbers (g.V.Files.state c.args.files.now) c.args.memory.now.tables.now c.args.memory.now.held.now c.args.memory.now.opens.now c.requires.running c.args.right.now.slot c.args.right.now.tuples.now c.requires.right

pub begin-cursor-requires-clause-left : goal.begin-cursor-requires-clause-left
begin-cursor-requires-clause-left g c =
    let state = g.V.Files.state c.args.files.now in
    let tables = c.args.memory.now.tables.now in
    let held = c.args.memory.now.held.now in
    let opens = c.args.memory.now.opens.now in
    let r = c.requires.running in
    let s = c.args.left.now.tuples.now in
    let j = c.args.left.now.slot in
    let there_s = c.requires.left in
    subst (λ (z : Tuples). HoldsRows state z) (sym c.copy.ensures) (relation_there state tables held opens r j s there_s).holds

pub begin-cursor-requires-clause-right : goal.begin-cursor-requires-clause-right
begin-cursor-requires-clause-right g c =
    let state = g.V.Files.state c.args.files.now in
    let tables = c.args.memory.now.tables.now in
    let held = c.args.memory.now.held.now in
    let opens = c.args.memory.now.opens.now in
    let r = c.requires.running in
    let t = c.args.right.now.tuples.now in
    let k = c.args.right.now.slot in
    let there_t = c.requires.right in
    subst (λ (z : Tuples). HoldsRows state z) (sym c.copy-2.ensures) (relation_there state tables held opens r k t there_t).holds

pub begin-cursor-requires-clause-readable : goal.begin-cursor-requires-clause-readable
begin-cursor-requires-clause-readable g c =
    let state = g.V.Files.state c.args.files.now in
    let tables = c.args.memory.now.tables.now in
    let held = c.args.memory.now.held.now in
    let opens = c.args.memory.now.opens.now in
    let r = c.requires.running in
    let t = c.args.right.now.tuples.now in
    let k = c.args.right.now.slot in
    let there_t = c.requires.right in
    let infos : List IndexInfo = c.indexes_of-indexes.result in
    let e2 : c.copy-2.result ≡ t = c.copy-2.ensures in
    let e3 : infos ≡ infos_of k t held.indexes = c.indexes_of-indexes.ensures in
    let P : Tuples → List IndexInfo → Type 0 = λ z l. AreReadable state (slots state.files z) l in
    subst (λ (z : Tuples). P z infos) (sym e2) (subst (λ (l : List IndexInfo). P t l) (sym e3) (are_readable state tables held opens r k t there_t (slots state.files t) (omega arith)))

pub returns-clause-rows : goal.returns-clause-rows
returns-clause-rows g c =
    let state = g.V.Files.state c.args.files.now in
    let s = c.args.left.now.tuples.now in
    let t = c.args.right.now.tuples.now in
    let e1 : c.copy.result ≡ s = c.copy.ensures in
    let e2 : c.copy-2.result ≡ t = c.copy-2.ensures in
    let h = c.begin-cursor.ensures in
    let cursor = c.begin-cursor.result in
    let files = state.files in
    let places = c.args.plan.places in
    let first : map (project_pair places) (pairs_left cursor (rows files cursor.left) (rows files cursor.right)) ≡ map (project_pair places) (pairs_left cursor (rows files c.copy.result) (rows files c.copy-2.result)) =
    λ i. map (project_pair places) (pairs_left cursor (rows files (h.begun.left i)) (rows files (h.begun.right i))) in
    let last : matching c.args.plan.left_on c.args.plan.right_on (rows files c.copy.result) (rows files c.copy-2.result) ≡ matching c.args.plan.left_on c.args.plan.right_on (rows files s) (rows files t) =
    λ i. matching c.args.plan.left_on c.args.plan.right_on (rows files (e1 i)) (rows files (e2 i)) in
    first ∙ ap (map (project_pair places)) (h.pairs ∙ last)

pub returns-clause-ahead : goal.returns-clause-ahead
returns-clause-ahead g c =
    let state = g.V.Files.state c.args.files.now in
    let held = c.args.memory.now.held.now in
    let s = c.args.left.now.tuples.now in
    let t = c.args.right.now.tuples.now in
    let k = c.args.right.now.slot in
    let infos : List IndexInfo = c.indexes_of-indexes.result in
    let e1 : c.copy.result ≡ s = c.copy.ensures in
    let e2 : c.copy-2.result ≡ t = c.copy-2.ensures in
    let e3 : infos ≡ infos_of k t held.indexes = c.indexes_of-indexes.ensures in
    let h = c.begin-cursor.ensures in
    let cursor = c.begin-cursor.result in
    let files = state.files in
    join_begun files (record { cursor = cursor; places = c.args.plan.places }) s t (infos_of k t held.indexes) c.args.plan.left_on c.args.plan.right_on (h.begun.left ∙ e1) (h.begun.right ∙ e2) (h.begun.indexes ∙ e3) h.begun.left_on h.begun.right_on h.begun.at h.begun.from
    (h.begun.left_slots ∙ ap (λ (z : Tuples). slots files z) e1 ∙ sym (rows_counted files s)) (h.begun.right_slots ∙ ap (λ (z : Tuples). slots files z) e2 ∙ sym (rows_counted files t))

pub returns-clause-waits : goal.returns-clause-waits
returns-clause-waits g c =
    let state = g.V.Files.state c.args.files.now in
    let held = c.args.memory.now.held.now in
    let s = c.args.left.now.tuples.now in
    let t = c.args.right.now.tuples.now in
    let j = c.args.left.now.slot in
    let k = c.args.right.now.slot in
    let there_s = c.requires.left in
    let there_t = c.requires.right in
    let infos : List IndexInfo = c.indexes_of-indexes.result in
    let e1 : c.copy.result ≡ s = c.copy.ensures in
    let e2 : c.copy-2.result ≡ t = c.copy-2.ensures in
    let e3 : infos ≡ infos_of k t held.indexes = c.indexes_of-indexes.ensures in
    let h = c.begin-cursor.ensures in
    let cursor = c.begin-cursor.result in
    let files = state.files in
    begun_join_waits state held j k s t there_s there_t cursor (h.begun.left ∙ e1) (h.begun.right ∙ e2) (h.begun.indexes ∙ e3) (h.begun.left_slots ∙ ap (λ (z : Tuples). slots files z) e1)
    (h.begun.right_slots ∙ ap (λ (z : Tuples). slots files z) e2) h.begun.rests (omega (arith, h.begun.from))
