use Rattle.std.proofs.Common.{◌≡◌, ◌≤◌, ◌+◌, List, Option, length, map, ap, sym, subst, ◌∙◌, arith}
use Rattle.db_model.specs.Ahead as model
use Rattle.db_model.specs.Answers.{selected}
use Rattle.db_model.specs.Cond.{Cond}
use Rattle.db_model.specs.Cost.{begin_cost}
use Rattle.db_model.specs.Plan.{plan, ranges_of}
use Rattle.index_set.specs.declared.info.IndexInfo.{IndexInfo}
use Rattle.index_set.specs.Complete.{AreIndexesOf, AreReadable}
use Rattle.index_set.specs.Plans.{kinds, slots_passed}
use Rattle.index_set.specs.Walks.{Fits, IsChosen, ahead, walk_of_search}
use Rattle.cursor.specs.Remaining.{AreOnNumbers, remaining, selected_slots, slots_to_answer}
use Rattle.lvm.specs.Code.{IsCodeOf}
use Rattle.tuple_file.specs.declared.tuples.Tuples.{Tuples}
use Rattle.tuple_file.specs.Tuples.{HoldsRows, rows, slots}
use Rattle.session_model.specs.Indexed.{infos_of}
use Rattle.session_model.specs.View.{project}
use Rattle.session_model.proofs.Readable.{are_indexes, are_numbers, are_on_numbers, are_readable}
use Rattle.session_model.proofs.Running.{relation_there}
use Rattle.session_model.proofs.Selects.{begun_waits}
use Rattle.session_cursors.proofs.Begun.{moved, select_begun}
use Rattle.session_cursors.proofs.beginning.begin_select.Goals as goal

pub indexes_of-indexes-requires-clause-short : goal.indexes_of-indexes-requires-clause-short
indexes_of-indexes-requires-clause-short g c = (relation_there (g.V.Files.state c.args.files.now) c.args.memory.now.tables.now c.args.memory.now.held.now c.args.memory.now.opens.now c.requires.running c.args.queried.now.slot c.args.queried.now.tuples.now c.requires.there).holds.file.short

pub indexes_of-indexes-requires-clause-numbers : goal.indexes_of-indexes-requires-clause-numbers
indexes_of-indexes-requires-clause-numbers g c = are_numbers (g.V.Files.state c.args.files.now) c.args.memory.now.tables.now c.args.memory.now.held.now c.args.memory.now.opens.now c.requires.running c.args.queried.now.slot c.args.queried.now.tuples.now c.requires.there

pub begin-requires-clause-holds : goal.begin-requires-clause-holds
begin-requires-clause-holds g c =
    subst (λ (z : Tuples). HoldsRows (g.V.Files.state c.args.files.now) z) (sym c.requires.over)
    (relation_there (g.V.Files.state c.args.files.now) c.args.memory.now.tables.now c.args.memory.now.held.now c.args.memory.now.opens.now c.requires.running c.args.queried.now.slot c.args.queried.now.tuples.now c.requires.there).holds

pub begin-requires-clause-numbers : goal.begin-requires-clause-numbers
begin-requires-clause-numbers g c = moved (λ z l. AreOnNumbers z.schema.attributes l) (sym c.requires.over) (sym c.indexes_of-indexes.ensures)
    (are_on_numbers (g.V.Files.state c.args.files.now) c.args.memory.now.tables.now c.args.memory.now.held.now c.args.memory.now.opens.now c.requires.running c.args.queried.now.slot c.args.queried.now.tuples.now c.requires.there)

pub begin-requires-clause-readable : goal.begin-requires-clause-readable
begin-requires-clause-readable g c =
    let state = g.V.Files.state c.args.files.now in
    moved (λ z l. AreReadable state (slots state.files z) l) (sym c.requires.over) (sym c.indexes_of-indexes.ensures)
    (are_readable state c.args.memory.now.tables.now c.args.memory.now.held.now c.args.memory.now.opens.now c.requires.running c.args.queried.now.slot c.args.queried.now.tuples.now c.requires.there (slots state.files c.args.queried.now.tuples.now) (omega arith))

pub returns-clause-rows : goal.returns-clause-rows
returns-clause-rows g c = λ told condition code.
    let state = g.V.Files.state c.args.files.now in
    let h = c.in_ok-begin.ensures in
    let cursor = c.begin.new.self in
    let P : Tuples → List IndexInfo → Type 0 = λ z l. (d : Option Cond) → IsCodeOf z.schema.attributes d c.args.opened.now.cursor.code → AreIndexesOf state c.args.memory.now.tables.now (rows state.files z) l
    → remaining cursor (rows state.files z) ≡ selected z.schema.attributes d (rows state.files z) in
    ap (λ (z : Tuples). map (project c.args.opened.now.places) (remaining cursor (rows state.files z))) (h.begun.tuples ∙ c.requires.over)
    ∙ ap (map (project c.args.opened.now.places)) (moved P c.requires.over c.indexes_of-indexes.ensures (λ d code_is are. (h.begins told d code_is are).remaining) condition code
    (are_indexes (g.V.Files.state c.args.files.now) c.args.memory.now.tables.now c.args.memory.now.held.now c.args.memory.now.opens.now c.requires.running c.args.queried.now.slot c.args.queried.now.tuples.now c.requires.there told))

pub returns-clause-ahead : goal.returns-clause-ahead
returns-clause-ahead g c = λ told condition code.
    let state = g.V.Files.state c.args.files.now in
    let tables = c.args.memory.now.tables.now in
    let t = c.args.queried.now.tuples.now in
    let e1 = c.requires.over in
    let e2 = c.indexes_of-indexes.ensures in
    let h = c.in_ok-begin.ensures in
    let cursor = c.begin.new.self in
    let indexes = are_indexes (g.V.Files.state c.args.files.now) c.args.memory.now.tables.now c.args.memory.now.held.now c.args.memory.now.opens.now c.requires.running c.args.queried.now.slot c.args.queried.now.tuples.now c.requires.there told in
    let O : Tuples → List IndexInfo → Type 0 = λ z l. (d : Option Cond) → IsCodeOf z.schema.attributes d c.args.opened.now.cursor.code → AreIndexesOf state tables (rows state.files z) l
    → slots_to_answer cursor (rows state.files z) ≡ selected_slots z.schema.attributes d (rows state.files z) in
    let P : Tuples → List IndexInfo → Type 0 = λ z l. (d : Option Cond) → IsCodeOf z.schema.attributes d c.args.opened.now.cursor.code → AreIndexesOf state tables (rows state.files z) l
    → ahead cursor.candidates (rows state.files z) ≡ slots_passed (kinds l) (ranges_of z.schema.attributes d) (length (rows state.files z)) (rows state.files z) in
    let Q : Tuples → List IndexInfo → Type 0 = λ z l. (d : Option Cond) → IsCodeOf z.schema.attributes d c.args.opened.now.cursor.code
    → walk_of_search cursor.candidates.search ≡ model.walk_of (kinds l) (plan (kinds l) (ranges_of z.schema.attributes d)) in
    select_begun state.files (record { cursor = cursor; places = c.args.opened.now.places }) t (infos_of c.args.queried.now.slot t c.args.memory.now.held.now.indexes) condition (h.begun.tuples ∙ e1)
    (moved Q e1 e2 h.walk condition code) (moved P e1 e2 (λ d code_is are. (h.begins told d code_is are).ahead) condition code indexes)
    (moved O e1 e2 (λ d code_is are. (h.begins told d code_is are).slots_left) condition code indexes)

pub returns-clause-waits : goal.returns-clause-waits
returns-clause-waits g c =
    let state = g.V.Files.state c.args.files.now in
    let e1 = c.requires.over in
    let e2 = c.indexes_of-indexes.ensures in
    let h = c.in_ok-begin.ensures in
    let cursor = c.begin.new.self in
    let P : Tuples → List IndexInfo → Type 0 = λ z l. AreIndexesOf state c.args.memory.now.tables.now (rows state.files z) l → Fits cursor.candidates state c.args.memory.now.tables.now (rows state.files z) in
    begun_waits state c.args.memory.now.held.now c.args.queried.now.slot c.args.queried.now.tuples.now c.requires.there cursor (h.begun.tuples ∙ e1) h.begun.rests (h.begun.slots ∙ ap (λ (z : Tuples). slots state.files z) e1)
    (λ told. (moved P e1 e2 (h.fits told) (are_indexes (g.V.Files.state c.args.files.now) c.args.memory.now.tables.now c.args.memory.now.held.now c.args.memory.now.opens.now c.requires.running c.args.queried.now.slot c.args.queried.now.tuples.now c.requires.there told)).waits)
    (subst (λ (l : List IndexInfo). IsChosen cursor.candidates.search l) e2 h.begun.chosen)

pub returns-in_err-begin-clause-reads : goal.returns-in_err-begin-clause-reads
returns-in_err-begin-clause-reads g c = moved (λ z l. (d : Option Cond) → IsCodeOf z.schema.attributes d c.args.opened.now.cursor.code
    → g.V.Files.reads c.begin.new.files ≤ g.V.Files.reads c.args.files.now + begin_cost (slots (g.V.Files.state c.args.files.now).files z) (plan (kinds l) (ranges_of z.schema.attributes d)))
    c.requires.over c.indexes_of-indexes.ensures c.in_err-begin.ensures.reads

pub returns-clause-reads : goal.returns-clause-reads
returns-clause-reads g c = moved (λ z l. (d : Option Cond) → IsCodeOf z.schema.attributes d c.args.opened.now.cursor.code
    → g.V.Files.reads c.begin.new.files ≤ g.V.Files.reads c.args.files.now + begin_cost (slots (g.V.Files.state c.args.files.now).files z) (plan (kinds l) (ranges_of z.schema.attributes d)))
    c.requires.over c.indexes_of-indexes.ensures c.in_ok-begin.ensures.reads
