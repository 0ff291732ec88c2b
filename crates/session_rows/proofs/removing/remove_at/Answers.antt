use Rattle.std.proofs.Common.{◌∙◌, List, arith, refl, subst, sym}
use Rattle.db_model.specs.Cond.{condition_of}
use Rattle.index_set.specs.declared.info.IndexInfo.{IndexInfo}
use Rattle.index_set.specs.Complete.{AreIndexesOf, AreReadable}
use Rattle.tuple_file.specs.Tuples.{rows, slots}
use Rattle.cursor.specs.Remaining.{AreOnNumbers}
use Rattle.session_model.proofs.Readable.{are_indexes, are_numbers, are_on_numbers, are_readable}
use Rattle.session_model.proofs.Running.{relation_there, rows_change}
use Rattle.session_rows.proofs.Changes.{goes_on}
use Rattle.session_rows.proofs.Refusals.{is_read, is_refused, removal, removal_keys, may_remove}
use Rattle.session_rows.proofs.Unwanted.{on_done}
use Rattle.session_rows.proofs.Wants.{no_space}
use Rattle.padded.proofs.Facts.{on_err}
use Rattle.session_rows.proofs.removing.remove_at.Goals as goal

pub returns-in-Err-clause-changed : goal.returns-in-Err-clause-changed
returns-in-Err-clause-changed g c = λ told.
    (is_refused (condition_of c.args.condition.now) (g.V.Files.state c.args.files.now).files c.args.held.now c.args.opens.now c.args.target.now.slot c.args.target.now.tuples.now c.in-Err.refusal c.in-Err.ensures.refused, refl)

pub returns-in-Some-clause-changed : goal.returns-in-Some-clause-changed
returns-in-Some-clause-changed g c = λ told. (
  is_read (condition_of c.args.condition.now) (g.V.Files.state c.args.files.now).files c.args.held.now c.args.opens.now c.args.target.now.slot c.args.target.now.tuples.now c.in-Some.reader c.in_default.ensures.accepted
      (sym (c.least_reader.ensures (g.V.Files.state c.args.files.now).files) ∙ c.in-Some.is),
  refl,
)

pub indexes_of-indexes-requires-clause-short : goal.indexes_of-indexes-requires-clause-short
indexes_of-indexes-requires-clause-short g c =
    (relation_there (g.V.Files.state c.args.files.now) c.args.tables.now c.args.held.now c.args.opens.now c.requires.running c.args.target.now.slot c.args.target.now.tuples.now c.requires.there).holds.file.short

pub indexes_of-indexes-requires-clause-numbers : goal.indexes_of-indexes-requires-clause-numbers
indexes_of-indexes-requires-clause-numbers g c =
    are_numbers (g.V.Files.state c.args.files.now) c.args.tables.now c.args.held.now c.args.opens.now c.requires.running c.args.target.now.slot c.args.target.now.tuples.now c.requires.there

pub remove_rows-requires : goal.remove_rows-requires
remove_rows-requires g c =
    let old = g.V.Files.state c.args.files.now in
    let tables = c.args.tables.now in
    let held = c.args.held.now in
    let opens = c.args.opens.now in
    let t = c.args.target.now.tuples.now in
    let running = c.requires.running in
    let e = sym c.indexes_of-indexes.ensures in
    let n = slots old.files t in
    record {
      of = c.copy.ensures;
      ready = record {
        idle = running.idle;
        holds = (relation_there old tables held opens running c.args.target.now.slot t c.requires.there).holds;
        numbers = subst (λ (l : List IndexInfo). AreOnNumbers t.schema.attributes l) e (are_on_numbers old tables held opens running c.args.target.now.slot t c.requires.there);
        readable = subst (λ (l : List IndexInfo). AreReadable old n l) e (are_readable old tables held opens running c.args.target.now.slot t c.requires.there n (omega arith));
      };
    }

pub returns-clause-changed : goal.returns-clause-changed
returns-clause-changed g c = λ told.
    let old = g.V.Files.state c.args.files.now in
    let new = g.V.Files.state c.remove_rows.new.files in
    let t = c.args.target.now.tuples.now in
    let tree = condition_of c.args.condition.now in
    let complete = subst (λ (l : List IndexInfo). AreIndexesOf old c.args.tables.now (rows old.files t) l) (sym c.indexes_of-indexes.ensures)
    (are_indexes old c.args.tables.now c.args.held.now c.args.opens.now c.requires.running c.args.target.now.slot t c.requires.there told) in
    removal tree old.files c.args.held.now c.args.opens.now c.args.target.now.slot t new.files c.in_ok-answer.answer c.in_default.ensures.accepted (sym (c.least_reader.ensures (g.V.Files.state c.args.files.now).files) ∙ c.in_default-least_reader.is)
    (c.in_ok-answer.ensures.removed told tree c.in_default.ensures.code complete)

pub returns-clause-goes_on : goal.returns-clause-goes_on
returns-clause-goes_on g c =
    let old = g.V.Files.state c.args.files.now in
    let new = g.V.Files.state c.remove_rows.new.files in
    let tables = c.args.tables.now in
    let held = c.args.held.now in
    let opens = c.args.opens.now in
    let t = c.args.target.now.tuples.now in
    let tree = condition_of c.args.condition.now in
    let h = c.in_ok-answer.ensures in
    goes_on old new tables tables held opens c.args.target.now.slot t c.requires.running
    (rows_change old new tables held opens c.args.target.now.slot t c.requires.running c.requires.there h.replaces.others h.replaces.holds h.replaces.count (sym (c.least_reader.ensures old.files) ∙ c.in_default-least_reader.is)
    (λ told place.
    let complete = subst (λ (l : List IndexInfo). AreIndexesOf old tables (rows old.files t) l) (sym c.indexes_of-indexes.ensures)
    (are_indexes old tables held opens c.requires.running c.args.target.now.slot t c.requires.there told) in
    removal_keys t.schema.attributes tree (rows old.files t) (rows new.files t) c.in_ok-answer.answer (h.removed told tree c.in_default.ensures.code complete) place))

pub returns-clause-wants : goal.returns-clause-wants
returns-clause-wants g c = λ told.
    let old = g.V.Files.state c.args.files.now in
    let t = c.args.target.now.tuples.now in
    let tree = condition_of c.args.condition.now in
    let complete = subst (λ (l : List IndexInfo). AreIndexesOf old c.args.tables.now (rows old.files t) l) (sym c.indexes_of-indexes.ensures)
    (are_indexes old c.args.tables.now c.args.held.now c.args.opens.now c.requires.running c.args.target.now.slot t c.requires.there told) in
    no_space c.in_ok-answer.answer _ _ (λ need h. h tree c.in_default.ensures.code complete) (c.in_ok-answer.ensures.wants told)

pub returns-in_err-answer-clause-accepted : goal.returns-in_err-answer-clause-accepted
returns-in_err-answer-clause-accepted g c =
    let old = g.V.Files.state c.args.files.now in
    on_err c.from_residual.result (may_remove (condition_of c.args.condition.now) old.files c.args.held.now c.args.opens.now c.args.target.now.slot c.args.target.now.tuples.now c.in_default.ensures.accepted
    (sym (c.least_reader.ensures old.files) ∙ c.in_default-least_reader.is))

pub returns-in_err-answer-clause-cut : goal.returns-in_err-answer-clause-cut
returns-in_err-answer-clause-cut g c = λ cuts told.
    let old = g.V.Files.state c.args.files.now in
    let t = c.args.target.now.tuples.now in
    let complete = subst (λ (l : List IndexInfo). AreIndexesOf old c.args.tables.now (rows old.files t) l) (sym c.indexes_of-indexes.ensures)
    (are_indexes old c.args.tables.now c.args.held.now c.args.opens.now c.requires.running c.args.target.now.slot t c.requires.there told) in
    on_err c.from_residual.result (c.in_err-answer.ensures.cut cuts told (condition_of c.args.condition.now) c.in_default.ensures.code complete)

pub returns-clause-spares : goal.returns-clause-spares
returns-clause-spares g c = λ told never.
    let old = g.V.Files.state c.args.files.now in
    let t = c.args.target.now.tuples.now in
    let complete = subst (λ (l : List IndexInfo). AreIndexesOf old c.args.tables.now (rows old.files t) l) (sym c.indexes_of-indexes.ensures)
    (are_indexes old c.args.tables.now c.args.held.now c.args.opens.now c.requires.running c.args.target.now.slot t c.requires.there told) in
    on_done c.in_ok-answer.answer _ _ (λ spares. spares (condition_of c.args.condition.now) c.in_default.ensures.code complete never) (c.in_ok-answer.ensures.spares told)
