use Rattle.std.proofs.Common.{◌≡◌, ℕ, List, ap, map, refl, sym, subst, ◌∙◌}
use Rattle.afl_base.specs.Asked.{asks_few}
use Rattle.afl_base.specs.Frames.{SparesOthers}
use Rattle.index_set.specs.declared.info.IndexInfo.{IndexInfo}
use Rattle.index_set.specs.Complete.{AreComplete, AreHeld}
use Rattle.index_set.specs.Inserts.{AreApart, IsNoTree, KeepsTables}
use Rattle.tuple_file.specs.Tuples.{rows, slots}
use Rattle.session_model.specs.Frames.{StaysAt, WantsRow}
use Rattle.session_model.specs.Indexed.{AreAllowed, index_of_info, infos_of}
use Rattle.session_model.specs.View.{view, relation_of_rows}
use Rattle.session_model.proofs.Readable.{are_numbers}
use Rattle.session_model.proofs.Running.{RowsCome, are_allowed, are_apart, are_complete, are_held, away, indexes_seen, relation_there}
use Rattle.session_rows.proofs.Changes.{goes_on}
use Rattle.session_rows.proofs.Wants.{no_space}
use Rattle.padded.proofs.Facts.{on_err}
use Rattle.afl_base.proofs.CutLaws.{mends_as}
use Rattle.db_model.specs.Step.{insert_into}
use Rattle.session_rows.specs.CutRows.{MayChange}
use Rattle.session_rows.proofs.inserting.insert_at.Goals as goal

pub indexes_of-indexes-requires-clause-short : goal.indexes_of-indexes-requires-clause-short
indexes_of-indexes-requires-clause-short g c =
    (relation_there (g.V.Files.state c.args.files.now) c.args.tables.now c.args.held.now c.args.opens.now c.requires.running c.args.target.now.slot c.args.target.now.tuples.now c.requires.there).holds.file.short

pub indexes_of-indexes-requires-clause-numbers : goal.indexes_of-indexes-requires-clause-numbers
indexes_of-indexes-requires-clause-numbers g c =
    are_numbers (g.V.Files.state c.args.files.now) c.args.tables.now c.args.held.now c.args.opens.now c.requires.running c.args.target.now.slot c.args.target.now.tuples.now c.requires.there

pub insert_row-requires-clause-ready : goal.insert_row-requires-clause-ready
insert_row-requires-clause-ready g c =
    let old = g.V.Files.state c.args.files.now in
    let tables = c.args.tables.now in
    let held = c.args.held.now in
    let opens = c.args.opens.now in
    let t = c.args.target.now.tuples.now in
    let running = c.requires.running in
    let e = sym c.indexes_of-indexes.ensures in
    record {
      idle = running.idle;
      holds = (relation_there old tables held opens running c.args.target.now.slot t c.requires.there).holds;
      next = refl;
      held = subst (λ (l : List IndexInfo). AreHeld old tables (slots old.files t) l) e (are_held old tables held opens running c.args.target.now.slot t c.requires.there);
      apart = subst (λ (l : List IndexInfo). AreApart l) e (are_apart old tables held opens running c.args.target.now.slot t);
      away = subst (λ (l : List IndexInfo). IsNoTree l t.file) e (away old tables held opens running c.args.target.now.slot t c.requires.there);
    }

pub insert_row-requires-clause-few : goal.insert_row-requires-clause-few
insert_row-requires-clause-few g c =
    (relation_there (g.V.Files.state c.args.files.now) c.args.tables.now c.args.held.now c.args.opens.now c.requires.running c.args.target.now.slot c.args.target.now.tuples.now c.requires.there).few

pub insert_row-requires-clause-allowed : goal.insert_row-requires-clause-allowed
insert_row-requires-clause-allowed g c =
    subst (λ (l : List IndexInfo). AreAllowed c.args.target.now.tuples.now.schema.attributes l) (sym c.indexes_of-indexes.ensures)
    (are_allowed (g.V.Files.state c.args.files.now) c.args.tables.now c.args.held.now c.args.opens.now c.requires.running c.args.target.now.slot c.args.target.now.tuples.now c.requires.there)

pub returns-clause-changed : goal.returns-clause-changed
returns-clause-changed g c = λ told.
    c.in_ok-answer.ensures.changed told c.args.target.now.slot (view (g.V.Files.state c.args.files.now).files c.args.held.now c.args.opens.now)
    (record { version = refl; indexes = indexes_seen c.args.target.now.slot c.args.target.now.tuples.now c.args.held.now.indexes ∙ ap (λ (l : List IndexInfo). map (index_of_info c.args.target.now.slot) l) (sym c.indexes_of-indexes.ensures) })

pub returns-clause-goes_on : goal.returns-clause-goes_on
returns-clause-goes_on g c =
    let old = g.V.Files.state c.args.files.now in
    let new = g.V.Files.state c.insert_row.new.files in
    let before = c.args.tables.now in
    let after = c.insert_row.new.tables in
    let held = c.args.held.now in
    let opens = c.args.opens.now in
    let k = c.args.target.now.slot in
    let t = c.args.target.now.tuples.now in
    let e : c.indexes_of-indexes.result ≡ infos_of k t held.indexes = c.indexes_of-indexes.ensures in
    let h = c.in_ok-answer.ensures in
    let u : RowsCome old new before after held opens k t = record {
      there = c.requires.there;
      spared = subst (λ (l : List IndexInfo). SparesOthers old new (StaysAt t.file l)) e h.grows.others;
      tables = subst (λ (l : List IndexInfo). KeepsTables before after l) e h.grows.tables;
      holds = h.grows.holds;
      few = h.few;
      grown = λ n o is reads. h.grows.more;
      grow = λ told n o is reads. h.grows.grow told;
      filled = subst (λ (l : List IndexInfo). AreHeld new after (slots new.files t) l) e h.grows.held;
      complete = λ told. subst (λ (l : List IndexInfo). AreComplete new after (rows new.files t) l) e
          (h.grows.complete told (subst (λ (l : List IndexInfo). AreComplete old before (rows old.files t) l) (sym e) (are_complete old before held opens c.requires.running k t c.requires.there told)));
    } in
    goes_on old new before after held opens k t c.requires.running u

pub returns-clause-wants : goal.returns-clause-wants
returns-clause-wants g c = λ told.
    let new = g.V.Files.state c.insert_row.new.files in
    no_space c.in_ok-answer.answer _ _
    (λ need h. subst (λ (l : List IndexInfo). WantsRow (asks_few (g.V.Files.asks c.insert_row.new.files) new.files) new c.args.target.now.tuples.now l c.args.values.now need) c.indexes_of-indexes.ensures h)
    (c.in_ok-answer.ensures.wants told)

pub returns-in_err-answer-clause-cut : goal.returns-in_err-answer-clause-cut
returns-in_err-answer-clause-cut g c = λ cuts told.
    let old = g.V.Files.state c.args.files.now in
    let k = c.args.target.now.slot in
    let t = c.args.target.now.tuples.now in
    let db = view old.files c.args.held.now c.args.opens.now in
    let e : c.indexes_of-indexes.result ≡ infos_of k t c.args.held.now.indexes = c.indexes_of-indexes.ensures in
    on_err c.from_residual.result (mends_as
    (c.in_err-answer.ensures.cut cuts told k db (record { version = refl; indexes = indexes_seen k t c.args.held.now.indexes ∙ ap (λ (l : List IndexInfo). map (index_of_info k) l) (sym e) }))
    (λ after m. subst (λ (l : List IndexInfo). MayChange old after c.args.tables.now t l (insert_into c.args.values.now k db (relation_of_rows old.files t))) e m))

pub returns-clause-spares : goal.returns-clause-spares
returns-clause-spares g c = λ told never.
    let old = g.V.Files.state c.args.files.now in
    let wants : List IndexInfo → ℕ → Type 0 = λ l need. WantsRow (g.V.Files.asks c.args.files.now) old c.args.target.now.tuples.now l c.args.values.now need in
    c.in_ok-answer.ensures.spares told (λ need wanted. never need (subst (λ (l : List IndexInfo). wants l need) c.indexes_of-indexes.ensures wanted))
