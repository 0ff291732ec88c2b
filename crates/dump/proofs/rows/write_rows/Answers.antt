use Rattle.std.proofs.Common.{◌<◌, ℕ, Err, IsTrue, arith, length, subst, sym}
use Rattle.afl_base.specs.Files.{State}
use Rattle.db_model.specs.Database.{Database}
use Rattle.db_model.specs.Row.{no_row}
use Rattle.db_model.specs.Sound.{IsSoundDatabase}
use Rattle.antelope_engine.specs.Reading.{row_in_slot}
use Rattle.space_model.specs.Enough.{rows_in}
use Rattle.dump.specs.Appends.{AppendsText}
use Rattle.dump.specs.Parts.{row_lines}
use Rattle.dump.proofs.Items.{appends_item}
use Rattle.dump.proofs.Sessions.{few_rows, no_slot, some_slot}
use Rattle.dump.proofs.rows.write_rows.Goals as goal
use Rattle.padded.proofs.Facts.{err_is}

pub returns-in-None-clause-wrote : goal.returns-in-None-clause-wrote
returns-in-None-clause-wrote g c = λ told sound.
    let few = few_rows c.args.session.now.database c.args.id sound in
    let below : c.loop-at.at < 32768 = omega (arith, c.loop-at-test.true, c.slots-at-end.ensures, few) in
    absurd (no_slot c.loop-at.at c.new.result below c.new.ensures c.in-None.is)

pub returns-in_err-write_row-clause-wrote : goal.returns-in_err-write_row-clause-wrote
returns-in_err-write_row-clause-wrote g c = λ told sound.
    let inv = c.loop-at.invariant in
    let db = c.args.session.now.database in
    let stop = c.in_err-write_row.field-0.0 in
    let text = row_lines c.args.relation.now in
    let now = g.K.Sink.held c.loop-at.out in
    let behind = g.K.Sink.held c.write_row.new.out in
    let few = few_rows db c.args.id sound in
    let within : c.loop-at.at < length (rows_in db c.args.id) = omega (arith, c.loop-at-test.true, c.slots-at-end.ensures) in
    let at = some_slot c.loop-at.at c.new.result (omega (arith, within, few)) c.new.ensures c.in-Some.is in
    let wrote = c.in_err-write_row.ensures.wrote
    (subst (λ (state : State). IsTrue state.tells) (sym inv.same.files) told)
    (subst (λ (d : Database). IsSoundDatabase d) (sym inv.same.database) sound) in
    rw (err_is c.from_residual.result _ c.from_residual.ensures.1)
    (appends_item text (rows_in db c.args.id) c.loop-at.at no_row within stop (g.K.Sink.held c.args.out.now) now behind (inv.wrote told sound)
    (subst (λ (s : ℕ). AppendsText (Err stop) now behind (text (row_in_slot db c.args.id s))) at
    (subst (λ (d : Database). AppendsText (Err stop) now behind (text (row_in_slot d c.args.id c.in-Some.slot))) inv.same.database wrote)))
