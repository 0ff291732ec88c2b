use Rattle.std.proofs.Common.{◌≡◌, ◌+◌, ◌*◌, ◌<◌, ◌≤◌, Err, IsTrue, None, arith, length, rules, subst, sym, ◌∙◌}
use Rattle.std.specs.Io.KnownBytes.{append_known}
use Rattle.afl_base.specs.Files.{State}
use Rattle.antelope_engine.specs.Reading.{relation_in_slot}
use Rattle.db_model.specs.Database.{Database}
use Rattle.db_model.specs.Sound.{IsSoundDatabase}
use Rattle.db_model.specs.Step.{slots_limit}
use Rattle.dump.specs.Appends.{AppendsText}
use Rattle.dump.proofs.Items.{appends_item, held_item}
use Rattle.dump.proofs.ScriptTexts.{slots_front, slots_more}
use Rattle.dump.proofs.Sessions.{before_on}
use Rattle.run_look.specs.Text.{relation_line, slot_text}
use Rattle.run_look.proofs.relations.write_relations.Goals as goal
use Rattle.padded.proofs.Facts.{err_is}
use Rattle.space_model.specs.Enough.{rows_in}

pub loop-slot-preserved : goal.loop-slot-preserved
loop-slot-preserved g c =
    let inv = c.loop-slot.invariant in
    let e = c.in_ok-write_relation.ensures in
    let db = c.args.session.now.database in
    let k = c.loop-slot.slot in
    let now = g.K.Sink.held c.loop-slot.out in
    let behind = g.K.Sink.held c.write_relation.new.out in
    record {
      wrote = λ told sound.
          let below : k < length db.relations = omega (arith, sound.eight_relations, c.loop-slot-test.true) in
          let wrote = e.wrote
          (subst (λ (state : State). IsTrue state.tells) (sym inv.same.files) told)
          (subst (λ (d : Database). IsSoundDatabase d) (sym inv.same.database) sound) in
          held_item (slot_text (relation_line (slots_limit db.version))) db.relations k None below (g.K.Sink.held c.args.out.now) (inv.wrote told sound)
          (subst (λ (d : Database). behind ≡ append_known now (slot_text (relation_line (slots_limit d.version)) (relation_in_slot d k))) inv.same.database
          (rw c.relation_id.ensures at wrote));
      same = before_on g.V.Files.state c.args.session.now c.loop-slot.session c.write_relation.new.session inv.same e.same;
      reads =
          let more = slots_more db k in
          let read = subst (λ (d : Database). g.V.Files.reads c.write_relation.new.session.files ≤ g.V.Files.reads c.loop-slot.session.files + 6 * length (rows_in d k)) inv.same.database (rw c.relation_id.ensures at e.reads) in
          omega (arith, more, read, inv.reads);
      files_lent = e.frame.lent ∙ inv.files_lent;
      reads_later = let later = e.frame.later in omega (arith, later, inv.reads_later);
      later = let later = e.frame.cause.files_later in omega (arith, later, inv.later);
      lent = e.frame.sink_lent ∙ inv.lent;
      faults = search rules;
    }

pub returns-in_err-write_relation-clause-wrote : goal.returns-in_err-write_relation-clause-wrote
returns-in_err-write_relation-clause-wrote g c = λ told sound.
    let inv = c.loop-slot.invariant in
    let db = c.args.session.now.database in
    let k = c.loop-slot.slot in
    let stop = c.in_err-write_relation.field-0.0 in
    let now = g.K.Sink.held c.loop-slot.out in
    let behind = g.K.Sink.held c.write_relation.new.out in
    let below : k < length db.relations = omega (arith, sound.eight_relations, c.loop-slot-test.true) in
    let wrote = c.in_err-write_relation.ensures.wrote
    (subst (λ (state : State). IsTrue state.tells) (sym inv.same.files) told)
    (subst (λ (d : Database). IsSoundDatabase d) (sym inv.same.database) sound) in
    rw (err_is c.from_residual.result _ c.from_residual.ensures.1)
    (appends_item (slot_text (relation_line (slots_limit db.version))) db.relations k None below stop (g.K.Sink.held c.args.out.now) now behind (inv.wrote told sound)
    (subst (λ (d : Database). AppendsText (Err stop) now behind (slot_text (relation_line (slots_limit d.version)) (relation_in_slot d k))) inv.same.database
    (rw c.relation_id.ensures at wrote)))

pub returns-in_err-write_relation-clause-reads : goal.returns-in_err-write_relation-clause-reads
returns-in_err-write_relation-clause-reads g c =
    let inv = c.loop-slot.invariant in
    let db = c.args.session.now.database in
    let k = c.loop-slot.slot in
    let more = slots_more db k in
    let front = slots_front db.relations (k + 1) in
    let read = subst (λ (d : Database). g.V.Files.reads c.write_relation.new.session.files ≤ g.V.Files.reads c.loop-slot.session.files + 6 * length (rows_in d k)) inv.same.database (rw c.relation_id.ensures at c.in_err-write_relation.ensures.reads) in
    omega (arith, more, front, read, inv.reads)

pub returns-clause-reads : goal.returns-clause-reads
returns-clause-reads g c =
    let front = slots_front c.args.session.now.database.relations c.loop-slot.slot in
    omega (arith, front, c.loop-slot.invariant.reads)
