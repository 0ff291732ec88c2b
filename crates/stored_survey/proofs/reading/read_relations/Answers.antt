use Rattle.std.proofs.Common.{arith, ap, rules, ◌∙◌}
use Rattle.std.proofs.lemmas.List.{length-set}
use Rattle.catalog.proofs.Loading.{filled_all, filled_more}
use Rattle.db_model.specs.Catalog.{relation_at, relation_slot_of}
use Rattle.stored.specs.Mended.{whole_catalog}
use Rattle.stored_survey.proofs.SlotsRead.{formed_at, no_half, read_more}
use Rattle.stored_survey.proofs.reading.read_relations.Goals as goal

pub returns-in-None-clause-none : goal.returns-in-None-clause-none
returns-in-None-clause-none g c = λ told.
    no_half (g.V.Files.state c.args.files.now).files c.loop-slot.slot c.in_ok-bytes.bytes c.loop-slot-test.true
    ((rw c.loop-slot.invariant.same at c.in_ok-bytes.ensures.bytes) told) (rw c.in-None.is at c.mended_relation.ensures.none)

pub loop-slot-preserved : goal.loop-slot-preserved
loop-slot-preserved g c =
    let inv = c.loop-slot.invariant in
    let whole = whole_catalog (g.V.Files.state c.args.files.now).files in
    let bytes = rw inv.same at c.in_ok-bytes.ensures.bytes in
    record {
      same = c.in_ok-bytes.ensures.frame.same ∙ inv.same;
      long = length-set c.loop-slot.relations c.loop-slot.slot c.in-Some.relation ∙ inv.long;
      read = λ told. filled_more (relation_at whole) c.loop-slot.relations c.loop-slot.slot c.in-Some.relation (omega (arith, inv.long, c.loop-slot-test.true)) (inv.read told)
          ((rw c.in-Some.is at c.mended_relation.ensures.read) ∙ ap relation_slot_of (bytes told));
      slots = λ told. read_more whole c.loop-slot.relations c.loop-slot.slot c.in-Some.relation (omega (arith, inv.long, c.loop-slot-test.true)) (inv.slots told)
          (formed_at c.in-Some.relation c.in_ok-bytes.bytes _ (rw c.in-Some.is at c.mended_relation.ensures.formed) (bytes told));
      lent = c.in_ok-bytes.ensures.frame.lent ∙ inv.lent;
      later = search rules;
      faults = search rules;
    }

pub returns-clause-read : goal.returns-clause-read
returns-clause-read g c = λ told. filled_all _ c.loop-slot.relations c.loop-slot.slot 8 c.loop-slot.invariant.long c.loop-slot-test.false c.loop-slot.auto.slot-end (c.loop-slot.invariant.read told)

pub returns-clause-slots : goal.returns-clause-slots
returns-clause-slots g c = λ told k schema below is. c.loop-slot.invariant.slots told k schema (omega (arith, below, c.loop-slot-test.false)) is
