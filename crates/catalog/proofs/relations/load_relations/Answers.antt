use Rattle.std.proofs.Common.{IsTrue, arith, refl, rules, ◌∙◌}
use Rattle.std.proofs.lemmas.List.{length-set}
use Rattle.afl_base.specs.Files.{bytes_at}
use Rattle.db_model.specs.Catalog.{relation_at}
use Rattle.catalog.specs.Rules.{breaks_relation}
use Rattle.catalog.proofs.Firsts.{first_found, first_more, first_none}
use Rattle.catalog.proofs.Forming.{schemas_all, schemas_more}
use Rattle.catalog.proofs.Loading.{filled_all, filled_more, relation_broken, relation_found}
use Rattle.catalog.proofs.relations.load_relations.Goals as goal

pub loop-slot-init : goal.loop-slot-init
loop-slot-init g c = record { same = refl; long = search rules; read = λ told. refl; sound = λ told. first_none _; formed = λ k. refl; lent = refl; reads = omega arith; later = omega arith; faults = omega arith }

pub returns-in-None-clause-broken : goal.returns-in-None-clause-broken
returns-in-None-clause-broken g c = λ told.
    let bytes = bytes_at (g.V.Files.state c.args.files.now).files c.args.cat in
    let is = (rw (c.loop-slot.invariant.same, c.in-None.is) at c.in_ok-relation.ensures.relation) told in
    let broken = relation_broken bytes c.args.version c.loop-slot.slot _ (omega arith) (c.requires.version told) (c.loop-slot.invariant.read told) is in
    first_found (breaks_relation bytes) 8 c.loop-slot.slot c.loop-slot-test.true (c.loop-slot.invariant.sound told) broken

pub loop-slot-preserved : goal.loop-slot-preserved
loop-slot-preserved g c =
    let bytes = bytes_at (g.V.Files.state c.args.files.now).files c.args.cat in
    let is = rw (c.loop-slot.invariant.same, c.in-Some.is) at c.in_ok-relation.ensures.relation in
    let found = λ (told : IsTrue (g.V.Files.state c.args.files.now).tells). relation_found bytes c.args.version c.loop-slot.slot _ c.in-Some.relation (omega arith) (c.requires.version told) (c.loop-slot.invariant.read told) (is told) in
    record {
      same = c.in_ok-relation.ensures.frame.same ∙ c.loop-slot.invariant.same;
      long = length-set c.loop-slot.relations c.loop-slot.slot c.in-Some.relation ∙ c.loop-slot.invariant.long;
      read = λ told. filled_more (relation_at bytes) c.loop-slot.relations c.loop-slot.slot c.in-Some.relation (omega (arith, c.loop-slot.invariant.long, c.loop-slot-test.true)) (c.loop-slot.invariant.read told) (found told).1;
      sound = λ told. first_more (breaks_relation bytes) c.loop-slot.slot (c.loop-slot.invariant.sound told) (found told).0;
      formed = schemas_more c.args.version c.loop-slot.relations c.loop-slot.slot c.in-Some.relation (omega (arith, c.loop-slot.invariant.long, c.loop-slot-test.true)) c.loop-slot.invariant.formed (rw c.in-Some.is at c.in_ok-relation.ensures.formed);
      lent = c.in_ok-relation.ensures.frame.lent ∙ c.loop-slot.invariant.lent;
      reads = search rules;
      later = search rules;
      faults = search rules;
    }

pub returns-clause-relations : goal.returns-clause-relations
returns-clause-relations g c = λ told. filled_all _ c.loop-slot.relations c.loop-slot.slot 8 c.loop-slot.invariant.long c.loop-slot-test.false c.loop-slot.auto.slot-end (c.loop-slot.invariant.read told)

pub returns-clause-formed : goal.returns-clause-formed
returns-clause-formed g c = schemas_all c.args.version c.loop-slot.relations c.loop-slot.slot (omega (arith, c.loop-slot.invariant.long, c.loop-slot-test.false)) c.loop-slot.invariant.formed
