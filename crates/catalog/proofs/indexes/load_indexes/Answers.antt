use Rattle.std.proofs.Common.{IsTrue, arith, refl, rules, ◌∙◌}
use Rattle.std.specs.Prelude.{option_map}
use Rattle.std.proofs.lemmas.List.{length-set}
use Rattle.afl_base.specs.Files.{bytes_at}
use Rattle.db_model.specs.Catalog.{index_at}
use Rattle.catalog.specs.CatalogFile.{index_in}
use Rattle.catalog.specs.Rules.{breaks_index}
use Rattle.catalog.proofs.Firsts.{first_all, first_found, first_more, first_none}
use Rattle.catalog.proofs.Forming.{behind_all, behind_more}
use Rattle.catalog.proofs.Loading.{index_broken, index_found, seen_all, seen_more}
use Rattle.catalog.proofs.indexes.load_indexes.Goals as goal

pub loop-slot-init : goal.loop-slot-init
loop-slot-init g c = record { same = refl; long = refl; read = λ told. refl; sound = λ told. first_none _; behind = λ i. refl; lent = refl; reads = omega arith; later = omega arith; faults = omega arith }

pub returns-in-None-clause-broken : goal.returns-in-None-clause-broken
returns-in-None-clause-broken g c = λ told.
    let bytes = bytes_at (g.V.Files.state c.args.files.now).files c.args.cat in
    let is = (rw (c.loop-slot.invariant.same, c.in-None.is) at c.in_ok-index.ensures.index) told in
    let broken = index_broken bytes c.loop-slot.slot c.args.relations.now _ (omega arith) (c.requires.relations told) (c.loop-slot.invariant.read told) is in
    first_found (breaks_index bytes) 8 c.loop-slot.slot c.loop-slot-test.true (c.loop-slot.invariant.sound told) broken

pub loop-slot-preserved : goal.loop-slot-preserved
loop-slot-preserved g c =
    let bytes = bytes_at (g.V.Files.state c.args.files.now).files c.args.cat in
    let is = rw (c.loop-slot.invariant.same, c.in-Some.is) at c.in_ok-index.ensures.index in
    let found = λ (told : IsTrue (g.V.Files.state c.args.files.now).tells). index_found bytes c.loop-slot.slot c.args.relations.now _ (option_map index_in c.in-Some.index) (omega arith) (c.requires.relations told) (c.loop-slot.invariant.read told) (is told) in
    record {
      same = c.in_ok-index.ensures.frame.same ∙ c.loop-slot.invariant.same;
      long = length-set c.loop-slot.indexes c.loop-slot.slot c.in-Some.index ∙ c.loop-slot.invariant.long;
      read = λ told. seen_more (option_map index_in) (index_at bytes) c.loop-slot.indexes c.loop-slot.slot c.in-Some.index (omega (arith, c.loop-slot.invariant.long, c.loop-slot-test.true)) (c.loop-slot.invariant.read told) (found told).1;
      sound = λ told. first_more (breaks_index bytes) c.loop-slot.slot (c.loop-slot.invariant.sound told) (found told).0;
      behind = behind_more c.args.relations.now c.loop-slot.indexes c.loop-slot.slot c.in-Some.index (omega (arith, c.loop-slot.invariant.long, c.loop-slot-test.true)) c.loop-slot.invariant.behind (rw c.in-Some.is at c.in_ok-index.ensures.behind);
      lent = c.in_ok-index.ensures.frame.lent ∙ c.loop-slot.invariant.lent;
      reads = search rules;
      later = search rules;
      faults = search rules;
    }

pub returns-clause-indexes : goal.returns-clause-indexes
returns-clause-indexes g c = λ told. seen_all (option_map index_in) _ c.loop-slot.indexes c.loop-slot.slot 8 c.loop-slot.invariant.long c.loop-slot-test.false c.loop-slot.auto.slot-end (c.loop-slot.invariant.read told)

pub returns-clause-sound : goal.returns-clause-sound
returns-clause-sound g c = λ told. first_all (breaks_index (bytes_at (g.V.Files.state c.args.files.now).files c.args.cat)) c.loop-slot.slot 8 c.loop-slot-test.false c.loop-slot.auto.slot-end (c.loop-slot.invariant.sound told)

pub returns-clause-behind : goal.returns-clause-behind
returns-clause-behind g c = behind_all c.args.relations.now c.loop-slot.indexes c.loop-slot.slot (omega (arith, c.loop-slot.invariant.long, c.loop-slot-test.false)) c.loop-slot.invariant.behind
