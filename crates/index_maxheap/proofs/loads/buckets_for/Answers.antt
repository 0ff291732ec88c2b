use Rattle.std.proofs.Common.{rules, arith, refl, ◌≡◌, ◌∙◌, ap}
use Rattle.std.specs.Prelude.{FitsSigned}
use Rattle.std.specs.Int.{w32}
use Rattle.std.proofs.lemmas.Int.{to_z-of_z}
use Rattle.afl_base.specs.KeyColumn.{key_of}
use Rattle.db_model.specs.HashTree.{buckets}
use Rattle.index_tree.proofs.Numbered.{keys_pairs}
use Rattle.index_tree.proofs.Loaded.{counts_none, loads_more, zeros_few}
use Rattle.index_maxheap.proofs.Few.{loads_few, loads_none, loads_one}
use Rattle.index_maxheap.proofs.loads.buckets_for.Goals as goal

pub loop-slot-init : goal.loop-slot-init
loop-slot-init g c = record {
  same = refl;
  lent = refl;
  reads = omega arith;
  reads_later = omega arith;
  faults = omega arith;
  few = λ i. zeros_few i 0;
  opened = omega arith;
  kept = loads_none;
  counts = λ told. (counts_none, refl);
}

pub loop-slot-preserved : goal.loop-slot-preserved
loop-slot-preserved g c =
    let inv = c.loop-slot.invariant in
    let f = key_of (g.V.Files.state c.args.files.now) c.args.column in
    record {
      same = c.in_ok-key.ensures.frame.same ∙ inv.same;
      lent = c.in_ok-key.ensures.frame.lent ∙ inv.lent;
      reads = omega (arith, c.in_ok-key.ensures.reads, inv.reads);
      reads_later = omega (arith, c.in_ok-key.ensures.frame.later, inv.reads_later);
      faults = omega (arith, c.in_ok-key.ensures.frame.faultless, inv.faults);
      few = λ i. c.add-buckets.ensures.few i c.loop-slot.slot (inv.few i);
      opened = omega (arith, inv.opened, c.add-buckets.ensures.one);
      kept =
          let fits : FitsSigned w32 c.in_ok-key.key = search rules in
          loads_one c.loop-slot.loads c.add-buckets.new.loads c.loop-slot.slot c.loop-slot.buckets c.add-buckets.result c.in_ok-key.key (rw (to_z-of_z w32 c.in_ok-key.key fits) at c.add-buckets.ensures.loads) inv.kept;
      counts = λ told.
          let slot : c.in-Some.slot ≡ c.loop-slot.slot = search rules in
          let fits : FitsSigned w32 c.in_ok-key.key = search rules in
          let key = (rw inv.same at c.in_ok-key.ensures.key) told in
          loads_more c.loop-slot.loads c.add-buckets.new.loads f c.loop-slot.slot c.loop-slot.buckets c.add-buckets.result c.in_ok-key.key (rw (to_z-of_z w32 c.in_ok-key.key fits) at c.add-buckets.ensures.loads) (key ∙ ap f slot) (inv.counts told);
    }

pub returns-clause-buckets : goal.returns-clause-buckets
returns-clause-buckets g c = λ told.
    let f = key_of (g.V.Files.state c.args.files.now) c.args.column in
    let end : c.loop-slot.slot ≡ c.args.slots = omega (arith, c.loop-slot-test.false, c.loop-slot.auto.slot-end) in
    (rw end at (c.loop-slot.invariant.counts told)).1 ∙ ap buckets (keys_pairs f c.args.slots)

pub returns-in_default-clause-few : goal.returns-in_default-clause-few
returns-in_default-clause-few g c = loads_few c.loop-slot.loads c.loop-slot.slot c.loop-slot.buckets c.loop-slot.invariant.kept (search rules)

pub returns-clause-few : goal.returns-clause-few
returns-clause-few g c = loads_few c.loop-slot.loads c.loop-slot.slot c.loop-slot.buckets c.loop-slot.invariant.kept (search rules)
