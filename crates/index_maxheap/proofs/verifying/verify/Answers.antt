use Rattle.std.proofs.Common.{rules, arith, refl, ◌≡◌, ◌+◌, ◌∙◌, sym, ap, get_or, ℕ}
use Rattle.std.specs.Prelude.{FitsSigned}
use Rattle.std.specs.Int.{w32}
use Rattle.std.proofs.lemmas.Int.{to_z-of_z}
use Rattle.afl_base.specs.Files.{bytes_at}
use Rattle.afl_base.specs.KeyColumn.{key_of}
use Rattle.index_tree.specs.Pairs.{pairs_of}
use Rattle.index_tree.specs.TreeFile.{bucket_place}
use Rattle.index_maxheap.proofs.Built.{length_pairs}
use Rattle.index_tree.proofs.Loaded.{zeros_few}
use Rattle.index_tree.proofs.Numbered.{tree_of_keys, tree_of_pairs}
use Rattle.index_maxheap.proofs.Nodes.{are_heads, done_heads, head_mark, heads_done, tree_done}
use Rattle.index_maxheap.proofs.Slots.{verifies_none}
use Rattle.index_maxheap.proofs.Verified.{seen_tree}
use Rattle.index_maxheap.proofs.verifying.verify.Goals as goal

pub loop-slot-init : goal.loop-slot-init
loop-slot-init g c = record {
  same = c.in_ok-read_heads.ensures.frame.same;
  lent = c.in_ok-read_heads.ensures.frame.lent;
  reads = omega (arith, c.in_ok-read_heads.ensures.reads);
  reads_later = c.in_ok-read_heads.ensures.frame.later;
  faults = c.in_ok-read_heads.ensures.frame.faultless;
  light = λ i. zeros_few i 0;
  inside = λ i. (let z = zeros_few i 0 in omega (arith, z, c.if-size.false, c.size-size.ensures));
  low = λ i. (let z = zeros_few i 0 in omega (arith, z));
  few = omega arith;
  verifies = λ told. (verifies_none (bytes_at (g.V.Files.state c.args.files.now).files c.args.index), refl);
}

pub key-requires-clause-field : goal.key-requires-clause-field
key-requires-clause-field g c =
    let slot : c.in-Some.slot ≡ c.loop-slot.slot = search rules in
    rw c.loop-slot.invariant.same (c.requires.fields c.in-Some.slot (omega (arith, slot, c.loop-slot-test.true)))

pub returns-in-None-clause-no_tree : goal.returns-in-None-clause-no_tree
returns-in-None-clause-no_tree g c = λ told f tree.
    let old = g.V.Files.state c.args.files.now in
    let bytes = bytes_at old.files c.args.index in
    let inv = c.loop-slot.invariant in
    let key_at_ = key_of old c.args.column in
    let fits : FitsSigned w32 c.in_ok-key.key = search rules in
    let slot : c.in-Some.slot ≡ c.loop-slot.slot = search rules in
    let key : c.in_ok-key.key ≡ key_at_ c.loop-slot.slot = (rw inv.same at c.in_ok-key.ensures.key) told ∙ ap key_at_ slot in
    let goes = (rw (to_z-of_z w32 c.in_ok-key.key fits, c.in_ok-key.ensures.frame.same, inv.same, slot, c.in-None.is) at c.in_ok-verify_slot.ensures.goes) told key_at_ key (are_heads bytes c.read_heads.new.heads (c.in_ok-read_heads.ensures.bytes told)) (inv.verifies told).0 in
    goes c.args.slots c.loop-slot-test.true (tree_of_keys bytes key_at_ c.args.slots tree)

pub loop-slot-preserved : goal.loop-slot-preserved
loop-slot-preserved g c =
    let old = g.V.Files.state c.args.files.now in
    let bytes = bytes_at old.files c.args.index in
    let inv = c.loop-slot.invariant in
    let key_at_ = key_of old c.args.column in
    let fits : FitsSigned w32 c.in_ok-key.key = search rules in
    let slot : c.in-Some.slot ≡ c.loop-slot.slot = search rules in
    let light = rw (c.in-Some-2.is, slot) at c.in_ok-verify_slot.ensures.light in
    record {
      same = c.in_ok-verify_slot.ensures.frame.same ∙ c.in_ok-key.ensures.frame.same ∙ inv.same;
      lent = c.in_ok-verify_slot.ensures.frame.lent ∙ c.in_ok-key.ensures.frame.lent ∙ inv.lent;
      reads = omega (arith, c.in_ok-verify_slot.ensures.reads, c.in_ok-key.ensures.reads, inv.reads);
      reads_later = omega (arith, c.in_ok-verify_slot.ensures.frame.later, c.in_ok-key.ensures.frame.later, inv.reads_later);
      faults = omega (arith, c.in_ok-verify_slot.ensures.frame.faultless, c.in_ok-key.ensures.frame.faultless, inv.faults);
      light = light.1;
      inside = rw (c.in_ok-key.ensures.frame.same, inv.same) at c.in_ok-verify_slot.ensures.inside;
      low = c.in_ok-verify_slot.ensures.low;
      few = (let one = light.0 in omega (arith, one, inv.few));
      verifies = λ told.
          let key : c.in_ok-key.key ≡ key_at_ c.loop-slot.slot = (rw inv.same at c.in_ok-key.ensures.key) told ∙ ap key_at_ slot in
          let goes = (rw (to_z-of_z w32 c.in_ok-key.key fits, c.in_ok-key.ensures.frame.same, inv.same, slot, c.in-Some-2.is) at c.in_ok-verify_slot.ensures.goes) told key_at_ key (are_heads bytes c.read_heads.new.heads (c.in_ok-read_heads.ensures.bytes told)) (inv.verifies told).0 in
          (goes.0, ap (λ (n : ℕ). n + c.in-Some-2.opens) (inv.verifies told).1 ∙ sym goes.1);
    }

pub returns-clause-tree : goal.returns-clause-tree
returns-clause-tree g c = λ told t.
    let old = g.V.Files.state c.args.files.now in
    let bytes = bytes_at old.files c.args.index in
    let f = key_of old c.args.column in
    let heads = are_heads bytes c.read_heads.new.heads (c.in_ok-read_heads.ensures.bytes told) in
    let end : c.loop-slot.slot ≡ c.args.slots = omega (arith, c.loop-slot-test.false, c.loop-slot.auto.slot-end) in
    let both = rw end at (c.loop-slot.invariant.verifies told) in
    let v = both.0 in
    let count = both.1 in
    tree_of_pairs bytes f c.args.slots (seen_tree bytes c.loop-slot.seen.loads c.loop-slot.seen.places c.loop-slot.seen.nexts c.loop-slot.seen.fills (pairs_of f c.args.slots) v.counts v.seen v.tails
    (λ n small. done_heads bytes c.read_heads.new.heads n (get_or c.loop-slot.seen.loads n 0) (get_or c.loop-slot.seen.nexts n 0) (get_or c.loop-slot.seen.fills n 0) heads small (c.are_done.ensures.yes t n small))
    (let long = length_pairs f c.args.slots in omega (arith, long, c.requires.slots))
    (sym c.size-size.ensures ∙ c.if-size-bucket_place.false ∙ c.bucket_place.ensures ∙ ap bucket_place count)
    (sym (head_mark bytes c.read_heads.new.heads (c.in_ok-read_heads.ensures.bytes told)) ∙ c.if-heads-ne1.false))

pub returns-clause-no_tree : goal.returns-clause-no_tree
returns-clause-no_tree g c = λ told t tree.
    let old = g.V.Files.state c.args.files.now in
    let bytes = bytes_at old.files c.args.index in
    let f = key_of old c.args.column in
    let heads = are_heads bytes c.read_heads.new.heads (c.in_ok-read_heads.ensures.bytes told) in
    let end : c.loop-slot.slot ≡ c.args.slots = omega (arith, c.loop-slot-test.false, c.loop-slot.auto.slot-end) in
    let both = rw end at (c.loop-slot.invariant.verifies told) in
    let wrong = c.are_done.ensures.no_ t in
    wrong.2 (heads_done bytes c.read_heads.new.heads wrong.0 (get_or c.loop-slot.seen.loads wrong.0 0) (get_or c.loop-slot.seen.nexts wrong.0 0) (get_or c.loop-slot.seen.fills wrong.0 0) heads wrong.1 (tree_done bytes c.loop-slot.seen.loads c.loop-slot.seen.places c.loop-slot.seen.nexts c.loop-slot.seen.fills (pairs_of f c.args.slots) (tree_of_keys bytes f c.args.slots tree) both.0 wrong.0 wrong.1))

pub returns-then-size-bucket_place-clause-no_tree : goal.returns-then-size-bucket_place-clause-no_tree
returns-then-size-bucket_place-clause-no_tree g c = λ told t tree.
    let old = g.V.Files.state c.args.files.now in
    let bytes = bytes_at old.files c.args.index in
    let f = key_of old c.args.column in
    let end : c.loop-slot.slot ≡ c.args.slots = omega (arith, c.loop-slot-test.false, c.loop-slot.auto.slot-end) in
    let both = rw end at (c.loop-slot.invariant.verifies told) in
    let whole = tree_of_keys bytes f c.args.slots tree in
    absurd (c.if-size-bucket_place.true (c.size-size.ensures ∙ whole.size ∙ ap bucket_place (sym both.1) ∙ sym c.bucket_place.ensures))
