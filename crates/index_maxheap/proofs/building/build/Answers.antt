use Rattle.std.proofs.Common.{rules, arith, length, ◌≡◌, ◌+◌, ◌∙◌, sym, ap}
use Rattle.std.specs.Prelude.{FitsSigned, IsTrue}
use Rattle.std.specs.Int.{w32}
use Rattle.std.proofs.lemmas.Int.{to_z-of_z}
use Rattle.std.proofs.lemmas.List.{get_or-replicate}
use Rattle.afl_base.specs.Files.{draft_in}
use Rattle.afl_base.specs.KeyColumn.{key_of}
use Rattle.index_tree.specs.Pairs.{pairs_of}
use Rattle.index_tree.specs.TreeFile.{bucket_place}
use Rattle.index_maxheap.proofs.Built.{builds_all, builds_none, key_same, length_pairs, next_fits, only_then, pairs_next, rises_next, slice_zeros}
use Rattle.db_model.specs.HashTree.{buckets}
use Rattle.index_tree.proofs.Numbered.{keys_pairs, tree_of_pairs}
use Rattle.index_maxheap.proofs.Gathering.{gathers_none, safe_none}
use Rattle.index_maxheap.proofs.building.build.Goals as goal

pub draft_write-requires-clause-zeros : goal.draft_write-requires-clause-zeros
draft_write-requires-clause-zeros g c = λ told.
    let draft = (draft_in (g.V.Files.state c.args.files.now)).bytes in
    slice_zeros draft 682 1 (omega (arith, c.requires.size)) (λ i h. rw (c.requires.erased told) (get_or-replicate (bucket_place c.args.most) (682 + i) 0 0 (omega (arith, h))))

pub loop-slot-init : goal.loop-slot-init
loop-slot-init g c =
    let old = g.V.Files.state c.args.files.now in
    let mid = g.V.Files.state c.draft_write.new.self in
    let wrote = c.in_ok-draft_write.ensures.written in
    record {
      files = wrote.files;
      tells = wrote.tells;
      begun = wrote.begun;
      size = wrote.size ∙ c.requires.size;
      only = (_, wrote);
      store = c.in_ok-draft_write.ensures.frame.store;
      lent = c.in_ok-draft_write.ensures.frame.lent;
      reads_later = c.in_ok-draft_write.ensures.frame.later;
      faults = c.in_ok-draft_write.ensures.frame.cause.later;
      safe = safe_none c.args.most;
      gathers = λ told. gathers_none (draft_in mid).bytes (builds_none (draft_in mid).bytes (draft_in old).bytes (bucket_place c.args.most) (c.requires.erased told) (omega arith) (wrote.bytes told));
    }

pub build_slot-requires-clause-told : goal.build_slot-requires-clause-told
build_slot-requires-clause-told g c = λ told.
    let old = g.V.Files.state c.args.files.now in
    let now = g.V.Files.state c.loop-slot.files in
    let inv = c.loop-slot.invariant in
    let f = key_of old c.args.column in
    let told_now : IsTrue now.tells = rw c.in_ok-key.ensures.frame.same at told in
    let was : IsTrue old.tells = rw inv.tells at told_now in
    let fits : FitsSigned w32 c.in_ok-key.key = search rules in
    let slot : c.in-Some.slot ≡ c.loop-slot.slot = search rules in
    let key : c.in_ok-key.key ≡ f c.loop-slot.slot = c.in_ok-key.ensures.key told_now ∙ key_same old now c.args.column c.in-Some.slot inv.files ∙ ap f slot in
    rw (to_z-of_z w32 c.in_ok-key.key fits, c.in_ok-key.ensures.frame.same)
    (pairs_of f c.loop-slot.slot, inv.gathers was, length_pairs f c.loop-slot.slot ∙ sym slot, next_fits f c.loop-slot.slot c.in-Some.slot c.args.slots c.args.most c.in_ok-key.key key slot c.loop-slot-test.true (c.requires.count was ∙ ap buckets (sym (keys_pairs f c.args.slots))))

pub loop-slot-preserved : goal.loop-slot-preserved
loop-slot-preserved g c =
    let old = g.V.Files.state c.args.files.now in
    let now = g.V.Files.state c.loop-slot.files in
    let new = g.V.Files.state c.build_slot.new.files in
    let inv = c.loop-slot.invariant in
    let f = key_of old c.args.column in
    let fits : FitsSigned w32 c.in_ok-key.key = search rules in
    let slot : c.in-Some.slot ≡ c.loop-slot.slot = search rules in
    let only = rw c.in_ok-key.ensures.frame.same at c.in_ok-build_slot.ensures.only in
    record {
      files = only.1.files ∙ inv.files;
      tells = only.1.tells ∙ inv.tells;
      begun = only.1.begun;
      size = only.1.size ∙ inv.size;
      only = only_then old now new inv.only only;
      store = c.in_ok-build_slot.ensures.frame.store ∙ ap (λ s. length s.store) c.in_ok-key.ensures.frame.same ∙ inv.store;
      lent = c.in_ok-build_slot.ensures.frame.lent ∙ c.in_ok-key.ensures.frame.lent ∙ inv.lent;
      reads_later = omega (arith, inv.reads_later, c.in_ok-key.ensures.frame.later, c.in_ok-build_slot.ensures.frame.later);
      faults = omega (arith, inv.faults, c.in_ok-key.ensures.frame.cause.later, c.in_ok-build_slot.ensures.frame.cause.later);
      safe = rw slot at c.in_ok-build_slot.ensures.safe;
      gathers = λ was.
          let told_now : IsTrue now.tells = inv.tells ∙ was in
          let key : c.in_ok-key.key ≡ f c.loop-slot.slot = c.in_ok-key.ensures.key told_now ∙ key_same old now c.args.column c.in-Some.slot inv.files ∙ ap f slot in
          let built = (rw (to_z-of_z w32 c.in_ok-key.key fits, c.in_ok-key.ensures.frame.same) at c.in_ok-build_slot.ensures.built) told_now (pairs_of f c.loop-slot.slot) (inv.gathers was) (length_pairs f c.loop-slot.slot ∙ sym slot) (rises_next f c.loop-slot.slot c.in-Some.slot c.in_ok-key.key key slot) (next_fits f c.loop-slot.slot c.in-Some.slot c.args.slots c.args.most c.in_ok-key.key key slot c.loop-slot-test.true (c.requires.count was ∙ ap buckets (sym (keys_pairs f c.args.slots)))) in
          rw (pairs_next f c.loop-slot.slot c.in-Some.slot c.in_ok-key.key key slot) at built;
    }

pub write_rest-requires-clause-fit : goal.write_rest-requires-clause-fit
write_rest-requires-clause-fit g c = (c.args.most, c.loop-slot.slot, c.loop-slot.invariant.safe, c.loop-slot.invariant.size)

pub write_rest-requires-clause-told : goal.write_rest-requires-clause-told
write_rest-requires-clause-told g c = λ told.
    let inv = c.loop-slot.invariant in
    let was : IsTrue (g.V.Files.state c.args.files.now).tells = rw inv.tells at told in
    (pairs_of (key_of (g.V.Files.state c.args.files.now) c.args.column) c.loop-slot.slot, inv.gathers was)

pub returns-clause-tree : goal.returns-clause-tree
returns-clause-tree g c = λ told.
    let old = g.V.Files.state c.args.files.now in
    let now = g.V.Files.state c.loop-slot.files in
    let new = g.V.Files.state c.write_rest.new.files in
    let inv = c.loop-slot.invariant in
    let nodes = c.loop-slot.nodes in
    let f = key_of old c.args.column in
    let end : c.loop-slot.slot ≡ c.args.slots = omega (arith, c.loop-slot-test.false, c.loop-slot.auto.slot-end) in
    let told_now : IsTrue now.tells = inv.tells ∙ told in
    let done = c.in_ok-write_rest.ensures in
    let size : length (draft_in new).bytes ≡ bucket_place c.args.most = done.only.1.size ∙ inv.size in
    tree_of_pairs (draft_in new).bytes f c.args.slots (builds_all nodes.loads nodes.lasts nodes.opened (draft_in new).bytes (pairs_of f c.args.slots) c.args.most (done.written told_now (pairs_of f c.args.slots) (rw end at (inv.gathers told))) (c.requires.count told ∙ ap buckets (sym (keys_pairs f c.args.slots))) size)

pub returns-clause-only : goal.returns-clause-only
returns-clause-only g c = only_then (g.V.Files.state c.args.files.now) (g.V.Files.state c.loop-slot.files) (g.V.Files.state c.write_rest.new.files) c.loop-slot.invariant.only c.in_ok-write_rest.ensures.only
