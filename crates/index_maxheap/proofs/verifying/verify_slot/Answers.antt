use Rattle.std.proofs.Common.{◌≡◌, ◌%◌, ◌∙◌, ap, subst, get_or, ℤ}
use Rattle.afl_base.specs.Files.{bytes_at}
use Rattle.db_model.specs.HashTree.{node}
use Rattle.index_tree.specs.Loads.{IsLevel}
use Rattle.index_tree.proofs.Loaded.{opened_none, opened_some}
use Rattle.index_maxheap.proofs.Slots.{bucket_seen, bucket_wrong, buckets_one, number_is, pair_seen, pair_wrong}
use Rattle.index_maxheap.proofs.verifying.verify_slot.Goals as goal

pub returns-then-not-branch-clause-goes : goal.returns-then-not-branch-clause-goes
returns-then-not-branch-clause-goes g c = λ told f key heads v slots small tree.
    let bytes = bytes_at (g.V.Files.state c.args.files.now).files c.args.index in
    let level = c.level_with_room-level in
    let lev : IsLevel c.args.seen.now.loads (f c.args.slot) level.result = subst (λ (z : ℤ). IsLevel c.args.seen.now.loads z level.result) key level.ensures in
    let n : c.from-n.result ≡ node (f c.args.slot) level.result = c.from-n.ensures ∙ c.node-node.ensures.value ∙ ap (λ (z : ℤ). node z level.result) key in
    let no_pair = (rw (c.from.ensures, n, key) at c.in_ok-has_pair.ensures.no_) told c.if-not-branch.true in
    pair_wrong bytes c.args.seen.now.loads c.args.seen.now.places c.args.seen.now.nexts c.args.seen.now.fills f c.args.slot level.result v lev (rw n at c.if-load-ne0.true) no_pair slots small tree

pub returns-then-load-ne0-clause-goes : goal.returns-then-load-ne0-clause-goes
returns-then-load-ne0-clause-goes g c = λ told f key heads v.
    let bytes = bytes_at (g.V.Files.state c.args.files.now).files c.args.index in
    let level = c.level_with_room-level in
    let lev : IsLevel c.args.seen.now.loads (f c.args.slot) level.result = subst (λ (z : ℤ). IsLevel c.args.seen.now.loads z level.result) key level.ensures in
    let n : c.from-n.result ≡ node (f c.args.slot) level.result = c.from-n.ensures ∙ c.node-node.ensures.value ∙ ap (λ (z : ℤ). node z level.result) key in
    let pair = (rw (c.from.ensures, n, key) at c.in_ok-has_pair.ensures.yes) told c.if-not-branch.false in
    let partial = rw n at c.if-load-ne0.true in
    rw n (
      pair_seen bytes c.args.seen.now.loads c.args.seen.now.places c.args.seen.now.nexts c.args.seen.now.fills f c.args.slot level.result v lev partial pair.0 pair.1,
      buckets_one bytes c.args.seen.now.loads c.args.seen.now.places c.args.seen.now.nexts c.args.seen.now.fills f c.args.slot level.result v lev 0 (opened_some (get_or c.args.seen.now.loads (node (f c.args.slot) level.result) 0 % 32) partial),
    )

pub returns-in-None-clause-goes : goal.returns-in-None-clause-goes
returns-in-None-clause-goes g c = λ told f key heads v slots small tree.
    let bytes = bytes_at (g.V.Files.state c.args.files.now).files c.args.index in
    let level = c.level_with_room-level in
    let lev : IsLevel c.args.seen.now.loads (f c.args.slot) level.result = subst (λ (z : ℤ). IsLevel c.args.seen.now.loads z level.result) key level.ensures in
    let n : c.from-n.result ≡ node (f c.args.slot) level.result = c.from-n.ensures ∙ c.node-node.ensures.value ∙ ap (λ (z : ℤ). node z level.result) key in
    let whole = rw n at c.if-load-ne0.false in
    let m : c.node-node.result ≡ node (f c.args.slot) level.result = c.node-node.ensures.value ∙ ap (λ (z : ℤ). node z level.result) key in
    let is = number_is bytes c.args.seen.now.loads c.args.seen.now.places c.args.seen.now.nexts c.args.seen.now.fills f c.args.slot level.result v lev c.args.heads.now c.number_for-number.result heads whole (rw m at c.node-node.ensures.bound) (rw (n, m) at c.number_for-number.ensures.first) (rw n at c.number_for-number.ensures.later) in
    let none = rw (c.in-None.is, key) at (c.in_ok-open_bucket.ensures.opens told) in
    bucket_wrong bytes c.args.seen.now.loads c.args.seen.now.places c.args.seen.now.nexts c.args.seen.now.fills f c.args.slot level.result v lev c.number_for-number.result whole is none slots small tree

pub returns-in-Some-clause-goes : goal.returns-in-Some-clause-goes
returns-in-Some-clause-goes g c = λ told f key heads v.
    let bytes = bytes_at (g.V.Files.state c.args.files.now).files c.args.index in
    let level = c.level_with_room-level in
    let lev : IsLevel c.args.seen.now.loads (f c.args.slot) level.result = subst (λ (z : ℤ). IsLevel c.args.seen.now.loads z level.result) key level.ensures in
    let n : c.from-n.result ≡ node (f c.args.slot) level.result = c.from-n.ensures ∙ c.node-node.ensures.value ∙ ap (λ (z : ℤ). node z level.result) key in
    let whole = rw n at c.if-load-ne0.false in
    let m : c.node-node.result ≡ node (f c.args.slot) level.result = c.node-node.ensures.value ∙ ap (λ (z : ℤ). node z level.result) key in
    let is = number_is bytes c.args.seen.now.loads c.args.seen.now.places c.args.seen.now.nexts c.args.seen.now.fills f c.args.slot level.result v lev c.args.heads.now c.number_for-number.result heads whole (rw m at c.node-node.ensures.bound) (rw (n, m) at c.number_for-number.ensures.first) (rw n at c.number_for-number.ensures.later) in
    let tail = rw (c.in-Some.is, key) at (c.in_ok-open_bucket.ensures.opens told) in
    rw n (
      bucket_seen bytes c.args.seen.now.loads c.args.seen.now.places c.args.seen.now.nexts c.args.seen.now.fills f c.args.slot level.result v lev c.number_for-number.result c.in-Some.tail.next c.in-Some.tail.fill c.bucket_place.result whole is c.bucket_place.ensures tail.0 tail.1,
      buckets_one bytes c.args.seen.now.loads c.args.seen.now.places c.args.seen.now.nexts c.args.seen.now.fills f c.args.slot level.result v lev 1 (opened_none (get_or c.args.seen.now.loads (node (f c.args.slot) level.result) 0 % 32) whole),
    )
