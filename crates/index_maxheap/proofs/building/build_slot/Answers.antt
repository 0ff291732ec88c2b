use Rattle.std.proofs.Common.{rules, arith, ◌≡◌, ◌≤◌, ◌+◌, ◌*◌, ◌∙◌, ap, length, subst, sym}
use Rattle.afl_base.specs.Files.{draft_in}
use Rattle.db_model.specs.HashTree.{node}
use Rattle.index_tree.specs.TreeFile.{bucket_place}
use Rattle.index_maxheap.specs.Builds.{Gathers, with_pair}
use Rattle.index_maxheap.proofs.Built.{one_more, zeros_spot}
use Rattle.index_maxheap.proofs.Gathering.{gathers_bucket, gathers_group, gathers_pair, only_same, place_inside, zeros_group, zeros_last, zeros_number}
use Rattle.index_maxheap.proofs.building.build_slot.Goals as goal

pub returns-then-nodes-most-clause-only : goal.returns-then-nodes-most-clause-only
returns-then-nodes-most-clause-only g c = only_same (g.V.Files.state c.args.files.now) c.requires.begun

pub returns-then-load-clause-only : goal.returns-then-load-clause-only
returns-then-load-clause-only g c = only_same (g.V.Files.state c.args.files.now) c.requires.begun

pub returns-then-nodes-most-clause-built : goal.returns-then-nodes-most-clause-built
returns-then-nodes-most-clause-built g c = λ told ps b many rises fits.
    let old = c.args.nodes.now in
    let level = c.level_with_room-level in
    let n : c.from.result ≡ node c.args.key.now level.result = c.from.ensures ∙ c.node-node.ensures.value in
    let more = one_more old.loads old.lasts old.opened b.full ps c.args.key.now level.result b.builds level.ensures c.args.slot (rw n at c.if-load-eq0.true) in
    absurd {A = Gathers old (draft_in (g.V.Files.state c.args.files.now)).bytes (with_pair ps c.args.key.now c.args.slot)} (omega (arith, more, fits, c.if-nodes-most.true))

pub write_bucket-requires-clause-free : goal.write_bucket-requires-clause-free
write_bucket-requires-clause-free g c = λ told.
    let have = c.requires.told told in
    let draft = (draft_in (g.V.Files.state c.args.files.now)).bytes in
    let level = c.level_with_room-level in
    zeros_last c.args.nodes.now draft have.0 c.args.key.now level.result c.args.most c.args.slot have.1 c.requires.safe level.ensures c.requires.size (search rules) (omega (arith, c.requires.safe.under, c.if-nodes-most.false))

pub write_bucket-requires-clause-zeros : goal.write_bucket-requires-clause-zeros
write_bucket-requires-clause-zeros g c = λ told.
    let have = c.requires.told told in
    let old = c.args.nodes.now in
    let draft = (draft_in (g.V.Files.state c.args.files.now)).bytes in
    let level = c.level_with_room-level in
    let n : c.from.result ≡ node c.args.key.now level.result = c.from.ensures ∙ c.node-node.ensures.value in
    let low : c.spot.result + 3 ≤ bucket_place old.opened = c.spot.ensures.low (bucket_place old.opened) (omega arith) c.node-node.ensures.bound (λ s. rw c.place-place.ensures (place_inside old c.args.most c.args.slot c.node-node.result c.requires.safe (rw c.from.ensures at s))) in
    zeros_number old draft have.0 c.args.key.now level.result c.args.most c.args.slot have.1 c.requires.safe level.ensures c.requires.size (search rules) c.spot.result (omega (arith, low))
    (zeros_spot old.loads old.lasts old.opened have.1.full have.0 c.args.key.now level.result have.1.builds level.ensures c.spot.result (rw n at c.if-load-eq0.true) (λ z. c.spot.ensures.first (rw n z) ∙ ap (λ m. 2 * m) c.node-node.ensures.value) (λ s. rw (c.place-place.ensures, c.node-node.ensures.value) at (c.spot.ensures.next (rw n s))) (omega (arith, low)))

pub returns-then-load-eq0-clause-built : goal.returns-then-load-eq0-clause-built
returns-then-load-eq0-clause-built g c = λ told ps b many rises fits.
    let old = c.args.nodes.now in
    let draft = (draft_in (g.V.Files.state c.args.files.now)).bytes in
    let level = c.level_with_room-level in
    let n : c.from.result ≡ node c.args.key.now level.result = c.from.ensures ∙ c.node-node.ensures.value in
    let low : c.spot.result + 3 ≤ bucket_place old.opened = c.spot.ensures.low (bucket_place old.opened) (omega arith) c.node-node.ensures.bound (λ s. rw c.place-place.ensures (place_inside old c.args.most c.args.slot c.node-node.result c.requires.safe (rw c.from.ensures at s))) in
    let taken = rw (c.open.ensures, c.node-node.ensures.value) at c.take_in.ensures in
    let put = c.in_ok-write_bucket.ensures.written in
    subst (λ xs. Gathers c.take_in.new.self xs (with_pair ps c.args.key.now c.args.slot)) (sym (put.3.bytes told))
    (gathers_bucket old draft ps c.args.key.now level.result c.args.most c.args.slot b c.requires.safe level.ensures c.requires.size (search rules) c.take_in.new.self taken (rw n at c.if-load-eq0.true) c.spot.result
    (λ z. c.spot.ensures.first (rw n z) ∙ ap (λ m. 2 * m) c.node-node.ensures.value) (λ s. rw (c.place-place.ensures, c.node-node.ensures.value) at (c.spot.ensures.next (rw n s))) low (omega (arith, c.requires.safe.under, c.if-nodes-most.false)) many (search rules) rises put.0 put.1 put.2)

pub returns-then-load-clause-built : goal.returns-then-load-clause-built
returns-then-load-clause-built g c = λ told ps b many rises fits.
    let draft = (draft_in (g.V.Files.state c.args.files.now)).bytes in
    let level = c.level_with_room-level in
    let n : c.from.result ≡ node c.args.key.now level.result = c.from.ensures ∙ c.node-node.ensures.value in
    let t = rw c.node-node.ensures.value at c.take_in-then-load.ensures in
    gathers_pair c.args.nodes.now draft ps c.args.key.now level.result c.args.most c.args.slot b c.requires.safe level.ensures c.requires.size (search rules) c.take_in-then-load.new.self t.six t.is t.more (rw n at c.if-load-eq0.false) many (search rules) rises (rw n at c.if-load.true) t.groups

pub draft_write-requires-clause-zeros : goal.draft_write-requires-clause-zeros
draft_write-requires-clause-zeros g c = λ told.
    let have = c.requires.told told in
    let draft = (draft_in (g.V.Files.state c.args.files.now)).bytes in
    let level = c.level_with_room-level in
    let n : c.from.result ≡ node c.args.key.now level.result = c.from.ensures ∙ c.node-node.ensures.value in
    let long : length c.complete-group.result ≡ 24 = search rules in
    rw (long, c.group_place.ensures, c.place-place.ensures, c.node-node.ensures.value, n) (zeros_group c.args.nodes.now draft have.0 c.args.key.now level.result c.args.most c.args.slot have.1 c.requires.safe level.ensures c.requires.size (search rules) (rw n at c.if-load-eq0.false) (rw n at c.if-load.false))

pub returns-clause-built : goal.returns-clause-built
returns-clause-built g c = λ told ps b many rises fits.
    let draft = (draft_in (g.V.Files.state c.args.files.now)).bytes in
    let level = c.level_with_room-level in
    let n : c.from.result ≡ node c.args.key.now level.result = c.from.ensures ∙ c.node-node.ensures.value in
    let t = rw c.node-node.ensures.value at c.complete-group.ensures in
    let put = rw (c.group_place.ensures, c.place-place.ensures, n, c.node-node.ensures.value, t.whole) at c.in_ok-draft_write.ensures.written in
    subst (λ xs. Gathers c.complete-group.new.self xs (with_pair ps c.args.key.now c.args.slot)) (sym (put.bytes told))
    (gathers_group c.args.nodes.now draft ps c.args.key.now level.result c.args.most c.args.slot b c.requires.safe level.ensures c.requires.size (search rules) c.complete-group.new.self t.six t.is t.more (rw n at c.if-load-eq0.false) many (search rules) rises (rw n at c.if-load.false) t.groups)
