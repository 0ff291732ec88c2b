use Rattle.std.proofs.Common.{rules, ◌≡◌, ◌+◌, ◌-◌, arith, subst, true}
use Rattle.std.specs.Int.{w32}
use Rattle.std.specs.Prelude.{FitsSigned}
use Rattle.std.proofs.lemmas.Int.{to_z-of_z}
use Rattle.std.proofs.lemmas.List.FromFn.{length-map-range_with_len}
use Rattle.afl_base.specs.KeyColumn.{key_of}
use Rattle.afl_base.specs.Keys.{first_keys}
use Rattle.afl_base.proofs.CutLaws.{mends_as}
use Rattle.padded.proofs.Facts.{on_err}
use Rattle.stored_mend.specs.CutTrees.{MayPutKey}
use Rattle.stored_mend.proofs.TreeFiles.{key_added, slot_no}
use Rattle.stored_mend.proofs.trees.add_last_key.Goals as goal

pub returns-clause-added : goal.returns-clause-added
returns-clause-added g c = λ is.
    let old = g.V.Files.state c.args.files.now in
    let new = g.V.Files.state c.put_key.new.files in
    let column = c.args.keys.now.column in
    let last = c.in-Some.last in
    let here : last ≡ c.args.keys.now.slots - 1 = slot_no (c.args.keys.now.slots - 1) last c.in-Some.ensures in
    let one : last + 1 ≡ c.args.keys.now.slots = omega (arith, here, c.if-keys-eq0.false) in
    let whole : c.in_ok-lacks_one.lacks_one ≡ true = search rules in
    let put = rw (c.in_ok-key.ensures.frame.same, c.in_ok-lacks_one.ensures.frame.same) at c.in_ok-added.ensures.only in
    let fits : FitsSigned w32 c.in_ok-key.key = search rules in
    let back = to_z-of_z w32 c.in_ok-key.key fits in
    let grown = rw (c.in_ok-key.ensures.frame.same, c.in_ok-lacks_one.ensures.frame.same, back) at c.in_ok-added.ensures.added in
    let only = put is in
    key_added old new c.args.tree c.args.keys.now.slots last only.0 column c.in_ok-key.key only.1 one only.2
    (rw c.in_ok-lacks_one.ensures.frame.same at c.in_ok-key.ensures.key)
    (λ told. rw c.number.ensures.value at (c.in_ok-lacks_one.ensures.tree told whole))
    (λ told keys tree long. grown told keys tree long is)

pub returns-in_err-added-clause-cut : goal.returns-in_err-added-clause-cut
returns-in_err-added-clause-cut g c = λ cuts told.
    let old = g.V.Files.state c.args.files.now in
    let column = c.args.keys.now.column in
    let slots = c.args.keys.now.slots in
    let last = c.in-Some.last in
    let here : last ≡ slots - 1 = slot_no (slots - 1) last c.in-Some.ensures in
    let one : last + 1 ≡ slots = omega (arith, here, c.if-keys-eq0.false) in
    let whole : c.in_ok-lacks_one.lacks_one ≡ true = search rules in
    let left = rw (c.in_ok-key.ensures.frame.same, c.in_ok-lacks_one.ensures.frame.same) at c.in_err-added.ensures.cut in
    on_err c.from_residual-in_err-added.result
    (mends_as (left (first_keys (key_of old column) last) (rw c.number.ensures.value at (c.in_ok-lacks_one.ensures.tree told whole)) (length-map-range_with_len (key_of old column) 0 last) cuts told)
    (λ after part. subst (MayPutKey old after c.args.tree) one part))
