use Rattle.std.proofs.Common.{rules, ◌≡◌, ◌∙◌, sym, subst, ℕ, length, refl, Err}
use Rattle.afl_base.proofs.FileLaws.{named_live}
use Rattle.afl_base.specs.Files.{Keeps, State, bytes_at, file_at, size_at}
use Rattle.afl_base.specs.KeyColumn.{key_of}
use Rattle.afl_base.specs.Keys.{first_keys}
use Rattle.afl_base.specs.declared.kind.Kind.TheVariants.{Doubling}
use Rattle.stored_mend.specs.Trees.{ChangesAtMost, HasTreeNow}
use Rattle.stored_mend.proofs.TreeFiles.{becomes_at_most, becomes_now, built_at_most, built_behind, built_now, changes_then, keeps_changes, keys_prepared, keys_stay, stands_now, unless_space}
use Rattle.stored_mend.proofs.ReportTrees.{no_tree_named}
use Rattle.std.specs.Prelude.{⊤, Bool}
use Rattle.std.proofs.lemmas.List.FromFn.{length-map-range_with_len}
use Rattle.afl_base.proofs.CutLaws.{either_as, mends_as}
use Rattle.stored_mend.specs.CutTrees.{StaysWithout}
use Rattle.stored_mend.proofs.CutTrees.{built_mends, key_mends, room_mends, stays_without}
use Rattle.stored_mend.proofs.CutCalls.{failed_as, space_as}
use Rattle.stored_mend.proofs.trees.mend_tree_of.Goals as goal

pub build_tree-requires-clause-keys : goal.build_tree-requires-clause-keys
build_tree-requires-clause-keys g c =
    let old = g.V.Files.state c.args.files.now in
    let doubles : (file_at old.files c.in-Some.tree).kind ≡ Doubling = search rules in
    let tree = c.in-Some.tree in
    let kept = rw c.in_ok-whole.ensures.frame.same at (c.in_ok-added.ensures.kept c.if-added.false) in
    keys_stay old (g.V.Files.state c.add_last_key.new.files) tree c.args.keys.now.slots c.args.keys.now.column
    (named_live old.files tree c.args.name c.in-Some.ensures.found) kept c.requires.keys

pub returns-then-whole-clause-tree : goal.returns-then-whole-clause-tree
returns-then-whole-clause-tree g c = λ told.
    let old = g.V.Files.state c.args.files.now in
    let keys = first_keys (key_of old c.args.keys.now.column) c.args.keys.now.slots in
    subst (λ (s : State). HasTreeNow old.files s.files c.args.name keys) (sym c.in_ok-whole.ensures.frame.same)
    (stands_now old.files c.in-Some.tree c.args.name keys c.in-Some.ensures.found c.in-Some.ensures.only (c.in_ok-whole.ensures.tree told c.if-whole.true))

pub returns-then-added-clause-tree : goal.returns-then-added-clause-tree
returns-then-added-clause-tree g c = λ told.
    let old = g.V.Files.state c.args.files.now in
    let t = rw c.in_ok-whole.ensures.frame.same at (c.in_ok-added.ensures.added c.if-added.true) in
    becomes_now old (g.V.Files.state c.add_last_key.new.files) c.in-Some.tree c.args.name _ c.in-Some.ensures.found c.in-Some.ensures.only told t

pub returns-then-added-clause-others : goal.returns-then-added-clause-others
returns-then-added-clause-others g c =
    let old = g.V.Files.state c.args.files.now in
    let doubles : (file_at old.files c.in-Some.tree).kind ≡ Doubling = search rules in
    let t = rw c.in_ok-whole.ensures.frame.same at (c.in_ok-added.ensures.added c.if-added.true) in
    becomes_at_most old (g.V.Files.state c.add_last_key.new.files) c.in-Some.tree (length t.bytes) t.bytes c.args.name c.in-Some.ensures.found doubles t.becomes

pub returns-in-Ok-clause-tree : goal.returns-in-Ok-clause-tree
returns-in-Ok-clause-tree g c = λ told.
    let old = g.V.Files.state c.args.files.now in
    let doubles : (file_at old.files c.in-Some.tree).kind ≡ Doubling = search rules in
    let mid = g.V.Files.state c.add_last_key.new.files in
    let new = g.V.Files.state c.build_tree.new.files in
    let tree = c.in-Some.tree in
    let name = c.args.name in
    let found = c.in-Some.ensures.found in
    let kept = rw c.in_ok-whole.ensures.frame.same at (c.in_ok-added.ensures.kept c.if-added.false) in
    let live = named_live old.files tree name found in
    let built = built_behind old mid new name _ _ (becomes_at_most old mid tree (size_at old.files tree) (bytes_at old.files tree) name found doubles kept).spares
    (keys_prepared old mid tree c.args.keys.now.column c.args.keys.now.slots live kept) c.in-Ok.ensures.built in
    built_now old new name _ told built

pub returns-in-Ok-clause-others : goal.returns-in-Ok-clause-others
returns-in-Ok-clause-others g c =
    let old = g.V.Files.state c.args.files.now in
    let doubles : (file_at old.files c.in-Some.tree).kind ≡ Doubling = search rules in
    let mid = g.V.Files.state c.add_last_key.new.files in
    let new = g.V.Files.state c.build_tree.new.files in
    let tree = c.in-Some.tree in
    let name = c.args.name in
    let found = c.in-Some.ensures.found in
    let kept = rw c.in_ok-whole.ensures.frame.same at (c.in_ok-added.ensures.kept c.if-added.false) in
    let live = named_live old.files tree name found in
    built_at_most old new tree name _ found c.in-Some.ensures.only
    (built_behind old mid new name _ _ (becomes_at_most old mid tree (size_at old.files tree) (bytes_at old.files tree) name found doubles kept).spares
    (keys_prepared old mid tree c.args.keys.now.column c.args.keys.now.slots live kept) c.in-Ok.ensures.built)

pub returns-in-Err-clause-others : goal.returns-in-Err-clause-others
returns-in-Err-clause-others g c =
    let old = g.V.Files.state c.args.files.now in
    let doubles : (file_at old.files c.in-Some.tree).kind ≡ Doubling = search rules in
    let mid = g.V.Files.state c.add_last_key.new.files in
    let new = g.V.Files.state c.build_tree.new.files in
    let tree = c.in-Some.tree in
    let name = c.args.name in
    let kept = rw c.in_ok-whole.ensures.frame.same at (c.in_ok-added.ensures.kept c.if-added.false) in
    unless_space ℕ ℕ c.in-Err.stop (Keeps mid new) (ChangesAtMost old new name)
    (λ keeps. changes_then old mid new name (becomes_at_most old mid tree (size_at old.files tree) (bytes_at old.files tree) name c.in-Some.ensures.found doubles kept) (keeps_changes mid new name keeps))
    c.in-Err.ensures.kept

pub returns-in_err-added-clause-cut : goal.returns-in_err-added-clause-cut
returns-in_err-added-clause-cut g c = λ cuts told failed.
    let old = g.V.Files.state c.args.files.now in
    let column = c.args.keys.now.column in
    let slots = c.args.keys.now.slots in
    let doubles : (file_at old.files c.in-Some.tree).kind ≡ Doubling = search rules in
    let left = rw c.in_ok-whole.ensures.frame.same at c.in_err-added.ensures.cut in
    mends_as (left cuts told)
    (λ after part. key_mends old after c.in-Some.tree c.args.name c.in-Some.ensures.found c.in-Some.ensures.only (first_keys (key_of old column) slots) slots doubles (length-map-range_with_len (key_of old column) 0 slots)
    (c.in_ok-whole.ensures.no_tree told c.if-whole.false) part)

pub returns-in-Err-clause-waits : goal.returns-in-Err-clause-waits
returns-in-Err-clause-waits g c = λ told.
    let old = g.V.Files.state c.args.files.now in
    let mid = g.V.Files.state c.add_last_key.new.files in
    let new = g.V.Files.state c.build_tree.new.files in
    let keys = first_keys (key_of old c.args.keys.now.column) c.args.keys.now.slots in
    let doubles : (file_at old.files c.in-Some.tree).kind ≡ Doubling = search rules in
    let kept = rw c.in_ok-whole.ensures.frame.same at (c.in_ok-added.ensures.kept c.if-added.false) in
    space_as ⊤ Bool c.in-Err.stop (Err c.in-Err.stop) refl (λ need. Keeps mid new) (λ need. StaysWithout old.files new.files c.args.name keys)
    (λ need keeps. stays_without old mid c.in-Some.tree c.args.name c.in-Some.ensures.found c.in-Some.ensures.only new keys doubles told (c.in_ok-whole.ensures.no_tree told c.if-whole.false) kept keeps)
    c.in-Err.ensures.kept

pub returns-in-Err-clause-cut : goal.returns-in-Err-clause-cut
returns-in-Err-clause-cut g c = λ cuts told.
    let old = g.V.Files.state c.args.files.now in
    let mid = g.V.Files.state c.add_last_key.new.files in
    let new = g.V.Files.state c.build_tree.new.files in
    let tree = c.in-Some.tree in
    let name = c.args.name in
    let column = c.args.keys.now.column in
    let slots = c.args.keys.now.slots in
    let found = c.in-Some.ensures.found in
    let only = c.in-Some.ensures.only in
    let keys = first_keys (key_of old column) slots in
    let doubles : (file_at old.files tree).kind ≡ Doubling = search rules in
    let kept = rw c.in_ok-whole.ensures.frame.same at (c.in_ok-added.ensures.kept c.if-added.false) in
    let live = named_live old.files tree name found in
    let spares = (becomes_at_most old mid tree (size_at old.files tree) (bytes_at old.files tree) name found doubles kept).spares in
    λ failed. either_as mid (c.in-Err.ensures.cut cuts (kept.tells ∙ told) (failed_as ⊤ Bool c.in-Err.stop (Err c.in-Err.stop) refl failed))
    (room_mends old mid tree name found only keys doubles told kept)
    (λ after built. built_mends old after tree name found only keys told
    (built_behind old mid after name (first_keys (key_of mid column) slots) keys spares (keys_prepared old mid tree column slots live kept) built))

-- what is told

pub returns-then-added-clause-wrong : goal.returns-then-added-clause-wrong
returns-then-added-clause-wrong g c = λ told made.
    no_tree_named (g.V.Files.state c.args.files.now).files c.in-Some.tree c.args.name _ c.in-Some.ensures.found c.in-Some.ensures.only (c.in_ok-whole.ensures.no_tree told c.if-whole.false)

pub returns-in-Ok-clause-wrong : goal.returns-in-Ok-clause-wrong
returns-in-Ok-clause-wrong g c = λ told made.
    no_tree_named (g.V.Files.state c.args.files.now).files c.in-Some.tree c.args.name _ c.in-Some.ensures.found c.in-Some.ensures.only (c.in_ok-whole.ensures.no_tree told c.if-whole.false)
