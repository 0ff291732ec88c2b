use Rattle.std.proofs.Common.{◌≡◌, ◌∙◌, ap, subst, sym}
use Rattle.afl_base.specs.Files.{Table, bytes_at, draft_in}
use Rattle.afl_base.specs.KeyColumn.{key_place, number_of_width}
use Rattle.db_model.specs.HashTree.{buckets}
use Rattle.afl_base.specs.Keys.{first_keys}
use Rattle.std.proofs.Common.{ℕ}
use Rattle.index_tree.specs.Trees.{IsTreeOf}
use Rattle.stored_mend.proofs.CutTrees.{either_from}
use Rattle.stored_mend.proofs.Replaced.{own_bytes}
use Rattle.stored_mend.proofs.TreeFiles.{drafted}
use Rattle.stored_mend.proofs.trees.build_tree.Goals as goal

pub build-requires-clause-count : goal.build-requires-clause-count
build-requires-clause-count g c = λ told.
    let column = c.args.keys.now.column in
    let begun = rw c.in_ok-buckets.ensures.frame.same at c.in_ok-draft.ensures.begun in
    let was = rw begun.tells at told in
    c.in_ok-buckets.ensures.buckets was
    ∙ sym (ap (λ (files : Table). buckets (first_keys (λ (slot : ℕ). number_of_width (bytes_at files column.file) (key_place column slot) column.width) c.args.keys.now.slots)) begun.files)

pub returns-clause-built : goal.returns-clause-built
returns-clause-built g c =
    let column = c.args.keys.now.column in
    let a = g.V.Files.state c.args.files.now in
    let b = g.V.Files.state c.draft.new.self in
    let made = g.V.Files.state c.build.new.files in
    let begun = rw c.in_ok-buckets.ensures.frame.same at c.in_ok-draft.ensures.begun in
    let keys = ap (λ (files : Table). first_keys (λ (slot : ℕ). number_of_width (bytes_at files column.file) (key_place column slot) column.width) c.args.keys.now.slots) begun.files in
    drafted a b made (g.V.Files.state c.draft_commit.new.self) c.in_ok-draft_commit.field-0 _ _ c.args.name _ (draft_in made).bytes _
    c.requires.one c.requires.idle begun (own_bytes b made _ _ _ c.in_ok-build.ensures.only.1) c.in_ok-draft_commit.ensures.committed
    (λ told. subst (IsTreeOf (draft_in made).bytes) keys (c.in_ok-build.ensures.tree (begun.tells ∙ told)))

pub returns-in_err-draft_commit-clause-cut : goal.returns-in_err-draft_commit-clause-cut
returns-in_err-draft_commit-clause-cut g c = λ cuts told failed.
    let column = c.args.keys.now.column in
    let a = g.V.Files.state c.args.files.now in
    let b = g.V.Files.state c.draft.new.self in
    let made = g.V.Files.state c.build.new.files in
    let begun = rw c.in_ok-buckets.ensures.frame.same at c.in_ok-draft.ensures.begun in
    let written = c.in_ok-build.ensures.only.1 in
    let keys = ap (λ (files : Table). first_keys (λ (slot : ℕ). number_of_width (bytes_at files column.file) (key_place column slot) column.width) c.args.keys.now.slots) begun.files in
    let files : made.files ≡ a.files = written.files ∙ begun.files in
    let left = c.in_err-draft_commit.ensures.cut cuts (written.tells ∙ begun.tells ∙ told) in
    either_from g.V.Files.mends made.files a.files (g.V.Files.state c.draft_commit.new.self).store _ _ files left
    (λ after m. drafted a b made after m.0 _ _ c.args.name _ (draft_in made).bytes _
    c.requires.one c.requires.idle begun (own_bytes b made _ _ _ written) m.1
    (λ was. subst (IsTreeOf (draft_in made).bytes) keys (c.in_ok-build.ensures.tree (begun.tells ∙ was))))
