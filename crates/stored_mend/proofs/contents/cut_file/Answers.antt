use Rattle.std.proofs.Common.{◌∙◌, ⊎_elim, inl, inr, subst}
use Rattle.afl_base.proofs.CutLaws.{mends_as}
use Rattle.stored_mend.proofs.Replaced.{replaced}
use Rattle.stored_mend.proofs.contents.cut_file.Goals as goal

pub returns-clause-front : goal.returns-clause-front
returns-clause-front g c =
    let begun = c.in_ok-draft.ensures.begun in
    replaced (g.V.Files.state c.args.files.now) (g.V.Files.state c.draft.new.self) (g.V.Files.state c.copy_bytes.new.files) (g.V.Files.state c.draft_commit.new.self)
    c.args.file c.in_ok-draft_commit.field-0 c.args.size c.args.size c.args.name _ _
    c.requires.named c.requires.kind c.requires.idle begun (rw begun.files at c.in_ok-copy_bytes.ensures.copied) c.in_ok-draft_commit.ensures.committed

pub returns-in_err-draft_commit-clause-cut : goal.returns-in_err-draft_commit-clause-cut
returns-in_err-draft_commit-clause-cut g c = λ cuts told failed.
    let begun = c.in_ok-draft.ensures.begun in
    let copied = c.in_ok-copy_bytes.ensures.copied in
    ⊎_elim
    (λ before. inl (subst (g.V.Files.mends (g.V.Files.state c.draft_commit.new.self).store) (copied.files ∙ begun.files) before))
    (λ after. inr (mends_as after (λ s commits.
    replaced (g.V.Files.state c.args.files.now) (g.V.Files.state c.draft.new.self) (g.V.Files.state c.copy_bytes.new.files) s c.args.file commits.0 c.args.size c.args.size c.args.name _ _
    c.requires.named c.requires.kind c.requires.idle begun (rw begun.files at copied) commits.1)))
    (c.in_err-draft_commit.ensures.cut cuts (copied.tells ∙ begun.tells ∙ told))
