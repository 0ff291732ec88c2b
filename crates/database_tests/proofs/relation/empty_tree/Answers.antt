use Rattle.database_tests.proofs.Kept.{ends_in_one}
use Rattle.database_tests.proofs.relation.empty_tree.Goals as goal

pub draft_commit-requires-clause-last : goal.draft_commit-requires-clause-last
draft_commit-requires-clause-last g c = λ told some.
    let a = g.V.Files.state c.args.files.now in
    let b = g.V.Files.state c.draft.new.self in
    let d = g.V.Files.state c.draft_write.new.self in
    ends_in_one a b d c.args.name c.in_ok-draft.ensures.begun c.in_ok-draft_write.ensures.written told
