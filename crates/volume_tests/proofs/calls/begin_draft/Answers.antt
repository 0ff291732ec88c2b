use Rattle.std.proofs.Common.{ℕ, ◌+◌, ◌≤◌, List, [], length, refl, arith}
use Rattle.afl_base.proofs.DraftLaws.{drafts_none}
use Rattle.volume_tests.proofs.Parts.{part_zeros}
use Rattle.volume_tests.proofs.calls.begin_draft.Goals as goal

pub draft_write-requires-clause-zeros : goal.draft_write-requires-clause-zeros
draft_write-requires-clause-zeros g c =
    let bytes : List ℕ = c.args.bytes.now in
    let inside : 0 + length bytes ≤ c.args.size = omega arith in
    part_zeros _ _ c.args.name c.args.size 0 (length bytes) [] (drafts_none _ _ c.args.name c.args.size c.in_ok-draft.ensures.begun) refl inside
