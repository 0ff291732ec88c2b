use Rattle.std.proofs.Common.{◌≡◌, ℕ, ◌+◌, ◌-◌, ◌≤◌, List, [], length, take, drop, refl, sym, arith}
use Rattle.std.proofs.lemmas.Grind.{common_steps}
use Rattle.afl_base.proofs.DraftLaws.{drafts_none}
use Rattle.volume_tests.proofs.Parts.{all_written, ends_well, part_written, part_zeros, parts}
use Rattle.volume_tests.proofs.calls.draft.Goals as goal

-- the first part, and what is left
cut_length : (bytes : List ℕ) (cut : ℕ) → cut ≤ length bytes → length (take cut bytes) ≡ cut
cut_length bytes cut inside = grind (arith, common_steps)

rest_length : (bytes : List ℕ) (cut : ℕ) → length (take (length bytes - cut) (drop cut bytes)) ≡ length bytes - cut
rest_length bytes cut = grind (arith, common_steps)

pub draft_write-requires-clause-zeros : goal.draft_write-requires-clause-zeros
draft_write-requires-clause-zeros g c =
    let bytes : List ℕ = c.args.bytes.now in
    let first : List ℕ = take c.args.cut bytes in
    let inside : 0 + length first ≤ length bytes = omega (arith, cut_length bytes c.args.cut c.requires.cut, c.requires.cut) in
    part_zeros _ _ c.args.name (length bytes) 0 (length first) [] (drafts_none _ _ c.args.name (length bytes) c.in_ok-draft.ensures.begun) refl inside

pub draft_write-requires-2-clause-zeros : goal.draft_write-requires-2-clause-zeros
draft_write-requires-2-clause-zeros g c =
    let bytes : List ℕ = c.args.bytes.now in
    let first : List ℕ = take c.args.cut bytes in
    let rest : List ℕ = take (length bytes - c.args.cut) (drop c.args.cut bytes) in
    let long = cut_length bytes c.args.cut c.requires.cut in
    part_zeros _ _ c.args.name (length bytes) c.args.cut (length rest) first
    (part_written _ _ _ c.args.name (length bytes) first c.in_ok-draft.ensures.begun (omega (arith, long, c.requires.cut)) c.in_ok-draft_write.ensures.written)
    (sym long) (omega (arith, long, rest_length bytes c.args.cut, c.requires.cut))

pub draft_commit-requires-clause-last : goal.draft_commit-requires-clause-last
draft_commit-requires-clause-last g c =
    let bytes : List ℕ = c.args.bytes.now in
    let first : List ℕ = take c.args.cut bytes in
    let rest : List ℕ = take (length bytes - c.args.cut) (drop c.args.cut bytes) in
    let long = cut_length bytes c.args.cut c.requires.cut in
    ends_well _ _ c.args.name (length bytes) bytes
    (all_written _ _ _ c.args.name (length bytes) c.args.cut first rest bytes
    (part_written _ _ _ c.args.name (length bytes) first c.in_ok-draft.ensures.begun (omega (arith, long, c.requires.cut)) c.in_ok-draft_write.ensures.written)
    (sym long) (parts bytes c.args.cut) refl c.in_ok-draft_write-2.ensures.written)
    c.requires.last
