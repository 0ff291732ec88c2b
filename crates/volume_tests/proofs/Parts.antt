-- A draft that is written in two parts.
use Rattle.std.proofs.Common.{◌≡◌, ◌≢◌, ℕ, ◌+◌, ◌-◌, ◌≤◌, List, [], ◌++◌, length, take, drop, replicate, IsTrue, slice_index, sym, ap, ◌∙◌, subst, arith}
use Rattle.std.specs.Prelude.{slice_range}
use Rattle.std.proofs.lemmas.List.{length-append, take-append-drop, take_rest}
use Rattle.afl_base.specs.Fields.{put_at}
use Rattle.afl_base.specs.Files.{Drafts, State, draft_in}
use Rattle.padded.specs.Padded.{padded}
use Rattle.afl_base.proofs.DraftLaws.{drafts_all, drafts_more, drafts_none}
use Rattle.volume_tests.specs.Counts.{EndsWell}
use Rattle.tuple_file.proofs.Drafted.{zeros_behind}

-- the two parts of bytes
pub parts : (bytes : List ℕ) (cut : ℕ) → take cut bytes ++ take (length bytes - cut) (drop cut bytes) ≡ bytes
parts bytes cut = ap (λ (rest : List ℕ). take cut bytes ++ rest) (take_rest bytes cut) ∙ take-append-drop cut bytes

-- a draft has zeros behind its front
pub part_zeros : (a b : State) (given : List ℕ) (n at k : ℕ) (front : List ℕ) → Drafts a b given n (padded n front) → at ≡ length front → length front + k ≤ n → IsTrue b.tells →
    slice_range (draft_in b).bytes at (at + k) ≡ replicate k 0
part_zeros a b given n at k front d same inside told =
    subst (λ (m : ℕ). slice_range (draft_in b).bytes m (m + k) ≡ replicate k 0) (sym same)
    (ap (λ (bytes : List ℕ). slice_range bytes (length front) (length front + k)) (d.bytes (sym d.tells ∙ told)) ∙ zeros_behind n k front inside)

-- after the first part
pub part_written : (a b c : State) (given : List ℕ) (n : ℕ) (first : List ℕ) → Drafts a b given n (replicate n 0) → length first ≤ n →
    Drafts b c (draft_in b).name (length (draft_in b).bytes) (put_at (draft_in b).bytes 0 first) → Drafts a c given n (padded n first)
part_written a b c given n first begun inside one = drafts_more a b c given n [] first (drafts_none a b given n begun) (omega (arith, inside)) one

-- after both
pub all_written : (a c d : State) (given : List ℕ) (n at : ℕ) (first rest all : List ℕ) → Drafts a c given n (padded n first) → at ≡ length first → first ++ rest ≡ all → length all ≡ n →
    Drafts c d (draft_in c).name (length (draft_in c).bytes) (put_at (draft_in c).bytes at rest) → Drafts a d given n all
all_written a c d given n at first rest all front same whole long two =
    let two' = subst (λ (m : ℕ). Drafts c d (draft_in c).name (length (draft_in c).bytes) (put_at (draft_in c).bytes m rest)) same two in
    let inside : length first + length rest ≤ n = omega (arith, ap length whole, length-append first rest) in
    drafts_all a d given n all long (subst (λ (bytes : List ℕ). Drafts a d given n (padded n bytes)) whole (drafts_more a c d given n first rest front inside two'))

-- the draft ends as its bytes do
pub ends_well : (a d : State) (given : List ℕ) (n : ℕ) (all : List ℕ) → Drafts a d given n all → EndsWell all → IsTrue d.tells → 1 ≤ length (draft_in d).bytes →
    slice_index (draft_in d).bytes (length (draft_in d).bytes - 1) ≢ 0
ends_well a d given n all drafts end told = subst EndsWell (sym (drafts.bytes (sym drafts.tells ∙ told))) end
