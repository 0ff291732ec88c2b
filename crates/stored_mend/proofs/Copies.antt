-- A draft that takes the first bytes of a file, piece by piece.
use Rattle.std.proofs.Common.{◌≡◌, ℕ, ◌+◌, ◌-◌, ◌≤◌, List, ◌++◌, length, take, drop, replicate, IsSome, IsTrue, refl, sym, ap, subst, ◌∙◌, arith}
use Rattle.std.specs.Prelude.{slice_index, slice_range}
use Rattle.std.proofs.lemmas.Grind.{common_steps}
use Rattle.std.proofs.lemmas.List.{drop_at, length-take-le, take-replicate, get_or-take}
use Rattle.std.proofs.Math.Seq.{take-add}
use Rattle.afl_base.specs.Files.{Drafts, State, WritesDraft, draft_in}
use Rattle.afl_base.proofs.Images.{length_range}
use Rattle.afl_base.proofs.DraftLaws.{drafts_more, drafts_none}
use Rattle.padded.specs.Padded.{padded}

-- the draft has its first n bytes, of so many
abbrev pub HasFront : (old new : State) (size n : ℕ) → List ℕ → Type 0
HasFront old new size n bytes = Drafts old new (draft_in old).name size (padded size (take n bytes))

-- a draft that is erased has none
pub front_none : (a : State) (size : ℕ) (bytes : List ℕ) → IsSome a.draft → length (draft_in a).bytes ≡ size → (IsTrue a.tells → (draft_in a).bytes ≡ replicate size 0) → HasFront a a size 0 bytes
front_none a size bytes begun long erased = drafts_none a a (draft_in a).name size (record {
  begun = begun;
  name = refl;
  size = long;
  bytes = erased;
  files = refl;
  tells = refl;
})

-- where the next piece goes there are zeros
pub front_zeros : (a b : State) (size n k : ℕ) (bytes : List ℕ) → HasFront a b size n bytes → n ≤ length bytes → n + k ≤ size → IsTrue b.tells →
    slice_range (draft_in b).bytes n (n + k) ≡ replicate k 0
front_zeros a b size n k bytes d inside room told =
    let front = take n bytes in
    let long : length front ≡ n = length-take-le n bytes inside in
    let behind : slice_range (padded size front) (length front) (length front + k) ≡ replicate k 0 = zeros_behind size k front (omega (arith, long, room)) in
    ap (λ (xs : List ℕ). slice_range xs n (n + k)) (d.bytes (sym d.tells ∙ told))
    ∙ subst (λ (m : ℕ). slice_range (padded size front) m (m + k) ≡ replicate k 0) long behind
  where
    zeros_behind : (m j : ℕ) (xs : List ℕ) → length xs + j ≤ m → slice_range (padded m xs) (length xs) (length xs + j) ≡ replicate j 0
    zeros_behind m j xs within = grind (arith, common_steps, drop_at, take-replicate)

-- and then it has one piece more
pub front_more : (a b c : State) (size n k : ℕ) (bytes : List ℕ) → HasFront a b size n bytes → n + k ≤ length bytes → n + k ≤ size →
    WritesDraft b c n (slice_range bytes n (n + k)) → HasFront a c size (n + k) bytes
front_more a b c size n k bytes d inside room w =
    let front = take n bytes in
    let piece = slice_range bytes n (n + k) in
    let long : length front ≡ n = length-take-le n bytes (omega (arith, inside)) in
    let width : n + k - n ≡ k = omega arith in
    let same : piece ≡ take k (drop n bytes) = ap (λ (m : ℕ). take m (drop n bytes)) width in
    let fits : length piece ≡ k = length_range bytes n (n + k) inside ∙ width in
    let more = drafts_more a b c (draft_in a).name size front piece d (omega (arith, long, fits, room)) (subst (λ (m : ℕ). WritesDraft b c m piece) (sym long) w) in
    subst (λ (xs : List ℕ). Drafts a c (draft_in a).name size (padded size xs)) (ap (λ (xs : List ℕ). front ++ xs) same ∙ sym (take-add n k bytes)) more

-- the last byte of the first bytes
pub last_of_front : (bytes : List ℕ) (size : ℕ) → 1 ≤ size → size ≤ length bytes → slice_index (take size bytes) (length (take size bytes) - 1) ≡ slice_index bytes (size - 1)
last_of_front bytes size some inside =
    let long : length (take size bytes) ≡ size = length-take-le size bytes inside in
    ap (λ (m : ℕ). slice_index (take size bytes) (m - 1)) long ∙ get_or-take size bytes (size - 1) 0 (omega (arith, some))
