-- The frames that bytes end one by one, and those of the whole line.
use Rattle.std.proofs.Common.{◌≡◌, refl, sym, ap, ◌∙◌, ℕ, ◌<◌, Bool, true, false, List, [], ◌∷◌, ◌++◌, length, append_assoc, append-nil, arith, cond, Option, Some, None, zero, suc}
use Rattle.std.specs.Prelude.{◌==◌, nat_lt, if◌then◌else◌}
use Rattle.std.specs.List.{slice_split, All}
use Rattle.std.proofs.lemmas.List.Splits.{slice_split_none, slice_split_at, length-slice_split}
use Rattle.std.proofs.lemmas.List.Elements.{All-append}
use Rattle.run_model.specs.Line.{ComesInParts}
use Rattle.run_frames.specs.Frames.{Frame, Unfinished, Broken, Long, Asked, decoded, ended_frames, finished_frames, frame_cut, frame_from, frame_line, frame_of, frames, frames_in, is_client, is_end, part_behind, unended_frame}

-- ---- parts of the line

-- no byte of the part is an END
abbrev HasNoEnd : List ℕ → Type 0
HasNoEnd part = All (λ b. is_end b ≡ false) part

frames_next : (part : List ℕ) (parts : List (List ℕ)) → 0 < length parts → frames_in (part ∷ parts) ≡ frame_of part ++ frames_in parts
frames_next part [] some = absurd (omega (arith, some))
frames_next part (next ∷ parts) some = refl

frames_behind : (part bytes : List ℕ) → HasNoEnd part → frames (part ++ bytes) ≡ ended_frames part bytes ++ unended_frame (part_behind part bytes)
frames_behind part [] none = ap (λ p. frames p) (append-nil part) ∙ ap frames_in (slice_split_none is_end part none)
frames_behind part (b ∷ bytes) none =
    by_test (b == 192) refl (frames_behind [] bytes (λ k d h. absurd (omega (arith, h)))) (λ e. frames_behind (part ++ b ∷ []) bytes (All-append (λ c. is_end c ≡ false) part (b ∷ []) none (one e)))
  where
    one : (b == 192) ≡ false → All (λ c. is_end c ≡ false) (b ∷ [])
    one e zero d h = e
    one e (suc k) d h = absurd (omega (arith, h))

    by_test : (t : Bool) → (b == 192) ≡ t
        → frames bytes ≡ ended_frames [] bytes ++ unended_frame (part_behind [] bytes)
        → ((b == 192) ≡ false → frames ((part ++ b ∷ []) ++ bytes) ≡ ended_frames (part ++ b ∷ []) bytes ++ unended_frame (part_behind (part ++ b ∷ []) bytes))
        → frames (part ++ b ∷ bytes) ≡ cond t (frame_of part ++ ended_frames [] bytes) (ended_frames (part ++ b ∷ []) bytes) ++ unended_frame (cond t (part_behind [] bytes) (part_behind (part ++ b ∷ []) bytes))
    by_test true e here there =
        ap frames_in (slice_split_at is_end part b bytes none e)
        ∙ frames_next part (slice_split is_end bytes) (let n = length-slice_split is_end bytes in omega (arith, n))
        ∙ ap (λ fs. frame_of part ++ fs) here
        ∙ sym (append_assoc (frame_of part) (ended_frames [] bytes) (unended_frame (part_behind [] bytes)))
    by_test false e here there = ap frames (sym (append_assoc part (b ∷ []) bytes)) ∙ there e

-- the frames of a line that has come to its end
pub frames_ended : (bytes : List ℕ) → frames bytes ≡ ended_frames [] bytes ++ unended_frame (part_behind [] bytes)
frames_ended bytes = frames_behind [] bytes (λ k d h. absurd (omega (arith, h)))

-- ---- frames without an unfinished one

finished-append : (xs ys : List Frame) → finished_frames (xs ++ ys) ≡ finished_frames xs ++ finished_frames ys
finished-append [] ys = refl
finished-append (Broken ∷ xs) ys = ap (λ fs. Broken ∷ fs) (finished-append xs ys)
finished-append (Long client ∷ xs) ys = ap (λ fs. Long client ∷ fs) (finished-append xs ys)
finished-append (Asked client command ∷ xs) ys = ap (λ fs. Asked client command ∷ fs) (finished-append xs ys)
finished-append (Unfinished ∷ xs) ys = finished-append xs ys

finished_from : (bytes : Option (List ℕ)) → finished_frames (frame_from bytes ∷ []) ≡ frame_from bytes ∷ []
finished_from None = refl
finished_from (Some []) = refl
finished_from (Some (client ∷ command)) = by_tests (is_client client) (nat_lt 512 (length command))
  where
    by_tests : (s t : Bool) → finished_frames ((if s then (if t then Long client else Asked client command) else Broken) ∷ []) ≡ (if s then (if t then Long client else Asked client command) else Broken) ∷ []
    by_tests true true = refl
    by_tests true false = refl
    by_tests false t = refl

finished_of : (part : List ℕ) → finished_frames (frame_of part) ≡ frame_of part
finished_of [] = refl
finished_of (b ∷ bytes) = finished_from (decoded (b ∷ bytes))

finished_by : (part bytes : List ℕ) → finished_frames (ended_frames part bytes) ≡ ended_frames part bytes
finished_by part [] = refl
finished_by part (b ∷ bytes) =
    by_test (b == 192)
    (finished-append (frame_of part) (ended_frames [] bytes) ∙ ap (λ fs. fs ++ finished_frames (ended_frames [] bytes)) (finished_of part) ∙ ap (λ fs. frame_of part ++ fs) (finished_by [] bytes))
    (finished_by (part ++ b ∷ []) bytes)
  where
    by_test : (t : Bool) {xs ys : List Frame} → finished_frames xs ≡ xs → finished_frames ys ≡ ys → finished_frames (cond t xs ys) ≡ cond t xs ys
    by_test true e f = e
    by_test false e f = f

finished_unended : (part : List ℕ) → finished_frames (unended_frame part) ≡ []
finished_unended [] = refl
finished_unended (b ∷ bytes) = refl

pub frames_finished : (bytes : List ℕ) → finished_frames (frames bytes) ≡ ended_frames [] bytes
frames_finished bytes =
    ap finished_frames (frames_ended bytes)
    ∙ finished-append (ended_frames [] bytes) (unended_frame (part_behind [] bytes))
    ∙ ap (λ fs. fs ++ finished_frames (unended_frame (part_behind [] bytes))) (finished_by [] bytes)
    ∙ ap (λ fs. ended_frames [] bytes ++ fs) (finished_unended (part_behind [] bytes))
    ∙ append-nil (ended_frames [] bytes)

-- ---- bytes in parts

begun_on : (part xs ys : List ℕ) → part_behind part (xs ++ ys) ≡ part_behind (part_behind part xs) ys
begun_on part [] ys = refl
begun_on part (x ∷ xs) ys = by_test (is_end x) (begun_on [] xs ys) (begun_on (part ++ x ∷ []) xs ys)
  where
    by_test : (t : Bool) → part_behind [] (xs ++ ys) ≡ part_behind (part_behind [] xs) ys → part_behind (part ++ x ∷ []) (xs ++ ys) ≡ part_behind (part_behind (part ++ x ∷ []) xs) ys
        → cond t (part_behind [] (xs ++ ys)) (part_behind (part ++ x ∷ []) (xs ++ ys)) ≡ part_behind (cond t (part_behind [] xs) (part_behind (part ++ x ∷ []) xs)) ys
    by_test true e f = e
    by_test false e f = f

ended_on : (part xs ys : List ℕ) → ended_frames part (xs ++ ys) ≡ ended_frames part xs ++ ended_frames (part_behind part xs) ys
ended_on part [] ys = refl
ended_on part (x ∷ xs) ys =
    by_test (is_end x)
    (ap (λ fs. frame_of part ++ fs) (ended_on [] xs ys) ∙ sym (append_assoc (frame_of part) (ended_frames [] xs) (ended_frames (part_behind [] xs) ys)))
    (ended_on (part ++ x ∷ []) xs ys)
  where
    here : List Frame
    here = frame_of part ++ ended_frames [] xs

    more : List ℕ
    more = part ++ x ∷ []

    by_test : (t : Bool) → frame_of part ++ ended_frames [] (xs ++ ys) ≡ here ++ ended_frames (part_behind [] xs) ys → ended_frames more (xs ++ ys) ≡ ended_frames more xs ++ ended_frames (part_behind more xs) ys
        → cond t (frame_of part ++ ended_frames [] (xs ++ ys)) (ended_frames more (xs ++ ys)) ≡ cond t here (ended_frames more xs) ++ ended_frames (cond t (part_behind [] xs) (part_behind more xs)) ys
    by_test true e f = e
    by_test false e f = f

pub frame_parts : ComesInParts frame_cut frame_line
frame_parts = record { no_more = λ q. refl; none_ended = λ q. refl; begun_on = begun_on; ended_on = ended_on; all_is = frames_ended; whole_is = frames_finished }

-- the whole frames of the first bytes are the first frames of all
pub whole_is_front : (came left : List ℕ) → (rest : List Frame) × (frames (came ++ left) ≡ finished_frames (frames came) ++ rest)
whole_is_front came left =
    let ended : List Frame = ended_frames (part_behind [] came) left in
    let last : List Frame = unended_frame (part_behind [] (came ++ left)) in (
      ended ++ last,
      frame_parts.all_is (came ++ left)
          ∙ ap (λ front. front ++ last) (frame_parts.ended_on [] came left)
          ∙ append_assoc (ended_frames [] came) ended last
          ∙ ap (λ front. front ++ (ended ++ last)) (sym (frame_parts.whole_is came)),
    )
