-- What is kept of a piece as its bytes come, and what it asks for.
use Rattle.std.proofs.Common.{◌≡◌, ℕ, ◌+◌, ◌<◌, ◌≤◌, Bool, true, false, List, [], ◌∷◌, ◌++◌, length, take, drop, refl, sym, ap, ◌∙◌, arith, ⊎_elim}
use Rattle.std.specs.Prelude.{nat_lt}
use Rattle.std.specs.List.{prefix_len}
use Rattle.std.proofs.Math.Numerals.{one-add}
use Rattle.std.proofs.Math.Seq.{take-append-add}
use Rattle.std.proofs.lemmas.List.{append-nil, take_all, take-append-le, length-append, length-take, length-take-le}
use Rattle.std.proofs.lemmas.Bool.{cases_lt}
use Rattle.std.proofs.lemmas.Bool.Decides.{nat_tests}
use Rattle.db_model.specs.Pieces.{ended_by}
use Rattle.db_model.specs.Script.{Entry, Long, Unfinished, Bytes, ended, ends_piece, unended, past_white}
use Rattle.db_model.specs.Tokens.{is_white}
use Rattle.run_script.specs.Gathers.{GathersPiece}
use Rattle.padded.proofs.Facts.{by_truth}

none_kept : (t : List ℕ) → length (take 512 t) ≡ 0 → t ≡ []
none_kept [] h = refl
none_kept (x ∷ xs) h = absurd (omega (arith, length-take 512 (x ∷ xs)))

-- ---- what is kept

past_none : (p xs : List ℕ) → past_white p ≡ [] → past_white (p ++ xs) ≡ past_white xs
past_none [] xs e = refl
past_none (x ∷ p) xs e = let ih = past_none p xs in by_truth (is_white x) (λ w. rw w (ih (rw w at e))) (λ w. let some : x ∷ p ≡ [] = rw w at e in absurd (omega (arith, ap length some)))

past_some : (p xs : List ℕ) → 0 < length (past_white p) → past_white (p ++ xs) ≡ past_white p ++ xs
past_some [] xs some = absurd (omega (arith, some))
past_some (x ∷ p) xs some = let ih = past_some p xs in by_truth (is_white x) (λ w. rw w (ih (rw w at some))) (λ w. rw w refl)

pub past_front : (xs : List ℕ) → drop (prefix_len is_white xs) xs ≡ past_white xs
past_front [] = refl
past_front (x ∷ xs) = let ih = past_front xs in by_truth (is_white x) (λ w. rw (w, one-add (prefix_len is_white xs)) ih) (λ w. rw w refl)

-- the first n of them
pub first_kept : (n room : ℕ) (t xs : List ℕ) → room + length (take n t) ≡ n → take n (t ++ xs) ≡ take n t ++ take room xs
first_kept n room t xs e = ⊎_elim
    (λ (long : n < length t).
    let none : room ≡ 0 = omega (arith, e, length-take-le n t (omega (arith, long))) in
    take-append-le n t xs (omega (arith, long)) ∙ sym (append-nil (take n t)) ∙ ap (λ m. take n t ++ take m xs) (sym none))
    (λ (short : length t ≤ n).
    let all = take_all n t short in
    let is : n ≡ length t + room = omega (arith, e, ap length all) in
    ap (λ m. take m (t ++ xs)) is ∙ take-append-add t xs room ∙ ap (λ ys. ys ++ take room xs) (sym all))
    (cases_lt n (length t))

module _ (room : ℕ) (t xs : List ℕ) (e : room + length (take 512 t) ≡ 512) where
  pub more_come : room < length xs → true ≡ nat_lt 512 (length (t ++ xs))
  more_come over = let many : 512 < length (t ++ xs) = omega (arith, e, over, length-append t xs, length-take 512 t) in grind (arith, nat_tests)

  pub all_come : length xs ≤ room → nat_lt 512 (length t) ≡ nat_lt 512 (length (t ++ xs))
  all_come few = ⊎_elim
      (λ (w : 512 < length t). let many : 512 < length (t ++ xs) = omega (arith, w, length-append t xs) in grind (arith, nat_tests))
      (λ (w : length t ≤ 512). let all : length (t ++ xs) ≤ 512 = omega (arith, w, e, few, length-append t xs, length-take 512 t) in grind (arith, nat_tests))
      (cases_lt 512 (length t))

module _ (p bytes1 : List ℕ) (long1 : Bool) where
  pub kept_begun : (xs bytes : List ℕ) (long : Bool) → GathersPiece p bytes long → 0 < length bytes
      → bytes1 ≡ take 512 (past_white p ++ xs) → long1 ≡ nat_lt 512 (length (past_white p ++ xs)) → GathersPiece (p ++ xs) bytes1 long1
  kept_begun xs bytes long g some e f =
      let now = past_some p xs (omega (arith, some, ap length g.bytes_are, length-take 512 (past_white p))) in
      record { bytes_are = e ∙ ap (λ t. take 512 t) (sym now); long_is = f ∙ ap (λ t. nat_lt 512 (length t)) (sym now) }

  pub kept_first : (xs bytes : List ℕ) (long : Bool) → GathersPiece p bytes long → length bytes ≡ 0
      → bytes1 ≡ take 512 (past_white p ++ past_white xs) → long1 ≡ nat_lt 512 (length (past_white p ++ past_white xs)) → GathersPiece (p ++ xs) bytes1 long1
  kept_first xs bytes long g none e f =
      let empty = none_kept (past_white p) (sym (ap length g.bytes_are) ∙ none) in
      let now : past_white (p ++ xs) ≡ past_white p ++ past_white xs = past_none p xs empty ∙ ap (λ t. t ++ past_white xs) (sym empty) in
      record { bytes_are = e ∙ ap (λ t. take 512 t) (sym now); long_is = f ∙ ap (λ t. nat_lt 512 (length t)) (sym now) }

-- ---- what a piece asks for

ended_long : (t : List ℕ) → nat_lt 512 (length t) ≡ true → ended t ≡ Long ∷ []
ended_long [] h = absurd (let e : false ≡ true = h in cc)
ended_long (x ∷ xs) h = rw h refl

ended_some : (t : List ℕ) → 0 < length t → nat_lt 512 (length t) ≡ false → ended t ≡ Bytes t ∷ []
ended_some [] some h = absurd (omega arith)
ended_some (x ∷ xs) some h = rw h refl

unended_some : (t : List ℕ) → 0 < length t → unended t ≡ Unfinished ∷ []
unended_some [] some = absurd (omega arith)
unended_some (x ∷ xs) some = refl

kept_all : (p bytes : List ℕ) → GathersPiece p bytes false → past_white p ≡ bytes
kept_all p bytes g =
    let short : length (past_white p) ≤ 512 = grind (arith, nat_tests, g.long_is) in
    sym (g.bytes_are ∙ take_all 512 (past_white p) short)

pub said_long : (p bytes : List ℕ) → GathersPiece p bytes true → ended (past_white p) ≡ Long ∷ []
said_long p bytes g = ended_long (past_white p) (sym g.long_is)

pub said_some : (p bytes : List ℕ) → GathersPiece p bytes false → 0 < length bytes → ended (past_white p) ≡ Bytes bytes ∷ []
said_some p bytes g some =
    let same = kept_all p bytes g in
    ap ended same ∙ ended_some bytes some (ap (λ t. nat_lt 512 (length t)) (sym same) ∙ sym g.long_is)

pub unclosed_some : (p bytes : List ℕ) (long : Bool) → GathersPiece p bytes long → 0 < length bytes → unended (past_white p) ≡ Unfinished ∷ []
unclosed_some p bytes long g some = unended_some (past_white p) (omega (arith, ap length g.bytes_are, length-take 512 (past_white p)))

-- what a `;` ends
pub one_ended : (quoted : Bool) (p : List ℕ) (b : ℕ) (entry : Entry) → ends_piece quoted b ≡ true → ended (past_white p) ≡ entry ∷ [] → ended_by quoted p (b ∷ []) ≡ entry ∷ []
one_ended quoted p b entry ends is = rw ends (ap (λ (es : List Entry). es ++ []) is)
