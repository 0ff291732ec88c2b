-- A script that comes in parts.
use Rattle.std.proofs.Common.{◌≡◌, ℕ, Bool, false, List, [], ◌∷◌, ◌++◌, refl, sym, ap, ◌∙◌}
use Rattle.std.proofs.lemmas.List.{append_assoc}
use Rattle.db_model.specs.Script.{ended, ends_piece, past_white, quoted_after}
use Rattle.run_model.specs.Line.{ComesInParts}
use Rattle.db_model.specs.Pieces.{ended_by, piece_behind, quoted_behind}
use Rattle.run_model.specs.Scripts.{script_cut, script_line}
use Rattle.db_model.proofs.Cutting.{commands_ended, whole_ended}
use Rattle.padded.proofs.Facts.{by_truth}

pub quoted_append : (q : Bool) (xs ys : List ℕ) → quoted_behind q (xs ++ ys) ≡ quoted_behind (quoted_behind q xs) ys
quoted_append q [] ys = refl
quoted_append q (x ∷ xs) ys =
    let a = quoted_append false xs ys in
    let b = quoted_append (quoted_after q x) xs ys in
    by_truth (ends_piece q x) (λ e. rw e a) (λ e. rw e b)

pub piece_append : (q : Bool) (p xs ys : List ℕ) → piece_behind q p (xs ++ ys) ≡ piece_behind (quoted_behind q xs) (piece_behind q p xs) ys
piece_append q p [] ys = refl
piece_append q p (x ∷ xs) ys =
    let a = piece_append false [] xs ys in
    let b = piece_append (quoted_after q x) (p ++ x ∷ []) xs ys in
    by_truth (ends_piece q x) (λ e. rw e a) (λ e. rw e b)

pub ended_append : (q : Bool) (p xs ys : List ℕ) → ended_by q p (xs ++ ys) ≡ ended_by q p xs ++ ended_by (quoted_behind q xs) (piece_behind q p xs) ys
ended_append q p [] ys = refl
ended_append q p (x ∷ xs) ys =
    let a = ended_append false [] xs ys in
    let b = ended_append (quoted_after q x) (p ++ x ∷ []) xs ys in
    by_truth (ends_piece q x)
    (λ e. rw e (ap (λ t. ended (past_white p) ++ t) a ∙ sym (append_assoc (ended (past_white p)) (ended_by false [] xs) (ended_by (quoted_behind false xs) (piece_behind false [] xs) ys))))
    (λ e. rw e b)

pub script_parts : ComesInParts script_cut script_line
script_parts = record {
  no_more = λ q. refl;
  none_ended = λ q. refl;
  begun_on = λ q xs ys.
      ap (λ quoted. (quoted, piece_behind q.0 q.1 (xs ++ ys))) (quoted_append q.0 xs ys)
      ∙ ap (λ piece. (quoted_behind (quoted_behind q.0 xs) ys, piece)) (piece_append q.0 q.1 xs ys);
  ended_on = λ q xs ys. ended_append q.0 q.1 xs ys;
  all_is = commands_ended;
  whole_is = whole_ended;
}
