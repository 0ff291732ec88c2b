-- The commands of a script as they are cut byte by byte, and in parts.
use Rattle.std.proofs.Common.{◌≡◌, refl, sym, ap, ◌∙◌, ℕ, Bool, true, false, List, [], ◌∷◌, ◌++◌, length, append_assoc, append-nil}
use Rattle.std.specs.Prelude.{cond, nat_lt}
use Rattle.db_model.specs.Script.{Entry, Long, Unfinished, Bytes, ends_piece, quoted_after, ended, unended, past_white, onto, pieces, entries_of, commands, finished, whole}
use Rattle.db_model.specs.Pieces.{entries_after, quoted_behind, piece_behind, ended_by}

-- ---- byte by byte

-- bytes before the first of some pieces
abbrev front : List ℕ → List (List ℕ) → List (List ℕ)
front piece [] = piece ∷ []
front piece (p ∷ ps) = (piece ++ p) ∷ ps

after_cut : (piece : List ℕ) (ps : List (List ℕ)) (rest : List Entry) → rest ≡ entries_of (front [] ps) → ended (past_white piece) ++ rest ≡ entries_of (front piece ([] ∷ front [] ps))
after_cut piece [] rest e = ap (λ r. ended (past_white piece) ++ r) e ∙ ap (λ p. ended (past_white p) ++ entries_of (front [] [])) (sym (append-nil piece))
after_cut piece (q ∷ qs) rest e = ap (λ r. ended (past_white piece) ++ r) e ∙ ap (λ p. ended (past_white p) ++ entries_of (front [] (q ∷ qs))) (sym (append-nil piece))

behind_byte : (piece : List ℕ) (b : ℕ) (ps : List (List ℕ)) → front (piece ++ b ∷ []) ps ≡ front piece (onto b ps)
behind_byte piece b [] = refl
behind_byte piece b (p ∷ ps) = ap (λ x. x ∷ ps) (append_assoc piece (b ∷ []) p)

some : (quoted : Bool) (bs : List ℕ) → front [] (pieces quoted bs) ≡ pieces quoted bs
some quoted [] = refl
some quoted (b ∷ bs) = by_test (ends_piece quoted b) (pieces false bs) (pieces (quoted_after quoted b) bs)
  where
    by_test : (t : Bool) (ps qs : List (List ℕ)) → front [] (cond t ([] ∷ ps) (onto b qs)) ≡ cond t ([] ∷ ps) (onto b qs)
    by_test true ps qs = refl
    by_test false ps [] = refl
    by_test false ps (q ∷ qs) = refl

same : (quoted : Bool) (piece bs : List ℕ) → entries_after quoted piece bs ≡ entries_of (front piece (pieces quoted bs))
same quoted piece [] = ap (λ p. unended (past_white p)) (sym (append-nil piece))
same quoted piece (b ∷ bs) = by_test (ends_piece quoted b) (same false [] bs) (same (quoted_after quoted b) (piece ++ b ∷ []) bs)
  where
    by_test : (t : Bool) → entries_after false [] bs ≡ entries_of (front [] (pieces false bs))
        → entries_after (quoted_after quoted b) (piece ++ b ∷ []) bs ≡ entries_of (front (piece ++ b ∷ []) (pieces (quoted_after quoted b) bs))
        → cond t (ended (past_white piece) ++ entries_after false [] bs) (entries_after (quoted_after quoted b) (piece ++ b ∷ []) bs)
        ≡ entries_of (front piece (cond t ([] ∷ pieces false bs) (onto b (pieces (quoted_after quoted b) bs))))
    by_test true cut on = after_cut piece (pieces false bs) (entries_after false [] bs) cut ∙ ap (λ ps. entries_of (front piece ([] ∷ ps))) (some false bs)
    by_test false cut on = on ∙ ap entries_of (behind_byte piece b (pieces (quoted_after quoted b) bs))

-- the commands of a script are the entries that its bytes end one by one
pub commands_after : (bytes : List ℕ) → commands bytes ≡ entries_after false [] bytes
commands_after bytes = sym (same false [] bytes ∙ ap entries_of (some false bytes))

-- ---- parts of a script

-- what bytes end, and then what comes behind them
pub entries_behind : (quoted : Bool) (piece xs ys : List ℕ) → entries_after quoted piece (xs ++ ys) ≡ ended_by quoted piece xs ++ entries_after (quoted_behind quoted xs) (piece_behind quoted piece xs) ys
entries_behind quoted piece [] ys = refl
entries_behind quoted piece (b ∷ xs) ys =
    by_test
    (ends_piece quoted b)
    (ended (past_white piece))
    (entries_behind false [] xs ys)
    (entries_behind (quoted_after quoted b) (piece ++ b ∷ []) xs ys)
  where
    by_test : (t : Bool) (now : List Entry)
        → entries_after false [] (xs ++ ys) ≡ ended_by false [] xs ++ entries_after (quoted_behind false xs) (piece_behind false [] xs) ys
        → entries_after (quoted_after quoted b) (piece ++ b ∷ []) (xs ++ ys)
        ≡ ended_by (quoted_after quoted b) (piece ++ b ∷ []) xs ++ entries_after (quoted_behind (quoted_after quoted b) xs) (piece_behind (quoted_after quoted b) (piece ++ b ∷ []) xs) ys
        → cond t (now ++ entries_after false [] (xs ++ ys)) (entries_after (quoted_after quoted b) (piece ++ b ∷ []) (xs ++ ys))
        ≡ cond t (now ++ ended_by false [] xs) (ended_by (quoted_after quoted b) (piece ++ b ∷ []) xs)
        ++ entries_after (cond t (quoted_behind false xs) (quoted_behind (quoted_after quoted b) xs)) (cond t (piece_behind false [] xs) (piece_behind (quoted_after quoted b) (piece ++ b ∷ []) xs)) ys
    by_test true now e f = ap (λ rest. now ++ rest) e ∙ sym (append_assoc now (ended_by false [] xs) (entries_after (quoted_behind false xs) (piece_behind false [] xs) ys))
    by_test false now e f = f

-- the commands of a script that has come to its end
pub commands_ended : (bytes : List ℕ) → commands bytes ≡ ended_by false [] bytes ++ unended (past_white (piece_behind false [] bytes))
commands_ended bytes = commands_after bytes ∙ ap (entries_after false []) (sym (append-nil bytes)) ∙ entries_behind false [] bytes []

finished-append : (xs ys : List Entry) → finished (xs ++ ys) ≡ finished xs ++ finished ys
finished-append [] ys = refl
finished-append (Long ∷ xs) ys = ap (λ es. Long ∷ es) (finished-append xs ys)
finished-append (Unfinished ∷ xs) ys = finished-append xs ys
finished-append (Bytes bytes ∷ xs) ys = ap (λ es. Bytes bytes ∷ es) (finished-append xs ys)

finished-ended : (piece : List ℕ) → finished (ended piece) ≡ ended piece
finished-ended [] = refl
finished-ended (b ∷ piece) = by_length (nat_lt 512 (length (b ∷ piece)))
  where
    by_length : (t : Bool) → finished (cond t (Long ∷ []) (Bytes (b ∷ piece) ∷ [])) ≡ cond t (Long ∷ []) (Bytes (b ∷ piece) ∷ [])
    by_length true = refl
    by_length false = refl

finished-unended : (piece : List ℕ) → finished (unended piece) ≡ []
finished-unended [] = refl
finished-unended (b ∷ piece) = refl

finished-ended_by : (quoted : Bool) (piece bs : List ℕ) → finished (ended_by quoted piece bs) ≡ ended_by quoted piece bs
finished-ended_by quoted piece [] = refl
finished-ended_by quoted piece (b ∷ bs) =
    by_test
    (ends_piece quoted b)
    (finished-append (ended (past_white piece)) (ended_by false [] bs) ∙ ap (λ es. es ++ finished (ended_by false [] bs)) (finished-ended (past_white piece)) ∙ ap (λ es. ended (past_white piece) ++ es) (finished-ended_by false [] bs))
    (finished-ended_by (quoted_after quoted b) (piece ++ b ∷ []) bs)
  where
    by_test : (t : Bool) {es fs : List Entry} → finished es ≡ es → finished fs ≡ fs → finished (cond t es fs) ≡ cond t es fs
    by_test true e f = e
    by_test false e f = f

-- the entries without an unfinished one are those that the bytes end
pub whole_ended : (bytes : List ℕ) → whole bytes ≡ ended_by false [] bytes
whole_ended bytes =
    let last_piece : List ℕ = past_white (piece_behind false [] bytes) in
    ap finished (commands_ended bytes)
    ∙ finished-append (ended_by false [] bytes) (unended last_piece)
    ∙ ap (λ front. front ++ finished (unended last_piece)) (finished-ended_by false [] bytes)
    ∙ ap (λ end. ended_by false [] bytes ++ end) (finished-unended last_piece)
    ∙ append-nil (ended_by false [] bytes)
