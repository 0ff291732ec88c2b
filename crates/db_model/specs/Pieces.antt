-- A script that comes byte by byte: which entries the bytes so far have ended, and what piece is begun.
use Rattle.std.specs.Prelude.{ℕ, Bool, false, List, [], ◌∷◌, ◌++◌, if◌then◌else◌}
use Rattle.db_model.specs.Script.{Entry, ends_piece, quoted_after, ended, unended, past_white}

-- the entries of a piece so far, inside quotes or not, and the bytes still to come
abbrev pub entries_after : Bool → List ℕ → List ℕ → List Entry
entries_after quoted piece [] = unended (past_white piece)
entries_after quoted piece (b ∷ bs) =
    if ends_piece quoted b then ended (past_white piece) ++ entries_after false [] bs else entries_after (quoted_after quoted b) (piece ++ b ∷ []) bs

-- after some bytes, after a piece so far that stands in quotes or not: whether it stands in quotes then
abbrev pub quoted_behind : Bool → List ℕ → Bool
quoted_behind quoted [] = quoted
quoted_behind quoted (b ∷ bs) = if ends_piece quoted b then quoted_behind false bs else quoted_behind (quoted_after quoted b) bs

-- the piece that is begun then
abbrev pub piece_behind : Bool → List ℕ → List ℕ → List ℕ
piece_behind quoted piece [] = piece
piece_behind quoted piece (b ∷ bs) = if ends_piece quoted b then piece_behind false [] bs else piece_behind (quoted_after quoted b) (piece ++ b ∷ []) bs

-- the entries that these bytes end
abbrev pub ended_by : Bool → List ℕ → List ℕ → List Entry
ended_by quoted piece [] = []
ended_by quoted piece (b ∷ bs) =
    if ends_piece quoted b then ended (past_white piece) ++ ended_by false [] bs else ended_by (quoted_after quoted b) (piece ++ b ∷ []) bs
