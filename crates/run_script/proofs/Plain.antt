-- Bytes that neither end a piece nor begin or end a quote.
use Rattle.std.proofs.Common.{◌≡◌, ℕ, Bool, true, false, ◌||◌, ◌==◌, List, [], ◌∷◌, ◌++◌, take, refl, sym, ◌∙◌}
use Rattle.std.specs.List.{list_all, prefix_len}
use Rattle.std.proofs.Math.Numerals.{one-add}
use Rattle.std.proofs.lemmas.List.{append-nil, append_assoc}
use Rattle.db_model.specs.Pieces.{ended_by, piece_behind, quoted_behind}
use Rattle.db_model.specs.Script.{ends_piece, quoted_after}
use Rattle.run_script.specs.Gathers.{is_plain}
use Rattle.padded.proofs.Facts.{both_parts, by_truth, neither, untrue as not_so}

plain_ends : (quoted : Bool) (b : ℕ) → is_plain quoted b ≡ true → ends_piece quoted b ≡ false
plain_ends true b e = refl
plain_ends false b e = (neither (b == 59) (b == 39) (not_so (b == 59 || b == 39) e)).0

plain_quoted : (quoted : Bool) (b : ℕ) → is_plain quoted b ≡ true → quoted_after quoted b ≡ quoted
plain_quoted true b e = e
plain_quoted false b e = (neither (b == 59) (b == 39) (not_so (b == 59 || b == 39) e)).1

pub front_plain : (quoted : Bool) (xs : List ℕ) → list_all (is_plain quoted) (take (prefix_len (is_plain quoted) xs) xs) ≡ true
front_plain quoted [] = refl
front_plain quoted (x ∷ xs) = let ih = front_plain quoted xs in by_truth (is_plain quoted x) (λ e. rw (e, one-add (prefix_len (is_plain quoted) xs), e) ih) (λ e. rw e refl)

pub quoted_same : (quoted : Bool) (xs : List ℕ) → list_all (is_plain quoted) xs ≡ true → quoted_behind quoted xs ≡ quoted
quoted_same quoted [] all = refl
quoted_same quoted (x ∷ xs) all =
    let parts = both_parts (is_plain quoted x) (list_all (is_plain quoted) xs) all in
    let ih = quoted_same quoted xs parts.1 in
    rw (plain_ends quoted x parts.0) (rw (plain_quoted quoted x parts.0) ih)

pub piece_grows : (quoted : Bool) (p xs : List ℕ) → list_all (is_plain quoted) xs ≡ true → piece_behind quoted p xs ≡ p ++ xs
piece_grows quoted p [] all = sym (append-nil p)
piece_grows quoted p (x ∷ xs) all =
    let parts = both_parts (is_plain quoted x) (list_all (is_plain quoted) xs) all in
    let ih = piece_grows quoted (p ++ x ∷ []) xs parts.1 in
    rw (plain_ends quoted x parts.0) (rw (plain_quoted quoted x parts.0) (ih ∙ append_assoc p (x ∷ []) xs))

pub none_ended : (quoted : Bool) (p xs : List ℕ) → list_all (is_plain quoted) xs ≡ true → ended_by quoted p xs ≡ []
none_ended quoted p [] all = refl
none_ended quoted p (x ∷ xs) all =
    let parts = both_parts (is_plain quoted x) (list_all (is_plain quoted) xs) all in
    let ih = none_ended quoted (p ++ x ∷ []) xs parts.1 in
    rw (plain_ends quoted x parts.0) (rw (plain_quoted quoted x parts.0) ih)
