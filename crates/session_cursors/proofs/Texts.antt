-- The text of a reply of one row, or of none.
use Rattle.std.proofs.Common.{◌≡◌, ℕ, List, [], ◌∷◌, ◌++◌, Option, ap, sym, ◌∙◌, subst, append-nil}
use Rattle.std.specs.Io.KnownBytes.{append_known}
use Rattle.db_model.specs.declared.values.Value.{Value}
use Rattle.db_model.specs.ReplyText.{count_text, row_text, text}
use Rattle.db_model.specs.Step.{Rows}
use Rattle.db_model.proofs.ReplyTexts.{text_rows}
use Rattle.reply_text.specs.WroteLess.{WroteLess}
use Rattle.reply_text.proofs.Pieces.{append_known-twice, less_behind, less_front}
use Rattle.std.proofs.lemmas.List.Concat.{flat_map-cons}

pub text_one : (row : List Value) → text (Rows (row ∷ [])) ≡ row_text row ++ count_text 1
text_one row = text_rows (row ∷ []) ∙ ap (λ (l : List ℕ). l ++ count_text 1) (flat_map-cons row_text row [] ∙ append-nil (row_text row))

pub text_none : text (Rows []) ≡ count_text 0
text_none = text_rows []

pub held_one : (h0 h1 h2 : Option (List ℕ)) (row : List Value) → h1 ≡ append_known h0 (row_text row) → h2 ≡ append_known h1 (count_text 1) → h2 ≡ append_known h0 (text (Rows (row ∷ [])))
held_one h0 h1 h2 row first then =
    then ∙ ap (λ (h : Option (List ℕ)). append_known h (count_text 1)) first ∙ append_known-twice h0 (row_text row) (count_text 1) ∙ ap (append_known h0) (sym (text_one row))

pub less_row : (h0 h1 : Option (List ℕ)) (row : List Value) → WroteLess h0 h1 (row_text row) → WroteLess h0 h1 (text (Rows (row ∷ [])))
less_row h0 h1 row less = subst (λ (bytes : List ℕ). WroteLess h0 h1 bytes) (sym (text_one row)) (less_front h0 h1 (row_text row) (count_text 1) less)

pub less_count : (h0 h1 h2 : Option (List ℕ)) (row : List Value) → h1 ≡ append_known h0 (row_text row) → WroteLess h1 h2 (count_text 1) → WroteLess h0 h2 (text (Rows (row ∷ [])))
less_count h0 h1 h2 row first less = subst (λ (bytes : List ℕ). WroteLess h0 h2 bytes) (sym (text_one row)) (less_behind h0 h1 h2 (row_text row) (count_text 1) first less)
