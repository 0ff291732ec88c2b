-- The names of relations and attributes, and the bytes of a text.
use Rattle.std.specs.Prelude.{ℕ, Bool, false, not, ◌&&◌, ◌||◌, ◌==◌, List, [], ◌∷◌, length, nat_le, is_some}
use Rattle.std.specs.List.{list_all}
use Rattle.std.specs.Char.{is_ascii_alphabetic, is_ascii_alphanumeric}
use Rattle.std.specs.Int.{is_in_range}
use Rattle.db_model.specs.Keywords.{keyword_of}

-- a byte of a word after its first: a letter, a digit or `_`
abbrev pub is_word_byte : ℕ → Bool
is_word_byte b = is_ascii_alphanumeric b || b == 95

-- a word: a letter, then letters, digits and `_`, at most 15 bytes in all
abbrev pub is_word : List ℕ → Bool
is_word [] = false
is_word (b ∷ bs) = nat_le (length bs) 14 && is_ascii_alphabetic b && list_all is_word_byte bs

-- a NAME: a word that is no keyword
abbrev pub is_name : List ℕ → Bool
is_name bytes = is_word bytes && not (is_some (keyword_of bytes))

-- a byte of a text: a printing byte of ASCII or a space, but no quote `'`
abbrev pub is_text_byte : ℕ → Bool
is_text_byte b = is_in_range 32 126 b && not (b == 39)

-- a text: at most 32 such bytes
abbrev pub is_text : List ℕ → Bool
is_text bytes = nat_le (length bytes) 32 && list_all is_text_byte bytes
