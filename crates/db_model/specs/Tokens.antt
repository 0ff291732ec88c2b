-- The tokens of a command's bytes: each is taken as long as possible, with white space between them at will.
use Rattle.std.specs.Prelude.{ℕ, ◌+◌, ◌-◌, ◌==◌, Bool, true, false, ◌&&◌, ◌||◌, List, [], ◌∷◌, length, take, get_or, pos, zero, suc, nat_le, if◌then◌else◌, Option, Some, None}
use Rattle.std.specs.Option.{option_map}
use Rattle.std.specs.Char.{is_ascii_alphabetic, is_ascii_digit}
use Rattle.std.specs.List.{prefix_len, take_while}
use Rattle.std.specs.Str.Parse.{digits_value}
use Rattle.db_model.specs.Keywords.{keyword_of}
use Rattle.db_model.specs.Names.{is_name, is_text, is_text_byte, is_word_byte}
use Rattle.db_model.specs.declared.tokens.Sign.{Sign}
use Rattle.db_model.specs.declared.tokens.Sign.TheVariants.{LeftBracket, RightBracket, Comma, Dot, Plus, Minus, Star, Slash, Equal, Unequal, Less, LessEqual, Greater, GreaterEqual}
use Rattle.db_model.specs.declared.tokens.Token.{Token}
use Rattle.db_model.specs.declared.tokens.Token.TheVariants.{Word, Name, Number, Quoted, Sign as Signed}

-- white space: space, tab, line feed and carriage return
abbrev pub is_white : ℕ → Bool
is_white b = b == 32 || b == 9 || b == 10 || b == 13

-- a word is the keyword that it spells in any letter case, and else a NAME; none where it has more than 15 bytes
abbrev pub word_token : List ℕ → Option Token
word_token word = elim (keyword_of word) [ Some keyword ↦ Some (Word keyword) | None ↦ if is_name word then Some (Name word) else None ]

-- a NUMBER has 1 to 18 digits
abbrev pub number_token : List ℕ → Option Token
number_token digits = if nat_le (length digits) 18 then Some (Number (pos (digits_value 10 digits))) else None

-- a token and how many bytes it has
abbrev pub of_length : ℕ → Option Token → Option (Token × ℕ)
of_length n token = option_map (λ t. (t, n)) token

-- after the opening quote: a text, and the closing quote
abbrev pub quoted_at : List ℕ → Option (Token × ℕ)
quoted_at bytes =
    let n = prefix_len is_text_byte bytes in
    if is_text (take n bytes) && (get_or bytes n 0 == 39) then Some (Quoted (take n bytes), n + 2) else None

-- a sign by its first byte and the byte after it: `<=`, `<>` and `>=` are taken whole
abbrev pub sign_of : ℕ → ℕ → Option (Sign × ℕ)
sign_of first next =
    if first == 40 then Some (LeftBracket, 1) else
    if first == 41 then Some (RightBracket, 1) else
    if first == 44 then Some (Comma, 1) else
    if first == 46 then Some (Dot, 1) else
    if first == 43 then Some (Plus, 1) else
    if first == 45 then Some (Minus, 1) else
    if first == 42 then Some (Star, 1) else
    if first == 47 then Some (Slash, 1) else
    if first == 61 then Some (Equal, 1) else
    if first == 60 then (if next == 61 then Some (LessEqual, 2) else if next == 62 then Some (Unequal, 2) else Some (Less, 1)) else
    if first == 62 then (if next == 61 then Some (GreaterEqual, 2) else Some (Greater, 1)) else
    None

-- a keyword or a name: all the word's bytes in front
abbrev pub word_at : List ℕ → Option (Token × ℕ)
word_at bytes = of_length (prefix_len is_word_byte bytes) (word_token (take_while is_word_byte bytes))

-- a number: all the digits in front
abbrev pub number_at : List ℕ → Option (Token × ℕ)
number_at bytes = of_length (prefix_len is_ascii_digit bytes) (number_token (take_while is_ascii_digit bytes))

-- a sign by its first byte and those after it
abbrev pub sign_at : ℕ → List ℕ → Option (Token × ℕ)
sign_at first behind = option_map (λ sign. (Signed sign.0, sign.1)) (sign_of first (get_or behind 0 0))

-- the token that begins with the first byte, and how many bytes it has; None where none begins there
abbrev pub token_at : List ℕ → Option (Token × ℕ)
token_at [] = None
token_at (b ∷ bs) =
    if is_ascii_alphabetic b then word_at (b ∷ bs) else
    if is_ascii_digit b then number_at (b ∷ bs) else
    if b == 39 then quoted_at bs else
    sign_at b bs

-- the tokens of some bytes, up to the first place where none begins
pub record Tokens : Type 0 where
  pub items : List Token
  pub ends : List ℕ  -- the place behind each of them
  pub whole : Bool  -- nothing but white space is left behind the last

-- one token more in front, which ends at a place
abbrev pub token_then : Token → ℕ → Tokens → Tokens
token_then token at rest = record { items = token ∷ rest.items; ends = at ∷ rest.ends; whole = rest.whole }

abbrev pub no_tokens : Bool → Tokens
no_tokens whole = record { items = []; ends = []; whole = whole }

-- the tokens from a place on, where this many bytes are still those of the token before
abbrev pub tokens_from : ℕ → ℕ → List ℕ → Tokens
tokens_from at skip [] = no_tokens true
tokens_from at (suc skip) (b ∷ bs) = tokens_from (at + 1) skip bs
tokens_from at zero (b ∷ bs) =
    elim (is_white b) [
      | true ↦ tokens_from (at + 1) 0 bs
      | false ↦ elim (token_at (b ∷ bs)) [ None ↦ no_tokens false | Some token ↦ token_then token.0 (at + token.1) (tokens_from (at + 1) (token.1 - 1) bs) ]
    ]

-- the tokens of a command's bytes
abbrev pub tokens_of : List ℕ → Tokens
tokens_of bytes = tokens_from 0 0 bytes
