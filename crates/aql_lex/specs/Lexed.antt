-- What `next_token` answers, by cases.
use Rattle.std.specs.Prelude.{ℕ, ◌≡◌, ◌+◌, ◌-◌, Bool, true, false, List, drop, Some}
use Rattle.std.specs.List.{prefix_len}
use Rattle.db_model.specs.Tokens.{is_white, token_at}
use Rattle.aql_lex.specs.declared.lexed.Lexed.{Lexed}
use Rattle.aql_lex.specs.declared.lexed.Lexed.TheVariants.{Token as Found, End, Bad}
use Rattle.db_model.specs.declared.tokens.Token.{Token}
use Rattle.db_model.specs.declared.tokens.Token.TheVariants.{Number, Quoted}

-- where a token was found: of it, and of the places where it begins and ends
abbrev pub OnToken : Lexed → (Token → ℕ → ℕ → Type 0) → Type 0
OnToken (Found token from to) P = P token from to
OnToken End P = Unit {0}
OnToken Bad P = Unit {0}

-- where only white space is left
abbrev pub OnEnd : Lexed → Type 0 → Type 0
OnEnd (Found token from to) P = Unit {0}
OnEnd End P = P
OnEnd Bad P = Unit {0}

-- where no token begins
abbrev pub OnBad : Lexed → Type 0 → Type 0
OnBad (Found token from to) P = Unit {0}
OnBad End P = Unit {0}
OnBad Bad P = P

-- the place after the white space from a place on
abbrev pub behind_white : List ℕ → ℕ → ℕ
behind_white bytes at = at + prefix_len is_white (drop at bytes)

-- the bytes from one place to another are a token
abbrev pub IsTokenIn : List ℕ → Token → ℕ → ℕ → Type 0
IsTokenIn bytes token from to = token_at (drop from bytes) ≡ Some (token, to - from)

-- a number or a text
abbrev pub is_literal : Token → Bool
is_literal (Number value) = true
is_literal (Quoted text) = true
is_literal _ = false
