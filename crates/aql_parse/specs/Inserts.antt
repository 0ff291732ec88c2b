-- An INSERT that is read from its bytes, token by token, without the machine.
use Rattle.std.specs.Prelude.{◌≡◌, ℕ, ℤ, ◌<◌, ◌≤◌, true, IsTrue, List, [], ◌∷◌, ◌++◌, length, map, Option, Some, None}
use Rattle.aql_lex.specs.Lexed.{is_literal}
use Rattle.db_model.specs.Grammar.{minus, Listed, ListOf, ValueItem}
use Rattle.db_model.specs.Spelling.{IsSpelt}
use Rattle.db_model.specs.Tokens.{tokens_of}
use Rattle.db_model.specs.declared.commands.Command.TheVariants as command
use Rattle.db_model.specs.declared.tokens.Keyword.TheVariants.{KINSERT, KINTO}
use Rattle.db_model.specs.declared.tokens.Sign.TheVariants.{LeftBracket, RightBracket}
use Rattle.db_model.specs.declared.tokens.Token.{Token}
use Rattle.db_model.specs.declared.tokens.Token.TheVariants.{Word, Name, Number, Quoted, Sign}
use Rattle.db_model.specs.declared.values.Value.{Value}
use Rattle.db_model.specs.declared.values.Value.TheVariants as value

-- a value kept as a token, a negative number as one
abbrev pub value_token : Value → Token
value_token (value.Number z) = Number z
value_token (value.Text bytes) = Quoted bytes

-- the bytes are these tokens to their end
pub record AreTokens (bytes : List ℕ) (tokens : List Token) : Type 0 where
  pub items : (tokens_of bytes).items ≡ tokens
  pub whole : (tokens_of bytes).whole ≡ true

-- INSERT and the opening bracket
abbrev pub opening : List Token
opening = Word KINSERT ∷ Sign LeftBracket ∷ []

-- INTO and a relation
abbrev pub into : List ℕ → List Token
into relation = Word KINTO ∷ Name relation ∷ []

-- some tokens are in front, and other bytes are left behind them
pub record AreInFront (tokens : List Token) (bytes behind : List ℕ) : Type 0 where
  pub items : (tokens_of bytes).items ≡ tokens ++ (tokens_of behind).items
  pub whole : (tokens_of bytes).whole ≡ (tokens_of behind).whole
  pub shorter : length behind < length bytes

-- a value is in front
pub record IsValueInFront (value : Value) (bytes behind : List ℕ) : Type 0 where
  pub tokens : List Token
  pub item : ValueItem value tokens
  pub front : AreInFront tokens bytes behind

-- and is kept behind others
pub record KeepsValue (old new : List Token) (bytes behind : List ℕ) : Type 0 where
  pub value : Value
  pub kept : new ≡ old ++ value_token value ∷ []
  pub front : IsValueInFront value bytes behind

-- a number with a minus before it
abbrev pub negated : Token → Option Token
negated (Number z) = Some (Number (minus z))
negated _ = None

-- a number is in front, and is kept as one below 0
pub record KeepsNegative (old new : List Token) (bytes behind : List ℕ) : Type 0 where
  pub number : ℤ
  pub kept : new ≡ old ++ Number (minus number) ∷ []
  pub front : AreInFront (Number number ∷ []) bytes behind

-- a list of values and its closing bracket are in front, and the values are kept
pub record KeepsList (kept : List Token) (bytes behind : List ℕ) : Type 0 where
  pub values : List Value
  pub kept_are : kept ≡ map value_token values
  pub few : length values ≤ 8
  pub tokens : List Token
  pub listed : Listed ValueItem values tokens
  pub front : AreInFront (tokens ++ Sign RightBracket ∷ []) bytes behind

-- the bytes are an INSERT of the values that are kept
pub record KeepsInsert (kept : List Token) (relation : List ℕ) (bytes : List ℕ) : Type 0 where
  pub values : List Value
  pub kept_are : kept ≡ map value_token values
  pub few : length values ≤ 8
  pub spelt : IsSpelt (command.Insert values relation) bytes

-- ---- the bytes that are no INSERT

-- the bytes are not tokens to their end that begin with these
abbrev pub AreNotInFront : List Token → List ℕ → Type 0
AreNotInFront tokens bytes = (rest : List Token) → AreTokens bytes (tokens ++ rest) → ⊥

-- no number is in front
abbrev pub HasNoNumber : List ℕ → Type 0
HasNoNumber bytes = (number : ℤ) → AreNotInFront (Number number ∷ []) bytes

-- no value is in front
abbrev pub HasNoValue : List ℕ → Type 0
HasNoValue bytes = (value : Value) (tokens : List Token) → ValueItem value tokens → AreNotInFront tokens bytes

-- no number without a minus is in front, and no text
abbrev pub HasNoLiteral : List ℕ → Type 0
HasNoLiteral bytes = (token : Token) → IsTrue (is_literal token) → AreNotInFront (token ∷ []) bytes

-- no list of at most 8 values and its closing bracket are in front
abbrev pub HasNoList : List ℕ → Type 0
HasNoList bytes = (values : List Value) (tokens : List Token) → ListOf ValueItem values tokens → AreNotInFront (tokens ++ Sign RightBracket ∷ []) bytes

-- the bytes are not INTO and a relation
abbrev pub HasNoRelation : List ℕ → Type 0
HasNoRelation bytes = (relation : List ℕ) → AreTokens bytes (into relation) → ⊥

-- the bytes spell no INSERT
abbrev pub IsNoInsert : List ℕ → Type 0
IsNoInsert bytes = (values : List Value) (relation : List ℕ) → IsSpelt (command.Insert values relation) bytes → ⊥
