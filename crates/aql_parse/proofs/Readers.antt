-- The bytes of each command are read, and in one way alone.
use Rattle.std.proofs.Common.{◌≡◌, ℕ, Bool, true, false, List, length, Option, Some, None, refl, arith}
use Rattle.std.specs.Prelude.{Result, Ok, Err, nat_lt}
use Rattle.std.proofs.lemmas.Bool.Decides.{nat_tests}
use Rattle.db_model.specs.Reading.{IsReading, IsReader}
use Rattle.db_model.specs.Spelling.{IsSpelt, end_of, nodes_of}
use Rattle.db_model.specs.Tokens.{tokens_of}
use Rattle.db_model.specs.declared.commands.Command.{Command}
use Rattle.db_model.specs.declared.commands.Node.{Node}
use Rattle.db_model.specs.declared.refusals.Pool.TheVariants.{Nodes}
use Rattle.db_model.specs.declared.refusals.Refusal.{Refusal}
use Rattle.db_model.specs.declared.refusals.Refusal.TheVariants.{Syntax, Full}
use Rattle.db_model.specs.declared.tokens.Token.{Token}
use Rattle.aql_parse.specs.Machine.{run, readable_tokens, start}
use Rattle.aql_parse.proofs.ReadRight.{none_spelt, not_whole, wrong_at}
use Rattle.aql_parse.proofs.Means.{ReadCommand}
use Rattle.aql_parse.proofs.Sound.{start_sound}

-- what some bytes are read as
record Answer (bytes : List ℕ) : Type 0 where
  result : Result Command Refusal
  reading : IsReading bytes result

refused : (bytes : List ℕ) → ((command : Command) → IsSpelt command bytes → ⊥) → Answer bytes
refused bytes none =
    let tokens : List Token = (tokens_of bytes).items in
    let at : ℕ = end_of (tokens_of bytes).ends (readable_tokens start (tokens_of bytes).items) in
    record {
      result = Err (Syntax at);
      reading = record { none = none; wrong = wrong_at bytes tokens (tokens_of bytes).ends (readable_tokens start tokens) at refl refl refl refl };
    }

spelt : (bytes : List ℕ) (command : Command) → IsSpelt command bytes → Answer bytes
spelt bytes command is = go (nat_lt 32 (length (nodes_of command))) refl
  where
    go : (b : Bool) → nat_lt 32 (length (nodes_of command)) ≡ b → Answer bytes
    go true e = record { result = Err (Full Nodes 32); reading = record { nodes = refl; few = refl; command = command; spelt = is; many = grind (arith, nat_tests) } }
    go false e = record { result = Ok command; reading = (is, grind (arith, nat_tests)) }

answer : (bytes : List ℕ) → Answer bytes
answer bytes = go (run start (tokens_of bytes).items) refl
  where
    go : (r : Option (List Node)) → run start (tokens_of bytes).items ≡ r → Answer bytes
    go None e = refused bytes (none_spelt bytes (tokens_of bytes).items refl e)
    go (Some nodes) e = by_whole (tokens_of bytes).whole refl
      where
        by_whole : (w : Bool) → (tokens_of bytes).whole ≡ w → Answer bytes
        by_whole false f = refused bytes (not_whole bytes (tokens_of bytes).whole refl f)
        by_whole true f =
            let c : ReadCommand (tokens_of bytes).items nodes = start_sound (tokens_of bytes).items nodes e in
            spelt bytes c.command (record { whole = f; spelling = c.spelt })

pub some_reader : (read : List ℕ → Result Command Refusal) × IsReader read
some_reader = (λ bytes. (answer bytes).result, record { reads = λ bytes. (answer bytes).reading })
