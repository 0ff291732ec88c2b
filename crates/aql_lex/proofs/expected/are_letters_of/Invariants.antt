use Rattle.std.proofs.Common.{◌≡◌, map, take}
use Rattle.std.specs.Char.{to_ascii_lowercase}
use Rattle.aql_lex.proofs.expected.are_letters_of.Given as goal

abbrev pub invariant-loop-i : goal.invariant-loop-i
invariant-loop-i l = map to_ascii_lowercase (take l.i l.bytes) ≡ map to_ascii_lowercase (take l.i l.text)
