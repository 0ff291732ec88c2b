use Rattle.std.proofs.Common.{ℕ, sym, subst, take}
use Rattle.std.specs.Str.Parse.{AllDigits}
use Rattle.aql_lex.proofs.Digits.{run_digits}
use Rattle.aql_lex.proofs.scan.number_at.Goals as goal

pub number_token-requires : goal.number_token-requires
number_token-requires c = subst (λ (n : ℕ). AllDigits 10 (take n c.args.bytes.now)) (sym c.digits_len-len.ensures.len) (run_digits c.args.bytes.now)
