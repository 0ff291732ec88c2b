use Rattle.std.proofs.Common.{arith, ap, drop, length-drop}
use Rattle.std.specs.List.{prefix_len}
use Rattle.std.proofs.lemmas.List.{take_rest}
use Rattle.db_model.specs.Tokens.{is_white}
use Rattle.aql_lex.proofs.Fronts.{all_pass}
use Rattle.aql_lex.proofs.scan.next_token.Goals as goal

pub returns-then-from-bytes-clause-end : goal.returns-then-from-bytes-clause-end
returns-then-from-bytes-clause-end c =
    let rest = ap (prefix_len is_white) (take_rest c.args.bytes.now c.args.at) in
    all_pass is_white (drop c.args.at c.args.bytes.now) (omega (arith, rest, c.white_len.ensures.len, c.if-from-bytes.true, length-drop c.args.at c.args.bytes.now))
