use Rattle.std.proofs.Common.{drop, ap, ◌∙◌}
use Rattle.std.proofs.lemmas.List.{take_rest}
use Rattle.aql_lex.proofs.expected.past_white.Goals as goal

pub returns : goal.returns
returns c = let bytes = c.args.bytes.now in take_rest bytes c.white_len.result ∙ ap (λ n. drop n bytes) c.white_len.ensures.len
