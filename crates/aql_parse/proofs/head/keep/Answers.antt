use Rattle.std.proofs.Common.{◌∙◌, arith}
use Rattle.aql_parse.proofs.Streaming.{kept_within, kept_beyond}
use Rattle.aql_parse.proofs.head.keep.Goals as goal

pub returns-then-len-lt42 : goal.returns-then-len-lt42
returns-then-len-lt42 c = c.push.ensures ∙ kept_within c.args.head.now c.args.token.now (omega (arith, c.len.ensures.value, c.if-len-lt42.true))

pub returns-else-len-lt42 : goal.returns-else-len-lt42
returns-else-len-lt42 c = kept_beyond c.args.head.now c.args.token.now (omega (arith, c.len.ensures.value, c.len.ensures.few, c.if-len-lt42.false))
