use Rattle.std.proofs.Common.{◌∙◌, ap, ◌∷◌}
use Rattle.aql_parse.specs.declared.symbols.Symbol.TheVariants as want
use Rattle.aql_parse.proofs.Streaming.{streaming_begins, streaming_more, streaming_stops, streaming_stuck, streaming_lacks, streaming_ends}
use Rattle.aql_parse.proofs.machine.recognize.Goals as goal

pub tokens-init : goal.tokens-init
tokens-init c =
    streaming_begins c.args.bytes.now c.clear.new.self c.push.new.self c.clear-3.new.self c.clear.ensures (c.push.ensures ∙ ap (λ x. want.Command ∷ x) c.clear-2.ensures) c.clear-3.ensures.first c.clear-3.ensures.over

pub returns-then-not-read-clause-wrong : goal.returns-then-not-read-clause-wrong
returns-then-not-read-clause-wrong c =
    streaming_stops c.args.bytes.now c.tokens.at c.in-Token.from c.in-Token.to c.tokens.head c.tokens.stack c.read.new.stack c.tokens.nodes c.read.new.nodes c.in-Token.token c.read.result c.tokens.invariant
    c.in-Token.ensures.from c.in-Token.ensures.token c.in-Token.ensures.to.0 c.in-Token.ensures.to.1 c.read.ensures c.if-not-read.true

pub tokens-preserved : goal.tokens-preserved
tokens-preserved c =
    streaming_more c.args.bytes.now c.tokens.at c.in-Token.from c.in-Token.to c.tokens.head c.keep.new.head c.tokens.stack c.read.new.stack c.tokens.nodes c.read.new.nodes c.in-Token.token c.read.result c.tokens.invariant
    c.in-Token.ensures.from c.in-Token.ensures.token c.in-Token.ensures.to.0 c.in-Token.ensures.to.1 c.read.ensures c.if-not-read.false c.keep.ensures

pub returns-then-finish-clause-head : goal.returns-then-finish-clause-head
returns-then-finish-clause-head c =
    (streaming_ends c.args.bytes.now c.tokens.at c.tokens.head c.tokens.stack c.tokens.nodes c.finish.new.nodes c.finish.result c.tokens.invariant c.in-End.ensures.end c.finish.ensures c.if-finish.true).head_is

pub returns-then-finish-clause-nodes : goal.returns-then-finish-clause-nodes
returns-then-finish-clause-nodes c =
    (streaming_ends c.args.bytes.now c.tokens.at c.tokens.head c.tokens.stack c.tokens.nodes c.finish.new.nodes c.finish.result c.tokens.invariant c.in-End.ensures.end c.finish.ensures c.if-finish.true).nodes_are

pub returns-then-finish-clause-whole : goal.returns-then-finish-clause-whole
returns-then-finish-clause-whole c =
    (streaming_ends c.args.bytes.now c.tokens.at c.tokens.head c.tokens.stack c.tokens.nodes c.finish.new.nodes c.finish.result c.tokens.invariant c.in-End.ensures.end c.finish.ensures c.if-finish.true).whole

pub returns-in-End-clause-wrong : goal.returns-in-End-clause-wrong
returns-in-End-clause-wrong c =
    streaming_lacks c.args.bytes.now c.tokens.at c.tokens.head c.tokens.stack c.tokens.nodes c.finish.new.nodes c.finish.result c.tokens.invariant c.in-End.ensures.end c.finish.ensures c.if-finish.false

pub returns-in-Bad-clause-wrong : goal.returns-in-Bad-clause-wrong
returns-in-Bad-clause-wrong c = streaming_stuck c.args.bytes.now c.tokens.at c.tokens.head c.tokens.stack c.tokens.nodes c.tokens.invariant c.in-Bad.ensures.none c.in-Bad.ensures.bad
