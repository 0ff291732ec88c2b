use Rattle.std.proofs.Common.{◌∙◌, ap, subst, arith, length}
use Rattle.db_model.specs.Cond.{IsCondition}
use Rattle.db_model.specs.Spelling.{IsSpelt, nodes_of}
use Rattle.db_model.specs.Tokens.{tokens_of}
use Rattle.db_model.specs.declared.commands.Command.{Command}
use Rattle.aql_parse.specs.Built.{made}
use Rattle.aql_parse.proofs.ReadRight.{too_much, is_built, is_there, is_it, spelt_condition}
use Rattle.aql_parse.proofs.reading.read_by_machine.Goals as goal

pub returns-then-nodes-clause-reading : goal.returns-then-nodes-clause-reading
returns-then-nodes-clause-reading c = too_much c.args.bytes.now c.recognize_alone.new.nodes c.in_default.ensures.whole c.in_default.ensures.nodes c.if-nodes.true

pub unreachable-requires : goal.unreachable-requires
unreachable-requires c =
    let built = is_built c.args.bytes.now c.as_slice.result.now c.recognize_alone.new.nodes (c.as_slice.ensures.items ∙ c.in_default.ensures.head) c.in_default.ensures.whole c.in_default.ensures.nodes c.if-nodes.false in
    is_there c.args.bytes.now c.as_slice.result.now c.recognize_alone.new.nodes (made c.command_of.result c.command_of.new.command) built c.command_of.ensures (ap (λ b. made b c.command_of.new.command) c.if-not-command_of.true)

pub returns-clause-reading : goal.returns-clause-reading
returns-clause-reading c =
    let built = is_built c.args.bytes.now c.as_slice.result.now c.recognize_alone.new.nodes (c.as_slice.ensures.items ∙ c.in_default.ensures.head) c.in_default.ensures.whole c.in_default.ensures.nodes c.if-nodes.false in
    let same = is_it c.args.bytes.now c.as_slice.result.now c.recognize_alone.new.nodes c.command_of.new.command (made c.command_of.result c.command_of.new.command) built c.command_of.ensures (ap (λ b. made b c.command_of.new.command) c.if-not-command_of.false) in
    (subst (λ (x : Command). IsSpelt x c.args.bytes.now) same built.spelt, omega (arith, built.few, ap (λ (x : Command). length (nodes_of x)) same))

pub returns-clause-condition : goal.returns-clause-condition
returns-clause-condition c =
    let built = is_built c.args.bytes.now c.as_slice.result.now c.recognize_alone.new.nodes (c.as_slice.ensures.items ∙ c.in_default.ensures.head) c.in_default.ensures.whole c.in_default.ensures.nodes c.if-nodes.false in
    let same = is_it c.args.bytes.now c.as_slice.result.now c.recognize_alone.new.nodes c.command_of.new.command (made c.command_of.result c.command_of.new.command) built c.command_of.ensures (ap (λ b. made b c.command_of.new.command) c.if-not-command_of.false) in
    subst (λ (x : Command). IsCondition (nodes_of x)) same (spelt_condition c.conditions_are_read_back.ensures.back built.command (tokens_of c.args.bytes.now).items built.spelt.spelling)
