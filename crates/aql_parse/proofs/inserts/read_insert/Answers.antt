use Rattle.std.proofs.Common.{◌∙◌, ap, sym}
use Rattle.aql_parse.specs.Built.{built_insert, made}
use Rattle.aql_parse.proofs.Fronts.{is_made, is_never_lost}
use Rattle.aql_parse.proofs.inserts.read_insert.Goals as goal

pub unreachable-requires : goal.unreachable-requires
unreachable-requires c =
    let lost = ap (λ b. made b c.insert_into.new.command) c.if-not-insert_into.true in
    let read = ap (λ ts. built_insert ts c.in-Some.relation) c.as_slice.ensures.items in
    is_never_lost c.args.bytes.now c.in-Some.relation c.keep_insert.new.kept c.in-Some.ensures.kept (sym lost ∙ c.insert_into.ensures ∙ read)

pub returns-clause-spelt : goal.returns-clause-spelt
returns-clause-spelt c =
    let there = ap (λ b. made b c.insert_into.new.command) c.if-not-insert_into.false in
    let read = ap (λ ts. built_insert ts c.in-Some.relation) c.as_slice.ensures.items in
    is_made c.args.bytes.now c.in-Some.relation c.keep_insert.new.kept c.insert_into.new.command c.in-Some.ensures.kept (sym there ∙ c.insert_into.ensures ∙ read)
