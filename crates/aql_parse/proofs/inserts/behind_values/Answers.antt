use Rattle.std.proofs.Common.{refl, sym, arith, ◌∙◌}
use Rattle.db_model.specs.declared.tokens.Sign.TheVariants.{Comma, RightBracket}
use Rattle.aql_parse.proofs.Fronts.{sign_in_front, listing_begins, listing_room, listing_more, listing_ends}
use Rattle.aql_parse.proofs.GivesUp.{read_begins, read_more, no_list_full, no_list_value, no_list_sign}
use Rattle.aql_parse.specs.Inserts.{value_token}
use Rattle.aql_parse.proofs.inserts.behind_values.Goals as goal

pub values-init : goal.values-init
values-init c = (listing_begins c.args.bytes.now c.args.kept.now c.requires, read_begins c.args.bytes.now c.args.kept.now c.requires)

pub behind_value-requires : goal.behind_value-requires
behind_value-requires c = let few = listing_room c.args.bytes.now c.values.left.now c.values.kept c.values.invariant.0 in omega (arith, few)

pub returns-in-Some-behind_byte-clause-kept : goal.returns-in-Some-behind_byte-clause-kept
returns-in-Some-behind_byte-clause-kept c =
    let bytes = c.args.bytes.now in
    let left = c.values.left.now in
    let mid = c.in-Some.behind.now in
    let end = c.in-Some-behind_byte.end.now in
    let bracket = sign_in_front mid c.past_white-sign.result.now end 41 RightBracket c.past_white-sign.ensures c.in-Some-behind_byte.ensures.behind refl in
    listing_ends bytes left mid end c.values.kept c.behind_value.new.kept c.values.invariant.0 (λ e. c.if-len-eq8.false (c.len.ensures.value ∙ e)) c.in-Some.ensures.kept bracket

pub values-preserved : goal.values-preserved
values-preserved c =
    let bytes = c.args.bytes.now in
    let left = c.values.left.now in
    let mid = c.in-Some.behind.now in
    let next = c.in-Some-behind_byte-2.more.now in
    let comma = sign_in_front mid c.past_white-sign.result.now next 44 Comma c.past_white-sign.ensures c.in-Some-behind_byte-2.ensures.behind refl in
    let value = c.in-Some.ensures.kept in (
      listing_more bytes left mid next c.values.kept c.behind_value.new.kept c.values.invariant.0 (λ e. c.if-len-eq8.false (c.len.ensures.value ∙ e)) value comma,
      read_more bytes left mid next c.values.kept c.behind_value.new.kept (value_token value.value) value.value value.front.tokens c.values.invariant.1 value.kept value.front.item value.front.front comma,
    )

pub returns-then-len-eq8-clause-none : goal.returns-then-len-eq8-clause-none
returns-then-len-eq8-clause-none c = no_list_full c.args.bytes.now c.values.left.now c.values.kept c.values.invariant.1 (sym c.len.ensures.value ∙ c.if-len-eq8.true)

pub returns-in_default-clause-none : goal.returns-in_default-clause-none
returns-in_default-clause-none c = no_list_value c.args.bytes.now c.values.left.now c.values.kept c.values.invariant.1 c.in_default.ensures.none

pub returns-in_default-behind_byte-2-clause-none : goal.returns-in_default-behind_byte-2-clause-none
returns-in_default-behind_byte-2-clause-none c =
    let value = c.in-Some.ensures.kept in
    no_list_sign c.args.bytes.now c.values.left.now c.in-Some.behind.now c.past_white-sign.result.now c.values.kept value.value value.front.tokens c.values.invariant.1 value.front.item value.front.front
    c.past_white-sign.ensures c.in_default-behind_byte.ensures.none c.in_default-behind_byte-2.ensures.none
