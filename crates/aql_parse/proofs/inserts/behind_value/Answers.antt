use Rattle.std.proofs.Common.{refl}
use Rattle.db_model.specs.declared.tokens.Sign.TheVariants.{Minus}
use Rattle.aql_parse.proofs.Fronts.{sign_in_front, keeps_minus}
use Rattle.aql_parse.specs.Inserts.{HasNoLiteral, HasNoValue}
use Rattle.aql_parse.proofs.GivesUp.{after_none, no_value, no_negative}
use Rattle.aql_parse.proofs.inserts.behind_value.Goals as goal

pub returns-clause-kept : goal.returns-clause-kept
returns-clause-kept c =
    let digits = c.in-Some.digits.now in
    let behind = c.in-Some-behind_negative.behind.now in
    let front = sign_in_front c.args.bytes.now c.past_white-sign.result.now digits 45 Minus c.past_white-sign.ensures c.in-Some.ensures.behind refl in
    keeps_minus c.args.kept.now c.behind_negative.new.kept c.args.bytes.now digits behind front c.in-Some-behind_negative.ensures.kept

pub returns-in_default-behind_negative-clause-none : goal.returns-in_default-behind_negative-clause-none
returns-in_default-behind_negative-clause-none c =
    let digits = c.in-Some.digits.now in
    let front = sign_in_front c.args.bytes.now c.past_white-sign.result.now digits 45 Minus c.past_white-sign.ensures c.in-Some.ensures.behind refl in
    no_negative c.args.bytes.now digits front c.in_default-behind_negative.ensures.none

pub returns-in_default-clause-none : goal.returns-in_default-clause-none
returns-in_default-clause-none c =
    let bytes = c.args.bytes.now in
    after_none c.behind_literal.result (HasNoLiteral bytes) (HasNoValue bytes) (no_value bytes c.past_white-sign.result.now c.past_white-sign.ensures c.in_default.ensures.none) c.behind_literal.ensures.none
