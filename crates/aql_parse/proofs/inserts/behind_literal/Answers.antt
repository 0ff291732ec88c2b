use Rattle.std.proofs.Common.{◌-◌, length, take, drop}
use Rattle.std.proofs.lemmas.List.{take_rest}
use Rattle.aql_parse.proofs.Fronts.{token_in_front, keeps_literal}
use Rattle.aql_parse.proofs.GivesUp.{no_literal}
use Rattle.aql_parse.proofs.inserts.behind_literal.Goals as goal

pub returns-in-Some-clause-kept : goal.returns-in-Some-clause-kept
returns-in-Some-clause-kept c =
    let literal = c.past_white-literal.result.now in
    let len = c.in-Some.len in
    let token = c.in-Some.token in
    let behind = take (length literal - len) (drop len literal) in
    let front = token_in_front c.args.bytes.now literal behind token len c.past_white-literal.ensures c.in-Some.ensures.token c.in-Some.ensures.within.0 c.in-Some.ensures.within.1 (take_rest literal len) in
    keeps_literal c.args.kept.now c.push.new.self c.args.bytes.now behind token c.in-Some.ensures.literal c.push.ensures front

pub returns-in-None-clause-none : goal.returns-in-None-clause-none
returns-in-None-clause-none c = no_literal c.args.bytes.now c.past_white-literal.result.now c.past_white-literal.ensures c.in-None.ensures.none
