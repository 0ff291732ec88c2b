use Rattle.std.proofs.Common.{◌-◌, ◌∙◌, sym, length, take, drop}
use Rattle.std.proofs.lemmas.List.{take_rest}
use Rattle.aql_parse.proofs.Fronts.{token_in_front, keeps_negative}
use Rattle.aql_parse.proofs.GivesUp.{no_number_there, other_literal}
use Rattle.aql_parse.proofs.inserts.behind_negative.Goals as goal

pub returns-clause-kept : goal.returns-clause-kept
returns-clause-kept c =
    let digits = c.past_white-digits.result.now in
    let found = c.in-Some.found in
    let behind = take (length digits - found.1) (drop found.1 digits) in
    let front = token_in_front c.args.bytes.now digits behind found.0 found.1 c.past_white-digits.ensures c.in-Some.ensures.token c.in-Some.ensures.within.0 c.in-Some.ensures.within.1 (take_rest digits found.1) in
    keeps_negative c.args.kept.now c.push.new.self c.args.bytes.now behind found.0 c.in-Some-negated.number (sym c.negated.ensures ∙ c.in-Some-negated.is) c.push.ensures front

pub returns-in_default-clause-none : goal.returns-in_default-clause-none
returns-in_default-clause-none c = no_number_there c.args.bytes.now c.past_white-digits.result.now c.past_white-digits.ensures c.in_default.ensures.none

pub returns-in_default-negated-clause-none : goal.returns-in_default-negated-clause-none
returns-in_default-negated-clause-none c =
    let found = c.in-Some.found in
    other_literal c.args.bytes.now c.past_white-digits.result.now found.0 found.1 c.past_white-digits.ensures c.in-Some.ensures.token (sym c.negated.ensures ∙ c.in_default-negated.is)
