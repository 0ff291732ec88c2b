use Rattle.std.proofs.Common.{arith, length, sym}
use Rattle.std.proofs.lemmas.List.{take_rest}
use Rattle.padded.proofs.Facts.{yes_no}
use Rattle.stored_survey.proofs.NameFronts.{front_shown, none_begun, none_long, none_whole, some_long, some_whole}
use Rattle.stored_survey.proofs.grown.name_begun.Goals as goal

pub returns-then-not-is_zeros-clause-none : goal.returns-then-not-is_zeros-clause-none
returns-then-not-is_zeros-clause-none c =
    let bytes = c.args.bytes.now in
    λ name e. yes_no _ (front_shown bytes name c.requires e).1 (sym (rw (take_rest bytes (length c.up_to_zero-front.result.now), c.up_to_zero-front.ensures.front) at c.if-not-is_zeros.ensures))

pub returns-then-front-bytes-clause-some : goal.returns-then-front-bytes-clause-some
returns-then-front-bytes-clause-some c =
    let bytes = c.args.bytes.now in
    some_whole bytes c.up_to_zero-front.result.now c.requires c.up_to_zero-front.ensures.front c.new.result
    (sym (rw (take_rest bytes (length c.up_to_zero-front.result.now)) at c.if-not-is_zeros.ensures)) c.new.ensures.name c.new.ensures.some

pub returns-then-front-bytes-clause-none : goal.returns-then-front-bytes-clause-none
returns-then-front-bytes-clause-none c =
    none_whole c.args.bytes.now c.up_to_zero-front.result.now c.requires c.up_to_zero-front.ensures.front c.new.result c.if-front-bytes.true c.new.ensures.none

pub returns-then-front-gt15-clause-none : goal.returns-then-front-gt15-clause-none
returns-then-front-gt15-clause-none c = none_long c.args.bytes.now c.up_to_zero-front.result.now c.requires c.up_to_zero-front.ensures.front c.if-front-gt15.true

pub returns-clause-some : goal.returns-clause-some
returns-clause-some c =
    some_long c.args.bytes.now c.up_to_zero-front.result.now c.requires c.up_to_zero-front.ensures.front (omega (arith, c.if-front-bytes.false)) (omega (arith, c.if-front-gt15.false)) _
    c.put_bytes.ensures c.new-2.result c.new-2.ensures.name c.new-2.ensures.some

pub returns-clause-none : goal.returns-clause-none
returns-clause-none c =
    none_begun c.args.bytes.now c.up_to_zero-front.result.now c.requires c.up_to_zero-front.ensures.front (omega (arith, c.if-front-bytes.false)) (omega (arith, c.if-front-gt15.false)) _
    c.put_bytes.ensures c.new-2.result c.new-2.ensures.none
