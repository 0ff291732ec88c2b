use Rattle.std.proofs.Common.{◌≡◌, ◌+◌, ◌≤◌, ◌<◌, ◌++◌, length, take, sym, ap, ◌∙◌, arith}
use Rattle.std.proofs.lemmas.Bool.Decides.{nat_tests}
use Rattle.std.proofs.lemmas.List.{take_all}
use Rattle.run_script.proofs.Gathering.{all_come, first_kept, more_come}
use Rattle.run_script.proofs.piece.Piece.keep_first.Goals as goal

pub returns-then-room-bytes-clause-bytes : goal.returns-then-room-bytes-clause-bytes
returns-then-room-bytes-clause-bytes c = λ t is.
    let room = c.remaining_capacity-room.result in
    let bytes = c.args.bytes.now in
    let e : c.remaining_capacity-room.result + length (take 512 t) ≡ 512 = omega (arith, c.remaining_capacity-room.ensures, ap length is) in
    c.append.ensures.bytes ∙ ap (λ ys. ys ++ take room bytes) is ∙ sym (first_kept 512 room t bytes e)

pub returns-then-room-bytes-clause-long : goal.returns-then-room-bytes-clause-long
returns-then-room-bytes-clause-long c = λ t is long.
    let e : c.remaining_capacity-room.result + length (take 512 t) ≡ 512 = omega (arith, c.remaining_capacity-room.ensures, ap length is) in
    let over : c.remaining_capacity-room.result < length c.args.bytes.now = grind (arith, nat_tests, c.if-room-bytes.true) in
    c.append.ensures.long ∙ more_come c.remaining_capacity-room.result t c.args.bytes.now e over

pub returns-else-room-bytes-clause-bytes : goal.returns-else-room-bytes-clause-bytes
returns-else-room-bytes-clause-bytes c = λ t is.
    let room = c.remaining_capacity-room.result in
    let bytes = c.args.bytes.now in
    let e : c.remaining_capacity-room.result + length (take 512 t) ≡ 512 = omega (arith, c.remaining_capacity-room.ensures, ap length is) in
    let few : length c.args.bytes.now ≤ c.remaining_capacity-room.result = grind (arith, nat_tests, c.if-room-bytes.false) in
    c.append-else-room-bytes.ensures.bytes ∙ ap (λ ys. ys ++ bytes) is ∙ ap (λ ys. take 512 t ++ ys) (sym (take_all room bytes few)) ∙ sym (first_kept 512 room t bytes e)

pub returns-else-room-bytes-clause-long : goal.returns-else-room-bytes-clause-long
returns-else-room-bytes-clause-long c = λ t is long.
    let e : c.remaining_capacity-room.result + length (take 512 t) ≡ 512 = omega (arith, c.remaining_capacity-room.ensures, ap length is) in
    let few : length c.args.bytes.now ≤ c.remaining_capacity-room.result = grind (arith, nat_tests, c.if-room-bytes.false) in
    c.append-else-room-bytes.ensures.long ∙ long ∙ all_come c.remaining_capacity-room.result t c.args.bytes.now e few
