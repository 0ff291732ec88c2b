use Rattle.std.proofs.Common.{◌≡◌, ◌<◌, ◌++◌, length, take, ap, ◌∙◌, arith}
use Rattle.std.specs.Prelude.{nat_lt}
use Rattle.std.proofs.lemmas.Bool.Decides.{nat_tests}
use Rattle.db_model.specs.Script.{past_white}
use Rattle.run_script.proofs.Gathering.{kept_begun, kept_first}
use Rattle.run_script.proofs.piece.Piece.keep.Goals as goal

pub returns-then-is_empty-clause-gathers : goal.returns-then-is_empty-clause-gathers
returns-then-is_empty-clause-gathers c = λ p g.
    let v = c.args.self.now in
    let k = c.keep_first.ensures in
    let none : length c.args.self.now.bytes.items ≡ 0 = grind (arith, nat_tests, c.if-is_empty.ensures) in
    kept_first p c.keep_first.new.self.bytes.items c.keep_first.new.self.long c.args.bytes.now v.bytes.items v.long g none
    (k.bytes (past_white p) g.bytes_are ∙ ap (λ ys. take 512 (past_white p ++ ys)) c.past_white.ensures)
    (k.long (past_white p) g.bytes_are g.long_is ∙ ap (λ ys. nat_lt 512 (length (past_white p ++ ys))) c.past_white.ensures)

pub returns-else-is_empty-clause-gathers : goal.returns-else-is_empty-clause-gathers
returns-else-is_empty-clause-gathers c = λ p g.
    let v = c.args.self.now in
    let k = c.keep_first-else-is_empty.ensures in
    let some : 0 < length c.args.self.now.bytes.items = grind (arith, nat_tests, c.if-is_empty.ensures) in
    kept_begun p c.keep_first-else-is_empty.new.self.bytes.items c.keep_first-else-is_empty.new.self.long c.args.bytes.now v.bytes.items v.long g some
    (k.bytes (past_white p) g.bytes_are) (k.long (past_white p) g.bytes_are g.long_is)
