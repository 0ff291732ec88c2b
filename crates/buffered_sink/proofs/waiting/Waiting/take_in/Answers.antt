use Rattle.std.proofs.Common.{◌++◌, ◌∙◌, ap, arith, length, length-take-le}
use Rattle.buffered_sink.proofs.Cells.{range_more}
use Rattle.buffered_sink.proofs.waiting.Waiting.take_in.Goals as goal

pub returns-clause-bytes : goal.returns-clause-bytes
returns-clause-bytes c =
    let own = c.self.inside in
    let n = c.min-taken.result in
    let put = c.copy_from_slice.new.self in
    let many = length-take-le n c.args.given.now (omega (arith, c.min-taken.ensures)) in
    let long = ap length c.copy_from_slice.ensures.after in
    range_more own.bytes put own.from own.to n _ c.self.invariant.0 (omega (arith, c.self.told, c.self.invariant.1)) (omega (arith, many, long)) ∙ ap (λ bytes. bytes ++ put) (ap (λ k. k.bytes) c.self.view_is) ∙ ap (λ bytes. c.args.self.now.bytes ++ bytes) c.copy_from_slice.ensures.after
