use Rattle.std.proofs.Common.{◌≡◌, ◌∙◌}
use Rattle.lvm.proofs.Codes.{verdict-code}
use Rattle.lvm.proofs.code.Code.eval.Goals as goal

pub returns-clause-told : goal.returns-clause-told
returns-clause-told c = λ attributes condition k.
    let e : c.as_slice.result.now ≡ c.args.self.now = c.as_slice.ensures.items ∙ c.self.view_is in
    c.evaluated.ensures ∙ rw e (verdict-code attributes c.args.tuple.now condition c.args.self.now k)
