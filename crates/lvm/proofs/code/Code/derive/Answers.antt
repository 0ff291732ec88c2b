use Rattle.std.proofs.Common.{◌≡◌, ◌∙◌, rules}
use Rattle.lvm.proofs.Codes.{range-code}
use Rattle.lvm.proofs.Within.{within-range_of}
use Rattle.lvm.proofs.code.Code.derive.Goals as goal

pub returns-clause-range : goal.returns-clause-range
returns-clause-range c = λ attributes condition k.
    let e : c.as_slice.result.now ≡ c.args.self.now = c.as_slice.ensures.items ∙ c.self.view_is in
    c.derived.ensures ∙ rw e (range-code attributes c.args.attribute condition c.args.self.now k)

pub returns-clause-within : goal.returns-clause-within
returns-clause-within c = λ attributes condition k tuple z s v l h.
    rw (returns-clause-range c attributes condition k) (within-range_of attributes tuple c.args.attribute condition z l h v (search (rules, s)))
