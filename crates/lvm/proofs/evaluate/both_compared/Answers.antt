use Rattle.std.proofs.Common.{rules, ◌≡◌, Bool, false, ◌&&◌, sym, ap, ◌∙◌}
use Rattle.lvm.proofs.Compared.{both_of}
use Rattle.lvm.proofs.evaluate.both_compared.Goals as goal

pub returns-then-compares_attribute : goal.returns-then-compares_attribute
returns-then-compares_attribute g c =
    let second = c.compares_attribute.ensures c.if-compares_attribute.true (g.V.Values.values c.args.values.now) in
    let none : c.in_ok-truth.truth ≡ false = search rules in
    ap (λ (t : Bool). t && second.0) (sym none)
    ∙ sym (both_of c.args.instructions.now c.left-item.result c.right-item.result c.compare-item.result c.next_left-item.result c.next_right-item.result c.next_compare-item.result c.last-item.result (g.V.Values.values c.args.values.now)
    c.in_ok-truth.truth second.0 c.in-len7.len_at_least c.in-len7.len_below c.left-item.is c.right-item.is c.compare-item.is c.next_left-item.is c.next_right-item.is c.next_compare-item.is c.last-item.is
    (search rules) (λ s. c.in_ok-truth.ensures s) (λ s. second.1 s))

pub returns-then-truth : goal.returns-then-truth
returns-then-truth g c =
    ap (λ (t : Bool). t && c.in_ok-next_truth.next_truth) (sym c.if-truth.true)
    ∙ sym (both_of c.args.instructions.now c.left-item.result c.right-item.result c.compare-item.result c.next_left-item.result c.next_right-item.result c.next_compare-item.result c.last-item.result (g.V.Values.values c.args.values.now)
    c.in_ok-truth.truth c.in_ok-next_truth.next_truth c.in-len7.len_at_least c.in-len7.len_below c.left-item.is c.right-item.is c.compare-item.is c.next_left-item.is c.next_right-item.is c.next_compare-item.is c.last-item.is
    (search rules) (λ s. c.in_ok-truth.ensures s) (λ s. c.in_ok-next_truth.ensures s))

pub returns-else-truth : goal.returns-else-truth
returns-else-truth g c =
    c.if-truth.false
    ∙ ap (λ (t : Bool). t && c.in_ok-next_truth.next_truth) (sym c.if-truth.false)
    ∙ sym (both_of c.args.instructions.now c.left-item.result c.right-item.result c.compare-item.result c.next_left-item.result c.next_right-item.result c.next_compare-item.result c.last-item.result (g.V.Values.values c.args.values.now)
    c.in_ok-truth.truth c.in_ok-next_truth.next_truth c.in-len7.len_at_least c.in-len7.len_below c.left-item.is c.right-item.is c.compare-item.is c.next_left-item.is c.next_right-item.is c.next_compare-item.is c.last-item.is
    (search rules) (λ s. c.in_ok-truth.ensures s) (λ s. c.in_ok-next_truth.ensures s))
