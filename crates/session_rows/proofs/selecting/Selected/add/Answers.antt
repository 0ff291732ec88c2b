use Rattle.std.proofs.Common.{ℕ, ◌+◌, ◌<◌, ◌≤◌, subst, sym}
use Rattle.session_rows.specs.Marking.{IsMarkedFront}
use Rattle.session_rows.proofs.Fronts.{front_counted, front_kept}
use Rattle.session_rows.proofs.selecting.Selected.add.Goals as goal

pub returns-then-len-lt29-clause-front : goal.returns-then-len-lt29-clause-front
returns-then-len-lt29-clause-front c = λ slots left up f.
    subst (λ (n : ℕ). IsMarkedFront (record { count = c.args.self.now.count + 1; first = c.push.new.self; end = n + 1 }) slots left) (sym c.number.ensures.value)
    (front_kept c.args.self.now c.args.slot c.push.new.self slots left (subst (λ n. n < 29) c.len.ensures.value c.if-len-lt29.true) c.push.ensures up f)

pub returns-else-len-lt29-clause-front : goal.returns-else-len-lt29-clause-front
returns-else-len-lt29-clause-front c = λ slots left up f.
    subst (λ (n : ℕ). IsMarkedFront (record { count = c.args.self.now.count + 1; first = c.args.self.now.first; end = n + 1 }) slots left) (sym c.number.ensures.value)
    (front_counted c.args.self.now c.args.slot slots left (subst (λ n. 29 ≤ n) c.len.ensures.value c.if-len-lt29.false) up f)
