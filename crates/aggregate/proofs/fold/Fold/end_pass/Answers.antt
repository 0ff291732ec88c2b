use Rattle.std.proofs.Common.{rules, arith, sym, ◌∙◌}
use Rattle.aggregate.proofs.Sound.{after-first, after-later, few-left}
use Rattle.aggregate.proofs.fold.Fold.end_pass.Goals as goal
use Rattle.aggregate.proofs.fold.Fold.end_pass.Goals.{in-Gathering, in-Searching, in-Done}

pub invariant_of-self : goal.invariant_of-self
invariant_of-self c = elim c.match-self.branch [
  | in-Gathering w ↦ rw w.self-inside-is (
      after-first c.self.inside.agg c.self.inside.passes c.self.inside.pushed w.in-Gathering.summary _
      (rw w.in-Gathering.is at c.self.invariant.stage_is) w.after_first-self-inside.ensures.sound)
  | in-Searching w ↦ rw w.self-inside-is (
      after-later c.self.inside.agg c.self.inside.passes c.self.inside.pushed w.in-Searching.search _
      (rw w.in-Searching.is at c.self.invariant.stage_is) w.after_later-self-inside.ensures.sound)
  | in-Done w ↦ rw w.self-inside-is (rw w.in-Done.is (record { few = c.self.invariant.few; pushed = omega arith; stage_is = tt }))
]

pub returns-clause-few : goal.returns-clause-few
returns-clause-few c = λ h.
    few-left c.match-self.self-inside.agg c.match-self.self-inside.passes 0 c.match-self.self-inside.stage (invariant_of-self c) (sym c.is_open.ensures ∙ search (rules, h))
