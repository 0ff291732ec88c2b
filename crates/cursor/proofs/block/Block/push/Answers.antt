use Rattle.std.proofs.Common.{rules, ◌≡◌, ◌∙◌, ◌-◌, ℕ, ℤ, Some, ap, arith, refl, subst, sym}
use Rattle.padded.proofs.Facts.{none_is_some, some_same}
use Rattle.cursor.specs.declared.block.Block.{Block}
use Rattle.cursor.specs.declared.marks.Marks.{Marks}
use Rattle.cursor.specs.Marks.{MayHave}
use Rattle.cursor.proofs.Blocks.{up_to}
use Rattle.cursor.proofs.block.Block.push.Goals as goal
use Rattle.cursor.proofs.block.Block.push.Goals.{in-Some, in-None}

pub returns-clause-own : goal.returns-clause-own
returns-clause-own c = search rules

pub returns-clause-others : goal.returns-clause-others
returns-clause-others c = search rules

pub returns-clause-marked : goal.returns-clause-marked
returns-clause-marked c = λ marked nth number less held.
    let old = c.args.self.now in
    let new = c.match-number.self in
    let ends : new.end ≡ old.end = elim c.match-number.branch [ in-Some w ↦ ap (λ (b : Block). b.end) w.self-is | in-None w ↦ ap (λ (b : Block). b.end) w.self-is ] in
    let begins : new.begin ≡ old.begin = elim c.match-number.branch [ in-Some w ↦ ap (λ (b : Block). b.begin) w.self-is | in-None w ↦ ap (λ (b : Block). b.begin) w.self-is ] in
    let more : MayHave old.marks nth number → MayHave new.marks nth number = elim c.match-number.branch [
      | in-Some w ↦ λ may. subst (λ (m : Marks). MayHave m nth number) (sym (ap (λ (b : Block). b.marks) w.self-is)) (w.set.ensures.others number nth may)
      | in-None w ↦ λ may. subst (λ (m : Marks). MayHave m nth number) (sym (ap (λ (b : Block). b.marks) w.self-is)) may
    ] in
    let own : c.args.number.now ≡ Some number → MayHave new.marks (old.end - old.begin) number = elim c.match-number.branch [
      | in-Some w ↦ λ is. subst (λ (m : Marks). MayHave m (old.end - old.begin) number) (sym (ap (λ (b : Block). b.marks) w.self-is))
          (subst (λ (n : ℕ). MayHave w.set.new.self n number) c.from-nth.ensures
          (subst (λ (z : ℤ). MayHave w.set.new.self c.from-nth.result z) (some_same w.in-Some.number number (sym w.in-Some.is ∙ is)) w.set.ensures.own))
      | in-None w ↦ λ is. absurd (none_is_some w.in-None.is is)
    ] in
    up_to (λ (n : ℕ). n ≡ nth → MayHave new.marks n number) (old.end - old.begin) nth
    (λ before _. more (marked nth number before (sym (returns-clause-others c nth before) ∙ held)))
    (λ here. own (sym (rw here at (returns-clause-own c)) ∙ held))
    (omega (arith, less, ends, begins, c.requires.order)) refl
