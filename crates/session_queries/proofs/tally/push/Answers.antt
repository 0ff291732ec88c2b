use Rattle.std.proofs.Common.{rules, arith, ◌≡◌, Bool, true, subst, sym, ◌∙◌, ◌++◌, ◌∷◌, []}
use Rattle.aggregate.specs.Fold.{Folds}
use Rattle.session_queries.specs.Folded.{taken_by}
use Rattle.session_queries.proofs.tally.push.Goals as goal

pub returns-then-tally : goal.returns-then-tally
returns-then-tally c =
    let h = c.push.ensures in
    let was_open : c.args.tally.now.is_open ≡ true = search rules in
    record {
      agg = h.agg;
      stands = λ passes s. record {
        wants = λ e. h.wanted ∙ s.wants was_open;
        passed = λ e. h.passes ∙ s.passed was_open;
        few = λ e. s.few was_open;
        closed = λ e. absurd (cc);
      };
      open_only = λ e. was_open;
      pushed = omega (arith, h.pushed);
      told = λ all so_far folds.
          subst (λ (b : Bool). Folds all (taken_by b (so_far ++ c.args.value.now ∷ [])) c.push.new.self) (sym was_open)
          (h.told all so_far (subst (λ (b : Bool). Folds all (taken_by b so_far) c.args.tally.now.fold) was_open folds));
    }
