use Rattle.std.proofs.Common.{refl, rules, arith}
use Rattle.antelope_run.proofs.carrying.plan.Goals as goal

pub returns-in-Ok-clause-does : goal.returns-in-Ok-clause-does
returns-in-Ok-clause-does g c = λ told. (λ fine. refl, c.in-Ok.ensures.written told)

pub returns-in-Err-clause-does : goal.returns-in-Err-clause-does
returns-in-Err-clause-does g c = λ told. (λ fine. refl, c.in-Err.ensures.failed told)

pub returns-in-Ok-clause-frame : goal.returns-in-Ok-clause-frame
returns-in-Ok-clause-frame g c = record {
  halts = tt;
  store = search rules;
  borrows = search rules;
  lent = search rules;
  cause = λ inputs. record {
    files_later = omega arith;
    input = λ e. absurd (let n : ⊥ = cc in n);
    flash = λ e. absurd (let n : ⊥ = cc in n);
    sink = λ e. absurd (let n : ⊥ = cc in n);
  };
}

pub returns-in-Err-clause-frame : goal.returns-in-Err-clause-frame
returns-in-Err-clause-frame g c = record {
  halts = tt;
  store = search rules;
  borrows = search rules;
  lent = search rules;
  cause = λ inputs. record {
    files_later = omega arith;
    input = λ e. absurd (let n : ⊥ = cc in n);
    flash = λ e. absurd (let n : ⊥ = cc in n);
    sink = λ e. search rules;
  };
}
