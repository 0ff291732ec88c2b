use Rattle.std.proofs.Common.{◌≡◌, Option, Some, None, refl, sym, ◌∙◌, arith}
use Rattle.padded.proofs.Facts.{some_alike}
use Rattle.run_words.specs.declared.words.Form.{Form}
use Rattle.antelope_run.proofs.call.top.Goals as goal

pub returns-in-Some-clause-runs : goal.returns-in-Some-clause-runs
returns-in-Some-clause-runs g c = λ told form is. rw (some_alike (sym is ∙ sym c.form.ensures.form ∙ c.in-Some.is)) (c.carry-status.ensures.runs told)

pub returns-in-Some-clause-taken : goal.returns-in-Some-clause-taken
returns-in-Some-clause-taken g c = λ form is. rw (some_alike (sym is ∙ sym c.form.ensures.form ∙ c.in-Some.is)) c.carry-status.ensures.taken

pub returns-in-Some-clause-caused : goal.returns-in-Some-clause-caused
returns-in-Some-clause-caused g c = c.carry-status.ensures.caused

pub returns-in-Some-clause-kept : goal.returns-in-Some-clause-kept
returns-in-Some-clause-kept g c = c.carry-status.ensures.kept

pub returns-in-None-clause-runs : goal.returns-in-None-clause-runs
returns-in-None-clause-runs g c = λ told form is.
    let none : ◌≡◌ {A = Option Form} (Some form) None = sym is ∙ sym c.form.ensures.form ∙ c.in-None.is in
    absurd (let n : ⊥ = cc in n)

pub returns-in-None-clause-taken : goal.returns-in-None-clause-taken
returns-in-None-clause-taken g c = λ form is.
    let none : ◌≡◌ {A = Option Form} (Some form) None = sym is ∙ sym c.form.ensures.form ∙ c.in-None.is in
    absurd (let n : ⊥ = cc in n)

pub returns-in-None-clause-caused : goal.returns-in-None-clause-caused
returns-in-None-clause-caused g c = record {
  input = λ e. absurd (omega (arith, e));
  flash = λ e. absurd (omega (arith, e));
  sink = λ e. absurd (omega (arith, e));
}

pub returns-in-None-clause-kept : goal.returns-in-None-clause-kept
returns-in-None-clause-kept g c = record { size = refl; lent = refl; sink_lent = refl }
