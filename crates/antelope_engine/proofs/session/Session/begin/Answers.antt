use Rattle.std.proofs.Common.{◌≡◌, IsTrue, None, replicate, sym, subst, refl}
use Rattle.afl_base.specs.Files.{State}
use Rattle.db_model.specs.Sound.{IsSoundDatabase}
use Rattle.session_model.specs.Running.{IsRunning}
use Rattle.session_model.specs.View.{view}
use Rattle.antelope_engine.proofs.Sessions.{sound_start}
use Rattle.antelope_engine.proofs.session.Session.begin.Goals as goal

pub invariant_of-self : goal.invariant_of-self
invariant_of-self g c =
    let old = g.V.Files.state c.self.inside.base.files in
    let new = g.V.Files.state c.open_database.new.files in
    let same : new ≡ old = c.in-Ok-Ok.ensures.frame.same in
    let held = c.open_database.new.held in
    let running = rw c.in-Ok-Ok.field-0-is at c.in-Ok-Ok.ensures.running in
    let sound = rw c.in-Ok-Ok.field-0-is at c.in-Ok-Ok.ensures.sound in
    let base = rw c.in-Ok-Ok.field-0-is at c.in-Ok-Ok.ensures.base in
    let runs : IsRunning new c.open_database.new.tables held (replicate 4 None) = subst (λ (s : State). IsRunning s c.open_database.new.tables held (replicate 4 None)) (sym same) running in
    let is : IsTrue new.tells → IsSoundDatabase (view new.files held (replicate 4 None)) = λ told.
    let before : IsTrue old.tells = subst (λ (s : State). IsTrue s.tells) same told in
    subst (λ (s : State). IsSoundDatabase (view s.files held (replicate 4 None))) (sym same) (sound_start old held (replicate 4 None) (sound before) (base before)) in
    rw c.none_open-self-inside.ensures record { running = λ e. runs; sound = λ e told. is told; going = λ e. refl }

pub returns-in-Ok-Ok-clause-sound : goal.returns-in-Ok-Ok-clause-sound
returns-in-Ok-Ok-clause-sound g c = rw (← c.self.view_is) (rw c.in-Ok-Ok.field-0-is at c.in-Ok-Ok.ensures.sound)

pub returns-in-Ok-Ok-clause-base : goal.returns-in-Ok-Ok-clause-base
returns-in-Ok-Ok-clause-base g c =
    rw (← c.self.view_is) (rw c.none_open-self-inside.ensures (rw c.in-Ok-Ok.ensures.frame.same (rw c.in-Ok-Ok.field-0-is at c.in-Ok-Ok.ensures.base)))

pub returns-in-Ok-Ok-clause-reads : goal.returns-in-Ok-Ok-clause-reads
returns-in-Ok-Ok-clause-reads g c = rw (← c.self.view_is) c.in-Ok-Ok.ensures.reads

pub returns-in-Ok-Err-clause-bad : goal.returns-in-Ok-Err-clause-bad
returns-in-Ok-Err-clause-bad g c = rw (← c.self.view_is) (rw c.in-Ok-Err.field-0-is at c.in-Ok-Err.ensures.bad)

pub returns-in-Ok-Err-clause-reads : goal.returns-in-Ok-Err-clause-reads
returns-in-Ok-Err-clause-reads g c = rw (← c.self.view_is) c.in-Ok-Err.ensures.reads

pub returns-in-Err-clause-reads : goal.returns-in-Err-clause-reads
returns-in-Err-clause-reads g c = rw (← c.self.view_is) c.in-Err.ensures.reads
