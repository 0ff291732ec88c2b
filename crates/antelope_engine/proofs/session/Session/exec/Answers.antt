use Rattle.std.proofs.Common.{◌≡◌, Bool, false, IsTrue, refl, ap, sym, subst, ◌∙◌}
use Rattle.antelope_engine.specs.Seen.{Seen}
use Rattle.session_model.specs.declared.step.Step.{Step}
use Rattle.antelope_engine.proofs.Asked.{flash_stop, kept_stop, sink_stop}
use Rattle.antelope_engine.proofs.Lacking.{both_there, pages_lack}
use Rattle.antelope_engine.proofs.Sessions.{is_session, sound_done, sound_step}
use Rattle.antelope_engine.proofs.session.Session.exec.Goals as goal

pub invariant_of-self : goal.invariant_of-self
invariant_of-self g c =
    let e = c.in-Ok.ensures.executed in
    let kept : c.self.inside.lost ≡ false = c.self.invariant.going (ap (λ (s : Seen g.row.V.Denot). s.stopped) c.self.view_is ∙ c.requires.running) in
    is_session g.V.Files c.carry_out.new.base c.self.inside.stopped c.self.inside.lost e.running
    (λ told.
    let told_before : IsTrue (g.V.Files.state c.self.inside.base.files).tells = subst (λ (b : Bool). IsTrue b) e.tells told in
    sound_done _ _ c.args.command.now c.in-Ok.step _ _ c.hold_names.ensures (c.self.invariant.sound kept told_before) (e.done told_before))
    c.self.invariant.going

pub returns-in-Ok-clause-done : goal.returns-in-Ok-clause-done
returns-in-Ok-clause-done g c = rw (← c.self.view_is) c.in-Ok.ensures.executed.done

pub returns-in-Ok-clause-space : goal.returns-in-Ok-clause-space
returns-in-Ok-clause-space g c = rw (← c.self.view_is) (pages_lack _ _ _ _ _ _ _ c.in-Ok.step _ _ c.in-Ok.ensures.executed)

pub returns-in-Ok-clause-spares : goal.returns-in-Ok-clause-spares
returns-in-Ok-clause-spares g c = rw (← c.self.view_is) c.in-Ok.ensures.executed.spares

pub returns-in-Ok-clause-silent : goal.returns-in-Ok-clause-silent
returns-in-Ok-clause-silent g c = both_there c.in-Ok.step _ _ c.in-Ok.ensures.executed.lacks c.in-Ok.ensures.executed.silent

pub returns-in-Ok-clause-goes_on : goal.returns-in-Ok-clause-goes_on
returns-in-Ok-clause-goes_on g c = rw (← c.self.view_is) (λ kept. record { tells = c.in-Ok.ensures.executed.tells; aheads = c.in-Ok.ensures.executed.ahead })

pub returns-in-Ok-clause-reads : goal.returns-in-Ok-clause-reads
returns-in-Ok-clause-reads g c = rw (← c.self.view_is) c.in-Ok.ensures.executed.reads

pub returns-in-Ok-clause-leaves : goal.returns-in-Ok-clause-leaves
returns-in-Ok-clause-leaves g c = rw (← c.self.view_is) (record { untouched = c.in-Ok.ensures.executed.untouched; same = c.in-Ok.ensures.executed.same })

pub returns-in-Ok-clause-frame : goal.returns-in-Ok-clause-frame
returns-in-Ok-clause-frame g c = rw (← c.self.view_is) c.in-Ok.ensures.executed.frame

pub invariant_of-self-in-Err : goal.invariant_of-self-in-Err
invariant_of-self-in-Err g c =
    let e = c.in-Err.ensures.executed in
    let stop = c.in-Err.stop in
    let going = c.self.invariant.going (ap (λ (s : Seen g.row.V.Denot). s.stopped) c.self.view_is ∙ c.requires.running) in
    record {
      running = λ kept. kept_stop Step stop _ (sym c.is_flash-self-inside.ensures ∙ kept) e.running;
      sound = λ kept told.
          let kept_on = sym c.is_flash-self-inside.ensures ∙ kept in
          let told_before : IsTrue (g.V.Files.state c.self.inside.base.files).tells = subst (λ (b : Bool). IsTrue b) (kept_stop Step stop _ kept_on e.tells) told in
          sound_step _ _ c.args.command.now c.hold_names.ensures (c.self.invariant.sound going told_before) (e.sink told_before (sink_stop Step stop kept_on)).0;
      going = λ e. absurd (cc);
    }

pub returns-in-Err-clause-sink : goal.returns-in-Err-clause-sink
returns-in-Err-clause-sink g c = rw (← c.self.view_is) c.in-Err.ensures.executed.sink

pub returns-in-Err-clause-flash : goal.returns-in-Err-clause-flash
returns-in-Err-clause-flash g c = rw (← c.self.view_is) c.in-Err.ensures.executed.flash

pub returns-in-Err-clause-goes_on : goal.returns-in-Err-clause-goes_on
returns-in-Err-clause-goes_on g c = rw (← c.self.view_is) (λ kept.
    let e = c.in-Err.ensures.executed in
    let still = sym c.is_flash-self-inside.ensures ∙ kept in
    record { tells = kept_stop Step c.in-Err.stop _ still e.tells; aheads = λ told. kept_stop Step c.in-Err.stop _ still (e.ahead told) })

pub returns-in-Err-clause-reads : goal.returns-in-Err-clause-reads
returns-in-Err-clause-reads g c = rw (← c.self.view_is) c.in-Err.ensures.executed.reads

pub returns-in-Err-clause-leaves : goal.returns-in-Err-clause-leaves
returns-in-Err-clause-leaves g c = rw (← c.self.view_is) (record { untouched = c.in-Err.ensures.executed.untouched; same = c.in-Err.ensures.executed.same })

pub returns-in-Err-clause-frame : goal.returns-in-Err-clause-frame
returns-in-Err-clause-frame g c = rw (← c.self.view_is) c.in-Err.ensures.executed.frame

pub returns-in-Err-clause-stops : goal.returns-in-Err-clause-stops
returns-in-Err-clause-stops g c = record {
  running = tt;
  stopped = refl;
  lost = λ lost. flash_stop Step c.in-Err.stop (sym c.is_flash-self-inside.ensures ∙ lost);
}
