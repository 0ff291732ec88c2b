use Rattle.std.proofs.Common.{IsTrue, ap, sym, subst, ◌∙◌}
use Rattle.afl_base.specs.Files.{State}
use Rattle.session_model.specs.Aheads.{aheads_of}
use Rattle.session_model.specs.View.{view}
use Rattle.db_model.specs.Sound.{IsSoundDatabase}
use Rattle.session_model.specs.Running.{IsRunning}
use Rattle.antelope_engine.specs.Seen.{Seen}
use Rattle.antelope_engine.proofs.ReadSlots.{holds_rows, row_seen, slot_of_rows}
use Rattle.antelope_engine.proofs.session.Session.tuple.Goals as goal

pub row_in-requires : goal.row_in-requires
row_in-requires g c =
    let s = c.self.inside in
    let kept = c.self.invariant.going (ap (λ (z : Seen g.row.V.Denot). z.stopped) c.self.view_is ∙ c.requires.running) in
    let running = c.self.invariant.running kept in
    let below = rw (← c.self.view_is) at c.requires.slot in
    record {
      holds = λ t e. (
        holds_rows (g.V.Files.state s.base.files) s.base.tables s.base.held s.base.opens running c.args.id t e,
        slot_of_rows (g.V.Files.state s.base.files) s.base.tables s.base.held s.base.opens running c.args.id c.args.slot t e below,
      );
    }

pub invariant_of-self : goal.invariant_of-self
invariant_of-self g c =
    let s = c.self.inside in
    let same = sym c.in-Ok.ensures.frame.same in
    let back = c.in-Ok.ensures.frame.same in record {
      running = λ kept. subst (λ (z : State). IsRunning z s.base.tables s.base.held s.base.opens) same (c.self.invariant.running kept);
      sound = λ kept told. subst (λ (z : State). IsSoundDatabase (view z.files s.base.held s.base.opens)) same (c.self.invariant.sound kept (subst (λ (z : State). IsTrue z.tells) back told));
      going = c.self.invariant.going;
    }

pub returns-in-Ok-clause-row : goal.returns-in-Ok-clause-row
returns-in-Ok-clause-row g c =
    let below = rw (← c.self.view_is) at c.requires.slot in
    rw (← c.self.view_is) (λ told.
    let s = c.self.inside in
    let kept = c.self.invariant.going (ap (λ (z : Seen g.row.V.Denot). z.stopped) c.self.view_is ∙ c.requires.running) in
    row_seen (g.V.Files.state s.base.files) s.base.tables s.base.held s.base.opens (c.self.invariant.running kept) c.args.id c.args.slot c.row_in.new.into c.in-Ok.live below
    (c.in-Ok.ensures.row told))

pub returns-in-Ok-clause-database : goal.returns-in-Ok-clause-database
returns-in-Ok-clause-database g c =
    ap (λ (z : State). view z.files c.self.inside.base.held c.self.inside.base.opens) c.in-Ok.ensures.frame.same ∙ ap (λ (z : Seen g.row.V.Denot). z.database) c.self.view_is

pub returns-in-Ok-clause-aheads : goal.returns-in-Ok-clause-aheads
returns-in-Ok-clause-aheads g c =
    ap (λ (z : State). aheads_of z.files c.self.inside.base.opens) c.in-Ok.ensures.frame.same ∙ ap (λ (z : Seen g.row.V.Denot). z.aheads) c.self.view_is
