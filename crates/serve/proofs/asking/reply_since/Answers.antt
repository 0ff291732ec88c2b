use Rattle.std.proofs.Common.{◌≡◌, Some, false, refl, ap, ◌∙◌, arith, drop, rules}
use Rattle.std.specs.Prelude.{Ok, Err}
use Rattle.run_entries.specs.Carried.{standing_of, limits_of}
use Rattle.db_model.specs.ReplyText.{text}
use Rattle.db_model.specs.Step.{step}
use Rattle.session_model.specs.declared.step.Step.{Step}
use Rattle.session_model.specs.declared.step.Step.TheVariants.{Done, NoSpace}
use Rattle.afl_base.specs.declared.fault.Fault.TheVariants.{Flash, Sink}
use Rattle.session_model.specs.Carried.{ChangesAndSends}
use Rattle.serve.specs.Front.{fronted}
use Rattle.serve.proofs.Replied.{finds_none, says_less, says_part}
use Rattle.serve.proofs.Holding.{fine_by, rose_behind, same_faults}
use Rattle.serve.proofs.Unsent.{frame_less, frame_part, frame_unended}
use Rattle.run_frames.specs.Frames.{Asked}
use Rattle.run_frames.specs.Served.{serve_talk}
use Rattle.serve.proofs.asking.reply_since.Goals as goal

-- END, or the byte in front, was not written
pub returns-in-Err-clause-answered : goal.returns-in-Err-clause-answered
returns-in-Err-clause-answered g c = λ told read bytes is.
    let e = c.in-Ok-Done.ensures in
    let does = rw c.in-Ok-Done.field-0-is at (e.done told) in
    let s = c.exec.new.self in
    let mid = c.exec.new.out in
    let h = g.K.Sink.held c.args.out.now in
    let k = g.K.Sink.held c.finish.new.self.out.now in
    let reply = text ((step c.args.session.now.database c.args.command.now).1) in
    let kept : s.lost ≡ false = search (rules, e.stops.lost) in
    let said = does.1.0 in
    let done = says_less (serve_talk read) (Asked c.args.client bytes) (standing_of g.V.Files.state g.V.Files.reads c.args.session.now h) (standing_of g.V.Files.state g.V.Files.reads s k) c.args.command.now is
    (e.reads told) (e.goes_on kept).tells does.0 (frame_unended h (g.K.Sink.held mid.out.now) k mid.front c.args.client reply said c.in-Err.ensures.failed) in
    search (rules, done)

-- the reply was not wholly written
pub returns-in-Err-Sink-clause-answered : goal.returns-in-Err-Sink-clause-answered
returns-in-Err-Sink-clause-answered g c = λ told read bytes is.
    let e = c.in-Err-Sink.ensures in
    let s = c.exec.new.self in
    let new = c.exec.new.out in
    let h = g.K.Sink.held c.args.out.now in
    let k = g.K.Sink.held new.out.now in
    let reply = text ((step c.args.session.now.database c.args.command.now).1) in
    let kept : s.lost ≡ false = search (rules, e.stops.lost) in
    let does = e.sink told (search rules) in
    let done = says_less (serve_talk read) (Asked c.args.client bytes) (standing_of g.V.Files.state g.V.Files.reads c.args.session.now h) (standing_of g.V.Files.state g.V.Files.reads s k) c.args.command.now is
    (e.reads told) (e.goes_on kept).tells does.0 (frame_less h k new.front c.args.client reply does.1) in
    search (rules, done)

-- the flash failed amid the reply
pub returns-in-Err-Flash-clause-answered : goal.returns-in-Err-Flash-clause-answered
returns-in-Err-Flash-clause-answered g c = λ told read bytes is.
    let e = c.in-Err-Flash.ensures in
    let s = c.exec.new.self in
    let new = c.exec.new.out in
    let h = g.K.Sink.held c.args.out.now in
    let k = g.K.Sink.held new.out.now in
    let reply = text ((step c.args.session.now.database c.args.command.now).1) in
    let off = e.flash told (search rules) in
    let done = says_part (serve_talk read) (Asked c.args.client bytes) (standing_of g.V.Files.state g.V.Files.reads c.args.session.now h) (standing_of g.V.Files.state g.V.Files.reads s k) c.args.command.now is
    (e.reads told) (limits_of g.V.Files s) (frame_part h k new.front c.args.client reply off.part)
    (λ changes. rw (off.unsaid changes) refl) off.mends in
    search (rules, done)

-- there was no space, and so nothing went out
pub returns-in-Ok-NoSpace-clause-silent : goal.returns-in-Ok-NoSpace-clause-silent
returns-in-Ok-NoSpace-clause-silent g c =
    let e = c.in-Ok-NoSpace.ensures in
    let new = c.exec.new.out in
    let fine = fine_by new.failed e.frame.faultless in
    let on = new.on (fronted (g.K.Sink.held c.args.out.now) (g.K.Sink.faults c.args.out.now) (Some c.args.client) false) c.requires.begun in
    let same = on.silent fine (rw c.in-Ok-NoSpace.field-0-is at e.silent).1 in
    search (rules, same)

pub returns-in-Ok-NoSpace-clause-lacks : goal.returns-in-Ok-NoSpace-clause-lacks
returns-in-Ok-NoSpace-clause-lacks g c =
    let none = (rw c.in-Ok-NoSpace.field-0-is at c.in-Ok-NoSpace.ensures.silent).0 in
    search (rules, none)

pub returns-in-Ok-NoSpace-clause-answered : goal.returns-in-Ok-NoSpace-clause-answered
returns-in-Ok-NoSpace-clause-answered g c = λ told read bytes is.
    let e = c.in-Ok-NoSpace.ensures in
    let does = rw c.in-Ok-NoSpace.field-0-is at (e.done told) in
    let s = c.exec.new.self in
    let n = c.in-Ok-NoSpace.need in
    let new = c.exec.new.out in
    let kept : s.lost ≡ false = search (rules, e.stops.lost) in
    let fine = fine_by new.failed e.frame.faultless in
    let on = new.on (fronted (g.K.Sink.held c.args.out.now) (g.K.Sink.faults c.args.out.now) (Some c.args.client) false) c.requires.begun in
    let same = on.silent fine does.1 in
    let done = finds_none (serve_talk read) (Asked c.args.client bytes) (standing_of g.V.Files.state g.V.Files.reads c.args.session.now (g.K.Sink.held c.args.out.now)) (standing_of g.V.Files.state g.V.Files.reads s (g.K.Sink.held new.out.now)) c.args.command.now is
    (e.reads told) (limits_of g.V.Files s) n does.2
    (rw c.in-Ok-NoSpace.field-0-is at (e.space told)) (e.goes_on kept).tells does.0 same in
    search (rules, done)

-- ---- what the calls keep

pub returns-in-Ok-clause-frame : goal.returns-in-Ok-clause-frame
returns-in-Ok-clause-frame g c =
    let e = c.in-Ok-Done.ensures.frame in
    let new = c.exec.new.out in
    let on = new.on (fronted (g.K.Sink.held c.args.out.now) (g.K.Sink.faults c.args.out.now) (Some c.args.client) false) c.requires.begun in
    let same = same_faults _ _ on e.faultless in
    let f = c.in-Ok.ensures in
    let done : ChangesAndSends {T = Step} g.V.Files g.K.Sink c.args.session.now.files c.exec.new.self.files c.args.out.now c.finish.new.self.out.now (Ok (Done c.in-Ok-Done.outcome)) =
    record {
      store = e.store;
      lent = e.lent;
      later = e.later;
      sink_lent = ap (drop 1) (f.lent ∙ e.sink_lent);
      faultless = f.faultless ∙ same;
      cause = record {
        files_later = e.cause.files_later;
        replies_later = omega (arith, same, f.faultless);
        flash = λ is. absurd (let n : ⊥ = cc in n);
        sink = λ is. absurd (let n : ⊥ = cc in n);
      };
    } in
    search (rules, done)

pub returns-in-Err-clause-frame : goal.returns-in-Err-clause-frame
returns-in-Err-clause-frame g c =
    let e = c.in-Ok-Done.ensures.frame in
    let new = c.exec.new.out in
    let on = new.on (fronted (g.K.Sink.held c.args.out.now) (g.K.Sink.faults c.args.out.now) (Some c.args.client) false) c.requires.begun in
    let same = same_faults _ _ on e.faultless in
    let f = c.in-Err.ensures in
    let done : ChangesAndSends {T = Step} g.V.Files g.K.Sink c.args.session.now.files c.exec.new.self.files c.args.out.now c.finish.new.self.out.now (Err Sink) =
    record {
      store = e.store;
      lent = e.lent;
      later = e.later;
      sink_lent = ap (drop 1) (f.lent ∙ e.sink_lent);
      faultless = tt;
      cause = record {
        files_later = e.cause.files_later;
        replies_later = omega (arith, same, f.cause.later);
        flash = λ is. absurd (let n : ⊥ = cc in n);
        sink = λ is. omega (arith, same, f.cause.failed);
      };
    } in
    search (rules, done)

pub returns-in-Ok-NoSpace-clause-frame : goal.returns-in-Ok-NoSpace-clause-frame
returns-in-Ok-NoSpace-clause-frame g c =
    let e = c.in-Ok-NoSpace.ensures.frame in
    let new = c.exec.new.out in
    let on = new.on (fronted (g.K.Sink.held c.args.out.now) (g.K.Sink.faults c.args.out.now) (Some c.args.client) false) c.requires.begun in
    let same = same_faults _ _ on e.faultless in
    let done : ChangesAndSends {T = Step} g.V.Files g.K.Sink c.args.session.now.files c.exec.new.self.files c.args.out.now new.out.now (Ok (NoSpace c.in-Ok-NoSpace.need)) =
    record {
      store = e.store;
      lent = e.lent;
      later = e.later;
      sink_lent = ap (drop 1) (e.sink_lent);
      faultless = same;
      cause = record {
        files_later = e.cause.files_later;
        replies_later = on.later;
        flash = λ is. absurd (let n : ⊥ = cc in n);
        sink = λ is. absurd (let n : ⊥ = cc in n);
      };
    } in
    search (rules, done)

pub returns-in-Err-Flash-clause-frame : goal.returns-in-Err-Flash-clause-frame
returns-in-Err-Flash-clause-frame g c =
    let e = c.in-Err-Flash.ensures.frame in
    let new = c.exec.new.out in
    let on = new.on (fronted (g.K.Sink.held c.args.out.now) (g.K.Sink.faults c.args.out.now) (Some c.args.client) false) c.requires.begun in
    let done : ChangesAndSends {T = Step} g.V.Files g.K.Sink c.args.session.now.files c.exec.new.self.files c.args.out.now new.out.now (Err Flash) =
    record {
      store = e.store;
      lent = e.lent;
      later = e.later;
      sink_lent = ap (drop 1) (e.sink_lent);
      faultless = tt;
      cause = record {
        files_later = e.cause.files_later;
        replies_later = on.later;
        flash = λ is. e.cause.flash (search rules);
        sink = λ is. absurd (let n : ⊥ = cc in n);
      };
    } in
    search (rules, done)

pub returns-in-Err-Sink-clause-frame : goal.returns-in-Err-Sink-clause-frame
returns-in-Err-Sink-clause-frame g c =
    let e = c.in-Err-Sink.ensures.frame in
    let new = c.exec.new.out in
    let on = new.on (fronted (g.K.Sink.held c.args.out.now) (g.K.Sink.faults c.args.out.now) (Some c.args.client) false) c.requires.begun in
    let done : ChangesAndSends {T = Step} g.V.Files g.K.Sink c.args.session.now.files c.exec.new.self.files c.args.out.now new.out.now (Err Sink) =
    record {
      store = e.store;
      lent = e.lent;
      later = e.later;
      sink_lent = ap (drop 1) (e.sink_lent);
      faultless = tt;
      cause = record {
        files_later = e.cause.files_later;
        replies_later = on.later;
        flash = λ is. absurd (let n : ⊥ = cc in n);
        sink = λ is. rose_behind _ _ on refl (e.cause.sink (search rules));
      };
    } in
    search (rules, done)
