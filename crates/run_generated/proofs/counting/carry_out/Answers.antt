use Rattle.std.proofs.Common.{◌≡◌, ◌≤◌, ◌<◌, Bool, IsTrue, arith, false, rules, subst, sym, ◌∙◌}
use Rattle.run_entries.specs.Carried.{limits_of}
use Rattle.run_generated.proofs.Counts.{breaks_here, counted_next, rows_next, stops_here}
use Rattle.run_generated.proofs.counting.carry_out.Goals as goal

pub returns-in-Ok-NoSpace-clause-space : goal.returns-in-Ok-NoSpace-clause-space
returns-in-Ok-NoSpace-clause-space g c = λ told.
    let inv = c.loop-k.invariant in
    let e = c.in-Ok-NoSpace.ensures in
    let now : IsTrue (g.V.Files.state c.loop-k.session.files).tells = subst (λ (b : Bool). IsTrue b) (sym inv.tells) told in
    let s = c.exec.new.self in
    let command = c.nth_command.new.command in
    let n = c.in-Ok-NoSpace.need in
    let does = rw c.in-Ok-NoSpace.field-0-is at (e.done now) in
    stops_here (limits_of g.V.Files s) c.args.seed c.loop-k.k c.args.count n command c.args.session.now.database c.loop-k.session.database s.database
    c.loop-k.tally c.nth_command.ensures.command (inv.counted told) c.loop-k-test.true does.0 does.2
    (rw c.in-Ok-NoSpace.field-0-is at (e.space now))

pub loop-k-preserved : goal.loop-k-preserved
loop-k-preserved g c =
    let inv = c.loop-k.invariant in
    let e = c.in-Ok-Done.ensures in
    let s = c.exec.new.self in
    let kept : s.lost ≡ false = search (rules, e.stops.lost) in
    let below : c.loop-k.k < 100000 = omega (arith, c.loop-k-test.true, c.requires.few) in
    record {
      going = e.stops.running;
      kept = λ old. kept;
      tells = (e.goes_on kept).tells ∙ inv.tells;
      counted = λ told.
          let now : IsTrue (g.V.Files.state c.loop-k.session.files).tells = subst (λ (b : Bool). IsTrue b) (sym inv.tells) told in
          let does = rw c.in-Ok-Done.field-0-is at (e.done now) in
          counted_next c.args.seed c.loop-k.k c.nth_command.new.command c.nth_command.ensures.command c.args.session.now.database c.loop-k.session.database s.database
          c.loop-k.tally c.count.new.self (inv.rows told) below c.in-Ok-Done.outcome does.1.1 c.count.ensures.counted (inv.counted told) does.0;
      rows = λ told.
          let now : IsTrue (g.V.Files.state c.loop-k.session.files).tells = subst (λ (b : Bool). IsTrue b) (sym inv.tells) told in
          let does = rw c.in-Ok-Done.field-0-is at (e.done now) in
          rows_next c.args.seed c.loop-k.k c.nth_command.new.command c.nth_command.ensures.command c.args.session.now.database c.loop-k.session.database s.database
          c.loop-k.tally c.count.new.self (inv.rows told) below c.in-Ok-Done.outcome does.1.1 c.count.ensures.counted;
      commands = let more = c.count.ensures.commands in omega (arith, more, inv.commands);
      store = e.frame.store ∙ inv.store;
      lent = e.frame.lent ∙ inv.lent;
      faults = let later = e.frame.cause.files_later in omega (arith, later, inv.faults);
    }

pub returns-in-Err-Flash-clause-broken : goal.returns-in-Err-Flash-clause-broken
returns-in-Err-Flash-clause-broken g c = λ told is.
    let inv = c.loop-k.invariant in
    let now : IsTrue (g.V.Files.state c.loop-k.session.files).tells = subst (λ (b : Bool). IsTrue b) (sym inv.tells) told in
    let off = c.in-Err-Flash.ensures.flash now (search rules) in
    breaks_here (limits_of g.V.Files c.exec.new.self) c.args.seed c.loop-k.k c.args.count c.nth_command.new.command c.args.session.now.database c.loop-k.session.database
    c.loop-k.tally c.nth_command.ensures.command (inv.counted told) c.loop-k-test.true off.mends
