use Rattle.std.proofs.Common.{◌<◌, arith}
use Rattle.dump.proofs.Sessions.{few_rows, no_slot}
use Rattle.run_look.proofs.rows.count_live.Goals as goal

pub returns-in-None-clause-live : goal.returns-in-None-clause-live
returns-in-None-clause-live g c = λ told sound.
    let few = few_rows c.args.session.now.database c.args.id sound in
    let below : c.loop-at.at < 32768 = omega (arith, c.loop-at-test.true, c.slots-at-end.ensures, few) in
    absurd (no_slot c.loop-at.at c.new.result below c.new.ensures c.in-None.is)
