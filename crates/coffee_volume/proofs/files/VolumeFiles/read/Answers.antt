use Rattle.std.proofs.Common.{not, ◌&&◌}
use Rattle.coffee_volume.specs.Windows.{content_of}
use Rattle.coffee_volume.proofs.Tables.{entry_seen, read_seen, told_by}
use Rattle.coffee_volume.proofs.Windows.{shown_here}
use Rattle.coffee_volume.proofs.files.VolumeFiles.read.Goals as goal

pub invariant_of-self : goal.invariant_of-self
invariant_of-self g c =
    let v = c.args.self.now in
    record {
      count = v.count;
      big = v.big;
      whole = v.whole;
      regular = v.regular;
      pending = v.pending;
      space = v.space;
      told = v.told;
      shown = λ told. rw c.gives.ensures.same (v.shown told);
    }

pub returns-then-gives-clause-bytes : goal.returns-then-gives-clause-bytes
returns-then-gives-clause-bytes g c told =
    let v = c.args.self.now in
    let old = g.F.Flash.image v.flash in
    let tells = g.F.Flash.tells && not v.failed in
    let both = told_by g.F.Flash.tells v.failed told in
    let held = c.gives.ensures.told.0 c.if-gives.true in
    let entry = entry_seen tells old v.table c.args.id c.requires.live in
    read_seen tells old v.table c.args.id entry.0 c.args.at c.args.into.now c.gives.new.into told entry.1 c.requires.range c.gives.auto.into
    (c.gives.ensures.part c.if-gives.true (content_of old entry.0.at) (shown_here old v.table v.window entry.0 c.args.id (v.shown both.0) entry.1 held.0))
