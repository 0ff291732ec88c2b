use Rattle.std.proofs.Common.{not, ◌&&◌}
use Rattle.coffee_volume.proofs.Tables.{read_seen, told_by}
use Rattle.coffee_volume.proofs.Windows.{shown_here, shown_on}
use Rattle.coffee_volume.proofs.volume.Volume.read_flash.Goals as goal

pub invariant_of-self : goal.invariant_of-self
invariant_of-self g c =
    let v = c.args.self.now in
    let old = g.F.Flash.image v.flash in
    let e = c.entry-file in
    let done = c.read.ensures in
    let same = done.frame.same in
    record {
      count = v.count;
      big = rw same v.big;
      whole = rw same v.whole;
      regular = rw same v.regular;
      pending = rw same v.pending;
      space = v.space;
      told = rw same v.told;
      shown = λ told.
          shown_on old (g.F.Flash.image c.read.new.flash) v.table e.result c.args.id c.read.new.self same e.ensures.entry done.file
          (done.shows told (λ file. shown_here old v.table v.window e.result c.args.id (v.shown told) e.ensures.entry file));
    }

pub returns-clause-bytes : goal.returns-clause-bytes
returns-clause-bytes g c told =
    let v = c.args.self.now in
    let old = g.F.Flash.image v.flash in
    let both = told_by g.F.Flash.tells v.failed told in
    let e = c.entry-file in
    read_seen (g.F.Flash.tells && not v.failed) old v.table c.args.id e.result c.args.at c.args.into.now c.read.new.into told e.ensures.entry c.requires.range c.read.auto.into
    (c.in_ok-read.ensures.bytes both.0 (λ file. shown_here old v.table v.window e.result c.args.id (v.shown both.0) e.ensures.entry file))
