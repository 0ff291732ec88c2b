use Rattle.std.proofs.Common.{◌+◌, ◌*◌, ◌<◌, length, arith, rules, sym, subst}
use Rattle.std.proofs.lemmas.List.Elements.{All-set}
use Rattle.coffee_layout.specs.Files.{FitsIn}
use Rattle.coffee_layout.specs.Units.{pages_of}
use Rattle.coffee_layout.specs.Walks.{IsMeasured, IsPlaced}
use Rattle.coffee_layout.proofs.Measures.{fits_more, half_more}
use Rattle.coffee_layout.proofs.measure.measure_all.Goals as goal
use Rattle.padded.proofs.Facts.{one_more_times}

pub loop-i-preserved : goal.loop-i-preserved
loop-i-preserved g c =
    let pages = pages_of (g.F.Flash.image c.args.flash.now) in
    let fits : FitsIn pages c.in_ok-file.file = (rw c.loop-i.invariant.same at c.in_ok-file.ensures.fits) in
    let within : c.loop-i.i < length c.loop-i.table = omega (arith, c.loop-i.auto.table) in
    record {
      same = search rules;
      lent = search rules;
      placed = All-set (λ e. IsPlaced pages e) c.loop-i.table c.loop-i.i c.in_ok-file.file (fits.some, fits.placed) c.loop-i.invariant.placed;
      fits = fits_more (FitsIn pages) c.loop-i.table c.loop-i.i c.in_ok-file.file within fits c.loop-i.invariant.fits;
      measured = λ t files logs all.
          half_more (g.F.Flash.image c.args.flash.now) files c.loop-i.table c.loop-i.i c.index-table-i.result c.in_ok-file.file logs (c.loop-i.invariant.measured t files logs all) within c.index-table-i.is
          (subst (λ e. IsMeasured (g.F.Flash.image c.args.flash.now) e c.in_ok-file.file) (sym c.index-table-i.is) (rw c.loop-i.invariant.same at (c.in_ok-file.ensures.measured t)));
      reads =
          let file = (rw c.loop-i.invariant.same at c.in_ok-file.ensures.reads) in
          omega (arith, one_more_times c.loop-i.i (1 + 6 * pages_of (g.F.Flash.image c.args.flash.now)), file);
      later = search rules;
      faults = search rules;
    }
