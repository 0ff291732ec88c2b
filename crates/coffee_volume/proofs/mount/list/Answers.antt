use Rattle.std.proofs.Common.{◌≡◌, ◌*◌, None, length, sym, subst, arith, ◌∙◌}
use Rattle.std.specs.List.{All}
use Rattle.coffee_layout.specs.Files.{FitsIn, listed}
use Rattle.coffee_layout.specs.Rules.{broken_image}
use Rattle.coffee_layout.specs.Units.{pages_of}
use Rattle.coffee_volume.proofs.MountedTables.{mounted_keep}
use Rattle.coffee_volume.proofs.mount.list.Goals as goal

pub returns-in-Ok-clause-listed : goal.returns-in-Ok-clause-listed
returns-in-Ok-clause-listed g c =
    let image = g.F.Flash.image c.args.flash.now in
    record {
      files = c.deref.result.now;
      few = c.deref.ensures.1;
      table_is = c.in-Ok.ensures.table;
      regular = c.in-Ok.ensures.regular (pages_of image) (subst (λ fs. All (FitsIn (pages_of image)) fs) (sym c.deref.ensures.0) (rw c.in-Ok-Ok.field-0-is at c.in-Ok-Ok.ensures.fits));
      told = λ tells. c.deref.ensures.0 ∙ ((rw c.in-Ok-Ok.field-0-is at c.in-Ok-Ok.ensures.judged) tells).1;
      sound = λ tells. ((rw c.in-Ok-Ok.field-0-is at c.in-Ok-Ok.ensures.judged) tells).0;
    }

pub returns-in-Err-table_of-clause-bad : goal.returns-in-Err-table_of-clause-bad
returns-in-Err-table_of-clause-bad g c = λ tells.
    let image = g.F.Flash.image c.args.flash.now in
    let files = c.deref.result.now in
    let size = c.sectors.ensures.size in
    let whole : 256 * pages_of image ≡ length image = omega arith in
    let judged : (broken_image image ≡ None) × (c.check.new.table.items ≡ listed image) = (rw c.in-Ok-Ok.field-0-is at c.in-Ok-Ok.ensures.judged) tells in
    absurd (c.in-Err-table_of.ensures.broken (mounted_keep image files (c.deref.ensures.0 ∙ judged.1) judged.0 whole))
