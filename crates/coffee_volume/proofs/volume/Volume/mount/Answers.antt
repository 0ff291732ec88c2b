use Rattle.std.proofs.Common.{◌≡◌, true, ◌&&◌, ◌*◌, ◌≤◌, None, length, sym, ap, ◌∙◌, subst, arith}
use Rattle.std.specs.List.{All}
use Rattle.coffee_layout.specs.Files.{FitsIn, listed}
use Rattle.coffee_layout.specs.Rules.{broken_image}
use Rattle.coffee_layout.specs.Units.{pages_of}
use Rattle.coffee_merge.specs.Holding.{HoldsTable}
use Rattle.coffee_volume.specs.Volumes.{AreRegular, places}
use Rattle.coffee_volume.proofs.MountedTables.{mounted_holds, mounted_keep, mounted_length, mounted_rooms}
use Rattle.coffee_volume.proofs.Standing.{same_whole}
use Rattle.coffee_volume.proofs.Tables.{seen_distinct}
use Rattle.coffee_volume.proofs.Windows.{none_held}
use Rattle.coffee_volume.proofs.volume.Volume.mount.Goals as goal

pub invariant_of-result : goal.invariant_of-result
invariant_of-result g c =
    let image = g.F.Flash.image c.args.flash in
    let files = c.deref.result.now in
    let most : length files ≤ 32 = c.deref.ensures.1 in
    let size = c.sectors.ensures.size in
    let whole : 256 * pages_of image ≡ length image = omega arith in
    record {
      count = ap length c.in-Ok.ensures.table ∙ mounted_length files most;
      big = omega (arith, ap length c.check.ensures.frame.same, c.sectors.ensures.most);
      whole = same_whole image (g.F.Flash.image c.check.new.flash) (omega (arith, size)) (ap length c.check.ensures.frame.same);
      regular = subst (λ i. AreRegular (pages_of i) c.in-Ok.table) (sym c.check.ensures.frame.same)
          (c.in-Ok.ensures.regular (pages_of image) (subst (λ fs. All (FitsIn (pages_of image)) fs) (sym c.deref.ensures.0) (rw c.in-Ok-Ok.field-0-is at c.in-Ok-Ok.ensures.fits)));
      pending = λ d is. absurd (cc);
      space = λ d is. absurd (cc);
      told = λ tells known.
          let judged : (broken_image image ≡ None) × (c.check.new.table.items ≡ listed image) = (rw c.in-Ok-Ok.field-0-is at c.in-Ok-Ok.ensures.judged) tells in
          subst (λ i. HoldsTable i (places c.in-Ok.table) None) (sym c.check.ensures.frame.same)
          (subst (λ t. HoldsTable image (places t) None) (sym c.in-Ok.ensures.table) (mounted_holds image files (c.deref.ensures.0 ∙ judged.1) judged.0 whole));
      shown = λ told e is k low. absurd (none_held _ k c.new.ensures low);
    }

pub returns-in-Err-table_of-clause-bad : goal.returns-in-Err-table_of-clause-bad
returns-in-Err-table_of-clause-bad g c = λ tells.
    let image = g.F.Flash.image c.args.flash in
    let files = c.deref.result.now in
    let size = c.sectors.ensures.size in
    let whole : 256 * pages_of image ≡ length image = omega arith in
    let judged : (broken_image image ≡ None) × (c.check.new.table.items ≡ listed image) = (rw c.in-Ok-Ok.field-0-is at c.in-Ok-Ok.ensures.judged) tells in
    absurd (c.in-Err-table_of.ensures.broken (mounted_keep image files (c.deref.ensures.0 ∙ judged.1) judged.0 whole))

pub returns-in-Ok-clause-rooms : goal.returns-in-Ok-clause-rooms
returns-in-Ok-clause-rooms g c = λ id. mounted_rooms (g.F.Flash.tells && true) (g.F.Flash.image c.check.new.flash) c.in-Ok.table c.deref.result.now id c.in-Ok.ensures.table

pub returns-in-Ok-clause-distinct : goal.returns-in-Ok-clause-distinct
returns-in-Ok-clause-distinct g c =
    let image = g.F.Flash.image c.args.flash in
    seen_distinct (g.F.Flash.tells && true) (g.F.Flash.image c.check.new.flash) (pages_of image) c.in-Ok.table
    (c.in-Ok.ensures.regular (pages_of image) (subst (λ fs. All (FitsIn (pages_of image)) fs) (sym c.deref.ensures.0) (rw c.in-Ok-Ok.field-0-is at c.in-Ok-Ok.ensures.fits)))
