use Rattle.std.proofs.Common.{◌≡◌, true, ◌&&◌, ◌*◌, None, length, sym, ap, ◌∙◌, subst, arith, refl}
use Rattle.coffee_layout.specs.Units.{pages_of}
use Rattle.coffee_merge.specs.Holding.{HoldsTable}
use Rattle.coffee_volume.specs.Volumes.{places}
use Rattle.coffee_volume.proofs.MountedTables.{mounted_holds, mounted_length, mounted_rooms}
use Rattle.coffee_volume.proofs.Standing.{same_whole}
use Rattle.coffee_volume.proofs.Tables.{seen_distinct}
use Rattle.coffee_volume.proofs.Windows.{none_held}
use Rattle.coffee_volume.proofs.volume.Volume.over.Goals as goal

pub invariant_of-result : goal.invariant_of-result
invariant_of-result g c =
    let image = g.F.Flash.image c.args.flash in
    let l = c.requires.listed in
    let size = c.sectors.ensures.size in
    let whole : 256 * pages_of image ≡ length image = omega arith in
    record {
      count = ap length l.table_is ∙ mounted_length l.files l.few;
      big = omega (arith, c.sectors.ensures.most);
      whole = same_whole image image (omega (arith, size)) refl;
      regular = l.regular;
      pending = λ d is. absurd (cc);
      space = λ d is. absurd (cc);
      told = λ tells known.
          subst (λ t. HoldsTable image (places t) None) (sym l.table_is) (mounted_holds image l.files (l.told tells) (l.sound tells) whole);
      shown = λ told e is k low. absurd (none_held _ k c.new.ensures low);
    }

pub returns-clause-rooms : goal.returns-clause-rooms
returns-clause-rooms g c = λ id. mounted_rooms (g.F.Flash.tells && true) (g.F.Flash.image c.args.flash) c.args.listed.table c.requires.listed.files id c.requires.listed.table_is

pub returns-clause-distinct : goal.returns-clause-distinct
returns-clause-distinct g c =
    let image = g.F.Flash.image c.args.flash in
    seen_distinct (g.F.Flash.tells && true) image (pages_of image) c.args.listed.table c.requires.listed.regular
