use Rattle.std.proofs.Common.{Option, refl, subst, ◌&&◌, not, length, arith}
use Rattle.padded.proofs.Facts.{on_err}
use Rattle.coffee_volume.proofs.MendedFiles.{written_draft_mends}
use Rattle.coffee_volume.proofs.DraftWrites.{inside_draft, seen_written, stands_written}
use Rattle.coffee_volume.proofs.Standing.{stands_failed}
use Rattle.coffee_layout.specs.declared.file.FileAt.{FileAt}
use Rattle.coffee_merge.specs.Holding.{HoldsTable}
use Rattle.coffee_volume.specs.Volumes.{places}
use Rattle.coffee_volume.proofs.Tables.{told_by}
use Rattle.coffee_volume.proofs.Takings.{free_taken}
use Rattle.coffee_volume.proofs.Windows.{none_held}
use Rattle.coffee_volume.proofs.files.VolumeFiles.draft_write.Goals as goal

pub write_extent-requires-clause-placed : goal.write_extent-requires-clause-placed
write_extent-requires-clause-placed g c = (c.args.self.now.pending c.drafted-draft.result c.drafted-draft.ensures).fits.placed

pub write_extent-requires-clause-fits : goal.write_extent-requires-clause-fits
write_extent-requires-clause-fits g c =
    let v = c.args.self.now in
    let d = c.drafted-draft.result in
    let inside = inside_draft (g.F.Flash.tells && not v.failed) (g.F.Flash.image v.flash) v.table v.draft d c.args.at (length c.args.bytes.now) c.drafted-draft.ensures c.requires.range in
    let fits = (v.pending d c.drafted-draft.ensures).fits.size in
    omega (arith, inside, fits)

pub invariant_of-self : goal.invariant_of-self
invariant_of-self g c =
    let v = c.args.self.now in
    let after =
    stands_failed g.F.Flash.tells v.failed (g.F.Flash.image v.flash) (g.F.Flash.image c.write_extent.new.flash) v.table v.draft
    (record { count = v.count; big = v.big; whole = v.whole; regular = v.regular; pending = v.pending; space = v.space; told = v.told }) c.write_extent.ensures.frame.size in
    record { count = after.count; big = after.big; whole = after.whole; regular = after.regular; pending = after.pending; space = after.space; told = after.told; shown = λ told e is k low. absurd (none_held _ k c.clear.ensures low) }

pub invariant_of-self-2 : goal.invariant_of-self-2
invariant_of-self-2 g c =
    let v = c.args.self.now in
    let after =
    stands_written g.F.Flash.tells v.failed (g.F.Flash.image v.flash) (g.F.Flash.image c.write_extent.new.flash) v.table v.draft c.drafted-draft.result c.args.at c.args.bytes.now
    (record {
      stands = record { count = v.count; big = v.big; whole = v.whole; regular = v.regular; pending = v.pending; space = v.space; told = v.told };
      is = c.drafted-draft.ensures;
      range = c.requires.range;
      zeros = c.requires.zeros;
      size = c.write_extent.ensures.frame.size;
      written = c.in_ok-write_extent.ensures.written;
    }) in
    record { count = after.count; big = after.big; whole = after.whole; regular = after.regular; pending = after.pending; space = after.space; told = after.told; shown = λ told e is k low. absurd (none_held _ k c.clear.ensures low) }

pub returns-clause-written : goal.returns-clause-written
returns-clause-written g c =
    let v = c.args.self.now in
    seen_written g.F.Flash.tells v.failed (g.F.Flash.image v.flash) (g.F.Flash.image c.write_extent.new.flash) v.table v.draft c.drafted-draft.result c.args.at c.args.bytes.now
    (record {
      stands = record { count = v.count; big = v.big; whole = v.whole; regular = v.regular; pending = v.pending; space = v.space; told = v.told };
      is = c.drafted-draft.ensures;
      range = c.requires.range;
      zeros = c.requires.zeros;
      size = c.write_extent.ensures.frame.size;
      written = c.in_ok-write_extent.ensures.written;
    })

pub returns-clause-taken : goal.returns-clause-taken
returns-clause-taken g c = λ told.
    let v = c.args.self.now in
    let old = g.F.Flash.image v.flash in
    let both = told_by g.F.Flash.tells v.failed told in
    free_taken old (g.F.Flash.image c.write_extent.new.flash)
    (c.in_ok-write_extent.ensures.free both.0 (places v.table) c.drafted-draft.result (subst (λ (o : Option FileAt). HoldsTable old (places v.table) o) c.drafted-draft.ensures (v.told both.0 both.1)) refl refl)

pub returns-in_err-write_extent-clause-cut : goal.returns-in_err-write_extent-clause-cut
returns-in_err-write_extent-clause-cut g c = λ u told.
    let v = c.args.self.now in
    let both = told_by g.F.Flash.tells v.failed told in
    on_err c.from_residual.result
    (written_draft_mends g.F.Flash.tells v.failed (g.F.Flash.image v.flash) (g.F.Flash.image c.write_extent.new.flash) v.table v.draft c.drafted-draft.result
    (record { count = v.count; big = v.big; whole = v.whole; regular = v.regular; pending = v.pending; space = v.space; told = v.told }) told c.drafted-draft.ensures c.write_extent.ensures.frame.size
    (c.write_extent.ensures.head both.0 u) (c.write_extent.ensures.other_pages both.0))
