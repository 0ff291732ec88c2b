use Rattle.std.proofs.Common.{◌≡◌, ◌<◌, ◌&&◌, not, ℕ, Option, None, Some, IsTrue, false, length, get_or, refl, subst, arith}
use Rattle.coffee_layout.specs.Units.{pages_of}
use Rattle.coffee_layout.specs.declared.file.FileAt.{FileAt}
use Rattle.coffee_merge.specs.Holding.{CommitsExtent, HoldsTable}
use Rattle.coffee_volume.specs.Volumes.{IsPending, places, roomless}
use Rattle.coffee_volume.proofs.Drafted.{commit_holds, commit_turns, free_place, pending_regular}
use Rattle.padded.proofs.Facts.{on_err}
use Rattle.coffee_volume.proofs.MendedFiles.{addition_mends}
use Rattle.coffee_volume.proofs.Standing.{Stands, stands_committed, stands_failed, tells_by, where_told}
use Rattle.coffee_volume.proofs.States.{seen_adds}
use Rattle.coffee_volume.proofs.Tables.{length_places, lowest_inside, new_name, no_entry, regular_new, told_by, unnamed_entries}
use Rattle.coffee_volume.proofs.Takings.{free_taken}
use Rattle.coffee_volume.proofs.Windows.{none_held}
use Rattle.coffee_volume.proofs.volume.Volume.add.Goals as goal

pub commit_extent-requires : goal.commit_extent-requires
commit_extent-requires g c =
    let v = c.args.self.now in
    let fits = (v.pending c.args.draft c.requires.begun).fits in
    let some = fits.some in
    let placed = fits.placed in
    record { page = omega arith }

pub invariant_of-self : goal.invariant_of-self
invariant_of-self g c =
    let v = c.args.self.now in
    let s : Stands g.F.Flash.tells v.failed (g.F.Flash.image v.flash) v.table v.draft = record { count = v.count; big = v.big; whole = v.whole; regular = v.regular; pending = v.pending; space = v.space; told = v.told } in
    let k = stands_failed g.F.Flash.tells v.failed (g.F.Flash.image v.flash) (g.F.Flash.image c.commit_extent.new.flash) v.table v.draft s c.commit_extent.ensures.frame.size in
    record { count = k.count; big = k.big; whole = k.whole; regular = k.regular; pending = k.pending; space = k.space; told = k.told; shown = λ told e is k low. absurd (none_held _ k c.clear.ensures low) }

pub invariant_of-self-2 : goal.invariant_of-self-2
invariant_of-self-2 g c =
    let v = c.args.self.now in
    let old = g.F.Flash.image v.flash in
    let new = g.F.Flash.image c.commit_extent.new.flash in
    let d : FileAt = c.args.draft in
    let i : ℕ = c.number.result in
    let s : Stands g.F.Flash.tells v.failed old v.table v.draft = record { count = v.count; big = v.big; whole = v.whole; regular = v.regular; pending = v.pending; space = v.space; told = v.told } in
    let pending : IsPending (pages_of old) d = v.pending d c.requires.begun in
    let inside : i < length v.table = omega (arith, v.count, c.number.ensures.below) in
    let free : get_or v.table i None ≡ None = rw c.number.ensures.value c.requires.free in
    let unnamed = unnamed_entries (g.F.Flash.tells && not v.failed) old v.table d.name c.requires.unnamed in
    let commits : IsTrue g.F.Flash.tells → v.failed ≡ false → CommitsExtent old new (places v.table) i d =
    λ told fine.
    let holds : HoldsTable old (places v.table) (Some d) = subst (λ (o : Option FileAt). HoldsTable old (places v.table) o) c.requires.begun (v.told told fine) in
    c.in_ok-commit_extent.ensures.committed told (places v.table) d i holds refl (omega (arith, inside, length_places v.table)) (free_place v.table i free) (new_name (g.F.Flash.tells && not v.failed) old v.table d.name unnamed) (c.requires.last (tells_by g.F.Flash.tells v.failed told fine)) in
    let k = stands_committed g.F.Flash.tells v.failed old new v.table v.draft i (roomless d) s c.commit_extent.ensures.frame.size
    (regular_new (pages_of old) v.table i (roomless d) v.regular inside (no_entry (g.F.Flash.tells && not v.failed) old v.table d.name unnamed) (pending_regular (pages_of old) d pending))
    (λ told fine. commit_holds old new (places v.table) i d pending.used (commits told fine)) in
    record { count = k.count; big = k.big; whole = k.whole; regular = k.regular; pending = k.pending; space = k.space; told = k.told; shown = λ told e is k low. absurd (none_held _ k c.clear.ensures low) }

pub returns-clause-committed : goal.returns-clause-committed
returns-clause-committed g c =
    let v = c.args.self.now in
    let old = g.F.Flash.image v.flash in
    let new = g.F.Flash.image c.commit_extent.new.flash in
    let d : FileAt = c.args.draft in
    let i : ℕ = c.args.id in
    let pending : IsPending (pages_of old) d = v.pending d c.requires.begun in
    let inside : i < length v.table = omega (arith, v.count, c.number.ensures.below, c.number.ensures.value) in
    let free : get_or v.table i None ≡ None = c.requires.free in
    let unnamed = unnamed_entries (g.F.Flash.tells && not v.failed) old v.table d.name c.requires.unnamed in
    let holds : IsTrue g.F.Flash.tells → v.failed ≡ false → HoldsTable old (places v.table) (Some d) = λ told fine. subst (λ (o : Option FileAt). HoldsTable old (places v.table) o) c.requires.begun (v.told told fine) in
    let commits : IsTrue g.F.Flash.tells → v.failed ≡ false → CommitsExtent old new (places v.table) i d = λ told fine. c.in_ok-commit_extent.ensures.committed told (places v.table) d i (holds told fine) refl (omega (arith, inside, length_places v.table)) (free_place v.table i free) (new_name (g.F.Flash.tells && not v.failed) old v.table d.name unnamed) (c.requires.last (tells_by g.F.Flash.tells v.failed told fine)) in
    rw (c.number.ensures.value, c.requires.begun)
    (seen_adds (g.F.Flash.tells && not v.failed) old new v.table i d inside free c.requires.lowest unnamed pending.kind pending.log
    (where_told g.F.Flash.tells v.failed _ (λ told fine. commit_turns old new v.table i d inside pending.used (holds told fine) (c.requires.last (tells_by g.F.Flash.tells v.failed told fine)) (commits told fine)))
    (where_told g.F.Flash.tells v.failed _ (λ told fine. (commits told fine).sets.others)))

pub returns-clause-taken : goal.returns-clause-taken
returns-clause-taken g c = λ told.
    let v = c.args.self.now in
    let old = g.F.Flash.image v.flash in
    let both = told_by g.F.Flash.tells v.failed told in
    free_taken old (g.F.Flash.image c.commit_extent.new.flash)
    (c.in_ok-commit_extent.ensures.free both.0 (places v.table) c.args.draft (subst (λ (o : Option FileAt). HoldsTable old (places v.table) o) c.requires.begun (v.told both.0 both.1)) refl)

pub returns-in_err-commit_extent-clause-cut : goal.returns-in_err-commit_extent-clause-cut
returns-in_err-commit_extent-clause-cut g c = λ u told.
    let v = c.args.self.now in
    let old = g.F.Flash.image v.flash in
    let both = told_by g.F.Flash.tells v.failed told in
    let d : FileAt = c.args.draft in
    let unnamed = unnamed_entries (g.F.Flash.tells && not v.failed) old v.table d.name c.requires.unnamed in
    let inside = lowest_inside false old v.table c.args.id v.count (v.space d c.requires.begun (unnamed_entries false old v.table d.name c.requires.unnamed)) c.requires.lowest in
    on_err c.from_residual.result
    (addition_mends g.F.Flash.tells v.failed old (g.F.Flash.image c.commit_extent.new.flash) v.table v.draft d c.args.id
    (record { stands = record { count = v.count; big = v.big; whole = v.whole; regular = v.regular; pending = v.pending; space = v.space; told = v.told }; is = c.requires.begun; last = c.requires.last }) told
    inside c.requires.free c.requires.lowest unnamed
    (c.in_err-commit_extent.ensures.cut both.0 u))
