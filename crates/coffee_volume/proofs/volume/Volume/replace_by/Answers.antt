use Rattle.std.proofs.Common.{◌≡◌, ◌<◌, ◌&&◌, not, ℕ, Option, Some, IsTrue, false, length, refl, ap, sym, subst, ◌∙◌, arith}
use Rattle.coffee_layout.specs.Units.{pages_of}
use Rattle.coffee_layout.specs.declared.file.FileAt.{FileAt}
use Rattle.coffee_merge.specs.Holding.{CommitsExtent, HoldsTable}
use Rattle.coffee_volume.specs.Volumes.{IsEntry, IsPending, places, roomless}
use Rattle.coffee_volume.specs.declared.entry.Entry.{Entry}
use Rattle.coffee_volume.proofs.Drafted.{commit_holds, commit_turns, pending_regular}
use Rattle.padded.proofs.Facts.{on_err}
use Rattle.coffee_volume.proofs.MendedFiles.{replacement_mends}
use Rattle.coffee_volume.proofs.Standing.{Stands, stands_committed, stands_failed, tells_by, where_told}
use Rattle.coffee_volume.proofs.States.{seen_replaces}
use Rattle.coffee_volume.proofs.Tables.{entry_of_name, in_places, one_entry, regular_same, told_by}
use Rattle.coffee_volume.proofs.Takings.{free_taken}
use Rattle.coffee_volume.proofs.Windows.{none_held}
use Rattle.coffee_volume.proofs.volume.Volume.replace_by.Goals as goal

pub replace_file-requires-clause-page : goal.replace_file-requires-clause-page
replace_file-requires-clause-page g c =
    let v = c.args.self.now in
    let fits = (v.pending c.args.draft c.requires.begun).fits in
    let some = fits.some in
    let placed = fits.placed in
    omega arith

pub invariant_of-self : goal.invariant_of-self
invariant_of-self g c =
    let v = c.args.self.now in
    let s : Stands g.F.Flash.tells v.failed (g.F.Flash.image v.flash) v.table v.draft = record { count = v.count; big = v.big; whole = v.whole; regular = v.regular; pending = v.pending; space = v.space; told = v.told } in
    let k = stands_failed g.F.Flash.tells v.failed (g.F.Flash.image v.flash) (g.F.Flash.image c.replace_file.new.flash) v.table v.draft s c.replace_file.ensures.frame.size in
    record { count = k.count; big = k.big; whole = k.whole; regular = k.regular; pending = k.pending; space = k.space; told = k.told; shown = λ told e is k low. absurd (none_held _ k c.clear.ensures low) }

pub invariant_of-self-2 : goal.invariant_of-self-2
invariant_of-self-2 g c =
    let v = c.args.self.now in
    let old = g.F.Flash.image v.flash in
    let new = g.F.Flash.image c.replace_file.new.flash in
    let d : FileAt = c.args.draft in
    let i : ℕ = c.number.result in
    let s : Stands g.F.Flash.tells v.failed old v.table v.draft = record { count = v.count; big = v.big; whole = v.whole; regular = v.regular; pending = v.pending; space = v.space; told = v.told } in
    let pending : IsPending (pages_of old) d = v.pending d c.requires.begun in
    let inside : i < length v.table = omega (arith, v.count, c.number.ensures.below) in
    let e : Entry = c.entry-old.result in
    let is : IsEntry v.table i e = rw c.number.ensures.value c.entry-old.ensures.entry in
    let had = entry_of_name v.table c.args.id d.name c.requires.named in
    let name : e.at.name ≡ d.name = ap (λ (x : Entry). x.at.name) (one_entry v.table c.args.id e had.0 c.entry-old.ensures.entry had.1) ∙ had.2 in
    let commits : IsTrue g.F.Flash.tells → v.failed ≡ false → CommitsExtent old new (places v.table) i d =
    λ told fine.
    let holds : HoldsTable old (places v.table) (Some d) = subst (λ (o : Option FileAt). HoldsTable old (places v.table) o) c.requires.begun (v.told told fine) in
    c.in_ok-replace_file.ensures.replaced told (places v.table) d i holds refl (in_places v.table i e is) name (c.requires.last (tells_by g.F.Flash.tells v.failed told fine)) in
    let k = stands_committed g.F.Flash.tells v.failed old new v.table v.draft i (roomless d) s c.replace_file.ensures.frame.size
    (regular_same (pages_of old) v.table i e (roomless d) v.regular inside is (sym name) (pending_regular (pages_of old) d pending))
    (λ told fine. commit_holds old new (places v.table) i d pending.used (commits told fine)) in
    record { count = k.count; big = k.big; whole = k.whole; regular = k.regular; pending = k.pending; space = k.space; told = k.told; shown = λ told e is k low. absurd (none_held _ k c.clear.ensures low) }

pub returns-clause-committed : goal.returns-clause-committed
returns-clause-committed g c =
    let v = c.args.self.now in
    let old = g.F.Flash.image v.flash in
    let new = g.F.Flash.image c.replace_file.new.flash in
    let d : FileAt = c.args.draft in
    let i : ℕ = c.args.id in
    let pending : IsPending (pages_of old) d = v.pending d c.requires.begun in
    let inside : i < length v.table = omega (arith, v.count, c.number.ensures.below, c.number.ensures.value) in
    let e : Entry = c.entry-old.result in
    let is : IsEntry v.table i e = c.entry-old.ensures.entry in
    let had = entry_of_name v.table c.args.id d.name c.requires.named in
    let name : e.at.name ≡ d.name = ap (λ (x : Entry). x.at.name) (one_entry v.table c.args.id e had.0 c.entry-old.ensures.entry had.1) ∙ had.2 in
    let holds : IsTrue g.F.Flash.tells → v.failed ≡ false → HoldsTable old (places v.table) (Some d) = λ told fine. subst (λ (o : Option FileAt). HoldsTable old (places v.table) o) c.requires.begun (v.told told fine) in
    let commits : IsTrue g.F.Flash.tells → v.failed ≡ false → CommitsExtent old new (places v.table) i d = λ told fine. c.in_ok-replace_file.ensures.replaced told (places v.table) d i (holds told fine) refl (in_places v.table i e is) name (c.requires.last (tells_by g.F.Flash.tells v.failed told fine)) in
    rw (c.number.ensures.value, c.requires.begun)
    (seen_replaces (g.F.Flash.tells && not v.failed) old new _ v.table i e d inside is name v.regular pending.kind pending.log
    (where_told g.F.Flash.tells v.failed _ (λ told fine. commit_turns old new v.table i d inside pending.used (holds told fine) (c.requires.last (tells_by g.F.Flash.tells v.failed told fine)) (commits told fine)))
    (where_told g.F.Flash.tells v.failed _ (λ told fine. (commits told fine).sets.others)))

pub returns-clause-taken : goal.returns-clause-taken
returns-clause-taken g c = λ told.
    let v = c.args.self.now in
    let old = g.F.Flash.image v.flash in
    let both = told_by g.F.Flash.tells v.failed told in
    let e : Entry = c.entry-old.result in
    free_taken old (g.F.Flash.image c.replace_file.new.flash)
    (c.in_ok-replace_file.ensures.free both.0 (places v.table) c.args.draft c.args.id (subst (λ (o : Option FileAt). HoldsTable old (places v.table) o) c.requires.begun (v.told both.0 both.1)) refl (in_places v.table c.args.id e c.entry-old.ensures.entry))

pub returns-in_err-replace_file-clause-cut : goal.returns-in_err-replace_file-clause-cut
returns-in_err-replace_file-clause-cut g c = λ u told.
    let v = c.args.self.now in
    let old = g.F.Flash.image v.flash in
    let d : FileAt = c.args.draft in
    let e : Entry = c.entry-old.result in
    let both = told_by g.F.Flash.tells v.failed told in
    let had = entry_of_name v.table c.args.id d.name c.requires.named in
    let name : e.at.name ≡ d.name = ap (λ (x : Entry). x.at.name) (one_entry v.table c.args.id e had.0 c.entry-old.ensures.entry had.1) ∙ had.2 in
    on_err c.from_residual.result
    (replacement_mends g.F.Flash.tells v.failed old (g.F.Flash.image c.replace_file.new.flash) v.table v.draft d c.args.id e
    (record { stands = record { count = v.count; big = v.big; whole = v.whole; regular = v.regular; pending = v.pending; space = v.space; told = v.told }; is = c.requires.begun; last = c.requires.last }) told
    c.entry-old.ensures.entry name (c.in_err-replace_file.ensures.cut both.0 u))
