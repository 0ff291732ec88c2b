use Rattle.std.proofs.Common.{◌≡◌, ◌<◌, ◌&&◌, not, ℕ, None, length, arith}
use Rattle.padded.proofs.Facts.{on_err}
use Rattle.coffee_volume.specs.Volumes.{IsEntry}
use Rattle.coffee_volume.specs.declared.entry.Entry.{Entry}
use Rattle.coffee_volume.proofs.MendedFiles.{removal_mends}
use Rattle.coffee_volume.proofs.Standing.{Stands, holds_idle, stands_idle, where_told}
use Rattle.coffee_volume.proofs.States.{none_drafted, seen_removes}
use Rattle.coffee_volume.proofs.Tables.{in_places, regular_gone, told_by}
use Rattle.coffee_volume.proofs.Takings.{none_taken}
use Rattle.coffee_volume.proofs.Windows.{none_held}
use Rattle.coffee_volume.proofs.files.VolumeFiles.remove.Goals as goal

pub invariant_of-self-2 : goal.invariant_of-self-2
invariant_of-self-2 g c =
    let v = c.args.self.now in
    let old = g.F.Flash.image v.flash in
    let new = g.F.Flash.image c.retire_file.new.flash in
    let e : Entry = c.entry-file.result in
    let i : ℕ = c.number.result in
    let s : Stands g.F.Flash.tells v.failed old v.table v.draft = record { count = v.count; big = v.big; whole = v.whole; regular = v.regular; pending = v.pending; space = v.space; told = v.told } in
    let idle : v.draft ≡ None = none_drafted (g.F.Flash.tells && not v.failed) old v.draft c.requires.idle in
    let is : IsEntry v.table i e = rw c.number.ensures.value c.entry-file.ensures.entry in
    let inside : i < length v.table = omega (arith, v.count, c.number.ensures.below) in
    let k = stands_idle g.F.Flash.tells v.failed old new v.table v.draft i None s idle c.retire_file.ensures.frame.size (regular_gone _ v.table i v.regular inside)
    (λ told no. (c.in_ok-retire_file.ensures.retired told _ i (holds_idle g.F.Flash.tells v.failed old v.table v.draft s idle told no) (in_places v.table i e is)).holds) in
    record { count = k.count; big = k.big; whole = k.whole; regular = k.regular; pending = k.pending; space = k.space; told = k.told; shown = λ told e is k low. absurd (none_held _ k c.clear.ensures low) }

pub returns-clause-removed : goal.returns-clause-removed
returns-clause-removed g c =
    let v = c.args.self.now in
    let old = g.F.Flash.image v.flash in
    let new = g.F.Flash.image c.retire_file.new.flash in
    let e : Entry = c.entry-file.result in
    let id : ℕ = c.args.id in
    let s : Stands g.F.Flash.tells v.failed old v.table v.draft = record { count = v.count; big = v.big; whole = v.whole; regular = v.regular; pending = v.pending; space = v.space; told = v.told } in
    let idle : v.draft ≡ None = none_drafted (g.F.Flash.tells && not v.failed) old v.draft c.requires.idle in
    let inside : id < length v.table = omega (arith, v.count, c.number.ensures.below, c.number.ensures.value) in
    rw (c.number.ensures.value, idle)
    (seen_removes (g.F.Flash.tells && not v.failed) old new _ v.table id e inside c.entry-file.ensures.entry v.regular
    (where_told g.F.Flash.tells v.failed _ (λ told no. (c.in_ok-retire_file.ensures.retired told _ id (holds_idle g.F.Flash.tells v.failed old v.table v.draft s idle told no) (in_places v.table id e c.entry-file.ensures.entry)).others)))

pub returns-clause-spares : goal.returns-clause-spares
returns-clause-spares g c = λ told.
    let v = c.args.self.now in
    let old = g.F.Flash.image v.flash in
    let new = g.F.Flash.image c.retire_file.new.flash in
    let e : Entry = c.entry-file.result in
    let id : ℕ = c.args.id in
    let both = told_by g.F.Flash.tells v.failed told in
    let s : Stands g.F.Flash.tells v.failed old v.table v.draft = record { count = v.count; big = v.big; whole = v.whole; regular = v.regular; pending = v.pending; space = v.space; told = v.told } in
    let idle : v.draft ≡ None = none_drafted (g.F.Flash.tells && not v.failed) old v.draft c.requires.idle in
    none_taken old new (c.in_ok-retire_file.ensures.taken both.0 _ id (holds_idle g.F.Flash.tells v.failed old v.table v.draft s idle both.0 both.1) (in_places v.table id e c.entry-file.ensures.entry))

pub returns-in_err-retire_file-clause-cut : goal.returns-in_err-retire_file-clause-cut
returns-in_err-retire_file-clause-cut g c = λ u told.
    let v = c.args.self.now in
    let old = g.F.Flash.image v.flash in
    let both = told_by g.F.Flash.tells v.failed told in
    let s : Stands g.F.Flash.tells v.failed old v.table v.draft = record { count = v.count; big = v.big; whole = v.whole; regular = v.regular; pending = v.pending; space = v.space; told = v.told } in
    on_err c.from_residual.result
    (removal_mends g.F.Flash.tells v.failed old (g.F.Flash.image c.retire_file.new.flash) _ v.table v.draft c.args.id c.entry-file.result s told (none_drafted (g.F.Flash.tells && not v.failed) old v.draft c.requires.idle) v.regular c.entry-file.ensures.entry
    (c.in_err-retire_file.ensures.cut both.0 u))
