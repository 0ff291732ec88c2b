use Rattle.std.proofs.Common.{◌+◌, ◌*◌, ◌≤◌, ◌<◌, ◌&&◌, not, ℕ, List, length, refl, ap, ◌∙◌, arith}
use Rattle.afl_base.specs.Files.{File}
use Rattle.afl_base.proofs.FileLaws.{file_here}
use Rattle.padded.proofs.Facts.{on_err}
use Rattle.coffee_volume.specs.Volumes.{IsEntry}
use Rattle.coffee_volume.specs.declared.entry.Entry.{Entry}
use Rattle.coffee_volume.proofs.MendedFiles.{append_mends}
use Rattle.coffee_volume.proofs.Rooms.{regular_appended}
use Rattle.coffee_volume.proofs.Standing.{Stands, stands_failed, stands_same, where_told}
use Rattle.coffee_volume.proofs.States.{room_set}
use Rattle.coffee_volume.proofs.Tables.{told_by}
use Rattle.coffee_volume.proofs.Written.{append_becomes, append_sets}
use Rattle.coffee_volume.proofs.Asking.{units_spared}
use Rattle.coffee_volume.proofs.Windows.{none_held}
use Rattle.coffee_volume.proofs.files.VolumeFiles.append.Goals as goal

pub invariant_of-self : goal.invariant_of-self
invariant_of-self g c =
    let v = c.args.self.now in
    let s : Stands g.F.Flash.tells v.failed (g.F.Flash.image v.flash) v.table v.draft = record { count = v.count; big = v.big; whole = v.whole; regular = v.regular; pending = v.pending; space = v.space; told = v.told } in
    let k = stands_failed g.F.Flash.tells v.failed (g.F.Flash.image v.flash) (g.F.Flash.image c.append_file.new.flash) v.table v.draft s c.append_file.ensures.frame.size in
    record { count = k.count; big = k.big; whole = k.whole; regular = k.regular; pending = k.pending; space = k.space; told = k.told; shown = λ told e is k low. absurd (none_held _ k c.clear.ensures low) }

pub invariant_of-self-2 : goal.invariant_of-self-2
invariant_of-self-2 g c =
    let v = c.args.self.now in
    let old = g.F.Flash.image v.flash in
    let new = g.F.Flash.image c.append_file.new.flash in
    let e : Entry = c.entry-entry.result in
    let i : ℕ = c.number.result in
    let bytes : List ℕ = c.args.bytes.now in
    let regular = c.entry-entry.ensures.regular in
    let s : Stands g.F.Flash.tells v.failed old v.table v.draft = record { count = v.count; big = v.big; whole = v.whole; regular = v.regular; pending = v.pending; space = v.space; told = v.told } in
    let is : IsEntry v.table i e = rw c.number.ensures.value c.entry-entry.ensures.entry in
    let n : ℕ = c.in_ok-used.used in
    let room : length bytes ≤ e.room = omega (arith, c.requires.room, ap (λ (f : File). f.room) c.entry-entry.ensures.file) in
    let fits : e.at.size + length bytes + 32 ≤ 256 * e.at.pages = omega (arith, room, regular.room.fits) in
    let f : Entry = record { at = record e.at { size = e.at.size + length bytes; used = n }; records = e.records; room = 0 } in
    let k = stands_same g.F.Flash.tells v.failed old new v.table v.draft i e f s c.append_file.ensures.frame.size c.number.ensures.below is refl
    (regular_appended _ e n (e.at.size + length bytes) (length bytes) regular refl c.requires.some room c.in_ok-used.ensures.few c.in_ok-used.ensures.unlogged)
    (λ told no. (append_sets old new v.table v.draft i e n bytes (v.told told no) is c.append_file.ensures.frame.size c.requires.some fits c.requires.last
    (λ none. c.in_ok-used.ensures.unlogged none ∙ regular.fits.unused none) (c.in_ok-used.ensures.becomes told)).holds) in
    record { count = k.count; big = k.big; whole = k.whole; regular = k.regular; pending = k.pending; space = k.space; told = k.told; shown = λ told e is k low. absurd (none_held _ k c.clear.ensures low) }

pub returns-clause-appended : goal.returns-clause-appended
returns-clause-appended g c =
    let v = c.args.self.now in
    let old = g.F.Flash.image v.flash in
    let new = g.F.Flash.image c.append_file.new.flash in
    let e : Entry = c.entry-entry.result in
    let bytes : List ℕ = c.args.bytes.now in
    let id : ℕ = c.args.id in
    let regular = c.entry-entry.ensures.regular in
    let room : length bytes ≤ e.room = omega (arith, c.requires.room, ap (λ (f : File). f.room) c.entry-entry.ensures.file) in
    let fits : e.at.size + length bytes + 32 ≤ 256 * e.at.pages = omega (arith, room, regular.room.fits) in
    let inside : id < length v.table = omega (arith, v.count, c.number.ensures.below, c.number.ensures.value) in
    rw c.number.ensures.value
    (append_becomes (g.F.Flash.tells && not v.failed) old new _ v.table v.draft id e c.in_ok-used.used bytes inside c.entry-entry.ensures.entry v.pending
    (where_told g.F.Flash.tells v.failed _ v.told) c.append_file.ensures.frame.size c.requires.some fits c.requires.last
    (λ none. c.in_ok-used.ensures.unlogged none ∙ regular.fits.unused none)
    (λ told. c.in_ok-used.ensures.becomes (told_by g.F.Flash.tells v.failed told).0))

pub returns-clause-records : goal.returns-clause-records
returns-clause-records g c =
    let v = c.args.self.now in
    let new = g.F.Flash.image c.append_file.new.flash in
    let e : Entry = c.entry-entry.result in
    let id : ℕ = c.args.id in
    let f : Entry = record { at = record e.at { size = e.at.size + length c.args.bytes.now; used = c.in_ok-used.used }; records = e.records; room = 0 } in
    let inside : id < length v.table = omega (arith, v.count, c.number.ensures.below, c.number.ensures.value) in
    let there = file_here _ id _ (room_set (g.F.Flash.tells && not v.failed) new v.table id f inside) in
    rw (c.number.ensures.value, there, c.entry-entry.ensures.file) refl

pub returns-clause-room : goal.returns-clause-room
returns-clause-room g c =
    let v = c.args.self.now in
    let new = g.F.Flash.image c.append_file.new.flash in
    let e : Entry = c.entry-entry.result in
    let id : ℕ = c.args.id in
    let f : Entry = record { at = record e.at { size = e.at.size + length c.args.bytes.now; used = c.in_ok-used.used }; records = e.records; room = 0 } in
    let inside : id < length v.table = omega (arith, v.count, c.number.ensures.below, c.number.ensures.value) in
    let there = file_here _ id _ (room_set (g.F.Flash.tells && not v.failed) new v.table id f inside) in
    rw (c.number.ensures.value, there) refl

pub returns-clause-units : goal.returns-clause-units
returns-clause-units g c = λ told.
    let v = c.args.self.now in
    let old = g.F.Flash.image v.flash in
    let new = g.F.Flash.image c.append_file.new.flash in
    let e : Entry = c.entry-entry.result in
    let bytes : List ℕ = c.args.bytes.now in
    let regular = c.entry-entry.ensures.regular in
    let both = told_by g.F.Flash.tells v.failed told in
    let room : length bytes ≤ e.room = omega (arith, c.requires.room, ap (λ (f : File). f.room) c.entry-entry.ensures.file) in
    let fits : e.at.size + length bytes + 32 ≤ 256 * e.at.pages = omega (arith, room, regular.room.fits) in
    (append_sets old new v.table v.draft c.args.id e c.in_ok-used.used bytes (v.told both.0 both.1) c.entry-entry.ensures.entry c.append_file.ensures.frame.size c.requires.some fits c.requires.last
    (λ none. c.in_ok-used.ensures.unlogged none ∙ regular.fits.unused none) (c.in_ok-used.ensures.becomes both.0)).units

pub returns-in_err-used-clause-cut : goal.returns-in_err-used-clause-cut
returns-in_err-used-clause-cut g c = λ u told.
    let v = c.args.self.now in
    let old = g.F.Flash.image v.flash in
    let e : Entry = c.entry-entry.result in
    let both = told_by g.F.Flash.tells v.failed told in
    let s : Stands g.F.Flash.tells v.failed old v.table v.draft = record { count = v.count; big = v.big; whole = v.whole; regular = v.regular; pending = v.pending; space = v.space; told = v.told } in
    let room : length c.args.bytes.now ≤ e.room = omega (arith, c.requires.room, ap (λ (f : File). f.room) c.entry-entry.ensures.file) in
    let fits : e.at.size + length c.args.bytes.now + 32 ≤ 256 * e.at.pages = omega (arith, room, c.entry-entry.ensures.regular.room.fits) in
    on_err c.from_residual.result
    (append_mends g.F.Flash.tells v.failed old (g.F.Flash.image c.append_file.new.flash) v.table v.draft c.args.id e c.args.bytes.now s told c.append_file.ensures.frame.size
    c.entry-entry.ensures.entry fits (c.in_err-used.ensures.cut both.0 u))

pub returns-clause-spares : goal.returns-clause-spares
returns-clause-spares g c = λ told.
    units_spared (g.F.Flash.image c.args.self.now.flash) (g.F.Flash.image c.append_file.new.flash) (returns-clause-units g c told)
