use Rattle.std.proofs.Common.{◌≡◌, ◌+◌, ◌-◌, ◌≤◌, ◌<◌, ◌&&◌, not, ℕ, List, length, refl, sym, ap, ◌∙◌, arith}
use Rattle.afl_base.specs.Files.{File}
use Rattle.afl_base.proofs.FileLaws.{file_here}
use Rattle.padded.proofs.Facts.{on_err}
use Rattle.coffee_volume.specs.Volumes.{IsEntry}
use Rattle.coffee_volume.specs.declared.entry.Entry.{Entry}
use Rattle.coffee_volume.proofs.MendedFiles.{overwrite_mends}
use Rattle.coffee_volume.proofs.Rooms.{regular_overwritten}
use Rattle.coffee_volume.proofs.Standing.{Stands, stands_failed, stands_same, where_told}
use Rattle.coffee_volume.proofs.States.{room_set}
use Rattle.coffee_volume.proofs.Tables.{told_by}
use Rattle.coffee_volume.proofs.Written.{overwrite_becomes, overwrite_sets}
use Rattle.coffee_volume.proofs.Asking.{units_spared}
use Rattle.coffee_volume.proofs.Windows.{none_held}
use Rattle.coffee_volume.proofs.files.VolumeFiles.overwrite.Goals as goal

pub invariant_of-self : goal.invariant_of-self
invariant_of-self g c =
    let v = c.args.self.now in
    let s : Stands g.F.Flash.tells v.failed (g.F.Flash.image v.flash) v.table v.draft = record { count = v.count; big = v.big; whole = v.whole; regular = v.regular; pending = v.pending; space = v.space; told = v.told } in
    let k = stands_failed g.F.Flash.tells v.failed (g.F.Flash.image v.flash) (g.F.Flash.image c.overwrite_file.new.flash) v.table v.draft s c.overwrite_file.ensures.frame.size in
    record { count = k.count; big = k.big; whole = k.whole; regular = k.regular; pending = k.pending; space = k.space; told = k.told; shown = λ told e is k low. absurd (none_held _ k c.clear.ensures low) }

pub invariant_of-self-2 : goal.invariant_of-self-2
invariant_of-self-2 g c =
    let v = c.args.self.now in
    let old = g.F.Flash.image v.flash in
    let new = g.F.Flash.image c.overwrite_file.new.flash in
    let e : Entry = c.entry-entry.result in
    let i : ℕ = c.number.result in
    let bytes : List ℕ = c.args.bytes.now in
    let s : Stands g.F.Flash.tells v.failed old v.table v.draft = record { count = v.count; big = v.big; whole = v.whole; regular = v.regular; pending = v.pending; space = v.space; told = v.told } in
    let is : IsEntry v.table i e = rw c.number.ensures.value c.entry-entry.ensures.entry in
    let n : ℕ = c.in_ok-used.used in
    let taken : ℕ = c.from-taken.result in
    let used : n ≡ e.at.used + taken = omega (arith, c.in_ok-used.ensures.used, c.from-taken.ensures) in
    let few : taken ≤ e.records = omega (arith, c.in_ok-used.ensures.used, c.from-taken.ensures, c.requires.records, ap (λ (f : File). f.records) c.entry-entry.ensures.file) in
    let within : c.args.at + length bytes ≤ e.at.size = omega (arith, c.requires.range, c.entry-entry.ensures.size) in
    let f : Entry = record { at = record e.at { used = n }; records = e.records - taken; room = e.room } in
    let k = stands_same g.F.Flash.tells v.failed old new v.table v.draft i e f s c.overwrite_file.ensures.frame.size c.number.ensures.below is refl
    (regular_overwritten _ e c.in-Some.log n taken c.entry-entry.ensures.regular c.in-Some.is used few)
    (λ told no. (overwrite_sets old new v.table v.draft i e c.in-Some.log n c.args.at bytes (v.told told no) is c.overwrite_file.ensures.frame.size c.in-Some.is c.requires.some within
    (λ all. c.requires.last (all ∙ sym c.entry-entry.ensures.size)) (c.in_ok-used.ensures.becomes told)).holds) in
    record { count = k.count; big = k.big; whole = k.whole; regular = k.regular; pending = k.pending; space = k.space; told = k.told; shown = λ told e is k low. absurd (none_held _ k c.clear.ensures low) }

pub returns-clause-overwritten : goal.returns-clause-overwritten
returns-clause-overwritten g c =
    let v = c.args.self.now in
    let old = g.F.Flash.image v.flash in
    let new = g.F.Flash.image c.overwrite_file.new.flash in
    let e : Entry = c.entry-entry.result in
    let bytes : List ℕ = c.args.bytes.now in
    let id : ℕ = c.args.id in
    let within : c.args.at + length bytes ≤ e.at.size = omega (arith, c.requires.range, c.entry-entry.ensures.size) in
    let inside : id < length v.table = omega (arith, v.count, c.number.ensures.below, c.number.ensures.value) in
    rw c.number.ensures.value
    (overwrite_becomes (g.F.Flash.tells && not v.failed) old new _ v.table v.draft id e c.in-Some.log c.in_ok-used.used (e.records - c.from-taken.result) c.args.at bytes inside c.entry-entry.ensures.entry v.pending
    (where_told g.F.Flash.tells v.failed _ v.told) c.overwrite_file.ensures.frame.size c.in-Some.is c.requires.some within (λ all. c.requires.last (all ∙ sym c.entry-entry.ensures.size))
    (λ told. c.in_ok-used.ensures.becomes (told_by g.F.Flash.tells v.failed told).0))

pub returns-clause-records : goal.returns-clause-records
returns-clause-records g c =
    let v = c.args.self.now in
    let new = g.F.Flash.image c.overwrite_file.new.flash in
    let e : Entry = c.entry-entry.result in
    let id : ℕ = c.args.id in
    let f : Entry = record { at = record e.at { used = c.in_ok-used.used }; records = e.records - c.from-taken.result; room = e.room } in
    let inside : id < length v.table = omega (arith, v.count, c.number.ensures.below, c.number.ensures.value) in
    let there = file_here _ id _ (room_set (g.F.Flash.tells && not v.failed) new v.table id f inside) in
    rw (c.number.ensures.value, there, c.entry-entry.ensures.file)
    (omega (arith, c.in_ok-used.ensures.used, c.from-taken.ensures, c.requires.records, ap (λ (x : File). x.records) c.entry-entry.ensures.file))

pub returns-clause-room : goal.returns-clause-room
returns-clause-room g c =
    let v = c.args.self.now in
    let new = g.F.Flash.image c.overwrite_file.new.flash in
    let e : Entry = c.entry-entry.result in
    let id : ℕ = c.args.id in
    let f : Entry = record { at = record e.at { used = c.in_ok-used.used }; records = e.records - c.from-taken.result; room = e.room } in
    let inside : id < length v.table = omega (arith, v.count, c.number.ensures.below, c.number.ensures.value) in
    let there = file_here _ id _ (room_set (g.F.Flash.tells && not v.failed) new v.table id f inside) in
    rw (c.number.ensures.value, there, c.entry-entry.ensures.file) refl

pub returns-clause-units : goal.returns-clause-units
returns-clause-units g c = λ told.
    let v = c.args.self.now in
    let old = g.F.Flash.image v.flash in
    let new = g.F.Flash.image c.overwrite_file.new.flash in
    let e : Entry = c.entry-entry.result in
    let bytes : List ℕ = c.args.bytes.now in
    let both = told_by g.F.Flash.tells v.failed told in
    let within : c.args.at + length bytes ≤ e.at.size = omega (arith, c.requires.range, c.entry-entry.ensures.size) in
    (overwrite_sets old new v.table v.draft c.args.id e c.in-Some.log c.in_ok-used.used c.args.at bytes (v.told both.0 both.1) c.entry-entry.ensures.entry c.overwrite_file.ensures.frame.size c.in-Some.is c.requires.some within
    (λ all. c.requires.last (all ∙ sym c.entry-entry.ensures.size)) (c.in_ok-used.ensures.becomes both.0)).units

pub returns-in_err-used-clause-cut : goal.returns-in_err-used-clause-cut
returns-in_err-used-clause-cut g c = λ u told.
    let v = c.args.self.now in
    let old = g.F.Flash.image v.flash in
    let e : Entry = c.entry-entry.result in
    let both = told_by g.F.Flash.tells v.failed told in
    let s : Stands g.F.Flash.tells v.failed old v.table v.draft = record { count = v.count; big = v.big; whole = v.whole; regular = v.regular; pending = v.pending; space = v.space; told = v.told } in
    let within : c.args.at + length c.args.bytes.now ≤ e.at.size = omega (arith, c.requires.range, c.entry-entry.ensures.size) in
    on_err c.from_residual.result
    (overwrite_mends g.F.Flash.tells v.failed old (g.F.Flash.image c.overwrite_file.new.flash) v.table v.draft c.args.id e c.in-Some.log c.args.at c.args.bytes.now s told c.overwrite_file.ensures.frame.size
    c.entry-entry.ensures.entry c.in-Some.is within (λ all. c.requires.last (all ∙ sym c.entry-entry.ensures.size)) (c.in_err-used.ensures.cut both.0 u))

pub returns-clause-spares : goal.returns-clause-spares
returns-clause-spares g c = λ told.
    units_spared (g.F.Flash.image c.args.self.now.flash) (g.F.Flash.image c.overwrite_file.new.flash) (returns-clause-units g c told)
