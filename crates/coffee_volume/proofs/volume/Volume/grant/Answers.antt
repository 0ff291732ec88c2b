use Rattle.std.proofs.Common.{◌<◌, ◌&&◌, not, ℕ, List, Option, Some, length, refl, sym, subst, ◌∙◌, arith}
use Rattle.afl_base.proofs.FileLaws.{file_here}
use Rattle.coffee_layout.specs.Units.{pages_of}
use Rattle.coffee_layout.specs.declared.file.FileAt.{FileAt}
use Rattle.coffee_merge.specs.Holding.{HoldsTable}
use Rattle.coffee_volume.specs.Volumes.{IsEntry, IsRegular, places}
use Rattle.coffee_volume.specs.declared.entry.Entry.{Entry}
use Rattle.coffee_volume.proofs.Moved.{room_becomes, same_place}
use Rattle.coffee_volume.proofs.Standing.{Stands, stands_same}
use Rattle.coffee_volume.proofs.States.{room_set}
use Rattle.coffee_volume.proofs.Stepped.{regular_granted}
use Rattle.coffee_volume.proofs.Tables.{in_places, places_set}
use Rattle.coffee_volume.proofs.Windows.{none_held}
use Rattle.coffee_volume.proofs.volume.Volume.grant.Goals as goal

pub invariant_of-self : goal.invariant_of-self
invariant_of-self g c =
    let v = c.args.self.now in
    record { count = v.count; big = v.big; whole = v.whole; regular = v.regular; pending = v.pending; space = v.space; told = v.told; shown = λ told e is k low. absurd (none_held _ k c.clear.ensures low) }

pub invariant_of-self-2 : goal.invariant_of-self-2
invariant_of-self-2 g c =
    let v = c.args.self.now in
    let image = g.F.Flash.image v.flash in
    let e : Entry = c.entry-entry.result in
    let i : ℕ = c.number.result in
    let s : Stands g.F.Flash.tells v.failed image v.table v.draft = record { count = v.count; big = v.big; whole = v.whole; regular = v.regular; pending = v.pending; space = v.space; told = v.told } in
    let is : IsEntry v.table i e = rw c.number.ensures.value c.entry-entry.ensures.entry in
    let fine : IsRegular (pages_of image) (record { at = e.at; records = c.args.records; room = c.args.room }) =
    regular_granted (pages_of image) e c.args.records c.args.room c.entry-entry.ensures.regular (c.requires.ready e c.entry-entry.ensures.entry) (omega (arith, c.requires.most, c.entry-entry.ensures.size)) in
    let k = stands_same g.F.Flash.tells v.failed image image v.table v.draft i e (record { at = e.at; records = c.args.records; room = c.args.room }) s refl c.number.ensures.below is refl fine
    (λ told fine. subst (λ (t : List (Option FileAt)). HoldsTable image t v.draft) (sym (same_place (places v.table) i e.at (in_places v.table i e is))) (v.told told fine)) in
    record { count = k.count; big = k.big; whole = k.whole; regular = k.regular; pending = k.pending; space = k.space; told = k.told; shown = λ told e is k low. absurd (none_held _ k c.clear.ensures low) }

pub returns-clause-contents : goal.returns-clause-contents
returns-clause-contents g c =
    let v = c.args.self.now in
    let id : ℕ = c.args.id in
    let inside : id < length v.table = omega (arith, v.count, c.number.ensures.below, c.number.ensures.value) in
    rw c.number.ensures.value
    (room_becomes (g.F.Flash.tells && not v.failed) (g.F.Flash.image v.flash) v.table v.draft id c.entry-entry.result c.args.records c.args.room inside c.entry-entry.ensures.entry)

pub returns-clause-records : goal.returns-clause-records
returns-clause-records g c =
    let v = c.args.self.now in
    let e : Entry = c.entry-entry.result in
    let id : ℕ = c.args.id in
    let f : Entry = record { at = e.at; records = c.args.records; room = c.args.room } in
    let inside : id < length v.table = omega (arith, v.count, c.number.ensures.below, c.number.ensures.value) in
    let there = file_here _ id _ (room_set (g.F.Flash.tells && not v.failed) (g.F.Flash.image v.flash) v.table id f inside) in
    rw (c.number.ensures.value, there) refl

pub returns-clause-room : goal.returns-clause-room
returns-clause-room g c =
    let v = c.args.self.now in
    let e : Entry = c.entry-entry.result in
    let id : ℕ = c.args.id in
    let f : Entry = record { at = e.at; records = c.args.records; room = c.args.room } in
    let inside : id < length v.table = omega (arith, v.count, c.number.ensures.below, c.number.ensures.value) in
    let there = file_here _ id _ (room_set (g.F.Flash.tells && not v.failed) (g.F.Flash.image v.flash) v.table id f inside) in
    rw (c.number.ensures.value, there) refl

pub returns-clause-places : goal.returns-clause-places
returns-clause-places g c =
    let v = c.args.self.now in
    let e : Entry = c.entry-entry.result in
    let i : ℕ = c.number.result in
    let f : Entry = record { at = e.at; records = c.args.records; room = c.args.room } in
    let is : IsEntry v.table i e = rw c.number.ensures.value c.entry-entry.ensures.entry in
    places_set v.table i (Some f) ∙ same_place (places v.table) i e.at (in_places v.table i e is)
