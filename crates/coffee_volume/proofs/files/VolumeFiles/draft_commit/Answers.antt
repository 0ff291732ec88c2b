use Rattle.std.proofs.Common.{◌&&◌, not, false}
use Rattle.coffee_volume.proofs.DraftWrites.{last_byte}
use Rattle.coffee_volume.proofs.Tables.{free_entry, unnamed_entries}
use Rattle.coffee_volume.proofs.files.VolumeFiles.draft_commit.Goals as goal

pub replace_by-requires-clause-last : goal.replace_by-requires-clause-last
replace_by-requires-clause-last g c =
    let v = c.args.self.now in
    last_byte (g.F.Flash.tells && not v.failed) (g.F.Flash.image v.flash) v.table v.draft c.drafted-draft.result c.drafted-draft.ensures c.requires.last

pub free_in-id-requires-clause-free : goal.free_in-id-requires-clause-free
free_in-id-requires-clause-free g c =
    let v = c.args.self.now in
    let d = c.drafted-draft.result in
    let none = unnamed_entries false (g.F.Flash.image v.flash) v.table d.name c.in-None.ensures.none in
    free_entry false (g.F.Flash.image v.flash) v.table v.count (v.space d c.drafted-draft.ensures none)

pub add-requires-clause-last : goal.add-requires-clause-last
add-requires-clause-last g c =
    let v = c.args.self.now in
    last_byte (g.F.Flash.tells && not v.failed) (g.F.Flash.image v.flash) v.table v.draft c.drafted-draft.result c.drafted-draft.ensures c.requires.last
