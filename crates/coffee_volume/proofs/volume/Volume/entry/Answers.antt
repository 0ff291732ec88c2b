use Rattle.std.proofs.Common.{◌∙◌, None, not, ◌&&◌, length, ap, sym, arith}
use Rattle.std.proofs.lemmas.List.{get_or_default}
use Rattle.afl_base.specs.Files.{File}
use Rattle.coffee_volume.proofs.Tables.{file_of, only_named, size_seen, stored_here, told_by}
use Rattle.coffee_volume.proofs.volume.Volume.entry.Goals as goal

pub returns-clause-entry : goal.returns-clause-entry
returns-clause-entry g c =
    let v = c.args.self.now in
    rw (sym c.number.ensures.value) (get_or_default v.table c.number.result None _ (omega (arith, v.count, c.number.ensures.below)) ∙ c.in-Some.is)

pub returns-clause-regular : goal.returns-clause-regular
returns-clause-regular g c = c.args.self.now.regular.each c.args.id c.in-Some.entry (returns-clause-entry g c)

pub returns-clause-stored : goal.returns-clause-stored
returns-clause-stored g c told =
    let v = c.args.self.now in
    let both = told_by g.F.Flash.tells v.failed told in
    stored_here (g.F.Flash.image v.flash) v.table v.draft c.args.id c.in-Some.entry (v.told both.0 both.1) (returns-clause-entry g c)

pub returns-clause-size : goal.returns-clause-size
returns-clause-size g c =
    let v = c.args.self.now in
    let tells = g.F.Flash.tells && not v.failed in
    ap (λ (f : File). length f.bytes) (file_of tells (g.F.Flash.image v.flash) v.table c.args.id c.in-Some.entry (returns-clause-entry g c))
    ∙ size_seen tells (g.F.Flash.image v.flash) c.in-Some.entry.at (returns-clause-stored g c)

pub returns-clause-only : goal.returns-clause-only
returns-clause-only g c =
    let v = c.args.self.now in
    only_named (g.F.Flash.tells && not v.failed) (g.F.Flash.image v.flash) _ v.table c.args.id c.in-Some.entry v.regular (returns-clause-entry g c)
