use Rattle.std.proofs.Common.{◌≡◌, ◌+◌, ◌*◌, length, ◌∙◌, arith}
use Rattle.afl_sim.proofs.Caches.{store_covers, store_cut, store_programmed, cache_stored, cache_failed}
use Rattle.afl_sim.proofs.cached.store.Goals as goal

pub overwrite-requires-clause-covers : goal.overwrite-requires-clause-covers
overwrite-requires-clause-covers g c =
    store_covers g.F.Flash.tells (g.F.Flash.image c.args.inner.now) c.args.memory.now c.args.known.now c.args.page.0 c.args.at (256 * c.from.result + c.from-2.result) (256 * c.from.result + c.from-2.result + length c.args.bytes.now) c.args.bytes.now c.program_bytes.new.image
    c.requires.cache c.requires.known c.requires.page c.requires.range (omega (arith, c.from.ensures, c.from-2.ensures)) (omega arith) c.program_bytes.ensures

pub returns-in-Ok-clause-programmed : goal.returns-in-Ok-clause-programmed
returns-in-Ok-clause-programmed g c = λ told.
    c.in-Ok.ensures.programmed told ∙ store_programmed g.F.Flash.tells (g.F.Flash.image c.args.inner.now) c.args.memory.now c.args.known.now c.args.page.0 c.args.at (256 * c.from.result + c.from-2.result) (256 * c.from.result + c.from-2.result + length c.args.bytes.now) c.args.bytes.now c.program_bytes.new.image
    c.requires.cache c.requires.known c.requires.page c.requires.range (omega (arith, c.from.ensures, c.from-2.ensures)) (omega arith) c.program_bytes.ensures told

pub returns-in-Ok-clause-cache : goal.returns-in-Ok-clause-cache
returns-in-Ok-clause-cache g c =
    let place : 256 * c.from.result + c.from-2.result ≡ 256 * c.args.page.0 + c.args.at = omega (arith, c.from.ensures, c.from-2.ensures) in
    rw (c.program_bytes.ensures, place)
    (cache_stored g.F.Flash.tells (g.F.Flash.image c.args.inner.now) (g.F.Flash.image c.overwrite.new.self) c.args.memory.now c.args.known.now c.args.page.0 c.args.at c.args.bytes.now
    c.requires.cache c.requires.known c.requires.page c.requires.range c.in-Ok.ensures.frame.size (returns-in-Ok-clause-programmed g c))

pub returns-in-Err-clause-cache : goal.returns-in-Err-clause-cache
returns-in-Err-clause-cache g c =
    let place : 256 * c.from.result + c.from-2.result ≡ 256 * c.args.page.0 + c.args.at = omega (arith, c.from.ensures, c.from-2.ensures) in
    rw (c.program_bytes.ensures, place, c.from-in-Err.ensures)
    (cache_failed g.F.Flash.tells (g.F.Flash.image c.args.inner.now) (g.F.Flash.image c.overwrite.new.self) c.args.memory.now c.args.known.now c.args.page.0 c.args.at c.args.bytes.now
    c.requires.cache c.requires.known c.requires.range c.in-Err.ensures.frame.size c.in-Err.ensures.other_pages)

pub returns-in-Err-clause-cut : goal.returns-in-Err-clause-cut
returns-in-Err-clause-cut g c = λ told cuts.
    store_cut g.F.Flash.tells (g.F.Flash.image c.args.inner.now) (g.F.Flash.image c.overwrite.new.self) c.args.memory.now c.args.known.now c.args.page.0 c.args.at (256 * c.from.result + c.from-2.result) (256 * c.from.result + c.from-2.result + length c.args.bytes.now) c.args.bytes.now c.program_bytes.new.image
    c.requires.cache c.requires.known c.requires.page c.requires.range (omega (arith, c.from.ensures, c.from-2.ensures)) (omega arith) c.program_bytes.ensures told (c.in-Err.ensures.cut told cuts)
