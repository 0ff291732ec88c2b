use Rattle.std.proofs.Common.{◌≡◌, ◌*◌, false, true, ap, ◌∙◌, set, refl}
use Rattle.afl_sim.proofs.Caches.{set_twice, cache_erased}
use Rattle.afl_sim.proofs.cached.clear.Goals as goal

pub returns-clause-known : goal.returns-clause-known
returns-clause-known g c =
    set_twice c.args.known.now c.from-place.result c.from-place.result false true refl ∙ ap (λ i. set c.args.known.now i true) c.from-place.ensures

pub returns-clause-cache : goal.returns-clause-cache
returns-clause-cache g c =
    let place : 4096 * c.from-place.result ≡ 4096 * c.args.sector.0 = ap (λ n. 4096 * n) c.from-place.ensures in
    rw (returns-clause-known g c, c.erase_bytes.ensures, place)
    (cache_erased g.F.Flash.tells (g.F.Flash.image c.args.inner.now) (g.F.Flash.image c.erase.new.self) c.args.memory.now c.args.known.now c.args.sector.0
    c.requires.cache c.requires.kept c.in_ok-erase.ensures.frame.size c.in_ok-erase.ensures.erased)
