use Rattle.std.proofs.Common.{rules, ◌≡◌, ◌/◌, get_or, false}
use Rattle.afl_sim.proofs.Caches.{cache_passed}
use Rattle.afl_sim.proofs.cached.CachedFlashFlash.program.Goals as goal

pub invariant_of-self : goal.invariant_of-self
invariant_of-self g c =
    let unknown : get_or c.self.inside.known.now (c.args.page.0 / 16) false ≡ false = search rules in
    cache_passed g.F.Flash.tells (g.F.Flash.image c.self.inside.inner) (g.F.Flash.image c.program.new.self) c.self.inside.memory.now c.self.inside.known.now c.args.page.0
    c.self.invariant unknown c.in_err-program.ensures.frame.size c.in_err-program.ensures.other_pages

pub invariant_of-self-then-not-knows : goal.invariant_of-self-then-not-knows
invariant_of-self-then-not-knows g c =
    let unknown : get_or c.self.inside.known.now (c.args.page.0 / 16) false ≡ false = search rules in
    cache_passed g.F.Flash.tells (g.F.Flash.image c.self.inside.inner) (g.F.Flash.image c.program.new.self) c.self.inside.memory.now c.self.inside.known.now c.args.page.0
    c.self.invariant unknown c.in_ok-program.ensures.frame.size c.in_ok-program.ensures.other_pages
