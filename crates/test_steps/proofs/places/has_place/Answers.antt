use Rattle.std.proofs.Common.{rules, ◌<◌}
use Rattle.test_steps.proofs.places.has_place.Goals as goal
use Rattle.afl_base.proofs.UsedLaws.{used_below_32}

pub returns-in-Some : goal.returns-in-Some
returns-in-Some g c = record {
  place = λ free.
      let inside : c.in-Some.last < 32 = search rules in
      used_below_32 (g.V.Files.state c.args.files.now).files c.in-Some.last c.live.ensures.places inside (rw (← c.live.ensures.live) free);
}
