use Rattle.std.proofs.Common.{arith, sym, subst}
use Rattle.afl_base.specs.Image.{zeros_at}
use Rattle.afl_base.proofs.Images.{length_zeros_at}
use Rattle.flash_views.specs.Views.{StandAt, cleared}
use Rattle.flash_views.proofs.over.put_two.Goals as goal

pub returns-in-Some : goal.returns-in-Some
returns-in-Some c = record {
  over = λ image records number s.
      let t = c.in-Some.two in
      let first = records t c.in-Some.is in
      let second = number t c.in-Some.is in
      subst (λ o. StandAt (cleared image o) c.args.place c.put_zeros-in-Some.new.into) (sym c.in-Some.is)
      (c.put_zeros-in-Some.ensures.over (zeros_at image t.records 256) (omega (arith, second, length_zeros_at image t.records 256 first)) (c.put_zeros.ensures.over image first s));
}
