use Rattle.std.proofs.Common.{arith}
use Rattle.coffee_layout.specs.Tiling.{units_of}
use Rattle.run_look.proofs.Once.{all_once}
use Rattle.run_look.proofs.laws.each_page_is_counted_once.Goals as goal

pub returns : goal.returns
returns c = λ image size sound.
    let whole = (c.one_tiling.ensures.sound image size sound).whole in
    let once = all_once (units_of image) in
    omega (arith, whole, once, size)
