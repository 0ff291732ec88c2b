use Rattle.std.proofs.Common.{◌≡◌, ◌+◌, ◌*◌, arith, ap, ◌∙◌}
use Rattle.coffee_layout.specs.FileBytes.{file_byte}
use Rattle.std.proofs.lemmas.List.{get_or-replicate}
use Rattle.coffee_mend.proofs.completing.load_region.Goals as goal

pub returns-clause-region : goal.returns-clause-region
returns-clause-region g c = λ told. record {
  here = λ k few within.
      let at : 128 * c.from-at.result + k ≡ 128 * c.args.region + k = omega (arith, c.from-at.ensures) in
      c.in_ok-load_front.ensures.bytes told k (omega (arith, few, within, c.from-at.ensures, c.from.ensures, c.min-len.ensures))
      ∙ ap (file_byte (g.F.Flash.image c.args.flash.now) c.args.file.now.page.0 c.args.file.now.log) at;
  behind = λ k few past. c.load_front.ensures.behind k (omega (arith, past, c.from-at.ensures, c.from.ensures, c.min-len.ensures)) ∙ get_or-replicate 128 k 0 0 few;
}
