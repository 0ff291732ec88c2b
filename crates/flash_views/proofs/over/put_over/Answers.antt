use Rattle.std.proofs.Common.{arith}
use Rattle.flash_views.specs.Views.{blanked, emptied, with_mark}
use Rattle.flash_views.proofs.Overlays.{length_beside, length_marks, length_written}
use Rattle.flash_views.proofs.over.put_over.Goals as goal

pub returns : goal.returns
returns c = record {
  over = λ image i s.
      let o = c.args.overlay.now in
      c.put_two.ensures.over (blanked (emptied (with_mark (with_mark image o.first) o.second) o.sector) o.blank)
      (λ t e. let l = i.records t e in omega (arith, l, length_beside image o i)) (λ t e. let l = i.number t e in omega (arith, l, length_beside image o i))
      (c.put_blank.ensures.over (emptied (with_mark (with_mark image o.first) o.second) o.sector) (λ p e. let l = i.blank p e in omega (arith, l, length_written image o i))
      (c.put_sector.ensures.over (with_mark (with_mark image o.first) o.second) (λ x e. let l = i.sector x e in omega (arith, l, length_marks image o))
      (c.put_mark-2.ensures.over (with_mark image o.first) (c.put_mark.ensures.over image s))));
}
