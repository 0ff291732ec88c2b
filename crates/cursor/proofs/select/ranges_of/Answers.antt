use Rattle.cursor.proofs.Planned.{eight_ranges}
use Rattle.cursor.proofs.select.ranges_of.Goals as goal

pub returns : goal.returns
returns c = λ attributes condition k.
    eight_ranges attributes condition c.derive.result c.derive-2.result c.derive-3.result c.derive-4.result c.derive-5.result c.derive-6.result c.derive-7.result c.derive-8.result
    (c.derive.ensures.range attributes condition k) (c.derive-2.ensures.range attributes condition k) (c.derive-3.ensures.range attributes condition k) (c.derive-4.ensures.range attributes condition k)
    (c.derive-5.ensures.range attributes condition k) (c.derive-6.ensures.range attributes condition k) (c.derive-7.ensures.range attributes condition k) (c.derive-8.ensures.range attributes condition k)
