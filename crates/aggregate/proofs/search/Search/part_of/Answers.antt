use Rattle.std.proofs.Common.{rules, arith, ◌≡◌, ◌-ℤ◌, pos, ◌+ℤ◌}
use Rattle.std.specs.Int.{w64}
use Rattle.std.specs.Prelude.{FitsSigned}
use Rattle.std.proofs.lemmas.Int.{ints, to_z-of_z}
use Rattle.aggregate.proofs.Searching.{is-above, part-behind, part-in, part-out}
use Rattle.aggregate.proofs.search.Search.part_of.Goals as goal

pub returns-in_default : goal.returns-in_default
returns-in_default c =
    let lo : FitsSigned w64 c.args.self.now.lo = search rules in
    part-out c.args.self.now c.args.number (rw c.width-width.ensures.value at c.width-width.ensures.few)
    (rw (to_z-of_z w64 c.args.self.now.lo lo, to_z-of_z w64 c.args.number c.ranges.number, to_z-of_z w64 (c.args.number -ℤ c.args.self.now.lo) c.requires) at c.in_default.ensures)

pub returns-then-part-lt16 : goal.returns-then-part-lt16
returns-then-part-lt16 c =
    let lo : FitsSigned w64 c.args.self.now.lo = search rules in
    let is = rw (to_z-of_z w64 c.args.self.now.lo lo, to_z-of_z w64 c.args.number c.ranges.number, to_z-of_z w64 (c.args.number -ℤ c.args.self.now.lo) c.requires) at c.in-Ok.ensures in
    let e = is-above (c.args.number -ℤ c.args.self.now.lo) c.in-Ok.above is.0 is.1 in
    let at : c.args.number ≡ c.args.self.now.lo +ℤ pos c.in-Ok.above = omega (arith, ints, e) in
    rw c.width-width.ensures.value (part-in c.args.self.now c.args.number c.in-Ok.above at (rw c.width-width.ensures.value at c.if-part-lt16.true))

pub returns-else-part-lt16 : goal.returns-else-part-lt16
returns-else-part-lt16 c =
    let lo : FitsSigned w64 c.args.self.now.lo = search rules in
    let is = rw (to_z-of_z w64 c.args.self.now.lo lo, to_z-of_z w64 c.args.number c.ranges.number, to_z-of_z w64 (c.args.number -ℤ c.args.self.now.lo) c.requires) at c.in-Ok.ensures in
    let e = is-above (c.args.number -ℤ c.args.self.now.lo) c.in-Ok.above is.0 is.1 in
    let at : c.args.number ≡ c.args.self.now.lo +ℤ pos c.in-Ok.above = omega (arith, ints, e) in
    part-behind c.args.self.now c.args.number c.in-Ok.above at (rw c.width-width.ensures.value at c.if-part-lt16.false)
