use Rattle.std.proofs.Common.{◌≡◌, List, ℕ, ◌*◌, false, None, length, arith, ◌∙◌}
use Rattle.afl_base.specs.Image.{zeros_at}
use Rattle.coffee_cuts.specs.Cuts.{IsSettled, settled}
use Rattle.coffee_layout.specs.FileBytes.{table_of, used_in}
use Rattle.coffee_layout.specs.Rules.{broken_image}
use Rattle.coffee_find.specs.Found.{meant}
use Rattle.coffee_find.proofs.Missed.{last_missed}
use Rattle.coffee_find.proofs.Results.{ok_then}
use Rattle.coffee_find.proofs.SettledSizes.{settled_long}
use Rattle.coffee_find.proofs.settling.is_torn.Goals as goal

pub returns-else-torn-lt29-clause-no : goal.returns-else-torn-lt29-clause-no
returns-else-torn-lt29-clause-no g c = λ t n m.
    let image : List ℕ = g.F.Flash.image c.args.flash.now in
    let now : List ℕ = settled image (meant c.args.under_way.now) in
    let size : length now ≡ 4096 * c.sectors.result = settled_long image c.args.under_way.now c.requires.lies ∙ c.sectors.ensures.size in
    let used : used_in (table_of now c.args.torn.now.log.0) ≡ 29 = omega (arith, n.used, n.free, c.if-torn-lt29.false) in
    ok_then (λ r. r ≡ false → broken_image (zeros_at now c.args.torn.now.place 128) ≡ None → ⊥) (λ r. r ≡ false → IsSettled now → ⊥) c.is_last_torn.result
    (λ r blank e s. last_missed now c.sectors.result c.args.torn.now.log.0 c.args.torn.now.place size m n.next used (blank e) s) (c.is_last_torn.ensures.no t)
