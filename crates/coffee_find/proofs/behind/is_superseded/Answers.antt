use Rattle.std.proofs.Common.{◌≡◌, List, ℕ, ◌+◌, ◌*◌, Some, length, get_or, arith, ap, sym, subst, ◌∙◌}
use Rattle.afl_base.proofs.Images.{range_at}
use Rattle.coffee_cuts.specs.Cuts.{settled, without_two}
use Rattle.coffee_find.specs.Found.{IsRecordInside, meant, without_record}
use Rattle.coffee_find.specs.Search.{IsFirstRegion, NamesNone}
use Rattle.coffee_find.proofs.SettledSizes.{is_begun, not_none, settled_long, superseded, without_low}
use Rattle.coffee_find.proofs.behind.is_superseded.Goals as goal

pub returns-in_default-clause-no : goal.returns-in_default-clause-no
returns-in_default-clause-no g c = λ t n m e s.
    let image : List ℕ = g.F.Flash.image c.args.flash.now in
    let now : List ℕ = settled image (meant c.args.under_way.now) in
    let long : length now ≡ length image = settled_long image c.args.under_way.now c.requires.lies in
    let size : length now ≡ 4096 * c.sectors.result = long ∙ c.sectors.ensures.size in
    let inside : IsRecordInside (length now) c.args.torn.now = subst (λ x. IsRecordInside x c.args.torn.now) (sym long) c.requires.inside in
    let base : without_record now (Some c.args.torn.now) ≡ without_two now c.args.torn.now.log.0 c.args.torn.now.used = without_low now c.args.torn.now c.requires.low in
    let none : NamesNone (without_record now (Some c.args.torn.now)) c.args.torn.now.log = rw c.in_default.is at (c.in_ok-file.ensures.none t) in
    not_none now c.sectors.result size c.args.torn.now inside c.requires.low n m s (subst (λ x. NamesNone x c.args.torn.now.log) base none)

pub returns-clause-yes : goal.returns-clause-yes
returns-clause-yes g c = λ t n e.
    let image : List ℕ = g.F.Flash.image c.args.flash.now in
    let now : List ℕ = settled image (meant c.args.under_way.now) in
    let long : length now ≡ length image = settled_long image c.args.under_way.now c.requires.lies in
    let size : length now ≡ 4096 * c.sectors.result = long ∙ c.sectors.ensures.size in
    let inside : IsRecordInside (length now) c.args.torn.now = subst (λ x. IsRecordInside x c.args.torn.now) (sym long) c.requires.inside in
    let base : without_record now (Some c.args.torn.now) ≡ without_two now c.args.torn.now.log.0 c.args.torn.now.used = without_low now c.args.torn.now c.requires.low in
    let same = c.in_ok-file.ensures.frame.same in
    let f = rw c.in-Some.is at (c.in_ok-file.ensures.region t) in
    let bytes = rw same at (c.in_ok-number.ensures.bytes t) in
    let number = rw same at (c.in_ok-number.ensures.number t) in
    superseded now c.sectors.result size c.args.torn.now inside c.requires.low n c.in-Some.file c.region_of.new.into c.behind_of.new.into c.in_ok-number.number
    (subst (λ x. IsFirstRegion x c.args.torn.now.log c.in-Some.file c.region_of.new.into) base f)
    (λ k few. ap (λ xs. get_or xs k 0) bytes ∙ range_at now (c.args.torn.now.place + 128) (c.args.torn.now.place + 256) k (omega (arith, few)))
    number
    (c.is_begun.ensures.yes e)

pub returns-clause-no : goal.returns-clause-no
returns-clause-no g c = λ t n m e s.
    let image : List ℕ = g.F.Flash.image c.args.flash.now in
    let now : List ℕ = settled image (meant c.args.under_way.now) in
    let long : length now ≡ length image = settled_long image c.args.under_way.now c.requires.lies in
    let size : length now ≡ 4096 * c.sectors.result = long ∙ c.sectors.ensures.size in
    let inside : IsRecordInside (length now) c.args.torn.now = subst (λ x. IsRecordInside x c.args.torn.now) (sym long) c.requires.inside in
    let base : without_record now (Some c.args.torn.now) ≡ without_two now c.args.torn.now.log.0 c.args.torn.now.used = without_low now c.args.torn.now c.requires.low in
    let same = c.in_ok-file.ensures.frame.same in
    let f = rw c.in-Some.is at (c.in_ok-file.ensures.region t) in
    let bytes = rw same at (c.in_ok-number.ensures.bytes t) in
    let number = rw same at (c.in_ok-number.ensures.number t) in
    c.is_begun.ensures.no e (is_begun now c.sectors.result size c.args.torn.now inside c.requires.low n m s c.in-Some.file c.region_of.new.into c.behind_of.new.into c.in_ok-number.number
    (subst (λ x. IsFirstRegion x c.args.torn.now.log c.in-Some.file c.region_of.new.into) base f)
    (λ k few. ap (λ xs. get_or xs k 0) bytes ∙ range_at now (c.args.torn.now.place + 128) (c.args.torn.now.place + 256) k (omega (arith, few)))
    number)
