use Rattle.std.proofs.Common.{◌≡◌, ◌≤◌, ◌<◌, ◌+◌, ◌-◌, ◌∙◌, sym, ap, arith, List, ℕ, length}
use Rattle.catalog.specs.Rules.{catalog_bytes_in}
use Rattle.padded.proofs.Facts.{false_true}
use Rattle.space_model.specs.FileNames.{catalog_file}
use Rattle.stored_survey.proofs.HalfParts.{only_bytes}
use Rattle.stored_survey.proofs.Marks.{absent_decides, early_refused, front_mark, mark_front, mark_long}
use Rattle.stored_survey.proofs.Seen.{carried, refused}
use Rattle.stored_survey.proofs.mark.ends_as_cut.Goals as goal

pub returns-then-size-eq-SIZE_OF_VERSION_1-clause-mark : goal.returns-then-size-eq-SIZE_OF_VERSION_1-clause-mark
returns-then-size-eq-SIZE_OF_VERSION_1-clause-mark g c = λ told read.
    let files = (g.V.Files.state c.args.files.now).files in
    let long = ap (λ (xs : List ℕ). length xs) (only_bytes files c.args.cat catalog_file c.requires.whole.named c.requires.whole.only) in
    absent_decides files c.args.half.now c.may_lack_mark-may.result c.args.catalog.now.version c.args.catalog.now.relations
    (sym long ∙ sym c.size-size.ensures ∙ c.if-size-eq-SIZE_OF_VERSION_1.true) read.version read.relations c.may_lack_mark-may.ensures

pub returns-then-size-clause-mark : goal.returns-then-size-clause-mark
returns-then-size-clause-mark g c = λ told read.
    let files = (g.V.Files.state c.args.files.now).files in
    let long = ap (λ (xs : List ℕ). length xs) (only_bytes files c.args.cat catalog_file c.requires.whole.named c.requires.whole.only) in
    refused (mark_long files c.args.half.now (omega (arith, long, c.size-size.ensures, c.if-size.true)))

pub returns-then-not-may_have_front-clause-mark : goal.returns-then-not-may_have_front-clause-mark
returns-then-not-may_have_front-clause-mark g c = λ told read.
    let files = (g.V.Files.state c.args.files.now).files in
    let long = ap (λ (xs : List ℕ). length xs) (only_bytes files c.args.cat catalog_file c.requires.whole.named c.requires.whole.only) in
    let n : ℕ = c.size-size.result - 1472 in
    refused (early_refused files c.args.half.now n
    (omega (arith, long, c.size-size.ensures, c.requires.whole.long))
    (omega (arith, c.size-size.ensures, c.requires.whole.long, c.if-size-eq-SIZE_OF_VERSION_1.false))
    (omega (arith, c.if-size.false))
    (λ may. false_true c.may_have_front.result c.if-not-may_have_front.true (c.may_have_front.ensures.1 may)))

pub returns-clause-mark : goal.returns-clause-mark
returns-clause-mark g c = λ told read.
    let files = (g.V.Files.state c.args.files.now).files in
    let long = ap (λ (xs : List ℕ). length xs) (only_bytes files c.args.cat catalog_file c.requires.whole.named c.requires.whole.only) in
    let n : ℕ = c.size-size.result - 1472 in
    let size : length (catalog_bytes_in files) ≡ 1472 + n = omega (arith, long, c.size-size.ensures, c.requires.whole.long) in
    let some : 0 < n = omega (arith, c.size-size.ensures, c.requires.whole.long, c.if-size-eq-SIZE_OF_VERSION_1.false) in
    let few : n ≤ 8 = omega (arith, c.if-size.false) in
    carried c.in_ok-front.front (c.in_ok-front.ensures.front told)
    (mark_front files c.args.half.now n size some few (c.may_have_front.ensures.0 c.if-not-may_have_front.false))
    (front_mark files c.args.half.now n size some few)
