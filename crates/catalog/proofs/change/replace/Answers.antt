use Rattle.std.proofs.Common.{arith, sym, ◌∙◌}
use Rattle.padded.proofs.Facts.{on_err}
use Rattle.afl_base.proofs.CutLaws.{mends_as}
use Rattle.catalog.proofs.Changes.{change_of_version_1, first_change, later_change}
use Rattle.catalog.proofs.Cuts.{first_cut, mark_cut, slot_cut}
use Rattle.catalog.proofs.change.replace.Goals as goal

pub returns-then-size-eq0-clause-replaced : goal.returns-then-size-eq0-clause-replaced
returns-then-size-eq0-clause-replaced g c =
    first_change (g.V.Files.state c.args.files.now) _ c.args.cat c.args.at c.args.slot.now c.first_catalog.result (sym c.size-size.ensures ∙ c.if-size-eq0.true) c.requires.inside c.first_catalog.ensures.value c.in_ok-append.ensures.appended

pub returns-then-size-eq-SIZE_OF_VERSION_2-clause-replaced : goal.returns-then-size-eq-SIZE_OF_VERSION_2-clause-replaced
returns-then-size-eq-SIZE_OF_VERSION_2-clause-replaced g c =
    later_change (g.V.Files.state c.args.files.now) _ c.args.cat c.args.at c.args.slot.now (sym c.size-size.ensures ∙ c.if-size-eq-SIZE_OF_VERSION_2.true) c.in_ok-overwrite.ensures.overwritten

pub returns-clause-replaced : goal.returns-clause-replaced
returns-clause-replaced g c =
    change_of_version_1 (g.V.Files.state c.args.files.now) _ _ c.args.cat c.args.at c.args.slot.now (grind arith) c.requires.inside c.in_ok-overwrite.ensures.overwritten c.in_ok-append-2.ensures.appended

pub returns-in_err-append-clause-cut : goal.returns-in_err-append-clause-cut
returns-in_err-append-clause-cut g c = λ cuts told. on_err c.from_residual.result (mends_as (c.in_err-append.ensures.cut cuts told) (λ after front.
    first_cut (g.V.Files.state c.args.files.now) after c.args.cat c.args.at c.args.slot.now c.first_catalog.result c.requires.live (sym c.size-size.ensures ∙ c.if-size-eq0.true) c.first_catalog.ensures.value told front))

pub returns-in_err-overwrite-clause-cut : goal.returns-in_err-overwrite-clause-cut
returns-in_err-overwrite-clause-cut g c = λ cuts told. on_err c.from_residual-in_err-overwrite.result (mends_as (c.in_err-overwrite.ensures.cut cuts told) (λ after front.
    slot_cut (g.V.Files.state c.args.files.now) after c.args.cat c.args.at c.args.slot.now c.requires.live (grind arith) told front))

pub returns-in_err-append-2-clause-cut : goal.returns-in_err-append-2-clause-cut
returns-in_err-append-2-clause-cut g c = λ cuts told.
    let put = c.in_ok-overwrite.ensures.overwritten in
    on_err c.from_residual-in_err-append-2.result (mends_as (c.in_err-append-2.ensures.cut cuts (put.tells ∙ told)) (λ after front.
    mark_cut (g.V.Files.state c.args.files.now) _ after c.args.cat c.args.at c.args.slot.now c.requires.live (grind arith) c.requires.inside told put front))
