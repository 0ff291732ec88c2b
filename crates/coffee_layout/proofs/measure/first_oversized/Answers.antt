use Rattle.std.proofs.Common.{refl, arith, sym, ap, ◌∙◌}
use Rattle.std.specs.Option.{option_map}
use Rattle.coffee_layout.specs.Files.{entry_of}
use Rattle.coffee_layout.specs.Rules.{has_few_pages}
use Rattle.coffee_layout.specs.Walks.{has_few, page_id}
use Rattle.coffee_layout.proofs.Failings.{FailTurn, fail_turn}
use Rattle.coffee_layout.proofs.Measures.{few_same}
use Rattle.coffee_layout.proofs.measure.first_oversized.Goals as goal

pub returns-then-not-has_few_pages : goal.returns-then-not-has_few_pages
returns-then-not-has_few_pages c = λ image files all.
    let turn : FailTurn (has_few_pages image) files c.loop-file.file-index c.file-item.result c.has_few_pages.result =
    fail_turn (has_few_pages image) (entry_of image) files c.args.table.now c.loop-file.file-index c.file-item.result c.has_few_pages.result (λ f. refl) all (omega arith) c.file-item.is
    (λ front rest f whole is. c.has_few_pages.ensures ∙ ap has_few is ∙ few_same image f) in
    sym (ap (option_map page_id) (sym (c.loop-file.invariant image files all) ∙ turn.found c.if-not-has_few_pages.true))

pub loop-file-preserved : goal.loop-file-preserved
loop-file-preserved c = λ image files all.
    let turn : FailTurn (has_few_pages image) files c.loop-file.file-index c.file-item.result c.has_few_pages.result =
    fail_turn (has_few_pages image) (entry_of image) files c.args.table.now c.loop-file.file-index c.file-item.result c.has_few_pages.result (λ f. refl) all (omega arith) c.file-item.is
    (λ front rest f whole is. c.has_few_pages.ensures ∙ ap has_few is ∙ few_same image f) in
    turn.onward c.if-not-has_few_pages.false ∙ c.loop-file.invariant image files all
