use Rattle.std.proofs.Common.{◌+◌, refl, arith, rules, sym, ap, ◌∙◌}
use Rattle.std.specs.Option.{option_map}
use Rattle.coffee_layout.specs.Files.{entry_with, files_in, logs_in}
use Rattle.coffee_layout.specs.Rules.{names_its_log}
use Rattle.coffee_layout.specs.Tiling.{nowhere}
use Rattle.coffee_layout.specs.Walks.{page_id}
use Rattle.coffee_layout.proofs.Failings.{FailTurn, fail_turn}
use Rattle.coffee_layout.proofs.Namings.{file_stands}
use Rattle.coffee_layout.specs.Units.{pages_of}
use Rattle.coffee_layout.proofs.naming.first_unlogged.Goals as goal
use Rattle.padded.proofs.Facts.{one_more_times}

pub returns-then-not-branch-clause-first : goal.returns-then-not-branch-clause-first
returns-then-not-branch-clause-first g c = λ t us tiled all.
    let image = g.F.Flash.image c.args.flash.now in
    let turn : FailTurn (names_its_log (logs_in us)) (files_in us) c.loop-file.file-index c.file-item.result c.in_ok-names_its_log.field-0 =
    fail_turn (names_its_log (logs_in us)) (λ f. entry_with f 0 0) (files_in us) c.args.table.now c.loop-file.file-index c.file-item.result c.in_ok-names_its_log.field-0 (λ f. refl) all (omega arith) c.file-item.is
    (λ front rest f whole is. (rw c.loop-file.invariant.same at (c.in_ok-names_its_log.ensures.names t)) us f tiled (ap (λ e. e.page.0) is) (file_stands nowhere image us front rest f tiled whole)) in
    sym (ap (option_map page_id) (sym (c.loop-file.invariant.searched t us tiled all) ∙ turn.found c.if-not-branch.true))

pub loop-file-preserved : goal.loop-file-preserved
loop-file-preserved g c = record {
  same = search rules;
  lent = search rules;
  reads =
      let file = (rw c.loop-file.invariant.same at c.in_ok-names_its_log.ensures.reads) in
      omega (arith, one_more_times c.loop-file.file-index (1 + pages_of (g.F.Flash.image c.args.flash.now)), file);
  later = search rules;
  faults = search rules;
  searched = λ t us tiled all.
      let image = g.F.Flash.image c.args.flash.now in
      let turn : FailTurn (names_its_log (logs_in us)) (files_in us) c.loop-file.file-index c.file-item.result c.in_ok-names_its_log.field-0 =
      fail_turn (names_its_log (logs_in us)) (λ f. entry_with f 0 0) (files_in us) c.args.table.now c.loop-file.file-index c.file-item.result c.in_ok-names_its_log.field-0 (λ f. refl) all (omega arith) c.file-item.is
      (λ front rest f whole is. (rw c.loop-file.invariant.same at (c.in_ok-names_its_log.ensures.names t)) us f tiled (ap (λ e. e.page.0) is) (file_stands nowhere image us front rest f tiled whole)) in
      turn.onward c.if-not-branch.false ∙ c.loop-file.invariant.searched t us tiled all;
}
