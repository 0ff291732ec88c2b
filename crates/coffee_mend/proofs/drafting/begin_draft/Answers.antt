use Rattle.std.proofs.Common.{Err, List, None, ap, arith, ℕ, ◌∙◌}
use Rattle.std.proofs.lemmas.Result.{err_from_is_err_and}
use Rattle.coffee_layout.specs.Tiling.{nowhere, units_of}
use Rattle.coffee_layout.specs.declared.unit.Unit.{Unit}
use Rattle.afl_base.specs.Image.{zeros_at}
use Rattle.coffee_merge.specs.Holding.{Entries}
use Rattle.coffee_mend.proofs.HiddenCollections.{hidden_tiled}
use Rattle.coffee_mend.proofs.HiddenDrafts.{LeavesUnits, collection_mends, draft_shown, files_left, header_mends, units_left}
use Rattle.coffee_mend.proofs.Joins.{space_on}
use Rattle.coffee_mend.specs.Joined.{HidesRecord, LeavesTable}
use Rattle.coffee_mend.proofs.drafting.begin_draft.Goals as goal

pub returns-clause-begun : goal.returns-clause-begun
returns-clause-begun g c = λ t table i place r.
    let old = g.F.Flash.image c.args.flash.now in
    let mid = g.F.Flash.image c.obtain.new.flash in
    let new = g.F.Flash.image c.put_draft.new.flash in
    let us : List Unit = units_of (zeros_at (g.F.Flash.image c.args.flash.now) place 128) in
    let tiled = hidden_tiled old place table i c.args.file.now r in
    draft_shown old mid place table i c.args.file.now r c.in_ok-page.ensures.frame.size (c.in_ok-page.ensures.kept t nowhere us tiled) new c.args.file.now.name c.args.file.now.kind c.in_ok-page.page.0 c.args.file.now.pages
    (c.in_ok-page.ensures.run t nowhere us tiled) c.requires.some (omega (arith, c.in_ok-page.ensures.inside, c.in_ok-page.ensures.frame.size, c.sectors.ensures.size, c.sectors.ensures.most)) c.put_draft.ensures.name c.args.file.now.size c.requires.shape c.requires.size (c.in_ok-put_draft.ensures.written t) c.put_draft.ensures.frame.size

pub returns-in_err-page-clause-left : goal.returns-in_err-page-clause-left
returns-in_err-page-clause-left g c = λ t.
    let old = g.F.Flash.image c.args.flash.now in
    let mid = g.F.Flash.image c.obtain.new.flash in
    let said = err_from_is_err_and c.from_residual.result c.from_residual.ensures.1 in
    space_on c.obtain.result c.from_residual.result c.in_err-page.field-0.0 (λ need. LeavesUnits (g.F.Flash.image c.args.flash.now) (g.F.Flash.image c.obtain.new.flash) need)
    (λ need. (table : Entries) (i place : ℕ) → HidesRecord old table None i c.args.file.now place → LeavesTable (zeros_at old place 128) (zeros_at mid place 128) table need)
    c.in_err-page.was (said.1 ∙ ap (λ e. Err e) said.2)
    (λ need l table i place r. files_left old mid place table i c.args.file.now r c.obtain.ensures.frame.size need l)
    (units_left c.obtain.result old mid (c.obtain.ensures.kept t) (c.obtain.ensures.cramped t))

pub returns-in_err-page-clause-cut : goal.returns-in_err-page-clause-cut
returns-in_err-page-clause-cut g c = λ t u failed table i place r.
    collection_mends (g.F.Flash.image c.args.flash.now) (g.F.Flash.image c.obtain.new.flash) place table i c.args.file.now r c.obtain.ensures.frame.size
    (c.in_err-page.ensures.cut t u nowhere (units_of (zeros_at (g.F.Flash.image c.args.flash.now) place 128)) (hidden_tiled (g.F.Flash.image c.args.flash.now) place table i c.args.file.now r))

pub returns-in_err-put_draft-clause-cut : goal.returns-in_err-put_draft-clause-cut
returns-in_err-put_draft-clause-cut g c = λ t u failed table i place r.
    let old = g.F.Flash.image c.args.flash.now in
    let mid = g.F.Flash.image c.obtain.new.flash in
    let new = g.F.Flash.image c.put_draft.new.flash in
    let us : List Unit = units_of (zeros_at (g.F.Flash.image c.args.flash.now) place 128) in
    let tiled = hidden_tiled old place table i c.args.file.now r in
    header_mends old mid place table i c.args.file.now r c.in_ok-page.ensures.frame.size (c.in_ok-page.ensures.kept t nowhere us tiled) new c.args.file.now.name c.args.file.now.kind c.in_ok-page.page.0 c.args.file.now.pages
    (c.in_ok-page.ensures.run t nowhere us tiled) c.requires.some (omega (arith, c.in_ok-page.ensures.inside, c.in_ok-page.ensures.frame.size, c.sectors.ensures.size, c.sectors.ensures.most)) c.put_draft.ensures.name (c.in_err-put_draft.ensures.cut t u) c.put_draft.ensures.frame.size
