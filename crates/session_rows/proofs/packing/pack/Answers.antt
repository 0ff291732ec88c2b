use Rattle.std.proofs.Common.{refl}
use Rattle.afl_base.specs.Asked.{asks_few}
use Rattle.db_model.specs.declared.commands.Command.TheVariants as command
use Rattle.db_model.specs.Database.{relation_named}
use Rattle.db_model.specs.Step.{pack as pack_in}
use Rattle.session_model.specs.View.{view}
use Rattle.session_model.proofs.Views.{named_none}
use Rattle.session_model.proofs.Wanted.{relation_seen}
use Rattle.session_rows.specs.Changes.{HasOnlyLiveRows}
use Rattle.session_rows.proofs.Carried.{between_one, carries_failed, carries_of_one, if_found, unless_failed}
use Rattle.session_rows.proofs.Wants.{no_space, pack_wants}
use Rattle.std.proofs.lemmas.Result.{on_err_weaker}
use Rattle.session_rows.proofs.packing.pack.Goals as goal
use Rattle.session_model.proofs.Carrying.{carries_refused}

pub returns-in_default-clause-carried : goal.returns-in_default-clause-carried
returns-in_default-clause-carried g c =
    let base = c.args.base.now in
    carries_refused g.V.Files (command.Pack c.args.relation.now) base _ c.requires.running
    (λ told. rw (named_none (g.V.Files.state base.files).files base.held base.opens c.args.relation.now c.in_default.ensures.found) refl)

pub returns-in_err-answer-clause-carried : goal.returns-in_err-answer-clause-carried
returns-in_err-answer-clause-carried g c =
    let base = c.args.base.now in
    let relation = c.args.relation.now in
    let t = c.relation_at-tuples.result.now in
    let there = c.relation_at-tuples.ensures in
    carries_failed g.V.Files (command.Pack relation) base _ c.pack_at.result _ c.from_residual.result c.in_err-answer.was c.from_residual.ensures.1
    (λ reads. absurd reads)
    (λ cuts told sound. on_err_weaker c.pack_at.result
    (between_one g.V.Files base c.pack_at.new.files c.in-Some.k t c.requires.running told there sound (command.Pack relation) pack_in relation refl (c.in-Some.ensures.found t there) tt)
    (c.pack_at.ensures.cut cuts told))
    c.pack_at.ensures.frame

pub returns-clause-carried : goal.returns-clause-carried
returns-clause-carried g c =
    let base = c.args.base.now in
    let files = c.pack_at.new.files in
    let relation = c.args.relation.now in
    let k = c.in-Some.k in
    let t = c.relation_at-tuples.result.now in
    let there = c.relation_at-tuples.ensures in
    let found = c.in-Some.ensures.found t there in
    let h = c.in_ok-answer.ensures in
    carries_of_one g.V.Files (command.Pack relation) pack_in relation base files base.tables k t c.in_ok-answer.answer refl refl (λ reads. absurd reads) found there
    h.changed h.goes_on
    (λ told. no_space c.in_ok-answer.answer _ _ (λ need w. pack_wants (asks_few (g.V.Files.asks files) (g.V.Files.state files).files) (g.V.Files.state files).files base.held base.opens relation k t need found w) (h.wants told))
    h.lacks
    (λ told never. h.spares told (λ need w. never need (pack_wants (g.V.Files.asks base.files) (g.V.Files.state base.files).files base.held base.opens relation k t need found w)))
    h.untouched h.frame

pub returns-in_default-clause-idle : goal.returns-in_default-clause-idle
returns-in_default-clause-idle g c = λ told. if_found (relation_named (view (g.V.Files.state c.args.base.now.files).files c.args.base.now.held c.args.base.now.opens) c.args.relation.now) (λ found. HasOnlyLiveRows found.1) _ refl

pub returns-in_err-answer-clause-idle : goal.returns-in_err-answer-clause-idle
returns-in_err-answer-clause-idle g c = λ told.
    let base = c.args.base.now in
    if_found (relation_named (view (g.V.Files.state base.files).files base.held base.opens) c.args.relation.now) (λ found. HasOnlyLiveRows found.1) _
    (unless_failed c.from_residual.result _ _ c.from_residual.ensures.1)

pub returns-clause-idle : goal.returns-clause-idle
returns-clause-idle g c = λ told.
    let base = c.args.base.now in
    let files = (g.V.Files.state base.files).files in
    let t = c.relation_at-tuples.result.now in
    let same = relation_seen files base.held base.opens c.args.relation.now c.in-Some.k t (c.in-Some.ensures.found t c.relation_at-tuples.ensures) in
    rw same (c.in_ok-answer.ensures.idle told)
