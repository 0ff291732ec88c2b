use Rattle.std.proofs.Common.{arith, Ok, Err, ◌∙◌, refl}
use Rattle.db_model.specs.declared.commands.Command.TheVariants as command
use Rattle.db_model.specs.Step.{step}
use Rattle.session_model.specs.declared.step.Outcome.TheVariants as came
use Rattle.afl_base.specs.declared.fault.Fault.TheVariants.{Flash, Sink as OfSink}
use Rattle.session_model.specs.Aheads.{aheads_of}
use Rattle.session_model.specs.View.{view}
use Rattle.session_queries.specs.Replies.{ReadsNoMore}
use Rattle.session_queries.proofs.Left.{aggregated_leaves, answers_rows, refusal_failed, refusal_written, sent_frame, unread_frame, unsent_frame}
use Rattle.session_queries.proofs.Lines.{numbers_done, numbers_less}
use Rattle.session_queries.proofs.Seen.{aggregated_cost, has_slots, is_ready}
use Rattle.session_queries.proofs.aggregating.aggregate.Goals as goal
use Rattle.session_model.proofs.Carrying.{none_replied}

pub plan_folds-requires-clause-slots : goal.plan_folds-requires-clause-slots
plan_folds-requires-clause-slots g c =
    let base = c.args.base.now in
    has_slots (g.V.Files.state base.files) base.tables base.held base.opens c.requires.running

pub folded-requires-clause-ready : goal.folded-requires-clause-ready
folded-requires-clause-ready g c =
    let base = c.args.base.now in
    is_ready (g.V.Files.state base.files) base.tables base.held base.opens c.requires.running c.args.relation.now c.in-Ok.aggregating.found c.in-Ok.ensures.found

pub returns-in-Ok-write_refusal : goal.returns-in-Ok-write_refusal
returns-in-Ok-write_refusal g c =
    let base = c.args.base.now in
    let state = g.V.Files.state base.files in
    let list = c.args.list.now in
    let name = c.args.relation.now in
    let nodes = c.args.condition.now in
    record {
      written = refusal_written g.V.Files g.K.Sink (command.Aggregate list name nodes) (aggregated_leaves list name nodes) base c.args.out.now c.write_refusal.new.out c.in-Err.refusal c.requires.running
          (c.in-Err.ensures.refused state.files base.opens) _ c.in-Ok-write_refusal.ensures.written c.in-Ok-write_refusal.ensures.frame;
      reads = λ t. omega arith;
      files_only = refl;
    }

pub returns-in-Err-write_refusal : goal.returns-in-Err-write_refusal
returns-in-Err-write_refusal g c =
    let base = c.args.base.now in
    let state = g.V.Files.state base.files in
    let list = c.args.list.now in
    let name = c.args.relation.now in
    let nodes = c.args.condition.now in
    record {
      written = refusal_failed g.V.Files g.K.Sink (command.Aggregate list name nodes) (aggregated_leaves list name nodes) base c.args.out.now c.write_refusal.new.out c.in-Err.refusal c.requires.running
          (c.in-Err.ensures.refused state.files base.opens) _ c.in-Err-write_refusal.ensures.failed c.in-Err-write_refusal.ensures.frame;
      reads = λ t. omega arith;
      files_only = refl;
    }

pub returns-in-Err-folded : goal.returns-in-Err-folded
returns-in-Err-folded g c =
    let base = c.args.base.now in
    let state = g.V.Files.state base.files in
    let db = view state.files base.held base.opens in
    let list = c.args.list.now in
    let name = c.args.relation.now in
    let nodes = c.args.condition.now in
    let numbers = c.in-Ok.ensures.numbers state.files base.opens in
    let cost = aggregated_cost db (aheads_of state.files base.opens) list name nodes _ numbers in
    let few : ReadsNoMore g.V.Files (command.Aggregate list name nodes) base (record base { files = c.folded.new.files }) = λ t. omega (arith, c.in-Err-folded.ensures.reads t _ c.in-Ok.ensures.code, cost, c.in-Ok.ensures.cost state.files base.opens) in
    record {
      written = answers_rows g.V.Files g.K.Sink (command.Aggregate list name nodes) (aggregated_leaves list name nodes) base c.folded.new.files c.args.out.now c.args.out.now (Err Flash) c.requires.running
          (λ t. none_replied _ (g.K.Sink.held c.args.out.now))
          few
          (unread_frame g.V.Files g.K.Sink base.files c.folded.new.files c.args.out.now _ c.in-Err-folded.ensures.frame);
      reads = few;
      files_only = refl;
    }

pub returns-in-Ok-write_answers : goal.returns-in-Ok-write_answers
returns-in-Ok-write_answers g c =
    let base = c.args.base.now in
    let state = g.V.Files.state base.files in
    let db = view state.files base.held base.opens in
    let list = c.args.list.now in
    let name = c.args.relation.now in
    let nodes = c.args.condition.now in
    let numbers = c.in-Ok.ensures.numbers state.files base.opens in
    let cost = aggregated_cost db (aheads_of state.files base.opens) list name nodes _ numbers in
    let few : ReadsNoMore g.V.Files (command.Aggregate list name nodes) base (record base { files = c.folded.new.files }) = λ t. omega (arith, c.in-Ok-folded.ensures.reads t _ c.in-Ok.ensures.code, cost, c.in-Ok.ensures.cost state.files base.opens) in
    record {
      written = answers_rows g.V.Files g.K.Sink (command.Aggregate list name nodes) (aggregated_leaves list name nodes) base c.folded.new.files c.args.out.now c.write_answers.new.out (Ok (came.Rows 1)) c.requires.running
          (λ t. numbers_done (step db (command.Aggregate list name nodes)).1 c.as_slice.result.now _ (g.K.Sink.held c.args.out.now) (g.K.Sink.held c.write_answers.new.out)
          numbers (c.as_slice.ensures.items ∙ c.in-Ok-folded.ensures.numbers t _ c.in-Ok.ensures.code) c.in-Ok-write_answers.ensures.written)
          few
          (sent_frame g.V.Files g.K.Sink base.files c.folded.new.files c.args.out.now c.write_answers.new.out _ c.in-Ok-folded.ensures.frame _ (came.Rows 1) c.in-Ok-write_answers.ensures.frame);
      reads = few;
      files_only = refl;
    }

pub returns-in-Err-write_answers : goal.returns-in-Err-write_answers
returns-in-Err-write_answers g c =
    let base = c.args.base.now in
    let state = g.V.Files.state base.files in
    let db = view state.files base.held base.opens in
    let list = c.args.list.now in
    let name = c.args.relation.now in
    let nodes = c.args.condition.now in
    let numbers = c.in-Ok.ensures.numbers state.files base.opens in
    let cost = aggregated_cost db (aheads_of state.files base.opens) list name nodes _ numbers in
    let few : ReadsNoMore g.V.Files (command.Aggregate list name nodes) base (record base { files = c.folded.new.files }) = λ t. omega (arith, c.in-Ok-folded.ensures.reads t _ c.in-Ok.ensures.code, cost, c.in-Ok.ensures.cost state.files base.opens) in
    record {
      written = answers_rows g.V.Files g.K.Sink (command.Aggregate list name nodes) (aggregated_leaves list name nodes) base c.folded.new.files c.args.out.now c.write_answers.new.out (Err OfSink) c.requires.running
          (λ t. numbers_less (step db (command.Aggregate list name nodes)).1 c.as_slice.result.now _ (g.K.Sink.held c.args.out.now) (g.K.Sink.held c.write_answers.new.out)
          numbers (c.as_slice.ensures.items ∙ c.in-Ok-folded.ensures.numbers t _ c.in-Ok.ensures.code) c.in-Err-write_answers.ensures.failed)
          few
          (unsent_frame g.V.Files g.K.Sink base.files c.folded.new.files c.args.out.now c.write_answers.new.out _ c.in-Ok-folded.ensures.frame _ c.in-Err-write_answers.ensures.frame);
      reads = few;
      files_only = refl;
    }
