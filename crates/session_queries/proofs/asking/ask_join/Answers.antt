use Rattle.std.proofs.Common.{arith, sym, subst, refl}
use Rattle.db_model.specs.declared.commands.Command.TheVariants as command
use Rattle.db_model.specs.declared.commands.Query.TheVariants as query
use Rattle.db_model.specs.Step.{Reply}
use Rattle.session_model.specs.Aheads.{aheads_of}
use Rattle.session_model.specs.Steps.{Replies}
use Rattle.session_model.specs.View.{view}
use Rattle.session_queries.specs.Replies.{ReadsNoMore}
use Rattle.session_queries.proofs.Left.{answers_rows, asked_leaves, refusal_failed, refusal_written}
use Rattle.session_queries.proofs.Seen.{answered, answered_cost, has_slots, is_ready, refused}
use Rattle.session_queries.proofs.asking.ask_join.Goals as goal

pub plan_pairs-requires : goal.plan_pairs-requires
plan_pairs-requires g c =
    let base = c.args.base.now in
    record { slots = has_slots (g.V.Files.state base.files) base.tables base.held base.opens c.requires.running }

pub join-requires-clause-left : goal.join-requires-clause-left
join-requires-clause-left g c =
    let base = c.args.base.now in
    is_ready (g.V.Files.state base.files) base.tables base.held base.opens c.requires.running c.args.left.now c.in-Ok.joining.left c.in-Ok.ensures.left

pub join-requires-clause-right : goal.join-requires-clause-right
join-requires-clause-right g c =
    let base = c.args.base.now in
    is_ready (g.V.Files.state base.files) base.tables base.held base.opens c.requires.running c.args.right.now c.in-Ok.joining.right c.in-Ok.ensures.right

pub returns-in-Ok : goal.returns-in-Ok
returns-in-Ok g c =
    let base = c.args.base.now in
    let state = g.V.Files.state base.files in
    let db = view state.files base.held base.opens in
    let asked = query.Join c.args.left.now c.args.right.now c.args.on.now c.args.list.now in
    let few : ReadsNoMore g.V.Files (command.Ask asked) base (record base { files = c.join.new.files }) = λ t.
    let cost = answered_cost db (aheads_of state.files base.opens) asked _ (c.in-Ok.ensures.rows state.files base.opens) in
    omega (arith, c.join.ensures.reads t, cost, c.in-Ok.ensures.cost state.files base.opens) in
    record {
      written = answers_rows g.V.Files g.K.Sink (command.Ask asked) (asked_leaves asked) base c.join.new.files c.args.out.now c.join.new.out c.join.result c.requires.running
          (λ t. subst (λ (reply : Reply). Replies reply c.join.result (g.K.Sink.held c.args.out.now) (g.K.Sink.held c.join.new.out))
          (sym (answered db asked _ (c.in-Ok.ensures.rows state.files base.opens)))
          (c.join.ensures.replies t))
          few
          c.join.ensures.frame;
      reads = few;
      files_only = refl;
    }

pub returns-in-Ok-write_refusal : goal.returns-in-Ok-write_refusal
returns-in-Ok-write_refusal g c =
    let base = c.args.base.now in
    let state = g.V.Files.state base.files in
    let asked = query.Join c.args.left.now c.args.right.now c.args.on.now c.args.list.now in
    let refuses = refused (view state.files base.held base.opens) asked c.in-Err.refusal (c.in-Err.ensures.refused state.files base.opens) in
    record {
      written = refusal_written g.V.Files g.K.Sink (command.Ask asked) (asked_leaves asked) base c.args.out.now c.write_refusal.new.out c.in-Err.refusal c.requires.running refuses
          _ c.in-Ok-write_refusal.ensures.written c.in-Ok-write_refusal.ensures.frame;
      reads = λ t. omega arith;
      files_only = refl;
    }

pub returns-in-Err-write_refusal : goal.returns-in-Err-write_refusal
returns-in-Err-write_refusal g c =
    let base = c.args.base.now in
    let state = g.V.Files.state base.files in
    let asked = query.Join c.args.left.now c.args.right.now c.args.on.now c.args.list.now in
    let refuses = refused (view state.files base.held base.opens) asked c.in-Err.refusal (c.in-Err.ensures.refused state.files base.opens) in
    record {
      written = refusal_failed g.V.Files g.K.Sink (command.Ask asked) (asked_leaves asked) base c.args.out.now c.write_refusal.new.out c.in-Err.refusal c.requires.running refuses
          _ c.in-Err-write_refusal.ensures.failed c.in-Err-write_refusal.ensures.frame;
      reads = λ t. omega arith;
      files_only = refl;
    }
