use Rattle.std.proofs.Common.{refl}
use Rattle.afl_base.specs.Asked.{asks_few}
use Rattle.db_model.specs.declared.commands.Command.TheVariants as command
use Rattle.db_model.specs.Cond.{condition_of}
use Rattle.db_model.specs.Step.{remove_from as remove_in}
use Rattle.session_model.proofs.Views.{named_none}
use Rattle.session_rows.proofs.Carried.{between_removed, carries_failed, carries_of_one, on_both}
use Rattle.session_rows.proofs.Wants.{no_space, remove_wants}
use Rattle.session_rows.proofs.removing.remove_from.Goals as goal
use Rattle.session_model.proofs.Carrying.{carries_refused}

pub returns-in_default : goal.returns-in_default
returns-in_default g c = record {
  carried =
      let base = c.args.base.now in
      carries_refused g.V.Files (command.RemoveFrom c.args.relation.now c.args.condition.now) base _ c.requires.running
      (λ told. rw (named_none (g.V.Files.state base.files).files base.held base.opens c.args.relation.now c.in_default.ensures.found) refl);
}

pub returns-in_err-answer : goal.returns-in_err-answer
returns-in_err-answer g c = record {
  carried =
      let base = c.args.base.now in
      let relation = c.args.relation.now in
      let condition = c.args.condition.now in
      let t = c.relation_at-tuples.result.now in
      let there = c.relation_at-tuples.ensures in
      carries_failed g.V.Files (command.RemoveFrom relation condition) base _ c.remove_at.result _ c.from_residual.result c.in_err-answer.was c.from_residual.ensures.1
      (λ reads. absurd reads)
      (λ cuts told sound. on_both c.remove_at.result
      (between_removed g.V.Files base c.remove_at.new.files c.in-Some.k t c.requires.running told there sound relation condition (c.in-Some.ensures.found t there))
      c.remove_at.ensures.accepted (c.remove_at.ensures.cut cuts told))
      c.remove_at.ensures.frame;
}

pub returns : goal.returns
returns g c = record {
  carried =
      let base = c.args.base.now in
      let files = c.remove_at.new.files in
      let new = g.V.Files.state files in
      let condition = c.args.condition.now in
      let relation = c.args.relation.now in
      let k = c.in-Some.k in
      let t = c.relation_at-tuples.result.now in
      let there = c.relation_at-tuples.ensures in
      let found = c.in-Some.ensures.found t there in
      let h = c.in_ok-answer.ensures in
      carries_of_one g.V.Files (command.RemoveFrom relation condition) (remove_in (condition_of condition)) relation base files base.tables k t c.in_ok-answer.answer refl refl (λ reads. absurd reads) found there
      h.changed h.goes_on
      (λ told. no_space c.in_ok-answer.answer _ _
      (λ need w. remove_wants new base.tables base.held base.opens h.goes_on.running (asks_few (g.V.Files.asks files) new.files) relation condition k t need found there _ refl w)
      (h.wants told))
      h.lacks
      (λ told never. h.spares told (λ need w. never need (remove_wants (g.V.Files.state base.files) base.tables base.held base.opens c.requires.running (g.V.Files.asks base.files) relation condition k t need found there _ refl w)))
      h.untouched h.frame;
}
