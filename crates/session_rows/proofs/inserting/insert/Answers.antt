use Rattle.std.proofs.Common.{refl, ◌∙◌}
use Rattle.afl_base.specs.Asked.{asks_few}
use Rattle.db_model.specs.declared.commands.Command.TheVariants as command
use Rattle.db_model.specs.Step.{insert_into}
use Rattle.session_model.proofs.Views.{named_none}
use Rattle.session_model.proofs.Wanted.{wants_row}
use Rattle.session_rows.proofs.Carried.{between_one, carries_failed, carries_of_one}
use Rattle.session_rows.proofs.Wants.{no_space}
use Rattle.std.proofs.lemmas.Result.{on_err_weaker}
use Rattle.session_rows.proofs.inserting.insert.Goals as goal
use Rattle.session_model.proofs.Carrying.{carries_refused}

pub returns-in_default : goal.returns-in_default
returns-in_default g c = record {
  carried =
      let base = c.args.base.now in
      carries_refused g.V.Files (command.Insert c.args.values.now c.args.relation.now) base _ c.requires.running
      (λ told. rw (named_none (g.V.Files.state base.files).files base.held base.opens c.args.relation.now c.in_default.ensures.found) refl);
}

pub returns-in_err-answer : goal.returns-in_err-answer
returns-in_err-answer g c = record {
  carried =
      let base = c.args.base.now in
      let values = c.args.values.now in
      let relation = c.args.relation.now in
      let t = c.relation_at-tuples.result.now in
      let there = c.relation_at-tuples.ensures in
      carries_failed g.V.Files (command.Insert values relation) base _ c.insert_at.result _ c.from_residual.result c.in_err-answer.was c.from_residual.ensures.1
      (λ reads. absurd reads)
      (λ cuts told sound. on_err_weaker c.insert_at.result
      (between_one g.V.Files base c.insert_at.new.files c.in-Some.k t c.requires.running told there sound (command.Insert values relation) (insert_into values) relation refl (c.in-Some.ensures.found t there) tt)
      (c.insert_at.ensures.cut cuts told))
      c.insert_at.ensures.frame;
}

pub returns : goal.returns
returns g c = record {
  carried =
      let base = c.args.base.now in
      let now = c.insert_at.new in
      let new = g.V.Files.state now.files in
      let values = c.args.values.now in
      let relation = c.args.relation.now in
      let k = c.in-Some.k in
      let t = c.relation_at-tuples.result.now in
      let there = c.relation_at-tuples.ensures in
      let found = c.in-Some.ensures.found t there in
      let h = c.in_ok-answer.ensures in
      carries_of_one g.V.Files (command.Insert values relation) (insert_into values) relation base now.files now.tables k t c.in_ok-answer.answer refl refl (λ reads. absurd reads) found there
      h.changed h.goes_on
      (λ told. no_space c.in_ok-answer.answer _ _
      (λ need w. wants_row new now.tables base.held base.opens h.goes_on.running (asks_few (g.V.Files.asks now.files) new.files) relation k t values need (h.goes_on.tells ∙ told) there found w)
      (h.wants told))
      h.lacks
      (λ told never. h.spares told (λ need w. never need (wants_row (g.V.Files.state base.files) base.tables base.held base.opens c.requires.running (g.V.Files.asks base.files) relation k t values need told there found w)))
      h.untouched h.frame;
}
