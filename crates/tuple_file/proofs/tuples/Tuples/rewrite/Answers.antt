use Rattle.std.proofs.Common.{◌≡◌, ◌∙◌, List, subst, sym, arith}
use Rattle.std.specs.Fn.{FnReturnsAt}
use Rattle.afl_base.specs.Files.{Table}
use Rattle.db_model.specs.Row.{AllRowsSuit, Row}
use Rattle.db_model.proofs.Rows.{rows_back}
use Rattle.tuple_file.specs.Tuples.{AreAnswered, OfSlots, rows}
use Rattle.tuple_file.proofs.Cuts.{either_follows, only_committed, rows_committed, whole_committed}
use Rattle.tuple_file.proofs.Drafted.{last_mark}
use Rattle.tuple_file.proofs.Slots.{slots_of_whole}
use Rattle.tuple_file.proofs.tuples.Tuples.rewrite.Goals as goal
use Rattle.std.proofs.lemmas.Grind.{common_steps}

pub commit-requires-clause-last : goal.commit-requires-clause-last
commit-requires-clause-last g c told = grind (arith, common_steps, last_mark)

pub returns-clause-rows : goal.returns-clause-rows
returns-clause-rows g c told = grind (arith, common_steps, rows_back)

pub returns-clause-suit : goal.returns-clause-suit
returns-clause-suit g c told = grind (arith, common_steps, rows_back)

pub returns-clause-holds : goal.returns-clause-holds
returns-clause-holds g c = grind (arith, common_steps, slots_of_whole, rows_back)

pub returns-in_err-commit-clause-cut : goal.returns-in_err-commit-clause-cut
returns-in_err-commit-clause-cut g c = λ cuts told failed.
    let old = g.V.Files.state c.args.files.now in
    let mid = g.V.Files.state c.draft_answered.new.files in
    let tuples = c.args.self.now in
    let attributes = tuples.schema.attributes in
    let answers = OfSlots c.args.asked.now attributes (FnReturnsAt g.F.Fn c.args.removed) in
    let begun = c.in_ok-begin.ensures.begun in
    let drafted = c.in_ok-draft_answered.ensures in
    let said = drafted.rows (begun.tells ∙ told) in
    let files : mid.files ≡ old.files = drafted.only.files ∙ begun.files in
    let tells : mid.tells ≡ old.tells = drafted.only.tells ∙ begun.tells in
    let answered = subst (λ (now : Table). AreAnswered answers 0 (rows now tuples) said.0) begun.files said.1 in
    either_follows mid.files old.files files (c.in_err-commit.ensures.cut cuts (tells ∙ told)) (λ after done.
    let same : rows after.files tuples ≡ said.0 = rows_committed mid after tuples said.0 (tells ∙ told) done said.3 said.2 in (
      only_committed old mid after tuples c.requires.holds.file c.requires.idle files tells (drafted.only.name ∙ begun.name) done,
      subst (λ (news : List Row). AreAnswered answers 0 (rows old.files tuples) news) (sym same) answered,
      subst (λ (news : List Row). AllRowsSuit attributes news) (sym same) said.2,
      whole_committed mid after tuples said.0 (tells ∙ told) done said.3 said.2,
    ))
