use Rattle.std.proofs.Common.{◌≡◌, ◌∙◌, sym, ap, subst, arith}
use Rattle.afl_base.specs.Files.{State, Table, draft_in, file_at}
use Rattle.db_model.specs.Row.{AllRowsSuit, rows_bytes}
use Rattle.db_model.proofs.Rows.{rows_back}
use Rattle.tuple_file.specs.Tuples.{live_rows, rows}
use Rattle.tuple_file.proofs.Cuts.{either_follows, only_committed, rows_committed, whole_committed}
use Rattle.tuple_file.proofs.Drafted.{last_mark}
use Rattle.tuple_file.proofs.Packed.{living_all}
use Rattle.tuple_file.proofs.Slots.{slots_of_whole}
use Rattle.tuple_file.proofs.tuples.Tuples.pack.Goals as goal
use Rattle.std.proofs.lemmas.Grind.{common_steps}

pub returns-then-live-slots-clause-rows : goal.returns-then-live-slots-clause-rows
returns-then-live-slots-clause-rows g c told =
    let tuples = c.args.self.now in
    let all = rows (g.V.Files.state c.args.files.now).files tuples in
    let live = c.in_ok-live.ensures.live told in
    ap (λ (state : State). rows state.files tuples) c.in_ok-live.ensures.frame.same
    ∙ sym (living_all all (sym live ∙ c.if-live-slots.true ∙ c.count-slots.ensures.rows))

pub commit-requires-clause-last : goal.commit-requires-clause-last
commit-requires-clause-last g c told = grind (arith, common_steps, last_mark)

pub returns-clause-rows : goal.returns-clause-rows
returns-clause-rows g c told = grind (arith, common_steps, rows_back)

pub returns-clause-holds : goal.returns-clause-holds
returns-clause-holds g c = grind (arith, common_steps, slots_of_whole, rows_back)

pub returns-in_err-commit-clause-cut : goal.returns-in_err-commit-clause-cut
returns-in_err-commit-clause-cut g c = λ cuts told failed.
    let old = g.V.Files.state c.args.files.now in
    let mid = g.V.Files.state c.draft_live.new.files in
    let tuples = c.args.self.now in
    let attributes = tuples.schema.attributes in
    let read = c.in_ok-live.ensures.frame.same in
    let begun = c.in_ok-begin.ensures.begun in
    let drafted = c.in_ok-draft_live.ensures in
    let before = begun.files ∙ ap (λ (s : State). s.files) read in
    let tells_before = begun.tells ∙ ap (λ (s : State). s.tells) read in
    let files : mid.files ≡ old.files = drafted.only.files ∙ before in
    let tells : mid.tells ≡ old.tells = drafted.only.tells ∙ tells_before in
    let live : (draft_in mid).bytes ≡ rows_bytes attributes (live_rows old.files tuples) = drafted.rows (tells_before ∙ told) ∙ ap (λ (now : Table). rows_bytes attributes (live_rows now tuples)) before in
    let suit = subst (λ (now : Table). AllRowsSuit attributes (live_rows now tuples)) before (drafted.suit (tells_before ∙ told)) in
    either_follows mid.files old.files files (c.in_err-commit.ensures.cut cuts (tells ∙ told)) (λ after done. (
      only_committed old mid after tuples c.requires.holds.file c.requires.idle files tells (drafted.only.name ∙ begun.name ∙ ap (λ (s : State). (file_at s.files tuples.file).name) read) done,
      rows_committed mid after tuples (live_rows old.files tuples) (tells ∙ told) done live suit,
      whole_committed mid after tuples (live_rows old.files tuples) (tells ∙ told) done live suit,
    ))
