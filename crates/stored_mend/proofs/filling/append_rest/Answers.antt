use Rattle.std.proofs.Common.{◌∙◌, inr}
use Rattle.std.proofs.lemmas.List.{take_rest}
use Rattle.afl_base.proofs.CutLaws.{mends_as}
use Rattle.stored_mend.proofs.RowsCut.{appends_behind, front_behind}
use Rattle.stored_mend.proofs.filling.append_rest.Goals as goal

pub returns-clause-appended : goal.returns-clause-appended
returns-clause-appended g c =
    appends_behind (g.V.Files.state c.args.files.now) (g.V.Files.state c.prepare.new.self) (g.V.Files.state c.append.new.self) c.args.tail.file _ c.in_ok-prepare.ensures.contents (rw (take_rest c.args.row.now c.args.tail.have) at c.in_ok-append.ensures.appended)

pub returns-in_err-append-clause-cut : goal.returns-in_err-append-clause-cut
returns-in_err-append-clause-cut g c = λ cuts told failed.
    let kept = c.in_ok-prepare.ensures.contents in
    inr (mends_as ((rw (take_rest c.args.row.now c.args.tail.have) at c.in_err-append.ensures.cut) cuts (kept.tells ∙ told))
    (λ s f. front_behind (g.V.Files.state c.args.files.now) (g.V.Files.state c.prepare.new.self) s c.args.tail.file _ kept f))
