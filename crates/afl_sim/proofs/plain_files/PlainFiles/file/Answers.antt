use Rattle.std.proofs.Common.{◌≡◌, ◌∙◌, ap, subst, sym, Some, None, arith}
use Rattle.std.proofs.lemmas.List.{get_or_default}
use Rattle.afl_base.specs.Files.{IsNamed, State, Table, place}
use Rattle.afl_base.proofs.FileLaws.{named_here}
use Rattle.afl_sim.proofs.plain_files.PlainFiles.file.Goals as goal

pub returns-clause-only : goal.returns-clause-only
returns-clause-only g c k named =
    let table = c.self.inside.table in
    let file = c.in-Some.file in
    let same : table ≡ c.args.self.now.files = ap (λ (state : State). state.files) c.self.view_is in
    let here : place table c.args.id ≡ Some file = rw (sym c.number.ensures.value) (get_or_default table c.number.result None _ (omega (arith, c.self.told, c.number.ensures.below)) ∙ c.in-Some.is) in
    c.self.invariant.distinct k c.args.id file.name (subst (λ (files : Table). IsNamed files k file.name) (sym same) named) (named_here table c.args.id file here)
