use Rattle.tuple_file.specs.Tuples.{rows}
use Rattle.cursor.proofs.Over.{inner_over}
use Rattle.cursor.proofs.join.JoinCursor.is_over.Goals as goal

pub returns-in-Some : goal.returns-in-Some
returns-in-Some c = λ yes state may fits.
    let k = c.args.self.now in
    inner_over state c.args.tables.now k c.in-Some.inner c.in-Some.is may fits (c.is_over.ensures.over yes state (rows state.files k.right))
