use Rattle.std.proofs.Common.{◌∙◌, ap, arith, List, ℕ}
use Rattle.tuple_file.specs.Tuples.{rows}
use Rattle.cursor.specs.Remaining.{tuples_at}
use Rattle.cursor.proofs.Selected.{slots_selected, tuples_selected}
use Rattle.cursor.proofs.select.SelectCursor.begin.Goals as goal

pub returns-clause-begins : goal.returns-clause-begins
returns-clause-begins g c = λ told condition is indexes.
    let state = g.V.Files.state c.args.files.now in
    let t = c.args.self.now.tuples in
    let all = rows state.files t in
    let ranges = c.ranges_of-ranges.ensures t.schema.attributes condition is in
    let count = c.count-slots.ensures.rows in
    let begins = c.in_ok-candidates.ensures.begins told all (omega (arith, count)) indexes in
    let slots = slots_selected state t told c.requires.holds c.args.indexes.now c.requires.numbers c.requires.readable condition c.args.self.now.code is
    c.ranges_of-ranges.result c.count-slots.result _ ranges count begins.ahead in
    record {
      remaining = ap (λ (l : List ℕ). tuples_at l all) slots ∙ tuples_selected t.schema.attributes condition all;
      slots_left = slots;
      ahead = rw (ranges, count) at begins.ahead;
      cost = rw (ranges, count) at begins.cost;
    }

pub returns-clause-fits : goal.returns-clause-fits
returns-clause-fits g c = λ told indexes.
    let all = rows (g.V.Files.state c.args.files.now).files c.args.self.now.tuples in
    (c.in_ok-candidates.ensures.begins told all (omega (arith, c.count-slots.ensures.rows)) indexes).fits
