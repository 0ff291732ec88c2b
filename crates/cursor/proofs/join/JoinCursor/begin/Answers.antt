use Rattle.std.proofs.Common.{None, refl}
use Rattle.tuple_file.specs.Tuples.{rows}
use Rattle.cursor.specs.declared.join.JoinCursor.{JoinCursor}
use Rattle.cursor.proofs.Joins.{cost_begin}
use Rattle.cursor.proofs.join.JoinCursor.begin.Goals as goal

pub returns-clause-cost : goal.returns-clause-cost
returns-clause-cost g c =
    let files = (g.V.Files.state c.args.files.now).files in
    let begun : JoinCursor = record {
      left = c.args.left;
      right = c.args.right;
      right_indexes = c.args.right_indexes;
      left_on = c.args.left_on;
      right_on = c.args.right_on;
      left_slots = c.count-left_slots.result;
      right_slots = c.count-right_slots.result;
      at = 0;
      from = 0;
      inner = None;
      hint = None;
    } in
    cost_begin begun (rows files c.args.left) (rows files c.args.right) refl refl c.count-left_slots.ensures.rows c.count-right_slots.ensures.rows refl
