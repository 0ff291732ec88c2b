use Rattle.std.proofs.Common.{rules, ◌≡◌, ◌∷◌, ◌∙◌, true, List, map, ap, sym}
use Rattle.db_model.specs.declared.values.Value.{Value}
use Rattle.tuple_file.specs.Tuples.{rows}
use Rattle.session_model.specs.View.{project_pair}
use Rattle.session_queries.specs.Replies.{joined_left}
use Rattle.session_queries.proofs.joining.join_next.Goals as goal

pub returns-in-Err-write_row-clause-wrote : goal.returns-in-Err-write_row-clause-wrote
returns-in-Err-write_row-clause-wrote g c = λ told fits block.
    let files = (g.V.Files.state c.args.files.now).files in
    let k = c.args.cursor.now in
    let places = c.args.terms.now.places.now in
    let rest = joined_left places c.next_by_block.new.self (rows files k.left) (rows files k.right) in
    let found : c.in-Ok-true.field-0 ≡ true = search rules in
    let yields = (rw found at c.in-Ok-true.ensures.yields) told fits block in
    record {
      row = c.project_pair.new.into;
      rest = rest;
      is = ap (λ (pairs : List (List Value × List Value)). map (project_pair places) pairs) yields.next ∙ ap (λ (row : List Value). row ∷ rest) (sym c.project_pair.ensures);
      wrote = c.in-Err-write_row.ensures.failed;
    }
