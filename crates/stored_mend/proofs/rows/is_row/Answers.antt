use Rattle.std.proofs.Common.{rules, arith}
use Rattle.std.proofs.Math.ListN.{drop_of_length-le}
use Rattle.std.proofs.lemmas.Grind.{common_steps}
use Rattle.std.proofs.lemmas.List.{length-drop, take_rest}
use Rattle.db_model.proofs.Decoded.{tuple_suits}
use Rattle.padded.proofs.Facts.{drop_item}
use Rattle.tuple_file.proofs.Judged.{IsRow, field_first, mark_row, row_behind, row_whole}
use Rattle.stored_mend.proofs.rows.is_row.Goals as goal

pub loop-attribute-preserved : goal.loop-attribute-preserved
loop-attribute-preserved c = grind (arith, common_steps, drop_item, take_rest, IsRow, row_whole, row_behind, length-drop)

pub returns-then-not-is_field-clause-row : goal.returns-then-not-is_field-clause-row
returns-then-not-is_field-clause-row c = grind (arith, common_steps, drop_item, IsRow, field_first)

pub returns-then-not-is_field-clause-suits : goal.returns-then-not-is_field-clause-suits
returns-then-not-is_field-clause-suits c = tuple_suits c.args.attributes.now c.args.row.now (λ i. search rules)

pub returns-clause-row : goal.returns-clause-row
returns-clause-row c = grind (arith, common_steps, drop_of_length-le, IsRow, mark_row)

pub returns-clause-suits : goal.returns-clause-suits
returns-clause-suits c = tuple_suits c.args.attributes.now c.args.row.now (λ i. search rules)
