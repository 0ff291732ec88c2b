use Rattle.std.proofs.Common.{Err, flat_map, subst, sym}
use Rattle.space_model.specs.Enough.{rows_in}
use Rattle.dump.specs.Appends.{AppendsText}
use Rattle.dump.specs.Parts.{row_lines, schema_lines}
use Rattle.dump.proofs.Items.{appends_behind}
use Rattle.dump.proofs.ScriptTexts.{lines_of}
use Rattle.dump.proofs.relations.write_lines.Goals as goal
use Rattle.padded.proofs.Facts.{err_is}

pub returns-in_err-write_rows-clause-wrote : goal.returns-in_err-write_rows-clause-wrote
returns-in_err-write_rows-clause-wrote g c = λ told sound.
    let db = c.args.session.now.database in
    let schema = c.args.schema.now in
    let stop = c.in_err-write_rows.field-0.0 in
    let before = g.K.Sink.held c.args.out.now in
    let behind = g.K.Sink.held c.write_rows.new.out in
    rw (err_is c.from_residual.result _ c.from_residual.ensures.1)
    (subst (AppendsText (Err stop) before behind) (sym (lines_of db c.args.id schema c.requires.schema))
    (appends_behind (Err stop) before (g.K.Sink.held c.write_schema.new.out) behind (schema_lines schema) (flat_map (row_lines schema.name) (rows_in db c.args.id))
    c.in-Ok.ensures.written (c.in_err-write_rows.ensures.wrote told sound)))
