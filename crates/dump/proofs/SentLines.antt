-- Lines that go through a sink that gathers.
use Rattle.std.proofs.Common.{◌≡◌, ℕ, ◌<◌, List, [], ◌∷◌, ◌++◌, length, Option, Some, ap, ◌∙◌, append_assoc, arith, length-append}
use Rattle.std.specs.Prelude.{flat_map}
use Rattle.std.specs.Io.KnownBytes.{append_known}
use Rattle.buffered_sink.proofs.Fronts.{front_part}
use Rattle.buffered_sink.specs.Handing.{WroteFront}
use Rattle.reply_text.proofs.Pieces.{append_known-nil}
use Rattle.session_model.specs.Steps.{WrotePart}
use Rattle.antelope_engine.specs.Reading.{relation_in_slot, schema_at}
use Rattle.db_model.specs.declared.commands.Command.{Command}
use Rattle.db_model.specs.declared.commands.Command.TheVariants.{CreateRelation}
use Rattle.db_model.specs.declared.schemas.Schema.{Schema}
use Rattle.db_model.specs.Database.{Database}
use Rattle.dump.proofs.ScriptTexts.{lines_of}
use Rattle.dump.specs.Parts.{attribute_lines, relation_lines, row_lines, schema_lines}
use Rattle.dump_model.specs.Script.{command_line, command_text}
use Rattle.space_model.specs.Enough.{rows_in}

-- a part of a part
pub part_of_part : (h0 h2 wanted : Option (List ℕ)) (none all : List ℕ) → none ≡ [] → WroteFront h0 h2 wanted → WrotePart (append_known h0 none) wanted all → WrotePart h0 h2 all
part_of_part h0 h2 wanted none all e w l =
    let p = front_part h0 h2 wanted l.written w (l.held ∙ ap (λ k. append_known k l.written) (ap (append_known h0) e ∙ append_known-nil h0)) in
    record {
      written = p.written;
      left = p.left ++ l.left;
      whole = l.whole ∙ ap (λ xs. xs ++ l.left) p.whole ∙ append_assoc p.written p.left l.left;
      held = p.held;
    }

-- ---- no line is empty

pub line_some : (command : Command) → 0 < length (command_line command)
unfolding command_line
line_some command = let e = length-append (command_text command) (59 ∷ 10 ∷ []) in omega (arith, e)

-- nor are the lines of a relation
pub relation_some : (db : Database) (id : ℕ) (schema : Schema) → schema_at db id ≡ Some schema → 0 < length (relation_lines (relation_in_slot db id))
relation_some db id schema is =
    let first = line_some (CreateRelation schema.name) in
    let front = length-append (command_line (CreateRelation schema.name)) (attribute_lines schema.name schema.attributes) in
    let all = length-append (schema_lines schema) (flat_map (row_lines schema.name) (rows_in db id)) in
    let same = ap length (lines_of db id schema is) in
    omega (arith, first, front, all, same)
