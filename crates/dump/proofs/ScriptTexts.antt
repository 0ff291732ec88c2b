-- The script of a database, slot by slot.
use Rattle.std.proofs.Common.{◌≡◌, refl, sym, ap, ◌∙◌, ℕ, ◌+◌, ◌≤◌, Bool, true, false, List, [], ◌∷◌, ◌++◌, length, map, take, get_or, flat_map, append_assoc, arith, cond, Option, Some, None, zero, suc}
use Rattle.std.specs.Option.{option_map, option_map_or}
use Rattle.std.proofs.lemmas.Grind.{flat_map-append}
use Rattle.std.proofs.lemmas.List.Concat.{flat_map-cons}
use Rattle.std.proofs.lemmas.List.Folds.{flat_map-map}
use Rattle.db_model.specs.declared.commands.Command.TheVariants.{CreateRelation}
use Rattle.db_model.specs.declared.schemas.Schema.{Schema}
use Rattle.db_model.specs.Answers.{live_tuples}
use Rattle.db_model.specs.Catalog.{Index}
use Rattle.db_model.specs.Database.{Relation, Database, used_things}
use Rattle.db_model.specs.Row.{Row}
use Rattle.antelope_engine.specs.Reading.{relation_in_slot, schema_at}
use Rattle.space_model.specs.Enough.{rows_in}
use Rattle.dump.specs.Parts.{attribute_lines, index_lines, relation_lines, row_lines, schema_lines, slots_of_all}
use Rattle.dump_model.specs.Script.{attribute_command, command_line, index_command, relation_commands, row_command, script}
use Rattle.padded.proofs.Facts.{some_alike}

live_lines : (name : List ℕ) (rows : List Row) → flat_map command_line (map (row_command name) (live_tuples rows)) ≡ flat_map (row_lines name) rows
live_lines name [] = refl
live_lines name (row ∷ rows) = by_live row.live (live_lines name rows) ∙ sym (flat_map-cons (row_lines name) row rows)
  where
    by_live : (t : Bool) → flat_map command_line (map (row_command name) (live_tuples rows)) ≡ flat_map (row_lines name) rows
        → flat_map command_line (map (row_command name) (cond t (row.tuple ∷ live_tuples rows) (live_tuples rows)))
        ≡ cond t (command_line (row_command name row.tuple)) [] ++ flat_map (row_lines name) rows
    by_live true h = flat_map-cons command_line (row_command name row.tuple) (map (row_command name) (live_tuples rows)) ∙ ap (λ t. command_line (row_command name row.tuple) ++ t) h
    by_live false h = h

one_relation : (r : Relation) → flat_map command_line (relation_commands r) ≡ relation_lines (Some r)
one_relation r =
    let name = r.schema.name in
    let attributes = map (attribute_command name) r.schema.attributes in
    let rows = map (row_command name) (live_tuples r.rows) in
    flat_map-cons command_line (CreateRelation name) (attributes ++ rows)
    ∙ ap (λ t. command_line (CreateRelation name) ++ t)
    (flat_map-append command_line attributes rows
    ∙ ap (λ t. t ++ flat_map command_line rows) (flat_map-map command_line (attribute_command name) r.schema.attributes)
    ∙ ap (λ t. attribute_lines name r.schema.attributes ++ t) (live_lines name r.rows))
    ∙ sym (append_assoc (command_line (CreateRelation name)) (attribute_lines name r.schema.attributes) (flat_map (row_lines name) r.rows))

all_relations : (slots : List (Option Relation)) → flat_map command_line (flat_map relation_commands (used_things slots)) ≡ flat_map relation_lines slots
all_relations [] = refl
all_relations (None ∷ slots) = all_relations slots ∙ sym (flat_map-cons relation_lines None slots)
all_relations (Some r ∷ slots) =
    ap (flat_map command_line) (flat_map-cons relation_commands r (used_things slots))
    ∙ flat_map-append command_line (relation_commands r) (flat_map relation_commands (used_things slots))
    ∙ ap (λ t. t ++ flat_map command_line (flat_map relation_commands (used_things slots))) (one_relation r)
    ∙ ap (λ t. relation_lines (Some r) ++ t) (all_relations slots)
    ∙ sym (flat_map-cons relation_lines (Some r) slots)

all_indexes : (relations : List (Option Relation)) (slots : List (Option Index)) → flat_map command_line (map (index_command relations) (used_things slots)) ≡ flat_map (index_lines relations) slots
all_indexes relations [] = refl
all_indexes relations (None ∷ slots) = all_indexes relations slots ∙ sym (flat_map-cons (index_lines relations) None slots)
all_indexes relations (Some index ∷ slots) =
    flat_map-cons command_line (index_command relations index) (map (index_command relations) (used_things slots))
    ∙ ap (λ t. command_line (index_command relations index) ++ t) (all_indexes relations slots)
    ∙ sym (flat_map-cons (index_lines relations) (Some index) slots)

pub script_parts : (db : Database) → script db ≡ flat_map relation_lines db.relations ++ flat_map (index_lines db.relations) db.indexes
script_parts db =
    flat_map-append command_line (flat_map relation_commands (used_things db.relations)) (map (index_command db.relations) (used_things db.indexes))
    ∙ ap (λ t. t ++ flat_map command_line (map (index_command db.relations) (used_things db.indexes))) (all_relations db.relations)
    ∙ ap (λ t. flat_map relation_lines db.relations ++ t) (all_indexes db.relations db.indexes)

-- ---- slots

abbrev rows_of_slot : Option Relation → List Row
rows_of_slot slot = option_map_or (λ r. r.rows) slot []

none_taken : (n : ℕ) → take {A = Option Relation} n [] ≡ []
none_taken zero = refl
none_taken (suc n) = refl

slots_suc : (slots : List (Option Relation)) (k : ℕ) → slots_of_all (take (suc k) slots) ≡ slots_of_all (take k slots) + length (rows_of_slot (get_or slots k None))
slots_suc [] k = let e = ap slots_of_all (none_taken (suc k)) in let f = ap slots_of_all (none_taken k) in omega (arith, e, f)
slots_suc (None ∷ slots) zero = omega arith
slots_suc (None ∷ slots) (suc k) = slots_suc slots k
slots_suc (Some r ∷ slots) zero = omega arith
slots_suc (Some r ∷ slots) (suc k) = let e = slots_suc slots k in omega (arith, e)

pub slots_more : (db : Database) (k : ℕ) → slots_of_all (take (k + 1) db.relations) ≡ slots_of_all (take k db.relations) + length (rows_in db k)
slots_more db k = let e : k + 1 ≡ suc k = omega arith in ap (λ n. slots_of_all (take n db.relations)) e ∙ slots_suc db.relations k

pub slots_front : (slots : List (Option Relation)) (k : ℕ) → slots_of_all (take k slots) ≤ slots_of_all slots
slots_front [] zero = omega arith
slots_front [] (suc k) = omega arith
slots_front (None ∷ slots) zero = omega arith
slots_front (Some r ∷ slots) zero = omega arith
slots_front (None ∷ slots) (suc k) = slots_front slots k
slots_front (Some r ∷ slots) (suc k) = let e = slots_front slots k in omega (arith, e)

-- ---- a relation in its slot

pub lines_of : (db : Database) (k : ℕ) (schema : Schema) → schema_at db k ≡ Some schema → relation_lines (relation_in_slot db k) ≡ schema_lines schema ++ flat_map (row_lines schema.name) (rows_in db k)
lines_of db k schema h = by_slot (relation_in_slot db k) h
  where
    by_slot : (slot : Option Relation) → option_map (λ r. r.schema) slot ≡ Some schema → relation_lines slot ≡ schema_lines schema ++ flat_map (row_lines schema.name) (rows_of_slot slot)
    by_slot None e = cc
    by_slot (Some r) e = ap (λ s. schema_lines s ++ flat_map (row_lines s.name) r.rows) (some_alike e)
