-- The script of a database makes the packed one.
use Rattle.std.proofs.Common.{◌≡◌, refl, sym, ap, subst, ◌∙◌, ℕ, ◌+◌, ◌<◌, ◌≤◌, Bool, true, false, List, [], ◌∷◌, ◌++◌, length, map, flat_map, get_or, append_assoc, append-nil, length-append, arith, cond, Option, Some, None, pos, negsuc, zero, suc}
use Rattle.std.specs.Prelude.{ℤ, Ok, Result, IsTrue, slice_get, nat_abs, nat_le, int_le}
use Rattle.std.specs.List.{AllByRecursion}
use Rattle.std.proofs.lemmas.List.Concat.{flat_map-cons}
use Rattle.std.proofs.lemmas.Bool.Decides.{nat_tests}
use Rattle.db_model.specs.declared.commands.Command.{Command}
use Rattle.db_model.specs.declared.commands.Command.TheVariants.{CreateRelation, CreateAttribute, CreateIndex, Insert}
use Rattle.db_model.specs.declared.refusals.Refusal.{Refusal}
use Rattle.db_model.specs.declared.schemas.Attribute.{Attribute}
use Rattle.db_model.specs.declared.schemas.Domain.{Domain}
use Rattle.db_model.specs.declared.schemas.Domain.TheVariants as domain
use Rattle.db_model.specs.declared.values.Value.{Value}
use Rattle.db_model.specs.declared.values.Value.TheVariants as value
use Rattle.db_model.specs.Answers.{live_tuples}
use Rattle.db_model.specs.Catalog.{Index, IsAttribute, IsDomain}
use Rattle.db_model.specs.Database.{Relation, Database, used_things, empty_database}
use Rattle.db_model.specs.Names.{is_name, is_text}
use Rattle.db_model.specs.Reading.{IsReader, IsReading}
use Rattle.db_model.specs.Row.{Row, suits, is_between, AllSuit, AllRowsSuit}
use Rattle.db_model.specs.ReplyText.{ok_text, text}
use Rattle.db_model.specs.Script.{Entry, Bytes, after, carried_out, last, output}
use Rattle.db_model.specs.Sound.{IsSoundDatabase}
use Rattle.db_model.specs.Spelling.{nodes_of}
use Rattle.db_model.specs.Step.{Fine, outcome, replied}
use Rattle.dump_model.specs.Made.{IsFine, Makes, MakesPacked, replies_to}
use Rattle.dump_model.specs.Packed.{moved_index, packed, packed_relation}
use Rattle.dump_model.specs.Script.{command_text, domain_named, relation_commands, attribute_command, index_command, row_command, attribute_name, script_commands}
use Rattle.db_model.specs.Sound.{are_distinct}
use Rattle.dump_model.proofs.Facts.{AllIndexFacts, DatabaseFacts, IndexFacts, RelationFacts, database_facts, relation_names}
use Rattle.dump_model.proofs.Cutting.{lines_cut, lines_short, lines_whole}
use Rattle.dump_model.proofs.Lexing.{IsPrintedValue, and_left, and_right}
use Rattle.dump_model.proofs.MakingIndexes.{AreUsed, makes_index, with_indexes}
use Rattle.dump_model.proofs.MakingRelations.{makes-append, relations_made, with_relations}
use Rattle.dump_model.proofs.Slots.{used_few}
use Rattle.dump_model.proofs.Texts.{IsPrinted, IsPrintedDomain, ArePrintedValues, text_spells}
use Rattle.padded.proofs.Facts.{some_alike, all_append}

-- ---- all commands are carried out

sound_at : (slots : List (Option Relation)) (k : ℕ) (r : Relation) → AllByRecursion RelationFacts (used_things slots) → get_or slots k None ≡ Some r → RelationFacts r
sound_at [] k r all h = cc
sound_at (None ∷ slots) zero r all h = cc
sound_at (None ∷ slots) (suc k) r all h = sound_at slots k r all h
sound_at (Some q ∷ slots) zero r all h = subst RelationFacts (some_alike h) all.0
sound_at (Some q ∷ slots) (suc k) r all h = sound_at slots k r all.1 h

makes_indexes : (slots : List (Option Relation)) (before rest : List Index) → AllByRecursion RelationFacts (used_things slots) → IsTrue (are_distinct (relation_names (used_things slots))) → length (before ++ rest) ≤ 8 → AreUsed slots before → AllIndexFacts slots before rest
    → Makes (with_indexes (map packed_relation (used_things slots)) (map (moved_index slots) before)) (map (index_command slots) rest) (with_indexes (map packed_relation (used_things slots)) (map (moved_index slots) (before ++ rest)))
makes_indexes slots before [] relations distinct few used_before are = ap (λ xs. with_indexes (map packed_relation (used_things slots)) (map (moved_index slots) xs)) (sym (append-nil before))
makes_indexes slots before (index ∷ rest) relations distinct few used_before are =
    let same = append_assoc before (index ∷ []) rest in
    let many = length-append before (index ∷ rest) in
    let state : List Index → Database = λ xs. with_indexes (map packed_relation (used_things slots)) (map (moved_index slots) xs) in
    let one = makes_index slots before index distinct (omega (arith, many, few)) used_before are.0 (sound_at slots index.relation are.0.relation relations are.0.used).distinct in
    let others = makes_indexes slots (before ++ index ∷ []) rest relations distinct (rw same few) (all_append _ before (index ∷ []) used_before ((are.0.relation, are.0.used), tt)) are.1 in
    (state (before ++ index ∷ []), one, subst (λ xs. Makes (state (before ++ index ∷ [])) (map (index_command slots) rest) (state xs)) same others)

pub makes_packed : (db : Database) → DatabaseFacts db → Makes empty_database (script_commands db) (packed db)
makes_packed db is =
    let few : length (used_things db.relations) ≤ 8 = let e = used_few db.relations in let n = is.eight_relations in omega (arith, e, n) in
    let few_indexes : length (used_things db.indexes) ≤ 8 = let e = used_few db.indexes in let n = is.eight_indexes in omega (arith, e, n) in
    makes-append empty_database (with_relations (map packed_relation (used_things db.relations))) (packed db) (flat_map relation_commands (used_things db.relations)) (map (index_command db.relations) (used_things db.indexes))
    (relations_made (used_things db.relations) few is.relations is.distinct)
    (makes_indexes db.relations [] (used_things db.indexes) is.relations is.distinct few_indexes tt is.indexes)

-- ---- all commands are printed

between : (a b : ℕ) (z : ℤ) → is_between (negsuc a) (pos b) z ≡ true → nat_abs z ≤ a + b + 1
between a b (pos n) h =
    let high : nat_le n b ≡ true = and_right (int_le (negsuc a) (pos n)) (int_le (pos n) (pos b)) h in
    let e : n ≤ b = grind (arith, nat_tests) in
    omega (arith, e)
between a b (negsuc n) h =
    let low : nat_le n a ≡ true = and_left (int_le (negsuc a) (negsuc n)) (int_le (negsuc n) (pos b)) h in
    let e : n ≤ a = grind (arith, nat_tests) in
    omega (arith, e)

between_zero : (b : ℕ) (z : ℤ) → is_between (pos 0) (pos b) z ≡ true → nat_abs z ≤ b
between_zero b (pos n) h =
    let high : nat_le n b ≡ true = and_right (int_le (pos 0) (pos n)) (int_le (pos n) (pos b)) h in
    let e : n ≤ b = grind (arith, nat_tests) in
    e
between_zero b (negsuc n) h = cc

printed_value : (d : Domain) (v : Value) → suits d v ≡ true → IsPrintedValue v
printed_value domain.Int (value.Number z) h = let e = between 32767 32767 z h in omega (arith, e)
printed_value domain.Long (value.Number z) h = let e = between 2147483647 2147483647 z h in omega (arith, e)
printed_value domain.Time (value.Number z) h = let e = between_zero 140737488355327 z h in omega (arith, e)
printed_value (domain.Str n) (value.Number z) h = cc
printed_value domain.Int (value.Text bytes) h = cc
printed_value domain.Long (value.Text bytes) h = cc
printed_value domain.Time (value.Text bytes) h = cc
printed_value (domain.Str n) (value.Text bytes) h = and_right (nat_le (length bytes) n) (is_text bytes) h

printed_values : (attributes : List Attribute) (values : List Value) → AllSuit attributes values → AllByRecursion IsPrintedValue values × (length values ≡ length attributes)
printed_values [] [] h = (tt, refl)
printed_values [] (v ∷ values) h = absurd h
printed_values (a ∷ attributes) [] h = absurd h
printed_values (a ∷ attributes) (v ∷ values) h = let rest = printed_values attributes values h.1 in ((printed_value a.domain v h.0, rest.0), ap (λ n. suc n) rest.1)

printed_tuple : (attributes : List Attribute) (values : List Value) → 0 < length attributes → length attributes ≤ 8 → AllSuit attributes values → ArePrintedValues values
printed_tuple [] values some few h = absurd (omega (arith, some))
printed_tuple (a ∷ attributes) [] some few h = absurd h
printed_tuple (a ∷ attributes) (v ∷ values) some few h =
    let all = printed_values (a ∷ attributes) (v ∷ values) h in
    (all.0.0, all.0.1, rw all.1 few)

printed_domain : (d : Domain) → IsDomain d → IsPrintedDomain (domain_named d)
printed_domain domain.Int h = tt
printed_domain domain.Long h = tt
printed_domain domain.Time h = tt
printed_domain (domain.Str n) h = let e = h.1 in omega (arith, e)

printed_attributes : (name : List ℕ) (attributes : List Attribute) → IsTrue (is_name name) → AllByRecursion IsAttribute attributes → AllByRecursion IsPrinted (map (attribute_command name) attributes)
printed_attributes name [] is h = tt
printed_attributes name (a ∷ attributes) is h = ((h.0.0, printed_domain a.domain h.0.1, is), printed_attributes name attributes is h.1)

printed_rows : (name : List ℕ) (attributes : List Attribute) (rows : List Row) → IsTrue (is_name name) → (0 < length rows → 0 < length attributes) → length attributes ≤ 8 → AllRowsSuit attributes rows → AllByRecursion IsPrinted (map (row_command name) (live_tuples rows))
printed_rows name attributes [] is some few h = tt
printed_rows name attributes (row ∷ rows) is some few h = by_live row.live (printed_rows name attributes rows is (λ e. some (omega arith)) few h.1)
  where
    by_live : (t : Bool) → AllByRecursion IsPrinted (map (row_command name) (live_tuples rows)) → AllByRecursion IsPrinted (map (row_command name) (cond t (row.tuple ∷ live_tuples rows) (live_tuples rows)))
    by_live true rest = ((printed_tuple attributes row.tuple (some (omega arith)) few h.0, is), rest)
    by_live false rest = rest

printed_relations : (rs : List Relation) → AllByRecursion RelationFacts rs → AllByRecursion IsPrinted (flat_map relation_commands rs)
printed_relations [] h = tt
printed_relations (r ∷ rs) h =
    let is = h.0 in
    let attributes = printed_attributes r.schema.name r.schema.attributes is.name is.attributes in
    let rows = printed_rows r.schema.name r.schema.attributes r.rows is.name is.filled is.few is.rows in
    subst (AllByRecursion IsPrinted) (sym (flat_map-cons relation_commands r rs))
    (all_append IsPrinted (relation_commands r) (flat_map relation_commands rs)
    (is.name, all_append IsPrinted (map (attribute_command r.schema.name) r.schema.attributes) (map (row_command r.schema.name) (live_tuples r.rows)) attributes rows)
    (printed_relations rs h.1))

name_printed : (attributes : List Attribute) (p : ℕ) (a : Attribute) → AllByRecursion IsAttribute attributes → slice_get attributes p ≡ Some a → IsTrue (is_name a.name)
name_printed [] p a all h = cc
name_printed (b ∷ attributes) zero a all h = subst (λ c. IsTrue (is_name c.name)) (some_alike h) all.0.0
name_printed (b ∷ attributes) (suc p) a all h = name_printed attributes p a all.1 h

printed_index : (slots : List (Option Relation)) (before : List Index) (index : Index) → AllByRecursion RelationFacts (used_things slots) → IndexFacts slots before index → IsPrinted (index_command slots index)
printed_index slots before index relations is =
    let sound = sound_at slots index.relation is.relation relations is.used in
    let wanted : CreateIndex is.relation.schema.name is.attribute.name index.kind ≡ index_command slots index =
    ap (λ found. CreateIndex is.relation.schema.name (elim found [ None ↦ [] | Some a ↦ a.name ]) index.kind) (sym is.placed)
    ∙ ap (λ found. elim found [ None ↦ CreateIndex [] [] index.kind | Some r ↦ CreateIndex r.schema.name (attribute_name r.schema.attributes index.attribute) index.kind ]) (sym is.used) in
    subst IsPrinted wanted (sound.name, name_printed is.relation.schema.attributes index.attribute is.attribute sound.attributes is.placed)

printed_indexes : (slots : List (Option Relation)) (before rest : List Index) → AllByRecursion RelationFacts (used_things slots) → AllIndexFacts slots before rest → AllByRecursion IsPrinted (map (index_command slots) rest)
printed_indexes slots before [] relations are = tt
printed_indexes slots before (index ∷ rest) relations are = (printed_index slots before index relations are.0, printed_indexes slots (before ++ index ∷ []) rest relations are.1)

pub printed : (db : Database) → DatabaseFacts db → AllByRecursion IsPrinted (script_commands db)
printed db is =
    all_append IsPrinted (flat_map relation_commands (used_things db.relations)) (map (index_command db.relations) (used_things db.indexes))
    (printed_relations (used_things db.relations) is.relations)
    (printed_indexes db.relations [] (used_things db.indexes) is.relations is.indexes)

-- ---- the script is carried out

no_nodes : (c : Command) → IsPrinted c → nodes_of c ≡ []
no_nodes (CreateRelation relation) h = refl
no_nodes (CreateAttribute name domain relation) h = refl
no_nodes (CreateIndex relation attribute kind) h = refl
no_nodes (Insert values relation) h = refl
no_nodes _ h = absurd h

fine_text : text Fine ≡ ok_text
unfolding text
fine_text = refl

module _ (once : (bytes : List ℕ) (a b : Result Command Refusal) → IsReading bytes a → IsReading bytes b → a ≡ b) (read : List ℕ → Result Command Refusal) (reader : IsReader read) where
  read_back : (c : Command) → IsPrinted c → read (command_text c) ≡ Ok c
  read_back c h =
      let few : length (nodes_of c) ≤ 32 = let e = ap length (no_nodes c h) in omega (arith, e) in
      once (command_text c) (read (command_text c)) (Ok c) (reader.reads (command_text c)) (text_spells c h, few)

  -- the texts of commands that make a database
  record Runs (db made : Database) (cs : List Command) : Type 0 where
    replies : AllByRecursion IsFine (replies_to read db (map (λ c. Bytes (command_text c)) cs))
    written : output read db (map (λ c. Bytes (command_text c)) cs) ≡ flat_map (λ _. ok_text) cs
    last : last read db (map (λ c. Bytes (command_text c)) cs) ≡ made

  -- a command's text is carried out as the command
  carried : (db next : Database) (c : Command) → IsPrinted c → outcome db c ≡ Ok (next, Fine) → after read db (Bytes (command_text c)) ≡ (next, Fine)
  carried db next c h e = ap (carried_out read db) (read_back c h) ∙ ap (replied db) e

  runs : (db made : Database) (cs : List Command) → AllByRecursion IsPrinted cs → Makes db cs made → Runs db made cs
  runs db made [] h makes = record { replies = tt; written = refl; last = makes }
  runs db made (c ∷ cs) h makes =
      let next = makes.0 in
      let done = carried db next c h.0 makes.1 in
      let rest = runs next made cs h.1 makes.2 in
      let entries : List Entry = map (λ c. Bytes (command_text c)) cs in
      let now : (after read db (Bytes (command_text c))).0 ≡ next = ap (λ d. d.0) done in
      record {
        replies = (ap (λ d. d.1) done, subst (λ d. AllByRecursion IsFine (replies_to read d entries)) (sym now) rest.replies);
        written =
            ap (λ reply. text reply ++ output read ((after read db (Bytes (command_text c))).0) entries) (ap (λ d. d.1) done)
            ∙ ap (λ d. text Fine ++ output read d entries) now
            ∙ ap (λ bytes. text Fine ++ bytes) rest.written
            ∙ ap (λ bytes. bytes ++ flat_map (λ _. ok_text) cs) fine_text
            ∙ sym (flat_map-cons (λ _. ok_text) c cs);
        last = ap (λ d. last read d entries) now ∙ rest.last;
      }

  pub script_makes : (db : Database) → IsSoundDatabase db → MakesPacked read db
  script_makes db is =
      let facts = database_facts db is in
      let all = printed db facts in
      let cut = lines_cut (script_commands db) all in
      let r = runs empty_database (packed db) (script_commands db) all (makes_packed db facts) in
      record {
        cut = cut;
        whole = lines_whole (script_commands db) all;
        short = lines_short (script_commands db) all;
        makes = makes_packed db facts;
        replies = subst (λ entries. AllByRecursion IsFine (replies_to read empty_database entries)) (sym cut) r.replies;
        output = ap (output read empty_database) cut ∙ r.written;
        made = ap (last read empty_database) cut ∙ r.last;
      }
