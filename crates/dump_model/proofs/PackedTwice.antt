-- A packed database is sound, and has the same script.
use Rattle.std.proofs.Common.{◌≡◌, refl, sym, ap, subst, ◌∙◌, ℕ, ◌-◌, Bool, true, false, List, [], ◌∷◌, ◌++◌, length, map, flat_map, get_or, replicate, cond, Option, Some, None, zero, suc}
use Rattle.std.specs.List.{AllByRecursion}
use Rattle.std.proofs.lemmas.List.Concat.{flat_map-cons}
use Rattle.db_model.specs.declared.commands.Command.{Command}
use Rattle.db_model.specs.declared.commands.Command.TheVariants.{CreateRelation, CreateAttribute, CreateIndex, Insert}
use Rattle.db_model.specs.Answers.{live_tuples}
use Rattle.db_model.specs.Catalog.{Index}
use Rattle.db_model.specs.Database.{Relation, Database, used_things, empty_database}
use Rattle.db_model.specs.Row.{Row}
use Rattle.db_model.specs.Sound.{BringsNames, IsSoundDatabase}
use Rattle.db_model.specs.Step.{replied, step}
use Rattle.dump_model.specs.Made.{Makes}
use Rattle.dump_model.specs.Packed.{kept_rows, moved_index, new_slot, packed, packed_relation, slots_for}
use Rattle.dump_model.specs.Script.{attribute_command, command_line, index_command, attribute_name, relation_commands, row_command, script, script_commands}
use Rattle.dump_model.proofs.Facts.{AllIndexFacts, database_facts}
use Rattle.dump_model.proofs.Made.{makes_packed, printed}
use Rattle.dump_model.proofs.Slots.{used_front}
use Rattle.dump_model.proofs.Texts.{IsPrinted}
use Rattle.padded.proofs.Facts.{some_alike}

-- ---- it is sound

brings_names : (c : Command) → IsPrinted c → BringsNames c
brings_names (CreateRelation relation) h = h
brings_names (CreateAttribute name domain relation) h = h.0
brings_names (CreateIndex relation attribute kind) h = tt
brings_names (Insert values relation) h = tt
brings_names _ h = absurd h

module _ (kept : (db : Database) (command : Command) → BringsNames command → IsSoundDatabase db → IsSoundDatabase ((step db command).0)) where
  made_sound : (db made : Database) (cs : List Command) → AllByRecursion IsPrinted cs → Makes db cs made → IsSoundDatabase db → IsSoundDatabase made
  made_sound db made [] h makes is = subst IsSoundDatabase makes is
  made_sound db made (c ∷ cs) h makes is =
      let next : (step db c).0 ≡ makes.0 = ap (λ done. (replied db done).0) makes.1 in
      made_sound makes.0 made cs h.1 makes.2 (subst IsSoundDatabase next (kept db c (brings_names c h.0) is))

  pub packed_sound : IsSoundDatabase empty_database → (db : Database) → IsSoundDatabase db → IsSoundDatabase (packed db)
  packed_sound empty db is = let facts = database_facts db is in made_sound empty_database (packed db) (script_commands db) (printed db facts) (makes_packed db facts) empty

-- ---- its relations

live_twice : (rows : List Row) → kept_rows (kept_rows rows) ≡ kept_rows rows
live_twice [] = refl
live_twice (row ∷ rows) = by_live row.live refl (live_twice rows)
  where
    by_live : (t : Bool) → row.live ≡ t → kept_rows (kept_rows rows) ≡ kept_rows rows → kept_rows (cond t (row ∷ kept_rows rows) (kept_rows rows)) ≡ cond t (row ∷ kept_rows rows) (kept_rows rows)
    by_live true e h = ap (λ t. cond t (row ∷ kept_rows (kept_rows rows)) (kept_rows (kept_rows rows))) e ∙ ap (λ rs. row ∷ rs) h
    by_live false e h = h

same_tuples : (rows : List Row) → live_tuples (kept_rows rows) ≡ live_tuples rows
same_tuples [] = refl
same_tuples (row ∷ rows) = by_live row.live refl (same_tuples rows)
  where
    by_live : (t : Bool) → row.live ≡ t → live_tuples (kept_rows rows) ≡ live_tuples rows → live_tuples (cond t (row ∷ kept_rows rows) (kept_rows rows)) ≡ cond t (row.tuple ∷ live_tuples rows) (live_tuples rows)
    by_live true e h = ap (λ t. cond t (row.tuple ∷ live_tuples (kept_rows rows)) (live_tuples (kept_rows rows))) e ∙ ap (λ ts. row.tuple ∷ ts) h
    by_live false e h = h

packed_relations : (rs : List Relation) → map packed_relation (map packed_relation rs) ≡ map packed_relation rs
packed_relations [] = refl
packed_relations (r ∷ rs) =
    ap (λ rows. record { schema = r.schema; rows = rows } ∷ map packed_relation (map packed_relation rs)) (live_twice r.rows) ∙ ap (λ qs. packed_relation r ∷ qs) (packed_relations rs)

same_commands : (r : Relation) → relation_commands (packed_relation r) ≡ relation_commands r
same_commands r = ap (λ tuples. CreateRelation r.schema.name ∷ (map (attribute_command r.schema.name) r.schema.attributes ++ map (row_command r.schema.name) tuples)) (same_tuples r.rows)

all_commands : (rs : List Relation) → flat_map relation_commands (map packed_relation rs) ≡ flat_map relation_commands rs
all_commands [] = refl
all_commands (r ∷ rs) =
    flat_map-cons relation_commands (packed_relation r) (map packed_relation rs)
    ∙ ap (λ cs. cs ++ flat_map relation_commands (map packed_relation rs)) (same_commands r)
    ∙ ap (λ cs. relation_commands r ++ cs) (all_commands rs)
    ∙ sym (flat_map-cons relation_commands r rs)

-- ---- its indexes

-- the relation in the new slot of a used one
moved_there : (slots : List (Option Relation)) (k : ℕ) (r : Relation) (behind : List (Option Relation)) → get_or slots k None ≡ Some r
    → get_or (map (λ x. Some x) (map packed_relation (used_things slots)) ++ behind) (new_slot slots k) None ≡ Some (packed_relation r)
moved_there [] k r behind h = cc
moved_there (None ∷ slots) zero r behind h = cc
moved_there (None ∷ slots) (suc k) r behind h = moved_there slots k r behind h
moved_there (Some q ∷ slots) zero r behind h = ap (λ x. Some (packed_relation x)) (some_alike h)
moved_there (Some q ∷ slots) (suc k) r behind h = moved_there slots k r behind h

-- the new slot of a slot that is used already is the same
new_there : (slots : List (Option Relation)) (k : ℕ) (r : Relation) (behind : List (Option Relation)) → get_or slots k None ≡ Some r
    → new_slot (map (λ x. Some x) (map packed_relation (used_things slots)) ++ behind) (new_slot slots k) ≡ new_slot slots k
new_there [] k r behind h = cc
new_there (None ∷ slots) zero r behind h = cc
new_there (None ∷ slots) (suc k) r behind h = new_there slots k r behind h
new_there (Some q ∷ slots) zero r behind h = refl
new_there (Some q ∷ slots) (suc k) r behind h = ap (λ n. suc n) (new_there slots k r behind h)

module _ (slots : List (Option Relation)) (n : ℕ) where
  abbrev closed_up : List (Option Relation)
  closed_up = slots_for n (map packed_relation (used_things slots))

  same_index : (index : Index) (r : Relation) → get_or slots index.relation None ≡ Some r → index_command closed_up (moved_index slots index) ≡ index_command slots index
  same_index index r h =
      let command : Option Relation → Command = λ slot. elim slot [ None ↦ CreateIndex [] [] index.kind | Some q ↦ CreateIndex q.schema.name (attribute_name q.schema.attributes index.attribute) index.kind ] in
      ap command (moved_there slots index.relation r (replicate (n - length (map packed_relation (used_things slots))) None) h) ∙ sym (ap command h)

  same_indexes : (before rest : List Index) → AllIndexFacts slots before rest → map (index_command closed_up) (map (moved_index slots) rest) ≡ map (index_command slots) rest
  same_indexes before [] h = refl
  same_indexes before (index ∷ rest) h =
      ap (λ c. c ∷ map (index_command closed_up) (map (moved_index slots) rest)) (same_index index h.0.relation h.0.used)
      ∙ ap (λ cs. index_command slots index ∷ cs) (same_indexes (before ++ index ∷ []) rest h.1)

  moved_twice : (before rest : List Index) → AllIndexFacts slots before rest → map (moved_index closed_up) (map (moved_index slots) rest) ≡ map (moved_index slots) rest
  moved_twice before [] h = refl
  moved_twice before (index ∷ rest) h =
      ap (λ k. record { kind = index.kind; relation = k; attribute = index.attribute } ∷ map (moved_index closed_up) (map (moved_index slots) rest))
      (new_there slots index.relation h.0.relation (replicate (n - length (map packed_relation (used_things slots))) None) h.0.used)
      ∙ ap (λ xs. moved_index slots index ∷ xs) (moved_twice (before ++ index ∷ []) rest h.1)

-- ---- databases

in_slots : {A : Type 0} (n : ℕ) (xs : List A) → used_things (slots_for n xs) ≡ xs
in_slots n xs = used_front xs (n - length xs)

pub same_script : (db : Database) → IsSoundDatabase db → script (packed db) ≡ script db
same_script db is =
    let facts = database_facts db is in
    let rs = map packed_relation (used_things db.relations) in
    let xs = map (moved_index db.relations) (used_things db.indexes) in
    ap (flat_map command_line)
    (ap (λ qs. flat_map relation_commands qs ++ map (index_command (slots_for 8 rs)) (used_things (slots_for 8 xs))) (in_slots 8 rs)
    ∙ ap (λ ys. flat_map relation_commands rs ++ map (index_command (slots_for 8 rs)) ys) (in_slots 8 xs)
    ∙ ap (λ cs. cs ++ map (index_command (slots_for 8 rs)) xs) (all_commands (used_things db.relations))
    ∙ ap (λ cs. flat_map relation_commands (used_things db.relations) ++ cs) (same_indexes db.relations 8 [] (used_things db.indexes) facts.indexes))

pub packed_twice : (db : Database) → IsSoundDatabase db → packed (packed db) ≡ packed db
packed_twice db is =
    let facts = database_facts db is in
    let rs = map packed_relation (used_things db.relations) in
    let xs = map (moved_index db.relations) (used_things db.indexes) in
    let made : List Relation → List Index → Database = λ qs ys. record { version = 2; relations = slots_for 8 qs; indexes = slots_for 8 ys; cursors = replicate 4 None } in
    ap (λ qs. made (map packed_relation qs) (map (moved_index (slots_for 8 rs)) (used_things (slots_for 8 xs)))) (in_slots 8 rs)
    ∙ ap (λ qs. made qs (map (moved_index (slots_for 8 rs)) (used_things (slots_for 8 xs)))) (packed_relations (used_things db.relations))
    ∙ ap (λ ys. made rs (map (moved_index (slots_for 8 rs)) ys)) (in_slots 8 xs)
    ∙ ap (made rs) (moved_twice db.relations 8 [] (used_things db.indexes) facts.indexes)
