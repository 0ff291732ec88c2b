-- Commands that insert and read make a database grow by the rows that they bring.
use Rattle.std.proofs.Common.{◌≡◌, ℕ, ◌<◌, true, ◌&&◌, not, List, [], ◌∷◌, Option, if◌then◌else◌, refl, arith}
use Rattle.std.specs.Prelude.{◌==◌}
use Rattle.std.specs.List.{AllByRecursion}
use Rattle.std.specs.Str.{bytes_eq}
use Rattle.std.proofs.lemmas.Slice.Eq.{bytes_eq-Decides}
use Rattle.db_model.specs.declared.commands.Command.{Command}
use Rattle.db_model.specs.Ahead.{is_refused}
use Rattle.db_model.specs.Catalog.{Index}
use Rattle.db_model.specs.Database.{Relation, Database, with_cursor, with_relation}
use Rattle.db_model.specs.Step.{Reply, after_all, step}
use Rattle.db_model.proofs.Change.{Change, IndexMade, RelationMade, Nothing, OfRelation, OfIndex, OfCursor, Inserts, Drops, change_of, in_version}
use Rattle.space_plan.proofs.Ringed.{below_limit}
use Rattle.space_plan.specs.Growth.{HasFewRows, IsInsertOrRead, inserts_into, rows_brought}
use Rattle.space_plan.proofs.Longer.{IsGrown, grown_few, grown_row, grown_same, grown_then}

-- the rows that a command brings to the relation of a name, by its reply
abbrev brought : Command → Reply → List ℕ → ℕ
brought c reply name = if inserts_into name c && not (is_refused reply) then 1 else 0

relation_grows : (db : Database) (c : Command) (version slot : ℕ) (r : Option Relation) (reply : Reply) → RelationMade db c version slot r reply → IsInsertOrRead c → HasFewRows db
    → IsGrown (brought c reply) db (with_relation (in_version version db) slot r)
relation_grows db _ _ _ _ _ (Inserts values name s e suit room order entries) i few =
    grown_row _ db name s (record { tuple = values; live = true }) e few
    (let same : bytes_eq name name ≡ true = (bytes_eq-Decides name name).1 refl in rw same (omega arith)) (below_limit db.version _ room)
relation_grows db _ _ _ _ _ _ i few = absurd i

no_index : (db : Database) (c : Command) (slot : ℕ) (index : Option Index) → IndexMade db c slot index → IsInsertOrRead c → ⊥
no_index db _ _ _ (Drops name attribute slot) i = i
no_index db _ _ _ _ i = i

change_grows : (db : Database) (c : Command) (d : Database × Reply) → Change db c d → IsInsertOrRead c → HasFewRows db → IsGrown (brought c d.1) db d.0
change_grows db _ _ (Nothing c reply a) i few = grown_same _ db db few refl refl
change_grows db _ _ (OfRelation c version slot r reply m) i few = relation_grows db c version slot r reply m i few
change_grows db _ _ (OfIndex c slot index m) i few = absurd (no_index db c slot index m i)
change_grows db _ _ (OfCursor c place cursor reply m) i few = grown_same _ db (with_cursor db place cursor) few refl refl

pub all_grow : (db : Database) (commands : List Command) → AllByRecursion IsInsertOrRead commands → HasFewRows db → IsGrown (rows_brought db commands) db (after_all db commands)
all_grow db [] i few = grown_same (rows_brought db []) db db few refl refl
all_grow db (c ∷ commands) i few =
    let here = change_grows db c (step db c) (change_of db c) i.0 few in
    let rest = all_grow (step db c).0 commands i.1 (grown_few (brought c (step db c).1) db (step db c).0 here) in
    grown_then (brought c (step db c).1) (rows_brought (step db c).0 commands) db (step db c).0 (after_all db (c ∷ commands)) here rest
