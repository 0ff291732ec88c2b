-- A generated command is answered by one row at most.
use Rattle.std.proofs.Common.{ℕ, ◌+◌, ◌≤◌, Bool, true, false, arith, if◌then◌else◌}
use Rattle.std.specs.Prelude.{⊤, Option, codes}
use Rattle.std.specs.Prelude.{◌==◌, ◌%◌}
use Rattle.db_model.specs.declared.commands.Command.{Command}
use Rattle.db_model.specs.declared.commands.Command.TheVariants.{CreateRelation, CreateAttribute, CreateIndex, Insert, Aggregate}
use Rattle.db_model.specs.declared.schemas.DomainAsked.TheVariants as asked
use Rattle.db_model.specs.declared.schemas.IndexKind.TheVariants.{MaxHeap}
use Rattle.db_model.specs.Database.{Cursor, Database, Relation}
use Rattle.db_model.specs.Step.{Reply, Fine, Rows, Numbers, Removed, Refused, step}
use Rattle.db_model.specs.Workload.{Tally, command_at, counted, counting, drawn, inserting}
use Rattle.db_model.proofs.Change.{Answered, Change, CursorMade, RelationMade, Nothing, OfRelation, OfIndex, OfCursor, Tells, Marks, Closes, change_of}

-- the rows that a reply brings
abbrev rows_of : Reply → ℕ
rows_of reply = (counted (record { commands = 0; fine = 0; rows = 0; refused = 0 }) reply).rows

abbrev IsFew : Reply → Type 0
IsFew reply = rows_of reply ≤ 1

-- commands whose replies bring one row at most
abbrev IsBrief : Command → Type 0
IsBrief (CreateRelation name) = ⊤
IsBrief (CreateAttribute name domain relation) = ⊤
IsBrief (CreateIndex relation attribute kind) = ⊤
IsBrief (Insert values relation) = ⊤
IsBrief (Aggregate list relation nodes) = ⊤
IsBrief _ = ⊥

module _ (db : Database) where
  few_answer : (c : Command) (reply : Reply) → Answered db c reply → IsBrief c → IsFew reply
  few_answer _ _ (Tells query rows e) b = absurd b
  few_answer _ _ _ b = omega arith

  few_relation : (c : Command) (version slot : ℕ) (r : Option Relation) (reply : Reply) → RelationMade db c version slot r reply → IsBrief c → IsFew reply
  few_relation _ _ _ _ _ (Marks name nodes s e) b = absurd b
  few_relation _ _ _ _ _ _ b = omega arith

  no_cursor : (c : Command) (place : ℕ) (cursor : Option Cursor) (reply : Reply) → CursorMade db c place cursor reply → IsBrief c → ⊥
  no_cursor _ _ _ _ (Closes number k at) b = b
  no_cursor _ _ _ _ _ b = b

  few : (c : Command) (d : Database × Reply) → Change db c d → IsBrief c → IsFew d.1
  few _ _ (Nothing c reply a) b = few_answer c reply a b
  few _ _ (OfRelation c version slot r reply m) b = few_relation c version slot r reply m b
  few _ _ (OfIndex c slot index m) b = omega arith
  few _ _ (OfCursor c place cursor reply m) b = absurd (no_cursor c place cursor reply m b)

generated_brief : (seed k : ℕ) → IsBrief (command_at seed k)
generated_brief seed k =
    either (k == 0) (CreateRelation (codes "w")) _ tt
    (either (k == 1) (CreateAttribute (codes "k") asked.Long (codes "w")) _ tt
    (either (k == 2) (CreateAttribute (codes "v") asked.Int (codes "w")) _ tt
    (either (k == 3) (CreateIndex (codes "w") (codes "k") MaxHeap) _ tt (either (k % 64 == 63) (counting (drawn seed k)) (inserting (drawn seed k) k) tt tt))))
  where
    either : (b : Bool) (c d : Command) → IsBrief c → IsBrief d → IsBrief (if b then c else d)
    either true c d h i = h
    either false c d h i = i

adds_few : (t : Tally) (reply : Reply) → IsFew reply → (counted t reply).rows ≤ t.rows + 1
adds_few t Fine h = omega arith
adds_few t (Rows rows) h = omega (arith, h)
adds_few t (Numbers numbers) h = omega arith
adds_few t (Removed n) h = omega (arith, h)
adds_few t (Refused refusal) h = omega arith

-- the reply to a generated command adds one row at most
pub one_row : (db : Database) (seed k : ℕ) (t : Tally) → (counted t ((step db (command_at seed k)).1)).rows ≤ t.rows + 1
one_row db seed k t =
    adds_few t ((step db (command_at seed k)).1) (few db (command_at seed k) (step db (command_at seed k)) (change_of db (command_at seed k)) (generated_brief seed k))
