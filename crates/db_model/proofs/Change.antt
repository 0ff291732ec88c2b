-- What a command changes: nothing, a relation, an index or a cursor. Each change comes with what the refusals before it left to
-- be true, so that a law goes by four cases, and looks at commands only where it needs what they put there.
use Rattle.std.proofs.Common.{◌≡◌, refl, ℕ, ℤ, ◌-◌, true, false, List, [], ◌∷◌, ◌++◌, length, map, filter, Option, Some, None}
use Rattle.std.specs.Prelude.{Ok, Err, Result, not, ◌&&◌, is_some, nat_le, nat_lt, slice_get, drop, take}
use Rattle.std.specs.List.{list_any}
use Rattle.db_model.specs.declared.commands.Agg.{Agg}
use Rattle.db_model.specs.declared.commands.Command.{Command}
use Rattle.db_model.specs.declared.commands.Command.TheVariants.{CreateRelation, CreateAttribute, CreateIndex, Insert, Ask, Aggregate, RemoveFrom, RemoveRelation, RemoveIndex, Pack, OpenCursor, FetchCursor, CloseCursor}
use Rattle.db_model.specs.declared.commands.Node.{Node}
use Rattle.db_model.specs.declared.commands.Query.{Query}
use Rattle.db_model.specs.declared.refusals.Refusal.{Refusal}
use Rattle.db_model.specs.declared.refusals.Refusal.TheVariants as no
use Rattle.db_model.specs.declared.schemas.Domain.{Domain}
use Rattle.db_model.specs.declared.schemas.DomainAsked.{DomainAsked}
use Rattle.db_model.specs.declared.schemas.IndexKind.{IndexKind}
use Rattle.db_model.specs.declared.values.Value.{Value}
use Rattle.db_model.specs.Answers.{selected}
use Rattle.db_model.specs.Catalog.{Index}
use Rattle.db_model.specs.Cond.{Cond, condition_of}
use Rattle.db_model.specs.Database.{Relation, Cursor, Database, cursor_at, cursor_place, free_from, index_slot, indexes_of, is_hash_table, reader_of, relation_named, with_cursor, with_index, with_relation}
use Rattle.db_model.specs.Item.{place_of}
use Rattle.db_model.specs.Row.{row_length}
use Rattle.db_model.specs.Step.{Reply, Fine, Rows, Numbers, Removed, Refused, Outcome, add_attribute, aggregate_of, allows, answer_of, changed_by, create_index, create_relation, domain_asked, fallen, insert_into, keys, open_cursor_of, outcome, pack, refuse_kind, relations_read, remove_from, remove_index, remove_relation, removed_row, replied, slots_limit, step, unsuited, upgraded, with_attribute}
use Rattle.db_model.specs.Typing.{domain_of, is_attribute}
use Rattle.db_model.proofs.Yielding.{Yields, yields_behind, yields_by, yields_found, yields_none, yields_ok, yields_then, yields_unless}

abbrev pub in_version : ℕ → Database → Database
in_version version db = record db { version = version }

-- ---- the changes

-- a refusal, the rows of a query, or aggregates
pub data Answered (db : Database) : Command → Reply → Type 0 where
  Refuses : (c : Command) (refusal : Refusal) → outcome db c ≡ Err refusal → Answered db c (Refused refusal)
  Tells : (query : Query) (rows : List (List Value)) → answer_of db query ≡ Ok rows → Answered db (Ask query) (Rows rows)
  Totals : (list : List (Agg × List ℕ)) (relation : List ℕ) (nodes : List Node) (numbers : List (Option ℤ)) → Answered db (Aggregate list relation nodes) (Numbers numbers)

abbrev pub new_relation : List ℕ → Relation
new_relation name = record { schema = record { name = name; attributes = [] }; rows = [] }

abbrev pub with_row : Relation → List Value → Relation
with_row r values = record r { rows = r.rows ++ record { tuple = values; live = true } ∷ [] }

abbrev pub with_removed : Relation → Option Cond → Relation
with_removed r condition = record r { rows = map (removed_row r.schema.attributes condition) r.rows }

abbrev pub packed_up : Relation → Relation
packed_up r = record r { rows = filter (λ row. row.live) r.rows }

-- the version then, the slot of a relation, what stands there then, and the reply
pub data RelationMade (db : Database) : Command → ℕ → ℕ → Option Relation → Reply → Type 0 where
  Creates : (name : List ℕ) (slot : ℕ) → is_some (relation_named db name) ≡ false → free_from 0 db.relations ≡ Some slot
      → RelationMade db (CreateRelation name) 2 slot (Some (new_relation name)) Fine
  Grows : (name : List ℕ) (wanted : DomainAsked) (relation : List ℕ) (s : ℕ × Relation) (domain : Domain) → relation_named db relation ≡ Some s
      → is_attribute s.1.schema.attributes name ≡ false → domain_asked wanted ≡ Some domain → nat_lt 0 (length s.1.rows) ≡ false → nat_le 8 (length s.1.schema.attributes) ≡ false
      → nat_lt 128 (row_length (with_attribute s.1 (record { name = name; domain = domain })).schema.attributes) ≡ false
      → RelationMade db (CreateAttribute name wanted relation) 2 s.0 (Some (with_attribute s.1 (record { name = name; domain = domain }))) Fine
  Inserts : (values : List Value) (name : List ℕ) (s : ℕ × Relation) → relation_named db name ≡ Some s
      → unsuited s.1.schema.attributes values ≡ None → nat_le (slots_limit db.version) (length s.1.rows) ≡ false
      → fallen (indexes_of db s.0) (slice_get s.1.rows (length s.1.rows - 1)) values ≡ None
      → (list_any is_hash_table (indexes_of db s.0) && nat_le 2048 (length s.1.rows)) ≡ false
      → RelationMade db (Insert values name) db.version s.0 (Some (with_row s.1 values)) Fine
  Marks : (name : List ℕ) (nodes : List Node) (s : ℕ × Relation) → relation_named db name ≡ Some s
      → RelationMade db (RemoveFrom name nodes) db.version s.0 (Some (with_removed s.1 (condition_of nodes)))
      (Removed (length (selected s.1.schema.attributes (condition_of nodes) s.1.rows)))
  Packs : (name : List ℕ) (s : ℕ × Relation) → relation_named db name ≡ Some s → nat_lt 0 (length (indexes_of db s.0)) ≡ false
      → RelationMade db (Pack name) db.version s.0 (Some (packed_up s.1)) Fine
  Removes : (name : List ℕ) (s : ℕ × Relation) → relation_named db name ≡ Some s → reader_of db name ≡ None → nat_lt 0 (length (indexes_of db s.0)) ≡ false
      → RelationMade db (RemoveRelation name) 2 s.0 None Fine

-- the slot of an index, and what stands there then
pub data IndexMade (db : Database) : Command → ℕ → Option Index → Type 0 where
  Builds : (name attribute : List ℕ) (kind : IndexKind) (s : ℕ × Relation) (place slot : ℕ) (domain : Domain) → relation_named db name ≡ Some s
      → place_of attribute s.1.schema.attributes ≡ Some place → domain_of s.1.schema.attributes attribute ≡ Some domain → not (allows kind domain) ≡ false
      → is_some (index_slot db s.0 place) ≡ false → free_from 0 db.indexes ≡ Some slot → refuse_kind kind db (keys place s.1.rows) ≡ Ok tt
      → IndexMade db (CreateIndex name attribute kind) slot (Some (record { kind = kind; relation = s.0; attribute = place }))
  Drops : (name attribute : List ℕ) (slot : ℕ) → IndexMade db (RemoveIndex name attribute) slot None

-- an open cursor is the one at the place of its number
pub record IsOpenAt (db : Database) (number : ℤ) (c : ℕ × Cursor) : Type 0 where
  pub place : cursor_place number ≡ Some c.0
  pub cursor : cursor_at db c.0 ≡ Some c.1

-- the place of a cursor, what stands there then, and the reply
pub data CursorMade (db : Database) : Command → ℕ → Option Cursor → Reply → Type 0 where
  Opens : (number : ℤ) (query : Query) (place : ℕ) (rows : List (List Value)) → cursor_place number ≡ Some place → is_some (cursor_at db place) ≡ false → answer_of db query ≡ Ok rows
      → CursorMade db (OpenCursor number query) place (Some (record { reads = relations_read query; rows = rows })) Fine
  Fetches : (number : ℤ) (c : ℕ × Cursor) → IsOpenAt db number c → CursorMade db (FetchCursor number) c.0 (Some (record c.1 { rows = drop 1 c.1.rows })) (Rows (take 1 c.1.rows))
  Closes : (number : ℤ) (c : ℕ × Cursor) → IsOpenAt db number c → CursorMade db (CloseCursor number) c.0 None Fine

-- what a command makes of a database, with its reply
pub data Change (db : Database) : Command → Database × Reply → Type 0 where
  Nothing : (c : Command) (reply : Reply) → Answered db c reply → Change db c (db, reply)
  OfRelation : (c : Command) (version slot : ℕ) (r : Option Relation) (reply : Reply) → RelationMade db c version slot r reply → Change db c (with_relation (in_version version db) slot r, reply)
  OfIndex : (c : Command) (slot : ℕ) (index : Option Index) → IndexMade db c slot index → Change db c (with_index (in_version 2 db) slot index, Fine)
  OfCursor : (c : Command) (place : ℕ) (cursor : Option Cursor) (reply : Reply) → CursorMade db c place cursor reply → Change db c (with_cursor db place cursor, reply)

-- ---- what each command changes

-- where it is carried out
abbrev Makes : Database → Command → Outcome → Type 0
Makes db c o = Yields (Change db c) o

-- the version stays
of_relation : (db : Database) (c : Command) (slot : ℕ) (r : Option Relation) (reply : Reply) → RelationMade db c db.version slot r reply → Change db c (with_relation db slot r, reply)
of_relation db c slot r reply m = OfRelation c db.version slot r reply m

upgraded_makes : (db : Database) (c : Command) (o : Outcome) → Yields (λ d. Change db c (in_version 2 d.0, d.1)) o → Makes db c (upgraded o)
upgraded_makes db c o h = yields_by _ o _ (λ d e. yields_ok _ _ (h.yields d e))

-- a change of the relation of a name, once it is walked through
changed_makes : (Q : Database × Reply → Type 0) (db : Database) (name : List ℕ) (change : ℕ → Database → Relation → Result (Relation × Reply) Refusal)
    → ((s : ℕ × Relation) → relation_named db name ≡ Some s → Yields (λ d. Q (with_relation db s.0 (Some d.0), d.1)) (change s.0 db s.1)) → Yields Q (changed_by change db name)
changed_makes Q db name change h =
    yields_found Q (relation_named db name) no.NoRelation _ (λ s e. yields_by Q (change s.0 db s.1) _ (λ d f. yields_ok Q _ ((h s e).yields d f)))

open_at : (db : Database) (number : ℤ) → Yields (IsOpenAt db number) (open_cursor_of db number)
open_at db number =
    yields_found _ (cursor_place number) no.NoCursor _
    (λ place e. yields_found _ (cursor_at db place) no.NoCursor _ (λ cursor f. yields_ok _ _ (record { place = e; cursor = f })))

makes : (db : Database) (c : Command) → Makes db c (outcome db c)
makes db (CreateRelation name) = upgraded_makes db (CreateRelation name) (create_relation db name) (search (yields_unless, yields_found, yields_ok, OfRelation, Creates) depth 30)
makes db (CreateAttribute name wanted relation) =
    upgraded_makes db (CreateAttribute name wanted relation) _
    (changed_makes _ db relation (add_attribute name wanted) (λ s e. search (yields_unless, yields_found, yields_ok, OfRelation, Grows) depth 30))
makes db (CreateIndex name attribute kind) =
    upgraded_makes db (CreateIndex name attribute kind) (create_index db name attribute kind) (search (yields_unless, yields_found, yields_then, yields_ok, OfIndex, Builds) depth 30)
makes db (Insert values name) = changed_makes _ db name (insert_into values) (λ s e. search (yields_none, yields_unless, yields_ok, of_relation, Inserts) depth 30)
makes db (Ask query) = search (yields_by, yields_ok, Nothing, Tells) depth 30
makes db (Aggregate list name nodes) = search (yields_by, yields_ok, Nothing, totals) depth 30
  where
    totals : (s : ℕ × Relation) (reply : Reply) → aggregate_of list (condition_of nodes) s.1 ≡ Ok reply → Answered db (Aggregate list name nodes) reply
    totals s reply e =
        let y : Yields (Answered db (Aggregate list name nodes)) (aggregate_of list (condition_of nodes) s.1) = search (yields_behind, yields_ok, Totals) depth 30 in
        y.yields reply e
makes db (RemoveFrom name nodes) = changed_makes _ db name (remove_from (condition_of nodes)) (λ s e. search (yields_behind, yields_ok, of_relation, Marks) depth 30)
makes db (RemoveRelation name) =
    upgraded_makes db (RemoveRelation name) (remove_relation db name) (search (yields_found, yields_none, yields_unless, yields_ok, OfRelation, Removes) depth 30)
makes db (RemoveIndex name attribute) = upgraded_makes db (RemoveIndex name attribute) (remove_index db name attribute) (search (yields_found, yields_behind, yields_ok, OfIndex, Drops) depth 30)
makes db (Pack name) = changed_makes _ db name pack (λ s e. search (yields_none, yields_unless, yields_ok, of_relation, Packs) depth 30)
makes db (OpenCursor number query) = search (yields_found, yields_unless, yields_by, yields_ok, OfCursor, Opens) depth 30
makes db (FetchCursor number) = yields_by _ (open_cursor_of db number) _ (λ c e. yields_ok _ _ (OfCursor _ c.0 _ _ (Fetches number c ((open_at db number).yields c e))))
makes db (CloseCursor number) = yields_by _ (open_cursor_of db number) _ (λ c e. yields_ok _ _ (OfCursor _ c.0 _ _ (Closes number c ((open_at db number).yields c e))))

-- a step makes a change
pub change_of : (db : Database) (c : Command) → Change db c (step db c)
change_of db c = by_outcome (outcome db c) refl (makes db c)
  where
    by_outcome : (o : Outcome) → outcome db c ≡ o → Makes db c o → Change db c (replied db o)
    by_outcome (Ok d) e m = m.yields d refl
    by_outcome (Err refusal) e m = Nothing c (Refused refusal) (Refuses c refusal e)
