-- What a command makes of a database, and its reply. Each command tries its refusals in the order in which they stand
-- here, and one that is refused leaves the database. Space is no matter of the model: the step never replies it.
use Rattle.std.specs.Prelude.{◌≢◌, ℕ, ℤ, pos, negsuc, ◌+◌, ◌-◌, Bool, true, false, not, ◌&&◌, ◌||◌, ◌==◌, List, [], ◌∷◌, ◌++◌, map, length, take, drop, filter, Option, Some, None, Result, Ok, Err, ⊤, if◌then◌else◌, is_some, nat_le, nat_lt, int_lt, slice_get, option_map}
use Rattle.std.specs.List.{list_any}
use Rattle.db_model.specs.declared.commands.Agg.{Agg}
use Rattle.db_model.specs.declared.commands.Command.{Command}
use Rattle.db_model.specs.declared.commands.Command.TheVariants as command
use Rattle.db_model.specs.declared.commands.Query.{Query}
use Rattle.db_model.specs.declared.commands.Query.TheVariants.{Select, Join}
use Rattle.db_model.specs.declared.refusals.Pool.TheVariants as pool
use Rattle.db_model.specs.declared.refusals.Refusal.{Refusal}
use Rattle.db_model.specs.declared.refusals.Refusal.TheVariants as no
use Rattle.db_model.specs.declared.schemas.Attribute.{Attribute}
use Rattle.db_model.specs.declared.schemas.Domain.{Domain}
use Rattle.db_model.specs.declared.schemas.Domain.TheVariants as domain
use Rattle.db_model.specs.declared.schemas.DomainAsked.{DomainAsked}
use Rattle.db_model.specs.declared.schemas.DomainAsked.TheVariants as asked
use Rattle.db_model.specs.declared.schemas.IndexKind.{IndexKind}
use Rattle.db_model.specs.declared.schemas.IndexKind.TheVariants.{Inline, MaxHeap, MemHash}
use Rattle.db_model.specs.declared.values.Value.{Value}
use Rattle.db_model.specs.declared.values.Value.TheVariants as value
use Rattle.db_model.specs.Answers.{select, join, aggregated, selected}
use Rattle.db_model.specs.Catalog.{Index}
use Rattle.db_model.specs.Cond.{Cond, condition_of}
use Rattle.db_model.specs.Database.{Relation, Cursor, Database, free_from, used_things, relation_named, named, with_relation, with_index, index_slot, indexes_of, is_inline, is_hash_table, most_tables, cursor_place, cursor_at, with_cursor, reader_of}
use Rattle.db_model.specs.Item.{place_of, selects}
use Rattle.db_model.specs.Refusing.{◌>>=◌, ◌>>◌, refuse_if, refuse_found, found_or}
use Rattle.db_model.specs.Row.{Row, suits, row_length}
use Rattle.db_model.specs.Typing.{first_false, is_attribute, domain_of, sort_of, are_alike, is_aggregable, missing_name, ill_typed}

-- what is answered to a command
pub data Reply : Type 0 where
  -- it was carried out
  Fine : Reply
  -- these rows, and their number
  Rows : List (List Value) → Reply
  -- one row of aggregates
  Numbers : List (Option ℤ) → Reply
  -- this many rows were removed
  Removed : ℕ → Reply
  Refused : Refusal → Reply

abbrev pub Outcome : Type 0
Outcome = Result (Database × Reply) Refusal

-- ---- commands on one relation

-- a change of the relation of that name
abbrev pub changed_by : (ℕ → Database → Relation → Result (Relation × Reply) Refusal) → Database → List ℕ → Outcome
changed_by change db name = do
  s ← named db name
  r ← change s.0 db s.1
  Ok (with_relation db s.0 (Some r.0), r.1)

-- an answer from the relation of that name
abbrev pub asked_by : (Relation → Result Reply Refusal) → Database → List ℕ → Outcome
asked_by answer db name = do
  s ← named db name
  reply ← answer s.1
  Ok (db, reply)

-- refused while a cursor reads the relation
abbrev pub refuse_read : Database → List ℕ → Result ⊤ Refusal
refuse_read db name = refuse_found (reader_of db name) no.InUse

-- refused while the relation in a slot has an index
abbrev pub refuse_indexed : Database → ℕ → Result ⊤ Refusal
refuse_indexed db slot = refuse_if (nat_lt 0 (length (indexes_of db slot))) no.HasIndex

-- ---- CREATE RELATION, CREATE ATTRIBUTE

abbrev pub create_relation : Database → List ℕ → Outcome
create_relation db name = do
  refuse_if (is_some (relation_named db name)) no.Exists
  slot ← found_or (free_from 0 db.relations) (no.Full pool.Relations 8)
  Ok (with_relation db slot (Some (record { schema = record { name = name; attributes = [] }; rows = [] })), Fine)

-- a STRING has 1 to 32 bytes
abbrev pub domain_asked : DomainAsked → Option Domain
domain_asked asked.Int = Some domain.Int
domain_asked asked.Long = Some domain.Long
domain_asked asked.Time = Some domain.Time
domain_asked (asked.Str (pos n)) = if nat_le 1 n && nat_le n 32 then Some (domain.Str n) else None
domain_asked (asked.Str (negsuc n)) = None

abbrev pub with_attribute : Relation → Attribute → Relation
with_attribute r attribute = record r { schema = record { name = r.schema.name; attributes = r.schema.attributes ++ attribute ∷ [] } }

abbrev pub add_attribute : List ℕ → DomainAsked → ℕ → Database → Relation → Result (Relation × Reply) Refusal
add_attribute name wanted slot db r = do
  refuse_if (is_attribute r.schema.attributes name) no.Exists
  domain ← found_or (domain_asked wanted) no.Domain
  refuse_if (nat_lt 0 (length r.rows)) no.NotEmpty
  refuse_if (nat_le 8 (length r.schema.attributes)) (no.Full pool.Attributes 8)
  let grown = with_attribute r (record { name = name; domain = domain })
  refuse_if (nat_lt 128 (row_length grown.schema.attributes)) (no.Full pool.RowBytes 128)
  Ok (grown, Fine)

-- ---- CREATE INDEX, REMOVE INDEX

-- INLINE stands on numbers and times, the hash indexes on numbers
abbrev pub allows : IndexKind → Domain → Bool
allows kind (domain.Str n) = false
allows Inline domain.Time = true
allows MaxHeap domain.Time = false
allows MemHash domain.Time = false
allows kind domain.Int = true
allows kind domain.Long = true

abbrev pub key_of : Option Value → ℤ
key_of (Some (value.Number z)) = z
key_of (Some (value.Text bytes)) = pos 0
key_of None = pos 0

-- the keys of all slots at an attribute's place, those of removed rows among them
abbrev pub keys : ℕ → List Row → List ℤ
keys place rows = map (λ row. key_of (slice_get row.tuple place)) rows

-- the key before the first that falls
abbrev pub first_fall : List ℤ → Option ℤ
first_fall (a ∷ b ∷ zs) = if int_lt b a then Some a else first_fall (b ∷ zs)
first_fall _ = None

-- what a kind of index asks of the rows and of the other indexes
abbrev pub refuse_kind : IndexKind → Database → List ℤ → Result ⊤ Refusal
refuse_kind Inline db keys = refuse_found (first_fall keys) no.NotOrdered
refuse_kind MaxHeap db keys = Ok tt
refuse_kind MemHash db keys = do
  refuse_if (nat_le most_tables (length (filter is_hash_table (used_things db.indexes)))) (no.Full pool.HashTables most_tables)
  refuse_if (nat_lt 2048 (length keys)) (no.Full pool.HashEntries 2048)

abbrev pub create_index : Database → List ℕ → List ℕ → IndexKind → Outcome
create_index db name attribute kind = do
  s ← named db name
  place ← found_or (place_of attribute s.1.schema.attributes) (no.NoAttribute 1)
  domain ← found_or (domain_of s.1.schema.attributes attribute) (no.NoAttribute 1)
  refuse_if (not (allows kind domain)) no.Domain
  refuse_if (is_some (index_slot db s.0 place)) no.Exists
  slot ← found_or (free_from 0 db.indexes) (no.Full pool.Indexes 8)
  refuse_kind kind db (keys place s.1.rows)
  Ok (with_index db slot (Some (record { kind = kind; relation = s.0; attribute = place })), Fine)

abbrev pub remove_index : Database → List ℕ → List ℕ → Outcome
remove_index db name attribute = do
  s ← named db name
  place ← found_or (place_of attribute s.1.schema.attributes) (no.NoAttribute 1)
  slot ← found_or (index_slot db s.0 place) no.NoIndex
  refuse_read db name
  Ok (with_index db slot None, Fine)

-- ---- INSERT

-- the number of the first place at which values and attributes disagree, the lists' first having the number n + 1
abbrev pub unsuited_from : ℕ → List Attribute → List Value → Option ℕ
unsuited_from n [] [] = None
unsuited_from n (a ∷ attributes) (v ∷ values) = if suits a.domain v then unsuited_from (n + 1) attributes values else Some (n + 1)
unsuited_from n _ _ = Some (n + 1)

-- no tuple suits a relation without attributes
abbrev pub unsuited : List Attribute → List Value → Option ℕ
unsuited [] values = Some 1
unsuited (a ∷ attributes) values = unsuited_from 0 (a ∷ attributes) values

abbrev pub slots_limit : ℕ → ℕ
slots_limit version = if version == 1 then 16384 else 32768

-- the last tuple's number at the first place that passes the test and whose new number is less, the tuples' first place being n
abbrev pub fallen_from : (ℕ → Bool) → ℕ → List Value → List Value → Option ℤ
fallen_from is_ordered n (value.Number a ∷ last) (value.Number b ∷ new) = if is_ordered n && int_lt b a then Some a else fallen_from is_ordered (n + 1) last new
fallen_from is_ordered n (_ ∷ last) (_ ∷ new) = fallen_from is_ordered (n + 1) last new
fallen_from is_ordered n _ _ = None

-- whether an INLINE index is on the attribute at a place
abbrev pub is_ordered : List Index → ℕ → Bool
is_ordered indexes place = list_any (λ index. is_inline index && index.attribute == place) indexes

-- the last slot's key at the first INLINE attribute, in schema order, at which a new tuple's key is less
abbrev pub fallen : List Index → Option Row → List Value → Option ℤ
fallen indexes None values = None
fallen indexes (Some last) values = fallen_from (is_ordered indexes) 0 last.tuple values

abbrev pub insert_into : List Value → ℕ → Database → Relation → Result (Relation × Reply) Refusal
insert_into values slot db r = do
  refuse_found (unsuited r.schema.attributes values) no.Value
  refuse_if (nat_le (slots_limit db.version) (length r.rows)) (no.Full pool.Slots (slots_limit db.version))
  refuse_found (fallen (indexes_of db slot) (slice_get r.rows (length r.rows - 1)) values) no.NotOrdered
  refuse_if (list_any is_hash_table (indexes_of db slot) && nat_le 2048 (length r.rows)) (no.Full pool.HashEntries 2048)
  Ok (record r { rows = r.rows ++ record { tuple = values; live = true } ∷ [] }, Fine)

-- ---- queries

abbrev pub select_from : List (List ℕ) → Option Cond → Relation → Result (List (List Value)) Refusal
select_from list condition r = do
  refuse_found (missing_name r.schema.attributes list condition) no.NoAttribute
  refuse_found (ill_typed r.schema.attributes (map (λ _. true) list) condition) no.IllTyped
  Ok (select r.schema.attributes list condition r.rows)

-- the ON name, which both relations must have, and then the list's, which one of them must have
abbrev pub missing_in_join : List Attribute → List Attribute → List ℕ → List (List ℕ) → Option ℕ
missing_in_join left right on list =
    first_false 0 ((is_attribute left on && is_attribute right on) ∷ map (λ name. is_attribute left name || is_attribute right name) list)

-- both are texts, or both are numbers
abbrev pub joins : Option Domain → Option Domain → Bool
joins a b = are_alike (option_map sort_of a) (option_map sort_of b)

abbrev pub join_of : List ℕ → List (List ℕ) → Relation → Relation → Result (List (List Value)) Refusal
join_of on list l r = do
  refuse_found (missing_in_join l.schema.attributes r.schema.attributes on list) no.NoAttribute
  refuse_if (not (joins (domain_of l.schema.attributes on) (domain_of r.schema.attributes on))) (no.IllTyped 1)
  Ok (join l.schema.attributes r.schema.attributes on list l.rows r.rows)

-- the whole answer of a query
abbrev pub answer_of : Database → Query → Result (List (List Value)) Refusal
answer_of db (Select list name nodes) = do
  s ← named db name
  select_from list (condition_of nodes) s.1
answer_of db (Join left right on list) = do
  l ← named db left
  r ← named db right
  join_of on list l.1 r.1

abbrev pub ask : Database → Query → Outcome
ask db query = do
  rows ← answer_of db query
  Ok (db, Rows rows)

abbrev pub aggregate_of : List (Agg × List ℕ) → Option Cond → Relation → Result Reply Refusal
aggregate_of list condition r = do
  refuse_found (missing_name r.schema.attributes (map (λ item. item.1) list) condition) no.NoAttribute
  refuse_found (ill_typed r.schema.attributes (map (is_aggregable r.schema.attributes) list) condition) no.IllTyped
  Ok (Numbers (aggregated r.schema.attributes list condition r.rows))

-- ---- REMOVE FROM, REMOVE RELATION, PACK

abbrev pub removed_row : List Attribute → Option Cond → Row → Row
removed_row attributes condition row = if row.live && selects attributes condition row.tuple then record row { live = false } else row

abbrev pub remove_from : Option Cond → ℕ → Database → Relation → Result (Relation × Reply) Refusal
remove_from condition slot db r = do
  refuse_found (missing_name r.schema.attributes [] condition) no.NoAttribute
  refuse_found (ill_typed r.schema.attributes [] condition) no.IllTyped
  refuse_read db r.schema.name
  Ok (record r { rows = map (removed_row r.schema.attributes condition) r.rows }, Removed (length (selected r.schema.attributes condition r.rows)))

abbrev pub remove_relation : Database → List ℕ → Outcome
remove_relation db name = do
  s ← named db name
  refuse_read db name
  refuse_indexed db s.0
  Ok (with_relation db s.0 None, Fine)

-- the removed rows are dropped, and the live ones close up in order
abbrev pub pack : ℕ → Database → Relation → Result (Relation × Reply) Refusal
pack slot db r = do
  refuse_read db r.schema.name
  refuse_indexed db slot
  Ok (record r { rows = filter (λ row. row.live) r.rows }, Fine)

-- ---- OPEN, FETCH, CLOSE

abbrev pub relations_read : Query → List (List ℕ)
relations_read (Select list name nodes) = name ∷ []
relations_read (Join left right on list) = left ∷ right ∷ []

-- the place of an open cursor, and the cursor
abbrev pub open_cursor_of : Database → ℤ → Result (ℕ × Cursor) Refusal
open_cursor_of db number = do
  place ← found_or (cursor_place number) no.NoCursor
  cursor ← found_or (cursor_at db place) no.NoCursor
  Ok (place, cursor)

abbrev pub open_cursor : Database → ℤ → Query → Outcome
open_cursor db number query = do
  place ← found_or (cursor_place number) no.NoCursor
  refuse_if (is_some (cursor_at db place)) no.CursorOpen
  rows ← answer_of db query
  Ok (with_cursor db place (Some (record { reads = relations_read query; rows = rows })), Fine)

abbrev pub fetch_cursor : Database → ℤ → Outcome
fetch_cursor db number = do
  c ← open_cursor_of db number
  Ok (with_cursor db c.0 (Some (record c.1 { rows = drop 1 c.1.rows })), Rows (take 1 c.1.rows))

abbrev pub close_cursor : Database → ℤ → Outcome
close_cursor db number = do
  c ← open_cursor_of db number
  Ok (with_cursor db c.0 None, Fine)

-- ---- the step

-- a command that changes the catalog sets the version to 2
abbrev pub upgraded : Outcome → Outcome
upgraded outcome = do
  done ← outcome
  Ok (record (done.0) { version = 2 }, done.1)

abbrev pub outcome : Database → Command → Outcome
outcome db (command.CreateRelation name) = upgraded (create_relation db name)
outcome db (command.CreateAttribute name domain relation) = upgraded (changed_by (add_attribute name domain) db relation)
outcome db (command.CreateIndex relation attribute kind) = upgraded (create_index db relation attribute kind)
outcome db (command.Insert values relation) = changed_by (insert_into values) db relation
outcome db (command.Ask query) = ask db query
outcome db (command.Aggregate list relation nodes) = asked_by (aggregate_of list (condition_of nodes)) db relation
outcome db (command.RemoveFrom relation nodes) = changed_by (remove_from (condition_of nodes)) db relation
outcome db (command.RemoveRelation relation) = upgraded (remove_relation db relation)
outcome db (command.RemoveIndex relation attribute) = upgraded (remove_index db relation attribute)
outcome db (command.Pack relation) = changed_by pack db relation
outcome db (command.OpenCursor number query) = open_cursor db number query
outcome db (command.FetchCursor number) = fetch_cursor db number
outcome db (command.CloseCursor number) = close_cursor db number

-- a refusal leaves the database
abbrev pub replied : Database → Outcome → Database × Reply
replied db (Ok done) = done
replied db (Err refusal) = (db, Refused refusal)

abbrev pub step : Database → Command → Database × Reply
step db c = replied db (outcome db c)

-- ---- lists of commands

-- the database after commands
abbrev pub after_all : Database → List Command → Database
after_all db [] = db
after_all db (c ∷ commands) = after_all ((step db c).0) commands

-- the replies to commands
abbrev pub replies : Database → List Command → List Reply
replies db [] = []
replies db (c ∷ commands) = (step db c).1 ∷ replies ((step db c).0) commands

-- ---- what the laws speak of

-- a command that is no FETCH and no CLOSE of the cursor at a place
abbrev pub Spares : ℕ → Command → Type 0
Spares place (command.FetchCursor number) = cursor_place number ≢ Some place
Spares place (command.CloseCursor number) = cursor_place number ≢ Some place
Spares place _ = ⊤

-- a query, an aggregate, OPEN, FETCH or CLOSE
abbrev pub Reads : Command → Type 0
Reads (command.Ask query) = ⊤
Reads (command.Aggregate list relation nodes) = ⊤
Reads (command.OpenCursor number query) = ⊤
Reads (command.FetchCursor number) = ⊤
Reads (command.CloseCursor number) = ⊤
Reads _ = ⊥
