-- A database whose texts are texts stays one, and replies with texts.
use Rattle.std.proofs.Common.{◌≡◌, sym, subst, ℕ, ◌-◌, Bool, true, false, List, [], ◌∷◌, length, map, take, drop, filter, cond, Option, Some, None, pos, zero, suc}
use Rattle.std.specs.Prelude.{IsTrue, ⊤, ◌&&◌, not, slice_get, unwrap_or, option_and_then, nat_le}
use Rattle.std.specs.Option.{option_or}
use Rattle.std.specs.List.{AllByRecursion}
use Rattle.std.proofs.lemmas.List.Concat.{flat_map-cons}
use Rattle.db_model.specs.declared.commands.Command.{Command}
use Rattle.db_model.specs.declared.commands.Query.{Query}
use Rattle.db_model.specs.declared.commands.Query.TheVariants.{Select, Join}
use Rattle.db_model.specs.declared.refusals.Refusal.TheVariants as no
use Rattle.db_model.specs.declared.schemas.Attribute.{Attribute}
use Rattle.db_model.specs.declared.schemas.Domain.{Domain}
use Rattle.db_model.specs.declared.schemas.Domain.TheVariants as domain
use Rattle.db_model.specs.declared.values.Value.{Value}
use Rattle.db_model.specs.declared.values.Value.TheVariants as value
use Rattle.db_model.specs.Answers.{live_tuples, selected, projected, projected_pair, select, pairs, join, same_value}
use Rattle.db_model.specs.Cond.{Cond, condition_of}
use Rattle.db_model.specs.Database.{Relation, Cursor, Database, bare, relation_named, with_relation, with_cursor}
use Rattle.db_model.specs.Item.{value_of, place_of, selects}
use Rattle.db_model.specs.Names.{is_text}
use Rattle.db_model.specs.Refusing.{refuse_if, refuse_found}
use Rattle.db_model.specs.Row.{Row, AllRowsSuit, AllSuit, suits}
use Rattle.db_model.specs.Sound.{IsSoundDatabase, StandsIn}
use Rattle.db_model.specs.Step.{Reply, Rows, answer_of, join_of, joins, missing_in_join, removed_row, select_from, step}
use Rattle.db_model.specs.Typing.{domain_of, ill_typed, missing_name}
use Rattle.db_model.proofs.SoundRows.{suited}
use Rattle.db_model.proofs.Standing.{found_from, nothing_stands, stands_either}
use Rattle.db_model.proofs.Yielding.{Yields, yields_behind, yields_found, yields_ok}
use Rattle.db_model.proofs.Change.{Answered, Change, CursorMade, RelationMade, Nothing, OfRelation, OfIndex, OfCursor, Tells, Creates, Grows, Inserts, Marks, Packs, Removes, Opens, Fetches, Closes, change_of, in_version}
use Rattle.padded.proofs.Facts.{never_some, some_alike, all_append}

-- ---- what is textual

abbrev pub IsTextual : Value → Type 0
IsTextual (value.Number z) = ⊤
IsTextual (value.Text bytes) = IsTrue (is_text bytes)

abbrev pub AreTextual : List Value → Type 0
AreTextual values = AllByRecursion IsTextual values

abbrev pub AnswersTexts : List (List Value) → Type 0
AnswersTexts rows = AllByRecursion AreTextual rows

abbrev pub IsTextualReply : Reply → Type 0
IsTextualReply (Rows rows) = AnswersTexts rows
IsTextualReply _ = ⊤

abbrev pub AreTextualRows : List Row → Type 0
AreTextualRows rows = AllByRecursion (λ row. AreTextual row.tuple) rows

pub record IsTextualDatabase (db : Database) : Type 0 where
  pub relations : (k : ℕ) (r : Relation) → StandsIn db.relations k r → AreTextualRows r.rows
  pub cursors : (k : ℕ) (c : Cursor) → StandsIn db.cursors k c → AnswersTexts c.rows

-- ---- lists

all-filter : {A : Type 0} (P : A → Type 0) (test : A → Bool) (xs : List A) → AllByRecursion P xs → AllByRecursion P (filter test xs)
all-filter P test [] h = tt
all-filter P test (x ∷ xs) h = by_test (test x) (all-filter P test xs h.1)
  where
    by_test : (t : Bool) → AllByRecursion P (filter test xs) → AllByRecursion P (cond t (x ∷ filter test xs) (filter test xs))
    by_test true i = (h.0, i)
    by_test false i = i

all-map : {A B : Type 0} (P : A → Type 0) (Q : B → Type 0) (f : A → B) → ((x : A) → P x → Q (f x)) → (xs : List A) → AllByRecursion P xs → AllByRecursion Q (map f xs)
all-map P Q f g [] h = tt
all-map P Q f g (x ∷ xs) h = (g x h.0, all-map P Q f g xs h.1)

all-take : {A : Type 0} (P : A → Type 0) (n : ℕ) (xs : List A) → AllByRecursion P xs → AllByRecursion P (take n xs)
all-take P zero xs h = tt
all-take P (suc n) [] h = tt
all-take P (suc n) (x ∷ xs) h = (h.0, all-take P n xs h.1)

all-drop : {A : Type 0} (P : A → Type 0) (n : ℕ) (xs : List A) → AllByRecursion P xs → AllByRecursion P (drop n xs)
all-drop P zero xs h = h
all-drop P (suc n) [] h = tt
all-drop P (suc n) (x ∷ xs) h = all-drop P n xs h.1

-- what an option holds
abbrev InOption : {A : Type 0} → (A → Type 0) → Option A → Type 0
InOption P None = ⊤
InOption P (Some x) = P x

in_get : {A : Type 0} (P : A → Type 0) (xs : List A) (k : ℕ) → AllByRecursion P xs → InOption P (slice_get xs k)
in_get P [] k h = tt
in_get P (x ∷ xs) zero h = h.0
in_get P (x ∷ xs) (suc k) h = in_get P xs k h.1

-- ---- values that suit

suits_textual : (d : Domain) (v : Value) → suits d v ≡ true → IsTextual v
suits_textual d (value.Number z) h = tt
suits_textual domain.Int (value.Text bytes) h = cc
suits_textual domain.Long (value.Text bytes) h = cc
suits_textual domain.Time (value.Text bytes) h = cc
suits_textual (domain.Str n) (value.Text bytes) h = by_test (nat_le (length bytes) n) h
  where
    by_test : (t : Bool) {u : Bool} → (t && u) ≡ true → u ≡ true
    by_test true e = e
    by_test false e = cc

suited_textual : (attributes : List Attribute) (values : List Value) → AllSuit attributes values → AreTextual values
suited_textual [] [] h = tt
suited_textual [] (v ∷ values) h = absurd h
suited_textual (a ∷ attributes) [] h = tt
suited_textual (a ∷ attributes) (v ∷ values) h = (suits_textual a.domain v h.0, suited_textual attributes values h.1)

rows_textual : (attributes : List Attribute) (rows : List Row) → AllRowsSuit attributes rows → AreTextualRows rows
rows_textual attributes [] h = tt
rows_textual attributes (row ∷ rows) h = (suited_textual attributes row.tuple h.0, rows_textual attributes rows h.1)

-- the rows of a sound database suit their attributes
pub sound_textual : (db : Database) → IsSoundDatabase db → IsTextualDatabase (bare db)
sound_textual db s = record {
  relations = λ k r e. rows_textual r.schema.attributes r.rows (s.relations k r e).rows;
  cursors = λ k c e. absurd (nothing_stands 4 k c e);
}

-- ---- answers

live_textual : (rows : List Row) → AreTextualRows rows → AnswersTexts (live_tuples rows)
live_textual [] h = tt
live_textual (row ∷ rows) h = by_live row.live (live_textual rows h.1)
  where
    by_live : (t : Bool) → AnswersTexts (live_tuples rows) → AnswersTexts (cond t (row.tuple ∷ live_tuples rows) (live_tuples rows))
    by_live true i = (h.0, i)
    by_live false i = i

in_value : (attributes : List Attribute) (values : List Value) (name : List ℕ) → AreTextual values → InOption IsTextual (value_of attributes values name)
in_value attributes values name h = by_place (place_of name attributes)
  where
    by_place : (p : Option ℕ) → InOption IsTextual (option_and_then (slice_get values) p)
    by_place None = tt
    by_place (Some k) = in_get IsTextual values k h

or_zero : (o : Option Value) → InOption IsTextual o → IsTextual (unwrap_or o (value.Number (pos 0)))
or_zero None h = tt
or_zero (Some v) h = h

in_or : (a b : Option Value) → InOption IsTextual a → InOption IsTextual b → InOption IsTextual (option_or a b)
in_or None b h i = i
in_or (Some v) b h i = h

projected_textual : (attributes : List Attribute) (list : List (List ℕ)) (values : List Value) → AreTextual values → AreTextual (projected attributes list values)
projected_textual attributes [] values h = tt
projected_textual attributes (name ∷ list) values h = (or_zero (value_of attributes values name) (in_value attributes values name h), projected_textual attributes list values h)

abbrev BothTextual : List Value × List Value → Type 0
BothTextual pair = AreTextual pair.0 × AreTextual pair.1

pair_textual : (left right : List Attribute) (list : List (List ℕ)) (pair : List Value × List Value) → BothTextual pair → AreTextual (projected_pair left right list pair)
pair_textual left right [] pair h = tt
pair_textual left right (name ∷ list) pair h =
    (or_zero (option_or (value_of left pair.0 name) (value_of right pair.1 name)) (in_or (value_of left pair.0 name) (value_of right pair.1 name) (in_value left pair.0 name h.0) (in_value right pair.1 name h.1)), pair_textual left right list pair h)

pairs_textual : (xs ys : List (List Value)) → AnswersTexts xs → AnswersTexts ys → AllByRecursion BothTextual (pairs xs ys)
pairs_textual [] ys h i = tt
pairs_textual (x ∷ xs) ys h i =
    subst (AllByRecursion BothTextual) (sym (flat_map-cons (λ x. map (λ y. (x, y)) ys) x xs))
    (all_append BothTextual (map (λ y. (x, y)) ys) (pairs xs ys) (all-map AreTextual BothTextual (λ y. (x, y)) (λ y t. (h.0, t)) ys i) (pairs_textual xs ys h.1 i))

selects_textual : (list : List (List ℕ)) (condition : Option Cond) (r : Relation) → AreTextualRows r.rows → Yields AnswersTexts (select_from list condition r)
selects_textual list condition r h =
    let done = yields_ok AnswersTexts (select r.schema.attributes list condition r.rows)
    (all-map AreTextual AreTextual (projected r.schema.attributes list) (projected_textual r.schema.attributes list) (selected r.schema.attributes condition r.rows)
    (all-filter AreTextual (selects r.schema.attributes condition) (live_tuples r.rows) (live_textual r.rows h))) in
    yields_behind AnswersTexts (refuse_found (missing_name r.schema.attributes list condition) no.NoAttribute) _
    (yields_behind AnswersTexts (refuse_found (ill_typed r.schema.attributes (map (λ _. true) list) condition) no.IllTyped) _ done)

joins_textual : (on : List ℕ) (list : List (List ℕ)) (l r : Relation) → AreTextualRows l.rows → AreTextualRows r.rows → Yields AnswersTexts (join_of on list l r)
joins_textual on list l r h i =
    let alike : List Value × List Value → Bool = λ pair. same_value (value_of l.schema.attributes pair.0 on) (value_of r.schema.attributes pair.1 on) in
    let done = yields_ok AnswersTexts (join l.schema.attributes r.schema.attributes on list l.rows r.rows)
    (all-map BothTextual AreTextual (projected_pair l.schema.attributes r.schema.attributes list) (pair_textual l.schema.attributes r.schema.attributes list)
    (filter alike (pairs (live_tuples l.rows) (live_tuples r.rows)))
    (all-filter BothTextual alike (pairs (live_tuples l.rows) (live_tuples r.rows)) (pairs_textual (live_tuples l.rows) (live_tuples r.rows) (live_textual l.rows h) (live_textual r.rows i)))) in
    yields_behind AnswersTexts (refuse_found (missing_in_join l.schema.attributes r.schema.attributes on list) no.NoAttribute) _
    (yields_behind AnswersTexts (refuse_if (not (joins (domain_of l.schema.attributes on) (domain_of r.schema.attributes on))) (no.IllTyped 1)) _ done)

-- a relation that is found by name stands in its slot
named_textual : (db : Database) (name : List ℕ) (s : ℕ × Relation) → IsTextualDatabase db → relation_named db name ≡ Some s → AreTextualRows s.1.rows
named_textual db name s h e = let f = found_from name 0 db.relations s e in h.relations f.slot s.1 f.stands

answers_textual : (db : Database) (query : Query) → IsTextualDatabase db → Yields AnswersTexts (answer_of db query)
answers_textual db (Select list name nodes) h =
    yields_found _ (relation_named db name) no.NoRelation _ (λ s e. selects_textual list (condition_of nodes) s.1 (named_textual db name s h e))
answers_textual db (Join left right on list) h =
    yields_found _ (relation_named db left) no.NoRelation _
    (λ l e. yields_found _ (relation_named db right) no.NoRelation _ (λ r f. joins_textual on list l.1 r.1 (named_textual db left l h e) (named_textual db right r h f)))

-- ---- what a command leaves and replies

abbrev pub StaysTextual : Database × Reply → Type 0
StaysTextual d = IsTextualDatabase d.0 × IsTextualReply d.1

in_some : {A : Type 0} (P : A → Type 0) (o : Option A) (x : A) → InOption P o → o ≡ Some x → P x
in_some P None x h e = absurd (never_some e)
in_some P (Some y) x h e = subst P (some_alike e) h

with_rows : (db : Database) (version slot : ℕ) (r : Option Relation) → IsTextualDatabase db → InOption (λ q. AreTextualRows q.rows) r → IsTextualDatabase (with_relation (in_version version db) slot r)
with_rows db version slot r h rows = record {
  relations = λ k q e. stands_either db.relations slot k r q e (λ i is. in_some (λ q. AreTextualRows q.rows) r q rows is) (λ n f. h.relations k q f);
  cursors = h.cursors;
}

with_answer : (db : Database) (place : ℕ) (cursor : Option Cursor) → IsTextualDatabase db → InOption (λ c. AnswersTexts c.rows) cursor → IsTextualDatabase (with_cursor db place cursor)
with_answer db place cursor h rows = record {
  relations = h.relations;
  cursors = λ k c e. stands_either db.cursors place k cursor c e (λ i is. in_some (λ c. AnswersTexts c.rows) cursor c rows is) (λ n f. h.cursors k c f);
}

removed_textual : (attributes : List Attribute) (condition : Option Cond) (row : Row) → AreTextual row.tuple → AreTextual (removed_row attributes condition row).tuple
removed_textual attributes condition row h = by_test (row.live && selects attributes condition row.tuple)
  where
    gone : Row
    gone = record row { live = false }

    by_test : (b : Bool) → AreTextual (cond b gone row).tuple
    by_test true = h
    by_test false = h

-- ---- the changes

replies_answer : (db : Database) (c : Command) (reply : Reply) → Answered db c reply → IsTextualDatabase db → IsTextualReply reply
replies_answer db _ _ (Tells query rows e) h = (answers_textual db query h).yields rows e
replies_answer db _ _ _ h = tt

replies_relation : (db : Database) (c : Command) (version slot : ℕ) (r : Option Relation) (reply : Reply) → RelationMade db c version slot r reply → IsTextualReply reply
replies_relation db _ _ _ _ _ (Creates name slot fresh free) = tt
replies_relation db _ _ _ _ _ _ = tt

rows_relation : (db : Database) (c : Command) (version slot : ℕ) (r : Option Relation) (reply : Reply) → RelationMade db c version slot r reply → IsTextualDatabase db
    → InOption (λ q. AreTextualRows q.rows) r
rows_relation db _ _ _ _ _ (Creates name slot fresh free) h = tt
rows_relation db _ _ _ _ _ (Grows name wanted relation s d e fresh fine none few short) h = named_textual db relation s h e
rows_relation db _ _ _ _ _ (Inserts values name s e suit room order entries) h =
    all_append (λ row. AreTextual row.tuple) s.1.rows (record { tuple = values; live = true } ∷ []) (named_textual db name s h e)
    (suited_textual s.1.schema.attributes values (suited s.1.schema.attributes values suit), tt)
rows_relation db _ _ _ _ _ (Marks name nodes s e) h =
    all-map (λ row. AreTextual row.tuple) (λ row. AreTextual row.tuple) (removed_row s.1.schema.attributes (condition_of nodes)) (removed_textual s.1.schema.attributes (condition_of nodes)) s.1.rows
    (named_textual db name s h e)
rows_relation db _ _ _ _ _ (Packs name s e none) h = all-filter (λ row. AreTextual row.tuple) (λ row. row.live) s.1.rows (named_textual db name s h e)
rows_relation db _ _ _ _ _ (Removes name s e unread none) h = tt

rows_cursor : (db : Database) (c : Command) (place : ℕ) (cursor : Option Cursor) (reply : Reply) → CursorMade db c place cursor reply → IsTextualDatabase db
    → InOption (λ c. AnswersTexts c.rows) cursor × IsTextualReply reply
rows_cursor db _ _ _ _ (Opens number query place rows at free e) h = ((answers_textual db query h).yields rows e, tt)
rows_cursor db _ _ _ _ (Fetches number c at) h = let rows = h.cursors c.0 c.1 at.cursor in (all-drop AreTextual 1 c.1.rows rows, all-take AreTextual 1 c.1.rows rows)
rows_cursor db _ _ _ _ (Closes number c at) h = (tt, tt)

change_textual : (db : Database) (c : Command) (d : Database × Reply) → Change db c d → IsTextualDatabase db → StaysTextual d
change_textual db _ _ (Nothing c reply a) h = (h, replies_answer db c reply a h)
change_textual db _ _ (OfRelation c version slot r reply m) h = (with_rows db version slot r h (rows_relation db c version slot r reply m h), replies_relation db c version slot r reply m)
change_textual db _ _ (OfIndex c slot index m) h = (record { relations = h.relations; cursors = h.cursors }, tt)
change_textual db _ _ (OfCursor c place cursor reply m) h = let rows = rows_cursor db c place cursor reply m h in (with_answer db place cursor h rows.0, rows.1)

pub stays_textual : (db : Database) (c : Command) → IsTextualDatabase db → StaysTextual (step db c)
stays_textual db c h = change_textual db c (step db c) (change_of db c) h
