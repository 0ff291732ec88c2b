-- What is ahead of the cursors goes along with the rows that they have still to answer.
use Rattle.std.proofs.Common.{◌≡◌, refl, sym, ap, subst, ◌∙◌, ℕ, ℤ, zero, suc, ◌+◌, ◌-◌, Bool, true, false, List, [], ◌∷◌, length, map, drop, set, get_or, filter, flat_map, replicate, cond, Option, Some, None, arith, length-append}
use Rattle.std.specs.Prelude.{not, ◌&&◌, ◌||◌, is_some, slice_get, unwrap_or, option_map, option_and_then}
use Rattle.std.specs.List.{range_with_len}
use Rattle.std.specs.Option.{option_map_or}
use Rattle.std.proofs.lemmas.List.{length-drop, length-map, length-replicate}
use Rattle.std.proofs.lemmas.List.Concat.{flat_map-cons}
use Rattle.std.proofs.lemmas.List.Elements.{filter-append}
use Rattle.db_model.specs.declared.commands.Command.{Command}
use Rattle.db_model.specs.declared.commands.Query.{Query}
use Rattle.db_model.specs.declared.commands.Query.TheVariants.{Select, Join}
use Rattle.db_model.specs.declared.refusals.Refusal.TheVariants as no
use Rattle.db_model.specs.declared.schemas.Attribute.{Attribute}
use Rattle.db_model.specs.declared.values.Value.{Value}
use Rattle.db_model.specs.Ahead.{Ahead, Aheads, AreAhead, IsAhead, ahead_of, aheads_after, fetched, is_refused, join_ahead, moved, no_cursors, opened, pair_slots, partners, select_ahead, slots_in, with_ahead}
use Rattle.db_model.specs.Answers.{join, live_tuples, pairs, projected, projected_pair, same_value, select, selected}
use Rattle.db_model.specs.Catalog.{Index}
use Rattle.db_model.specs.Cond.{Cond, condition_of}
use Rattle.db_model.specs.Cost.{places_of, sum}
use Rattle.db_model.specs.Database.{Relation, Cursor, Database, bare, cursor_place, indexes_of, relation_named, with_cursor}
use Rattle.db_model.specs.Item.{place_of, selects, value_of}
use Rattle.db_model.specs.Plan.{kinds_of, ranges_of}
use Rattle.db_model.specs.Refusing.{refuse_if, refuse_found}
use Rattle.db_model.specs.Row.{Row, no_row}
use Rattle.db_model.specs.Step.{Reply, Fine, answer_of, joins, missing_in_join, relations_read, step}
use Rattle.db_model.specs.Typing.{domain_of, first_false, ill_typed, is_attribute, missing_name}
use Rattle.db_model.proofs.Yielding.{Yields, yields_behind, yields_found, yields_none, yields_ok}
use Rattle.db_model.proofs.Standing.{false_true}
use Rattle.padded.proofs.Facts.{never_some}
use Rattle.db_model.proofs.Change.{Answered, Change, CursorMade, IndexMade, RelationMade, Nothing, OfRelation, OfIndex, OfCursor, Refuses, Creates, Drops, Opens, Fetches, Closes, change_of}

-- ---- rows by their slots

rows_in_order : (f : ℕ → Row) (n : ℕ) (rows : List Row) → ((i : ℕ) → f (n + i) ≡ get_or rows i no_row) → map f (range_with_len n (length rows)) ≡ rows
rows_in_order f n [] same = refl
rows_in_order f n (row ∷ rows) same =
    let here : n ≡ n + 0 = omega arith in
    ap (λ r. r ∷ map f (range_with_len (n + 1) (length rows))) (ap f here ∙ same 0)
    ∙ ap (λ rs. row ∷ rs) (rows_in_order f (n + 1) rows (λ i. let next : (n + 1) + i ≡ n + suc i = omega arith in ap f next ∙ same (suc i)))

all_rows : (rows : List Row) → map (λ slot. get_or rows slot no_row) (range_with_len 0 (length rows)) ≡ rows
all_rows rows = rows_in_order (λ slot. get_or rows slot no_row) 0 rows (λ i. let e : 0 + i ≡ i = omega arith in ap (λ k. get_or rows k no_row) e)

count_slots : (test : Row → Bool) (f : ℕ → Row) (slots : List ℕ) → length (filter (λ slot. test (f slot)) slots) ≡ length (filter test (map f slots))
count_slots test f [] = refl
count_slots test f (slot ∷ slots) = by_test (test (f slot)) (count_slots test f slots)
  where
    by_test : (b : Bool) → length (filter (λ slot. test (f slot)) slots) ≡ length (filter test (map f slots))
        → length (cond b (slot ∷ filter (λ slot. test (f slot)) slots) (filter (λ slot. test (f slot)) slots)) ≡ length (cond b (f slot ∷ filter test (map f slots)) (filter test (map f slots)))
    by_test true e = ap suc e
    by_test false e = e

many_in : (test : Row → Bool) (rows : List Row) → length (slots_in test rows 0 (length rows)) ≡ length (filter test rows)
many_in test rows =
    let all : length rows - 0 ≡ length rows = omega arith in
    ap (λ n. length (filter (λ slot. test (get_or rows slot no_row)) (range_with_len 0 n))) all
    ∙ count_slots test (λ slot. get_or rows slot no_row) (range_with_len 0 (length rows)) ∙ ap (λ rs. length (filter test rs)) (all_rows rows)

many_live : (test : List Value → Bool) (rows : List Row) → length (filter (λ row. row.live && test row.tuple) rows) ≡ length (filter test (live_tuples rows))
many_live test [] = refl
many_live test (row ∷ rows) = by_live row.live (test row.tuple) refl (many_live test rows)
  where
    by_live : (a b : Bool) → test row.tuple ≡ b → length (filter (λ row. row.live && test row.tuple) rows) ≡ length (filter test (live_tuples rows))
        → length (cond (a && b) (row ∷ filter (λ row. row.live && test row.tuple) rows) (filter (λ row. row.live && test row.tuple) rows))
        ≡ length (filter test (cond a (row.tuple ∷ live_tuples rows) (live_tuples rows)))
    by_live true true t e = ap suc e ∙ ap (λ c. length (cond c (row.tuple ∷ filter test (live_tuples rows)) (filter test (live_tuples rows)))) (sym t)
    by_live true false t e = e ∙ ap (λ c. length (cond c (row.tuple ∷ filter test (live_tuples rows)) (filter test (live_tuples rows)))) (sym t)
    by_live false b t e = e

-- ---- pairs

many_slots : (p : Row → ℕ) (f : ℕ → Row) (slots : List ℕ) → length (flat_map (λ slot. replicate (p (f slot)) slot) slots) ≡ sum (map p (map f slots))
many_slots p f [] = refl
many_slots p f (slot ∷ slots) =
    let rest = flat_map (λ slot. replicate (p (f slot)) slot) slots in
    let here : length (replicate (p (f slot)) slot) ≡ p (f slot) = length-replicate (p (f slot)) slot in
    ap length (flat_map-cons (λ slot. replicate (p (f slot)) slot) slot slots)
    ∙ length-append (replicate (p (f slot)) slot) rest
    ∙ ap (λ n. n + length rest) here
    ∙ ap (λ n. p (f slot) + n) (many_slots p f slots)

pub many_of_one : (test : List Value × List Value → Bool) (x : List Value) (ys : List (List Value)) → length (filter test (map (λ y. (x, y)) ys)) ≡ length (filter (λ y. test (x, y)) ys)
many_of_one test x [] = refl
many_of_one test x (y ∷ ys) = by_test (test (x, y)) (many_of_one test x ys)
  where
    by_test : (b : Bool) → length (filter test (map (λ y. (x, y)) ys)) ≡ length (filter (λ y. test (x, y)) ys)
        → length (cond b ((x, y) ∷ filter test (map (λ y. (x, y)) ys)) (filter test (map (λ y. (x, y)) ys))) ≡ length (cond b (y ∷ filter (λ y. test (x, y)) ys) (filter (λ y. test (x, y)) ys))
    by_test true e = ap suc e
    by_test false e = e

abbrev pub meets : ℕ × ℕ → List Value × List Value → Bool
meets on pair = same_value (slice_get pair.0 on.0) (slice_get pair.1 on.1)

pub many_pairs : (on : ℕ × ℕ) (rights lefts : List Row) → sum (map (partners on rights) lefts) ≡ length (filter (meets on) (pairs (live_tuples lefts) (live_tuples rights)))
many_pairs on rights [] = refl
many_pairs on rights (l ∷ lefts) = by_live l.live (many_pairs on rights lefts)
  where
    found : List (List Value)
    found = filter (λ r. meets on (l.tuple, r)) (live_tuples rights)

    by_live : (b : Bool) → sum (map (partners on rights) lefts) ≡ length (filter (meets on) (pairs (live_tuples lefts) (live_tuples rights)))
        → cond b (length found) 0 + sum (map (partners on rights) lefts) ≡ length (filter (meets on) (pairs (cond b (l.tuple ∷ live_tuples lefts) (live_tuples lefts)) (live_tuples rights)))
    by_live false e = let is : 0 + sum (map (partners on rights) lefts) ≡ sum (map (partners on rights) lefts) = omega arith in is ∙ e
    by_live true e =
        let first = map (λ r. (l.tuple, r)) (live_tuples rights) in
        let others = pairs (live_tuples lefts) (live_tuples rights) in
        ap (λ n. length found + n) e
        ∙ ap (λ n. n + length (filter (meets on) others)) (sym (many_of_one (meets on) l.tuple (live_tuples rights)))
        ∙ sym (length-append (filter (meets on) first) (filter (meets on) others))
        ∙ ap length (sym (filter-append (meets on) first others))
        ∙ ap (λ ps. length (filter (meets on) ps)) (sym (flat_map-cons (λ x. map (λ y. (x, y)) (live_tuples rights)) l.tuple (live_tuples lefts)))

-- ---- rows of the answer

select_many : (name : List ℕ) (list : List (List ℕ)) (db : Database) (slot : ℕ) (r : Relation) (condition : Option Cond)
    → length (select_ahead name (kinds_of (indexes_of db slot)) (ranges_of r.schema.attributes condition) r condition).stops ≡ length (select r.schema.attributes list condition r.rows)
select_many name list db slot r condition =
    many_in (λ row. row.live && selects r.schema.attributes condition row.tuple) r.rows
    ∙ many_live (selects r.schema.attributes condition) r.rows
    ∙ sym (length-map (selected r.schema.attributes condition r.rows) (projected r.schema.attributes list))

placed : (attributes : List Attribute) (name : List ℕ) → is_attribute attributes name ≡ true → place_of name attributes ≡ Some (unwrap_or (place_of name attributes) 0)
placed attributes name h = by_place (place_of name attributes) h
  where
    by_place : (o : Option ℕ) → is_some o ≡ true → o ≡ Some (unwrap_or o 0)
    by_place None e = absurd (false_true e)
    by_place (Some k) e = refl

value_at : (attributes : List Attribute) (values : List Value) (name : List ℕ) → is_attribute attributes name ≡ true → value_of attributes values name ≡ slice_get values (unwrap_or (place_of name attributes) 0)
value_at attributes values name h = ap (option_and_then (slice_get values)) (placed attributes name h)

pub same_filter : {A : Type 0} (s t : A → Bool) (xs : List A) → ((x : A) → s x ≡ t x) → filter s xs ≡ filter t xs
same_filter s t [] same = refl
same_filter s t (x ∷ xs) same = ap (λ b. cond b (x ∷ filter s xs) (filter s xs)) (same x) ∙ ap (λ ys. cond (t x) (x ∷ ys) ys) (same_filter s t xs same)

join_many : (left right on : List ℕ) (list : List (List ℕ)) (l r : Relation) → is_attribute l.schema.attributes on ≡ true → is_attribute r.schema.attributes on ≡ true
    → length (pair_slots (places_of on l r) l.rows r.rows) ≡ length (join l.schema.attributes r.schema.attributes on list l.rows r.rows)
join_many left right on list l r at_left at_right =
    let places = places_of on l r in
    let named : List Value × List Value → Bool = λ pair. same_value (value_of l.schema.attributes pair.0 on) (value_of r.schema.attributes pair.1 on) in
    let both = pairs (live_tuples l.rows) (live_tuples r.rows) in
    many_slots (partners places r.rows) (λ slot. get_or l.rows slot no_row) (range_with_len 0 (length l.rows))
    ∙ ap (λ rows. sum (map (partners places r.rows) rows)) (all_rows l.rows)
    ∙ many_pairs places r.rows l.rows
    ∙ ap length (sym (same_filter named (meets places) both
    (λ pair. ap (λ v. same_value v (value_of r.schema.attributes pair.1 on)) (value_at l.schema.attributes pair.0 on at_left)
    ∙ ap (same_value (slice_get pair.0 places.0)) (value_at r.schema.attributes pair.1 on at_right))))
    ∙ sym (length-map (filter named both) (projected_pair l.schema.attributes r.schema.attributes list))

-- ---- OPEN

-- the ON name is an attribute of both
both_have : (a b : Bool) (rest : List Bool) → first_false 0 ((a && b) ∷ rest) ≡ None → (a ≡ true) × (b ≡ true)
both_have true true rest e = (refl, refl)
both_have true false rest e = absurd (never_some (sym e))
both_have false b rest e = absurd (never_some (sym e))

abbrev IsOpened : Database → Query → List (List Value) → Type 0
IsOpened db query rows = IsAhead (Some (record { reads = relations_read query; rows = rows })) (opened db query)

opened_ahead : (db : Database) (query : Query) → Yields (IsOpened db query) (answer_of db query)
opened_ahead db (Select list name nodes) =
    yields_found _ (relation_named db name) no.NoRelation _
    (λ s e. yields_behind _ (refuse_found (missing_name s.1.schema.attributes list (condition_of nodes)) no.NoAttribute) _
    (yields_behind _ (refuse_found (ill_typed s.1.schema.attributes (map (λ _. true) list) (condition_of nodes)) no.IllTyped) _
    (yields_ok _ (rows s) (subst (IsAhead (Some (record { reads = relations_read query; rows = rows s }))) (sym (ap (option_map ahead) e)) (select_many name list db s.0 s.1 (condition_of nodes))))))
  where
    query : Query
    query = Select list name nodes

    rows : ℕ × Relation → List (List Value)
    rows s = select s.1.schema.attributes list (condition_of nodes) s.1.rows

    ahead : ℕ × Relation → Ahead
    ahead s = select_ahead name (kinds_of (indexes_of db s.0)) (ranges_of s.1.schema.attributes (condition_of nodes)) s.1 (condition_of nodes)
opened_ahead db (Join left right on list) =
    yields_found _ (relation_named db left) no.NoRelation _
    (λ l e. yields_found _ (relation_named db right) no.NoRelation _
    (λ r f. yields_none _ (missing_in_join l.1.schema.attributes r.1.schema.attributes on list) no.NoAttribute _
    (λ none. yields_behind _ (refuse_if (not (joins (domain_of l.1.schema.attributes on) (domain_of r.1.schema.attributes on))) (no.IllTyped 1)) _
    (let have = both_have (is_attribute l.1.schema.attributes on) (is_attribute r.1.schema.attributes on) (map (λ name. is_attribute l.1.schema.attributes name || is_attribute r.1.schema.attributes name) list) none in
    let found : opened db query ≡ Some (ahead l r) =
    ap (option_and_then (λ l. option_map (ahead l) (relation_named db right))) e ∙ ap (option_map (ahead l)) f in
    yields_ok _ (rows l r) (subst (IsAhead (Some (record { reads = relations_read query; rows = rows l r }))) (sym found) (join_many left right on list l.1 r.1 have.0 have.1))))))
  where
    query : Query
    query = Join left right on list

    rows : ℕ × Relation → ℕ × Relation → List (List Value)
    rows l r = join l.1.schema.attributes r.1.schema.attributes on list l.1.rows r.1.rows

    ahead : ℕ × Relation → ℕ × Relation → Ahead
    ahead l r = join_ahead left right (places_of on l.1 r.1) (kinds_of (indexes_of db r.0)) l.1.rows r.1.rows

-- ---- cursors and what they have ahead

set_both : (cursors : List (Option Cursor)) (aheads : Aheads) (place : ℕ) (cursor : Option Cursor) (ahead : Option Ahead) → AreAhead cursors aheads → IsAhead cursor ahead → AreAhead (set cursors place cursor) (set aheads place ahead)
set_both [] [] place cursor ahead h i = tt
set_both [] (a ∷ aheads) place cursor ahead h i = absurd h
set_both (c ∷ cursors) [] place cursor ahead h i = absurd h
set_both (c ∷ cursors) (a ∷ aheads) zero cursor ahead h i = (i, h.1)
set_both (c ∷ cursors) (a ∷ aheads) (suc place) cursor ahead h i = (h.0, set_both cursors aheads place cursor ahead h.1 i)

at_both : (cursors : List (Option Cursor)) (aheads : Aheads) (place : ℕ) → AreAhead cursors aheads → IsAhead (get_or cursors place None) (get_or aheads place None)
at_both [] [] place h = tt
at_both [] (a ∷ aheads) place h = absurd h
at_both (c ∷ cursors) [] place h = absurd h
at_both (c ∷ cursors) (a ∷ aheads) zero h = h.0
at_both (c ∷ cursors) (a ∷ aheads) (suc place) h = at_both cursors aheads place h.1

fetched_one : (cursor : Cursor) (o : Option Ahead) → IsAhead (Some cursor) o → IsAhead (Some (record cursor { rows = drop 1 cursor.rows })) (option_map fetched o)
fetched_one cursor None h = absurd h
fetched_one cursor (Some ahead) h = length-drop 1 ahead.stops ∙ ap (λ n. n - 1) h ∙ sym (length-drop 1 cursor.rows)

module _ (db : Database) (aheads : Aheads) (are : AreAhead db.cursors aheads) where
  abbrev Kept : Command → Database × Reply → Type 0
  Kept c d = AreAhead d.0.cursors (cond (is_refused d.1) aheads (moved db aheads c))

  -- what leaves the cursors leaves what is ahead
  kept_answer : (c : Command) (reply : Reply) → Answered db c reply → Kept c (db, reply)
  kept_answer _ _ (Refuses c refusal e) = are
  kept_answer _ _ _ = are

  kept_relation : (c : Command) (version slot : ℕ) (r : Option Relation) (reply : Reply) → RelationMade db c version slot r reply → Kept c (db, reply)
  kept_relation _ _ _ _ _ (Creates name slot fresh free) = are
  kept_relation _ _ _ _ _ _ = are

  kept_index : (c : Command) (slot : ℕ) (index : Option Index) → IndexMade db c slot index → Kept c (db, Fine)
  kept_index _ _ _ (Drops name attribute slot) = are
  kept_index _ _ _ _ = are

  -- the cursor and what it has ahead change at one place
  at_place : (number : ℤ) (place : ℕ) (cursor : Option Cursor) (ahead : Option Ahead) → cursor_place number ≡ Some place → IsAhead cursor ahead → AreAhead (set db.cursors place cursor) (with_ahead aheads number ahead)
  at_place number place cursor ahead e is =
      subst (AreAhead (set db.cursors place cursor)) (sym (ap (λ o. option_map_or (λ p. set aheads p ahead) o aheads) e)) (set_both db.cursors aheads place cursor ahead are is)

  kept_cursor : (c : Command) (place : ℕ) (cursor : Option Cursor) (reply : Reply) → CursorMade db c place cursor reply → Kept c (with_cursor db place cursor, reply)
  kept_cursor _ _ _ _ (Opens number query place rows at free e) =
      at_place number place (Some (record { reads = relations_read query; rows = rows })) (opened db query) at ((opened_ahead db query).yields rows e)
  kept_cursor _ _ _ _ (Fetches number c at) =
      let one : IsAhead (Some c.1) (get_or aheads c.0 None) = subst (λ o. IsAhead o (get_or aheads c.0 None)) at.cursor (at_both db.cursors aheads c.0 are) in
      let here : ahead_of aheads number ≡ get_or aheads c.0 None = ap (option_and_then (λ place. get_or aheads place None)) at.place in
      at_place number c.0 (Some (record c.1 { rows = drop 1 c.1.rows })) (option_map fetched (ahead_of aheads number)) at.place
      (fetched_one c.1 (ahead_of aheads number) (subst (IsAhead (Some c.1)) (sym here) one))
  kept_cursor _ _ _ _ (Closes number c at) = at_place number c.0 None None at.place tt

  kept : (c : Command) (d : Database × Reply) → Change db c d → Kept c d
  kept _ _ (Nothing c reply a) = kept_answer c reply a
  kept _ _ (OfRelation c version slot r reply m) = kept_relation c version slot r reply m
  kept _ _ (OfIndex c slot index m) = kept_index c slot index m
  kept _ _ (OfCursor c place cursor reply m) = kept_cursor c place cursor reply m

pub ahead_kept : (db : Database) (aheads : Aheads) (c : Command) → AreAhead db.cursors aheads → AreAhead ((step db c).0).cursors (aheads_after db aheads c)
ahead_kept db aheads c are = kept db aheads are c (step db c) (change_of db c)

pub none_ahead : (db : Database) → AreAhead (bare db).cursors no_cursors
none_ahead db = (tt, (tt, (tt, (tt, tt))))
