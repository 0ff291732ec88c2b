-- What open cursors have ahead stays where rows come behind the others.
use Rattle.std.proofs.Common.{◌≡◌, ℕ, ◌+◌, ◌-◌, ◌≤◌, List, ◌++◌, length, take, drop, filter, get_or, replicate, flat_map, Option, Some, None, refl, ap, sym, ◌∙◌, subst, arith, inl, inr, IsTrue}
use Rattle.std.specs.List.{range_with_len}
use Rattle.std.proofs.Math.Logic.{⊎_elim}
use Rattle.afl_base.specs.Files.{State}
use Rattle.db_model.specs.Ahead.{OfJoin, OfSelect, partners}
use Rattle.db_model.specs.Row.{Row, no_row}
use Rattle.index_set.specs.Plans.{kinds}
use Rattle.index_set.specs.Tables.{Tables}
use Rattle.index_set.specs.Walks.{RowsGrow, ahead}
use Rattle.index_set.proofs.Grown.{ahead_kept}
use Rattle.session_model.proofs.Kept.{ahead_none, side_kept, slots_left_kept}
use Rattle.cursor.specs.declared.join.JoinCursor.{JoinCursor}
use Rattle.cursor.specs.Pairs.{matching}
use Rattle.cursor.specs.Remaining.{is_live_and, passes_code, slots_to_answer}
use Rattle.space_model.specs.FileNames.{catalog_file, rows_file, tree_file}
use Rattle.tuple_file.specs.declared.tuples.Tuples.{Tuples}
use Rattle.tuple_file.specs.Tuples.{rows}
use Rattle.session_model.specs.declared.held.Held.{Held}
use Rattle.session_model.specs.declared.held.Indexed.{Indexed}
use Rattle.session_model.specs.declared.held.Open.{Open}
use Rattle.session_model.specs.declared.held.Open.TheVariants.{Select, Join}
use Rattle.session_model.specs.Aheads.{ahead_in, aheads_of, join_stops, walk_of_search}
use Rattle.session_model.specs.Frames.{LeavesOthers, with_indexed, with_tuples}
use Rattle.session_model.specs.Running.{IsCursorSlot, IsRunning, ReadsRows}
use Rattle.session_model.proofs.Catalogs.{IndexChanges, RelationChanges, StaysFor, index_stays, relation_stays, same_rows_grow}
use Rattle.session_model.proofs.Running.{RowsCome, catalog_no_rows, grow_any}
use Rattle.session_model.proofs.Views.{mapped_same}
use Rattle.tuple_file.proofs.Columns.{rows_counted}
use Rattle.padded.proofs.Facts.{zero_or_more, some_inside}

-- the left slots of the pairs to come, by the rows of both sides
abbrev stops_by : JoinCursor → List Row → List Row → List ℕ
stops_by c lefts rights =
    replicate (length (matching c.left_on c.right_on (take 1 (drop c.at lefts)) (drop c.from rights))) c.at
    ++ flat_map (λ slot. replicate (partners (c.left_on, c.right_on) rights (get_or lefts slot no_row)) slot) (range_with_len (c.at + 1) (c.left_slots - (c.at + 1)))

stops_kept : (c : JoinCursor) (lefts rights lefts_now rights_now : List Row) → take c.left_slots lefts_now ≡ take c.left_slots lefts → take c.right_slots rights_now ≡ take c.right_slots rights
    → join_stops c lefts_now rights_now ≡ join_stops c lefts rights
stops_kept c lefts rights lefts_now rights_now a b = λ i. stops_by c (a i) (b i)

-- ---- cursors

pub ahead_stays : (old new : State) (held : Held) (o : Open) → IsTrue old.tells → IsCursorSlot old held (Some o)
    → ((k : ℕ) (t : Tuples) → ReadsRows o t → get_or held.relations k None ≡ Some t → RowsGrow (rows old.files t) (rows new.files t))
    → ahead_in new.files o ≡ ahead_in old.files o
ahead_stays old new held (Select o) told h grow =
    ⊎_elim
    (λ none.
    let was = ahead_none o.cursor.candidates (rows old.files o.cursor.tuples) none in
    let is = ahead_none o.cursor.candidates (rows new.files o.cursor.tuples) none in
    made (is ∙ sym was)
    (ap (filter (λ slot. is_live_and (passes_code o.cursor.code) (get_or (rows new.files o.cursor.tuples) slot no_row))) is
    ∙ sym (ap (filter (λ slot. is_live_and (passes_code o.cursor.code) (get_or (rows old.files o.cursor.tuples) slot no_row))) was)))
    (λ some.
    let is = h.goes_on some in
    let g = grow is.slot o.cursor.tuples (some, refl) is.there in
    made (ahead_kept o.cursor.candidates (rows old.files o.cursor.tuples) (rows new.files o.cursor.tuples) g (is.waits told))
    (slots_left_kept o.cursor (rows old.files o.cursor.tuples) (rows new.files o.cursor.tuples) g (is.waits told)))
    (zero_or_more o.cursor.candidates.slots)
  where
    made : ahead o.cursor.candidates (rows new.files o.cursor.tuples) ≡ ahead o.cursor.candidates (rows old.files o.cursor.tuples)
        → slots_to_answer o.cursor (rows new.files o.cursor.tuples) ≡ slots_to_answer o.cursor (rows old.files o.cursor.tuples)
        → ahead_in new.files (Select o) ≡ ahead_in old.files (Select o)
    made a b = λ i. record { source = OfSelect o.cursor.tuples.schema.name (walk_of_search o.cursor.candidates.search); slots = a i; stops = b i }
ahead_stays old new held (Join o) told h grow =
    ap (λ (stops : List ℕ). record {
      source = OfJoin o.cursor.left.schema.name o.cursor.right.schema.name (o.cursor.left_on, o.cursor.right_on) (kinds o.cursor.right_indexes);
      slots = range_with_len o.cursor.at (o.cursor.left_slots - o.cursor.at);
      stops = stops;
    })
    (stops_kept o.cursor (rows old.files o.cursor.left) (rows old.files o.cursor.right) (rows new.files o.cursor.left) (rows new.files o.cursor.right)
    (side_kept o.cursor.left_slots (rows old.files o.cursor.left) (rows new.files o.cursor.left)
    (λ some. let is = h.left some in
    (grow is.slot o.cursor.left (inl (some, refl)) is.there, subst (λ (n : ℕ). o.cursor.left_slots ≤ n) (sym (rows_counted old.files o.cursor.left)) is.few)))
    (side_kept o.cursor.right_slots (rows old.files o.cursor.right) (rows new.files o.cursor.right)
    (λ some. let is = (h.right some).side in
    (grow is.slot o.cursor.right (inr (some, refl)) is.there, subst (λ (n : ℕ). o.cursor.right_slots ≤ n) (sym (rows_counted old.files o.cursor.right)) is.few))))

-- ---- all cursors

-- rows have come to one relation, or changed where no cursor reads them
pub rows_aheads : (old new : State) (before after : Tables) (held : Held) (opens : List (Option Open)) (k : ℕ) (t : Tuples) → (r : IsRunning old before held opens) → RowsCome old new before after held opens k t
    → IsTrue old.tells → aheads_of new.files opens ≡ aheads_of old.files opens
rows_aheads old new before after held opens k t r u told =
    mapped_same (ahead_in new.files) (ahead_in old.files) opens
    (λ n o e. let P : Option Open → Type 0 = λ z. IsCursorSlot old held z in
    ahead_stays old new held o told (subst P e (r.cursors n (omega (arith, some_inside opens n o e, r.four))))
    (λ j s reads there. grow_any old new before after held opens k t r u told n o e j s reads there))

-- the catalog has changed, and no relation that a cursor reads
module _ (old new : State) (before : Tables) (held : Held) (opens : List (Option Open)) (r : IsRunning old before held opens) (name : List ℕ) (l : LeavesOthers old new name) where
  same_aheads : (now : Held) → IsTrue old.tells → ((n : ℕ) (o : Open) → get_or opens n None ≡ Some o → StaysFor name held now o) → aheads_of new.files opens ≡ aheads_of old.files opens
  same_aheads now told stays =
      mapped_same (ahead_in new.files) (ahead_in old.files) opens
      (λ n o e. let P : Option Open → Type 0 = λ z. IsCursorSlot old held z in
      ahead_stays old new held o told (subst P e (r.cursors n (omega (arith, some_inside opens n o e, r.four))))
      (λ j s reads there. same_rows_grow old new before before held opens r name l j s there ((stays n o e).relation j s reads there).0))

pub catalog_aheads : (old new : State) (tables : Tables) (held : Held) (opens : List (Option Open)) → IsRunning old tables held opens → LeavesOthers old new catalog_file → IsTrue old.tells
    → aheads_of new.files opens ≡ aheads_of old.files opens
catalog_aheads old new tables held opens r l told =
    same_aheads old new tables held opens r catalog_file l held told
    (λ n o e. record { relation = λ j s reads there. ((λ same. catalog_no_rows j (sym same)), there); index = λ j s reads there m x at rel. at })

pub index_aheads : (old new : State) (before after : Tables) (held : Held) (opens : List (Option Open)) (i : ℕ) (x : Option Indexed) (cat : ℕ) → (r : IsRunning old before held opens)
    → IndexChanges old new before after held opens i x cat → IsTrue old.tells → aheads_of new.files opens ≡ aheads_of old.files opens
index_aheads old new before after held opens i x cat r u told =
    same_aheads old new before held opens r (tree_file i) u.leaves (with_indexed held i x) told (λ n o e. index_stays old new before after held opens i x cat r u n o e)

pub relation_aheads : (old new : State) (tables : Tables) (held : Held) (opens : List (Option Open)) (k : ℕ) (t : Option Tuples) (cat : ℕ) → (r : IsRunning old tables held opens)
    → RelationChanges old new tables held opens k t cat → IsTrue old.tells → aheads_of new.files opens ≡ aheads_of old.files opens
relation_aheads old new tables held opens k t cat r u told =
    same_aheads old new tables held opens r (rows_file k) u.leaves (with_tuples held k t) told (λ n o e. relation_stays old new tables held opens k t cat r u n o e)
