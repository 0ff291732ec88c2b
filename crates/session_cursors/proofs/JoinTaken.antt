-- A FETCH of a JOIN, by what its cursor came to.
use Rattle.std.proofs.Common.{◌≡◌, ℕ, ◌+◌, ◌-◌, ◌<◌, ◌≤◌, Bool, true, false, List, [], ◌∷◌, length, map, drop, Option, Some, None, MatchBool, IsTrue, refl, ap, sym, ◌∙◌, subst, arith, slice_get}
use Rattle.std.specs.List.{range_with_len}
use Rattle.std.proofs.Math.Logic.{⊎_elim}
use Rattle.std.proofs.lemmas.List.{length-take-le}
use Rattle.afl_base.specs.Files.{State}
use Rattle.db_model.specs.declared.values.Value.{Value}
use Rattle.db_model.specs.Ahead.{fetched}
use Rattle.db_model.specs.Cost.{fetch_join_cost, passed}
use Rattle.db_model.specs.Row.{Row}
use Rattle.index_set.specs.Plans.{kinds}
use Rattle.cursor.specs.declared.join.JoinCursor.{JoinCursor}
use Rattle.cursor.specs.Pairs.{HasAnswered, MayReadPairs, join_cost_ahead, join_cost_behind, lefts_of, pairs_left}
use Rattle.tuple_file.specs.Tuples.{rows}
use Rattle.session_model.specs.declared.held.OpenJoin.{OpenJoin}
use Rattle.session_model.specs.declared.held.Side.{Side}
use Rattle.session_model.specs.Aheads.{ahead_of_join, join_stops}
use Rattle.session_model.specs.View.{project_pair}
use Rattle.session_cursors.proofs.JoinReads.{ahead_found, ahead_none, read_failed, read_found, read_none}
use Rattle.session_cursors.proofs.JoinSteps.{later_stop, next_stop, no_stop}
use Rattle.tuple_file.proofs.Columns.{rows_counted}
use Rattle.padded.proofs.Facts.{zero_or_more}

pub left_pairs : (places : List Side) (found : Bool) (pair : List Value × List Value) (old now : List (List Value × List Value)) → MatchBool found (old ≡ pair ∷ now) (old ≡ []) → (found ≡ false → now ≡ [])
    → map (project_pair places) now ≡ drop 1 (map (project_pair places) old)
left_pairs places true pair old now e ended = sym (ap (λ (l : List (List Value × List Value)). drop 1 (map (project_pair places) l)) e)
left_pairs places false pair old now e ended = ap (map (project_pair places)) (ended refl) ∙ sym (ap (λ (l : List (List Value × List Value)). drop 1 (map (project_pair places) l)) e)

-- ---- the sides have the slots with which it began

pub lefts_long : (state : State) (c : JoinCursor) → MayReadPairs state c → c.left_slots ≤ length (rows state.files c.left)
lefts_long state c may =
    ⊎_elim (λ none. omega (arith, none)) (λ some. omega (arith, may.left_slots some, rows_counted state.files c.left)) (zero_or_more c.left_slots)

pub rights_long : (state : State) (c : JoinCursor) → MayReadPairs state c → c.right_slots ≤ length (rows state.files c.right)
rights_long state c may =
    ⊎_elim (λ none. omega (arith, none)) (λ some. omega (arith, may.right_slots some, rows_counted state.files c.right)) (zero_or_more c.right_slots)

pub all_lefts : (state : State) (c : JoinCursor) → MayReadPairs state c → length (lefts_of c (rows state.files c.left)) ≡ c.left_slots
all_lefts state c may = length-take-le c.left_slots (rows state.files c.left) (lefts_long state c may)

-- ---- one FETCH

-- from one cursor to another, with a pair or with none
pub record JoinStep (state : State) (c d : JoinCursor) (found : Bool) (left right : List Value) : Type 0 where
  pub may : MayReadPairs state c
  pub stands : d ≡ record c { at = d.at; from = d.from; inner = d.inner }
  pub pairs : MatchBool found (pairs_left c (rows state.files c.left) (rows state.files c.right) ≡ (left, right) ∷ pairs_left d (rows state.files c.left) (rows state.files c.right))
      (pairs_left c (rows state.files c.left) (rows state.files c.right) ≡ [])
  pub here : MatchBool found (d.at < d.left_slots) (d.left_slots ≤ d.at)
  pub later : c.at ≤ d.at
  pub answered : IsTrue found → HasAnswered d (rows state.files c.left) (rows state.files c.right) left right
  pub within : d.from ≤ d.right_slots

module _ (state : State) (o : OpenJoin) (d : JoinCursor) (left right : List Value) where
  abbrev lefts : List Row
  lefts = rows state.files o.cursor.left

  abbrev rights : List Row
  rights = rows state.files o.cursor.right

  abbrev now : JoinCursor
  now = record o.cursor { at = d.at; from = d.from; inner = None }

  module _ (s : JoinStep state o.cursor d true left right) where
    first_pair : pairs_left o.cursor lefts rights ≡ (left, right) ∷ pairs_left now lefts rights
    first_pair = subst (λ (z : JoinCursor). pairs_left o.cursor lefts rights ≡ (left, right) ∷ pairs_left z lefts rights) s.stands s.pairs

    inside : d.at < o.cursor.left_slots
    inside = subst (λ (n : ℕ). d.at < n) (ap (λ (z : JoinCursor). z.left_slots) s.stands) s.here

    stop : join_stops o.cursor lefts rights ≡ d.at ∷ join_stops now lefts rights
    stop =
        let a = s.answered refl in
        let w : d.from ≤ o.cursor.right_slots = subst (λ (n : ℕ). d.from ≤ n) (ap (λ (z : JoinCursor). z.right_slots) s.stands) s.within in
        next_stop o.cursor lefts rights (all_lefts state o.cursor s.may) d.at d.from None left right s.later inside a.some w (rights_long state o.cursor s.may) a.left_row a.right_row first_pair

  pub ahead_then : (found : Bool) → JoinStep state o.cursor d found left right → ahead_of_join state.files (record { cursor = now; places = o.places }) ≡ fetched (ahead_of_join state.files o)
  ahead_then true s = ahead_found state.files o d.at d.from s.later (inside s) (stop s)
  ahead_then false s =
      ahead_none state.files o d.at d.from (subst (λ (n : ℕ). n ≤ d.at) (ap (λ (z : JoinCursor). z.left_slots) s.stands) s.here)
      (no_stop o.cursor lefts rights (all_lefts state o.cursor s.may) s.pairs)

  abbrev price : ℕ
  price = fetch_join_cost (kinds o.cursor.right_indexes) (o.cursor.left_on, o.cursor.right_on) lefts rights
      (passed (slice_get (join_stops o.cursor lefts rights) 0) (range_with_len o.cursor.at (o.cursor.left_slots - o.cursor.at)))

  pub read_few : (found : Bool) (reads reads_now : ℕ) → JoinStep state o.cursor d found left right → o.cursor.inner ≡ None
      → reads_now + join_cost_ahead d lefts rights ≤ reads + join_cost_ahead o.cursor lefts rights → reads_now ≤ reads + price
  read_few true reads reads_now s rests h =
      let paid : reads_now + join_cost_ahead (record o.cursor { at = d.at; from = d.from; inner = d.inner }) lefts rights ≤ reads + join_cost_ahead o.cursor lefts rights =
      subst (λ (z : JoinCursor). reads_now + join_cost_ahead z lefts rights ≤ reads + join_cost_ahead o.cursor lefts rights) s.stands h in
      read_found o.cursor lefts rights (lefts_long state o.cursor s.may) d.at d.from d.inner reads reads_now (join_stops now lefts rights) (left, right) rests s.later (inside s) (stop s) (first_pair s) paid
  read_few false reads reads_now s rests h =
      read_none o.cursor lefts rights (lefts_long state o.cursor s.may) reads reads_now rests (no_stop o.cursor lefts rights (all_lefts state o.cursor s.may) s.pairs) s.pairs (omega (arith, h))

  -- it failed at a left slot
  pub fault_few : (reads reads_now : ℕ) → MayReadPairs state o.cursor → d ≡ record o.cursor { at = d.at; from = d.from; inner = d.inner } → o.cursor.inner ≡ None → o.cursor.at ≤ d.at → d.at < d.left_slots
      → pairs_left o.cursor lefts rights ≡ pairs_left d lefts rights → reads_now + join_cost_behind d lefts rights ≤ reads + join_cost_ahead o.cursor lefts rights → reads_now ≤ reads + price
  fault_few reads reads_now may stands rests later below e h =
      let z : JoinCursor = record o.cursor { at = d.at; from = d.from; inner = d.inner } in
      let below_z : d.at < o.cursor.left_slots = subst (λ (n : ℕ). d.at < n) (ap (λ (y : JoinCursor). y.left_slots) stands) below in
      let same : pairs_left o.cursor lefts rights ≡ pairs_left z lefts rights = subst (λ (y : JoinCursor). pairs_left o.cursor lefts rights ≡ pairs_left y lefts rights) stands e in
      let paid : reads_now + join_cost_behind z lefts rights ≤ reads + join_cost_ahead o.cursor lefts rights =
      subst (λ (y : JoinCursor). reads_now + join_cost_behind y lefts rights ≤ reads + join_cost_ahead o.cursor lefts rights) stands h in
      read_failed o.cursor lefts rights (lefts_long state o.cursor may) d.at d.from d.inner reads reads_now (join_stops o.cursor lefts rights) rests later below_z refl same
      (λ stop rest is. later_stop o.cursor lefts rights (all_lefts state o.cursor may) d.at d.from d.inner stop rest later below_z same is) paid

-- ---- over the rows of a database

nothing_passed : (stop : Option ℕ) → passed stop [] ≡ []
nothing_passed None = refl
nothing_passed (Some slot) = refl

-- without left slots nothing is paid
pub named_price : (c : JoinCursor) (stops : List ℕ) (lefts rights lefts_named rights_named : List Row) (reads reads_now : ℕ)
    → (0 < c.left_slots → (lefts_named ≡ lefts) × (rights_named ≡ rights))
    → reads_now ≤ reads + fetch_join_cost (kinds c.right_indexes) (c.left_on, c.right_on) lefts rights (passed (slice_get stops 0) (range_with_len c.at (c.left_slots - c.at)))
    → reads_now ≤ reads + fetch_join_cost (kinds c.right_indexes) (c.left_on, c.right_on) lefts_named rights_named (passed (slice_get stops 0) (range_with_len c.at (c.left_slots - c.at)))
named_price c stops lefts rights lefts_named rights_named reads reads_now same h =
    let P : List ℕ → Type 0 = λ l. reads_now ≤ reads + fetch_join_cost (kinds c.right_indexes) (c.left_on, c.right_on) lefts rights l in
    let Q : List Row → List Row → Type 0 = λ ls rs.
    reads_now ≤ reads + fetch_join_cost (kinds c.right_indexes) (c.left_on, c.right_on) ls rs (passed (slice_get stops 0) (range_with_len c.at (c.left_slots - c.at))) in
    ⊎_elim
    (λ none.
    let few : c.left_slots - c.at ≡ 0 = omega (arith, none) in
    let slots : passed (slice_get stops 0) (range_with_len c.at (c.left_slots - c.at)) ≡ [] = ap (λ (n : ℕ). passed (slice_get stops 0) (range_with_len c.at n)) few ∙ nothing_passed (slice_get stops 0) in
    let unpaid : reads_now ≤ reads = omega (arith, subst P slots h) in
    omega (arith, unpaid))
    (λ some. let e = same some in subst (λ (ls : List Row). Q ls rights_named) (sym e.0) (subst (λ (rs : List Row). Q lefts rs) (sym e.1) h))
    (zero_or_more c.left_slots)
