-- A cursor has begun over relations of the session: what it has to come, and what is ahead of it.
use Rattle.std.proofs.Common.{◌≡◌, ℕ, ◌+◌, ◌-◌, List, [], ◌∷◌, ◌++◌, length, take, drop, filter, get_or, replicate, Option, ap, sym, subst, ◌∙◌, arith}
use Rattle.std.specs.List.{range_with_len}
use Rattle.std.proofs.lemmas.List.{take_all}
use Rattle.afl_base.specs.Files.{Table}
use Rattle.db_model.specs.Ahead as model
use Rattle.db_model.specs.Ahead.{OfJoin, OfSelect, pair_slots, partners}
use Rattle.db_model.specs.Cond.{Cond}
use Rattle.db_model.specs.Database.{indexes_of}
use Rattle.db_model.specs.Item.{selects}
use Rattle.db_model.specs.Plan.{kinds_of, plan, ranges_of}
use Rattle.db_model.specs.Row.{Row, no_row}
use Rattle.index_set.specs.declared.info.IndexInfo.{IndexInfo}
use Rattle.index_set.specs.Plans.{is_passed, kinds, slots_passed}
use Rattle.index_set.specs.Walks.{ahead, walk_of_search}
use Rattle.cursor.specs.declared.join.JoinCursor.{JoinCursor}
use Rattle.cursor.specs.Pairs.{lefts_of, matching, rights_of}
use Rattle.cursor.specs.Remaining.{is_live_and, selected_slots, slots_to_answer}
use Rattle.tuple_file.specs.declared.tuples.Tuples.{Tuples}
use Rattle.tuple_file.specs.Tuples.{rows}
use Rattle.session_model.specs.declared.held.Held.{Held}
use Rattle.session_model.specs.declared.held.Open.{Open}
use Rattle.session_model.specs.declared.held.OpenJoin.{OpenJoin}
use Rattle.session_model.specs.declared.held.OpenSelect.{OpenSelect}
use Rattle.session_model.specs.Aheads.{ahead_of_join, join_stops, ahead_of_select}
use Rattle.session_model.specs.Indexed.{infos_of}
use Rattle.session_model.specs.View.{relation_of_rows, view}
use Rattle.session_model.proofs.Running.{indexes_seen}
use Rattle.db_model.proofs.Moves.{many_pairs}
use Rattle.session_cursors.proofs.JoinCounts.{first_stops, stops_from}
use Rattle.session_plans.proofs.IndexKinds.{kinds_same}

-- ---- the indexes of a relation, as the machine sees them

pub kinds_held : (files : Table) (held : Held) (opens : List (Option Open)) (k : ℕ) (t : Tuples) → kinds_of (indexes_of (view files held opens) k) ≡ kinds (infos_of k t held.indexes)
kinds_held files held opens k t = ap kinds_of (indexes_seen k t held.indexes) ∙ kinds_same k (infos_of k t held.indexes)

-- what holds of a copy and of the indexes that were counted holds of the relation and its own
pub moved : {t u : Tuples} {xs ys : List IndexInfo} (P : Tuples → List IndexInfo → Type 0) → t ≡ u → xs ≡ ys → P t xs → P u ys
moved {u = u} {xs = xs} P same equal p = subst (λ (l : List IndexInfo). P u l) equal (subst (λ (z : Tuples). P z xs) same p)

-- ---- a SELECT

pub select_begun : (files : Table) (o : OpenSelect) (t : Tuples) (infos : List IndexInfo) (condition : Option Cond) → o.cursor.tuples ≡ t
    → walk_of_search o.cursor.candidates.search ≡ model.walk_of (kinds infos) (plan (kinds infos) (ranges_of t.schema.attributes condition))
    → ahead o.cursor.candidates (rows files t) ≡ slots_passed (kinds infos) (ranges_of t.schema.attributes condition) (length (rows files t)) (rows files t)
    → slots_to_answer o.cursor (rows files t) ≡ selected_slots t.schema.attributes condition (rows files t)
    → ahead_of_select files o ≡ model.select_ahead t.schema.name (kinds infos) (ranges_of t.schema.attributes condition) (relation_of_rows files t) condition
select_begun files o t infos condition tuples walk slots stops =
    let all : List Row = rows files t in
    let whole : length all ≡ length all - 0 = omega arith in
    let ss : ahead o.cursor.candidates (rows files o.cursor.tuples) ≡ model.slots_in (model.takes (kinds infos) (ranges_of t.schema.attributes condition) (plan (kinds infos) (ranges_of t.schema.attributes condition))) all 0 (length all) =
    ap (λ (z : Tuples). ahead o.cursor.candidates (rows files z)) tuples ∙ slots
    ∙ ap (λ (n : ℕ). filter (λ slot. is_passed (kinds infos) (ranges_of t.schema.attributes condition) (get_or all slot no_row)) (range_with_len 0 n)) whole in
    let ts : slots_to_answer o.cursor (rows files o.cursor.tuples) ≡ model.slots_in (λ row. is_live_and (selects t.schema.attributes condition) row) all 0 (length all) =
    ap (λ (z : Tuples). slots_to_answer o.cursor (rows files z)) tuples ∙ stops
    ∙ ap (λ (n : ℕ). filter (λ slot. is_live_and (selects t.schema.attributes condition) (get_or all slot no_row)) (range_with_len 0 n)) whole in
    λ i. record { source = OfSelect (tuples i).schema.name (walk i); slots = ss i; stops = ts i }

-- ---- a JOIN

stops_first : (on : ℕ × ℕ) (lefts rights : List Row) (n : ℕ) → n ≡ length lefts
    → replicate (length (matching on.0 on.1 (take 1 lefts) rights)) 0 ++ stops_from (λ slot. partners on rights (get_or lefts slot no_row)) 1 (n - 1) ≡ stops_from (λ slot. partners on rights (get_or lefts slot no_row)) 0 n
stops_first on [] rights n e =
    let none : n - 1 ≡ 0 = omega (arith, e) in
    let k : ℕ → ℕ = λ slot. partners on rights (get_or [] slot no_row) in
    ap (λ (m : ℕ). stops_from k 1 m) none ∙ sym (ap (λ (m : ℕ). stops_from k 0 m) e)
stops_first on (l ∷ lefts) rights n e =
    let rest : n - 1 ≡ length lefts = omega (arith, e) in
    let k : ℕ → ℕ = λ slot. partners on rights (get_or (l ∷ lefts) slot no_row) in
    let whole : partners on rights l + 0 ≡ partners on rights l = omega arith in
    let one : length (matching on.0 on.1 (l ∷ []) rights) ≡ partners on rights l = sym (many_pairs on rights (l ∷ [])) ∙ whole in
    ap (λ (m : ℕ). replicate m 0 ++ stops_from k 1 (n - 1)) one
    ∙ ap (λ (m : ℕ). replicate (partners on rights l) 0 ++ stops_from k 1 m) rest
    ∙ sym (first_stops k 0 (length lefts))
    ∙ sym (ap (λ (m : ℕ). stops_from k 0 m) e)

pub stops_begun : (c : JoinCursor) (lefts rights : List Row) → c.at ≡ 0 → c.from ≡ 0 → c.left_slots ≡ length lefts → c.right_slots ≡ length rights
    → join_stops c lefts rights ≡ pair_slots (c.left_on, c.right_on) lefts rights
stops_begun c lefts rights at from ln rn =
    let l : lefts_of c lefts ≡ lefts = ap (λ (n : ℕ). take n lefts) ln ∙ take_all (length lefts) lefts (omega arith) in
    let r : rights_of c rights ≡ rights = ap (λ (n : ℕ). take n rights) rn ∙ take_all (length rights) rights (omega arith) in
    let on : ℕ × ℕ = (c.left_on, c.right_on) in
    let e : join_stops c lefts rights ≡ replicate (length (matching c.left_on c.right_on (take 1 lefts) rights)) 0 ++ stops_from (λ slot. partners on rights (get_or lefts slot no_row)) 1 (c.left_slots - 1) =
    λ i. replicate (length (matching c.left_on c.right_on (take 1 (drop (at i) (l i))) (drop (from i) (r i)))) (at i) ++ stops_from (λ slot. partners on (r i) (get_or (l i) slot no_row)) (at i + 1) (c.left_slots - (at i + 1)) in
    e ∙ stops_first on lefts rights c.left_slots ln ∙ ap (λ (n : ℕ). stops_from (λ slot. partners on rights (get_or lefts slot no_row)) 0 n) ln

-- from two relations
pub join_begun : (files : Table) (o : OpenJoin) (s t : Tuples) (infos : List IndexInfo) (left_on right_on : ℕ) → o.cursor.left ≡ s → o.cursor.right ≡ t → o.cursor.right_indexes ≡ infos
    → o.cursor.left_on ≡ left_on → o.cursor.right_on ≡ right_on → o.cursor.at ≡ 0 → o.cursor.from ≡ 0 → o.cursor.left_slots ≡ length (rows files s) → o.cursor.right_slots ≡ length (rows files t)
    → ahead_of_join files o ≡ model.join_ahead s.schema.name t.schema.name (left_on, right_on) (kinds infos) (rows files s) (rows files t)
join_begun files o s t infos left_on right_on le re is lo ro at from ln rn =
    let whole : length (rows files s) - 0 ≡ length (rows files s) = omega arith in
    let ss : range_with_len o.cursor.at (o.cursor.left_slots - o.cursor.at) ≡ range_with_len 0 (length (rows files s)) =
    (λ i. range_with_len (at i) (ln i - at i)) ∙ ap (range_with_len 0) whole in
    let same : join_stops o.cursor (rows files o.cursor.left) (rows files o.cursor.right) ≡ join_stops o.cursor (rows files s) (rows files t) = λ i. join_stops o.cursor (rows files (le i)) (rows files (re i)) in
    let on : pair_slots (o.cursor.left_on, o.cursor.right_on) (rows files s) (rows files t) ≡ pair_slots (left_on, right_on) (rows files s) (rows files t) = λ i. pair_slots (lo i, ro i) (rows files s) (rows files t) in
    let ts : join_stops o.cursor (rows files o.cursor.left) (rows files o.cursor.right) ≡ pair_slots (left_on, right_on) (rows files s) (rows files t) =
    same ∙ stops_begun o.cursor (rows files s) (rows files t) at from ln rn ∙ on in
    λ i. record { source = OfJoin (le i).schema.name (re i).schema.name (lo i, ro i) (kinds (is i)); slots = ss i; stops = ts i }
