-- A JOIN: what it costs, and its loop over the pairs.
use Rattle.std.proofs.Common.{◌≡◌, ℕ, suc, ◌+◌, ◌*◌, ◌≤◌, Bool, true, false, cond, List, [], ◌∷◌, length, map, Option, Some, None, Ok, Err, refl, ap, sym, ◌∙◌, subst, arith, length-append}
use Rattle.std.specs.Prelude.{Result, ⊤, not, unwrap_or, slice_get}
use Rattle.std.proofs.lemmas.List.{length-map}
use Rattle.std.proofs.Math.Nat.{mul-le-mul}
use Rattle.afl_base.specs.Files.{State, Table}
use Rattle.db_model.specs.declared.commands.Query.TheVariants as query
use Rattle.db_model.specs.declared.refusals.Refusal.{Refusal}
use Rattle.db_model.specs.declared.refusals.Refusal.TheVariants as no
use Rattle.db_model.specs.declared.values.Value.{Value}
use Rattle.db_model.specs.Answers.{join, live_tuples, pairs, same_value}
use Rattle.db_model.specs.Cost.{places_of, query_cost, right_costs}
use Rattle.db_model.specs.Database.{Relation, indexes_of}
use Rattle.db_model.specs.Item.{place_of}
use Rattle.db_model.specs.Plan.{Kinds, kinds_of}
use Rattle.db_model.specs.Refusing.{◌>>◌, refuse_found, refuse_if}
use Rattle.db_model.specs.Row.{Row}
use Rattle.db_model.specs.Step.{join_of, joins, missing_in_join}
use Rattle.db_model.specs.Typing.{domain_of}
use Rattle.cursor.specs.declared.block.Block.{Block}
use Rattle.cursor.specs.declared.join.JoinCursor.{JoinCursor}
use Rattle.cursor.specs.Blocks.{IsBlockOf, cost_by_block}
use Rattle.cursor.specs.Pairs.{FitsPairs, HasAhead, FitsInner, belongs, join_cost_ahead, matching, pairs_left, right_side_costs as costs_right}
use Rattle.index_set.specs.declared.candidates.Candidates.{Candidates}
use Rattle.index_set.specs.declared.info.IndexInfo.{IndexInfo}
use Rattle.index_set.specs.Complete.{AreIndexesOf}
use Rattle.index_set.specs.Plans.{kinds}
use Rattle.index_set.specs.Tables.{Tables}
use Rattle.tuple_file.specs.declared.tuples.Tuples.{Tuples}
use Rattle.tuple_file.specs.Tuples.{rows, slots}
use Rattle.session_model.specs.declared.held.Held.{Held}
use Rattle.session_model.specs.declared.held.Open.{Open}
use Rattle.session_model.specs.declared.held.Side.{Side}
use Rattle.session_model.specs.View.{project_pair, relation_of_rows, view}
use Rattle.session_queries.specs.declared.finding.Found.{Found}
use Rattle.session_queries.specs.Finds.{IsRelationFound}
use Rattle.session_queries.specs.Replies.{WroteAll, WroteNext, joined_left}
use Rattle.session_queries.proofs.Lines.{Wrote, wrote_all, wrote_more, wrote_none}
use Rattle.session_queries.proofs.Seen.{kinds_seen, relation_seen}
use Rattle.tuple_file.proofs.Columns.{rows_counted}
use Rattle.padded.proofs.Facts.{filter_few}

-- ---- what it costs

unrefused : (a b : Result ⊤ Refusal) (xs ys : List (List Value)) → ◌>>◌ a (◌>>◌ b (Ok xs)) ≡ Ok ys → xs ≡ ys
unrefused (Ok t) (Ok u) xs ys e = cc
unrefused (Ok t) (Err r) xs ys e = cc
unrefused (Err r) b xs ys e = cc

join_is : (on : List ℕ) (list : List (List ℕ)) (l r : Relation) (ts : List (List Value)) → join_of on list l r ≡ Ok ts → join l.schema.attributes r.schema.attributes on list l.rows r.rows ≡ ts
join_is on list l r ts e =
    unrefused (refuse_found (missing_in_join l.schema.attributes r.schema.attributes on list) no.NoAttribute)
    (refuse_if (not (joins (domain_of l.schema.attributes on) (domain_of r.schema.attributes on))) (no.IllTyped 1))
    (join l.schema.attributes r.schema.attributes on list l.rows r.rows) ts e

pub join_cost_is : (files : Table) (held : Held) (opens : List (Option Open)) (left right on : List ℕ) (list : List (List ℕ)) (l r : Found) (places : List Side) (left_on right_on : ℕ)
    → IsRelationFound held left l → IsRelationFound held right r → place_of on l.tuples.schema.attributes ≡ Some left_on → place_of on r.tuples.schema.attributes ≡ Some right_on
    → join_of on list (relation_of_rows files l.tuples) (relation_of_rows files r.tuples) ≡ Ok (map (project_pair places) (matching left_on right_on (rows files l.tuples) (rows files r.tuples)))
    → query_cost (view files held opens) (query.Join left right on list)
    ≡ 6 * (length (rows files l.tuples) + length (matching left_on right_on (rows files l.tuples) (rows files r.tuples)))
    + right_costs (kinds r.indexes) (left_on, right_on) (rows files r.tuples) (rows files l.tuples)
join_cost_is files held opens left right on list l r places left_on right_on fl fr a b joined =
    let db = view files held opens in
    let lefts = rows files l.tuples in
    let rights = rows files r.tuples in
    let found = matching left_on right_on lefts rights in
    let answer = join l.tuples.schema.attributes r.tuples.schema.attributes on list lefts rights in
    let many : length answer ≡ length found =
    ap (λ (ts : List (List Value)). length ts) (join_is on list (relation_of_rows files l.tuples) (relation_of_rows files r.tuples) (map (project_pair places) found) joined)
    ∙ length-map found (project_pair places) in
    rw (relation_seen files held opens left l fl, relation_seen files held opens right r fr)
    (ap (λ (n : ℕ). 6 * (length lefts + n) + right_costs (kinds_of (indexes_of db r.slot)) (places_of on (relation_of_rows files l.tuples) (relation_of_rows files r.tuples)) rights lefts) many
    ∙ ap (λ (k : Kinds). 6 * (length lefts + length found) + right_costs k (places_of on (relation_of_rows files l.tuples) (relation_of_rows files r.tuples)) rights lefts) (kinds_seen files held opens right r fr)
    ∙ ap (λ (p : Option ℕ). 6 * (length lefts + length found) + right_costs (kinds r.indexes) (unwrap_or p 0, unwrap_or (place_of on r.tuples.schema.attributes) 0) rights lefts) a
    ∙ ap (λ (p : Option ℕ). 6 * (length lefts + length found) + right_costs (kinds r.indexes) (left_on, unwrap_or p 0) rights lefts) b)

-- ---- the beginning

pub pairs_fit : (state : State) (tables : Tables) (c : JoinCursor) → c.inner ≡ None → AreIndexesOf state tables (rows state.files c.right) c.right_indexes → FitsPairs c state tables
pairs_fit state tables c rests indexes = record {
  indexes = λ some. indexes;
  inner = λ some. subst (λ (o : Option Candidates). FitsInner o state tables (rows state.files c.right)) (sym rests) tt;
  ahead = λ some left e. subst (λ (o : Option Candidates). HasAhead o (belongs (slice_get left c.left_on) c.right_on) (rows state.files c.right) c.from c.right_slots) (sym rests) tt;
}

-- no more pairs than each left row with each right row
filtered_step : {A : Type 0} (b : Bool) (x : A) (xs : List A) (n : ℕ) → length xs ≤ n → length (cond b (x ∷ xs) xs) ≤ suc n
filtered_step true x xs n h = omega arith
filtered_step false x xs n h = omega arith

mul_more : (m n : ℕ) → n + m * n ≡ suc m * n
mul_more m n = grind arith

length_pairs : (xs ys : List (List Value)) → length (pairs xs ys) ≡ length xs * length ys
length_pairs [] ys = omega arith
length_pairs (x ∷ xs) ys =
    length-append (map (λ y. (x, y)) ys) (pairs xs ys) ∙ ap (λ (n : ℕ). n + length (pairs xs ys)) (length-map ys (λ y. (x, y))) ∙ ap (λ (n : ℕ). length ys + n) (length_pairs xs ys) ∙ mul_more (length xs) (length ys)

live_few : (all : List Row) → length (live_tuples all) ≤ length all
live_few [] = omega arith
live_few (row ∷ all) = filtered_step row.live row.tuple (live_tuples all) (length all) (live_few all)

pub matching_few : (left_on right_on : ℕ) (lefts rights : List Row) → length (matching left_on right_on lefts rights) ≤ length lefts * length rights
matching_few left_on right_on lefts rights =
    let all = pairs (live_tuples lefts) (live_tuples rights) in
    let few = filter_few (λ pair. same_value (slice_get pair.0 left_on) (slice_get pair.1 right_on)) all in
    omega (arith, few, length_pairs (live_tuples lefts) (live_tuples rights), mul-le-mul (live_few lefts) (live_few rights))

-- a cursor that began, over the rows of both relations
pub record Begun (state : State) (tables : Tables) (l r : Found) (left_on right_on : ℕ) (c : JoinCursor) : Type 0 where
  pub lefts : rows state.files c.left ≡ rows state.files l.tuples
  pub rights : rows state.files c.right ≡ rows state.files r.tuples
  pub fits : FitsPairs c state tables
  pub pairs : pairs_left c (rows state.files l.tuples) (rows state.files r.tuples) ≡ matching left_on right_on (rows state.files l.tuples) (rows state.files r.tuples)
  pub few : length (pairs_left c (rows state.files l.tuples) (rows state.files r.tuples)) ≤ c.left_slots * c.right_slots
  pub cost : join_cost_ahead c (rows state.files l.tuples) (rows state.files r.tuples)
      ≡ 6 * (length (rows state.files l.tuples) + length (matching left_on right_on (rows state.files l.tuples) (rows state.files r.tuples)))
      + right_costs (kinds r.indexes) (left_on, right_on) (rows state.files r.tuples) (rows state.files l.tuples)

pub begun : (state : State) (tables : Tables) (l r : Found) (left_on right_on : ℕ) (c : JoinCursor)
    → c.left ≡ l.tuples → c.right ≡ r.tuples → c.right_indexes ≡ r.indexes → c.left_on ≡ left_on → c.right_on ≡ right_on
    → c.left_slots ≡ slots state.files l.tuples → c.right_slots ≡ slots state.files r.tuples → c.inner ≡ None
    → pairs_left c (rows state.files l.tuples) (rows state.files r.tuples) ≡ matching left_on right_on (rows state.files l.tuples) (rows state.files r.tuples)
    → join_cost_ahead c (rows state.files l.tuples) (rows state.files r.tuples)
    ≡ 6 * (length (rows state.files l.tuples) + length (matching left_on right_on (rows state.files l.tuples) (rows state.files r.tuples)))
    + costs_right c (rows state.files r.tuples) (rows state.files l.tuples)
    → AreIndexesOf state tables (rows state.files r.tuples) r.indexes
    → Begun state tables l r left_on right_on c
begun state tables l r left_on right_on c left right indexes left_is right_is left_slots right_slots rests pairs cost complete =
    let lefts = rows state.files l.tuples in
    let rights = rows state.files r.tuples in
    let found = matching left_on right_on lefts rights in
    record {
      lefts = ap (λ (t : Tuples). rows state.files t) left;
      rights = ap (λ (t : Tuples). rows state.files t) right;
      fits = pairs_fit state tables c rests
          (subst (λ (infos : List IndexInfo). AreIndexesOf state tables (rows state.files c.right) infos) (sym indexes)
          (subst (λ (t : Tuples). AreIndexesOf state tables (rows state.files t) r.indexes) (sym right) complete));
      pairs = pairs;
      few =
          let most = matching_few left_on right_on lefts rights in
          let many : length lefts * length rights ≡ c.left_slots * c.right_slots =
          ap (λ (n : ℕ). n * length rights) (rows_counted state.files l.tuples ∙ sym left_slots) ∙ ap (λ (n : ℕ). c.left_slots * n) (rows_counted state.files r.tuples ∙ sym right_slots) in
          omega (arith, ap (λ (ps : List (List Value × List Value)). length ps) pairs, most, many);
      cost = cost
          ∙ ap (λ (infos : List IndexInfo). 6 * (length lefts + length found) + right_costs (kinds infos) (c.left_on, c.right_on) rights lefts) indexes
          ∙ ap (λ (n : ℕ). 6 * (length lefts + length found) + right_costs (kinds r.indexes) (n, c.right_on) rights lefts) left_is
          ∙ ap (λ (n : ℕ). 6 * (length lefts + length found) + right_costs (kinds r.indexes) (left_on, n) rights lefts) right_is;
    }

-- ---- the loop

pub record JoinGoes (state : State) (tables : Tables) (lefts rights : List Row) (places : List Side) (b b_now : Block) (before now : JoinCursor) (held held_now : Option (List ℕ)) (count reads reads_now : ℕ) : Type 0 where
  pub fits : FitsPairs now state tables
  pub block : IsBlockOf b_now now lefts rights
  pub wrote : Wrote (joined_left places before lefts rights) (joined_left places now lefts rights) held held_now count
  pub few : reads_now + cost_by_block b_now now lefts rights ≤ reads + cost_by_block b before lefts rights

pub join_begins : (state : State) (tables : Tables) (lefts rights : List Row) (places : List Side) (b : Block) (c : JoinCursor) (h : Option (List ℕ)) (reads : ℕ)
    → FitsPairs c state tables → IsBlockOf b c lefts rights → JoinGoes state tables lefts rights places b b c c h h 0 reads reads
join_begins state tables lefts rights places b c h reads fits block = record { fits = fits; block = block; wrote = wrote_none (joined_left places c lefts rights) h; few = omega arith }

pub join_goes_on : (state : State) (tables : Tables) (lefts rights : List Row) (places : List Side) (b b_now b_after : Block) (before now after : JoinCursor) (h0 h1 h2 : Option (List ℕ)) (count reads r1 r2 : ℕ)
    → JoinGoes state tables lefts rights places b b_now before now h0 h1 count reads r1
    → WroteNext (Ok true) (joined_left places now lefts rights) (joined_left places after lefts rights) h1 h2
    → FitsPairs after state tables → IsBlockOf b_after after lefts rights
    → r2 + cost_by_block b_after after lefts rights ≤ r1 + cost_by_block b_now now lefts rights
    → JoinGoes state tables lefts rights places b b_after before after h0 h2 (count + 1) reads r2
join_goes_on state tables lefts rights places b b_now b_after before now after h0 h1 h2 count reads r1 r2 s next fits block few = record {
  fits = fits;
  block = block;
  wrote = wrote_more (joined_left places before lefts rights) (joined_left places now lefts rights) (joined_left places after lefts rights) h0 h1 h2 count s.wrote next;
  few = omega (arith, s.few, few);
}

none_left : {A : Type 0} (xs : List A) → length xs ≤ 0 → xs ≡ []
none_left [] h = refl
none_left (x ∷ xs) h = absurd (omega arith)

-- so many were written that none can be left
pub join_ended : (state : State) (tables : Tables) (lefts rights : List Row) (places : List Side) (b b_now : Block) (before now : JoinCursor) (h0 h1 : Option (List ℕ)) (count reads r1 : ℕ)
    → JoinGoes state tables lefts rights places b b_now before now h0 h1 count reads r1 → length (pairs_left before lefts rights) ≤ count → WroteAll (joined_left places before lefts rights) h0 h1 count
join_ended state tables lefts rights places b b_now before now h0 h1 count reads r1 s few =
    let all = joined_left places before lefts rights in
    let left = joined_left places now lefts rights in
    let e : length all ≡ length (pairs_left before lefts rights) = length-map (pairs_left before lefts rights) (project_pair places) in
    let f : length all ≡ length s.wrote.done + length left = ap (λ (l : List (List Value)). length l) s.wrote.whole ∙ length-append s.wrote.done left in
    wrote_all all left h0 h1 count s.wrote (none_left left (omega (arith, e, f, few, s.wrote.counted)))
