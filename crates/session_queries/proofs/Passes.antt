-- Passes over the rows of a cursor.
use Rattle.std.proofs.Common.{◌≡◌, ℕ, zero, suc, ◌+◌, ◌*◌, ◌<◌, ◌≤◌, Bool, true, false, List, [], ◌∷◌, ◌++◌, length, refl, ap, sym, ◌∙◌, subst, arith, IsTrue, append_assoc}
use Rattle.std.specs.Prelude.{if◌then◌else◌}
use Rattle.std.proofs.Math.Nat.{mul-le-mul_right}
use Rattle.afl_base.specs.Files.{State}
use Rattle.db_model.specs.declared.commands.Agg.{Agg}
use Rattle.db_model.specs.declared.values.Value.{Value}
use Rattle.db_model.specs.Row.{Row}
use Rattle.aggregate.specs.Fold.{Folds}
use Rattle.index_set.specs.declared.candidates.Candidates.{Candidates}
use Rattle.index_set.specs.Tables.{Tables}
use Rattle.index_set.specs.Walks.{Fits, cost_ahead}
use Rattle.cursor.specs.declared.select.SelectCursor.{SelectCursor}
use Rattle.cursor.specs.Remaining.{remaining}
use Rattle.session_model.specs.View.{value_at}
use Rattle.session_plans.specs.Aggregates.{column_values}
use Rattle.session_queries.specs.declared.tally.Tally.{Tally}
use Rattle.session_queries.specs.Folded.{AllStand, AreClosed, AreDone, AreFolded, AreFolding, EndsPass, TakesValue, item_at, taken_by, tally_at}
use Rattle.padded.proofs.Facts.{one_more_times}

-- ---- one pass

pub record FoldGoes (state : State) (tables : Tables) (all : List Row) (items : List (Agg × ℕ)) (before now : SelectCursor) (tallies tallies_now : List Tally) (reads reads_now : ℕ) : Type 0 where
  pub done : List (List Value)
  pub whole : remaining before all ≡ done ++ remaining now all
  pub fits : Fits now.candidates state tables all
  pub folded : (every : List (List Value)) → AreFolded items every tallies → AreFolding items every done tallies_now
  pub few : reads_now + cost_ahead now.candidates all ≤ reads + cost_ahead before.candidates all

none_taken : (b : Bool) (values : List Value) (t : Tally) → Folds values [] t.fold → Folds values (taken_by b []) t.fold
none_taken true values t h = h
none_taken false values t h = h

begins : (items : List (Agg × ℕ)) (every : List (List Value)) (tallies : List Tally) → AreFolded items every tallies → AreFolding items every [] tallies
begins items every tallies h i inside = none_taken (tally_at tallies i).is_open (column_values (item_at items i).1 every) (tally_at tallies i) (h i inside)

pub fold_begins : (state : State) (tables : Tables) (all : List Row) (items : List (Agg × ℕ)) (c : SelectCursor) (tallies : List Tally) (reads : ℕ)
    → Fits c.candidates state tables all → FoldGoes state tables all items c c tallies tallies reads reads
fold_begins state tables all items c tallies reads fits = record { done = []; whole = refl; fits = fits; folded = λ every h. begins items every tallies h; few = omega arith }

-- ---- a tuple is pushed into each

column_more : (place : ℕ) (tuples : List (List Value)) (tuple : List Value) → column_values place (tuples ++ tuple ∷ []) ≡ column_values place tuples ++ value_at tuple place ∷ []
column_more place [] tuple = refl
column_more place (t ∷ tuples) tuple = ap (λ (l : List Value). value_at t place ∷ l) (column_more place tuples tuple)

pub folds_more : (items : List (Agg × ℕ)) (every done : List (List Value)) (tuple : List Value) (old new : List Tally) → ((i : ℕ) → i < length items → TakesValue (value_at tuple (item_at items i).1) (tally_at old i) (tally_at new i))
    → AreFolding items every done old → AreFolding items every (done ++ tuple ∷ []) new
folds_more items every done tuple old new takes are i inside =
    subst (λ (values : List Value). Folds (column_values (item_at items i).1 every) (taken_by (tally_at new i).is_open values) (tally_at new i).fold) (sym (column_more (item_at items i).1 done tuple))
    ((takes i inside).told (column_values (item_at items i).1 every) (column_values (item_at items i).1 done) (are i inside))

pub fold_goes_on : (state : State) (tables : Tables) (all : List Row) (items : List (Agg × ℕ)) (before now after : SelectCursor) (tallies t1 t2 : List Tally) (tuple : List Value) (reads r1 r2 : ℕ)
    → FoldGoes state tables all items before now tallies t1 reads r1
    → remaining now all ≡ tuple ∷ remaining after all
    → Fits after.candidates state tables all
    → ((i : ℕ) → i < length items → TakesValue (value_at tuple (item_at items i).1) (tally_at t1 i) (tally_at t2 i))
    → r2 + cost_ahead after.candidates all ≤ r1 + cost_ahead now.candidates all
    → FoldGoes state tables all items before after tallies t2 reads r2
fold_goes_on state tables all items before now after tallies t1 t2 tuple reads r1 r2 s next fits takes few = record {
  done = s.done ++ tuple ∷ [];
  whole = s.whole ∙ ap (λ (l : List (List Value)). s.done ++ l) next ∙ sym (append_assoc s.done (tuple ∷ []) (remaining after all));
  fits = fits;
  folded = λ every are. folds_more items every s.done tuple t1 t2 takes (s.folded every are);
  few = omega (arith, s.few, few);
}

-- ---- the end of a pass

pub pass_ends : (items : List (Agg × ℕ)) (all : List (List Value)) (old new : List Tally) → ((i : ℕ) → i < length items → EndsPass (tally_at old i) (tally_at new i)) → AreFolding items all all old → AreFolded items all new
pass_ends items all old new ends are i inside = (ends i inside).told (column_values (item_at items i).1 all) (are i inside)

pub done_closed : (items : List (Agg × ℕ)) (passes : ℕ) (tallies : List Tally) → AllStand passes items tallies → AreClosed items tallies → AreDone items tallies
done_closed items passes tallies stand closed i inside = (stand i inside).closed (closed i inside)

-- a cursor that was put back
pub restarted : (before now : SelectCursor) (first : Candidates) → now.tuples ≡ before.tuples → now.code ≡ before.code → first ≡ before.candidates → record now { candidates = first } ≡ before
restarted before now first tuples code candidates = λ i. record { tuples = tuples i; code = code i; candidates = candidates i }

least : (pass : ℕ) → (1 ≤ pass → IsTrue false) → pass ≡ 0
least zero h = refl
least (suc pass) h = absurd (cc (h (omega arith)))

-- one more pass is paid for: there is more than one for a median alone
pub paid : (m : Bool) (pass cost : ℕ) → pass < 9 → (1 ≤ pass → IsTrue m) → pass * cost + cost ≤ (if m then 9 else 1) * cost
paid true pass cost few median =
    let more : pass + 1 ≤ 9 = omega arith in
    let most = mul-le-mul_right cost more in
    omega (arith, most, one_more_times pass cost)
paid false pass cost few median =
    let none : pass ≡ 0 = least pass median in
    let e = ap (λ (n : ℕ). n * cost + cost) none in
    omega (arith, e)
