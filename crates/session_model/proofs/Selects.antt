-- An open cursor of one relation may go on where it rests, and waits again where it has taken a row.
use Rattle.std.proofs.Common.{◌≡◌, ℕ, ◌≤◌, List, get_or, Option, Some, None, ap, sym, ◌∙◌, subst, arith, IsTrue}
use Rattle.std.proofs.Math.Logic.{⊎_elim}
use Rattle.afl_base.specs.Files.{State, bytes_at}
use Rattle.db_model.specs.Row.{Row}
use Rattle.db_model.specs.Step.{keys}
use Rattle.index_set.specs.declared.candidates.Search.{Search}
use Rattle.index_set.specs.declared.candidates.Search.TheVariants as by
use Rattle.index_set.specs.declared.info.Access.{Access}
use Rattle.index_set.specs.declared.info.Access.TheVariants.{Tree, Table as InTable}
use Rattle.index_maxheap.specs.declared.places.Place.{Place}
use Rattle.index_set.specs.Complete.{IsComplete, IsHeld}
use Rattle.index_set.specs.Tables.{Tables}
use Rattle.index_set.specs.Walks.{Fits, HasIndex, IsChosen, IsSafeBy, KnowsRows, Waits}
use Rattle.index_tree.specs.Trees.{IsTreeOf}
use Rattle.cursor.specs.declared.select.SelectCursor.{SelectCursor}
use Rattle.cursor.specs.Remaining.{MayRead}
use Rattle.tuple_file.specs.declared.tuples.Tuples.{Tuples}
use Rattle.tuple_file.specs.Tuples.{rows, slots}
use Rattle.session_model.specs.declared.held.Held.{Held}
use Rattle.session_model.specs.declared.held.Open.{Open}
use Rattle.session_model.specs.Indexed.{infos_of}
use Rattle.session_model.specs.Running.{IndexStands, IsIndexed, IsRunning, IsWaiting, Stands}
use Rattle.session_model.proofs.Readable.{stands_for}
use Rattle.session_model.proofs.Running.{on_relation, relation_there}
use Rattle.padded.proofs.Facts.{zero_or_more}

-- a cursor that began over the slots of a relation of the session waits
pub begun_waits : (state : State) (held : Held) (k : ℕ) (t : Tuples) → get_or held.relations k None ≡ Some t → (c : SelectCursor) → c.tuples ≡ t → c.candidates.place ≡ None
    → c.candidates.slots ≡ slots state.files t
    → (IsTrue state.tells → Waits c.candidates (rows state.files t)) → IsChosen c.candidates.search (infos_of k t held.indexes) → IsWaiting state held c
begun_waits state held k t there c tuples rests many waits chosen = record {
  rests = rests;
  goes_on = λ some. record {
    slot = k;
    there = there ∙ ap (λ (s : Tuples). Some s) (sym tuples);
    few = let P : Tuples → Type 0 = λ s. c.candidates.slots ≤ slots state.files s in subst P (sym tuples) (omega (arith, many));
    waits = λ told. let P : Tuples → Type 0 = λ s. Waits c.candidates (rows state.files s) in subst P (sym tuples) (waits told);
    index = stands_for held k t c.candidates.search chosen;
  };
}

module _ (state : State) (tables : Tables) (held : Held) (opens : List (Option Open)) (r : IsRunning state tables held opens) (c : SelectCursor) (w : IsWaiting state held c) where
  -- the index with which it began
  began_with : (k attribute : ℕ) (access : Access) → get_or held.relations k None ≡ Some c.tuples → (s : Stands held k attribute access) → IsIndexed state tables s.slot s.index c.tuples
  began_with k attribute access e s = on_relation state tables held opens r k c.tuples e s.slot s.index s.there s.relation

  safe_by : (s : Search) (k : ℕ) → get_or held.relations k None ≡ Some c.tuples → IndexStands held k s → IsSafeBy s state
  safe_by (by.Tree attribute file key) k e h =
      let x = began_with k attribute (Tree file) e h in
      let P : Access → Type 0 = λ a. IsHeld state tables (slots state.files c.tuples) a in
      (subst P h.access_is x.held).0
  safe_by by.Nothing k e h = tt
  safe_by by.Scan k e h = tt
  safe_by (by.Order attribute range) k e h = tt
  safe_by (by.Table attribute number key) k e h = tt

  pub select_reads : MayRead state c.tuples c.candidates
  select_reads = record {
    holds = λ some. let is = w.goes_on some in (relation_there state tables held opens r is.slot c.tuples is.there).holds;
    slots = λ some. (w.goes_on some).few;
    safe = λ some. let is = w.goes_on some in safe_by c.candidates.search is.slot is.there is.index;
  }

  knows_none : (s : Search) (all : List Row) (from end : ℕ) → end ≤ 0 → KnowsRows s all from end 0
  knows_none (by.Order attribute range) all from end none = (λ i a b. absurd (omega arith), λ i a b. absurd (omega arith))
  knows_none by.Nothing all from end none = tt
  knows_none by.Scan all from end none = tt
  knows_none (by.Tree attribute file key) all from end none = tt
  knows_none (by.Table attribute number key) all from end none = tt

  waits_none : (all : List Row) → c.candidates.slots ≡ 0 → Waits c.candidates all
  waits_none all none = record {
    few = omega (arith, none);
    knows = let P : ℕ → Type 0 = λ n. KnowsRows c.candidates.search all c.candidates.from c.candidates.end n in
        subst P (sym none) (knows_none c.candidates.search all c.candidates.from c.candidates.end (omega (arith, c.candidates.within, none)));
  }

  has_index : (s : Search) (k : ℕ) (from : ℕ) → get_or held.relations k None ≡ Some c.tuples → IndexStands held k s → IsTrue state.tells → HasIndex s None state tables (rows state.files c.tuples) from
  has_index (by.Tree attribute file key) k from e h told =
      let x = began_with k attribute (Tree file) e h in
      let P : Access → Type 0 = λ a. IsComplete state tables a (keys h.index.attribute (rows state.files c.tuples)) in
      let Q : ℕ → Type 0 = λ n. IsTreeOf (bytes_at state.files file) (keys n (rows state.files c.tuples)) in
      (subst Q h.place (subst P h.access_is (x.complete told)), tt)
  has_index (by.Table attribute number key) k from e h told =
      let x = began_with k attribute (InTable number) e h in
      let P : Access → Type 0 = λ a. IsComplete state tables a (keys h.index.attribute (rows state.files c.tuples)) in
      subst P h.access_is (x.complete told) ∙ ap (λ (n : ℕ). keys n (rows state.files c.tuples)) h.place
  has_index by.Nothing k from e h told = tt
  has_index by.Scan k from e h told = tt
  has_index (by.Order attribute range) k from e h told = tt

  pub select_fits : IsTrue state.tells → Fits c.candidates state tables (rows state.files c.tuples)
  select_fits told = record {
    waits = ⊎_elim (λ none. waits_none (rows state.files c.tuples) none) (λ some. (w.goes_on some).waits told) (zero_or_more c.candidates.slots);
    index = λ some. let is = w.goes_on (omega (arith, some)) in
        let P : Option Place → Type 0 = λ p. HasIndex c.candidates.search p state tables (rows state.files c.tuples) c.candidates.from in
        subst P (sym w.rests) (has_index c.candidates.search is.slot c.candidates.from is.there is.index told);
  }

  -- it waits again where it has taken a row and rests
  pub select_waits : (d : SelectCursor) → d.candidates.place ≡ None → d.tuples ≡ c.tuples → d.candidates.slots ≡ c.candidates.slots → d.candidates.search ≡ c.candidates.search
      → (IsTrue state.tells → Waits d.candidates (rows state.files c.tuples)) → IsWaiting state held d
  select_waits d rests tuples many search_is waits = record {
    rests = rests;
    goes_on = λ some.
        let is = w.goes_on (omega (arith, some, many)) in
        record {
          slot = is.slot;
          there = is.there ∙ ap (λ (t : Tuples). Some t) (sym tuples);
          few = let P : Tuples → Type 0 = λ t. d.candidates.slots ≤ slots state.files t in subst P (sym tuples) (omega (arith, is.few, many));
          waits = λ told. let P : Tuples → Type 0 = λ t. Waits d.candidates (rows state.files t) in subst P (sym tuples) (waits told);
          index = let P : Search → Type 0 = λ s. IndexStands held is.slot s in subst P (sym search_is) is.index;
        };
  }
