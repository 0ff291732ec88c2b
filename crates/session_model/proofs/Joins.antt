-- An open cursor of two relations may go on where it rests, and waits again where it has answered a pair.
use Rattle.std.proofs.Common.{◌≡◌, ℕ, ◌≤◌, List, [], ◌∷◌, get_or, Option, Some, None, refl, ap, sym, ◌∙◌, subst, arith, IsTrue}
use Rattle.std.specs.Prelude.{slice_get}
use Rattle.std.specs.List.{AllByRecursion}
use Rattle.afl_base.specs.Files.{State}
use Rattle.index_maxheap.specs.declared.places.Place.{Place}
use Rattle.index_set.specs.declared.candidates.Candidates.{Candidates}
use Rattle.index_set.specs.declared.info.IndexInfo.{IndexInfo}
use Rattle.index_set.specs.Complete.{AreIndexesOf, AreReadable, IsInfoOf, IsReadable}
use Rattle.index_set.specs.Tables.{Tables}
use Rattle.cursor.specs.declared.join.JoinCursor.{JoinCursor}
use Rattle.cursor.specs.Pairs.{FitsInner, FitsPairs, HasAhead, HasSlots, IsSafeInner, MayReadPairs, belongs}
use Rattle.tuple_file.specs.declared.tuples.Tuples.{Tuples}
use Rattle.tuple_file.specs.Tuples.{rows, slots}
use Rattle.session_model.specs.declared.held.Held.{Held}
use Rattle.session_model.specs.declared.held.Open.{Open}
use Rattle.session_model.specs.Indexed.{infos_of}
use Rattle.session_model.specs.Running.{IsRunning, IsSide, IsWaitingJoin, StandsAs}
use Rattle.session_model.proofs.Readable.{index_complete, index_readable}
use Rattle.session_model.proofs.Running.{all_of, on_relation, relation_there}

-- the indexes of a relation of the session stand
pub all_stand : (held : Held) (k : ℕ) (t : Tuples) → AllByRecursion (StandsAs held k t) (infos_of k t held.indexes)
all_stand held k t = all_of (StandsAs held k t) k t held.indexes (λ i x e rel. record { slot = i; index = x; there = e; relation = rel; is = refl })

-- a cursor that began over the slots of two relations of the session waits
pub begun_join_waits : (state : State) (held : Held) (j k : ℕ) (s t : Tuples) → get_or held.relations j None ≡ Some s → get_or held.relations k None ≡ Some t
    → (c : JoinCursor) → c.left ≡ s → c.right ≡ t → c.right_indexes ≡ infos_of k t held.indexes → c.left_slots ≡ slots state.files s → c.right_slots ≡ slots state.files t
    → c.inner ≡ None → c.from ≤ c.right_slots → IsWaitingJoin state held c
begun_join_waits state held j k s t there_s there_t c left right indexes left_slots right_slots rests within = record {
  rests = rests;
  within = within;
  left = λ some. let P : Tuples → Type 0 = λ z. IsSide state held z c.left_slots in
      subst P (sym left) (record { slot = j; there = there_s; few = omega (arith, left_slots) });
  right = λ some. record {
    side = side_t;
    indexes = let P : Tuples → Type 0 = λ z. AllByRecursion (StandsAs held k z) (infos_of k z held.indexes) in
        subst (λ (infos : List IndexInfo). AllByRecursion (StandsAs held k c.right) infos) (sym (indexes ∙ ap (λ (z : Tuples). infos_of k z held.indexes) (sym right)))
        (subst P (sym right) (all_stand held k t));
  };
}
  where
    side_t : IsSide state held c.right c.right_slots
    side_t = record {
      slot = k;
      there = there_t ∙ ap (λ (z : Tuples). Some z) (sym right);
      few = let P : Tuples → Type 0 = λ z. c.right_slots ≤ slots state.files z in subst P (sym right) (omega (arith, right_slots));
    }

-- it waits again where it has moved and rests
pub join_waits : (state : State) (held : Held) (c d : JoinCursor) (at from : ℕ) (hint : Option Place) → IsWaitingJoin state held c → d ≡ record c { at = at; from = from; inner = None; hint = hint } → from ≤ c.right_slots → IsWaitingJoin state held d
join_waits state held c d at from hint w is within =
    subst (λ (z : JoinCursor). IsWaitingJoin state held z) (sym is) (record {
      rests = refl;
      within = within;
      left = w.left;
      right = λ some. let side = w.right some in record { side = side.side; indexes = side.indexes };
    })

module _ (state : State) (tables : Tables) (held : Held) (opens : List (Option Open)) (r : IsRunning state tables held opens) (c : JoinCursor) (w : IsWaitingJoin state held c) where
  one_readable : (k n : ℕ) → get_or held.relations k None ≡ Some c.right → n ≤ slots state.files c.right → (info : IndexInfo) → StandsAs held k c.right info → IsReadable state n info
  one_readable k n there few info s =
      subst (IsReadable state n) (sym s.is)
      (index_readable state tables s.slot s.index c.right n few (relation_there state tables held opens r k c.right there).holds (on_relation state tables held opens r k c.right there s.slot s.index s.there s.relation))

  readable : (k n : ℕ) → get_or held.relations k None ≡ Some c.right → n ≤ slots state.files c.right → (infos : List IndexInfo) → AllByRecursion (StandsAs held k c.right) infos → AreReadable state n infos
  readable k n there few [] h = tt
  readable k n there few (info ∷ infos) h = (one_readable k n there few info h.0, readable k n there few infos h.1)

  one_index : (k : ℕ) → get_or held.relations k None ≡ Some c.right → IsTrue state.tells → (info : IndexInfo) → StandsAs held k c.right info → IsInfoOf state tables (rows state.files c.right) info
  one_index k there told info s =
      subst (IsInfoOf state tables (rows state.files c.right)) (sym s.is)
      (index_complete state tables s.slot s.index c.right (relation_there state tables held opens r k c.right there).holds told (on_relation state tables held opens r k c.right there s.slot s.index s.there s.relation))

  indexes_right : (k : ℕ) → get_or held.relations k None ≡ Some c.right → IsTrue state.tells → (infos : List IndexInfo) → AllByRecursion (StandsAs held k c.right) infos → AreIndexesOf state tables (rows state.files c.right) infos
  indexes_right k there told [] h = tt
  indexes_right k there told (info ∷ infos) h = (one_index k there told info h.0, indexes_right k there told infos h.1)

  pub join_reads : MayReadPairs state c
  join_reads = record {
    left = λ some. let is = w.left some in (relation_there state tables held opens r is.slot c.left is.there).holds;
    left_slots = λ some. (w.left some).few;
    right = λ some. let is = (w.right some).side in (relation_there state tables held opens r is.slot c.right is.there).holds;
    right_slots = λ some. (w.right some).side.few;
    readable = λ some. let is = w.right some in readable is.side.slot c.right_slots is.side.there is.side.few c.right_indexes is.indexes;
    safe = λ some. subst (λ (o : Option Candidates). IsSafeInner o state) (sym w.rests) tt;
    inner = subst (λ (o : Option Candidates). HasSlots o c.right_slots) (sym w.rests) tt;
    within = w.within;
  }

  pub join_fits : IsTrue state.tells → FitsPairs c state tables
  join_fits told = record {
    indexes = λ some. let is = w.right some in indexes_right is.side.slot is.side.there told c.right_indexes is.indexes;
    inner = λ some. subst (λ (o : Option Candidates). FitsInner o state tables (rows state.files c.right)) (sym w.rests) tt;
    ahead = λ some left e. subst (λ (o : Option Candidates). HasAhead o (belongs (slice_get left c.left_on) c.right_on) (rows state.files c.right) c.from c.right_slots) (sym w.rests) tt;
  }
