-- What candidates have ahead, where rows come behind the others.
use Rattle.std.proofs.Common.{◌≡◌, ℕ, zero, suc, ◌+◌, ◌-◌, ◌<◌, ◌≤◌, Bool, ℤ, List, [], ◌∷◌, ◌++◌, length, get_or, take, drop, filter, Option, inl, inr, refl, ap, sym, ◌∙◌, subst, arith}
use Rattle.std.proofs.lemmas.List.{ext_get_or, get_or-take, length-take-le, take-append-drop}
use Rattle.std.specs.List.{range_with_len}
use Rattle.afl_base.specs.Files.{State, bytes_at}
use Rattle.db_model.specs.Plan.{lies_in}
use Rattle.db_model.specs.Row.{Row, no_row}
use Rattle.db_model.specs.Step.{keys}
use Rattle.index_maxheap.specs.declared.places.Place.{Place}
use Rattle.index_maxheap.specs.Searches.{IsPlaceOf}
use Rattle.index_maxheap.proofs.Good.{good_inserts}
use Rattle.index_set.specs.declared.candidates.Candidates.{Candidates}
use Rattle.index_set.specs.declared.candidates.Search.{Search}
use Rattle.index_set.specs.declared.candidates.Search.TheVariants as by
use Rattle.index_set.specs.declared.info.Access.{Access}
use Rattle.index_set.specs.declared.info.Access.TheVariants.{Tree, Table as InTable}
use Rattle.index_set.specs.declared.info.IndexInfo.{IndexInfo}
use Rattle.index_set.specs.declared.info.TableId.{TableId}
use Rattle.index_set.specs.Complete.{AreComplete, IsComplete, key_at_place}
use Rattle.index_set.specs.Inserts.{AllKeepBuckets, KeepsBuckets, SomeOf}
use Rattle.index_set.specs.Tables.{Tables, entries}
use Rattle.index_tree.specs.Places.{KeepsNumbers}
use Rattle.index_tree.specs.Trees.{IsTreeOf}
use Rattle.index_set.specs.Walks.{Fits, HasGrown, HasIndex, IsChosen, KnowsRows, RowsGrow, Waits, ahead, search_takes}
use Rattle.padded.proofs.Facts.{cond_alike}

-- the slots that pass a test, where the test is the same
pub tests_same : (f g : ℕ → Bool) (a n m : ℕ) → a + n ≤ m → ((i : ℕ) → i < m → f i ≡ g i) → filter f (range_with_len a n) ≡ filter g (range_with_len a n)
tests_same f g a zero m h same = refl
tests_same f g a (suc n) m h same =
    cond_alike (f a) (g a) (same a (omega arith)) a (filter f (range_with_len (a + 1) n)) (filter g (range_with_len (a + 1) n))
    (tests_same f g (a + 1) n m (omega arith) same)

pub ahead_kept : (c : Candidates) (old new : List Row) → RowsGrow old new → Waits c old → ahead c new ≡ ahead c old
ahead_kept c old new grow w =
    tests_same (λ slot. search_takes c.search (get_or new slot no_row)) (λ slot. search_takes c.search (get_or old slot no_row))
    c.from (c.slots - c.from) (length old) (omega (arith, w.few, c.order, c.within))
    (λ i below. ap (search_takes c.search) (grow.same i below))

knows_kept : (s : Search) (old new : List Row) (from end slots : ℕ) → RowsGrow old new → end ≤ slots → slots ≤ length old → KnowsRows s old from end slots → KnowsRows s new from end slots
knows_kept (by.Order attribute range) old new from end slots grow within few k = (
  λ i a b. ap (λ (r : Row). lies_in range (key_at_place attribute r)) (grow.same i (omega arith)) ∙ k.0 i a b,
  λ i a b. ap (λ (r : Row). lies_in range (key_at_place attribute r)) (grow.same i (omega arith)) ∙ k.1 i a b,
)
knows_kept by.Nothing old new from end slots grow within few k = k
knows_kept by.Scan old new from end slots grow within few k = k
knows_kept (by.Tree attribute file key) old new from end slots grow within few k = k
knows_kept (by.Table attribute number key) old new from end slots grow within few k = k

pub waits_kept : (c : Candidates) (old new : List Row) → RowsGrow old new → Waits c old → Waits c new
waits_kept c old new grow w = record {
  few = omega (arith, w.few, grow.more);
  knows = knows_kept c.search old new c.from c.end c.slots grow c.within w.few w.knows;
}

-- ---- inserts

keys_joined : (attribute : ℕ) (xs ys : List Row) → keys attribute (xs ++ ys) ≡ keys attribute xs ++ keys attribute ys
keys_joined attribute [] ys = refl
keys_joined attribute (row ∷ xs) ys = ap (λ (ks : List ℤ). key_at_place attribute row ∷ ks) (keys_joined attribute xs ys)

-- rows that have come stand behind the others
rows_behind : (old new : List Row) → RowsGrow old new → new ≡ old ++ drop (length old) new
rows_behind old new grow =
    let size = length-take-le (length old) new grow.more in
    let front : take (length old) new ≡ old = ext_get_or no_row (take (length old) new) old size
    (λ i h. get_or-take (length old) new i no_row (omega (arith, h, size)) ∙ grow.same i (omega (arith, h, size))) in
    sym (take-append-drop (length old) new) ∙ ap (λ (rows : List Row). rows ++ drop (length old) new) front

keys_behind : (attribute : ℕ) (old new : List Row) → RowsGrow old new → keys attribute old ++ keys attribute (drop (length old) new) ≡ keys attribute new
keys_behind attribute old new grow = sym (keys_joined attribute old (drop (length old) new)) ∙ ap (keys attribute) (sym (rows_behind old new grow))

index_kept : (s : Search) (place : Option Place) (before now : State) (tables tables_now : Tables) (old new : List Row) (from : ℕ) → RowsGrow old new → HasGrown s before now tables_now new → HasIndex s place before tables old from → HasIndex s place now tables_now new from
index_kept by.Nothing place before now tables tables_now old new from grow grown index = tt
index_kept by.Scan place before now tables tables_now old new from grow grown index = tt
index_kept (by.Order attribute range) place before now tables tables_now old new from grow grown index = tt
index_kept (by.Tree attribute file key) place before now tables tables_now old new from grow grown index = (
  grown.0,
  subst (λ (ks : List ℤ). IsPlaceOf (bytes_at now.files file) ks key from place) (keys_behind attribute old new grow)
      (good_inserts (bytes_at before.files file) (bytes_at now.files file) (keys attribute old) (keys attribute (drop (length old) new)) key from place grown.1 index.1),
)
index_kept (by.Table attribute number key) place before now tables tables_now old new from grow grown index = grown

pub fits_kept : (c : Candidates) (before now : State) (tables tables_now : Tables) (old new : List Row) → RowsGrow old new → HasGrown c.search before now tables_now new → Fits c before tables old → Fits c now tables_now new
fits_kept c before now tables tables_now old new grow grown fits = record {
  waits = waits_kept c old new grow fits.waits;
  index = λ some. index_kept c.search c.place before now tables tables_now old new c.from grow grown (fits.index some);
}

-- ---- the index of a search, in a list

module _ (before now : State) (tables : Tables) (all : List Row) (attribute : ℕ) where
  tree_grown : (file : ℕ) (infos : List IndexInfo) → SomeOf (λ info. (info.attribute ≡ attribute) × (info.access ≡ Tree file)) infos → AreComplete now tables all infos → AllKeepBuckets before now infos
      → IsTreeOf (bytes_at now.files file) (keys attribute all) × KeepsNumbers (bytes_at before.files file) (bytes_at now.files file)
  tree_grown file [] some whole kept = absurd some
  tree_grown file (info ∷ infos) (inl here) whole kept =
      let C : Access → Type 0 = λ access. IsComplete now tables access (keys info.attribute all) in
      let K : Access → Type 0 = λ access. KeepsBuckets before now access in
      let A : ℕ → Type 0 = λ place. IsTreeOf (bytes_at now.files file) (keys place all) in
      (subst A here.0 (subst C here.1 whole.0), subst K here.1 kept.0)
  tree_grown file (info ∷ infos) (inr rest) whole kept = tree_grown file infos rest whole.1 kept.1

  table_grown : (number : TableId) (infos : List IndexInfo) → SomeOf (λ info. (info.attribute ≡ attribute) × (info.access ≡ InTable number)) infos → AreComplete now tables all infos
      → entries tables number ≡ keys attribute all
  table_grown number [] some whole = absurd some
  table_grown number (info ∷ infos) (inl here) whole =
      let C : Access → Type 0 = λ access. IsComplete now tables access (keys info.attribute all) in
      let A : ℕ → Type 0 = λ place. entries tables number ≡ keys place all in
      subst A here.0 (subst C here.1 whole.0)
  table_grown number (info ∷ infos) (inr rest) whole = table_grown number infos rest whole.1

pub grown_chosen : (s : Search) (infos : List IndexInfo) (before now : State) (tables : Tables) (all : List Row) → IsChosen s infos → AreComplete now tables all infos → AllKeepBuckets before now infos → HasGrown s before now tables all
grown_chosen by.Nothing infos before now tables all chosen whole kept = tt
grown_chosen by.Scan infos before now tables all chosen whole kept = tt
grown_chosen (by.Order attribute range) infos before now tables all chosen whole kept = tt
grown_chosen (by.Tree attribute file key) infos before now tables all chosen whole kept = tree_grown before now tables all attribute file infos chosen whole kept
grown_chosen (by.Table attribute number key) infos before now tables all chosen whole kept = table_grown before now tables all attribute number infos chosen whole
