-- The next of the slots that a search has ahead.
use Rattle.std.proofs.Common.{◌≡◌, ◌≤◌, ◌<◌, ◌+◌, ◌*◌, ◌⊎◌, inl, inr, ℕ, ℤ, zero, suc, List, [], ◌∷◌, length, get_or, true, false, Option, Some, None, refl, arith, ap, ◌∙◌, sym, subst}
use Rattle.std.specs.Prelude.{Result, Ok, Err, IfOk, OnOk, MatchOption}
use Rattle.std.proofs.Math.Logic.{⊎_elim}
use Rattle.std.specs.Ordering.{int_eq}
use Rattle.afl_base.specs.declared.failed.Failed.{Failed}
use Rattle.afl_base.specs.Files.{State}
use Rattle.db_model.specs.declared.schemas.Range.{Range}
use Rattle.db_model.specs.Cost.{keys_beside}
use Rattle.db_model.specs.Row.{Row, no_row}
use Rattle.db_model.specs.Step.{keys}
use Rattle.index_set.proofs.Inserted.{keys_count as length_keys}
use Rattle.index_set.specs.declared.candidates.Candidates.{Candidates}
use Rattle.index_set.specs.declared.candidates.Search.{Search}
use Rattle.index_set.specs.declared.candidates.Search.TheVariants as by
use Rattle.index_set.specs.declared.info.TableId.{TableId}
use Rattle.index_set.specs.Complete.{key_at_place}
use Rattle.index_set.specs.Tables.{Tables, entries}
use Rattle.index_maxheap.specs.Searches.{walk_left}
use Rattle.afl_base.specs.Keys.{IsFirstOf}
use Rattle.index_set.specs.Walks.{Advances, FindsAhead, Fits, LacksKey, HasIndex, HasPlace, IsMoved, IsMovedBy, KnowsRows, Waits, ahead, reads_ahead, reads_by, slots_searched, search_takes}
use Rattle.index_set.proofs.Seeks.{key_of_slot}
use Rattle.index_set.proofs.Slots.{between_first, between_none}

over_or_some : (from slots : ℕ) → (slots ≤ from) ⊎ (from < slots)
over_or_some from zero = inl (omega arith)
over_or_some zero (suc slots) = inr (omega arith)
over_or_some (suc from) (suc slots) = ⊎_elim (λ h. inl (omega (arith, h))) (λ h. inr (omega (arith, h))) (over_or_some from slots)

-- ---- what is ahead

pub ahead_by : (new old : Candidates) (rows : List Row) (from : ℕ) → new.search ≡ old.search → new.slots ≡ old.slots → new.from ≡ from → ahead new rows ≡ slots_searched old.search rows from old.slots
ahead_by new old rows from a b e = rw (a, b, e) refl

pub ahead_none : (c : Candidates) (rows : List Row) → ((i : ℕ) → c.from ≤ i → i < c.slots → search_takes c.search (get_or rows i no_row) ≡ false) → ahead c rows ≡ []
ahead_none c rows fails = between_none (λ slot. search_takes c.search (get_or rows slot no_row)) c.from c.slots fails

pub ahead_first : (new old : Candidates) (rows : List Row) (slot : ℕ) → new.search ≡ old.search → new.slots ≡ old.slots → new.from ≡ slot + 1 → old.from ≤ slot → slot < old.slots
    → search_takes old.search (get_or rows slot no_row) ≡ true → ((i : ℕ) → old.from ≤ i → i < slot → search_takes old.search (get_or rows i no_row) ≡ false) → ahead old rows ≡ slot ∷ ahead new rows
ahead_first new old rows slot a b e order below here before =
    between_first (λ i. search_takes old.search (get_or rows i no_row)) old.from slot old.slots order below here before
    ∙ ap (λ (xs : List ℕ). slot ∷ xs) (sym (ahead_by new old rows (slot + 1) a b e))

pub nothing_ahead : (c : Candidates) (rows : List Row) → c.search ≡ by.Nothing → ahead c rows ≡ []
nothing_ahead c rows e = ahead_none c rows (λ i a b. ap (λ (s : Search). search_takes s (get_or rows i no_row)) e)

-- ---- in order

pub order_next : (old new : Candidates) (state : State) (tables : Tables) (rows : List Row) (attribute : ℕ) (range : Range) (r : Option ℕ) → old.search ≡ by.Order attribute range → Fits old state tables rows
    → MatchOption r (old.end ≤ old.from) (λ slot. (slot ≡ old.from) × (slot < old.end)) → IsMoved r old new → MatchOption r (new.end ≡ old.end) (λ slot. new.end ≡ old.end)
    → FindsAhead r old new state tables rows
order_next old new state tables rows attribute range None is fits found moved end =
    let K : Search → Type 0 = λ s. KnowsRows s rows old.from old.end old.slots in
    let knows = subst K is fits.waits.knows in
    ahead_none old rows (λ i a b. ap (λ (s : Search). search_takes s (get_or rows i no_row)) is ∙ knows.1 i (omega (arith, found, a)) b)
order_next old new state tables rows attribute range (Some slot) is fits found moved end =
    let K : Search → Type 0 = λ s. KnowsRows s rows old.from old.end old.slots in
    let knows = subst K is fits.waits.knows in
    let within = old.within in
    let few = fits.waits.few in
    let at = found.0 in
    let below = found.1 in
    let from = moved.0 in
    let slots = moved.1 in
    let searched : new.search ≡ by.Order attribute range = moved.2 ∙ is in
    let N : Search → Type 0 = λ s. KnowsRows s rows new.from new.end new.slots in
    let I : Search → Type 0 = λ s. HasIndex s new.place state tables rows new.from in (
      ahead_first new old rows slot moved.2 slots from (omega (arith, at)) (omega (arith, below, within))
          (ap (λ (s : Search). search_takes s (get_or rows slot no_row)) is ∙ knows.0 slot (omega (arith, at)) below) (λ i a b. absurd (omega (arith, at, a, b))),
      record {
        waits = record {
          few = omega (arith, few, slots);
          knows = subst N (sym searched) (λ i a b. knows.0 i (omega (arith, a, from, at)) (omega (arith, b, end)), λ i a b. knows.1 i (omega (arith, a, end)) (omega (arith, b, slots)));
        };
        index = λ _. subst I (sym searched) tt;
      },
    )

-- ---- by a key

-- what a search for a key has found, over rows
module _ (old new : Candidates) (rows : List Row) (attribute : ℕ) (key : ℤ) (same : (i : ℕ) → search_takes old.search (get_or rows i no_row) ≡ int_eq (key_at_place attribute (get_or rows i no_row)) key) where
  pub lacks_ahead : LacksKey key (keys attribute rows) old.from old.slots → ahead old rows ≡ []
  lacks_ahead lacks = ahead_none old rows (λ i a b. same i ∙ sym (key_of_slot attribute key rows i) ∙ lacks i a b)

  pub found_ahead : (slot : ℕ) → IsMovedBy (Some slot) old new → IsFirstOf key (keys attribute rows) old.from slot → ahead old rows ≡ slot ∷ ahead new rows
  found_ahead slot moved first =
      ahead_first new old rows slot moved.3 moved.2 moved.0 first.order (moved.5)
      (same slot ∙ sym (key_of_slot attribute key rows slot) ∙ first.here) (λ i a b. same i ∙ sym (key_of_slot attribute key rows i) ∙ first.before i a b)

pub moved_waits : (old new : Candidates) (rows : List Row) (slot : ℕ) → IsMovedBy (Some slot) old new → Waits old rows → KnowsRows new.search rows new.from new.end new.slots → Waits new rows
moved_waits old new rows slot moved waits knows = (let few = waits.few in let slots = moved.2 in record { few = omega (arith, few, slots); knows = knows })

pub no_slots : (c : Candidates) (rows : List Row) → c.slots ≤ c.from → ahead c rows ≡ []
no_slots c rows none = ahead_none c rows (λ i a b. absurd (omega (arith, none, a, b)))

module _ (old new : Candidates) (state : State) (tables : Tables) (rows : List Row) (attribute file : ℕ) (key : ℤ) (is : old.search ≡ by.Tree attribute file key) (fits : Fits old state tables rows) where
  tests : (i : ℕ) → search_takes old.search (get_or rows i no_row) ≡ int_eq (key_at_place attribute (get_or rows i no_row)) key
  tests i = ap (λ (s : Search). search_takes s (get_or rows i no_row)) is

  placed : old.from < old.slots → HasPlace state file key (keys attribute rows) old
  placed some = let I : Search → Type 0 = λ s. HasIndex s old.place state tables rows old.from in subst I is (fits.index some)

  enough : old.slots ≤ length (keys attribute rows)
  enough = let few = fits.waits.few in let same = length_keys attribute rows in omega (arith, few, same)

  tree_option : (r : Option ℕ) → (HasPlace state file key (keys attribute rows) old → old.slots ≤ length (keys attribute rows)
      → MatchOption r (LacksKey key (keys attribute rows) old.from old.slots) (λ slot. IsFirstOf key (keys attribute rows) old.from slot × HasPlace state file key (keys attribute rows) new))
      → IsMovedBy r old new → FindsAhead r old new state tables rows
  tree_option None found moved = ⊎_elim (λ none. no_slots old rows none) (λ some. lacks_ahead old new rows attribute key tests (found (placed some) enough)) (over_or_some old.from old.slots)
  tree_option (Some slot) found moved =
      let order = moved.4 in
      let below = moved.5 in
      let h = found (placed (omega (arith, order, below))) enough in
      let searched : new.search ≡ by.Tree attribute file key = moved.3 ∙ is in
      let N : Search → Type 0 = λ s. KnowsRows s rows new.from new.end new.slots in
      let I : Search → Type 0 = λ s. HasIndex s new.place state tables rows new.from in (
        found_ahead old new rows attribute key tests slot moved h.0,
        record { waits = moved_waits old new rows slot moved fits.waits (subst N (sym searched) tt); index = λ _. subst I (sym searched) h.1 },
      )

  abbrev pub walk_of : Candidates → ℕ
  walk_of c = walk_left (keys_beside key (keys attribute rows)) c.place

  left : (c : Candidates) → c.search ≡ by.Tree attribute file key → reads_ahead c rows ≡ 15 + walk_left (keys_beside key (keys attribute rows)) c.place + 9 * (length (ahead c rows) + 1)
  left c e = ap (λ (s : Search). reads_by s c.place rows (length (ahead c rows))) e ∙ omega arith

  pub tree_result : (r : Result (Option ℕ) Failed) → IfOk r (λ found. (ks : List ℤ) → HasPlace state file key ks old → old.slots ≤ length ks
      → MatchOption found (LacksKey key ks old.from old.slots) (λ slot. IsFirstOf key ks old.from slot × HasPlace state file key ks new))
      → IfOk r (λ found. IsMovedBy found old new) → IfOk r (λ found. FindsAhead found old new state tables rows)
  tree_result (Ok found) h moved = tree_option found (h (keys attribute rows)) moved
  tree_result (Err e) h moved = tt

  spent : (before after : ℕ) (found : Option ℕ) → IsMovedBy found old new
      → FindsAhead found old new state tables rows
      → MatchOption found (after + walk_of new ≤ before + walk_of old) (λ _. after + walk_of new ≤ before + walk_of old + 9)
      → after + reads_ahead new rows ≤ before + reads_ahead old rows
  spent before after None moved next h =
      let same : ahead new rows ≡ ahead old rows = ahead_by new old rows old.from moved.3 moved.2 moved.0 in
      let n : length (ahead new rows) ≡ length (ahead old rows) = ap (λ (xs : List ℕ). length xs) same in
      let a = left old is in
      let b = left new (moved.3 ∙ is) in
      omega (arith, a, b, n, h)
  spent before after (Some slot) moved next h =
      let n : length (ahead old rows) ≡ length (ahead new rows) + 1 = ap (λ (xs : List ℕ). length xs) next.0 ∙ omega arith in
      let a = left old is in
      let b = left new (moved.3 ∙ is) in
      omega (arith, a, b, n, h)

  pub tree_reads : (before after : ℕ) (r : Result (Option ℕ) Failed) → (old.slots ≤ old.from → after ≡ before) → (old.slots ≤ old.from → new ≡ old) → IfOk r (λ found. IsMovedBy found old new)
      → IfOk r (λ found. FindsAhead found old new state tables rows)
      → (HasPlace state file key (keys attribute rows) old → old.slots ≤ length (keys attribute rows)
      → IfOk r (λ found. MatchOption found (after + walk_of new ≤ before + walk_of old) (λ _. after + walk_of new ≤ before + walk_of old + 9)))
      → OnOk r (after + reads_ahead new rows ≤ before + reads_ahead old rows)
  tree_reads before after (Ok found) unread over moved next h =
      ⊎_elim
      (λ none. let n = ap (λ (c : Candidates). reads_ahead c rows) (over none) in let m = unread none in omega (arith, n, m))
      (λ some. spent before after found moved next (h (placed some) enough))
      (over_or_some old.from old.slots)
  tree_reads before after (Err e) unread over moved next h = tt

-- ---- by a table

module _ (old new : Candidates) (state : State) (tables : Tables) (rows : List Row) (attribute : ℕ) (number : TableId) (key : ℤ) (is : old.search ≡ by.Table attribute number key) (fits : Fits old state tables rows) where
  trials : (i : ℕ) → search_takes old.search (get_or rows i no_row) ≡ int_eq (key_at_place attribute (get_or rows i no_row)) key
  trials i = ap (λ (s : Search). search_takes s (get_or rows i no_row)) is

  entered : old.from < old.slots → entries tables number ≡ keys attribute rows
  entered some = let I : Search → Type 0 = λ s. HasIndex s old.place state tables rows old.from in subst I is (fits.index some)

  reached : entries tables number ≡ keys attribute rows → old.slots ≤ length (entries tables number)
  reached e = let few = fits.waits.few in let n = length_keys attribute rows in let m : length (entries tables number) ≡ length (keys attribute rows) = ap (λ (xs : List ℤ). length xs) e in omega (arith, few, n, m)

  pub table_next : (r : Option ℕ) → (old.slots ≤ length (entries tables number) → MatchOption r (LacksKey key (entries tables number) old.from old.slots) (λ slot. IsFirstOf key (entries tables number) old.from slot))
      → IsMovedBy r old new → FindsAhead r old new state tables rows
  table_next None found moved =
      ⊎_elim (λ none. no_slots old rows none)
      (λ some. let e = entered some in let P : List ℤ → Type 0 = λ ks. LacksKey key ks old.from old.slots in lacks_ahead old new rows attribute key trials (subst P e (found (reached e))))
      (over_or_some old.from old.slots)
  table_next (Some slot) found moved =
      let order = moved.4 in
      let below = moved.5 in
      let e = entered (omega (arith, order, below)) in
      let P : List ℤ → Type 0 = λ ks. IsFirstOf key ks old.from slot in
      let searched : new.search ≡ by.Table attribute number key = moved.3 ∙ is in
      let N : Search → Type 0 = λ s. KnowsRows s rows new.from new.end new.slots in
      let I : Search → Type 0 = λ s. HasIndex s new.place state tables rows new.from in (
        found_ahead old new rows attribute key trials slot moved (subst P e (found (reached e))),
        record { waits = moved_waits old new rows slot moved fits.waits (subst N (sym searched) tt); index = λ _. subst I (sym searched) e },
      )

-- ---- whatever the rows

module _ (old new : Candidates) (state : State) (tables : Tables) (attribute file : ℕ) (key : ℤ) (is : old.search ≡ by.Tree attribute file key) where
  pub tree_all : (r : Result (Option ℕ) Failed) → IfOk r (λ found. (ks : List ℤ) → HasPlace state file key ks old → old.slots ≤ length ks
      → MatchOption found (LacksKey key ks old.from old.slots) (λ slot. IsFirstOf key ks old.from slot × HasPlace state file key ks new))
      → IfOk r (λ found. IsMovedBy found old new)
      → IfOk r (λ found. (rows : List Row) → Fits old state tables rows → FindsAhead found old new state tables rows)
  tree_all (Ok found) h moved = λ rows fits. tree_result old new state tables rows attribute file key is fits (Ok found) h moved
  tree_all (Err e) h moved = tt

  pub reads_all : (before after : ℕ) (r : Result (Option ℕ) Failed) → (old.slots ≤ old.from → after ≡ before) → (old.slots ≤ old.from → new ≡ old)
      → IfOk r (λ found. (ks : List ℤ) → HasPlace state file key ks old → old.slots ≤ length ks
      → MatchOption found (LacksKey key ks old.from old.slots) (λ slot. IsFirstOf key ks old.from slot × HasPlace state file key ks new))
      → IfOk r (λ found. IsMovedBy found old new)
      → ((ks : List ℤ) → HasPlace state file key ks old → old.slots ≤ length ks
      → IfOk r (λ found. MatchOption found (after + walk_left (keys_beside key ks) new.place ≤ before + walk_left (keys_beside key ks) old.place) (λ _. after + walk_left (keys_beside key ks) new.place ≤ before + walk_left (keys_beside key ks) old.place + 9)))
      → OnOk r ((rows : List Row) → Fits old state tables rows → after + reads_ahead new rows ≤ before + reads_ahead old rows)
  reads_all before after (Ok found) unread over h moved spends = λ rows fits.
      tree_reads old new state tables rows attribute file key is fits before after (Ok found) unread over moved (tree_result old new state tables rows attribute file key is fits (Ok found) h moved) (spends (keys attribute rows))
  reads_all before after (Err e) unread over h moved spends = tt

-- ---- what is known of the rows

-- whatever the rows, a search that knows nothing of them
module _ (old new : Candidates) (s : Search) (is : old.search ≡ s) (free : (rows : List Row) (from end slots : ℕ) → KnowsRows s rows from end slots) where
  known : new.search ≡ old.search → (rows : List Row) → KnowsRows new.search rows new.from new.end new.slots
  known same rows = subst (λ (t : Search). KnowsRows t rows new.from new.end new.slots) (sym (same ∙ is)) (free rows new.from new.end new.slots)

  pub advances_by : (r : Option ℕ) → IsMovedBy r old new → Advances r old new
  advances_by None moved = record {
    search = moved.3;
    slots = moved.2;
    below = tt;
    forward = tt;
    waits = λ rows w. (let few = w.few in let slots = moved.2 in record { few = omega (arith, few, slots); knows = known moved.3 rows });
  }
  advances_by (Some slot) moved = record {
    search = moved.3;
    slots = moved.2;
    below = moved.5;
    forward = (moved.4, moved.0);
    waits = λ rows w. moved_waits old new rows slot moved w (known moved.3 rows);
  }

  pub advances_all : (r : Result (Option ℕ) Failed) → IfOk r (λ found. IsMovedBy found old new) → IfOk r (λ found. Advances found old new)
  advances_all (Ok found) moved = advances_by found moved
  advances_all (Err e) moved = tt

-- in the order of the slots, up to an end
pub advances_below : (old new : Candidates) (r : Option ℕ) (end : ℕ) → end ≤ old.slots → MatchOption r (end ≤ old.from) (λ slot. (slot ≡ old.from) × (slot < end)) → IsMoved r old new → MatchOption r (new.end ≡ old.end) (λ slot. new.end ≡ end)
    → ((rows : List Row) → Waits old rows → (from : ℕ) → old.from ≤ from → KnowsRows old.search rows from end old.slots) → Advances r old new
advances_below old new None end short found moved stop knows = record {
  search = ap (λ (c : Candidates). c.search) moved;
  slots = ap (λ (c : Candidates). c.slots) moved;
  below = tt;
  forward = tt;
  waits = λ rows w. subst (λ (c : Candidates). Waits c rows) (sym moved) w;
}
advances_below old new (Some slot) end short found moved stop knows =
    let at = found.0 in
    let below = found.1 in
    let from = moved.0 in
    let slots = moved.1 in
    record {
      search = moved.2;
      slots = slots;
      below = omega (arith, below, short);
      forward = (omega (arith, at), from);
      waits = λ rows w.
          let few = w.few in
          let known : KnowsRows old.search rows new.from end old.slots = knows rows w new.from (omega (arith, from, at)) in
          record {
            few = omega (arith, few, slots);
            knows = subst (λ (t : Search). KnowsRows t rows new.from new.end new.slots) (sym moved.2)
                (subst (λ (n : ℕ). KnowsRows old.search rows new.from n new.slots) (sym stop) (subst (λ (n : ℕ). KnowsRows old.search rows new.from end n) (sym slots) known));
          };
    }

pub order_known : (c : Candidates) (attribute : ℕ) (range : Range) → c.search ≡ by.Order attribute range → (rows : List Row) → Waits c rows → (from : ℕ) → c.from ≤ from → KnowsRows c.search rows from c.end c.slots
order_known c attribute range is rows w from h =
    let knows = subst (λ (s : Search). KnowsRows s rows c.from c.end c.slots) is w.knows in
    subst (λ (s : Search). KnowsRows s rows from c.end c.slots) (sym is) (λ i a b. knows.0 i (omega (arith, h, a)) b, λ i a b. knows.1 i a b)

pub scan_known : (c : Candidates) → c.search ≡ by.Scan → (rows : List Row) → Waits c rows → (from : ℕ) → c.from ≤ from → KnowsRows c.search rows from c.slots c.slots
scan_known c is rows w from h = subst (λ (s : Search). KnowsRows s rows from c.slots c.slots) (sym is) tt
