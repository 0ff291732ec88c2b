-- FETCH of the cursor at a place.
use Rattle.std.proofs.Common.{◌≡◌, ◌≤◌, ℕ, zero, suc, ◌+◌, ℤ, Bool, true, false, cond, List, [], ◌∷◌, map, set, take, drop, get_or, Option, Some, None, refl, ap, sym, subst, ◌∙◌, arith, Ok, Err}
use Rattle.std.specs.Prelude.{option_map}
use Rattle.std.specs.Option.{option_map_or}
use Rattle.std.specs.Str.{bytes_eq}
use Rattle.std.proofs.lemmas.List.{set-set}
use Rattle.std.proofs.lemmas.Slice.Eq.{bytes_eq-Decides}
use Rattle.afl_base.specs.Files.{State, Table}
use Rattle.db_model.specs.declared.commands.Command.TheVariants as command
use Rattle.db_model.specs.declared.refusals.Refusal.TheVariants as no
use Rattle.db_model.specs.declared.values.Value.{Value}
use Rattle.db_model.specs.Ahead.{Ahead, ahead_of, aheads_after, cost_of, fetch_cost, fetched, next_passed, rows_named, with_ahead}
use Rattle.db_model.specs.Database.{Cursor, Database, Relation, cursor_place, relation_from, with_cursor}
use Rattle.db_model.specs.Refusing.{◌>>=◌}
use Rattle.db_model.specs.Sound.{IsSoundDatabase}
use Rattle.db_model.specs.Step.{Outcome, Refused, Rows, open_cursor_of, outcome, replied, step}
use Rattle.index_set.specs.Tables.{Tables}
use Rattle.tuple_file.specs.declared.tuples.Tuples.{Tuples}
use Rattle.tuple_file.specs.Tuples.{rows}
use Rattle.session_model.specs.declared.held.Held.{Held}
use Rattle.session_model.specs.declared.held.Open.{Open}
use Rattle.session_model.specs.declared.held.Open.TheVariants.{Select, Join}
use Rattle.session_model.specs.Aheads.{ahead_in, aheads_of}
use Rattle.session_model.specs.Running.{IsCursorSlot, IsRunning}
use Rattle.session_model.specs.View.{cursor_in, relation_of_rows, view}
use Rattle.session_model.proofs.Joins.{join_fits, join_reads}
use Rattle.session_model.proofs.Opens.{cursor_view}
use Rattle.session_model.proofs.Selects.{select_fits, select_reads}
use Rattle.session_cursors.specs.Fetched.{CanFetch, FindsRows, fetch_price}
use Rattle.session_cursors.proofs.Places.{ahead_set, ahead_there, aheads_put, done_costs, done_moves, is_open_in, mapped_at, refused_stays}

-- ---- the cursor may go on

module _ (state : State) (tables : Tables) (held : Held) (opens : List (Option Open)) (r : IsRunning state tables held opens) where
  pub can_fetch : (o : Open) → IsCursorSlot state held (Some o) → CanFetch state tables o
  can_fetch (Select o) w = record {
    rests = w.rests;
    may_read = select_reads state tables held opens r o.cursor w;
    fits = λ told. select_fits state tables held opens r o.cursor w told;
  }
  can_fetch (Join o) w = record {
    rests = w.rests;
    may_read = join_reads state tables held opens r o.cursor w;
    fits = λ told. join_fits state tables held opens r o.cursor w told;
  }

-- ---- a cursor that was taken from its slot is put back

pub put_back : {s u : State} (P : State → List (Option Open) → Type 0) (opens : List (Option Open)) (place : ℕ) (taken put : Option Open) → u ≡ s → P s (set opens place put) → P u (set (set opens place taken) place put)
put_back {s = s} P opens place taken put same p =
    subst (λ (z : State). P z (set (set opens place taken) place put)) (sym same) (subst (λ (os : List (Option Open)). P s os) (sym (set-set opens place taken put)) p)

-- ---- the relation of a name

found_step : (name : List ℕ) (n k : ℕ) (q r : Relation) (slots : List (Option Relation)) (b : Bool) → (b ≡ true → 0 ≡ suc k) → relation_from name (n + 1) slots ≡ Some (n + suc k, r)
    → cond b (Some (n, q)) (relation_from name (n + 1) slots) ≡ Some (n + suc k, r)
found_step name n k q r slots true same e = absurd (omega (arith, same refl))
found_step name n k q r slots false same e = e

-- the slot in which it stands is the first of its name, where no two have one name
found_first : (name : List ℕ) (n k : ℕ) (r : Relation) (slots : List (Option Relation)) → get_or slots k None ≡ Some r → bytes_eq r.schema.name name ≡ true
    → ((j : ℕ) (q : Relation) → get_or slots j None ≡ Some q → bytes_eq q.schema.name name ≡ true → j ≡ k) → relation_from name n slots ≡ Some (n + k, r)
found_first name n k r [] e same only = absurd (cc)
found_first name n zero r (o ∷ slots) e same only =
    let here : n ≡ n + 0 = omega arith in
    ap (λ (p : Option Relation). relation_from name n (p ∷ slots)) e
    ∙ ap (λ (b : Bool). cond b (Some (n, r)) (relation_from name (n + 1) slots)) same
    ∙ ap (λ (m : ℕ). Some (m, r)) here
found_first name n (suc k) r (None ∷ slots) e same only =
    let next : n + 1 + k ≡ n + suc k = omega arith in
    found_first name (n + 1) k r slots e same (λ j q f g. let h = only (suc j) q f g in omega (arith, h)) ∙ ap (λ (m : ℕ). Some (m, r)) next
found_first name n (suc k) r (Some q ∷ slots) e same only =
    let next : n + 1 + k ≡ n + suc k = omega arith in
    found_step name n k q r slots (bytes_eq q.schema.name name) (λ g. only 0 q refl g)
    (found_first name (n + 1) k r slots e same (λ j q f g. let h = only (suc j) q f g in omega (arith, h)) ∙ ap (λ (m : ℕ). Some (m, r)) next)

module _ (files : Table) (held : Held) (opens : List (Option Open)) (sound : IsSoundDatabase (view files held opens)) where
  -- the relation that is held in a slot is found by its name
  pub named_rows : (k : ℕ) (t : Tuples) → get_or held.relations k None ≡ Some t → rows_named (view files held opens) t.schema.name ≡ rows files t
  named_rows k t there =
      let slots : List (Option Relation) = map (option_map (relation_of_rows files)) held.relations in
      let stands : get_or slots k None ≡ Some (relation_of_rows files t) = mapped_at (relation_of_rows files) held.relations k (Some t) there in
      let found : relation_from t.schema.name 0 slots ≡ Some (0 + k, relation_of_rows files t) =
      found_first t.schema.name 0 k (relation_of_rows files t) slots stands ((bytes_eq-Decides t.schema.name t.schema.name).1 refl)
      (λ j q e same. sound.names j k q (relation_of_rows files t) e stands ((bytes_eq-Decides q.schema.name t.schema.name).0 same)) in
      ap (λ (o : Option (ℕ × Relation)). option_map_or (λ s. s.1.rows) o []) found

  pub finds_rows : (state : State) (o : Open) → state.files ≡ files → IsCursorSlot state held (Some o) → FindsRows (view files held opens) files o
  finds_rows state (Select o) same w = λ some. let is = w.goes_on some in named_rows is.slot o.cursor.tuples is.there
  finds_rows state (Join o) same w = λ left right.
      let l = w.left left in
      let s = (w.right right).side in
      (named_rows l.slot o.cursor.left l.there, named_rows s.slot o.cursor.right s.there)

-- ---- the step

-- what FETCH makes of the cursor that is found
abbrev fetching : Database → (ℕ × Cursor) → Outcome
fetching db c = Ok (with_cursor db c.0 (Some (record c.1 { rows = drop 1 c.1.rows })), Rows (take 1 c.1.rows))

module _ (files : Table) (held : Held) (opens : List (Option Open)) (number : ℤ) where
  pub fetch_refused : open_cursor_of (view files held opens) number ≡ Err no.NoCursor → outcome (view files held opens) (command.FetchCursor number) ≡ Err no.NoCursor
  fetch_refused e = ap (λ r. ◌>>=◌ r (fetching (view files held opens))) e

  pub step_refused : open_cursor_of (view files held opens) number ≡ Err no.NoCursor → step (view files held opens) (command.FetchCursor number) ≡ (view files held opens, Refused no.NoCursor)
  step_refused e = ap (λ (o : Outcome). replied (view files held opens) o) (fetch_refused e)

  pub aheads_refused : open_cursor_of (view files held opens) number ≡ Err no.NoCursor
      → aheads_of files opens ≡ aheads_after (view files held opens) (aheads_of files opens) (command.FetchCursor number)
  aheads_refused e = sym (refused_stays (view files held opens) (aheads_of files opens) (command.FetchCursor number) no.NoCursor (fetch_refused e))

  module _ (n : ℕ) (e : cursor_place number ≡ Some n) (o : Open) (there : get_or opens n None ≡ Some o) where
    -- a row has been taken of it
    pub fetched_one : (d : Open) → cursor_in files d ≡ record (cursor_in files o) { rows = drop 1 (cursor_in files o).rows }
        → outcome (view files held opens) (command.FetchCursor number) ≡ Ok (view files held (set opens n (Some d)), Rows (take 1 (cursor_in files o).rows))
    fetched_one d left =
        ap (λ r. ◌>>=◌ r (fetching (view files held opens))) (is_open_in files held opens number n o e there)
        ∙ ap (λ (c : Cursor). Ok (with_cursor (view files held opens) n (Some c), Rows (take 1 (cursor_in files o).rows))) (sym left)
        ∙ ap (λ (db : Database). Ok (db, Rows (take 1 (cursor_in files o).rows))) (sym (cursor_view files held opens n (Some d)))

    pub step_fetched : (d : Open) (row : List (List Value)) → take 1 (cursor_in files o).rows ≡ row → cursor_in files d ≡ record (cursor_in files o) { rows = drop 1 (cursor_in files o).rows }
        → step (view files held opens) (command.FetchCursor number) ≡ (view files held (set opens n (Some d)), Rows row)
    step_fetched d row is left =
        ap (λ (z : Outcome). replied (view files held opens) z) (fetched_one d left) ∙ ap (λ (l : List (List Value)). (view files held (set opens n (Some d)), Rows l)) is

    ahead_here : ahead_of (aheads_of files opens) number ≡ Some (ahead_in files o)
    ahead_here = ahead_there (aheads_of files opens) number n (Some (ahead_in files o)) e (mapped_at (ahead_in files) opens n (Some o) there)

    pub aheads_fetched : (d : Open) → cursor_in files d ≡ record (cursor_in files o) { rows = drop 1 (cursor_in files o).rows } → ahead_in files d ≡ fetched (ahead_in files o)
        → aheads_of files (set opens n (Some d)) ≡ aheads_after (view files held opens) (aheads_of files opens) (command.FetchCursor number)
    aheads_fetched d left moves =
        aheads_put files opens n (Some d)
        ∙ ap (λ (a : Ahead). set (aheads_of files opens) n (Some a)) moves
        ∙ sym (done_moves (view files held opens) (view files held (set opens n (Some d))) (aheads_of files opens) (command.FetchCursor number) (Rows (take 1 (cursor_in files o).rows)) (fetched_one d left) refl
        ∙ ap (λ (a : Option Ahead). with_ahead (aheads_of files opens) number (option_map fetched a)) ahead_here
        ∙ ahead_set (aheads_of files opens) number n (Some (fetched (ahead_in files o))) e)

    -- what it may read is the price of the slots that it passes
    pub costs_fetched : cost_of (view files held opens) (aheads_of files opens) (command.FetchCursor number) ≡ fetch_price (view files held opens) files o
    costs_fetched =
        done_costs (view files held opens) (with_cursor (view files held opens) n (Some (record (cursor_in files o) { rows = drop 1 (cursor_in files o).rows }))) (aheads_of files opens) (command.FetchCursor number)
        (Rows (take 1 (cursor_in files o).rows)) (ap (λ r. ◌>>=◌ r (fetching (view files held opens))) (is_open_in files held opens number n o e there)) refl
        ∙ ap (λ (a : Option Ahead). option_map_or (λ ahead. fetch_cost (view files held opens) ahead.source (next_passed ahead)) a 0) ahead_here

-- ---- what was read

pub within_cost : (state : State) (held : Held) (opens : List (Option Open)) (number : ℤ) (n : ℕ) (e : cursor_place number ≡ Some n) (o : Open) (there : get_or opens n None ≡ Some o)
    → IsSoundDatabase (view state.files held opens) → IsCursorSlot state held (Some o) → (before now : ℕ)
    → (FindsRows (view state.files held opens) state.files o → now ≤ before + fetch_price (view state.files held opens) state.files o)
    → now ≤ before + cost_of (view state.files held opens) (aheads_of state.files opens) (command.FetchCursor number)
within_cost state held opens number n e o there sound waits before now reads =
    subst (λ (m : ℕ). now ≤ before + m) (sym (costs_fetched state.files held opens number n e o there)) (reads (finds_rows state.files held opens sound state o refl waits))
