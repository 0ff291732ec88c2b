-- Changes of the rows of one relation, for the session that they are made in.
use Rattle.std.proofs.Common.{◌≡◌, ◌≢◌, ℕ, ◌≤◌, List, [], ◌∷◌, ◌++◌, length, get_or, Option, Some, None, true, refl, ap, sym, subst, ◌∙◌, arith, IsTrue, length-append}
use Rattle.std.proofs.lemmas.List.{get_or_append_left}
use Rattle.afl_base.specs.Files.{Keeps, State, Table, bytes_at, file_at, name_at, size_at, used}
use Rattle.afl_base.specs.Frames.{Prepares, SparesOthers}
use Rattle.afl_base.proofs.FrameLaws.{spares_fewer}
use Rattle.db_model.specs.declared.values.Value.{Value}
use Rattle.db_model.specs.Database.{reader_of}
use Rattle.db_model.specs.Row.{Row, no_row}
use Rattle.index_set.specs.declared.info.IndexInfo.{IndexInfo}
use Rattle.index_set.specs.Complete.{AreComplete, AreHeld}
use Rattle.index_set.specs.Inserts.{IsNoTree}
use Rattle.index_set.specs.Tables.{Tables}
use Rattle.index_set.specs.Walks.{RowsGrow}
use Rattle.tuple_file.specs.declared.tuples.Tuples.{Tuples}
use Rattle.tuple_file.specs.Tuples.{HoldsRows, rows, slots}
use Rattle.session_model.specs.declared.held.Held.{Held}
use Rattle.session_model.specs.declared.held.Open.{Open}
use Rattle.session_model.specs.Frames.{StaysAt}
use Rattle.session_model.specs.Indexed.{infos_of}
use Rattle.session_model.specs.Running.{IsRunning}
use Rattle.session_model.specs.View.{relation_of_rows, view}
use Rattle.session_model.proofs.Aheads.{rows_aheads}
use Rattle.session_model.proofs.Frames.{complete_kept, held_spared, rows_prepared}
use Rattle.session_model.proofs.Running.{RowsCome, are_complete, are_held, away, one_changes, reads_other, relation_there, rows_come}
use Rattle.session_model.proofs.Views.{OneChanges}
use Rattle.session_rows.specs.Changes.{AddsRow, RelationGrows, ReplacesRows, RunsOn}
use Rattle.tuple_file.proofs.Holding.{slots_prepared, holds_prepared}

-- ---- the session goes on where rows come

pub goes_on : (old new : State) (before after : Tables) (held : Held) (opens : List (Option Open)) (k : ℕ) (t : Tuples) → IsRunning old before held opens
    → RowsCome old new before after held opens k t → RunsOn old new after held opens k
goes_on old new before after held opens k t r u = record {
  running = rows_come old new before after held opens k t r u;
  tells = u.spared.tells;
  others = λ told j s other e. (one_changes old new before after held opens k t r u told).others j s other e;
  cursors = λ told n o e. (one_changes old new before after held opens k t r u told).cursors n o e;
  aheads = λ told. rows_aheads old new before after held opens k t r u told;
}

pub one_of : (old new : State) (after : Tables) (held : Held) (opens : List (Option Open)) (k : ℕ) (t : Tuples) → get_or held.relations k None ≡ Some t
    → RunsOn old new after held opens k → IsTrue old.tells → OneChanges old.files new.files held held opens k t
one_of old new after held opens k t there g told = record {
  there = there;
  version = refl;
  relations = refl;
  indexes = refl;
  others = g.others told;
  cursors = g.cursors told;
}

-- ---- a relation and its indexes

-- no byte of it has changed
pub grows_prepared : (old new : State) (tables : Tables) (t : Tuples) (infos : List IndexInfo) → Prepares old new (StaysAt t.file infos) → HoldsRows old t → AreHeld old tables (slots old.files t) infos
    → IsNoTree infos t.file → RelationGrows old new tables tables t infos
grows_prepared old new tables t infos f holds held away =
    let stays = StaysAt t.file infos in
    let same_slots = slots_prepared old new stays t f in
    let same_rows = rows_prepared old new stays t f in
    record {
      holds = holds_prepared old new stays t f holds;
      more = omega (arith, same_slots);
      grow = λ told. same_grow (rows old.files t) (rows new.files t) (same_rows told);
      held = subst (λ (n : ℕ). AreHeld new tables n infos) (sym same_slots) (held_spared old new stays tables (slots old.files t) infos f.spares held);
      complete = λ told complete. subst (λ (all : List Row). AreComplete new tables all infos) (sym (same_rows told))
          (complete_kept old new t.file (λ j other. f.bytes told j) tables (rows old.files t) infos away complete);
      others = f.spares;
      tables = λ number other. refl;
    }
  where
    same_grow : (a b : List Row) → b ≡ a → RowsGrow a b
    same_grow a b e = record { more = omega (arith, ap (λ (rs : List Row). length rs) e); same = λ i below. ap (λ (rs : List Row). get_or rs i no_row) e }

pub replaces_prepared : (old new : State) (t : Tuples) → Prepares old new (λ id. id ≢ t.file) → HoldsRows old t → ReplacesRows old new t
replaces_prepared old new t f holds =
    let stays : ℕ → Type 0 = λ id. id ≢ t.file in
    record { holds = holds_prepared old new stays t f holds; count = slots_prepared old new stays t f; others = f.spares }

-- a row came behind
pub grows_added : (old new : State) (before after : Tables) (t : Tuples) (infos : List IndexInfo) (values : List Value) (slot : ℕ) → AddsRow old new before after t infos values slot → slot ≡ slots old.files t
    → (IsTrue old.tells → AreComplete old before (rows old.files t) infos → AreComplete new after (rows new.files t) infos) → RelationGrows old new before after t infos
grows_added old new before after t infos values slot u last complete = record {
  holds = u.holds;
  more = omega (arith, u.count, last);
  grow = λ told. came (rows old.files t) (rows new.files t) (record { tuple = values; live = true }) (u.row told);
  held = subst (λ (n : ℕ). AreHeld new after n infos) (sym u.count) u.held;
  complete = complete;
  others = u.others;
  tables = u.tables;
}
  where
    came : (a b : List Row) (row : Row) → b ≡ a ++ row ∷ [] → RowsGrow a b
    came a b row e = record {
      more = omega (arith, ap (λ (rs : List Row). length rs) e, length-append a (row ∷ []));
      same = λ i below. ap (λ (rs : List Row). get_or rs i no_row) e ∙ get_or_append_left a (row ∷ []) no_row i below;
    }

-- ---- no byte has changed

-- nothing but what all is kept in has changed
pub keeps_all : (a b : State) (P : ℕ → Type 0) → Keeps a b → Prepares a b P
keeps_all a b P k = record {
  spares = record {
    others = λ j s. ap (λ (files : Table). get_or files j None) k.files;
    named = λ j. ap (λ (files : Table). name_at files j) k.files;
    kind = λ j h. ap (λ (files : Table). (file_at files j).kind) k.files;
    used = ap (λ (files : Table). used files) k.files;
    draft = k.draft;
    tells = k.tells;
  };
  sizes = λ j. ap (λ (files : Table). size_at files j) k.files;
  bytes = λ told j. ap (λ (files : Table). bytes_at files j) k.files;
}

module _ (old new : State) (tables : Tables) (held : Held) (opens : List (Option Open)) (k : ℕ) (t : Tuples) (r : IsRunning old tables held opens) (there : get_or held.relations k None ≡ Some t)
    (f : Prepares old new (StaysAt t.file (infos_of k t held.indexes))) where
  same_slots : slots new.files t ≡ slots old.files t
  same_slots = slots_prepared old new (StaysAt t.file (infos_of k t held.indexes)) t f

  same_rows : IsTrue old.tells → rows new.files t ≡ rows old.files t
  same_rows told = rows_prepared old new (StaysAt t.file (infos_of k t held.indexes)) t f told

  room_made : RowsCome old new tables tables held opens k t
  room_made =
      let infos : List IndexInfo = infos_of k t held.indexes in
      let here = relation_there old tables held opens r k t there in
      let g = grows_prepared old new tables t infos f here.holds (are_held old tables held opens r k t there) (away old tables held opens r k t there) in
      record {
        there = there;
        spared = g.others;
        tables = g.tables;
        holds = g.holds;
        few = omega (arith, same_slots, here.few);
        grown = λ n o e reads. g.more;
        grow = λ told n o e reads. g.grow told;
        filled = g.held;
        complete = λ told. g.complete told (are_complete old tables held opens r k t there told);
      }

  pub waits_on : RunsOn old new tables held opens k
  waits_on = goes_on old new tables tables held opens k t r room_made

  pub relation_same : IsTrue old.tells → relation_of_rows new.files t ≡ relation_of_rows old.files t
  relation_same told = ap (λ (rs : List Row). record { schema = t.schema; rows = rs }) (same_rows told)

-- ---- rows are dropped from a relation without indexes

pub rows_dropped : (old new : State) (tables : Tables) (held : Held) (opens : List (Option Open)) (k : ℕ) (t : Tuples) → IsRunning old tables held opens → get_or held.relations k None ≡ Some t
    → SparesOthers old new (λ j. j ≢ t.file) → HoldsRows new t → slots new.files t ≤ slots old.files t → reader_of (view old.files held opens) t.schema.name ≡ None → infos_of k t held.indexes ≡ []
    → RunsOn old new tables held opens k
rows_dropped old new tables held opens k t r there f holds fewer unread none =
    goes_on old new tables tables held opens k t r (record {
      there = there;
      spared = spares_fewer old new (λ j. j ≢ t.file) (StaysAt t.file (infos_of k t held.indexes)) f (λ j stays. stays.0);
      tables = λ number no. refl;
      holds = holds;
      few = omega (arith, fewer, (relation_there old tables held opens r k t there).few);
      grown = λ n o e reads. absurd (reads_other old.files t 1 opens unread n o e reads);
      grow = λ told n o e reads. absurd (reads_other old.files t 1 opens unread n o e reads);
      filled = subst (λ (infos : List IndexInfo). AreHeld new tables (slots new.files t) infos) (sym none) tt;
      complete = λ told. subst (λ (infos : List IndexInfo). AreComplete new tables (rows new.files t) infos) (sym none) tt;
    })
