-- A row was put behind the others of a relation, or there was no room for it.
use Rattle.std.proofs.Common.{◌≡◌, ℕ, List, length, get_or, Option, Some, None, refl, ap, sym, subst, arith, IsTrue}
use Rattle.afl_base.specs.Files.{State}
use Rattle.afl_base.specs.Frames.{Prepares}
use Rattle.db_model.specs.Row.{Row, no_row}
use Rattle.index_set.specs.declared.info.IndexInfo.{IndexInfo}
use Rattle.index_set.specs.Complete.{AreComplete, AreHeld}
use Rattle.index_set.specs.Tables.{Tables}
use Rattle.index_set.specs.Walks.{RowsGrow}
use Rattle.tuple_file.specs.declared.tuples.Tuples.{Tuples}
use Rattle.tuple_file.specs.Tuples.{rows, slots}
use Rattle.session_model.specs.declared.held.Held.{Held}
use Rattle.session_model.specs.declared.held.Open.{Open}
use Rattle.session_model.specs.Frames.{StaysAt}
use Rattle.session_model.specs.Indexed.{infos_of}
use Rattle.session_model.specs.Running.{IsRunning}
use Rattle.session_model.specs.View.{view}
use Rattle.session_model.proofs.Frames.{complete_kept, held_spared, rows_prepared}
use Rattle.session_model.proofs.Running.{RowsCome, are_complete, are_held, away, one_changes, relation_there, rows_come}
use Rattle.session_model.proofs.Views.{view_kept}
use Rattle.tuple_file.proofs.Holding.{slots_prepared, holds_prepared}

grows_same : (old new : List Row) → new ≡ old → RowsGrow old new
grows_same old new e = record { more = omega (arith, ap (λ (rs : List Row). length rs) e); same = λ i below. ap (λ (rs : List Row). get_or rs i no_row) e }

-- room was made in some files, and no byte has changed
module _ (old new : State) (tables : Tables) (held : Held) (opens : List (Option Open)) (k : ℕ) (t : Tuples) (r : IsRunning old tables held opens) (there : get_or held.relations k None ≡ Some t)
    (f : Prepares old new (StaysAt t.file (infos_of k t held.indexes))) where
  same_slots : slots new.files t ≡ slots old.files t
  same_slots = slots_prepared old new (StaysAt t.file (infos_of k t held.indexes)) t f

  room_made : RowsCome old new tables tables held opens k t
  room_made =
      let infos : List IndexInfo = infos_of k t held.indexes in
      let here = relation_there old tables held opens r k t there in
      record {
        there = there;
        spared = f.spares;
        tables = λ number other. refl;
        holds = holds_prepared old new (StaysAt t.file infos) t f here.holds;
        few = omega (arith, same_slots, here.few);
        grown = λ n o e reads. omega (arith, same_slots);
        grow = λ told n o e reads. grows_same (rows old.files t) (rows new.files t) (rows_prepared old new (StaysAt t.file infos) t f told);
        filled = subst (λ (n : ℕ). AreHeld new tables n infos) (sym same_slots)
            (held_spared old new (StaysAt t.file infos) tables (slots old.files t) infos f.spares (are_held old tables held opens r k t there));
        complete = λ told. subst (λ (all : List Row). AreComplete new tables all infos) (sym (rows_prepared old new (StaysAt t.file infos) t f told))
            (complete_kept old new t.file (λ j other. f.bytes told j) tables (rows old.files t) infos (away old tables held opens r k t there) (are_complete old tables held opens r k t there told));
      }

  pub prepared_running : IsRunning new tables held opens
  prepared_running = rows_come old new tables tables held opens k t r room_made

  pub prepared_view : IsTrue old.tells → view new.files held opens ≡ view old.files held opens
  prepared_view told =
      view_kept old.files new.files held held opens k t (one_changes old new tables tables held opens k t r room_made told)
      (ap (λ (rs : List Row). record { schema = t.schema; rows = rs }) (rows_prepared old new (StaysAt t.file (infos_of k t held.indexes)) t f told))
