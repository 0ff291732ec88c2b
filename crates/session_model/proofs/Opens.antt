-- One open cursor is another, or is closed.
use Rattle.std.proofs.Common.{◌≡◌, ℕ, ◌<◌, List, set, get_or, Option, None, ap, sym, ◌∙◌, subst, arith}
use Rattle.std.specs.Prelude.{option_map}
use Rattle.std.proofs.Math.Logic.{⊎_elim}
use Rattle.std.proofs.lemmas.Bool.{cases_eq}
use Rattle.std.proofs.lemmas.List.{get_or-set_other, get_or-set_same, length-set, map-set}
use Rattle.afl_base.specs.Files.{State, Table}
use Rattle.db_model.specs.Database.{Cursor, with_cursor}
use Rattle.index_set.specs.Tables.{Tables}
use Rattle.session_model.specs.declared.held.Held.{Held}
use Rattle.session_model.specs.declared.held.Open.{Open}
use Rattle.session_model.specs.Running.{IsCursorSlot, IsRunning}
use Rattle.session_model.specs.View.{cursor_in, view}

pub cursor_put : (state : State) (tables : Tables) (held : Held) (opens : List (Option Open)) (n : ℕ) (o : Option Open) → IsRunning state tables held opens → n < 4 → IsCursorSlot state held o
    → IsRunning state tables held (set opens n o)
cursor_put state tables held opens n o r few h = record {
  idle = r.idle;
  distinct = r.distinct;
  known = r.known;
  version = r.version;
  eight = r.eight;
  eight_indexes = r.eight_indexes;
  four = length-set opens n o ∙ r.four;
  relations = r.relations;
  indexes = r.indexes;
  apart = r.apart;
  cursors = λ m below. let P : Option Open → Type 0 = λ z. IsCursorSlot state held z in
      ⊎_elim
      (λ same. subst P (sym (ap (λ (i : ℕ). get_or (set opens n o) i None) same ∙ get_or-set_same opens n o None (omega (arith, r.four)))) h)
      (λ other. subst P (sym (get_or-set_other opens n m o None other)) (r.cursors m below))
      (cases_eq m n);
  catalog = r.catalog;
  listed = r.listed;
  written = r.written;
}

pub cursor_view : (files : Table) (held : Held) (opens : List (Option Open)) (n : ℕ) (o : Option Open) → view files held (set opens n o) ≡ with_cursor (view files held opens) n (option_map (cursor_in files) o)
cursor_view files held opens n o = ap (λ (cs : List (Option Cursor)). record (view files held opens) { cursors = cs }) (map-set (option_map (cursor_in files)) opens n o)
