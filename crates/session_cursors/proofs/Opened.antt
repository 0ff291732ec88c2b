-- OPEN of a cursor, or how it is refused.
use Rattle.std.proofs.Common.{◌≡◌, ◌≤◌, ◌+◌, ℕ, ℤ, Bool, true, false, List, set, get_or, Option, Some, None, refl, ap, sym, ◌∙◌, Ok, Err, is_some}
use Rattle.std.specs.Prelude.{IsErr, IsOk, Result, length, option_map}
use Rattle.std.proofs.lemmas.Bool.{false≢true}
use Rattle.afl_base.specs.declared.failed.Failed.{Failed}
use Rattle.afl_base.specs.declared.files.Files.{Ghosts as FilesOf}
use Rattle.afl_base.specs.Files.{State, Table}
use Rattle.afl_base.specs.Keeping.{OnlyReads}
use Rattle.db_model.specs.declared.commands.Command.{Command}
use Rattle.db_model.specs.declared.commands.Command.TheVariants as command
use Rattle.db_model.specs.declared.commands.Query.{Query}
use Rattle.db_model.specs.declared.refusals.Refusal.{Refusal}
use Rattle.db_model.specs.declared.refusals.Refusal.TheVariants as no
use Rattle.db_model.specs.declared.values.Value.{Value}
use Rattle.db_model.specs.Ahead.{aheads_after, cost_of, with_ahead}
use Rattle.db_model.specs.Cost.{open_cost}
use Rattle.db_model.specs.Database.{Database, cursor_at, cursor_place, with_cursor}
use Rattle.db_model.specs.Refusing.{◌>>=◌, ◌>>◌, found_or, refuse_if}
use Rattle.db_model.specs.Step.{Fine, Outcome, answer_of, outcome, relations_read}
use Rattle.session_model.specs.declared.answer.Answer.{Answer}
use Rattle.session_model.specs.declared.base.Base.{Base}
use Rattle.session_model.specs.declared.held.Held.{Held}
use Rattle.session_model.specs.declared.held.Open.{Open}
use Rattle.session_model.specs.Aheads.{ahead_in, aheads_of}
use Rattle.session_model.specs.Carried.{Carries, Runs, Tells, aheads, database}
use Rattle.session_model.specs.View.{cursor_in, view}
use Rattle.session_model.proofs.Opens.{cursor_view}
use Rattle.session_model.proofs.CutHeld.{same_between}
use Rattle.session_cursors.specs.Opened.{BeginsAnswer}
use Rattle.session_cursors.proofs.Places.{ahead_set, aheads_put, done_costs, done_moves, mapped_at, refused_stays}

-- what OPEN makes of an answer, of the place of a free cursor, and of a number
abbrev with_rows : Database → Query → ℕ → Result (List (List Value)) Refusal → Outcome
with_rows db query place answer = ◌>>=◌ answer (λ rows. Ok (with_cursor db place (Some (record { reads = relations_read query; rows = rows })), Fine))

abbrev at_free : Database → Query → ℕ → Bool → Outcome
at_free db query place used = ◌>>◌ (refuse_if used no.CursorOpen) (with_rows db query place (answer_of db query))

abbrev at_place : Database → Query → Option ℕ → Outcome
at_place db query place = ◌>>=◌ (found_or place no.NoCursor) (λ p. at_free db query p (is_some (cursor_at db p)))

used_as : {A B : Type 0} (f : A → B) (o : Option A) → is_some (option_map f o) ≡ is_some o
used_as f None = refl
used_as f (Some a) = refl

module _ (files : Table) (held : Held) (opens : List (Option Open)) (number : ℤ) (query : Query) where
  abbrev db : Database
  db = view files held opens

  module _ (n : ℕ) (e : cursor_place number ≡ Some n) where
    used_there : is_some (cursor_at db n) ≡ is_some (get_or opens n None)
    used_there = ap is_some (mapped_at (cursor_in files) opens n (get_or opens n None) refl) ∙ used_as (cursor_in files) (get_or opens n None)

    pub open_used : is_some (get_or opens n None) ≡ true → outcome db (command.OpenCursor number query) ≡ Err no.CursorOpen
    open_used used = ap (at_place db query) e ∙ ap (at_free db query n) (used_there ∙ used)

    module _ (free : is_some (get_or opens n None) ≡ false) where
      of_answer : outcome db (command.OpenCursor number query) ≡ with_rows db query n (answer_of db query)
      of_answer = ap (at_place db query) e ∙ ap (at_free db query n) (used_there ∙ free)

      pub open_refused : (refusal : Refusal) → answer_of db query ≡ Err refusal → outcome db (command.OpenCursor number query) ≡ Err refusal
      open_refused refusal h = of_answer ∙ ap (with_rows db query n) h

      pub opened_one : (o : Open) → BeginsAnswer db files query o → outcome db (command.OpenCursor number query) ≡ Ok (view files held (set opens n (Some o)), Fine)
      opened_one o b =
          let same : with_rows db query n (Ok (cursor_in files o).rows) ≡ Ok (with_cursor db n (Some (cursor_in files o)), Fine) =
          ap (λ (names : List (List ℕ)). Ok (with_cursor db n (Some (record { reads = names; rows = (cursor_in files o).rows })), Fine)) (sym b.reads) in
          of_answer ∙ ap (with_rows db query n) b.rows ∙ same ∙ ap (λ (d : Database). Ok (d, Fine)) (sym (cursor_view files held opens n (Some o)))

      pub aheads_opened : (o : Open) → BeginsAnswer db files query o → aheads_of files (set opens n (Some o)) ≡ aheads_after db (aheads_of files opens) (command.OpenCursor number query)
      aheads_opened o b =
          aheads_put files opens n (Some o)
          ∙ sym (done_moves db (view files held (set opens n (Some o))) (aheads_of files opens) (command.OpenCursor number query) Fine (opened_one o b) refl
          ∙ ap (with_ahead (aheads_of files opens) number) b.ahead
          ∙ ahead_set (aheads_of files opens) number n (Some (ahead_in files o)) e)

      by_answer : (answer : Result (List (List Value)) Refusal) → answer_of db query ≡ answer → IsOk answer → cost_of db (aheads_of files opens) (command.OpenCursor number query) ≡ open_cost db query
      by_answer (Ok rows) h some =
          done_costs db (with_cursor db n (Some (record { reads = relations_read query; rows = rows }))) (aheads_of files opens) (command.OpenCursor number query) Fine (of_answer ∙ ap (with_rows db query n) h) refl
      by_answer (Err refusal) h some = absurd (false≢true some)

      -- what it may read, where the query is answered
      pub costs_opened : IsOk (answer_of db query) → cost_of db (aheads_of files opens) (command.OpenCursor number query) ≡ open_cost db query
      costs_opened some = by_answer (answer_of db query) refl some

  pub open_stays : (refusal : Refusal) → outcome db (command.OpenCursor number query) ≡ Err refusal → aheads_of files opens ≡ aheads_after db (aheads_of files opens) (command.OpenCursor number query)
  open_stays refusal h = sym (refused_stays db (aheads_of files opens) (command.OpenCursor number query) refusal h)

-- a file failed while it was opened
pub failed_open : {V T E : Type 0} (v : FilesOf V) (c : Command) (old new : Base V) (e : E) (result : Result Answer Failed) → Runs v old → IsErr result → (Tells v old → v.reads new.files ≤ v.reads old.files + cost_of (database v old) (aheads v old) c)
    → OnlyReads {T = T} {E = E} v.state v.lent v.reads v.faults old.files new.files (Err e) → Carries v c old new result
failed_open v c old new e (Ok answer) runs is reads frame = absurd (false≢true is)
failed_open v c old new e (Err failed) runs is reads frame = record {
  done = λ told. tt;
  running = tt;
  ahead = λ told. tt;
  tells = tt;
  wants = λ told. tt;
  lacks = tt;
  spares = λ told none. tt;
  cut = λ cuts told sound. same_between v c old new.files runs cuts told sound frame.same;
  untouched = tt;
  same = λ r. frame.same;
  reads = λ told r. reads told;
  frame = record { store = ap (λ (s : State). length s.store) frame.same; lent = frame.lent; later = frame.later; cause = record { later = frame.cause.later; failed = frame.cause.failed } };
}
