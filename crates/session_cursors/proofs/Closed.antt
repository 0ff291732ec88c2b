-- A cursor is closed, or is none that can be.
use Rattle.std.proofs.Common.{◌≡◌, ℕ, ℤ, List, set, get_or, Option, Some, None, refl, ap, sym, ◌∙◌, Ok, Err}
use Rattle.std.specs.Prelude.{IsSome}
use Rattle.afl_base.specs.Files.{Table}
use Rattle.db_model.specs.declared.commands.Command.TheVariants as command
use Rattle.db_model.specs.declared.refusals.Refusal.TheVariants as no
use Rattle.db_model.specs.Ahead.{aheads_after}
use Rattle.db_model.specs.Database.{Cursor, Database, cursor_place, with_cursor}
use Rattle.db_model.specs.Refusing.{◌>>=◌}
use Rattle.db_model.specs.Step.{Fine, Outcome, open_cursor_of, outcome}
use Rattle.session_model.specs.declared.held.Held.{Held}
use Rattle.session_model.specs.declared.held.Open.{Open}
use Rattle.session_model.specs.Aheads.{aheads_of}
use Rattle.session_model.specs.View.{view}
use Rattle.session_model.proofs.Opens.{cursor_view}
use Rattle.session_cursors.proofs.Places.{ahead_set, aheads_put, done_moves, is_open_in, refused_stays, used_there}

-- what CLOSE makes of the cursor that is found
abbrev closing : Database → (ℕ × Cursor) → Outcome
closing db c = Ok (with_cursor db c.0 None, Fine)

module _ (files : Table) (held : Held) (opens : List (Option Open)) (number : ℤ) where
  pub close_refused : open_cursor_of (view files held opens) number ≡ Err no.NoCursor → outcome (view files held opens) (command.CloseCursor number) ≡ Err no.NoCursor
  close_refused e = ap (λ r. ◌>>=◌ r (closing (view files held opens))) e

  pub refused_aheads : open_cursor_of (view files held opens) number ≡ Err no.NoCursor
      → aheads_of files opens ≡ aheads_after (view files held opens) (aheads_of files opens) (command.CloseCursor number)
  refused_aheads e = sym (refused_stays (view files held opens) (aheads_of files opens) (command.CloseCursor number) no.NoCursor (close_refused e))

  pub closed : (n : ℕ) → cursor_place number ≡ Some n → IsSome (get_or opens n None) → outcome (view files held opens) (command.CloseCursor number) ≡ Ok (view files held (set opens n None), Fine)
  closed n e there =
      let o = used_there (get_or opens n None) there in
      ap (λ r. ◌>>=◌ r (closing (view files held opens))) (is_open_in files held opens number n o.item e o.is)
      ∙ ap (λ (db : Database). Ok (db, Fine)) (sym (cursor_view files held opens n None))

  pub closed_aheads : (n : ℕ) → cursor_place number ≡ Some n → IsSome (get_or opens n None)
      → aheads_of files (set opens n None) ≡ aheads_after (view files held opens) (aheads_of files opens) (command.CloseCursor number)
  closed_aheads n e there =
      aheads_put files opens n None
      ∙ sym (done_moves (view files held opens) (view files held (set opens n None)) (aheads_of files opens) (command.CloseCursor number) Fine (closed n e there) refl
      ∙ ahead_set (aheads_of files opens) number n None e)
