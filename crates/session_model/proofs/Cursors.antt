-- What an open cursor has still to answer, where rows come behind the others.
use Rattle.std.proofs.Common.{◌≡◌, ℕ, ◌≤◌, List, [], ◌∷◌, map, get_or, Some, None, refl, ap, sym, ◌∙◌, subst, inl, inr, IsTrue}
use Rattle.std.proofs.Math.Logic.{⊎_elim}
use Rattle.afl_base.specs.Files.{State}
use Rattle.db_model.specs.declared.values.Value.{Value}
use Rattle.index_set.specs.Walks.{RowsGrow}
use Rattle.session_model.proofs.Kept.{pairs_kept, remaining_kept}
use Rattle.tuple_file.specs.declared.tuples.Tuples.{Tuples}
use Rattle.tuple_file.specs.Tuples.{rows}
use Rattle.session_model.specs.declared.held.Held.{Held}
use Rattle.session_model.specs.declared.held.Open.{Open}
use Rattle.session_model.specs.declared.held.Open.TheVariants.{Select, Join}
use Rattle.session_model.specs.Running.{IsCursorSlot, ReadsRows}
use Rattle.session_model.specs.View.{cursor_in, project, project_pair}
use Rattle.tuple_file.proofs.Columns.{rows_counted}
use Rattle.padded.proofs.Facts.{zero_or_more}
use Rattle.cursor.proofs.Waiting.{remaining_none}

-- an open cursor has the same rows to come where rows come behind those of the relations that it reads
pub cursor_kept : (old new : State) (held : Held) (o : Open) → IsTrue old.tells → IsCursorSlot old held (Some o)
    → ((k : ℕ) (t : Tuples) → ReadsRows o t → get_or held.relations k None ≡ Some t → RowsGrow (rows old.files t) (rows new.files t))
    → cursor_in new.files o ≡ cursor_in old.files o
cursor_kept old new held (Select o) told h grow =
    ap (λ (left : List (List Value)). record { reads = o.cursor.tuples.schema.name ∷ []; rows = map (project o.places) left })
    (⊎_elim
    (λ none. remaining_none o.cursor (rows new.files o.cursor.tuples) none ∙ sym (remaining_none o.cursor (rows old.files o.cursor.tuples) none))
    (λ some.
    let is = h.goes_on some in
    remaining_kept o.cursor (rows old.files o.cursor.tuples) (rows new.files o.cursor.tuples) (grow is.slot o.cursor.tuples (some, refl) is.there) (is.waits told))
    (zero_or_more o.cursor.candidates.slots))
cursor_kept old new held (Join o) told h grow =
    ap (λ (left : List (List Value × List Value)). record { reads = o.cursor.left.schema.name ∷ o.cursor.right.schema.name ∷ []; rows = map (project_pair o.places) left })
    (pairs_kept o.cursor (rows old.files o.cursor.left) (rows old.files o.cursor.right) (rows new.files o.cursor.left) (rows new.files o.cursor.right)
    (λ some. let is = h.left some in
    (grow is.slot o.cursor.left (inl (some, refl)) is.there, subst (λ (n : ℕ). o.cursor.left_slots ≤ n) (sym (rows_counted old.files o.cursor.left)) is.few))
    (λ some. let is = (h.right some).side in
    (grow is.slot o.cursor.right (inr (some, refl)) is.there, subst (λ (n : ℕ). o.cursor.right_slots ≤ n) (sym (rows_counted old.files o.cursor.right)) is.few)))
