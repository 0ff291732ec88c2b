-- What changes of one relation's rows ask for is what their commands want.
use Rattle.std.proofs.Common.{◌≡◌, ℕ, ◌*◌, List, length, get_or, Option, Some, None, Ok, ap, sym, subst, ◌∙◌, inl, inr}
use Rattle.std.specs.Prelude.{IsSomeAnd}
use Rattle.afl_base.specs.declared.failed.Failed.{Failed}
use Rattle.afl_base.specs.Files.{State, Table, size_at}
use Rattle.afl_base.specs.Fit.{fit}
use Rattle.db_model.specs.declared.commands.Command.TheVariants as command
use Rattle.db_model.specs.declared.commands.Node.{Node}
use Rattle.db_model.specs.Answers.{selected}
use Rattle.db_model.specs.Cond.{condition_of}
use Rattle.db_model.specs.Database.{Relation}
use Rattle.db_model.specs.Row.{row_length}
use Rattle.index_set.specs.Tables.{Tables}
use Rattle.tuple_file.specs.declared.tuples.Tuples.{Tuples}
use Rattle.tuple_file.specs.Tuples.{rows}
use Rattle.space_model.specs.FileNames.{asks_in, size_in}
use Rattle.space_model.specs.Wants.{WantsMarks, WantsPacked}
use Rattle.session_model.specs.declared.answer.Answer.{Answer}
use Rattle.session_model.specs.declared.answer.Answer.TheVariants as answer
use Rattle.session_model.specs.declared.held.Held.{Held}
use Rattle.session_model.specs.declared.held.Open.{Open}
use Rattle.session_model.specs.Answers.{OnNoSpace}
use Rattle.session_model.specs.Cells.{cell_from}
use Rattle.session_model.specs.Running.{IsRunning}
use Rattle.session_model.specs.View.{relation_of_rows, view}
use Rattle.session_model.specs.Wanted.{WantsOver, room_in}
use Rattle.session_model.proofs.Running.{relation_there}
use Rattle.session_model.proofs.Wanted.{relation_seen, wants_rows}
use Rattle.session_rows.specs.Wanted.{WantsPackedRows, WantsRemoval}
use Rattle.tuple_file.proofs.Columns.{rows_counted}

-- where there was no space
pub no_space : (a : Answer) (P Q : ℕ → Type 0) → ((need : ℕ) → P need → Q need) → OnNoSpace {E = Failed} (Ok a) P → OnNoSpace {E = Failed} (Ok a) Q
no_space (answer.NoSpace need) P Q f h = f need h
no_space answer.Fine P Q f h = h
no_space (answer.Removed n) P Q f h = h
no_space (answer.Refused refusal) P Q f h = h

pub pack_wants : (asks : ℕ → ℕ → ℕ → ℕ → Type 0) (files : Table) (held : Held) (opens : List (Option Open)) (name : List ℕ) (k : ℕ) (t : Tuples) (need : ℕ) → cell_from name 0 held.relations ≡ Some (k, t)
    → WantsPackedRows (relation_of_rows files t) need → WantsOver asks files (view files held opens) (command.Pack name) need
pack_wants asks files held opens name k t need cell h =
    let P : Option (ℕ × Relation) → Type 0 = λ o. IsSomeAnd o (λ s. WantsPacked (size_in files) (asks_in asks files) (room_in files) s.1 need) in
    subst P (sym (relation_seen files held opens name k t cell)) h

pub remove_wants : (state : State) (tables : Tables) (held : Held) (opens : List (Option Open)) → IsRunning state tables held opens → (asks : ℕ → ℕ → ℕ → ℕ → Type 0) (name : List ℕ) (nodes : List Node) (k : ℕ) (t : Tuples) (need : ℕ)
    → cell_from name 0 held.relations ≡ Some (k, t) → get_or held.relations k None ≡ Some t → (n : ℕ) → n ≡ length (selected t.schema.attributes (condition_of nodes) (rows state.files t))
    → WantsRemoval asks t.file n n (size_at state.files t.file) need
    → WantsOver asks state.files (view state.files held opens) (command.RemoveFrom name nodes) need
remove_wants state tables held opens r asks name nodes k t need cell there n count h =
    let P : Option (ℕ × Relation) → Type 0 = λ o. IsSomeAnd o
    (λ s. WantsMarks (size_in state.files) (asks_in asks state.files) (room_in state.files) s.0 s.1 (length (selected s.1.schema.attributes (condition_of nodes) s.1.rows)) need) in
    let Q : ℕ → Type 0 = λ m. WantsMarks (size_in state.files) (asks_in asks state.files) (room_in state.files) k (relation_of_rows state.files t) m need in
    subst P (sym (relation_seen state.files held opens name k t cell)) (subst Q count (by_which h))
  where
    by_which : WantsRemoval asks t.file n n (size_at state.files t.file) need → WantsMarks (size_in state.files) (asks_in asks state.files) (room_in state.files) k (relation_of_rows state.files t) n need
    by_which (inl h) = inl (h.0, h.1, wants_rows state tables held opens r asks k t n 0 need there h.2)
    by_which (inr h) = inr (h.0, h.1 ∙ ap fit ((relation_there state tables held opens r k t there).holds.whole ∙ ap (λ (m : ℕ). row_length t.schema.attributes * m) (sym (rows_counted state.files t))))
