-- Where a change of rows wants no extent, none is asked for.
use Rattle.std.proofs.Common.{◌≡◌, ℕ, ◌<◌, ◌≤◌, ◌*◌, List, length, filter, Ok, refl, arith, inl, inr}
use Rattle.std.proofs.Math.Logic.{⊎_elim}
use Rattle.std.proofs.lemmas.Bool.{cases_lt}
use Rattle.afl_base.specs.declared.failed.Failed.{Failed}
use Rattle.afl_base.specs.Files.{State}
use Rattle.afl_base.specs.Fit.{fit}
use Rattle.db_model.specs.declared.values.Value.{Value}
use Rattle.db_model.specs.Database.{Relation}
use Rattle.db_model.specs.Row.{Row, row_length}
use Rattle.index_set.specs.declared.info.IndexInfo.{IndexInfo}
use Rattle.index_set.proofs.Lists.{one_asks_before}
use Rattle.tuple_file.specs.declared.tuples.Tuples.{Tuples}
use Rattle.tuple_file.proofs.Packed.{length-living, living_all}
use Rattle.session_model.specs.declared.answer.Answer.{Answer}
use Rattle.session_model.specs.declared.answer.Answer.TheVariants as answer
use Rattle.session_model.specs.Answers.{OnDone}
use Rattle.session_model.specs.Frames.{WantsRow}
use Rattle.session_rows.specs.Wanted.{WantsPackedRows, WantsRemoval}

-- where the command was done
pub on_done : (a : Answer) (P Q : Type 0) → (P → Q) → OnDone {E = Failed} (Ok a) P → OnDone {E = Failed} (Ok a) Q
on_done answer.Fine P Q f h = f h
on_done (answer.Removed k) P Q f h = f h
on_done (answer.NoSpace need) P Q f h = h
on_done (answer.Refused refusal) P Q f h = h

-- what is wanted was wanted before, where no more is asked for than was
module _ (before now : ℕ → ℕ → ℕ → ℕ → Type 0) (less : (id w n need : ℕ) → now id w n need → before id w n need) where
  pub row_before : (s : State) (t : Tuples) (infos : List IndexInfo) (values : List Value) (need : ℕ) → WantsRow now s t infos values need → WantsRow before s t infos values need
  row_before s t infos values need (inl h) = inl (less t.file 0 (row_length t.schema.attributes) need h)
  row_before s t infos values need (inr h) = inr (one_asks_before before now s s values need infos less (λ k. refl) h)

  pub removal_before : (file count records size need : ℕ) → WantsRemoval now file count records size need → WantsRemoval before file count records size need
  removal_before file count records size need (inl h) = inl (h.0, h.1, less file records 0 need h.2)
  removal_before file count records size need (inr h) = inr h

-- where no draft is wanted all rows are live
pub none_removed : (r : Relation) → ((need : ℕ) → WantsPackedRows r need → ⊥) → filter (λ row. row.live) r.rows ≡ r.rows
none_removed r never = ⊎_elim
    (λ (few : length (filter (λ (row : Row). row.live) r.rows) < length r.rows). absurd (never (fit (row_length r.schema.attributes * length (filter (λ (row : Row). row.live) r.rows))) (few, refl)))
    (λ (many : length r.rows ≤ length (filter (λ (row : Row). row.live) r.rows)). let most = length-living r.rows in living_all r.rows (omega (arith, most, many)))
    (cases_lt (length (filter (λ (row : Row). row.live) r.rows)) (length r.rows))
