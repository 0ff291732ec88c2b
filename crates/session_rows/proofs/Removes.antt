-- The rows that a cursor selects are those that are removed.
use Rattle.std.proofs.Common.{◌≡◌, ℕ, ◌≤◌, List, length, map, Option, ap, sym, subst, ◌∙◌, arith, inl, inr, IsTrue, get_or}
use Rattle.std.proofs.lemmas.List.{length-map, length-take}
use Rattle.afl_base.specs.Files.{State}
use Rattle.db_model.specs.declared.schemas.Attribute.{Attribute}
use Rattle.db_model.specs.declared.values.Value.{Value}
use Rattle.db_model.specs.Answers.{selected}
use Rattle.db_model.specs.Cond.{Cond}
use Rattle.db_model.specs.Row.{Row, no_row}
use Rattle.db_model.specs.Step.{removed_row}
use Rattle.index_set.specs.declared.info.IndexInfo.{IndexInfo}
use Rattle.index_set.specs.Complete.{AreIndexesOf}
use Rattle.index_set.specs.Tables.{Tables}
use Rattle.index_set.specs.Walks.{Fits}
use Rattle.lvm.specs.declared.instruction.Instruction.{Instruction}
use Rattle.lvm.specs.Code.{IsCodeOf}
use Rattle.tuple_file.specs.declared.tuples.Tuples.{Tuples}
use Rattle.tuple_file.specs.Tuples.{rows}
use Rattle.cursor.specs.declared.select.SelectCursor.{SelectCursor}
use Rattle.cursor.specs.Remaining.{selected_slots, slots_to_answer}
use Rattle.cursor.proofs.Selected.{tuples_selected}
use Rattle.session_rows.specs.declared.selecting.Selected.{Selected}
use Rattle.session_rows.specs.Marking.{IsSelected}
use Rattle.session_rows.specs.Wanted.{WantsRemoval}

-- ---- what a cursor selects

pub counted : (attributes : List Attribute) (condition : Option Cond) (all : List Row) → length (selected_slots attributes condition all) ≡ length (selected attributes condition all)
counted attributes condition all =
    sym (length-map (selected_slots attributes condition all) (λ slot. (get_or all slot no_row).tuple)) ∙ ap (λ (ts : List (List Value)). length ts) (tuples_selected attributes condition all)

-- a cursor over all slots of a relation began, and was gone over
module _ (old mid : State) (tables : Tables) (t copy : Tuples) (infos : List IndexInfo) (code : List Instruction) (c : SelectCursor) (s : Selected) (copied : copy ≡ t) (same : mid ≡ old) (tuples : c.tuples ≡ copy) where
  pub is_selected : (IsTrue old.tells → (condition : Option Cond) → IsCodeOf copy.schema.attributes condition code → AreIndexesOf old tables (rows old.files copy) infos
      → slots_to_answer c (rows old.files copy) ≡ selected_slots copy.schema.attributes condition (rows old.files copy))
      → (IsTrue old.tells → AreIndexesOf old tables (rows old.files copy) infos → Fits c.candidates old tables (rows old.files copy))
      → (IsTrue mid.tells → Fits c.candidates mid tables (rows mid.files c.tuples) → IsSelected s (slots_to_answer c (rows mid.files c.tuples)))
      → IsTrue old.tells → (condition : Option Cond) → IsCodeOf t.schema.attributes condition code → AreIndexesOf old tables (rows old.files t) infos
      → IsSelected s (selected_slots t.schema.attributes condition (rows old.files t))
  is_selected lefts fits selects told condition coded indexes =
      let Lefts : Tuples → Type 0 = λ z. (condition : Option Cond) → IsCodeOf z.schema.attributes condition code → AreIndexesOf old tables (rows old.files z) infos
      → slots_to_answer c (rows old.files z) ≡ selected_slots z.schema.attributes condition (rows old.files z) in
      let Places : Tuples → Type 0 = λ z. AreIndexesOf old tables (rows old.files z) infos → Fits c.candidates old tables (rows old.files z) in
      let SelectsIn : State → Type 0 = λ z. IsTrue z.tells → Fits c.candidates z tables (rows z.files c.tuples) → IsSelected s (slots_to_answer c (rows z.files c.tuples)) in
      let SelectsOf : Tuples → Type 0 = λ z. Fits c.candidates old tables (rows old.files z) → IsSelected s (slots_to_answer c (rows old.files z)) in
      let left = subst Lefts copied (lefts told) condition coded indexes in
      let fit = subst Places copied (fits told) indexes in
      subst (λ (slots : List ℕ). IsSelected s slots) left (subst SelectsOf (tuples ∙ copied) (subst SelectsIn same selects told) fit)

-- what was removed of them
pub is_removed : (old mid new : State) (t : Tuples) (code given : List Instruction) (s : Selected) → mid ≡ old → given ≡ code
    → (IsTrue mid.tells → (condition : Option Cond) → IsCodeOf t.schema.attributes condition given → IsSelected s (selected_slots t.schema.attributes condition (rows mid.files t))
    → rows new.files t ≡ map (removed_row t.schema.attributes condition) (rows mid.files t))
    → IsTrue old.tells → (condition : Option Cond) → IsCodeOf t.schema.attributes condition code → IsSelected s (selected_slots t.schema.attributes condition (rows old.files t))
    → rows new.files t ≡ map (removed_row t.schema.attributes condition) (rows old.files t)
is_removed old mid new t code given s same coded h told condition is selects =
    let In : State → Type 0 = λ z. IsTrue z.tells → IsCodeOf t.schema.attributes condition given → IsSelected s (selected_slots t.schema.attributes condition (rows z.files t))
    → rows new.files t ≡ map (removed_row t.schema.attributes condition) (rows z.files t) in
    subst In same (λ t. h t condition) told (subst (λ (z : List Instruction). IsCodeOf t.schema.attributes condition z) (sym coded) is) selects

-- ---- what is asked for

firsts : (s : Selected) (slots : List ℕ) → IsSelected s slots → s.count ≤ 29 → length s.first ≡ length slots
firsts s slots is few = let first = ap (λ (l : List ℕ). length l) is.first ∙ length-take 29 slots in omega (arith, first, is.count, few)

pub wants_selected : (asks : ℕ → ℕ → ℕ → ℕ → Type 0) (file size need n : ℕ) (s : Selected) (slots : List ℕ) → IsSelected s slots → length slots ≡ n
    → WantsRemoval asks file s.count (length s.first) size need → WantsRemoval asks file n n size need
wants_selected asks file size need n s slots is e (inl h) =
    let first : length s.first ≡ n = firsts s slots is h.1 ∙ e in
    inl (omega (arith, h.0, first), omega (arith, h.1, is.count, e), subst (λ (k : ℕ). asks file k 0 need) first h.2)
wants_selected asks file size need n s slots is e (inr h) = inr (omega (arith, h.0, is.count, e), h.1)
