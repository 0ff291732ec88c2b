-- A script whose commands keep to a plan has the sectors that each of them may ask for.
use Rattle.std.proofs.Common.{◌≡◌, ℕ, ◌≤◌, ◌⊎◌, inl, inr, List, [], ◌∷◌, ◌++◌, refl, ap, subst, ◌∙◌, arith}
use Rattle.std.specs.Prelude.{Result, Ok, Err}
use Rattle.std.specs.List.{AllByRecursion}
use Rattle.db_model.specs.declared.commands.Command.{Command}
use Rattle.db_model.specs.declared.commands.Command.TheVariants.{Insert, Ask, Aggregate, OpenCursor, FetchCursor, CloseCursor}
use Rattle.db_model.specs.declared.refusals.Refusal.{Refusal}
use Rattle.db_model.specs.Database.{Database}
use Rattle.db_model.specs.Script.{Entry, Long, Unfinished, Bytes, carried_out, last}
use Rattle.db_model.specs.Sound.{IsSoundDatabase}
use Rattle.db_model.specs.Step.{after_all, step}
use Rattle.space_model.specs.Enough.{enough, most}
use Rattle.space_plan.specs.Growth.{HasFewRows, IsInsertOrRead, KeepsToPlan, before_others, commands_of, rows_brought}
use Rattle.space_plan.specs.Planned.{planned}
use Rattle.space_plan.proofs.PlannedSpace.{planned_suffices}
use Rattle.db_model.proofs.SoundSteps.{limit_few}
use Rattle.padded.proofs.Facts.{all_front}

pub sound_few : (db : Database) → IsSoundDatabase db → HasFewRows db
sound_few db s slot r there =
    let few = (s.relations slot r there).slots in
    let limit = limit_few db.version in
    omega (arith, few, limit)

-- ---- the commands in front

pub all_behind : {A : Type 0} (P : A → Type 0) (xs : List A) (y : A) (ys : List A) → AllByRecursion P (xs ++ y ∷ ys) → P y
all_behind P [] y ys h = h.0
all_behind P (x ∷ xs) y ys h = all_behind P xs y ys h.1

brought_front : (db : Database) (xs ys : List Command) (name : List ℕ) → rows_brought db xs name ≤ rows_brought db (xs ++ ys) name
brought_front db [] ys name = omega arith
brought_front db (x ∷ xs) ys name = let rest = brought_front (step db x).0 xs ys name in omega (arith, rest)

-- a command that keeps to a plan asks for nothing, or there are the sectors for it
has_enough : (rows : List ℕ → ℕ) (db : Database) (front rest : List Command) (command : Command) → HasFewRows db → KeepsToPlan rows db (front ++ command ∷ rest)
    → (most (after_all db front) command ≡ 0) ⊎ (enough (after_all db front) (most (after_all db front) command) ≤ planned db rows)
has_enough rows db front rest command few plan = by_command command (all_behind IsInsertOrRead front command rest plan.kinds)
  where
    before : KeepsToPlan rows db front
    before = record {
      kinds = all_front IsInsertOrRead front (command ∷ rest) plan.kinds;
      few = λ name. let all = plan.few name in let less = brought_front db front (command ∷ rest) name in omega (arith, all, less);
    }

    by_command : (c : Command) → IsInsertOrRead c → (most (after_all db front) c ≡ 0) ⊎ (enough (after_all db front) (most (after_all db front) c) ≤ planned db rows)
    by_command (Insert values name) r = inr (planned_suffices rows db front values name few before)
    by_command (Ask query) r = inl refl
    by_command (Aggregate list relation nodes) r = inl refl
    by_command (OpenCursor number query) r = inl refl
    by_command (FetchCursor number) r = inl refl
    by_command (CloseCursor number) r = inl refl
    by_command _ r = absurd r

-- ---- entries

module _ (read : List ℕ → Result Command Refusal) where
  pub commands_of-append : (xs ys : List Entry) → commands_of read (xs ++ ys) ≡ commands_of read xs ++ commands_of read ys
  commands_of-append [] ys = refl
  commands_of-append (Long ∷ xs) ys = commands_of-append xs ys
  commands_of-append (Unfinished ∷ xs) ys = commands_of-append xs ys
  commands_of-append (Bytes bytes ∷ xs) ys = by_read (read bytes) (commands_of-append xs ys)
    where
      by_read : (r : Result Command Refusal) → commands_of read (xs ++ ys) ≡ commands_of read xs ++ commands_of read ys
          → before_others read r (commands_of read (xs ++ ys)) ≡ before_others read r (commands_of read xs) ++ commands_of read ys
      by_read (Ok c) same = ap (λ cs. c ∷ cs) same
      by_read (Err refusal) same = same

  pub last_of : (db : Database) (entries : List Entry) → last read db entries ≡ after_all db (commands_of read entries)
  last_of db [] = refl
  last_of db (Long ∷ entries) = last_of db entries
  last_of db (Unfinished ∷ entries) = last_of db entries
  last_of db (Bytes bytes ∷ entries) = by_read (read bytes) (λ c. last_of (step db c).0 entries) (last_of db entries)
    where
      by_read : (r : Result Command Refusal) → ((c : Command) → last read (step db c).0 entries ≡ after_all (step db c).0 (commands_of read entries)) → last read db entries ≡ after_all db (commands_of read entries)
          → last read (carried_out read db r).0 entries ≡ after_all db (before_others read r (commands_of read entries))
      by_read (Ok c) one rest = one c
      by_read (Err refusal) one rest = rest

  pub script_has_enough : (db : Database) (entries : List Entry) (rows : List ℕ → ℕ) (sectors : ℕ) → IsSoundDatabase db → KeepsToPlan rows db (commands_of read entries) → planned db rows ≤ sectors
      → (front rest : List Entry) (bytes : List ℕ) (command : Command) → entries ≡ front ++ Bytes bytes ∷ rest → read bytes ≡ Ok command
      → (most (last read db front) command ≡ 0) ⊎ (enough (last read db front) (most (last read db front) command) ≤ sectors)
  script_has_enough db entries rows sectors sound plan there front rest bytes command split is =
      let here : commands_of read (Bytes bytes ∷ rest) ≡ command ∷ commands_of read rest = ap (λ r. before_others read r (commands_of read rest)) is in
      let same : commands_of read entries ≡ commands_of read front ++ command ∷ commands_of read rest =
      ap (commands_of read) split ∙ commands_of-append front (Bytes bytes ∷ rest) ∙ ap (λ cs. commands_of read front ++ cs) here in
      let kept : KeepsToPlan rows db (commands_of read front ++ command ∷ commands_of read rest) = subst (KeepsToPlan rows db) same plan in
      rw (last_of db front) (within (has_enough rows db (commands_of read front) (commands_of read rest) command (sound_few db sound) kept))
    where
      within : {P : Type 0} {m : ℕ} → P ⊎ (m ≤ planned db rows) → P ⊎ (m ≤ sectors)
      within (inl p) = inl p
      within (inr less) = inr (omega (arith, less, there))
