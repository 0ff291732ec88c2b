-- Entries behind entries.
use Rattle.std.proofs.Common.{◌≡◌, ℕ, ◌+◌, List, [], ◌∷◌, ◌++◌, refl, ap, sym, ◌∙◌, arith, append_assoc}
use Rattle.std.specs.Prelude.{Result, Ok, Err}
use Rattle.db_model.specs.declared.commands.Command.{Command}
use Rattle.db_model.specs.declared.refusals.Refusal.{Refusal}
use Rattle.db_model.specs.Ahead.{Aheads}
use Rattle.db_model.specs.Database.{Database}
use Rattle.db_model.specs.ReplyText.{text}
use Rattle.db_model.specs.RunCost as entries
use Rattle.db_model.specs.Script.{Entry, Long, Unfinished, Bytes}
use Rattle.db_model.specs.Script as script
use Rattle.db_model.specs.Step.{Reply}
use Rattle.run_model.specs.Scripts.{heard_in, script_talk}
use Rattle.run_model.specs.Talk.{Talk, after_entry, aheads_answered, answered, cost_answered, talk_costs, last_database, talk_aheads, talk_output}

module _ {E : Type 0} (talk : Talk E) where
  pub last-append : (db : Database) (xs ys : List E) → last_database talk db (xs ++ ys) ≡ last_database talk (last_database talk db xs) ys
  last-append db [] ys = refl
  last-append db (x ∷ xs) ys = last-append ((after_entry talk db x).0) xs ys

  pub output-append : (db : Database) (xs ys : List E) → talk_output talk db (xs ++ ys) ≡ talk_output talk db xs ++ talk_output talk (last_database talk db xs) ys
  output-append db [] ys = refl
  output-append db (x ∷ xs) ys =
      let now : List ℕ = talk.sent x (text ((after_entry talk db x).1)) in
      ap (λ rest. now ++ rest) (output-append ((after_entry talk db x).0) xs ys)
      ∙ sym (append_assoc now (talk_output talk ((after_entry talk db x).0) xs) (talk_output talk (last_database talk ((after_entry talk db x).0) xs) ys))

  pub costs-append : (db : Database) (aheads : Aheads) (xs ys : List E)
      → talk_costs talk db aheads (xs ++ ys) ≡ talk_costs talk db aheads xs + talk_costs talk (last_database talk db xs) (talk_aheads talk db aheads xs) ys
  costs-append db aheads [] ys = omega arith
  costs-append db aheads (x ∷ xs) ys = let e = costs-append ((after_entry talk db x).0) (aheads_answered db aheads (talk.heard x)) xs ys in omega (arith, e)

  pub last_aheads-append : (db : Database) (aheads : Aheads) (xs ys : List E)
      → talk_aheads talk db aheads (xs ++ ys) ≡ talk_aheads talk (last_database talk db xs) (talk_aheads talk db aheads xs) ys
  last_aheads-append db aheads [] ys = refl
  last_aheads-append db aheads (x ∷ xs) ys = last_aheads-append ((after_entry talk db x).0) (aheads_answered db aheads (talk.heard x)) xs ys

-- ---- scripts

module _ (read : List ℕ → Result Command Refusal) where
  answered_same : (db : Database) (heard : Result Command Refusal) → answered db heard ≡ script.carried_out read db heard
  answered_same db (Ok command) = refl
  answered_same db (Err refusal) = refl

  pub after_same : (db : Database) (entry : Entry) → after_entry (script_talk read) db entry ≡ script.after read db entry
  after_same db Long = refl
  after_same db Unfinished = refl
  after_same db (Bytes bytes) = answered_same db (read bytes)

  pub output_same : (db : Database) (entries : List Entry) → talk_output (script_talk read) db entries ≡ script.output read db entries
  output_same db [] = refl
  output_same db (x ∷ xs) =
      ap (λ (d : Database × Reply). text d.1 ++ talk_output (script_talk read) d.0 xs) (after_same db x)
      ∙ ap (λ rest. text ((script.after read db x).1) ++ rest) (output_same ((script.after read db x).0) xs)

  pub last_same : (db : Database) (entries : List Entry) → last_database (script_talk read) db entries ≡ script.last read db entries
  last_same db [] = refl
  last_same db (x ∷ xs) =
      ap (λ (d : Database × Reply). last_database (script_talk read) d.0 xs) (after_same db x) ∙ last_same ((script.after read db x).0) xs

  aheads_same : (db : Database) (aheads : Aheads) (heard : Result Command Refusal) → aheads_answered db aheads heard ≡ entries.aheads_read read db aheads heard
  aheads_same db aheads (Ok command) = refl
  aheads_same db aheads (Err refusal) = refl

  cost_same : (db : Database) (aheads : Aheads) (heard : Result Command Refusal) → cost_answered db aheads heard ≡ entries.cost_read read db aheads heard
  cost_same db aheads (Ok command) = refl
  cost_same db aheads (Err refusal) = refl

  entry_aheads_same : (db : Database) (aheads : Aheads) (x : Entry) → aheads_answered db aheads (heard_in read x) ≡ entries.entry_aheads read db aheads x
  entry_aheads_same db aheads Long = refl
  entry_aheads_same db aheads Unfinished = refl
  entry_aheads_same db aheads (Bytes bytes) = aheads_same db aheads (read bytes)

  entry_cost_same : (db : Database) (aheads : Aheads) (x : Entry) → cost_answered db aheads (heard_in read x) ≡ entries.entry_cost read db aheads x
  entry_cost_same db aheads Long = refl
  entry_cost_same db aheads Unfinished = refl
  entry_cost_same db aheads (Bytes bytes) = cost_same db aheads (read bytes)

  pub costs_same : (db : Database) (aheads : Aheads) (es : List Entry) → talk_costs (script_talk read) db aheads es ≡ entries.costs read db aheads es
  costs_same db aheads [] = refl
  costs_same db aheads (x ∷ xs) =
      ap (λ n. n + talk_costs (script_talk read) ((after_entry (script_talk read) db x).0) (aheads_answered db aheads (heard_in read x)) xs) (entry_cost_same db aheads x)
      ∙ ap (λ (d : Database × Reply). entries.entry_cost read db aheads x + talk_costs (script_talk read) d.0 (aheads_answered db aheads (heard_in read x)) xs) (after_same db x)
      ∙ ap (λ (a : Aheads). entries.entry_cost read db aheads x + talk_costs (script_talk read) ((script.after read db x).0) a xs) (entry_aheads_same db aheads x)
      ∙ ap (λ n. entries.entry_cost read db aheads x + n) (costs_same ((script.after read db x).0) (entries.entry_aheads read db aheads x) xs)
