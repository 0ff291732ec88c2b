-- What holds of the database of a session.
use Rattle.std.proofs.Common.{◌≡◌, refl, sym, ap, ◌∙◌, ℕ, ◌<◌, ◌≤◌, true, [], length, get_or, arith, cond, Option, Some, None}
use Rattle.std.specs.Prelude.{nat_lt}
use Rattle.std.specs.Option.{option_map_or}
use Rattle.std.proofs.lemmas.Bool.Decides.{nat_tests}
use Rattle.afl_base.specs.Files.{State}
use Rattle.antelope_engine.specs.Seen.{Seen}
use Rattle.db_model.specs.Database.{Database, Relation}
use Rattle.db_model.specs.Sound.{IsSoundDatabase}
use Rattle.space_model.specs.Enough.{rows_in}
use Rattle.dump.specs.Unchanged.{IsAsBefore}
use Rattle.db_model.proofs.SoundSteps.{limit_most}
use Rattle.padded.proofs.Facts.{some_alike}

pub few_rows : (db : Database) (k : ℕ) → IsSoundDatabase db → length (rows_in db k) ≤ 32768
few_rows db k is = by_slot (get_or db.relations k None) refl
  where
    by_slot : (slot : Option Relation) → get_or db.relations k None ≡ slot → length (option_map_or (λ r. r.rows) slot []) ≤ 32768
    by_slot None e = omega arith
    by_slot (Some r) e = let few = (is.relations k r e).slots in let most = limit_most db.version is.version in omega (arith, few, most)

-- ---- numbers of slots

by_bound : (at : ℕ) → at < 32768 → nat_lt at 32768 ≡ true
by_bound at h = grind (arith, nat_tests)

pub is_slot : (at : ℕ) (slot : Option ℕ) → at < 32768 → slot ≡ cond (nat_lt at 32768) (Some at) None → slot ≡ Some at
is_slot at slot h e = e ∙ ap (λ t. cond t (Some at) None) (by_bound at h)

pub some_slot : (at : ℕ) {s : ℕ} (slot : Option ℕ) → at < 32768 → slot ≡ cond (nat_lt at 32768) (Some at) None → slot ≡ Some s → s ≡ at
some_slot at slot h e i = some_alike (sym i ∙ is_slot at slot h e)

pub no_slot : (at : ℕ) (slot : Option ℕ) → at < 32768 → slot ≡ cond (nat_lt at 32768) (Some at) None → slot ≡ None → ⊥
no_slot at slot h e i = none (sym i ∙ is_slot at slot h e)
  where
    none : {n : ℕ} → None ≡ Some n → ⊥
    none k = cc

-- ---- sessions that are only read

pub before_on : {V : Type 0} (state : V → State) (a b c : Seen V) → IsAsBefore state a b → IsAsBefore state b c → IsAsBefore state a c
before_on state a b c h i = record {
  files = i.files ∙ h.files;
  database = i.database ∙ h.database;
  aheads = i.aheads ∙ h.aheads;
  running = i.running;
  kept = λ e. i.kept (h.kept e);
}
