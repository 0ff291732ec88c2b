-- Replies: none of an answer that is not NoSpace says that there was no space.
use Rattle.std.proofs.Common.{◌≡◌, ◌≢◌, ℕ, List, [], Option, Ok, Err, refl, ap, sym, ◌∙◌, arith, rules}
use Rattle.db_model.specs.Database.{Database, empty_database}
use Rattle.db_model.specs.Step.{Fine, Removed}
use Rattle.reply_text.proofs.Pieces.{append_known-nil}
use Rattle.session_model.specs.declared.answer.Answer.{Answer}
use Rattle.session_model.specs.declared.answer.Answer.TheVariants as answer
use Rattle.session_model.specs.declared.step.Step.TheVariants.{NoSpace}
use Rattle.session_model.specs.Answers.{Changed}
use Rattle.session_model.specs.Steps.{Does, Made, WrotePart}

pub part_same : (before now : Option (List ℕ)) (all : List ℕ) → now ≡ before → WrotePart before now all
part_same before now all e = record { written = []; left = all; whole = refl; held = e ∙ sym (append_known-nil before) }

abbrev older : Database
older = record empty_database { version = 1 }

-- the reply to an answer of another kind is never NoSpace
pub never_space : (a : Answer) (need : ℕ) (before now : Option (List ℕ)) → ((n : ℕ) → a ≢ answer.NoSpace n)
    → ((made : Made) (old new : Database) → Changed made old new a → Does made old new (NoSpace need) before now) → ⊥
never_space answer.Fine need before now other h = let e : 1 ≡ 2 = ap (λ (db : Database). db.version) (h (Ok (older, Fine)) empty_database older refl).0 in absurd (omega (arith, e))
never_space (answer.Removed k) need before now other h = let e : 1 ≡ 2 = ap (λ (db : Database). db.version) (h (Ok (older, Removed k)) empty_database older refl).0 in absurd (omega (arith, e))
never_space (answer.Refused r) need before now other h = let e = (h (Err r) older older (refl, refl)).2 in absurd (search (rules, e))
never_space (answer.NoSpace n) need before now other h = other n refl
