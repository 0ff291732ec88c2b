-- The answer to a command that changes the catalog, by what the machine makes of it.
use Rattle.std.proofs.Common.{◌≡◌, ℕ, List, Option, Some, None, refl, ap, sym, ◌∙◌, Ok, Err}
use Rattle.std.specs.Prelude.{Result}
use Rattle.afl_base.specs.Files.{Table}
use Rattle.db_model.specs.declared.refusals.Refusal.{Refusal}
use Rattle.db_model.specs.declared.refusals.Refusal.TheVariants as no
use Rattle.db_model.specs.Database.{Database, Relation, with_relation}
use Rattle.db_model.specs.Step.{Fine, Outcome, Reply, changed_by, upgraded}
use Rattle.tuple_file.specs.declared.tuples.Tuples.{Tuples}
use Rattle.session_model.specs.declared.held.Held.{Held}
use Rattle.session_model.specs.declared.held.Open.{Open}
use Rattle.session_model.specs.Cells.{cell_from}
use Rattle.session_model.specs.View.{relation_of_rows, view}
use Rattle.session_model.proofs.Views.{named_none, named_some}
use Rattle.session_model.specs.declared.answer.Answer.TheVariants as answer
use Rattle.session_model.specs.Answers.{Changed}

pub answers_fine : (made : Outcome) (old new db : Database) → made ≡ Ok (db, Fine) → new ≡ record db { version = 2 } → Changed (upgraded made) old new answer.Fine
answers_fine made old new db e same = ap upgraded e ∙ ap (λ (d : Database). Ok (d, Fine)) (sym same)

pub answers_space : (made : Outcome) (old new db : Database) (need : ℕ) → made ≡ Ok (db, Fine) → new ≡ old → Changed (upgraded made) old new (answer.NoSpace need)
answers_space made old new db need e same = (rw e refl, same)

-- ---- a change of the relation of a name

module _ (files : Table) (held : Held) (opens : List (Option Open)) (name : List ℕ) (change : ℕ → Database → Relation → Result (Relation × Reply) Refusal) where
  pub changed_missing : cell_from name 0 held.relations ≡ None → changed_by change (view files held opens) name ≡ Err no.NoRelation
  changed_missing e = rw (named_none files held opens name e) refl

  pub changed_refused : (slot : ℕ) (t : Tuples) (refusal : Refusal) → cell_from name 0 held.relations ≡ Some (slot, t) → change slot (view files held opens) (relation_of_rows files t) ≡ Err refusal
      → changed_by change (view files held opens) name ≡ Err refusal
  changed_refused slot t refusal found refused = rw (named_some files held opens name slot t found, refused) refl

  pub changed_made : (slot : ℕ) (t : Tuples) (r : Relation) → cell_from name 0 held.relations ≡ Some (slot, t) → change slot (view files held opens) (relation_of_rows files t) ≡ Ok (r, Fine)
      → changed_by change (view files held opens) name ≡ Ok (with_relation (view files held opens) slot (Some r), Fine)
  changed_made slot t r found made = rw (named_some files held opens name slot t found, made) refl
