-- The reply to a command that is carried out is no refusal.
use Rattle.std.proofs.Common.{◌≡◌, refl, subst, ℕ, false, Option}
use Rattle.std.specs.Prelude.{IsOk}
use Rattle.db_model.specs.declared.commands.Command.{Command}
use Rattle.db_model.specs.Ahead.{is_refused}
use Rattle.db_model.specs.Database.{Database, Relation, Cursor}
use Rattle.db_model.specs.Step.{Outcome, Reply, outcome, step}
use Rattle.db_model.proofs.Change.{Answered, Change, CursorMade, RelationMade, Nothing, OfRelation, OfIndex, OfCursor, Refuses, Creates, Opens, change_of}

module _ (db : Database) where
  said_answer : (c : Command) (reply : Reply) → Answered db c reply → IsOk (outcome db c) → is_refused reply ≡ false
  said_answer _ _ (Refuses c refusal e) ok = let no = subst (λ (o : Outcome). IsOk o) e ok in absurd (let n : ⊥ = cc in n)
  said_answer _ _ _ ok = refl

  said_relation : (c : Command) (version slot : ℕ) (r : Option Relation) (reply : Reply) → RelationMade db c version slot r reply → is_refused reply ≡ false
  said_relation _ _ _ _ _ (Creates name slot fresh free) = refl
  said_relation _ _ _ _ _ _ = refl

  said_cursor : (c : Command) (place : ℕ) (cursor : Option Cursor) (reply : Reply) → CursorMade db c place cursor reply → is_refused reply ≡ false
  said_cursor _ _ _ _ (Opens number query place rows at free e) = refl
  said_cursor _ _ _ _ _ = refl

  said : (c : Command) (d : Database × Reply) → Change db c d → IsOk (outcome db c) → is_refused d.1 ≡ false
  said _ _ (Nothing c reply a) ok = said_answer c reply a ok
  said _ _ (OfRelation c version slot r reply m) ok = said_relation c version slot r reply m
  said _ _ (OfIndex c slot index m) ok = refl
  said _ _ (OfCursor c place cursor reply m) ok = said_cursor c place cursor reply m

  pub accepted : (c : Command) → IsOk (outcome db c) → is_refused ((step db c).1) ≡ false
  accepted c ok = said c (step db c) (change_of db c) ok
