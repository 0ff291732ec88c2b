-- Laws of the step: what cursors keep, and what replies do not depend on.
use Rattle.std.proofs.Common.{◌≡◌, ◌≢◌, refl, sym, ap, subst, ◌∙◌, ℕ, true, false, List, [], ◌∷◌}
use Rattle.std.specs.Prelude.{Option, Some, None, Result, Ok, Err, is_some}
use Rattle.std.specs.List.{AllByRecursion}
use Rattle.std.proofs.lemmas.List.{get_or-set_other}
use Rattle.db_model.specs.declared.commands.Command.{Command}
use Rattle.db_model.specs.declared.commands.Command.TheVariants.{Ask, Aggregate, OpenCursor, FetchCursor, CloseCursor}
use Rattle.db_model.specs.declared.refusals.Refusal.{Refusal}
use Rattle.db_model.specs.Catalog.{Index}
use Rattle.db_model.specs.Database.{Relation, Cursor, Database, cursor_at}
use Rattle.db_model.specs.Refusing.{◌>>=◌, ◌>>◌}
use Rattle.db_model.specs.Step.{Reply, Refused, Reads, Outcome, Spares, outcome, replied, step, after_all}
use Rattle.db_model.proofs.Change.{Change, CursorMade, Nothing, OfRelation, OfIndex, OfCursor, Opens, Fetches, Closes, change_of}

-- ---- cursors that a command spares

module _ (place : ℕ) (cursor : Cursor) where
  abbrev Has : Database → Type 0
  Has db = cursor_at db place ≡ Some cursor

  -- the place of a cursor that is open already is no place for a new one
  not_open : (db : Database) (other : ℕ) → Has db → is_some (cursor_at db other) ≡ false → other ≢ place
  not_open db other h free e = true≢false (sym (ap (λ c. is_some c) (subst (λ k. cursor_at db k ≡ Some cursor) (sym e) h)) ∙ free)
    where
      true≢false : true ≡ false → ⊥
      true≢false e = cc

  -- a cursor that is changed is another one
  apart : (db : Database) (c : Command) (other : ℕ) (made : Option Cursor) (reply : Reply) → CursorMade db c other made reply → Spares place c → Has db → other ≢ place
  apart db _ _ _ _ (Opens number query other rows at free e) s h = not_open db other h free
  apart db _ _ _ _ (Fetches number c at) s h = λ same. s (at.place ∙ ap (λ k. Some k) same)
  apart db _ _ _ _ (Closes number c at) s h = λ same. s (at.place ∙ ap (λ k. Some k) same)

  keeps : (db : Database) (c : Command) (d : Database × Reply) → Change db c d → Spares place c → Has db → Has d.0
  keeps db _ _ (Nothing c reply a) s h = h
  keeps db _ _ (OfRelation c version slot r reply m) s h = h
  keeps db _ _ (OfIndex c slot index m) s h = h
  keeps db _ _ (OfCursor c other made reply m) s h = get_or-set_other db.cursors other place made None (λ e. apart db c other made reply m s h (sym e)) ∙ h

  -- an open cursor keeps its rows through commands that neither fetch from it nor close it
  pub cursor_kept : (db : Database) (commands : List Command) → AllByRecursion (Spares place) commands → cursor_at db place ≡ Some cursor → cursor_at (after_all db commands) place ≡ Some cursor
  cursor_kept db [] s h = h
  cursor_kept db (c ∷ commands) s h = cursor_kept ((step db c).0) commands s.1 (keeps db c (step db c) (change_of db c) s.0 h)

-- ---- replies that do not depend on indexes and versions

abbrev reply_of : Outcome → Reply
reply_of (Ok done) = done.1
reply_of (Err refusal) = Refused refusal

replied-reply : (db : Database) (o : Outcome) → (replied db o).1 ≡ reply_of o
replied-reply db (Ok done) = refl
replied-reply db (Err refusal) = refl

same_by : {A : Type 0} (x : Result A Refusal) (f g : A → Outcome) → ((v : A) → reply_of (f v) ≡ reply_of (g v)) → reply_of (◌>>=◌ x f) ≡ reply_of (◌>>=◌ x g)
same_by (Ok v) f g same = same v
same_by (Err refusal) f g same = refl

same_then : {A : Type 0} (x : Result A Refusal) (rest other : Outcome) → reply_of rest ≡ reply_of other → reply_of (◌>>◌ x rest) ≡ reply_of (◌>>◌ x other)
same_then (Ok v) rest other same = same
same_then (Err refusal) rest other same = refl

-- a database with other index slots and another version
abbrev pub with_others : Database → ℕ → List (Option Index) → Database
with_others db version indexes = record db { version = version; indexes = indexes }

same_outcome : (db : Database) (version : ℕ) (indexes : List (Option Index)) (c : Command) → Reads c → reply_of (outcome (with_others db version indexes) c) ≡ reply_of (outcome db c)
same_outcome db version indexes (Ask query) r = search same_by depth 20
same_outcome db version indexes (Aggregate list relation nodes) r = search same_by depth 20
same_outcome db version indexes (OpenCursor number query) r = search (same_by, same_then) depth 20
same_outcome db version indexes (FetchCursor number) r = search same_by depth 20
same_outcome db version indexes (CloseCursor number) r = search same_by depth 20
same_outcome db version indexes _ r = absurd r

-- databases with the same relations and cursors reply alike to queries, aggregates and cursors
pub replies_alike : (a b : Database) (c : Command) → a.relations ≡ b.relations → a.cursors ≡ b.cursors → Reads c → (step a c).1 ≡ (step b c).1
replies_alike a b c relations cursors r =
    let made : List (Option Relation) → List (Option Cursor) → Database =
    λ relations cursors. record { version = b.version; relations = relations; indexes = b.indexes; cursors = cursors } in
    let other : with_others a b.version b.indexes ≡ b = ap (λ rs. made rs a.cursors) relations ∙ ap (λ cs. made b.relations cs) cursors in
    replied-reply a (outcome a c)
    ∙ sym (same_outcome a b.version b.indexes c r)
    ∙ ap (λ db. reply_of (outcome db c)) other
    ∙ sym (replied-reply b (outcome b c))
