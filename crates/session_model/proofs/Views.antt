-- The database of which one relation changes.
use Rattle.std.proofs.Common.{◌≡◌, ◌≢◌, ℕ, zero, suc, ◌+◌, Bool, true, false, cond, List, [], ◌∷◌, map, set, get_or, Option, Some, None, refl, ap, sym, ◌∙◌, arith, Ok, Err}
use Rattle.std.specs.Prelude.{IsOk, Result, option_map}
use Rattle.std.specs.Str.{bytes_eq}
use Rattle.std.proofs.lemmas.Bool.{false≢true}
use Rattle.afl_base.specs.Files.{Table}
use Rattle.db_model.specs.declared.refusals.Refusal.{Refusal}
use Rattle.db_model.specs.declared.refusals.Refusal.TheVariants as no
use Rattle.db_model.specs.Database.{Database, Relation, named, relation_from, with_relation}
use Rattle.db_model.specs.Refusing.{◌>>=◌}
use Rattle.db_model.specs.Step.{Reply, changed_by}
use Rattle.tuple_file.specs.declared.tuples.Tuples.{Tuples}
use Rattle.session_model.specs.declared.answer.Answer.{Answer}
use Rattle.session_model.specs.declared.answer.Answer.TheVariants as answer
use Rattle.session_model.specs.declared.held.Held.{Held}
use Rattle.session_model.specs.declared.held.Open.{Open}
use Rattle.session_model.specs.Answers.{Changed}
use Rattle.session_model.specs.Cells.{cell_from}
use Rattle.session_model.specs.Indexed.{index_known}
use Rattle.session_model.specs.View.{cursor_in, relation_of_rows, view}

-- ---- slots

pub mapped_same : {A B : Type 0} (f g : A → B) (slots : List (Option A)) → ((j : ℕ) (s : A) → get_or slots j None ≡ Some s → f s ≡ g s) → map (option_map f) slots ≡ map (option_map g) slots
mapped_same f g [] h = refl
mapped_same f g (None ∷ slots) h = ap (λ xs. None ∷ xs) (mapped_same f g slots (λ j s e. h (suc j) s e))
mapped_same f g (Some a ∷ slots) h = λ i. Some (h zero a refl i) ∷ mapped_same f g slots (λ j s e. h (suc j) s e) i

pub mapped_set : {A B : Type 0} (f g : A → B) (slots : List (Option A)) (k : ℕ) (t : A) → get_or slots k None ≡ Some t
    → ((j : ℕ) (s : A) → j ≢ k → get_or slots j None ≡ Some s → f s ≡ g s) → map (option_map f) slots ≡ set (map (option_map g) slots) k (Some (f t))
mapped_set f g [] k t is h = absurd (cc)
mapped_set f g (o ∷ slots) zero t is h = λ i. ap (option_map f) is i ∷ mapped_same f g slots (λ j s e. h (suc j) s (λ z. absurd (omega arith)) e) i
mapped_set f g (None ∷ slots) (suc k) t is h = ap (λ xs. None ∷ xs) (mapped_set f g slots k t is (λ j s other e. h (suc j) s (λ z. other (omega arith)) e))
mapped_set f g (Some a ∷ slots) (suc k) t is h =
    λ i. Some (h zero a (λ z. absurd (omega arith)) refl i) ∷ mapped_set f g slots k t is (λ j s other e. h (suc j) s (λ z. other (omega arith)) e) i

-- one slot is another
pub mapped_put : {A B : Type 0} (f g : A → B) (slots : List (Option A)) (k : ℕ) (o : Option A)
    → ((j : ℕ) (s : A) → j ≢ k → get_or slots j None ≡ Some s → f s ≡ g s) → map (option_map f) (set slots k o) ≡ set (map (option_map g) slots) k (option_map f o)
mapped_put f g [] k o h = refl
mapped_put f g (a ∷ slots) zero o h = λ i. option_map f o ∷ mapped_same f g slots (λ j s e. h (suc j) s (λ z. absurd (omega arith)) e) i
mapped_put f g (None ∷ slots) (suc k) o h = ap (λ xs. None ∷ xs) (mapped_put f g slots k o (λ j s other e. h (suc j) s (λ z. other (omega arith)) e))
mapped_put f g (Some a ∷ slots) (suc k) o h =
    λ i. Some (h zero a (λ z. absurd (omega arith)) refl i) ∷ mapped_put f g slots k o (λ j s other e. h (suc j) s (λ z. other (omega arith)) e) i

-- ---- relations by name

pub found_in_view : (files : Table) (name : List ℕ) (n : ℕ) (slots : List (Option Tuples))
    → relation_from name n (map (option_map (relation_of_rows files)) slots) ≡ option_map (λ (p : ℕ × Tuples). (p.0, relation_of_rows files p.1)) (cell_from name n slots)
found_in_view files name n [] = refl
found_in_view files name n (None ∷ slots) = found_in_view files name (n + 1) slots
found_in_view files name n (Some t ∷ slots) = choose (bytes_eq t.schema.name name) (found_in_view files name (n + 1) slots)
  where
    choose : (b : Bool) → relation_from name (n + 1) (map (option_map (relation_of_rows files)) slots) ≡ option_map (λ (p : ℕ × Tuples). (p.0, relation_of_rows files p.1)) (cell_from name (n + 1) slots)
        → cond b (Some (n, relation_of_rows files t)) (relation_from name (n + 1) (map (option_map (relation_of_rows files)) slots)) ≡ option_map (λ (p : ℕ × Tuples). (p.0, relation_of_rows files p.1)) (cond b (Some (n, t)) (cell_from name (n + 1) slots))
    choose true ih = refl
    choose false ih = ih

pub named_none : (files : Table) (held : Held) (opens : List (Option Open)) (name : List ℕ) → cell_from name 0 held.relations ≡ None → named (view files held opens) name ≡ Err no.NoRelation
named_none files held opens name e = rw (found_in_view files name 0 held.relations, e) refl

pub named_some : (files : Table) (held : Held) (opens : List (Option Open)) (name : List ℕ) (k : ℕ) (t : Tuples) → cell_from name 0 held.relations ≡ Some (k, t) → named (view files held opens) name ≡ Ok (k, relation_of_rows files t)
named_some files held opens name k t e = rw (found_in_view files name 0 held.relations, e) refl

-- ---- one relation has changed, and cursors have the same rows to come

pub record OneChanges (old new : Table) (held after : Held) (opens : List (Option Open)) (k : ℕ) (t : Tuples) : Type 0 where
  pub there : get_or held.relations k None ≡ Some t
  pub version : after.version ≡ held.version
  pub relations : after.relations ≡ held.relations
  pub indexes : after.indexes ≡ held.indexes
  pub others : (j : ℕ) (s : Tuples) → j ≢ k → get_or held.relations j None ≡ Some s → relation_of_rows new s ≡ relation_of_rows old s
  pub cursors : (n : ℕ) (o : Open) → get_or opens n None ≡ Some o → cursor_in new o ≡ cursor_in old o

pub view_set : (old new : Table) (held after : Held) (opens : List (Option Open)) (k : ℕ) (t : Tuples) → OneChanges old new held after opens k t
    → view new after opens ≡ with_relation (view old held opens) k (Some (relation_of_rows new t))
view_set old new held after opens k t u =
    let rs : map (option_map (relation_of_rows new)) after.relations ≡ set (map (option_map (relation_of_rows old)) held.relations) k (Some (relation_of_rows new t)) =
    ap (λ (l : List (Option Tuples)). map (option_map (relation_of_rows new)) l) u.relations ∙ mapped_set (relation_of_rows new) (relation_of_rows old) held.relations k t u.there u.others in
    let cs : map (option_map (cursor_in new)) opens ≡ map (option_map (cursor_in old)) opens = mapped_same (cursor_in new) (cursor_in old) opens u.cursors in
    λ i. record { version = u.version i; relations = rs i; indexes = map (option_map index_known) (u.indexes i); cursors = cs i }

pub view_kept : (old new : Table) (held after : Held) (opens : List (Option Open)) (k : ℕ) (t : Tuples) → OneChanges old new held after opens k t → relation_of_rows new t ≡ relation_of_rows old t
    → view new after opens ≡ view old held opens
view_kept old new held after opens k t u same =
    view_set old new held after opens k t u
    ∙ ap (λ (rs : List (Option Relation)). record (view old held opens) { relations = rs })
    (ap (λ (o : Option Relation). set (map (option_map (relation_of_rows old)) held.relations) k o) (ap (λ (r : Relation). Some r) same)
    ∙ sym (mapped_set (relation_of_rows old) (relation_of_rows old) held.relations k t u.there (λ j s other e. refl)))

-- what was made of the relation was made of the database
pub gives_of_one : (change : ℕ → Database → Relation → Result (Relation × Reply) Refusal) (old new : Table) (held after : Held) (opens : List (Option Open)) (name : List ℕ) (k : ℕ) (t : Tuples) (a : Answer)
    → cell_from name 0 held.relations ≡ Some (k, t) → OneChanges old new held after opens k t
    → Changed (change k (view old held opens) (relation_of_rows old t)) (relation_of_rows old t) (relation_of_rows new t) a
    → Changed (changed_by change (view old held opens) name) (view old held opens) (view new after opens) a
gives_of_one change old new held after opens name k t answer.Fine found u c = rw (named_some old held opens name k t found, c, view_set old new held after opens k t u) refl
gives_of_one change old new held after opens name k t (answer.Removed n) found u c = rw (named_some old held opens name k t found, c, view_set old new held after opens k t u) refl
gives_of_one change old new held after opens name k t (answer.Refused r) found u c =
    (rw (named_some old held opens name k t found, c.0) refl, view_kept old new held after opens k t u c.1)
gives_of_one change old new held after opens name k t (answer.NoSpace need) found u c =
    (rw (named_some old held opens name k t found) (fits (change k (view old held opens) (relation_of_rows old t)) c.0), view_kept old new held after opens k t u c.1)
  where
    fits : (r : Result (Relation × Reply) Refusal) → IsOk r → IsOk {T = Database × Reply} (◌>>=◌ r (λ x. Ok (with_relation (view old held opens) k (Some x.0), x.1)))
    fits (Ok x) o = refl
    fits (Err e) o = absurd (false≢true o)
