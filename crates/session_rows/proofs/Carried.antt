-- What a command on the rows of one relation makes of the database of a session.
use Rattle.std.proofs.Common.{◌≡◌, ◌≢◌, ℕ, List, ◌++◌, map, take, drop, get_or, Option, Some, None, Ok, Err, refl, ap, sym, subst, ◌∙◌, inl, inr, IsTrue}
use Rattle.std.specs.Prelude.{Result, IfSome, IsErrAnd, IsOk, OnErr, OnOk}
use Rattle.std.proofs.Math.Logic.{⊎_elim}
use Rattle.std.proofs.lemmas.Result.{err_from_is_err_and}
use Rattle.afl_base.specs.declared.failed.Failed.{Failed}
use Rattle.afl_base.specs.declared.files.Files.{Ghosts as FilesOf}
use Rattle.afl_base.specs.declared.kind.FileError.TheVariants.{Failed as FileFailed}
use Rattle.afl_base.specs.CutFiles.{MendsToState}
use Rattle.afl_base.specs.Files.{Table}
use Rattle.afl_base.specs.Keeping.{Changes, ChangesOrLacks}
use Rattle.afl_base.specs.Sparing.{TakesNoPage}
use Rattle.afl_base.proofs.FrameLaws.{spares_fewer}
use Rattle.db_model.specs.declared.commands.Command.{Command}
use Rattle.db_model.specs.declared.commands.Command.TheVariants as command
use Rattle.db_model.specs.declared.commands.Node.{Node}
use Rattle.db_model.specs.declared.refusals.Refusal.{Refusal}
use Rattle.db_model.specs.Ahead.{is_refused, moved}
use Rattle.db_model.specs.Between.{AreAlike}
use Rattle.db_model.specs.Cond.{condition_of}
use Rattle.db_model.specs.Database.{Database, Relation, bare, with_relation}
use Rattle.db_model.specs.Row.{Row}
use Rattle.db_model.specs.Sound.{BringsNames, IsSoundDatabase}
use Rattle.db_model.proofs.SoundSteps.{step_sound}
use Rattle.db_model.specs.Step.{Outcome, Reads, Reply, changed_by, outcome, remove_from, removed_row, replied, step}
use Rattle.index_set.specs.Tables.{Tables}
use Rattle.tuple_file.specs.declared.tuples.Tuples.{Tuples}
use Rattle.tuple_file.specs.Tuples.{rows}
use Rattle.session_model.specs.declared.answer.Answer.{Answer}
use Rattle.session_model.specs.declared.base.Base.{Base}
use Rattle.session_model.specs.declared.held.Held.{Held}
use Rattle.session_model.specs.declared.held.Open.{Open}
use Rattle.session_model.specs.Answers.{Changed, OnDone, OnNoSpace, OnNothing}
use Rattle.session_model.specs.Carried.{Carries, MendsBetween, Runs, Tells, aheads, database}
use Rattle.session_model.specs.Cells.{cell_from}
use Rattle.session_model.specs.Frames.{StaysAt}
use Rattle.session_model.specs.Indexed.{infos_of}
use Rattle.session_model.specs.View.{relation_of_rows, view}
use Rattle.session_model.specs.Wanted.{WantsFew, WantsNone}
use Rattle.session_model.proofs.ReadAs.{rows_alike}
use Rattle.session_model.proofs.Views.{gives_of_one, named_some, view_set}
use Rattle.session_model.proofs.Wanted.{relation_seen}
use Rattle.session_rows.specs.Changes.{RunsOn}
use Rattle.session_rows.specs.CutRows.{AddsPartOfRow, MayChange, MayRemove}
use Rattle.session_rows.proofs.CutTables.{changed_cut, kept_cut, removed_cut}
use Rattle.session_rows.proofs.Changes.{one_of}
use Rattle.session_rows.proofs.Cuts.{map_whole}
use Rattle.session_rows.proofs.Refusals.{accepted_removal}
use Rattle.session_model.proofs.Carrying.{ahead_stays}

pub carries_of_one : {V : Type 0} (v : FilesOf V) (command : Command) (change : ℕ → Database → Relation → Result (Relation × Reply) Refusal) (name : List ℕ) (old : Base V) (files : V) (tables : Tables)
    (k : ℕ) (t : Tuples) (a : Answer) → outcome (database v old) command ≡ changed_by change (database v old) name → moved (database v old) (aheads v old) command ≡ aheads v old → (Reads command → ⊥)
    → cell_from name 0 old.held.relations ≡ Some (k, t) → get_or old.held.relations k None ≡ Some t
    → (Tells v old → Changed (change k (database v old) (relation_of_rows (v.state old.files).files t)) (relation_of_rows (v.state old.files).files t) (relation_of_rows (v.state files).files t) a)
    → RunsOn (v.state old.files) (v.state files) tables old.held old.opens k
    → (Tells v old → OnNoSpace {E = Failed} (Ok a) (λ need. WantsFew (v.asks files) (v.state files).files (view (v.state files).files old.held old.opens) command need))
    → OnNoSpace {E = Failed} (Ok a) (λ need. v.lacks files need)
    → (Tells v old → WantsNone (v.asks old.files) (v.state old.files).files (database v old) command → OnDone {E = Failed} (Ok a) (TakesNoPage v.is_free (v.state old.files).store (v.state files).store))
    → OnNothing {E = Failed} (Ok a) (v.state files ≡ v.state old.files)
    → Changes {E = Failed} v.state v.lent v.reads v.faults old.files files (Ok a) → Carries v command old (record old { files = files; tables = tables }) (Ok a)
carries_of_one v command change name old files tables k t a is stays changes cell there made runs wants lacks spares untouched frame = record {
  done = λ told. subst (λ o. Changed o (database v old) (view (v.state files).files old.held old.opens) a) (sym is)
      (gives_of_one change (v.state old.files).files (v.state files).files old.held old.held old.opens name k t a cell (one_of (v.state old.files) (v.state files) tables old.held old.opens k t there runs told) (made told));
  running = runs.running;
  ahead = λ told. ahead_stays (is_refused ((step (database v old) command).1)) (aheads v old) _ _ stays (runs.aheads told);
  tells = runs.tells;
  wants = wants;
  lacks = lacks;
  spares = spares;
  cut = λ cuts told sound. tt;
  untouched = untouched;
  same = λ reads. absurd (changes reads);
  reads = λ told reads. absurd (changes reads);
  frame = frame;
}

-- a failure
pub carries_failed : {V T : Type 0} (v : FilesOf V) (command : Command) (old new : Base V) (r : Result T Failed) (e : Failed) (q : Result Answer Failed) → r ≡ Err e → IsErrAnd q (λ y. y ≡ e)
    → (Reads command → ⊥) → (IsTrue v.cuts → Tells v old → IsSoundDatabase (database v old) → OnErr r (MendsBetween v new.files (database v old) command))
    → Changes v.state v.lent v.reads v.faults old.files new.files r → Carries v command old new q
carries_failed {T = T} v command old new r e q was is changes cut frame =
    let said = err_from_is_err_and q is in
    let left = subst (λ (z : Result T Failed). IsTrue v.cuts → Tells v old → IsSoundDatabase (database v old) → OnErr z (MendsBetween v new.files (database v old) command)) was cut in
    let f = subst (λ (z : Result T Failed). Changes v.state v.lent v.reads v.faults old.files new.files z) was frame in
    subst (λ (z : Result Answer Failed). Carries v command old new z) (sym said.1) (record {
      done = λ told. tt;
      running = tt;
      ahead = λ told. tt;
      tells = tt;
      wants = λ told. tt;
      lacks = tt;
      spares = λ told never. tt;
      cut = left;
      untouched = tt;
      same = λ reads. absurd (changes reads);
      reads = λ told reads. absurd (changes reads);
      frame = record { store = f.store; lent = f.lent; later = f.later; cause = record { later = f.cause.later; failed = f.cause.failed } };
    })

-- ---- a command that broke off

-- what is made of the relation of a name is made of the database
made_of_one : (change : ℕ → Database → Relation → Result (Relation × Reply) Refusal) (files : Table) (held : Held) (opens : List (Option Open)) (name : List ℕ) (k : ℕ) (t : Tuples) (now : Relation) (reply : Reply)
    → cell_from name 0 held.relations ≡ Some (k, t) → change k (view files held opens) (relation_of_rows files t) ≡ Ok (now, reply)
    → changed_by change (view files held opens) name ≡ Ok (with_relation (view files held opens) k (Some now), reply)
made_of_one change files held opens name k t now reply cell made = rw (named_some files held opens name k t cell, made) refl

-- a relation is put where it stands
put_same : (files : Table) (held : Held) (opens : List (Option Open)) (k : ℕ) (t : Tuples) → get_or held.relations k None ≡ Some t
    → with_relation (view files held opens) k (Some (relation_of_rows files t)) ≡ view files held opens
put_same files held opens k t there =
    sym (view_set files files held held opens k t (record { there = there; version = refl; relations = refl; indexes = refl; others = λ j s other e. refl; cursors = λ n o e. refl }))

-- what is like a database is like one that is the same
alike : {now a b : Database} → AreAlike now (bare a) → a ≡ b → AreAlike now (bare b)
alike {now} h e = subst (λ (z : Database). AreAlike now (bare z)) e h

module _ {V : Type 0} (v : FilesOf V) (base : Base V) (files : V) (k : ℕ) (t : Tuples) (runs : Runs v base) (told : Tells v base) (there : get_or base.held.relations k None ≡ Some t)
    (sound : IsSoundDatabase (database v base)) where
  -- a relation of which all or nothing was changed
  pub between_one : (command : Command) (change : ℕ → Database → Relation → Result (Relation × Reply) Refusal) (name : List ℕ) → outcome (database v base) command ≡ changed_by change (database v base) name
      → cell_from name 0 base.held.relations ≡ Some (k, t) → BringsNames command
      → MendsToState v.mends (v.state files).store (λ after. MayChange (v.state base.files) after base.tables t (infos_of k t base.held.indexes) (change k (database v base) (relation_of_rows (v.state base.files).files t)))
      → MendsBetween v files (database v base) command
  between_one command change name is cell brings m =
      let old = v.state base.files in
      let db = database v base in
      let after = m.after in
      let now = relation_of_rows after.files t in
      let put = rows_alike old after base.tables base.held base.opens runs told k t there m.is.others in record {
        files = after.files;
        mends_to = m.mends_to;
        cut = ⊎_elim
            (λ (e : AddsPartOfRow old after t). kept_cut old base.tables base.held base.opens runs told sound k t there after m.is.others e)
            (λ s.
            let made = is ∙ made_of_one change old.files base.held base.opens name k t now s.0 cell s.1 in
            let step_is : (step db command).0 ≡ with_relation db k (Some now) = ap (λ (o : Outcome). (replied db o).0) made in
            changed_cut old base.tables base.held base.opens runs told sound k t there after m.is.others (subst IsSoundDatabase step_is (step_sound db command brings sound)) s.2)
            m.is.left;
        is = ⊎_elim
            (λ (e : AddsPartOfRow old after t). inl (alike (put (rows old.files t) e.same) (put_same old.files base.held base.opens k t there)))
            (λ s. inr (inl (alike (put (rows after.files t) refl)
            (sym (ap (λ (o : Outcome). (replied db o).0) (is ∙ made_of_one change old.files base.held base.opens name k t now s.0 cell s.1))))))
            m.is.left;
      }

  -- rows of which those in the first slots are removed
  pub between_removed : (name : List ℕ) (nodes : List Node) → cell_from name 0 base.held.relations ≡ Some (k, t) → IsOk (remove_from (condition_of nodes) k (database v base) (relation_of_rows (v.state base.files).files t))
      → MendsToState v.mends (v.state files).store (λ after. MayRemove (v.state base.files) after t (condition_of nodes)) → MendsBetween v files (database v base) (command.RemoveFrom name nodes)
  between_removed name nodes cell accepted m =
      let old = v.state base.files in
      let db = database v base in
      let after = m.after in
      let condition = condition_of nodes in
      let all : List Row = rows old.files t in
      let change : Row → Row = removed_row t.schema.attributes condition in
      let front = m.is.rows in
      let spared = spares_fewer old after (λ j. j ≢ t.file) (StaysAt t.file (infos_of k t base.held.indexes)) m.is.others (λ j stays. stays.0) in
      let put = rows_alike old after base.tables base.held base.opens runs told k t there spared in
      let made = made_of_one (remove_from condition) old.files base.held base.opens name k t _ _ cell (accepted_removal condition k db (relation_of_rows old.files t) accepted) in record {
        files = after.files;
        mends_to = m.mends_to;
        cut = removed_cut old base.tables base.held base.opens runs told sound k t there after m.is.others m.is.whole condition front.done front.is;
        is = ⊎_elim
            (λ none. inl (alike (put all (front.is ∙ ap (λ (n : ℕ). map change (take n all) ++ drop n all) none)) (put_same old.files base.held base.opens k t there)))
            (λ some. inr (⊎_elim
            (λ whole. inl (alike (put (map change all) (front.is ∙ ap (λ (n : ℕ). map change (take n all) ++ drop n all) whole ∙ map_whole change all))
            (sym (ap (λ (o : Outcome). (replied db o).0) made))))
            (λ few. inr (
              rw made refl,
              record {
                slot = k;
                r = relation_of_rows old.files t;
                named = relation_seen old.files base.held base.opens name k t cell;
                few = few;
                slots = front.done;
                is = put (map change (take front.done all) ++ drop front.done all) front.is;
              },
            ))
            some))
            front.whole;
      }

-- ---- failures

-- two things that are so of a failure
pub on_both : {T E P Q R : Type 0} (r : Result T E) → (P → Q → R) → OnErr r P → OnErr r Q → OnErr r R
on_both (Ok x) f p q = tt
on_both (Err e) f p q = f p q

-- a call that asks for space failed
pub changes_failed : {V T U : Type 0} (v : FilesOf V) (old new : V) (failed : Failed) → ChangesOrLacks {T = T} v.state v.lent v.reads v.faults v.lacks old new (Err FileFailed)
    → Changes {T = U} v.state v.lent v.reads v.faults old new (Err failed)
changes_failed v old new failed f = record { store = f.store; lent = f.lent; later = f.later; cause = record { later = f.cause.later; failed = f.cause.failed refl } }

-- ---- what is said where there is a relation of a name, and where a call did not fail

pub if_found : {A : Type 0} (o : Option A) (Q : A → Type 0) (P : Type 0) → P → IfSome o (λ found. Q found → P)
if_found None Q P p = tt
if_found (Some x) Q P p = λ q. p

pub unless_failed : {T E : Type 0} (q : Result T E) (e : E) (P : Type 0) → IsErrAnd q (λ y. y ≡ e) → OnOk q P
unless_failed (Ok x) e P is = absurd is
unless_failed (Err y) e P is = tt
