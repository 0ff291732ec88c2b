-- A relation that no cursor reads and no index stands on is taken away.
use Rattle.std.proofs.Common.{◌≡◌, ℕ, zero, suc, ◌<◌, Bool, true, false, cond, eqb, List, [], ◌∷◌, length, map, get_or, Option, Some, None, refl, ap, sym, ◌∙◌, subst, Ok, Err}
use Rattle.std.specs.Prelude.{Result, ⊤, nat_lt, option_map}
use Rattle.padded.proofs.Facts.{some_same}
use Rattle.afl_base.specs.Files.{IsUnnamed, State, Table}
use Rattle.catalog.proofs.Replaced.{read_back}
use Rattle.db_model.specs.declared.refusals.Refusal.{Refusal}
use Rattle.db_model.specs.declared.refusals.Refusal.TheVariants as no
use Rattle.db_model.specs.Catalog.{Index}
use Rattle.db_model.specs.Database.{reader_from, with_relation}
use Rattle.db_model.specs.Refusing.{◌>>◌}
use Rattle.db_model.specs.Step.{Fine, refuse_indexed, refuse_read, remove_relation}
use Rattle.index_set.specs.Tables.{Tables}
use Rattle.space_model.specs.FileNames.{rows_file}
use Rattle.tuple_file.specs.declared.tuples.Tuples.{Tuples}
use Rattle.session_model.specs.declared.held.Held.{Held}
use Rattle.session_model.specs.declared.held.Indexed.{Indexed}
use Rattle.session_model.specs.declared.held.Open.{Open}
use Rattle.session_model.specs.Cells.{cell_from}
use Rattle.session_model.specs.Frames.{with_tuples}
use Rattle.session_model.specs.Indexed.{index_known}
use Rattle.session_model.specs.Running.{IsRunning, ReadsRows}
use Rattle.session_model.specs.View.{cursor_in, view}
use Rattle.session_model.proofs.Catalogs.{RelationChanges}
use Rattle.session_model.proofs.Running.{reads_other, is_equal}
use Rattle.session_model.proofs.Views.{named_none, named_some}
use Rattle.session_relations.specs.Changes.{PutsSlot, Shows, changed_at, indexes_on, refuse_removal}
use Rattle.session_relations.proofs.Shown.{shows_changed}

-- ---- refusals

module _ (files : Table) (held : Held) (opens : List (Option Open)) (name : List ℕ) (slot : ℕ) where
  pub removal_read : (cursor : ℕ) → reader_from name 1 (map (option_map (cursor_in files)) opens) ≡ Some cursor → refuse_removal (view files held opens) name slot ≡ Err (no.InUse cursor)
  removal_read cursor e = rw e refl

  pub removal_indexed : reader_from name 1 (map (option_map (cursor_in files)) opens) ≡ None → nat_lt 0 (length (indexes_on slot held.indexes)) ≡ true
      → refuse_removal (view files held opens) name slot ≡ Err no.HasIndex
  removal_indexed e has = rw (e, has) refl

  pub removal_free : reader_from name 1 (map (option_map (cursor_in files)) opens) ≡ None → nat_lt 0 (length (indexes_on slot held.indexes)) ≡ false
      → refuse_removal (view files held opens) name slot ≡ Ok tt
  removal_free e has = rw (e, has) refl

-- ---- the relation is gone

first_on : (k : ℕ) (x : Index) (rest : List Index) (b : Bool) → b ≡ true → cond b (x ∷ rest) rest ≡ [] → ⊥
first_on k x rest true is e = cc
first_on k x rest false is e = absurd (cc)

later_on : (x : Index) (rest : List Index) (b : Bool) → cond b (x ∷ rest) rest ≡ [] → rest ≡ []
later_on x rest true e = absurd (cc)
later_on x rest false e = e

-- no index stands on it
none_on : (k : ℕ) (xs : List (Option Indexed)) → indexes_on k xs ≡ [] → (j : ℕ) (y : Indexed) → get_or xs j None ≡ Some y → y.relation ≡ k → ⊥
none_on k [] none j y e rel = absurd (cc)
none_on k (None ∷ xs) none zero y e rel = absurd (cc)
none_on k (None ∷ xs) none (suc j) y e rel = none_on k xs none j y e rel
none_on k (Some x ∷ xs) none zero y e rel =
    let same = some_same x y e in
    first_on k (index_known x) (indexes_on k xs) (eqb x.relation k) (is_equal x.relation k (ap (λ (z : Indexed). z.relation) same ∙ rel)) none
none_on k (Some x ∷ xs) none (suc j) y e rel = none_on k xs (later_on (index_known x) (indexes_on k xs) (eqb x.relation k) none) j y e rel

module _ (old new : State) (tables : Tables) (held : Held) (opens : List (Option Open)) (r : IsRunning old tables held opens) (k cat : ℕ) (t : Tuples) (has : held.cat ≡ Some cat) (below : k < 8)
    (there : get_or held.relations k None ≡ Some t) (unread : reader_from t.schema.name 1 (map (option_map (cursor_in old.files)) opens) ≡ None) (alone : indexes_on k held.indexes ≡ [])
    (put : PutsSlot old new cat k None) (gone : IsUnnamed new.files (rows_file k)) where
  removed : RelationChanges old new tables held opens k None cat
  removed = record {
    below = below;
    has = has;
    leaves = put.leaves;
    bytes = put.bytes;
    idle = put.idle;
    back = λ told. read_back None tt;
    slot = gone;
    indexes = λ j y e rel. absurd (none_on k held.indexes alone j y e rel);
    unread = λ s e n o is reads. reads_other old.files t 1 opens unread n o is (subst (λ (z : Tuples). ReadsRows o z) (some_same s t (sym e ∙ there)) reads);
  }

  pub shows_removed : Shows old new tables (with_tuples held k None) opens (changed_at (view old.files held opens) k None)
  shows_removed = shows_changed old new tables held opens r k None cat removed

-- ---- what the machine makes of it

refused_then : {B : Type 0} (a b : Result ⊤ Refusal) (rest : Result B Refusal) (refusal : Refusal) → ◌>>◌ a b ≡ Err refusal → ◌>>◌ a (◌>>◌ b rest) ≡ Err refusal
refused_then (Err x) b rest refusal e = let same : x ≡ refusal = cc in ap (λ (y : Refusal). Err y) same
refused_then (Ok x) (Err y) rest refusal e = let same : y ≡ refusal = cc in ap (λ (z : Refusal). Err z) same
refused_then (Ok x) (Ok y) rest refusal e = absurd (cc)

passed_then : {B : Type 0} (a b : Result ⊤ Refusal) (rest : Result B Refusal) → ◌>>◌ a b ≡ Ok tt → ◌>>◌ a (◌>>◌ b rest) ≡ rest
passed_then (Err x) b rest e = absurd (cc)
passed_then (Ok x) (Err y) rest e = absurd (cc)
passed_then (Ok x) (Ok y) rest e = refl

module _ (files : Table) (held : Held) (opens : List (Option Open)) (name : List ℕ) where
  pub removal_missing : cell_from name 0 held.relations ≡ None → remove_relation (view files held opens) name ≡ Err no.NoRelation
  removal_missing e = rw (named_none files held opens name e) refl

  pub removal_refused : (slot : ℕ) (t : Tuples) (refusal : Refusal) → cell_from name 0 held.relations ≡ Some (slot, t) → refuse_removal (view files held opens) name slot ≡ Err refusal
      → remove_relation (view files held opens) name ≡ Err refusal
  removal_refused slot t refusal e refused =
      rw (named_some files held opens name slot t e)
      (refused_then (refuse_read (view files held opens) name) (refuse_indexed (view files held opens) slot) _ refusal refused)

  pub removal_made : (slot : ℕ) (t : Tuples) → cell_from name 0 held.relations ≡ Some (slot, t) → refuse_removal (view files held opens) name slot ≡ Ok tt
      → remove_relation (view files held opens) name ≡ Ok (with_relation (view files held opens) slot None, Fine)
  removal_made slot t e free =
      rw (named_some files held opens name slot t e)
      (passed_then (refuse_read (view files held opens) name) (refuse_indexed (view files held opens) slot) _ free)
