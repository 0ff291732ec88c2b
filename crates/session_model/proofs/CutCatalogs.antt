-- What files mend to whose catalog was being changed: the database of a session that runs, or that with one slot changed.
use Rattle.std.proofs.Common.{◌≡◌, ◌≢◌, ℕ, ◌<◌, ◌⊎◌, inl, inr, true, List, get_or, Option, Some, None, is_some, Ok, refl, ap, sym, subst, ◌∙◌, IsTrue}
use Rattle.std.specs.Prelude.{option_map}
use Rattle.afl_base.specs.CutFiles.{MendsToState}
use Rattle.afl_base.specs.Files.{AreDistinct, IsNamed, IsUnnamed, State, Table, bytes_at}
use Rattle.afl_base.specs.Frames.{SparesOthers}
use Rattle.afl_base.proofs.FileLaws.{named_live, place_live}
use Rattle.afl_base.proofs.FrameLaws.{unnamed_by_name}
use Rattle.catalog.specs.Rules.{catalog_bytes_in, is_tree}
use Rattle.catalog.proofs.Named.{named_found, named_none}
use Rattle.db_model.specs.declared.commands.Command.{Command}
use Rattle.db_model.specs.declared.schemas.Schema.{Schema}
use Rattle.db_model.specs.Between.{AreAlike, IsBetween}
use Rattle.db_model.specs.Catalog.{Index}
use Rattle.db_model.specs.Database.{Database, Relation, bare, with_index, with_relation}
use Rattle.db_model.specs.Step.{Fine, Outcome, outcome, replied, step, upgraded}
use Rattle.index_set.specs.declared.info.Access.{Access}
use Rattle.index_set.specs.declared.info.Access.TheVariants.{Order, Tree, Table as InTable}
use Rattle.index_set.specs.Tables.{Tables}
use Rattle.space_model.specs.FileNames.{bytes_in_file, bytes_named, catalog_file, file_named, is_there, rows_file, tree_file}
use Rattle.stored.specs.CutTables.{IsCutTable}
use Rattle.stored.specs.Mended.{mended_base}
use Rattle.stored.specs.Mends.{MendsToDatabase}
use Rattle.stored.proofs.MendedBase.{alike_index, alike_relation, alike_then, relation_read}
use Rattle.stored.proofs.MendedTables.{KeepsRowsOf, KeepsTreeOf, ReadsIndex, ReadsRelation, ReadsSame, mended_alike, mended_index, mended_relation}
use Rattle.tuple_file.specs.declared.tuples.Tuples.{Tuples}
use Rattle.session_model.specs.declared.held.Held.{Held}
use Rattle.session_model.specs.declared.held.Indexed.{Indexed}
use Rattle.session_model.specs.declared.held.Open.{Open}
use Rattle.session_model.specs.Carried.{IsEither}
use Rattle.session_model.specs.Frames.{LeavesOthers}
use Rattle.session_model.specs.Running.{HasFile, IsIndexSlot, IsRelationSlot, IsRunning}
use Rattle.session_model.specs.View.{view}
use Rattle.session_model.proofs.Catalogs.{catalog_there, named_at}
use Rattle.session_model.proofs.ReadAs.{running_alike}
use Rattle.session_model.proofs.Running.{catalog_no_rows, catalog_no_tree, differ, distinct_spared, index_there, known_spared}

-- ---- files beside the catalog

-- no file but the catalog has changed
pub leaves_spares : (a b : State) (cat : ℕ) (name : List ℕ) → IsNamed a.files cat catalog_file → SparesOthers a b (λ k. k ≢ cat) → LeavesOthers a b name
leaves_spares a b cat name named f = record {
  others = λ id n is x y. f.others id (differ a.files id cat n catalog_file is named x);
  unnamed = λ n x y none. unnamed_by_name a.files b.files f.named n none;
  distinct = distinct_spared a b _ f;
  known = known_spared a b _ f;
  tells = f.tells;
}

-- the bytes of a catalog that is there
pub catalog_is : (files : Table) (cat : ℕ) → AreDistinct files → IsNamed files cat catalog_file → catalog_bytes_in files ≡ bytes_at files cat
catalog_is files cat distinct is =
    ap bytes_in_file (named_found files cat catalog_file is (λ k also. distinct k cat catalog_file also is) ∙ place_live files cat (named_live files cat catalog_file is))

-- one file has the name, or none
abbrev IsOnce : Table → List ℕ → Type 0
IsOnce files n = IsUnnamed files n ⊎ ((id : ℕ) × IsNamed files id n)

module _ (old after : State) (tables : Tables) (held : Held) (opens : List (Option Open)) (r : IsRunning old tables held opens) (name : List ℕ) (l : LeavesOthers old after name) where
  same_file : (n : List ℕ) → n ≢ catalog_file → n ≢ name → IsOnce old.files n → file_named n after.files ≡ file_named n old.files
  same_file n x y (inl none) = named_none after.files n (l.unnamed n x y none) ∙ sym (named_none old.files n none)
  same_file n x y (inr found) =
      let id : ℕ = found.0 in
      let same = l.others id n found.1 x y in
      let now = named_at old.files after.files id n same found.1 in
      named_found after.files id n now (λ k also. l.distinct r.distinct k id n also now) ∙ same ∙ sym (named_found old.files id n found.1 (λ k also. r.distinct k id n also found.1))

  rows_once : (k : ℕ) → k < 8 → IsOnce old.files (rows_file k)
  rows_once k below = by_slot (get_or held.relations k None) (r.relations k below)
    where
      by_slot : (o : Option Tuples) → IsRelationSlot old held.version k o → IsOnce old.files (rows_file k)
      by_slot None h = inl h
      by_slot (Some t) h = inr (t.file, h.named)

  tree_once : (i : ℕ) → i < 8 → IsOnce old.files (tree_file i)
  tree_once i below = by_slot (get_or held.indexes i None) refl (r.indexes i below)
    where
      by_access : (access : Access) → HasFile old.files i access → IsOnce old.files (tree_file i)
      by_access Order h = inl h
      by_access (Tree g) h = inr (g, h)
      by_access (InTable number) h = inl h

      by_slot : (o : Option Indexed) → get_or held.indexes i None ≡ o → IsIndexSlot old tables held i o → IsOnce old.files (tree_file i)
      by_slot None e h = inl h
      by_slot (Some x) e h = by_access x.access (index_there old tables held opens r i x e).indexed.file

  -- the rows of a slot have the bytes that they had
  pub rows_kept : (k : ℕ) → k < 8 → rows_file k ≢ name → bytes_named (rows_file k) after.files ≡ bytes_named (rows_file k) old.files
  rows_kept k below other = ap bytes_in_file (same_file (rows_file k) (λ same. catalog_no_rows k (sym same)) other (rows_once k below))

  -- the rows of a slot are there if they were there
  pub rows_there_kept : (k : ℕ) → k < 8 → rows_file k ≢ name → is_there (rows_file k) after.files ≡ is_there (rows_file k) old.files
  rows_there_kept k below other = ap is_some (same_file (rows_file k) (λ same. catalog_no_rows k (sym same)) other (rows_once k below))

  -- the tree of a slot has the bytes that it had
  pub tree_bytes_kept : (i : ℕ) → i < 8 → tree_file i ≢ name → bytes_named (tree_file i) after.files ≡ bytes_named (tree_file i) old.files
  tree_bytes_kept i below other = ap bytes_in_file (same_file (tree_file i) (λ same. catalog_no_tree i (sym same)) other (tree_once i below))

  -- and the tree of a slot is there if it was there
  pub tree_kept : (i : ℕ) → i < 8 → tree_file i ≢ name → is_there (tree_file i) after.files ≡ is_there (tree_file i) old.files
  tree_kept i below other = ap is_some (same_file (tree_file i) (λ same. catalog_no_tree i (sym same)) other (tree_once i below))

-- ---- slots of the catalog

module _ (old after : State) (tables : Tables) (held : Held) (opens : List (Option Open)) (r : IsRunning old tables held opens) (told : IsTrue old.tells) (cat : ℕ) (has : held.cat ≡ Some cat)
    (name : List ℕ) (l : LeavesOthers old after name) (named : IsNamed after.files cat catalog_file) where
  before : AreAlike (mended_base old.files) (bare (view old.files held opens))
  before = running_alike old tables held opens r told

  read_both : (P : List ℕ → List ℕ → Type 0) → P (bytes_at old.files cat) (bytes_at after.files cat) → P (catalog_bytes_in old.files) (catalog_bytes_in after.files)
  read_both P p =
      let was : catalog_bytes_in old.files ≡ bytes_at old.files cat = catalog_is old.files cat r.distinct (catalog_there old tables held opens cat r has).0 in
      let now : catalog_bytes_in after.files ≡ bytes_at after.files cat = catalog_is after.files cat (l.distinct r.distinct) named in
      subst (λ (b : List ℕ). P b (catalog_bytes_in after.files)) (sym was) (subst (λ (b : List ℕ). P (bytes_at old.files cat) b) (sym now) p)

  -- all slots are read as they were
  pub slots_alike : ReadsSame (bytes_at old.files cat) (bytes_at after.files cat)
      → ((k : ℕ) → k < 8 → KeepsRowsOf old.files after.files k) → ((i : ℕ) → i < 8 → KeepsTreeOf old.files after.files i)
      → AreAlike (mended_base after.files) (bare (view old.files held opens))
  slots_alike s rows trees =
      alike_then (mended_base after.files) (mended_base old.files) (bare (view old.files held opens))
      (mended_alike old.files after.files (read_both ReadsSame s) rows trees) before

  -- the slot of a relation is read as another
  pub relation_alike : (slot : ℕ) (o : Option Schema) (q : Option Relation) → slot < 8 → ReadsRelation (bytes_at old.files cat) (bytes_at after.files cat) slot o
      → ((k : ℕ) → k < 8 → k ≢ slot → KeepsRowsOf old.files after.files k) → ((i : ℕ) → i < 8 → KeepsTreeOf old.files after.files i)
      → option_map (relation_read (bytes_named (rows_file slot) after.files)) o ≡ q
      → AreAlike (mended_base after.files) (bare (with_relation (view old.files held opens) slot q))
  relation_alike slot o q below s rows trees is =
      alike_then (mended_base after.files) (with_relation (mended_base old.files) slot q) (bare (with_relation (view old.files held opens) slot q))
      (mended_relation old.files after.files slot o q below (read_both (λ was now. ReadsRelation was now slot o) s) rows trees is)
      (alike_relation (mended_base old.files) (bare (view old.files held opens)) slot q before)

  -- the slot of an index is read as another
  pub index_alike : (slot : ℕ) (o : Option Index) → slot < 8 → ReadsIndex (bytes_at old.files cat) (bytes_at after.files cat) slot o
      → ((k : ℕ) → k < 8 → KeepsRowsOf old.files after.files k) → ((i : ℕ) → i < 8 → i ≢ slot → KeepsTreeOf old.files after.files i)
      → (is_tree o ≡ true → is_there (tree_file slot) after.files ≡ true)
      → AreAlike (mended_base after.files) (bare (with_index (view old.files held opens) slot o))
  index_alike slot o below s rows trees there =
      alike_then (mended_base after.files) (with_index (mended_base old.files) slot o) (bare (with_index (view old.files held opens) slot o))
      (mended_index old.files after.files slot o below (read_both (λ was now. ReadsIndex was now slot o) s) rows trees there)
      (alike_index (mended_base old.files) (bare (view old.files held opens)) slot o before)

-- ---- the command

-- a command that changes the catalog: the database before it, or that after it
either_between : (command : Command) (made : Outcome) (before after now : Database) → outcome before command ≡ upgraded made → made ≡ Ok (after, Fine) → IsEither before after now → IsBetween before command now
either_between command made db after now is e (inl same) = inl same
either_between command made db after now is e (inr other) =
    let done : (step db command).0 ≡ record after { version = 2 } = ap (λ (o : Outcome). (replied db o).0) (is ∙ ap upgraded e) in
    inr (inl (subst (λ (d : Database). AreAlike now (bare d)) (sym done) other))

pub either_mends : {mends : List ℕ → Table → Type 0} {store : List ℕ} (command : Command) (made : Outcome) (before after : Database) → outcome before command ≡ upgraded made → made ≡ Ok (after, Fine)
    → MendsToDatabase mends store (IsEither before after) → MendsToDatabase mends store (IsBetween before command)
either_mends command made db after is e m = record {
  files = m.files;
  mends_to = m.mends_to;
  cut = m.cut;
  is = either_between command made db after (mended_base m.files) is e m.is;
}

-- files of a state that is so mend to such a database
pub database_of : {mends : List ℕ → Table → Type 0} {store : List ℕ} {P : State → Type 0} {Is : Database → Type 0} → MendsToState mends store P → ((s : State) → P s → IsCutTable s.files) → ((s : State) → P s → Is (mended_base s.files)) → MendsToDatabase mends store Is
database_of m cut follows = record { files = m.after.files; mends_to = m.mends_to; cut = cut m.after m.is; is = follows m.after m.is }
