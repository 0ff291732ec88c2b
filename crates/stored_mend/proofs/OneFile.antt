-- What files mend to where one of them has changed, or is gone.
use Rattle.std.proofs.Common.{◌≡◌, ◌≢◌, ℕ, zero, suc, ◌+◌, Bool, true, false, List, [], ◌∷◌, get_or, Some, None, if◌then◌else◌, refl, ap, sym, subst, ◌∙◌, arith}
use Rattle.std.specs.Prelude.{is_some, option_map}
use Rattle.std.specs.Str.{bytes_eq}
use Rattle.std.proofs.Math.Logic.{⊎_elim}
use Rattle.std.proofs.lemmas.Bool.{cases_eq}
use Rattle.std.proofs.lemmas.Slice.Eq.{bytes_eq-Decides}
use Rattle.afl_base.specs.Files.{Becomes, File, IsNamed, OthersStay, Removes, State, Table, place}
use Rattle.afl_base.proofs.FileLaws.{named_live, names_stay, one_name}
use Rattle.catalog.specs.Rules.{catalog_bytes_in, is_tree}
use Rattle.db_model.specs.Catalog.{index_at, relation_at}
use Rattle.space_model.specs.FileNames.{bytes_in_file, bytes_named, catalog_file, file_named, is_there, rows_file, tree_file}
use Rattle.stored.specs.Mended.{mended_base, whole_bytes, whole_catalog}
use Rattle.stored.proofs.MendedTables.{AreRowsKept, mended_same}

-- ---- files by name

-- where the file of a name is the same at its place, it is found the same
pub file_same : (old new : Table) (n : List ℕ) → ((k : ℕ) → IsNamed old k n → place new k ≡ place old k) → ((k : ℕ) → IsNamed new k n → place new k ≡ place old k) → file_named n new ≡ file_named n old
file_same [] [] n kept only = refl
file_same [] (None ∷ new) n kept only = file_same [] new n (λ k h. kept (suc k) h) (λ k h. only (suc k) h)
file_same [] (Some g ∷ new) n kept only = by_test (bytes_eq g.name n) refl (file_same [] new n (λ k h. kept (suc k) h) (λ k h. only (suc k) h))
  where
    by_test : (b : Bool) → bytes_eq g.name n ≡ b → file_named n new ≡ None → (if b then Some g else file_named n new) ≡ None
    by_test true t rest = only zero (ap (λ (x : List ℕ). Some x) ((bytes_eq-Decides g.name n).0 t))
    by_test false t rest = rest
file_same (None ∷ old) [] n kept only = file_same old [] n (λ k h. kept (suc k) h) (λ k h. only (suc k) h)
file_same (Some f ∷ old) [] n kept only = by_test (bytes_eq f.name n) refl (file_same old [] n (λ k h. kept (suc k) h) (λ k h. only (suc k) h))
  where
    by_test : (b : Bool) → bytes_eq f.name n ≡ b → None ≡ file_named n old → None ≡ (if b then Some f else file_named n old)
    by_test true t rest = kept zero (ap (λ (x : List ℕ). Some x) ((bytes_eq-Decides f.name n).0 t))
    by_test false t rest = rest
file_same (None ∷ old) (None ∷ new) n kept only = file_same old new n (λ k h. kept (suc k) h) (λ k h. only (suc k) h)
file_same (None ∷ old) (Some g ∷ new) n kept only = by_test (bytes_eq g.name n) refl (file_same old new n (λ k h. kept (suc k) h) (λ k h. only (suc k) h))
  where
    by_test : (b : Bool) → bytes_eq g.name n ≡ b → file_named n new ≡ file_named n old → (if b then Some g else file_named n new) ≡ file_named n old
    by_test true t rest = let e : Some g ≡ None = only zero (ap (λ (x : List ℕ). Some x) ((bytes_eq-Decides g.name n).0 t)) in absurd (cc)
    by_test false t rest = rest
file_same (Some f ∷ old) (None ∷ new) n kept only = by_test (bytes_eq f.name n) refl (file_same old new n (λ k h. kept (suc k) h) (λ k h. only (suc k) h))
  where
    by_test : (b : Bool) → bytes_eq f.name n ≡ b → file_named n new ≡ file_named n old → file_named n new ≡ (if b then Some f else file_named n old)
    by_test true t rest = let e : None ≡ Some f = kept zero (ap (λ (x : List ℕ). Some x) ((bytes_eq-Decides f.name n).0 t)) in absurd (cc)
    by_test false t rest = rest
file_same (Some f ∷ old) (Some g ∷ new) n kept only = by_test (bytes_eq f.name n) (bytes_eq g.name n) refl refl (file_same old new n (λ k h. kept (suc k) h) (λ k h. only (suc k) h))
  where
    by_test : (b c : Bool) → bytes_eq f.name n ≡ b → bytes_eq g.name n ≡ c → file_named n new ≡ file_named n old → (if c then Some g else file_named n new) ≡ (if b then Some f else file_named n old)
    by_test false false t u rest = rest
    by_test true true t u rest = kept zero (ap (λ (x : List ℕ). Some x) ((bytes_eq-Decides f.name n).0 t))
    by_test true false t u rest =
        let e : Some g ≡ Some f = kept zero (ap (λ (x : List ℕ). Some x) ((bytes_eq-Decides f.name n).0 t)) in
        let same : g.name ≡ f.name = cc in
        let no : false ≡ true = sym u ∙ ap (λ (x : List ℕ). bytes_eq x n) same ∙ t in
        absurd (cc)
    by_test false true t u rest =
        let e : Some g ≡ Some f = only zero (ap (λ (x : List ℕ). Some x) ((bytes_eq-Decides g.name n).0 u)) in
        let same : g.name ≡ f.name = cc in
        let no : false ≡ true = sym t ∙ ap (λ (x : List ℕ). bytes_eq x n) (sym same) ∙ u in
        absurd (cc)

-- no file has changed but that of a name, which may have come or be gone
pub record ChangesFile (old new : Table) (name : List ℕ) : Type 0 where
  pub id : ℕ
  pub others : OthersStay old new id
  pub before : (n : List ℕ) → IsNamed old id n → n ≡ name
  pub after : (n : List ℕ) → IsNamed new id n → n ≡ name

-- all other files are found as before
pub others_found : (old new : Table) (name n : List ℕ) → ChangesFile old new name → n ≢ name → file_named n new ≡ file_named n old
others_found old new name n c differs =
    file_same old new n
    (λ k named. c.others k (λ e. differs (c.before n (subst (λ (j : ℕ). IsNamed old j n) e named))))
    (λ k named. c.others k (λ e. differs (c.after n (subst (λ (j : ℕ). IsNamed new j n) e named))))

pub others_bytes : (old new : Table) (name n : List ℕ) → ChangesFile old new name → n ≢ name → bytes_named n new ≡ bytes_named n old
others_bytes old new name n c differs = ap bytes_in_file (others_found old new name n c differs)

pub others_there : (old new : Table) (name n : List ℕ) → ChangesFile old new name → n ≢ name → is_there n new ≡ is_there n old
others_there old new name n c differs = ap is_some (others_found old new name n c differs)

-- ---- names differ

pub catalog_no_tree : (i : ℕ) → catalog_file ≢ tree_file i
catalog_no_tree i e = let h : 67 ≡ 88 = ap (λ (xs : List ℕ). get_or xs 0 0) e in absurd (omega (arith, h))

pub catalog_no_rows : (k : ℕ) → catalog_file ≢ rows_file k
catalog_no_rows k e = let h : 67 ≡ 84 = ap (λ (xs : List ℕ). get_or xs 0 0) e in absurd (omega (arith, h))

pub rows_no_tree : (k i : ℕ) → rows_file k ≢ tree_file i
rows_no_tree k i e = let h : 84 ≡ 88 = ap (λ (xs : List ℕ). get_or xs 0 0) e in absurd (omega (arith, h))

pub tree_no_rows : (i k : ℕ) → tree_file i ≢ rows_file k
tree_no_rows i k e = rows_no_tree k i (sym e)

pub same_rows_slot : (j k : ℕ) → rows_file j ≡ rows_file k → j ≡ k
same_rows_slot j k e = let h : 48 + j ≡ 48 + k = ap (λ (xs : List ℕ). get_or xs 1 0) e in omega (arith, h)

pub same_tree_slot : (j k : ℕ) → tree_file j ≡ tree_file k → j ≡ k
same_tree_slot j k e = let h : 48 + j ≡ 48 + k = ap (λ (xs : List ℕ). get_or xs 1 0) e in omega (arith, h)

-- ---- a file of rows

-- of a slot that is not used
pub unused_rows_changed : (old new : Table) (slot : ℕ) → ChangesFile old new (rows_file slot) → relation_at (whole_catalog old) slot ≡ None → mended_base new ≡ mended_base old
unused_rows_changed old new slot c unused =
    let catalog : catalog_bytes_in new ≡ catalog_bytes_in old = others_bytes old new (rows_file slot) catalog_file c (catalog_no_rows slot) in
    mended_same old new (record {
      catalog = catalog;
      rows = λ k below used. ⊎_elim
          (λ (same : k ≡ slot).
          let none : relation_at (whole_catalog new) k ≡ None = ap (relation_at (whole_catalog new)) same ∙ ap (λ (bytes : List ℕ). relation_at (whole_bytes bytes) slot) catalog ∙ unused in
          let no : false ≡ true = sym (ap is_some none) ∙ used in
          absurd (cc))
          (λ (differs : k ≢ slot). others_bytes old new (rows_file slot) (rows_file k) c (λ e. differs (same_rows_slot k slot e)))
          (cases_eq k slot);
      trees = λ i below tree. others_there old new (rows_file slot) (tree_file i) c (tree_no_rows i slot);
    })

-- ---- a tree

-- it is there as before, or its slot has no index with a tree
pub tree_changed : (old new : Table) (slot : ℕ) → ChangesFile old new (tree_file slot)
    → (is_tree (index_at (whole_catalog old) slot) ≡ true → is_there (tree_file slot) new ≡ is_there (tree_file slot) old) → mended_base new ≡ mended_base old
tree_changed old new slot c kept =
    let catalog : catalog_bytes_in new ≡ catalog_bytes_in old = others_bytes old new (tree_file slot) catalog_file c (catalog_no_tree slot) in
    mended_same old new (record {
      catalog = catalog;
      rows = λ k below used. others_bytes old new (tree_file slot) (rows_file k) c (rows_no_tree k slot);
      trees = λ i below tree. ⊎_elim
          (λ (same : i ≡ slot).
          subst (λ (j : ℕ). is_there (tree_file j) new ≡ is_there (tree_file j) old) (sym same)
          (kept (ap (λ (bytes : List ℕ). is_tree (index_at (whole_bytes bytes) slot)) (sym catalog) ∙ ap (λ (j : ℕ). is_tree (index_at (whole_catalog new) j)) (sym same) ∙ tree)))
          (λ (differs : i ≢ slot). others_there old new (tree_file slot) (tree_file i) c (λ e. differs (same_tree_slot i slot e)))
          (cases_eq i slot);
    })

-- ---- the catalog

pub catalog_changed : (old new : Table) → ChangesFile old new catalog_file → AreRowsKept old new
catalog_changed old new c = record {
  rows = λ k below used. others_bytes old new catalog_file (rows_file k) c (λ e. catalog_no_rows k (sym e));
  trees = λ i below tree. others_there old new catalog_file (tree_file i) c (λ e. catalog_no_tree i (sym e));
}

-- ---- which steps change one file

pub becomes_changes : (old new : State) (id total : ℕ) (told name : List ℕ) → Becomes old new id total told → IsNamed old.files id name → ChangesFile old.files new.files name
becomes_changes old new id total told name b named = record {
  id = id;
  others = b.others;
  before = λ n is. one_name old.files id n name is named;
  after = λ n is. one_name old.files id n name (sym (names_stay old new id total told (named_live old.files id name named) b id) ∙ is) named;
}

pub removed_changes : (old new : State) (id : ℕ) (name : List ℕ) → Removes old new id → IsNamed old.files id name → ChangesFile old.files new.files name
removed_changes old new id name r named = record {
  id = id;
  others = r.others;
  before = λ n is. one_name old.files id n name is named;
  after = λ n is. let no : None ≡ Some n = sym (ap (option_map (λ (f : File). f.name)) r.gone) ∙ is in absurd (cc);
}
