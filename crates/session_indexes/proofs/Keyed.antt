-- The keys of an attribute's column are those of the rows, and a tree is built of them.
use Rattle.std.proofs.Common.{◌≡◌, ℕ, ◌+◌, ◌*◌, ◌<◌, true, List, [], None, ap, sym, ◌∙◌, subst, arith, IsTrue, ℤ}
use Rattle.std.proofs.lemmas.List.FromFn.{get_or-map-range_with_len}
use Rattle.afl_base.specs.declared.key_column.KeyColumn.{KeyColumn}
use Rattle.afl_base.specs.Files.{Drafts, State, Table, bytes_at, draft_in}
use Rattle.afl_base.specs.Fit.{fit}
use Rattle.afl_base.specs.KeyColumn.{key_of}
use Rattle.afl_base.specs.Keys.{first_keys}
use Rattle.db_model.specs.HashTree.{buckets}
use Rattle.db_model.specs.Row.{Row, no_row, row_at}
use Rattle.db_model.specs.Step.{keys}
use Rattle.index_maxheap.specs.Builds.{HasOtherDraft}
use Rattle.index_set.specs.declared.info.Access.TheVariants.{Order}
use Rattle.index_set.specs.declared.info.IndexInfo.{IndexInfo}
use Rattle.index_set.specs.Complete.{key_at_place}
use Rattle.index_set.proofs.Fronts.{keys_whole}
use Rattle.index_tree.specs.Trees.{IsTreeOf}
use Rattle.space_model.specs.Enough.{tree_size}
use Rattle.tuple_file.specs.declared.tuples.Tuples.{Tuples}
use Rattle.tuple_file.specs.Column.{IsNumber, column_of}
use Rattle.tuple_file.specs.Tuples.{HoldsRows, rows, slots}
use Rattle.tuple_file.proofs.Columns.{column_key, rows_counted}
use Rattle.session_indexes.specs.Trees.{DraftsTree}

module _ (state : State) (t : Tuples) (p : ℕ) (number : IsNumber t.schema.attributes p) (holds : HoldsRows state t) (told : IsTrue state.tells) where
  pub column_keys : first_keys (key_of state (column_of t p)) (slots state.files t) ≡ keys p (rows state.files t)
  column_keys =
      let info : IndexInfo = record { attribute = p; column = column_of t p; access = Order } in
      keys_whole state info (rows state.files t) (slots state.files t) (rows_counted state.files t)
      (λ slot below.
      let inside : slot < slots state.files t = omega (arith, rows_counted state.files t) in
      column_key state t p slot number holds told inside
      ∙ ap (λ (z : Row). key_at_place p z) (sym (get_or-map-range_with_len (row_at t.schema.attributes (bytes_at state.files t.file)) 0 (slots state.files t) slot slot no_row inside (omega arith))))

  pub keys_by : (column : KeyColumn) (n : ℕ) → column ≡ column_of t p → n ≡ slots state.files t → first_keys (key_of state column) n ≡ keys p (rows state.files t)
  keys_by column n is many = ap (λ (c : KeyColumn). first_keys (key_of state c) n) is ∙ ap (λ (m : ℕ). first_keys (key_of state (column_of t p)) m) many ∙ column_keys

pub tree_sized : (ks ls : List ℤ) (b size need : ℕ) → ks ≡ ls → b ≡ buckets ks → size ≡ 683 + 195 * b → need ≡ fit size → need ≡ fit (tree_size ls)
tree_sized ks ls b size need same is sum asked =
    asked ∙ ap fit sum ∙ ap (λ (n : ℕ). fit (683 + 195 * n)) is ∙ ap (λ (xs : List ℤ). fit (tree_size xs)) same

-- the keys are the same where the files are
key_same : (a b : State) (column : KeyColumn) (n : ℕ) → b.files ≡ a.files → first_keys (key_of b column) n ≡ first_keys (key_of a column) n
key_same a b column n same = ap (λ (files : Table). first_keys (key_of (record { tells = true; files = files; draft = None; store = [] }) column) n) same

pub drafted : (s0 s1 s2 s3 : State) (name : List ℕ) (size : ℕ) (zeros : List ℕ) (column : KeyColumn) (n : ℕ) (ks : List ℤ) → s1 ≡ s0 → Drafts s1 s2 name size zeros → HasOtherDraft s2 s3
    → (IsTrue s2.tells → IsTreeOf (draft_in s3).bytes (first_keys (key_of s2 column) n)) → (IsTrue s0.tells → first_keys (key_of s0 column) n ≡ ks) → DraftsTree s0 s3 name ks
drafted s0 s1 s2 s3 name size zeros column n ks same d only tree is =
    let e = only.1 in
    let files : s2.files ≡ s0.files = d.files ∙ ap (λ (s : State). s.files) same in
    let tells : s2.tells ≡ s0.tells = d.tells ∙ ap (λ (s : State). s.tells) same in
    record {
      begun = e.begun;
      name_is = e.name ∙ d.name;
      tree = λ told. subst (λ (xs : List ℤ). IsTreeOf (draft_in s3).bytes xs) (key_same s0 s2 column n files ∙ is told) (tree (tells ∙ told));
      files = e.files ∙ files;
      tells = e.tells ∙ tells;
    }
