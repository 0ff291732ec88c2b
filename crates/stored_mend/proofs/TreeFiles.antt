-- Steps that change the file of a tree alone, or build it.
use Rattle.std.proofs.Common.{◌≡◌, ◌≢◌, ◌⊎◌, inl, inr, Bool, ℕ, ℤ, ◌+◌, ◌-◌, ◌≤◌, List, [], ◌∷◌, ◌++◌, length, Option, Some, None, IsTrue, true, false, refl, ap, sym, subst, ◌∙◌, arith}
use Rattle.std.specs.Prelude.{Err, if◌then◌else◌, is_some, nat_lt, option_map, unwrap_or}
use Rattle.std.proofs.Math.Logic.{⊎_elim}
use Rattle.std.proofs.lemmas.Bool.{cases_eq}
use Rattle.std.proofs.lemmas.List.FromFn.{length-map-range_with_len, map-range_with_len_more}
use Rattle.afl_base.specs.Files.{Becomes, Commits, Drafts, File, IsLive, IsNamed, IsUnnamed, Keeps, KeepsBytes, OthersStay, Removes, State, Table, bytes_at, draft_in, file_at, name_at, no_file, place}
use Rattle.afl_base.specs.KeyColumn.{key_of, key_place, number_of_width}
use Rattle.afl_base.specs.Keys.{first_keys}
use Rattle.afl_base.specs.declared.key_column.KeyColumn.{KeyColumn}
use Rattle.afl_base.proofs.FileLaws.{file_here, named_here, named_live, names_stay, one_name, place_live}
use Rattle.afl_base.proofs.FrameLaws.{becomes_as, keeps_prepares}
use Rattle.afl_base.specs.FileErrors.{OnSpace, UnlessFailed}
use Rattle.afl_base.specs.declared.kind.FileError.{FileError}
use Rattle.afl_base.specs.declared.kind.FileError.TheVariants.{Failed, Space}
use Rattle.afl_base.specs.declared.kind.Kind.TheVariants.{Doubling}
use Rattle.catalog.proofs.Breaks.{bytes_of_place}
use Rattle.catalog.proofs.Named.{found_there, named_found, named_none}
use Rattle.index_tree.specs.Trees.{IsTreeOf}
use Rattle.space_model.specs.FileNames.{bytes_in_file, bytes_named, file_named, is_there, rows_file, tree_file}
use Rattle.space_model.proofs.NamedFiles.{named_place}
use Rattle.stored.proofs.NamesStay.{there_stays}
use Rattle.stored_mend.specs.Keys.{AreKeys}
use Rattle.stored_mend.specs.Trees.{BecomesTree, BuildsTree, ChangesAtMost, HasTreeNow, IsDoublingOf, SparesButTree}
use Rattle.stored_mend.proofs.OneFile.{becomes_changes, others_found, removed_changes, rows_no_tree}
use Rattle.stored_mend.proofs.Replaced.{name_of}

-- ---- all files but that of a name

-- a file that stands there was there before, or it is the one that changed, which doubles
pub known_but : (old new : Table) (id : ℕ) (name : List ℕ) → OthersStay old new id → (file_at new id).name ≡ name → (file_at new id).kind ≡ Doubling
    → (k : ℕ) (f : File) → place new k ≡ Some f → (place old k ≡ Some f) ⊎ IsDoublingOf name f
known_but old new id name others is doubles k f there = ⊎_elim
    (λ (same : k ≡ id).
    let here : file_at new id ≡ f = file_here new id f (sym (ap (place new) same) ∙ there) in
    inr (record { named = ap (λ (x : File). x.name) (sym here) ∙ is; doubles = ap (λ (x : File). x.kind) (sym here) ∙ doubles }))
    (λ (other : k ≢ id). inl (sym (others k other) ∙ there))
    (cases_eq k id)

-- the bytes of the one file of a name
pub named_bytes : (files : Table) (id : ℕ) (name : List ℕ) → IsNamed files id name → ((k : ℕ) → IsNamed files k name → k ≡ id) → bytes_named name files ≡ bytes_at files id
named_bytes files id name named only = ap bytes_in_file (named_found files id name named only) ∙ bytes_of_place (place files id)

pub spares_same : (a : State) (name : List ℕ) → SparesButTree a a name
spares_same a name = record { spares = record { files = λ n differs. refl; draft = refl; tells = refl }; known = λ k f there. inl there }

pub spares_then : (a b c : State) (name : List ℕ) → SparesButTree a b name → SparesButTree b c name → SparesButTree a c name
spares_then a b c name f g = record {
  spares = record {
    files = λ n differs. g.spares.files n differs ∙ f.spares.files n differs;
    draft = g.spares.draft ∙ f.spares.draft;
    tells = g.spares.tells ∙ f.spares.tells;
  };
  known = λ k file there. ⊎_elim (λ before. f.known k file before) (λ own. inr own) (g.known k file there);
}

pub changes_same : (a : State) (name : List ℕ) → ChangesAtMost a a name
changes_same a name = record { spares = spares_same a name; there = refl }

pub changes_then : (a b c : State) (name : List ℕ) → ChangesAtMost a b name → ChangesAtMost b c name → ChangesAtMost a c name
changes_then a b c name f g = record { spares = spares_then a b c name f.spares g.spares; there = g.there ∙ f.there }

pub keeps_changes : (a b : State) (name : List ℕ) → Keeps a b → ChangesAtMost a b name
keeps_changes a b name k = record {
  spares = record {
    spares = record {
      files = λ n differs. ap (file_named n) k.files;
      draft = k.draft;
      tells = k.tells;
    };
    known = λ j f there. inl (sym (ap (λ (t : Table). place t j) k.files) ∙ there);
  };
  there = ap (is_there name) k.files;
}

pub becomes_at_most : (a b : State) (file total : ℕ) (bytes name : List ℕ) → IsNamed a.files file name → (file_at a.files file).kind ≡ Doubling → Becomes a b file total bytes → ChangesAtMost a b name
becomes_at_most a b file total bytes name named doubles c = record {
  spares = record {
    spares = record {
      files = λ n differs. others_found a.files b.files name n (becomes_changes a b file total bytes name c named) differs;
      draft = c.draft;
      tells = c.tells;
    };
    known = known_but a.files b.files file name c.others (c.name ∙ name_of a.files file name named) (c.kind ∙ doubles);
  };
  there = there_stays a.files b.files name (names_stay a b file total bytes (named_live a.files file name named) c);
}

pub removed_spares : (a b : State) (file : ℕ) (name : List ℕ) → IsNamed a.files file name → Removes a b file → SparesButTree a b name
removed_spares a b file name named r = record {
  spares = record {
    files = λ n differs. others_found a.files b.files name n (removed_changes a b file name r named) differs;
    draft = r.draft;
    tells = r.tells;
  };
  known = λ k f there. ⊎_elim
      (λ (same : k ≡ file). let no : None ≡ Some f = sym (ap (place b.files) same ∙ r.gone) ∙ there in absurd (cc))
      (λ (other : k ≢ file). inl (sym (r.others k other) ∙ there))
      (cases_eq k file);
}

pub removed_unnamed : (a b : State) (file : ℕ) (name : List ℕ) → IsNamed a.files file name → Removes a b file → IsUnnamed b.files name
removed_unnamed a b file name named r = subst (IsUnnamed b.files) (name_of a.files file name named) r.unnamed

-- ---- a tree that is built

-- what is built is there
pub built_there : (a b : State) (name : List ℕ) (keys : List ℤ) → BuildsTree a b name keys → is_there name b.files ≡ true
built_there a b name keys t = sym (found_there b.files name (Some t.id) t.named t.only tt)

pub built_at_most : (a b : State) (file : ℕ) (name : List ℕ) (keys : List ℤ) → IsNamed a.files file name → ((k : ℕ) → IsNamed a.files k name → k ≡ file) → BuildsTree a b name keys → ChangesAtMost a b name
built_at_most a b file name keys named only t = record {
  spares = t.spares;
  there = built_there a b name keys t ∙ found_there a.files name (Some file) named only tt;
}

-- behind a step that leaves its keys as they are, and all other files
pub built_behind : (a b c : State) (name : List ℕ) (before keys : List ℤ) → SparesButTree a b name → (IsTrue a.tells → before ≡ keys) → BuildsTree b c name before → BuildsTree a c name keys
built_behind a b c name before keys s same t = record {
  id = t.id;
  named = t.named;
  only = t.only;
  tree = λ told. subst (IsTreeOf (bytes_at c.files t.id)) (same told) (t.tree (s.spares.tells ∙ told));
  spares = spares_then a b c name s t.spares;
}

pub built_now : (a b : State) (name : List ℕ) (keys : List ℤ) → IsTrue a.tells → BuildsTree a b name keys → HasTreeNow a.files b.files name keys
built_now a b name keys told t = λ k named doubles. subst (λ (bytes : List ℕ). IsTreeOf bytes keys) (sym (named_bytes b.files t.id name t.named t.only)) (t.tree told)

pub becomes_now : (a b : State) (file : ℕ) (name : List ℕ) (keys : List ℤ) → IsNamed a.files file name → ((k : ℕ) → IsNamed a.files k name → k ≡ file) → IsTrue a.tells → BecomesTree a b file keys
    → HasTreeNow a.files b.files name keys
becomes_now a b file name keys named only told t = λ k is doubles.
    let names = names_stay a b file (length t.bytes) t.bytes (named_live a.files file name named) t.becomes in
    subst (λ (bytes : List ℕ). IsTreeOf bytes keys) (sym (named_bytes b.files file name (names file ∙ named) (λ j h. only j (sym (names j) ∙ h)) ∙ t.becomes.bytes told)) (t.tree told)

-- a tree that is whole already
pub stands_now : (files : Table) (file : ℕ) (name : List ℕ) (keys : List ℤ) → IsNamed files file name → ((k : ℕ) → IsNamed files k name → k ≡ file) → IsTreeOf (bytes_at files file) keys → HasTreeNow files files name keys
stands_now files file name keys named only tree = λ k is doubles. subst (λ (bytes : List ℕ). IsTreeOf bytes keys) (sym (named_bytes files file name named only)) tree

-- the place that a name keeps, or a free one, has no other name
takes_its_own : (files : Table) (name : List ℕ) (id : ℕ) (x : List ℕ) → ((i j : ℕ) → IsNamed files i name → IsNamed files j name → i ≡ j) → ((k : ℕ) → IsNamed files k name → id ≡ k)
    → (IsUnnamed files name → place files id ≡ None) → IsNamed files id x → x ≡ name
takes_its_own files name id x one kept free is = by_file (file_named name files) refl
  where
    by_file : (o : Option File) → file_named name files ≡ o → x ≡ name
    by_file None e =
        let unnamed : IsUnnamed files name = λ k named.
        let there : true ≡ is_there name files = found_there files name (Some k) named (λ j h. one j k h named) tt in
        let no : true ≡ false = there ∙ ap is_some e in
        absurd (cc) in
        let no : None ≡ Some x = sym (ap (option_map (λ (f : File). f.name)) (free unnamed)) ∙ is in
        absurd (cc)
    by_file (Some f) e =
        let at = named_place files name f e in
        let named : IsNamed files at.0 name = ap (option_map (λ (g : File). g.name)) at.1 ∙ ap (λ (n : List ℕ). Some n) at.2 in
        one_name files id x name is (subst (λ (k : ℕ). IsNamed files k name) (sym (kept at.0 named)) named)

-- a draft of a name is begun, written and committed
module _ (a b c d : State) (id n m : ℕ) (name first bytes : List ℕ) (keys : List ℤ) where
  pub drafted : ((i j : ℕ) → IsNamed a.files i name → IsNamed a.files j name → i ≡ j) → a.draft ≡ None → Drafts a b name n first → Drafts b c (draft_in b).name m bytes → Commits c d id
      → (IsTrue a.tells → IsTreeOf (draft_in c).bytes keys) → BuildsTree a d name keys
  drafted one idle begun written commits tree =
      let files : c.files ≡ a.files = written.files ∙ begun.files in
      let given : (draft_in c).name ≡ name = written.name ∙ begun.name in
      let tells : c.tells ≡ a.tells = written.tells ∙ begun.tells in
      let others : OthersStay a.files d.files id = λ k other. commits.others k other ∙ ap (λ (t : Table). place t k) files in
      let named : IsNamed d.files id name = named_here d.files id (file_at d.files id) (place_live d.files id commits.live) ∙ ap (λ (x : List ℕ). Some x) (commits.name ∙ given) in
      let kept : (k : ℕ) → IsNamed a.files k name → id ≡ k = λ k is.
      commits.kept k (subst (λ (t : Table). IsNamed t k (draft_in c).name) (sym files) (subst (IsNamed a.files k) (sym given) is)) in
      let only : (k : ℕ) → IsNamed d.files k name → k ≡ id = λ k is.
      ⊎_elim (λ e. e) (λ other. sym (kept k (sym (ap (option_map (λ (f : File). f.name)) (others k other)) ∙ is))) (cases_eq k id) in
      let free : IsUnnamed a.files name → place a.files id ≡ None = λ none.
      sym (ap (λ (t : Table). place t id) files) ∙ commits.free (subst (λ (t : Table). IsUnnamed t (draft_in c).name) (sym files) (subst (IsUnnamed a.files) (sym given) none)) in
      let before : (x : List ℕ) → IsNamed a.files id x → x ≡ name = λ x is. takes_its_own a.files name id x one kept free is in
      record {
        id = id;
        named = named;
        only = only;
        tree = λ told. subst (λ (xs : List ℕ). IsTreeOf xs keys) (sym (commits.bytes (tells ∙ told))) (tree told);
        spares = record {
          spares = record {
            files = λ x differs. others_found a.files d.files name x (record {
              id = id;
              others = others;
              before = before;
              after = λ y is. one_name d.files id y name is named;
            }) differs;
            draft = commits.draft ∙ sym idle;
            tells = commits.tells ∙ tells;
          };
          known = known_but a.files d.files id name others (commits.name ∙ given) commits.kind;
        };
      }

-- ---- what a build asks for, behind a step on the file of the name

module _ (a b : State) (file total : ℕ) (bytes name : List ℕ) (named : IsNamed a.files file name) (only : (k : ℕ) → IsNamed a.files k name → k ≡ file) (c : Becomes a b file total bytes) where
  pub names_kept : (k : ℕ) → name_at b.files k ≡ name_at a.files k
  names_kept = names_stay a b file total bytes (named_live a.files file name named) c

  pub only_kept : (k : ℕ) → IsNamed b.files k name → k ≡ file
  only_kept k is = only k (sym (names_kept k) ∙ is)

  pub kind_kept : (file_at a.files file).kind ≡ Doubling → (k : ℕ) → IsNamed b.files k name → (file_at b.files k).kind ≡ Doubling
  kind_kept doubles k is = ap (λ (j : ℕ). (file_at b.files j).kind) (only_kept k is) ∙ c.kind ∙ doubles

  pub one_kept : (j k : ℕ) → IsNamed b.files j name → IsNamed b.files k name → j ≡ k
  one_kept j k is too = only_kept j is ∙ sym (only_kept k too)

  pub not_unnamed : IsUnnamed b.files name → ⊥
  not_unnamed none = none file (names_kept file ∙ named)

-- what holds where there was no space holds unless the call failed
pub unless_space : (T U : Type 0) (e : FileError) (P Q : Type 0) → (P → Q) → OnSpace {T = T} (Err e) (λ need. P) → UnlessFailed {T = U} (Err e) Q
unless_space T U (Space need) P Q f p = f p
unless_space T U Failed P Q f p = tt

-- ---- keys

-- keys stand where they stood, behind a step that leaves sizes
pub keys_stay : (a b : State) (file slots : ℕ) (column : KeyColumn) → IsLive a.files file → KeepsBytes a b file → AreKeys a column slots → AreKeys b column slots
keys_stay a b file slots column live kept keys =
    let same = keeps_prepares a b file live kept in
    record {
      width = keys.width;
      few = keys.few;
      fields = λ slot below. let f = keys.fields slot below in record {
        live = named_live b.files column.file (file_at a.files column.file).name (same.spares.named column.file ∙ named_here a.files column.file (file_at a.files column.file) (place_live a.files column.file f.live));
        field = subst (λ (n : ℕ). key_place column slot + column.width ≤ n) (sym (same.sizes column.file)) f.field;
      };
    }

-- the keys of a file whose bytes are the same
pub same_keys : (a b : State) (column : KeyColumn) (slots : ℕ) → bytes_at b.files column.file ≡ bytes_at a.files column.file → first_keys (key_of b column) slots ≡ first_keys (key_of a column) slots
same_keys a b column slots e = ap (λ (bytes : List ℕ). first_keys (λ (slot : ℕ). number_of_width bytes (key_place column slot) column.width) slots) e

pub keys_prepared : (a b : State) (file : ℕ) (column : KeyColumn) (slots : ℕ) → IsLive a.files file → KeepsBytes a b file → IsTrue a.tells → first_keys (key_of b column) slots ≡ first_keys (key_of a column) slots
keys_prepared a b file column slots live kept told = same_keys a b column slots ((keeps_prepares a b file live kept).bytes told column.file)

-- keys in another file stand behind a removal
pub keys_spared : (a b : State) (tree slots : ℕ) (column : KeyColumn) → Removes a b tree → column.file ≢ tree → AreKeys a column slots → AreKeys b column slots
keys_spared a b tree slots column r apart keys =
    let same : place b.files column.file ≡ place a.files column.file = r.others column.file apart in
    record {
      width = keys.width;
      few = keys.few;
      fields = λ slot below. let f = keys.fields slot below in record {
        live = subst (λ (o : Option File). IsTrue (is_some o)) (sym same) f.live;
        field = subst (λ (o : Option File). key_place column slot + column.width ≤ length (unwrap_or o no_file).bytes) (sym same) f.field;
      };
    }

pub keys_removed : (a b : State) (tree : ℕ) (column : KeyColumn) (slots : ℕ) → Removes a b tree → column.file ≢ tree → first_keys (key_of b column) slots ≡ first_keys (key_of a column) slots
keys_removed a b tree column slots r apart = same_keys a b column slots (ap (λ (o : Option File). (unwrap_or o no_file).bytes) (r.others column.file apart))

-- the last key comes behind all others
pub last_key : (key : ℕ → ℤ) (slots last : ℕ) → 1 ≤ slots → last ≡ slots - 1 → first_keys key last ++ key last ∷ [] ≡ first_keys key slots
last_key key slots last some is =
    let one : last + 1 ≡ slots = omega (arith, some, is) in
    sym (map-range_with_len_more key 0 last last (omega arith)) ∙ ap (first_keys key) one

-- a tree that lacked the last key has got it
pub key_added : (old new : State) (tree slots last size : ℕ) (column : KeyColumn) (key : ℤ) (told : List ℕ) → last + 1 ≡ slots → Becomes old new tree size told → (IsTrue old.tells → key ≡ key_of old column last)
    → (IsTrue old.tells → IsTreeOf (bytes_at old.files tree) (first_keys (key_of old column) last))
    → (IsTrue old.tells → (keys : List ℤ) → IsTreeOf (bytes_at old.files tree) keys → length keys ≡ last → IsTreeOf (bytes_at new.files tree) (keys ++ key ∷ []))
    → BecomesTree old new tree (first_keys (key_of old column) slots)
key_added old new tree slots last size column key told one becomes is before added = record {
  bytes = bytes_at new.files tree;
  becomes = becomes_as old new tree size (length (bytes_at new.files tree)) told (bytes_at new.files tree) becomes (sym becomes.size) (λ t. sym (becomes.bytes t));
  tree = λ t.
      let keys : List ℤ = first_keys (key_of old column) last in
      let more : keys ++ key ∷ [] ≡ first_keys (key_of old column) slots =
      ap (λ (k : ℤ). keys ++ k ∷ []) (is t) ∙ last_key (key_of old column) slots last (omega (arith, one)) (omega (arith, one)) in
      subst (IsTreeOf (bytes_at new.files tree)) more (added t keys (before t) (length-map-range_with_len (key_of old column) 0 last));
}

-- the number that a slot was made of
pub slot_no : (n id : ℕ) → Some id ≡ (if nat_lt n 32768 then Some n else None) → id ≡ n
slot_no n id e = by_test (nat_lt n 32768) e
  where
    by_test : (b : Bool) → Some id ≡ (if b then Some n else None) → id ≡ n
    by_test true e = cc
    by_test false e = cc

-- rows are no tree
pub rows_apart : (files : Table) (rows tree slot i : ℕ) → IsNamed files rows (rows_file slot) → IsNamed files tree (tree_file i) → rows ≢ tree
rows_apart files rows tree slot i is named e = rows_no_tree slot i (one_name files tree (rows_file slot) (tree_file i) (subst (λ (k : ℕ). IsNamed files k (rows_file slot)) e is) named)

-- a name that is gone
pub gone_there : (files : Table) (name : List ℕ) → IsUnnamed files name → is_there name files ≡ false
gone_there files name none = ap is_some (named_none files name none)
