-- An index stands in its slot of the catalog, and is complete.
use Rattle.std.proofs.Common.{◌≡◌, ◌≢◌, ℕ, ◌/◌, List, length, get_or, Option, Some, None, refl, ap, sym, ◌∙◌, subst, IsTrue, ℤ}
use Rattle.std.specs.Prelude.{IfOk, Result, Ok, Err}
use Rattle.afl_base.specs.declared.kind.FileError.{FileError}
use Rattle.db_model.specs.declared.refusals.Refusal.{Refusal}
use Rattle.index_set.specs.declared.info.Access.{Access}
use Rattle.afl_base.specs.Files.{State, bytes_at, place}
use Rattle.afl_base.proofs.FileLaws.{named_live}
use Rattle.afl_base.proofs.FrameLaws.{becomes_spares}
use Rattle.catalog.specs.CatalogFile.{PutsIndex}
use Rattle.db_model.specs.declared.schemas.IndexKind.{IndexKind}
use Rattle.db_model.specs.declared.schemas.IndexKind.TheVariants.{Inline, MaxHeap, MemHash}
use Rattle.db_model.specs.Row.{row_length, rows_of}
use Rattle.db_model.specs.Step.{first_fall, keys}
use Rattle.index_set.specs.declared.info.Access.TheVariants.{Order, Tree, Table as InTable}
use Rattle.index_set.specs.declared.info.TableId.{TableId}
use Rattle.index_set.specs.declared.info.TableId.TheVariants.{First, Second}
use Rattle.index_set.specs.Inserts.{IsElsewhere}
use Rattle.index_set.specs.Tables.{IsTable, Tables, entries}
use Rattle.index_tree.specs.Trees.{IsTreeOf}
use Rattle.space_model.specs.FileNames.{rows_file, tree_file}
use Rattle.tuple_file.specs.declared.tuples.Tuples.{Tuples}
use Rattle.tuple_file.specs.Tuples.{slots}
use Rattle.session_model.specs.declared.held.Indexed.{Indexed}
use Rattle.session_model.specs.Frames.{HasBytes, LeavesOthers}
use Rattle.session_model.proofs.Leaves.{leaves_becomes}
use Rattle.session_model.proofs.Running.{bytes_by, catalog_no_rows, row_no_tree}
use Rattle.session_indexes.specs.declared.sites.Site.{Site}
use Rattle.session_indexes.specs.Made.{IsMade, IsNobodys, IsReadyFor, KeepsTaken, bytes_for, index_for, keys_at}
use Rattle.session_indexes.specs.Trees.{PutsTree}
use Rattle.session_indexes.proofs.Puts.{live_catalog}

module _ (old new : State) (cat : ℕ) (t : Tuples) (site : Site) (ready : IsReadyFor old cat t site) (l : LeavesOthers old new (tree_file site.slot)) where
  rows_stay : place new.files t.file ≡ place old.files t.file
  rows_stay = l.others t.file (rows_file site.relation) ready.named (λ e. catalog_no_rows site.relation (sym e)) (row_no_tree site.relation site.slot)

  same_bytes : bytes_at new.files t.file ≡ bytes_at old.files t.file
  same_bytes = bytes_by old.files new.files t.file rows_stay

  pub same_slots : slots new.files t ≡ slots old.files t
  same_slots = ap (λ (bytes : List ℕ). length bytes / row_length t.schema.attributes) same_bytes

  pub same_keys : keys_at new t site ≡ keys_at old t site
  same_keys = ap (λ (bytes : List ℕ). keys site.attribute (rows_of t.schema.attributes bytes)) same_bytes

-- the index slot was put
module _ (old new : State) (cat : ℕ) (t : Tuples) (site : Site) (ready : IsReadyFor old cat t site) (kind : IndexKind) (u : PutsIndex old new cat site.slot (Some (index_for site kind))) where
  put_leaves : LeavesOthers old new (tree_file site.slot)
  put_leaves = leaves_becomes old new cat _ _ (tree_file site.slot) ready.catalog.0 u

  put_bytes : HasBytes old new cat (bytes_for old cat site kind)
  put_bytes = record {
    named = (becomes_spares old new cat _ _ (live_catalog old.files cat ready.catalog) u).named cat ∙ ready.catalog.0;
    kind = u.kind ∙ ready.catalog.2;
    size = u.size;
    bytes = u.bytes;
  }

pub order_made : (old new : State) (tables : Tables) (xs : List (Option Indexed)) (cat : ℕ) (t : Tuples) (site : Site) → (ready : IsReadyFor old cat t site)
    → (u : PutsIndex old new cat site.slot (Some (index_for site Inline))) → (IsTrue old.tells → first_fall (keys_at old t site) ≡ None) → IsMade Inline old new tables tables xs cat t site Order
order_made old new tables xs cat t site ready u order =
    let l = put_leaves old new cat t site ready Inline u in
    record {
      kind = refl;
      leaves = l;
      bytes = put_bytes old new cat t site ready Inline u;
      idle = u.draft ∙ ready.idle;
      file = u.names (tree_file site.slot) ready.unnamed;
      held = tt;
      complete = λ told. ap first_fall (same_keys old new cat t site ready l) ∙ order (sym u.tells ∙ told);
      tables = λ j y number there is. refl;
      own = λ number is. absurd (cc);
    }

same_table : (m n : TableId) → InTable m ≡ InTable n → m ≡ n
same_table m n e = cc

-- a table of no index is none of those that the indexes have
other_table : (m n : TableId) (xs : List (Option Indexed)) (j : ℕ) (y : Indexed) → IsNobodys n xs → get_or xs j None ≡ Some y → y.access ≡ InTable m → m ≢ n
other_table m n xs j y free there is same = itself n (subst (λ a. IsElsewhere (InTable n) a) (is ∙ ap InTable same) (free j y there))
  where
    itself : (k : TableId) → IsElsewhere (InTable k) (InTable k) → ⊥
    itself First h = h
    itself Second h = h

-- the tables that indexes have stay where another one is filled
pub taken_kept : (before after : Tables) (n : TableId) (xs : List (Option Indexed)) → IsNobodys n xs → ((m : TableId) → m ≢ n → entries after m ≡ entries before m) → KeepsTaken before after xs
taken_kept before after n xs free others j y m there is = others m (other_table m n xs j y free there is)

pub table_made : (old new : State) (before after : Tables) (xs : List (Option Indexed)) (cat : ℕ) (t : Tuples) (site : Site) (n : TableId) → IsTable n → (ready : IsReadyFor old cat t site)
    → (u : PutsIndex old new cat site.slot (Some (index_for site MemHash))) → (IsTrue old.tells → entries after n ≡ keys_at old t site) → length (entries after n) ≡ slots old.files t
    → KeepsTaken before after xs → IsNobodys n xs → IsMade MemHash old new before after xs cat t site (InTable n)
table_made old new before after xs cat t site n there ready u filled size kept nobodys =
    let l = put_leaves old new cat t site ready MemHash u in
    record {
      kind = refl;
      leaves = l;
      bytes = put_bytes old new cat t site ready MemHash u;
      idle = u.draft ∙ ready.idle;
      file = u.names (tree_file site.slot) ready.unnamed;
      held = (there, size ∙ sym (same_slots old new cat t site ready l));
      complete = λ told. filled (sym u.tells ∙ told) ∙ sym (same_keys old new cat t site ready l);
      tables = kept;
      own = λ m is. subst (λ (k : TableId). IsNobodys k xs) (same_table n m is) nobodys;
    }

pub tree_made : (old new : State) (tables : Tables) (xs : List (Option Indexed)) (cat : ℕ) (t : Tuples) (site : Site) (file : ℕ) → IsReadyFor old cat t site
    → PutsTree old new cat t site file → IsMade MaxHeap old new tables tables xs cat t site (Tree file)
tree_made old new tables xs cat t site file ready p = record {
  kind = refl;
  leaves = p.leaves;
  bytes = p.bytes;
  idle = p.idle;
  file = p.named;
  held = (named_live new.files file (tree_file site.slot) p.named, p.kind);
  complete = λ told. subst (λ (ks : List ℤ). IsTreeOf (bytes_at new.files file) ks) (sym (same_keys old new cat t site ready p.leaves)) (p.tree (sym p.leaves.tells ∙ told));
  tables = λ j y number there is. refl;
  own = λ number is. absurd (cc);
}

-- an index that is made whatever the tables are
module _ (old new : State) (cat : ℕ) (t : Tuples) (site : Site) (wanted kind : IndexKind) (is : wanted ≡ kind) where
  made_once : (tables : Tables) (xs : List (Option Indexed)) (s : Result Access Refusal) → IfOk s (λ access. (tables : Tables) (xs : List (Option Indexed)) → IsMade kind old new tables tables xs cat t site access)
      → IfOk s (λ access. IsMade wanted old new tables tables xs cat t site access)
  made_once tables xs (Ok access) h = subst (λ (k : IndexKind). IsMade k old new tables tables xs cat t site access) (sym is) (h tables xs)
  made_once tables xs (Err refusal) h = tt

  pub made_for : (tables : Tables) (xs : List (Option Indexed)) (r : Result (Result Access Refusal) FileError)
      → IfOk r (λ s. IfOk s (λ access. (tables : Tables) (xs : List (Option Indexed)) → IsMade kind old new tables tables xs cat t site access))
      → IfOk r (λ s. IfOk s (λ access. IsMade wanted old new tables tables xs cat t site access))
  made_for tables xs (Ok s) h = made_once tables xs s h
  made_for tables xs (Err e) h = tt
