-- A hash tree that is built in a draft.
use Rattle.std.specs.Prelude.{◌≡◌, ℕ, ℤ, List, IsSome, IsTrue, None}
use Rattle.afl_base.specs.Files.{IsNamed, State, bytes_at, draft_in, file_at}
use Rattle.afl_base.specs.declared.kind.Kind.TheVariants.{Doubling}
use Rattle.db_model.specs.declared.schemas.IndexKind.TheVariants.{MaxHeap}
use Rattle.index_tree.specs.Trees.{IsTreeOf}
use Rattle.space_model.specs.FileNames.{tree_file}
use Rattle.tuple_file.specs.declared.tuples.Tuples.{Tuples}
use Rattle.session_model.specs.Frames.{HasBytes, LeavesOthers}
use Rattle.session_indexes.specs.declared.sites.Site.{Site}
use Rattle.session_indexes.specs.Made.{bytes_for, keys_at}

-- a draft of a name is begun, and is the tree of these keys where bytes are told; all files are as before
pub record DraftsTree (old new : State) (name : List ℕ) (ks : List ℤ) : Type 0 where
  pub begun : IsSome new.draft
  pub name_is : (draft_in new).name ≡ name
  pub tree : IsTrue old.tells → IsTreeOf (draft_in new).bytes ks
  pub files : new.files ≡ old.files
  pub tells : new.tells ≡ old.tells

-- the file of the index slot is the tree of the attribute's keys, and the catalog has the index
pub record PutsTree (old new : State) (cat : ℕ) (t : Tuples) (site : Site) (file : ℕ) : Type 0 where
  pub leaves : LeavesOthers old new (tree_file site.slot)
  pub bytes : HasBytes old new cat (bytes_for old cat site MaxHeap)
  pub idle : new.draft ≡ None
  pub named : IsNamed new.files file (tree_file site.slot)
  pub kind : (file_at new.files file).kind ≡ Doubling
  pub tree : IsTrue old.tells → IsTreeOf (bytes_at new.files file) (keys_at old t site)
