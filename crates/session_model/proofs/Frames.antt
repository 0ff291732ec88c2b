-- What stays of rows and indexes where some files change, or where room is made in them.
use Rattle.std.proofs.Common.{◌≡◌, ◌≢◌, ℕ, List, [], ◌∷◌, ◌++◌, Option, unwrap_or, ap, sym, ◌∙◌, subst, IsTrue, ℤ}
use Rattle.afl_base.specs.Files.{File, State, bytes_at, no_file}
use Rattle.afl_base.specs.Frames.{Prepares, SparesOthers}
use Rattle.afl_base.proofs.FrameLaws.{live_by_name}
use Rattle.db_model.specs.Step.{keys}
use Rattle.db_model.specs.Row.{Row, rows_of}
use Rattle.index_set.specs.declared.info.Access.{Access}
use Rattle.index_set.specs.declared.info.Access.TheVariants.{Order, Tree, Table as InTable}
use Rattle.index_set.specs.declared.info.IndexInfo.{IndexInfo}
use Rattle.index_set.specs.Complete.{AreComplete, AreHeld, IsComplete, IsHeld}
use Rattle.index_set.specs.Inserts.{IsApart, IsNoTree}
use Rattle.index_set.specs.Tables.{Tables}
use Rattle.index_tree.specs.Trees.{IsTreeOf}
use Rattle.tuple_file.specs.declared.tuples.Tuples.{Tuples}
use Rattle.tuple_file.specs.Tuples.{rows}

-- ---- rows

pub rows_prepared : (a b : State) (P : ℕ → Type 0) (t : Tuples) → Prepares a b P → IsTrue a.tells → rows b.files t ≡ rows a.files t
rows_prepared a b P t f told = ap (rows_of t.schema.attributes) (f.bytes told t.file)

-- ---- indexes

pub held_spared : (a b : State) (P : ℕ → Type 0) (tables : Tables) (n : ℕ) (infos : List IndexInfo) → SparesOthers a b P → AreHeld a tables n infos → AreHeld b tables n infos
held_spared a b P tables n [] f h = h
held_spared a b P tables n (info ∷ infos) f h = (one info.access h.0, held_spared a b P tables n infos f h.1)
  where
    one : (access : Access) → IsHeld a tables n access → IsHeld b tables n access
    one Order h = h
    one (Tree file) h = (live_by_name a.files b.files f.named file h.0, f.kind file h.0 ∙ h.1)
    one (InTable number) h = h

-- where the bytes of all files stay but for one, which is no tree's
module _ (a b : State) (id : ℕ) (same : (k : ℕ) → k ≢ id → bytes_at b.files k ≡ bytes_at a.files k) where
  pub complete_kept : (tables : Tables) (all : List Row) (infos : List IndexInfo) → IsNoTree infos id → AreComplete a tables all infos → AreComplete b tables all infos
  complete_kept tables all [] away h = h
  complete_kept tables all (info ∷ infos) away h = (one (keys info.attribute all) info.access away.0 h.0, complete_kept tables all infos away.1 h.1)
    where
      one : (ks : List ℤ) (access : Access) → IsApart id access → IsComplete a tables access ks → IsComplete b tables access ks
      one ks Order apart h = h
      one ks (Tree file) apart h = let P : List ℕ → Type 0 = λ bytes. IsTreeOf bytes ks in subst P (sym (same file (λ e. apart (sym e)))) h
      one ks (InTable number) apart h = h

pub bytes_spared : (a b : State) (id : ℕ) → SparesOthers a b (λ k. k ≢ id) → (k : ℕ) → k ≢ id → bytes_at b.files k ≡ bytes_at a.files k
bytes_spared a b id f k other = ap (λ (o : Option File). (unwrap_or o no_file).bytes) (f.others k other)

-- a row was put behind the others, and its keys into the indexes
pub complete_added : (a b c : State) (tables after : Tables) (t : Tuples) (infos : List IndexInfo) (row : Row) → IsNoTree infos t.file
    → SparesOthers b c (IsNoTree infos) → rows b.files t ≡ rows a.files t ++ row ∷ []
    → AreComplete c after (rows a.files t ++ row ∷ []) infos → AreComplete c after (rows c.files t) infos
complete_added a b c tables after t infos row away f added h =
    let same : rows c.files t ≡ rows b.files t = ap (λ (o : Option File). rows_of t.schema.attributes (unwrap_or o no_file).bytes) (f.others t.file away) in
    let P : List Row → Type 0 = λ all. AreComplete c after all infos in
    subst P (sym (same ∙ added)) h
