-- The rooms for keys stay where one file changes that is no tree's.
use Rattle.std.proofs.Common.{◌≡◌, ◌≢◌, ℕ, ℤ, List, [], ◌∷◌, sym}
use Rattle.std.specs.List.{AllByRecursion}
use Rattle.afl_base.specs.Files.{State, bytes_at}
use Rattle.db_model.specs.declared.values.Value.{Value}
use Rattle.index_set.specs.declared.info.Access.{Access}
use Rattle.index_set.specs.declared.info.Access.TheVariants.{Order, Tree, Table as InTable}
use Rattle.index_set.specs.declared.info.IndexInfo.{IndexInfo}
use Rattle.index_set.specs.Inserts.{AreRoomFor, IsApart, IsElsewhere, IsNoTree, IsRoomFor, tuple_key}

-- a file that is no tree's is elsewhere than all trees
pub elsewhere : (id : ℕ) (infos : List IndexInfo) → IsNoTree infos id → AllByRecursion (λ info. IsElsewhere info.access (Tree id)) infos
elsewhere id [] away = tt
elsewhere id (info ∷ infos) away = (one info.access away.0, elsewhere id infos away.1)
  where
    one : (access : Access) → IsApart id access → IsElsewhere access (Tree id)
    one Order apart = tt
    one (Tree file) apart = λ e. apart (sym e)
    one (InTable number) apart = tt

pub exact_kept : (a b : State) (id : ℕ) → ((k : ℕ) → k ≢ id → bytes_at b.files k ≡ bytes_at a.files k) → (tuple : List Value) (rooms : List _) (infos : List IndexInfo)
    → IsNoTree infos id → AreRoomFor a tuple rooms infos → AreRoomFor b tuple rooms infos
exact_kept a b id same tuple rooms [] away h = h
exact_kept a b id same tuple [] (info ∷ infos) away h = h
exact_kept a b id same tuple (room ∷ rooms) (info ∷ infos) away h = (one (tuple_key tuple info) info.access away.0 h.0, exact_kept a b id same tuple rooms infos away.1 h.1)
  where
    one : (key : ℤ) (access : Access) → IsApart id access → IsRoomFor a key room access → IsRoomFor b key room access
    one key Order apart h = h
    one key (Tree file) apart h = rw (same file (λ e. apart (sym e))) h
    one key (InTable number) apart h = h
