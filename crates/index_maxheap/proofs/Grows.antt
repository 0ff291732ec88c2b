-- What an insert makes of a tree.
use Rattle.std.proofs.Common.{◌≡◌, ◌≤◌, ◌<◌, ◌+◌, ℕ, ℤ, List, [], ◌∷◌, ◌++◌, length, refl, arith, sym, subst}
use Rattle.std.specs.Prelude.{IsTrue}
use Rattle.afl_base.specs.Fields.{put_at}
use Rattle.afl_base.specs.Files.{State, Becomes, IsLive, KeepsBytes, bytes_at, size_at}
use Rattle.index_tree.specs.Pairs.{Pair, goes, reaching}
use Rattle.index_tree.specs.Places.{IsGrown}
use Rattle.index_tree.specs.Trees.{IsTreeOf, numbered}
use Rattle.index_tree.specs.TreeFile.{IsTree, number_of}
use Rattle.index_tree.proofs.Inserted.{by_bucket, by_pair}
use Rattle.index_tree.proofs.Numbered.{numbered_length, numbered_one, rises_numbered}
use Rattle.index_maxheap.specs.Rooms.{PutsBucket, PutsPair}
use Rattle.index_maxheap.specs.Walks.{EndsPath}
use Rattle.index_maxheap.specs.declared.rooms.End.TheVariants as end

pub grown_pair : (old new : State) (index at slot : ℕ) (keys : List ℤ) (key : ℤ) → IsTrue old.tells → IsTreeOf (bytes_at old.files index) keys → length keys ≡ slot → slot < 32768 →
    EndsPath (end.Pair at) (bytes_at old.files index) (numbered 0 keys) key → PutsPair old new index at (record { key = key; slot = slot }) →
    IsGrown (bytes_at old.files index) (bytes_at new.files index) (numbered 0 keys) (record { key = key; slot = slot } ∷ [])
grown_pair old new index at slot keys key told tree many few found puts =
    let ps : List Pair = numbered 0 keys in
    let bytes : List ℕ = bytes_at old.files index in
    let hop : ℕ = found.0 in
    let long = numbered_length 0 keys in
    by_pair old new index ps (record { key = key; slot = slot }) hop (number_of bytes key hop) (length (reaching (goes key) hop ps)) told tree (rises_numbered 0 keys) (omega (arith, many, few, long)) found.1 refl refl found.2
    (puts.0, puts.1, subst (λ (n : ℕ). Becomes old new index (size_at old.files index) (put_at bytes n puts.0)) found.3 puts.2)

pub grown_bucket : (old new : State) (index at slot : ℕ) (keys : List ℤ) (key : ℤ) → IsTrue old.tells → IsTreeOf (bytes_at old.files index) keys → length keys ≡ slot → slot < 32768 → at + 3 ≤ size_at old.files index →
    EndsPath (end.Bucket at) (bytes_at old.files index) (numbered 0 keys) key → PutsBucket old new index at (record { key = key; slot = slot }) →
    IsGrown (bytes_at old.files index) (bytes_at new.files index) (numbered 0 keys) (record { key = key; slot = slot } ∷ [])
grown_bucket old new index at slot keys key told tree many few fits found puts =
    let long = numbered_length 0 keys in
    by_bucket old new index (numbered 0 keys) (record { key = key; slot = slot }) found.0 at told tree (rises_numbered 0 keys) (omega (arith, many, few, long)) found.1 found.2 found.3 fits puts

-- the grown tree is that of one key more
pub tree_grown : (old new : List ℕ) (keys : List ℤ) (key : ℤ) (slot : ℕ) → length keys ≡ slot → IsGrown old new (numbered 0 keys) (record { key = key; slot = slot } ∷ []) → IsTreeOf new (keys ++ key ∷ [])
tree_grown old new keys key slot many grown = subst (λ (ps : List Pair). IsTree new ps) (sym (numbered_one keys key slot many)) grown.tree

-- nothing has changed
pub keeps_itself : (state : State) (index : ℕ) → IsLive state.files index → KeepsBytes state state index
keeps_itself state index live = record {
  live = live;
  name = refl;
  kind = refl;
  size = refl;
  bytes = λ told. refl;
  others = λ k other. refl;
  names = λ n none. none;
  used = refl;
  draft = refl;
  tells = refl;
}
