-- What is known of the relation between two calls.
use Rattle.std.specs.Prelude.{◌≡◌, ◌≢◌, ◌+◌, ◌≤◌, ℕ, ℤ, List, [], ◌∷◌, None, IsTrue, length, slice_get}
use Rattle.afl_base.specs.declared.kind.Kind.TheVariants.{Doubling}
use Rattle.afl_base.specs.Files.{IsLive, OthersStay, State, file_at, place, size_at}
use Rattle.db_model.specs.declared.schemas.Attribute.{Attribute}
use Rattle.db_model.specs.declared.schemas.Domain.TheVariants.{Int, Str}
use Rattle.db_model.specs.declared.values.Value.{Value}
use Rattle.db_model.specs.declared.values.Value.TheVariants.{Number, Text}
use Rattle.db_model.specs.Row.{AllSuit, row_length, suits}
use Rattle.index_set.specs.declared.info.Access.TheVariants.{Order, Tree, Table}
use Rattle.index_set.specs.declared.info.IndexInfo.{IndexInfo}
use Rattle.index_set.specs.declared.info.TableId.TheVariants.{First}
use Rattle.index_set.specs.Inserts.{is_key}
use Rattle.index_set.specs.Tables.{Tables, entries}
use Rattle.tuple_file.specs.declared.tuples.Tuples.{Tuples}
use Rattle.tuple_file.specs.Column.{IsNumber, column_of}
use Rattle.tuple_file.specs.Tuples.{HoldsRows, slots}

-- three numbers of 16 bits and a text of at most 13 bytes
pub record AreOurs (attributes : List Attribute) : Type 0 where
  pub size : row_length attributes ≡ 20
  pub k : IsNumber attributes 0
  pub l : IsNumber attributes 1
  pub r : IsNumber attributes 2
  pub narrow_l : (t : Tuples) → t.schema.attributes ≡ attributes → (column_of t 1).width ≢ 8
  pub narrow_r : (t : Tuples) → t.schema.attributes ≡ attributes → (column_of t 2).width ≢ 8
  pub suit : (k l r : ℤ) (s : List ℕ)
      → IsTrue (suits Int (Number k)) → IsTrue (suits Int (Number l)) → IsTrue (suits Int (Number r)) → IsTrue (suits (Str 13) (Text s))
      → AllSuit attributes (Number k ∷ Number l ∷ Number r ∷ Text s ∷ [])

-- a tuple of these, whose numbers are keys
pub record IsOurs (tuple : List Value) : Type 0 where
  pub suits : (attributes : List Attribute) → AreOurs attributes → AllSuit attributes tuple
  pub l : IsTrue (is_key (slice_get tuple 1))
  pub r : IsTrue (is_key (slice_get tuple 2))

-- the indexes: k in order, l in a tree, r in the first table
abbrev pub three_indexes : Tuples → ℕ → List IndexInfo
three_indexes tuples tree =
    record { attribute = 0; column = column_of tuples 0; access = Order }
    ∷ record { attribute = 1; column = column_of tuples 1; access = Tree tree }
    ∷ record { attribute = 2; column = column_of tuples 2; access = Table First }
    ∷ []

-- the relation has its rows, its tree and a table of as many keys, and no draft is begun
pub record IsStanding (state : State) (tables : Tables) (tuples : Tuples) (tree : ℕ) : Type 0 where
  pub ours : AreOurs tuples.schema.attributes
  pub holds : HoldsRows state tuples
  pub live : IsLive state.files tree
  pub kind : (file_at state.files tree).kind ≡ Doubling
  pub apart : tuples.file ≢ tree
  pub table : length (entries tables First) ≡ slots state.files tuples
  pub idle : state.draft ≡ None

-- each file that was live is live, and no slot is gone
pub record StandsOn (old new : State) (tuples : Tuples) : Type 0 where
  pub live : (id : ℕ) → IsLive old.files id → IsLive new.files id
  pub slots : slots old.files tuples ≤ slots new.files tuples

-- each file that was there is as it was
pub record KeepsEachFile (old new : State) : Type 0 where
  pub same : (id : ℕ) → IsLive old.files id → place new.files id ≡ place old.files id
  pub draft : new.draft ≡ old.draft
  pub tells : new.tells ≡ old.tells

-- a file has this many bytes more, and no other has changed
pub record Lengthens (old new : State) (id more : ℕ) : Type 0 where
  pub live : IsLive new.files id
  pub kind : (file_at new.files id).kind ≡ (file_at old.files id).kind
  pub size : size_at new.files id ≡ size_at old.files id + more
  pub others : OthersStay old.files new.files id
  pub draft : new.draft ≡ old.draft
  pub tells : new.tells ≡ old.tells
