-- The rows of a relation in a file, slot by slot.
use Rattle.std.specs.Prelude.{◌≡◌, ℕ, ◌+◌, ◌*◌, ◌<◌, ◌≤◌, Bool, true, false, not, ◌&&◌, nat_le, nat_lt, List, [], ◌∷◌, ◌++◌, filter, length, IsSome, IsTrue, MatchBool, slice_range, ⊤}
use Rattle.afl_base.specs.declared.kind.Kind.TheVariants.{Doubling}
use Rattle.afl_base.specs.Fields.{put_at}
use Rattle.afl_base.specs.Files.{Becomes, IsLive, State, Table, bytes_at, draft_in, file_at, size_at}
use Rattle.db_model.specs.declared.schemas.Attribute.{Attribute}
use Rattle.db_model.specs.declared.values.Value.{Value}
use Rattle.db_model.specs.Row.{Row, fields_length, row_at, row_bytes, row_length, rows_bytes, rows_of, slots_in_bytes, tuple_of}
use Rattle.db_model.specs.Step.{slots_limit}
use Rattle.tuple_file.specs.declared.span.Span.{Span}
use Rattle.tuple_file.specs.declared.tuples.Tuples.{Tuples}

-- a relation's file is there and doubles, and a row has at most 128 bytes
pub record IsRowFile (files : Table) (tuples : Tuples) : Type 0 where
  pub live : IsLive files tuples.file
  pub doubling : (file_at files tuples.file).kind ≡ Doubling
  pub short : row_length tuples.schema.attributes ≤ 128

-- the slots of a relation's file
abbrev pub slots : Table → Tuples → ℕ
slots files tuples = slots_in_bytes tuples.schema.attributes (bytes_at files tuples.file)

-- its rows, slot by slot
abbrev pub rows : Table → Tuples → List Row
rows files tuples = rows_of tuples.schema.attributes (bytes_at files tuples.file)

-- the row in a slot
abbrev pub row : Table → Tuples → ℕ → Row
row files tuples slot = row_at tuples.schema.attributes (bytes_at files tuples.file) slot

-- the file has whole rows, at most 32,768, and its bytes are those of its rows, where they are told
pub record HoldsRows (state : State) (tuples : Tuples) : Type 0 where
  pub file : IsRowFile state.files tuples
  pub whole : size_at state.files tuples.file ≡ row_length tuples.schema.attributes * slots state.files tuples
  pub few : slots state.files tuples ≤ 32768
  pub written : IsTrue state.tells → rows_bytes tuples.schema.attributes (rows state.files tuples) ≡ bytes_at state.files tuples.file

-- those that are live
abbrev pub live_rows : Table → Tuples → List Row
live_rows files tuples = filter (λ row. row.live) (rows files tuples)

-- a live row has this tuple
abbrev pub IsLiveTuple : Table → Tuples → List Value → Type 0
IsLiveTuple files tuples tuple = (slot : ℕ) × (slot < slots files tuples) × (row files tuples slot ≡ record { tuple = tuple; live = true })

-- no file but this one has changed, and this one in its bytes and its room alone
abbrev pub OnlyRowsChange : State → State → Tuples → Type 0
OnlyRowsChange old new tuples = Becomes old new tuples.file (size_at new.files tuples.file) (bytes_at new.files tuples.file)

-- a row is added after those of the file
abbrev pub AppendsRow : (old new : State) → Tuples → Row → Type 0
AppendsRow old new tuples row =
    Becomes old new tuples.file (size_at old.files tuples.file + row_length tuples.schema.attributes)
    (bytes_at old.files tuples.file ++ row_bytes tuples.schema.attributes row)

-- the mark of a removed row stands in the slot
abbrev pub MarksRow : (old new : State) → Tuples → ℕ → Type 0
MarksRow old new tuples slot =
    Becomes old new tuples.file (size_at old.files tuples.file)
    (put_at (bytes_at old.files tuples.file) (row_length tuples.schema.attributes * slot + fields_length tuples.schema.attributes) (3 ∷ []))

-- the file has the slot
abbrev pub IsInFile : Table → Tuples → ℕ → Type 0
IsInFile files tuples slot =
    row_length tuples.schema.attributes * slot + row_length tuples.schema.attributes ≤ size_at files tuples.file

-- the bytes of the row in a slot
abbrev pub row_slot_bytes : Table → Tuples → ℕ → List ℕ
row_slot_bytes files tuples slot =
    slice_range (bytes_at files tuples.file) (row_length tuples.schema.attributes * slot)
    (row_length tuples.schema.attributes * slot + row_length tuples.schema.attributes)

-- the bytes are whole rows, at most as many as the version has slots, and none of a relation without attributes
pub record AreRows (version : ℕ) (attributes : List Attribute) (bytes : List ℕ) : Type 0 where
  pub whole : rows_bytes attributes (rows_of attributes bytes) ≡ bytes
  pub few : slots_in_bytes attributes bytes ≤ slots_limit version
  pub some : attributes ≡ [] → bytes ≡ []

-- a live row is removed with the same fields where the one answer about its tuple is true, and stays where it is false;
-- nothing is asked about a removed row
abbrev pub IsAnswered : (List Value → Bool → Type 0) → Row → Row → Type 0
IsAnswered answers old new = MatchBool old.live ((removed : Bool) × answers old.tuple removed × (new ≡ record old { live = not removed })) (new ≡ old)

-- an answer about a tuple is one about bytes that are read as it
abbrev pub OfBytes : List Attribute → (List ℕ → Bool → Type 0) → List Value → Bool → Type 0
OfBytes attributes answers tuple answer = (bytes : List ℕ) × (tuple_of attributes bytes ≡ tuple) × answers bytes answer

-- where nothing is asked the answer is that the row stays
abbrev pub OfAsked : Bool → List Attribute → (List ℕ → Bool → Type 0) → List Value → Bool → Type 0
OfAsked asks attributes answers tuple answer = MatchBool asks (OfBytes attributes answers tuple answer) (answer ≡ false)

-- a slot is one of these
abbrev pub is_in : Span → ℕ → Bool
is_in span slot = nat_le span.first slot && nat_lt slot span.end

-- of the row in a slot something is asked where the slot is one of these
abbrev pub OfSlots : Span → List Attribute → (List ℕ → Bool → Type 0) → ℕ → List Value → Bool → Type 0
OfSlots asked attributes answers slot = OfAsked (is_in asked slot) attributes answers

-- each row at its place, from this slot on, is answered so, and no slot comes or goes
abbrev pub AreAnswered : (ℕ → List Value → Bool → Type 0) → ℕ → List Row → List Row → Type 0
AreAnswered answers slot [] [] = ⊤
AreAnswered answers slot (old ∷ olds) (new ∷ news) = IsAnswered (answers slot) old new × AreAnswered answers (slot + 1) olds news
AreAnswered answers slot _ _ = ⊥

-- no more than the draft has changed, and it is of the same name and length
pub record OnlyDraftChanges (old new : State) : Type 0 where
  pub begun : IsSome new.draft
  pub name : (draft_in new).name ≡ (draft_in old).name
  pub size : length (draft_in new).bytes ≡ length (draft_in old).bytes
  pub files : new.files ≡ old.files
  pub tells : new.tells ≡ old.tells
