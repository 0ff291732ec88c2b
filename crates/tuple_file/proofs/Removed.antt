-- The bytes of a row about which an answer was given.
use Rattle.std.proofs.Common.{◌≡◌, refl, sym, ap, ◌∙◌, ℕ, ◌+◌, ◌-◌, Bool, true, false, List, [], ◌∷◌, ◌++◌, length, set, arith}
use Rattle.std.specs.Prelude.{MatchBool, not}
use Rattle.std.proofs.lemmas.List.{length-append, set_at}
use Rattle.db_model.specs.declared.schemas.Attribute.{Attribute}
use Rattle.db_model.specs.declared.values.Value.{Value}
use Rattle.db_model.specs.Row.{AllSuit, Row, fields_bytes, row_bytes, row_of, tuple_of}
use Rattle.tuple_file.specs.Tuples.{IsAnswered}
use Rattle.tuple_file.proofs.Answered.{answered_one}

-- a row as bytes are read, live or not
abbrev pub read_as : List Attribute → List ℕ → Bool → Row
read_as attributes bytes live = record { tuple = tuple_of attributes bytes; live = live }

-- the row that bytes are read as is live as is said
read_live : (attributes : List Attribute) (bytes : List ℕ) (live : Bool) → (row_of attributes bytes).live ≡ live → row_of attributes bytes ≡ read_as attributes bytes live
read_live attributes bytes live is = ap (read_as attributes bytes) is

-- the bytes of the answered row
abbrev pub HasAnswered : (List Value → Bool → Type 0) → List Attribute → (bytes after : List ℕ) → Type 0
HasAnswered answers attributes bytes after = (new : Row) × IsAnswered answers (row_of attributes bytes) new × AllSuit attributes new.tuple × (after ≡ row_bytes attributes new)

answered_row : (answers : List Value → Bool → Type 0) (attributes : List Attribute) (bytes after : List ℕ) (live stays : Bool) → AllSuit attributes (tuple_of attributes bytes) → (row_of attributes bytes).live ≡ live
    → MatchBool live ((answer : Bool) × answers (tuple_of attributes bytes) answer × (stays ≡ not answer)) (stays ≡ false)
    → after ≡ row_bytes attributes (read_as attributes bytes stays) → HasAnswered answers attributes bytes after
answered_row answers attributes bytes after live stays suits is said written = (
  read_as attributes bytes stays,
  answered_one answers (row_of attributes bytes) (tuple_of attributes bytes) live stays (read_live attributes bytes live is) said,
  suits,
  written,
)

-- nothing is asked about a removed row
pub answered_removed : (answers : List Value → Bool → Type 0) (attributes : List Attribute) (bytes : List ℕ) → row_bytes attributes (row_of attributes bytes) ≡ bytes → AllSuit attributes (tuple_of attributes bytes) → (row_of attributes bytes).live ≡ false
    → HasAnswered answers attributes bytes bytes
answered_removed answers attributes bytes written suits dead =
    answered_row answers attributes bytes bytes false false suits dead refl (sym written ∙ ap (row_bytes attributes) (read_live attributes bytes false dead))

-- a live row stays where the answer is false
pub answered_stays : (answers : List Value → Bool → Type 0) (attributes : List Attribute) (bytes : List ℕ) → row_bytes attributes (row_of attributes bytes) ≡ bytes → AllSuit attributes (tuple_of attributes bytes) → (row_of attributes bytes).live ≡ true
    → answers (tuple_of attributes bytes) false → HasAnswered answers attributes bytes bytes
answered_stays answers attributes bytes written suits live said =
    answered_row answers attributes bytes bytes true true suits live (false, said, refl) (sym written ∙ ap (row_bytes attributes) (read_live attributes bytes true live))

-- and else gets the mark of a removed one
pub answered_goes : (answers : List Value → Bool → Type 0) (attributes : List Attribute) (bytes after : List ℕ) → row_bytes attributes (row_of attributes bytes) ≡ bytes → AllSuit attributes (tuple_of attributes bytes) → (row_of attributes bytes).live ≡ true
    → answers (tuple_of attributes bytes) true → after ≡ set bytes (length bytes - 1) 3 → HasAnswered answers attributes bytes after
answered_goes answers attributes bytes after written suits live said is =
    let fields : List ℕ = fields_bytes attributes (tuple_of attributes bytes) in
    let whole : bytes ≡ fields ++ 1 ∷ [] = sym written ∙ ap (row_bytes attributes) (read_live attributes bytes true live) in
    let long : length bytes ≡ length fields + 1 = ap (λ xs. length xs) whole ∙ length-append fields (1 ∷ []) in
    let last : length bytes - 1 ≡ length fields = omega (arith, long) in
    answered_row answers attributes bytes after true false suits live (true, said, refl)
    (is ∙ ap (λ n. set bytes n 3) last ∙ ap (λ xs. set xs (length fields) 3) whole ∙ set_at fields 1 [] 3 (length fields) refl)
