-- Files in fixed arrays of this many bytes each.
use Rattle.std.specs.Prelude.{◌≡◌, ◌⊎◌, ℕ, ◌+◌, ◌*◌, ◌<◌, ◌≤◌, List, [], length, Option, None, Some, option_map, true}
use Rattle.afl_base.specs.declared.kind.Kind.{Kind}
use Rattle.afl_base.specs.declared.kind.Kind.TheVariants.{Doubling, Fixed}
use Rattle.afl_base.specs.Files.{AreDistinct, File, IsNamed, IsUnnamed, State, Table, file_at, place, size_at, used}
use Rattle.afl_base.specs.Fit.{fit}
use Rattle.padded.specs.Padded.{IsPadded}
use Rattle.afl_base.specs.Places.{AreTaken}

-- a file lies in an array of cap bytes: size of them, zeros after them, and room for its room
pub record IsPlain (cap size room : ℕ) (kind : Kind) (bytes : List ℕ) : Type 0 where
  pub padded : IsPadded cap size bytes
  pub fits : size + room ≤ cap
  pub pages : (n : ℕ) → kind ≡ Fixed n → n ≤ 15

-- what callers see: all files, the draft, and no store
abbrev pub plain_state : Table → Option File → State
plain_state files draft = record {
  tells = true;
  files = files;
  draft = option_map (λ (f : File). record { name = f.name; bytes = f.bytes }) draft;
  store = [];
}

-- a file that a draft may become
pub record IsFresh (f : File) : Type 0 where
  pub kind : f.kind ≡ Doubling
  pub records : f.records ≡ 0
  pub room : f.room ≡ 0

-- 32 places, no name twice, and a place for the draft
pub record ArePlain (cap : ℕ) (files : Table) (draft : Option File) : Type 0 where
  pub least : 4064 ≤ cap
  pub most : cap ≤ 16352
  pub places : length files ≡ 32
  pub distinct : AreDistinct files
  pub fresh : (f : File) → draft ≡ Some f → IsFresh f
  pub space : (f : File) → draft ≡ Some f → IsUnnamed files f.name → used files < 32

-- an extent of n pages has more bytes than an array
abbrev pub PlainLacks : ℕ → ℕ → Type 0
PlainLacks cap n = cap + 32 < 256 * n

-- the pages that a file of the kind and size counts as
abbrev pub plain_pages : Kind → ℕ → ℕ
plain_pages Doubling size = fit size
plain_pages (Fixed n) size = n

-- the pages that a file would count as with this many bytes more
abbrev pub asked_pages : Table → ℕ → ℕ → ℕ
asked_pages files id more = plain_pages (file_at files id).kind (size_at files id + more)

-- no file has the name, and the place is the lowest that is free
pub record IsNewPlace (files : Table) (id : ℕ) (name : List ℕ) : Type 0 where
  pub unnamed : IsUnnamed files name
  pub free : place files id ≡ None
  pub lowest : AreTaken files id

-- where a file of the name stands or is to stand
abbrev pub IsPlaceFor : Table → ℕ → List ℕ → Type 0
IsPlaceFor files id name = IsNamed files id name ⊎ IsNewPlace files id name
