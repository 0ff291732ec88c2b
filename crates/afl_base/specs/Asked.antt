-- What a call that makes room in a file asks for.
use Rattle.std.specs.Prelude.{◌≡◌, ℕ, ◌*◌, ◌≤◌, length, max}
use Rattle.afl_base.specs.Files.{File, Table, file_at}
use Rattle.afl_base.specs.Fit.{fit}
use Rattle.afl_base.specs.declared.kind.Kind.TheVariants.{Doubling, Fixed}

-- this many pages are few for a file: at most twice those that its bytes need where it grows, and at most 16 where it does not
pub record AreFewFor (f : File) (pages : ℕ) : Type 0 where
  pub growing : f.kind ≡ Doubling → pages ≤ max 16 (2 * fit (length f.bytes))
  pub fixed : (n : ℕ) → f.kind ≡ Fixed n → pages ≤ 16

-- an extent that is asked for, and has few pages
abbrev pub asks_few : (ℕ → ℕ → ℕ → ℕ → Type 0) → Table → ℕ → ℕ → ℕ → ℕ → Type 0
asks_few asks files id overwrites bytes need = asks id overwrites bytes need × AreFewFor (file_at files id) need
