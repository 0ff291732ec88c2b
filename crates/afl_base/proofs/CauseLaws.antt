-- What the answers of calls say, put together.
use Rattle.std.proofs.Common.{ℕ, ◌≤◌, arith}
use Rattle.std.specs.Prelude.{Result, Ok, Err}
use Rattle.afl_base.specs.Causes.{Rose}
use Rattle.afl_base.specs.FileErrors.{OnSpace}
use Rattle.afl_base.specs.declared.kind.FileError.{FileError}
use Rattle.afl_base.specs.declared.kind.FileError.TheVariants.{Space, Failed}

pub rose_later : (a b c : ℕ) → a ≤ b → Rose b c → Rose a c
rose_later a b c low rose = omega (arith, low, rose)

pub both_spaces : {T : Type 0} (r : Result T FileError) (P Q : ℕ → Type 0) → OnSpace r P → OnSpace r Q → OnSpace r (λ need. P need × Q need)
both_spaces (Ok x) P Q p q = tt
both_spaces (Err (Space need)) P Q p q = (p, q)
both_spaces (Err Failed) P Q p q = tt
