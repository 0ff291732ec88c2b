-- Each of some symbols has a code.
use Rattle.std.proofs.Common.{ℕ, zero, suc, ◌<◌, List, [], ◌∷◌, length, arith}
use Rattle.std.specs.Prelude.{slice_index_or}
use Rattle.aql_parse.specs.Codes.{FitsSymbol, AllFit}
use Rattle.aql_parse.specs.declared.symbols.Symbol.{Symbol}

pub fits_at : (ss : List Symbol) (i : ℕ) (s : Symbol) → AllFit ss → i < length ss → FitsSymbol (slice_index_or ss i s)
fits_at [] i s h lt = absurd (omega (arith, lt))
fits_at (x ∷ ss) zero s h lt = h.0
fits_at (x ∷ ss) (suc i) s h lt = fits_at ss i s h.1 (omega (arith, lt))
