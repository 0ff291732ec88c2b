-- Symbols by numbers below 65,536, as the stack keeps them: 64 kinds, and a number of each.
use Rattle.std.specs.Prelude.{ℕ, ◌<◌, ◌/◌, ◌%◌, ◌==◌, List, [], ◌∷◌, if◌then◌else◌}
use Rattle.db_model.specs.declared.commands.Compare.TheVariants as compare
use Rattle.aql_parse.specs.declared.symbols.Joint.TheVariants as joint
use Rattle.aql_parse.specs.declared.symbols.Symbol.{Symbol}
use Rattle.aql_parse.specs.declared.symbols.Symbol.TheVariants as want

-- what joins nodes, by a kind of its own
abbrev pub joiner : ℕ → Symbol
joiner kind =
    if kind == 35 then want.Join joint.Add else
    if kind == 36 then want.Join joint.Sub else
    if kind == 37 then want.Join joint.Mul else
    if kind == 38 then want.Join joint.Div else
    if kind == 39 then want.Join (joint.Compare compare.Eq) else
    if kind == 40 then want.Join (joint.Compare compare.Ne) else
    if kind == 41 then want.Join (joint.Compare compare.Lt) else
    if kind == 42 then want.Join (joint.Compare compare.Le) else
    if kind == 43 then want.Join (joint.Compare compare.Gt) else
    if kind == 44 then want.Join (joint.Compare compare.Ge) else
    if kind == 45 then want.Join joint.And else
    if kind == 46 then want.Join joint.Or else
    want.Join joint.Not

-- a symbol by its kind and number
abbrev pub symbol_by : ℕ → ℕ → Symbol
symbol_by kind n =
    if kind == 0 then want.Command else
    if kind == 1 then want.Create else
    if kind == 2 then want.Remove else
    if kind == 3 then want.Query else
    if kind == 4 then want.Selection else
    if kind == 5 then want.Name else
    if kind == 6 then want.Number else
    if kind == 7 then want.Value else
    if kind == 8 then want.Aggregate else
    if kind == 9 then want.Domain else
    if kind == 10 then want.Kind else
    if kind == 11 then want.WordDomain else
    if kind == 12 then want.WordIn else
    if kind == 13 then want.WordType else
    if kind == 14 then want.WordInto else
    if kind == 15 then want.WordFrom else
    if kind == 16 then want.WordOn else
    if kind == 17 then want.WordProject else
    if kind == 18 then want.Opening else
    if kind == 19 then want.Closing else
    if kind == 20 then want.Comma else
    if kind == 21 then want.Dot else
    if kind == 22 then want.Where else
    if kind == 23 then want.Ands else
    if kind == 24 then want.Ors else
    if kind == 25 then want.Factor else
    if kind == 26 then want.Negative else
    if kind == 27 then want.Products else
    if kind == 28 then want.Sums else
    if kind == 29 then want.MoreNames (n % 256) else
    if kind == 30 then want.MoreValues (n % 256) else
    if kind == 31 then want.MoreAggregates (n % 256) else
    if kind == 32 then want.Inside n else
    if kind == 33 then want.Behind n else
    if kind == 34 then want.Around n else
    joiner kind

-- the symbol of a code
abbrev pub symbol_of : ℕ → Symbol
symbol_of code = symbol_by (code % 64) (code / 64)

-- a symbol has a code: its number is not too large
abbrev pub FitsSymbol : Symbol → Type 0
FitsSymbol (want.MoreNames n) = n < 256
FitsSymbol (want.MoreValues n) = n < 256
FitsSymbol (want.MoreAggregates n) = n < 256
FitsSymbol (want.Inside n) = n < 1024
FitsSymbol (want.Behind n) = n < 1024
FitsSymbol (want.Around n) = n < 1024
FitsSymbol _ = Unit {0}

abbrev pub AllFit : List Symbol → Type 0
AllFit [] = Unit {0}
AllFit (s ∷ ss) = FitsSymbol s × AllFit ss
