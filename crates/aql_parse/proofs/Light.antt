-- A token adds little to a stack.
use Rattle.std.proofs.Common.{◌≡◌, ℕ, zero, suc, ◌+◌, ◌*◌, ◌-◌, ◌==◌, ◌≤◌, Bool, true, false, List, [], ◌∷◌, ◌++◌, length, Option, Some, None, sym, ◌∙◌, ap, subst, arith, lit≤, if◌then◌else◌}
use Rattle.db_model.specs.Grammar.{is_time}
use Rattle.db_model.specs.declared.commands.Node.{Node}
use Rattle.db_model.specs.declared.tokens.Keyword.TheVariants.{KCREATE, KRELATION, KATTRIBUTE, KINDEX, KDOMAIN, KINT, KLONG, KSTRING, KIN, KTYPE, KINLINE, KMAXHEAP, KMEMHASH, KINSERT, KINTO, KSELECT, KFROM, KWHERE, KJOIN, KON, KPROJECT, KREMOVE, KPACK, KOPEN, KFETCH, KCLOSE, KAND, KOR, KNOT, KCOUNT, KSUM, KMIN, KMAX, KMEAN, KMEDIAN}
use Rattle.db_model.specs.declared.tokens.Sign.TheVariants.{LeftBracket, RightBracket, Comma, Dot, Plus, Minus, Star, Slash, Equal, Unequal, Less, LessEqual, Greater, GreaterEqual}
use Rattle.db_model.specs.declared.tokens.Token.{Token}
use Rattle.db_model.specs.declared.tokens.Token.TheVariants.{Word, Name, Number, Quoted, Sign}
use Rattle.aql_parse.specs.Machine.{Move, to, operand, or_else, move, skip, read, behind_move}
use Rattle.aql_parse.specs.Moves.{bulk, bulk_all}
use Rattle.aql_parse.specs.declared.symbols.Joint.TheVariants as joint
use Rattle.aql_parse.specs.declared.symbols.Symbol.{Symbol}
use Rattle.aql_parse.specs.declared.symbols.Symbol.TheVariants as want
use Rattle.aql_parse.proofs.Runs.{less, choose_second}
use Rattle.padded.proofs.Facts.{suc_not_zero}

abbrev Light : ℕ → Option Move → Type 0
Light n None = Unit {0}
Light n (Some m) = bulk_all m.symbols ≤ n + 4

domain_light : (b : Bool) → Light 1 (or_else None (or_else (if b then to [] else None) None))
domain_light true = omega arith
domain_light false = tt

not_zero : (b n : ℕ) (m : ℕ → Option Move) → Light b (or_else (m n) None) → Light b (or_else (if suc n == 0 then None else m (suc n - 1)) None)
not_zero b n m h = subst (Light b) (sym (ap (λ x. or_else x None) (choose_second (suc n == 0) None (m (suc n - 1)) (suc_not_zero n) ∙ ap m (less n)))) h

not_zero_last : (b n : ℕ) (m : ℕ → Option Move) → Light b (m n) → Light b (if suc n == 0 then None else m (suc n - 1))
not_zero_last b n m h = subst (Light b) (sym (choose_second (suc n == 0) None (m (suc n - 1)) (suc_not_zero n) ∙ ap m (less n))) h

move_light : (s : Symbol) (t : Token) → Light (bulk s) (move s t)
move_light want.Command (Word KCREATE) = omega arith
move_light want.Command (Word KINSERT) = omega arith
move_light want.Command (Word KSELECT) = omega arith
move_light want.Command (Word KJOIN) = omega arith
move_light want.Command (Word KREMOVE) = omega arith
move_light want.Command (Word KPACK) = omega arith
move_light want.Command (Word KOPEN) = omega arith
move_light want.Command (Word KFETCH) = omega arith
move_light want.Command (Word KCLOSE) = omega arith
move_light want.Create (Word KRELATION) = omega arith
move_light want.Create (Word KATTRIBUTE) = omega arith
move_light want.Create (Word KINDEX) = omega arith
move_light want.Remove (Word KFROM) = omega arith
move_light want.Remove (Word KRELATION) = omega arith
move_light want.Remove (Word KINDEX) = omega arith
move_light want.Query (Word KSELECT) = omega arith
move_light want.Query (Word KJOIN) = omega arith
move_light want.Selection (Name n) = omega arith
move_light want.Selection (Word KCOUNT) = omega arith
move_light want.Selection (Word KSUM) = omega arith
move_light want.Selection (Word KMIN) = omega arith
move_light want.Selection (Word KMAX) = omega arith
move_light want.Selection (Word KMEAN) = omega arith
move_light want.Selection (Word KMEDIAN) = omega arith
move_light want.Name (Name n) = omega arith
move_light want.Number (Number z) = omega arith
move_light want.Value (Number z) = omega arith
move_light want.Value (Quoted bytes) = omega arith
move_light want.Value (Sign Minus) = omega arith
move_light want.Aggregate (Word KCOUNT) = omega arith
move_light want.Aggregate (Word KSUM) = omega arith
move_light want.Aggregate (Word KMIN) = omega arith
move_light want.Aggregate (Word KMAX) = omega arith
move_light want.Aggregate (Word KMEAN) = omega arith
move_light want.Aggregate (Word KMEDIAN) = omega arith
move_light (want.MoreNames zero) (Sign Comma) = tt
move_light (want.MoreValues zero) (Sign Comma) = tt
move_light (want.MoreAggregates zero) (Sign Comma) = tt
move_light (want.MoreNames (suc n)) (Sign Comma) = not_zero 1 n (λ k. to (want.Name ∷ want.MoreNames k ∷ [])) (omega arith)
move_light (want.MoreValues (suc n)) (Sign Comma) = not_zero 1 n (λ k. to (want.Value ∷ want.MoreValues k ∷ [])) (omega arith)
move_light (want.MoreAggregates (suc n)) (Sign Comma) = not_zero 1 n (λ k. to (want.Aggregate ∷ want.MoreAggregates k ∷ [])) (omega arith)
move_light want.Domain (Word KINT) = omega arith
move_light want.Domain (Word KLONG) = omega arith
move_light want.Domain (Word KSTRING) = omega arith
move_light want.Domain (Name n) = domain_light (is_time n)
move_light want.Kind (Word KINLINE) = omega arith
move_light want.Kind (Word KMAXHEAP) = omega arith
move_light want.Kind (Word KMEMHASH) = omega arith
move_light want.WordDomain (Word KDOMAIN) = omega arith
move_light want.WordIn (Word KIN) = omega arith
move_light want.WordType (Word KTYPE) = omega arith
move_light want.WordInto (Word KINTO) = omega arith
move_light want.WordFrom (Word KFROM) = omega arith
move_light want.WordOn (Word KON) = omega arith
move_light want.WordProject (Word KPROJECT) = omega arith
move_light want.Opening (Sign LeftBracket) = omega arith
move_light want.Closing (Sign RightBracket) = omega arith
move_light want.Comma (Sign Comma) = omega arith
move_light want.Dot (Sign Dot) = omega arith
move_light want.Where (Word KWHERE) = omega arith
move_light (want.Inside n) (Sign LeftBracket) = omega arith
move_light (want.Inside n) (Word KNOT) = omega arith
move_light (want.Inside n) (Number z) = omega arith
move_light (want.Inside n) (Quoted bytes) = omega arith
move_light (want.Inside n) (Name a) = omega arith
move_light (want.Inside n) (Sign Minus) = omega arith
move_light (want.Behind zero) (Sign RightBracket) = tt
move_light (want.Behind (suc n)) (Sign RightBracket) = not_zero_last (4 * suc n + 1) n (λ k. to (operand k)) (omega arith)
move_light (want.Behind n) (Sign Equal) = omega arith
move_light (want.Behind n) (Sign Unequal) = omega arith
move_light (want.Behind n) (Sign Less) = omega arith
move_light (want.Behind n) (Sign LessEqual) = omega arith
move_light (want.Behind n) (Sign Greater) = omega arith
move_light (want.Behind n) (Sign GreaterEqual) = omega arith
move_light (want.Around zero) (Word KAND) = tt
move_light (want.Around zero) (Word KOR) = tt
move_light (want.Around zero) (Sign RightBracket) = tt
move_light (want.Around (suc n)) (Word KAND) = not_zero_last (4 * suc n + 1) n (λ _. to (want.Inside 0 ∷ want.Join joint.And ∷ want.Around (suc n) ∷ [])) (omega arith)
move_light (want.Around (suc n)) (Word KOR) = not_zero_last (4 * suc n + 1) n (λ k. to (want.Inside 0 ∷ want.Ands ∷ want.Join joint.Or ∷ want.Ors ∷ want.Closing ∷ want.Around k ∷ [])) (omega arith)
move_light (want.Around (suc n)) (Sign RightBracket) = not_zero_last (4 * suc n + 1) n (λ k. to (want.Around k ∷ [])) (omega arith)
move_light want.Ands (Word KAND) = omega arith
move_light want.Ors (Word KOR) = omega arith
move_light want.Factor (Number z) = omega arith
move_light want.Factor (Quoted bytes) = omega arith
move_light want.Factor (Name a) = omega arith
move_light want.Factor (Sign Minus) = omega arith
move_light want.Factor (Sign LeftBracket) = omega arith
move_light want.Negative (Number z) = omega arith
move_light want.Products (Sign Star) = omega arith
move_light want.Products (Sign Slash) = omega arith
move_light want.Sums (Sign Plus) = omega arith
move_light want.Sums (Sign Minus) = omega arith
move_light _ _ = tt

bulk-append : (σ γ : List Symbol) → bulk_all (σ ++ γ) ≡ bulk_all σ + bulk_all γ
bulk-append [] γ = omega arith
bulk-append (s ∷ σ) γ = omega (arith, bulk-append σ γ)

read_light : (γ : List Symbol) (t : Token) → Light (bulk_all γ) (read γ t)
read_light [] t = tt
read_light (s ∷ γ) t = go (move s t) (move_light s t) (skip s) (read γ t) (read_light γ t)
  where
    passed : (before : List Node) (r : Option Move) → Light (bulk_all γ) r → Light (bulk_all (s ∷ γ)) (behind_move before r)
    passed before None h = tt
    passed before (Some m) h = omega (arith, h)

    go : (m : Option Move) → Light (bulk s) m → (k : Option (List Node)) (r : Option Move) → Light (bulk_all γ) r →
        Light (bulk_all (s ∷ γ)) (elim m as (λ _. Option Move) [ Some m ↦ Some (record { symbols = m.symbols ++ γ; nodes = m.nodes }) | None ↦ elim k as (λ _. Option Move) [ Some before ↦ behind_move before r | None ↦ None ] ])
    go (Some m) h k r l = omega (arith, h, bulk-append m.symbols γ)
    go None h (Some before) r l = passed before r l
    go None h None r l = tt

pub light : (γ : List Symbol) (t : Token) (m : Move) → read γ t ≡ Some m → bulk_all m.symbols ≤ bulk_all γ + 4
light γ t m e = subst (Light (bulk_all γ)) e (read_light γ t)

bulk_one : (s : Symbol) → 1 ≤ bulk s
bulk_one want.Command = omega arith
bulk_one want.Query = omega arith
bulk_one want.Selection = omega arith
bulk_one (want.Inside n) = omega arith
bulk_one (want.Behind n) = omega arith
bulk_one (want.Around n) = omega arith
bulk_one _ = lit≤ tt

pub bulk_length : (γ : List Symbol) → length γ ≤ bulk_all γ
bulk_length [] = omega arith
bulk_length (s ∷ γ) = omega (arith, bulk_one s, bulk_length γ)
