-- The machine that reads a command token by token: a stack of what is still to come.
use Rattle.std.specs.Prelude.{ℕ, suc, ◌+◌, ◌-◌, ◌==◌, List, [], ◌∷◌, ◌++◌, Option, Some, None, if◌then◌else◌}
use Rattle.std.specs.Option.{option_map}
use Rattle.db_model.specs.Grammar.{is_time, minus}
use Rattle.db_model.specs.declared.commands.Compare.{Compare}
use Rattle.db_model.specs.declared.commands.Compare.TheVariants as compare
use Rattle.db_model.specs.declared.commands.Node.{Node}
use Rattle.db_model.specs.declared.commands.Node.TheVariants as node
use Rattle.db_model.specs.declared.tokens.Keyword.TheVariants.{KCREATE, KRELATION, KATTRIBUTE, KINDEX, KDOMAIN, KINT, KLONG, KSTRING, KIN, KTYPE, KINLINE, KMAXHEAP, KMEMHASH, KINSERT, KINTO, KSELECT, KFROM, KWHERE, KJOIN, KON, KPROJECT, KREMOVE, KPACK, KOPEN, KFETCH, KCLOSE, KAND, KOR, KNOT, KCOUNT, KSUM, KMIN, KMAX, KMEAN, KMEDIAN}
use Rattle.db_model.specs.declared.tokens.Sign.TheVariants.{LeftBracket, RightBracket, Comma, Dot, Plus, Minus, Star, Slash, Equal, Unequal, Less, LessEqual, Greater, GreaterEqual}
use Rattle.db_model.specs.declared.tokens.Token.{Token}
use Rattle.db_model.specs.declared.tokens.Token.TheVariants.{Word, Name, Number, Quoted, Sign}
use Rattle.aql_parse.specs.declared.symbols.Joint.{Joint}
use Rattle.aql_parse.specs.declared.symbols.Joint.TheVariants as joint
use Rattle.aql_parse.specs.declared.symbols.Symbol.{Symbol}
use Rattle.aql_parse.specs.declared.symbols.Symbol.TheVariants as want

-- what a token leads to: what is then to come, and the nodes that it brings
pub record Move : Type 0 where
  pub symbols : List Symbol
  pub nodes : List Node

abbrev pub to : List Symbol → Option Move
to symbols = Some (record { symbols = symbols; nodes = [] })

abbrev pub with_node : Node → List Symbol → Option Move
with_node n symbols = Some (record { symbols = symbols; nodes = n ∷ [] })

-- ---- the heads of commands

abbrev pub joined_query : List Symbol
joined_query = want.Name ∷ want.Comma ∷ want.Name ∷ want.WordOn ∷ want.Name ∷ want.WordProject ∷ want.Name ∷ want.MoreNames 7 ∷ []

abbrev pub inserted : List Symbol
inserted = want.Opening ∷ want.Value ∷ want.MoreValues 7 ∷ want.Closing ∷ want.WordInto ∷ want.Name ∷ []

abbrev pub select_symbols : List Symbol
select_symbols = want.WordFrom ∷ want.Name ∷ want.Where ∷ []

abbrev pub aggregate_symbols : List Symbol
aggregate_symbols = want.Opening ∷ want.Name ∷ want.Closing ∷ want.MoreAggregates 7 ∷ select_symbols

abbrev pub head_move : Symbol → Token → Option Move
head_move want.Command (Word KCREATE) = to (want.Create ∷ [])
head_move want.Command (Word KINSERT) = to inserted
head_move want.Command (Word KSELECT) = to (want.Selection ∷ [])
head_move want.Command (Word KJOIN) = to joined_query
head_move want.Command (Word KREMOVE) = to (want.Remove ∷ [])
head_move want.Command (Word KPACK) = to (want.Name ∷ [])
head_move want.Command (Word KOPEN) = to (want.Number ∷ want.Query ∷ [])
head_move want.Command (Word KFETCH) = to (want.Number ∷ [])
head_move want.Command (Word KCLOSE) = to (want.Number ∷ [])
head_move want.Create (Word KRELATION) = to (want.Name ∷ [])
head_move want.Create (Word KATTRIBUTE) = to (want.Name ∷ want.WordDomain ∷ want.Domain ∷ want.WordIn ∷ want.Name ∷ [])
head_move want.Create (Word KINDEX) = to (want.Name ∷ want.Dot ∷ want.Name ∷ want.WordType ∷ want.Kind ∷ [])
head_move want.Remove (Word KFROM) = to (want.Name ∷ want.Where ∷ [])
head_move want.Remove (Word KRELATION) = to (want.Name ∷ [])
head_move want.Remove (Word KINDEX) = to (want.Name ∷ want.Dot ∷ want.Name ∷ [])
head_move want.Query (Word KSELECT) = to (want.Name ∷ want.MoreNames 7 ∷ select_symbols)
head_move want.Query (Word KJOIN) = to joined_query
head_move want.Selection (Name n) = to (want.MoreNames 7 ∷ select_symbols)
head_move want.Selection (Word KCOUNT) = to aggregate_symbols
head_move want.Selection (Word KSUM) = to aggregate_symbols
head_move want.Selection (Word KMIN) = to aggregate_symbols
head_move want.Selection (Word KMAX) = to aggregate_symbols
head_move want.Selection (Word KMEAN) = to aggregate_symbols
head_move want.Selection (Word KMEDIAN) = to aggregate_symbols
head_move _ _ = None

-- ---- names, values and words

-- another item after a comma, where there may be one
abbrev pub another : ℕ → Symbol → (ℕ → Symbol) → Option Move
another n item more = if n == 0 then None else to (item ∷ more (n - 1) ∷ [])

abbrev pub item_move : Symbol → Token → Option Move
item_move want.Name (Name n) = to []
item_move want.Number (Number z) = to []
item_move want.Value (Number z) = to []
item_move want.Value (Quoted bytes) = to []
item_move want.Value (Sign Minus) = to (want.Number ∷ [])
item_move want.Aggregate (Word KCOUNT) = to (want.Opening ∷ want.Name ∷ want.Closing ∷ [])
item_move want.Aggregate (Word KSUM) = to (want.Opening ∷ want.Name ∷ want.Closing ∷ [])
item_move want.Aggregate (Word KMIN) = to (want.Opening ∷ want.Name ∷ want.Closing ∷ [])
item_move want.Aggregate (Word KMAX) = to (want.Opening ∷ want.Name ∷ want.Closing ∷ [])
item_move want.Aggregate (Word KMEAN) = to (want.Opening ∷ want.Name ∷ want.Closing ∷ [])
item_move want.Aggregate (Word KMEDIAN) = to (want.Opening ∷ want.Name ∷ want.Closing ∷ [])
item_move (want.MoreNames n) (Sign Comma) = another n want.Name want.MoreNames
item_move (want.MoreValues n) (Sign Comma) = another n want.Value want.MoreValues
item_move (want.MoreAggregates n) (Sign Comma) = another n want.Aggregate want.MoreAggregates
item_move want.Domain (Word KINT) = to []
item_move want.Domain (Word KLONG) = to []
item_move want.Domain (Word KSTRING) = to (want.Opening ∷ want.Number ∷ want.Closing ∷ [])
item_move want.Domain (Name n) = if is_time n then to [] else None
item_move want.Kind (Word KINLINE) = to []
item_move want.Kind (Word KMAXHEAP) = to []
item_move want.Kind (Word KMEMHASH) = to []
item_move want.WordDomain (Word KDOMAIN) = to []
item_move want.WordIn (Word KIN) = to []
item_move want.WordType (Word KTYPE) = to []
item_move want.WordInto (Word KINTO) = to []
item_move want.WordFrom (Word KFROM) = to []
item_move want.WordOn (Word KON) = to []
item_move want.WordProject (Word KPROJECT) = to []
item_move want.Opening (Sign LeftBracket) = to []
item_move want.Closing (Sign RightBracket) = to []
item_move want.Comma (Sign Comma) = to []
item_move want.Dot (Sign Dot) = to []
item_move want.Where (Word KWHERE) = to (want.Inside 0 ∷ want.Ands ∷ want.Ors ∷ [])
item_move _ _ = None

-- ---- conditions

-- what follows an operand inside n brackets
abbrev pub operand : ℕ → List Symbol
operand n = want.Products ∷ want.Sums ∷ want.Behind n ∷ []

-- what follows a comparison's sign inside n brackets, which are then conditions'
abbrev pub comparison_move : ℕ → Compare → Option Move
comparison_move n how = to (want.Factor ∷ want.Products ∷ want.Sums ∷ want.Join (joint.Compare how) ∷ want.Around n ∷ [])

abbrev pub condition_move : Symbol → Token → Option Move
condition_move (want.Inside n) (Sign LeftBracket) = to (want.Inside (n + 1) ∷ [])
condition_move (want.Inside n) (Word KNOT) = to (want.Inside 0 ∷ want.Join joint.Not ∷ want.Around n ∷ [])
condition_move (want.Inside n) (Number z) = with_node (node.Number z) (operand n)
condition_move (want.Inside n) (Quoted bytes) = with_node (node.Text bytes) (operand n)
condition_move (want.Inside n) (Name name) = with_node (node.Attribute name) (operand n)
condition_move (want.Inside n) (Sign Minus) = to (want.Negative ∷ operand n)
condition_move (want.Behind n) (Sign RightBracket) = if n == 0 then None else to (operand (n - 1))
condition_move (want.Behind n) (Sign Equal) = comparison_move n compare.Eq
condition_move (want.Behind n) (Sign Unequal) = comparison_move n compare.Ne
condition_move (want.Behind n) (Sign Less) = comparison_move n compare.Lt
condition_move (want.Behind n) (Sign LessEqual) = comparison_move n compare.Le
condition_move (want.Behind n) (Sign Greater) = comparison_move n compare.Gt
condition_move (want.Behind n) (Sign GreaterEqual) = comparison_move n compare.Ge
condition_move (want.Around n) (Word KAND) = if n == 0 then None else to (want.Inside 0 ∷ want.Join joint.And ∷ want.Around n ∷ [])
condition_move (want.Around n) (Word KOR) = if n == 0 then None else to (want.Inside 0 ∷ want.Ands ∷ want.Join joint.Or ∷ want.Ors ∷ want.Closing ∷ want.Around (n - 1) ∷ [])
condition_move (want.Around n) (Sign RightBracket) = if n == 0 then None else to (want.Around (n - 1) ∷ [])
condition_move want.Ands (Word KAND) = to (want.Inside 0 ∷ want.Join joint.And ∷ want.Ands ∷ [])
condition_move want.Ors (Word KOR) = to (want.Inside 0 ∷ want.Ands ∷ want.Join joint.Or ∷ want.Ors ∷ [])
condition_move want.Factor (Number z) = with_node (node.Number z) []
condition_move want.Factor (Quoted bytes) = with_node (node.Text bytes) []
condition_move want.Factor (Name name) = with_node (node.Attribute name) []
condition_move want.Factor (Sign Minus) = to (want.Negative ∷ [])
condition_move want.Factor (Sign LeftBracket) = to (want.Factor ∷ want.Products ∷ want.Sums ∷ want.Closing ∷ [])
condition_move want.Negative (Number z) = with_node (node.Number (minus z)) []
condition_move want.Products (Sign Star) = to (want.Factor ∷ want.Join joint.Mul ∷ want.Products ∷ [])
condition_move want.Products (Sign Slash) = to (want.Factor ∷ want.Join joint.Div ∷ want.Products ∷ [])
condition_move want.Sums (Sign Plus) = to (want.Factor ∷ want.Products ∷ want.Join joint.Add ∷ want.Sums ∷ [])
condition_move want.Sums (Sign Minus) = to (want.Factor ∷ want.Products ∷ want.Join joint.Sub ∷ want.Sums ∷ [])
condition_move _ _ = None

-- ---- one symbol, one token, all tokens

abbrev pub or_else : Option Move → Option Move → Option Move
or_else (Some m) other = Some m
or_else None other = other

-- what a symbol makes of a token, None where the token is none of its
abbrev pub move : Symbol → Token → Option Move
move s t = or_else (head_move s t) (or_else (item_move s t) (condition_move s t))

abbrev pub joint_node : Joint → Node
joint_node joint.Add = node.Add
joint_node joint.Sub = node.Sub
joint_node joint.Mul = node.Mul
joint_node joint.Div = node.Div
joint_node (joint.Compare how) = node.Compare how
joint_node joint.And = node.And
joint_node joint.Or = node.Or
joint_node joint.Not = node.Not

-- the nodes of a symbol that may be left out
abbrev pub skip : Symbol → Option (List Node)
skip (want.MoreNames n) = Some []
skip (want.MoreValues n) = Some []
skip (want.MoreAggregates n) = Some []
skip want.Where = Some []
skip (want.Around n) = if n == 0 then Some [] else None
skip want.Ands = Some []
skip want.Ors = Some []
skip want.Products = Some []
skip want.Sums = Some []
skip (want.Join j) = Some (joint_node j ∷ [])
skip _ = None

-- nodes that came before
abbrev pub behind_nodes : List Node → Option (List Node) → Option (List Node)
behind_nodes before rest = option_map (λ nodes. before ++ nodes) rest

abbrev pub behind_move : List Node → Option Move → Option Move
behind_move before rest = option_map (λ m. record { symbols = m.symbols; nodes = before ++ m.nodes }) rest

-- the stack once it has read a token, with the nodes that this brings; None where it cannot
abbrev pub read : List Symbol → Token → Option Move
read [] t = None
read (s ∷ γ) t =
    elim (move s t) [
      | Some m ↦ Some (record { symbols = m.symbols ++ γ; nodes = m.nodes })
      | None ↦ elim (skip s) [ Some before ↦ behind_move before (read γ t) | None ↦ None ]
    ]

-- the nodes where nothing more has to come
abbrev pub finish : List Symbol → Option (List Node)
finish [] = Some []
finish (s ∷ γ) = elim (skip s) [ Some before ↦ behind_nodes before (finish γ) | None ↦ None ]

-- the nodes of all tokens; None where the stack cannot read them to their end, or more has to come
abbrev pub run : List Symbol → List Token → Option (List Node)
run γ [] = finish γ
run γ (t ∷ ts) = elim (read γ t) [ Some m ↦ behind_nodes m.nodes (run m.symbols ts) | None ↦ None ]

-- how many of the tokens the stack can read
abbrev pub readable_tokens : List Symbol → List Token → ℕ
readable_tokens γ [] = 0
readable_tokens γ (t ∷ ts) = elim (read γ t) [ Some m ↦ suc (readable_tokens m.symbols ts) | None ↦ 0 ]

abbrev pub start : List Symbol
start = want.Command ∷ []
