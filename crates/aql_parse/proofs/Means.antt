-- What each symbol of the machine stands for, in the grammar's words: the tokens that it reads, and their nodes.
use Rattle.std.proofs.Common.{◌≡◌, ℕ, zero, suc, ℤ, List, [], ◌∷◌, ◌++◌, ◌∙◌, subst}
use Rattle.db_model.specs.Cond.{Expr, Cond, postfix, postfix_expr}
use Rattle.db_model.specs.Grammar.{Factor, Term, Sum, Neg, Conj, Disj, Where, NameItem, ValueItem, AggItem, IsDomain, kind_word, IsQuery, Spells, minus}
use Rattle.db_model.specs.Spelling.{nodes_of, query_nodes}
use Rattle.db_model.specs.declared.commands.Command.{Command}
use Rattle.db_model.specs.declared.commands.Node.{Node}
use Rattle.db_model.specs.declared.commands.Node.TheVariants as node
use Rattle.db_model.specs.declared.commands.Query.{Query}
use Rattle.db_model.specs.declared.schemas.IndexKind.{IndexKind}
use Rattle.db_model.specs.declared.tokens.Keyword.TheVariants.{KCREATE, KREMOVE, KSELECT, KDOMAIN, KIN, KTYPE, KINTO, KFROM, KON, KPROJECT}
use Rattle.db_model.specs.declared.tokens.Sign.TheVariants as sign
use Rattle.db_model.specs.declared.tokens.Token.{Token}
use Rattle.db_model.specs.declared.tokens.Token.TheVariants.{Word, Number, Sign}
use Rattle.aql_parse.specs.Machine.{joint_node}
use Rattle.aql_parse.specs.declared.symbols.Symbol.{Symbol}
use Rattle.aql_parse.specs.declared.symbols.Symbol.TheVariants as want

-- ---- trees of which the tokens and the nodes are known

pub record ReadExpr (R : Expr → List Token → Type 0) (ts : List Token) (ns : List Node) : Type 0 where
  pub expr : Expr
  pub spelt : R expr ts
  pub nodes : postfix_expr expr ≡ ns

pub moved_expr : {R : Expr → List Token → Type 0} {ts us : List Token} {ns ms : List Node} → ReadExpr R ts ns → ts ≡ us → ns ≡ ms → ReadExpr R us ms
moved_expr {R = R} r e f = record { expr = r.expr; spelt = subst (R r.expr) e r.spelt; nodes = r.nodes ∙ f }

pub record ReadCond (R : Cond → List Token → Type 0) (ts : List Token) (ns : List Node) : Type 0 where
  pub cond : Cond
  pub spelt : R cond ts
  pub nodes : postfix cond ≡ ns

pub moved_cond : {R : Cond → List Token → Type 0} {ts us : List Token} {ns ms : List Node} → ReadCond R ts ns → ts ≡ us → ns ≡ ms → ReadCond R us ms
moved_cond {R = R} r e f = record { cond = r.cond; spelt = subst (R r.cond) e r.spelt; nodes = r.nodes ∙ f }

pub record ReadQuery (ts : List Token) (ns : List Node) : Type 0 where
  pub query : Query
  pub spelt : IsQuery query ts
  pub nodes : query_nodes query ≡ ns

pub record ReadCommand (ts : List Token) (ns : List Node) : Type 0 where
  pub command : Command
  pub spelt : Spells command ts
  pub nodes : nodes_of command ≡ ns

pub moved_command : {ts us : List Token} {ns ms : List Node} → ReadCommand ts ns → ts ≡ us → ns ≡ ms → ReadCommand us ms
moved_command r e f = record { command = r.command; spelt = subst (Spells r.command) e r.spelt; nodes = r.nodes ∙ f }

-- ---- symbols

pub data Exactly (xs : List Token) (ns : List Node) : List Token → List Node → Type 0 where
  exactly : Exactly xs ns xs ns

pub data ItemRead {A : Type 0} (Item : A → List Token → Type 0) : List Token → List Node → Type 0 where
  item_read : (a : A) (ts : List Token) → Item a ts → ItemRead Item ts []

-- NUMBER
pub data NumberItem : ℤ → List Token → Type 0 where
  a_number : (z : ℤ) → NumberItem z (Number z ∷ [])

-- kind
pub data KindItem : IndexKind → List Token → Type 0 where
  a_kind : (k : IndexKind) → KindItem k (Word (kind_word k) ∷ [])

-- at most n items, each behind a comma
pub data MoreRead {A : Type 0} (Item : A → List Token → Type 0) : ℕ → List Token → List Node → Type 0 where
  no_more : (n : ℕ) → MoreRead Item n [] []
  one_more : (n : ℕ) (a : A) (xs ts : List Token) (ns : List Node) → Item a xs → MoreRead Item n ts ns → MoreRead Item (suc n) (Sign sign.Comma ∷ (xs ++ ts)) ns

pub data WhereRead : List Token → List Node → Type 0 where
  where_read : (nodes : List Node) (ts : List Token) → Where nodes ts → WhereRead ts nodes

pub data NegativeRead : List Token → List Node → Type 0 where
  negative_read : (z : ℤ) → NegativeRead (Number z ∷ []) (node.Number (minus z) ∷ [])

-- n opening brackets in front
abbrev pub opens : ℕ → List Token → List Token
opens zero ts = ts
opens (suc n) ts = opens n (Sign sign.LeftBracket ∷ ts)

-- what follows a condition inside n brackets makes one condition of all, the brackets closed
abbrev pub AroundRead : ℕ → List Token → List Node → Type 0
AroundRead zero ts ns = Exactly [] [] ts ns
AroundRead (suc n) ts ns = (c : Cond) (xs : List Token) → Conj c xs → ReadCond Neg (opens (suc n) (xs ++ ts)) (postfix c ++ ns)

abbrev pub Reads : Symbol → List Token → List Node → Type 0
Reads want.Command ts ns = ReadCommand ts ns
Reads want.Create ts ns = ReadCommand (Word KCREATE ∷ ts) ns
Reads want.Remove ts ns = ReadCommand (Word KREMOVE ∷ ts) ns
Reads want.Query ts ns = ReadQuery ts ns
Reads want.Selection ts ns = ReadCommand (Word KSELECT ∷ ts) ns
Reads want.Name ts ns = ItemRead NameItem ts ns
Reads want.Number ts ns = ItemRead NumberItem ts ns
Reads want.Value ts ns = ItemRead ValueItem ts ns
Reads want.Aggregate ts ns = ItemRead AggItem ts ns
Reads want.Domain ts ns = ItemRead IsDomain ts ns
Reads want.Kind ts ns = ItemRead KindItem ts ns
Reads want.WordDomain ts ns = Exactly (Word KDOMAIN ∷ []) [] ts ns
Reads want.WordIn ts ns = Exactly (Word KIN ∷ []) [] ts ns
Reads want.WordType ts ns = Exactly (Word KTYPE ∷ []) [] ts ns
Reads want.WordInto ts ns = Exactly (Word KINTO ∷ []) [] ts ns
Reads want.WordFrom ts ns = Exactly (Word KFROM ∷ []) [] ts ns
Reads want.WordOn ts ns = Exactly (Word KON ∷ []) [] ts ns
Reads want.WordProject ts ns = Exactly (Word KPROJECT ∷ []) [] ts ns
Reads want.Opening ts ns = Exactly (Sign sign.LeftBracket ∷ []) [] ts ns
Reads want.Closing ts ns = Exactly (Sign sign.RightBracket ∷ []) [] ts ns
Reads want.Comma ts ns = Exactly (Sign sign.Comma ∷ []) [] ts ns
Reads want.Dot ts ns = Exactly (Sign sign.Dot ∷ []) [] ts ns
Reads (want.MoreNames n) ts ns = MoreRead NameItem n ts ns
Reads (want.MoreValues n) ts ns = MoreRead ValueItem n ts ns
Reads (want.MoreAggregates n) ts ns = MoreRead AggItem n ts ns
Reads want.Where ts ns = WhereRead ts ns
Reads (want.Inside n) ts ns = ReadCond Neg (opens n ts) ns
Reads (want.Behind n) ts ns = (e : Expr) (xs : List Token) → Sum e xs → ReadCond Neg (opens n (xs ++ ts)) (postfix_expr e ++ ns)
Reads (want.Around n) ts ns = AroundRead n ts ns
Reads want.Ands ts ns = (c : Cond) (xs : List Token) → Conj c xs → ReadCond Conj (xs ++ ts) (postfix c ++ ns)
Reads want.Ors ts ns = (c : Cond) (xs : List Token) → Disj c xs → ReadCond Disj (xs ++ ts) (postfix c ++ ns)
Reads want.Factor ts ns = ReadExpr Factor ts ns
Reads want.Negative ts ns = NegativeRead ts ns
Reads want.Products ts ns = (e : Expr) (xs : List Token) → Term e xs → ReadExpr Term (xs ++ ts) (postfix_expr e ++ ns)
Reads want.Sums ts ns = (e : Expr) (xs : List Token) → Sum e xs → ReadExpr Sum (xs ++ ts) (postfix_expr e ++ ns)
Reads (want.Join j) ts ns = Exactly [] (joint_node j ∷ []) ts ns

-- a stack stands for what its symbols do, one behind the other
pub data Means : List Symbol → List Token → List Node → Type 0 where
  nil : Means [] [] []
  cons : (s : Symbol) (γ : List Symbol) (xs ys : List Token) (ms ns : List Node) → Reads s xs ms → Means γ ys ns → Means (s ∷ γ) (xs ++ ys) (ms ++ ns)
