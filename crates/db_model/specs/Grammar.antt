-- The grammar of commands: which tokens spell which command, one constructor for each production.
use Rattle.std.specs.Prelude.{ℕ, ◌≤◌, ℤ, pos, neg_ℤ, nat_abs, Bool, IsTrue, List, [], ◌∷◌, ◌++◌, length, codes}
use Rattle.std.specs.Str.{str_eq_ignore_ascii_case}
use Rattle.db_model.specs.Cond.{Attribute, Text, Number as Constant, Plus as Add, Minus as Subtract, Times, Over, Expr, Tip, Arith, Cond, Comparison, Not, And, Or, postfix}
use Rattle.db_model.specs.declared.commands.Agg.{Agg}
use Rattle.db_model.specs.declared.commands.Agg.TheVariants as agg
use Rattle.db_model.specs.declared.commands.Command.{Command}
use Rattle.db_model.specs.declared.commands.Command.TheVariants.{CreateRelation, CreateAttribute, CreateIndex, Insert, Ask, Aggregate, RemoveFrom, RemoveRelation, RemoveIndex, Pack, OpenCursor, FetchCursor, CloseCursor}
use Rattle.db_model.specs.declared.commands.Compare.{Compare}
use Rattle.db_model.specs.declared.commands.Compare.TheVariants as compare
use Rattle.db_model.specs.declared.commands.Node.{Node}
use Rattle.db_model.specs.declared.commands.Query.{Query}
use Rattle.db_model.specs.declared.commands.Query.TheVariants.{Select, Join}
use Rattle.db_model.specs.declared.schemas.DomainAsked.{DomainAsked}
use Rattle.db_model.specs.declared.schemas.DomainAsked.TheVariants as asked
use Rattle.db_model.specs.declared.schemas.IndexKind.{IndexKind}
use Rattle.db_model.specs.declared.schemas.IndexKind.TheVariants as kind
use Rattle.db_model.specs.declared.tokens.Keyword.{Keyword}
use Rattle.db_model.specs.declared.tokens.Keyword.TheVariants.{KCREATE, KRELATION, KATTRIBUTE, KINDEX, KDOMAIN, KINT, KLONG, KSTRING, KIN, KTYPE, KINLINE, KMAXHEAP, KMEMHASH, KINSERT, KINTO, KSELECT, KFROM, KWHERE, KJOIN, KON, KPROJECT, KREMOVE, KPACK, KOPEN, KFETCH, KCLOSE, KAND, KOR, KNOT, KCOUNT, KSUM, KMIN, KMAX, KMEAN, KMEDIAN}
use Rattle.db_model.specs.declared.tokens.Sign.TheVariants as sign
use Rattle.db_model.specs.declared.tokens.Sign.TheVariants.{LeftBracket, RightBracket, Comma, Dot, Plus, Minus, Star, Slash}
use Rattle.db_model.specs.declared.tokens.Token.{Token}
use Rattle.db_model.specs.declared.tokens.Token.TheVariants.{Word, Name, Number, Quoted, Sign}
use Rattle.db_model.specs.declared.values.Value.{Value}
use Rattle.db_model.specs.declared.values.Value.TheVariants as value

-- minus a NUMBER, which has no sign of its own
abbrev pub minus : ℤ → ℤ
minus z = neg_ℤ (pos (nat_abs z))

-- ---- expressions

mutual
  -- factor = NUMBER | - NUMBER | STRING | NAME | ( expr )
  pub data Factor : Expr → List Token → Type 0 where
    number : (z : ℤ) → Factor (Tip (Constant z)) (Number z ∷ [])
    negative : (z : ℤ) → Factor (Tip (Constant (minus z))) (Sign Minus ∷ Number z ∷ [])
    quoted : (bytes : List ℕ) → Factor (Tip (Text bytes)) (Quoted bytes ∷ [])
    named : (name : List ℕ) → Factor (Tip (Attribute name)) (Name name ∷ [])
    grouped : (e : Expr) (ts : List Token) → Sum e ts → Factor e (Sign LeftBracket ∷ (ts ++ Sign RightBracket ∷ []))

  -- term = factor {(* | /) factor}
  pub data Term : Expr → List Token → Type 0 where
    factor : (e : Expr) (ts : List Token) → Factor e ts → Term e ts
    times : (a b : Expr) (xs ys : List Token) → Term a xs → Factor b ys → Term (Arith Times a b) (xs ++ Sign Star ∷ ys)
    over : (a b : Expr) (xs ys : List Token) → Term a xs → Factor b ys → Term (Arith Over a b) (xs ++ Sign Slash ∷ ys)

  -- expr = term {(+ | -) term}
  pub data Sum : Expr → List Token → Type 0 where
    term : (e : Expr) (ts : List Token) → Term e ts → Sum e ts
    add : (a b : Expr) (xs ys : List Token) → Sum a xs → Term b ys → Sum (Arith Add a b) (xs ++ Sign Plus ∷ ys)
    subtract : (a b : Expr) (xs ys : List Token) → Sum a xs → Term b ys → Sum (Arith Subtract a b) (xs ++ Sign Minus ∷ ys)

-- ---- conditions

-- cmp
abbrev pub compare_sign : Compare → Token
compare_sign compare.Eq = Sign sign.Equal
compare_sign compare.Ne = Sign sign.Unequal
compare_sign compare.Lt = Sign sign.Less
compare_sign compare.Le = Sign sign.LessEqual
compare_sign compare.Gt = Sign sign.Greater
compare_sign compare.Ge = Sign sign.GreaterEqual

mutual
  -- neg = NOT neg | ( cond ) | expr cmp expr
  pub data Neg : Cond → List Token → Type 0 where
    denied : (c : Cond) (ts : List Token) → Neg c ts → Neg (Not c) (Word KNOT ∷ ts)
    nested : (c : Cond) (ts : List Token) → Disj c ts → Neg c (Sign LeftBracket ∷ (ts ++ Sign RightBracket ∷ []))
    compared : (how : Compare) (a b : Expr) (xs ys : List Token) → Sum a xs → Sum b ys → Neg (Comparison how a b) (xs ++ compare_sign how ∷ ys)

  -- conj = neg {AND neg}
  pub data Conj : Cond → List Token → Type 0 where
    neg : (c : Cond) (ts : List Token) → Neg c ts → Conj c ts
    also : (c d : Cond) (xs ys : List Token) → Conj c xs → Neg d ys → Conj (And c d) (xs ++ Word KAND ∷ ys)

  -- cond = conj {OR conj}
  pub data Disj : Cond → List Token → Type 0 where
    conj : (c : Cond) (ts : List Token) → Conj c ts → Disj c ts
    either : (c d : Cond) (xs ys : List Token) → Disj c xs → Conj d ys → Disj (Or c d) (xs ++ Word KOR ∷ ys)

-- [WHERE cond], by the condition's nodes
pub data Where : List Node → List Token → Type 0 where
  nothing : Where [] []
  condition : (c : Cond) (ts : List Token) → Disj c ts → Where (postfix c) (Word KWHERE ∷ ts)

-- ---- lists

-- item {, item}
pub data Listed {A : Type 0} (Item : A → List Token → Type 0) : List A → List Token → Type 0 where
  one : (a : A) (ts : List Token) → Item a ts → Listed Item (a ∷ []) ts
  more : (a : A) (as_ : List A) (xs ys : List Token) → Item a xs → Listed Item as_ ys → Listed Item (a ∷ as_) (xs ++ Sign Comma ∷ ys)

-- a list has at most 8 items
pub record ListOf {A : Type 0} (Item : A → List Token → Type 0) (items : List A) (ts : List Token) : Type 0 where
  pub listed : Listed Item items ts
  pub few : length items ≤ 8

-- NAME
pub data NameItem : List ℕ → List Token → Type 0 where
  a_name : (n : List ℕ) → NameItem n (Name n ∷ [])

-- value = NUMBER | - NUMBER | STRING
pub data ValueItem : Value → List Token → Type 0 where
  number_value : (z : ℤ) → ValueItem (value.Number z) (Number z ∷ [])
  minus_value : (z : ℤ) → ValueItem (value.Number (minus z)) (Sign Minus ∷ Number z ∷ [])
  text_value : (bytes : List ℕ) → ValueItem (value.Text bytes) (Quoted bytes ∷ [])

abbrev pub agg_word : Agg → Keyword
agg_word agg.Count = KCOUNT
agg_word agg.Sum = KSUM
agg_word agg.Min = KMIN
agg_word agg.Max = KMAX
agg_word agg.Mean = KMEAN
agg_word agg.Median = KMEDIAN

-- agg = (COUNT | SUM | MIN | MAX | MEAN | MEDIAN) ( NAME )
pub data AggItem : Agg × List ℕ → List Token → Type 0 where
  an_aggregate : (a : Agg) (n : List ℕ) → AggItem (a, n) (Word (agg_word a) ∷ Sign LeftBracket ∷ Name n ∷ Sign RightBracket ∷ [])

-- ---- commands

-- TIME is no keyword: it is a NAME of these letters in any case, and means the domain only here
abbrev pub is_time : List ℕ → Bool
is_time bytes = str_eq_ignore_ascii_case bytes (codes "TIME")

-- domain = INT | LONG | TIME | STRING ( NUMBER )
pub data IsDomain : DomainAsked → List Token → Type 0 where
  int : IsDomain asked.Int (Word KINT ∷ [])
  long : IsDomain asked.Long (Word KLONG ∷ [])
  time : (n : List ℕ) → IsTrue (is_time n) → IsDomain asked.Time (Name n ∷ [])
  string : (z : ℤ) → IsDomain (asked.Str z) (Word KSTRING ∷ Sign LeftBracket ∷ Number z ∷ Sign RightBracket ∷ [])

-- kind = INLINE | MAXHEAP | MEMHASH
abbrev pub kind_word : IndexKind → Keyword
kind_word kind.Inline = KINLINE
kind_word kind.MaxHeap = KMAXHEAP
kind_word kind.MemHash = KMEMHASH

-- query = SELECT NAME {, NAME} FROM NAME [WHERE cond] | JOIN NAME , NAME ON NAME PROJECT NAME {, NAME}
pub data IsQuery : Query → List Token → Type 0 where
  select : (list : List (List ℕ)) (relation : List ℕ) (nodes : List Node) (ts us : List Token) → ListOf NameItem list ts → Where nodes us → IsQuery (Select list relation nodes) (Word KSELECT ∷ (ts ++ Word KFROM ∷ Name relation ∷ us))
  join : (left right on : List ℕ) (list : List (List ℕ)) (ts : List Token) → ListOf NameItem list ts → IsQuery (Join left right on list) (Word KJOIN ∷ Name left ∷ Sign Comma ∷ Name right ∷ Word KON ∷ Name on ∷ Word KPROJECT ∷ ts)

pub data Spells : Command → List Token → Type 0 where
  create_relation : (name : List ℕ) → Spells (CreateRelation name) (Word KCREATE ∷ Word KRELATION ∷ Name name ∷ [])
  create_attribute : (name : List ℕ) (domain : DomainAsked) (relation : List ℕ) (ts : List Token) → IsDomain domain ts → Spells (CreateAttribute name domain relation) (Word KCREATE ∷ Word KATTRIBUTE ∷ Name name ∷ Word KDOMAIN ∷ (ts ++ Word KIN ∷ Name relation ∷ []))
  create_index : (relation attribute : List ℕ) (kind : IndexKind) → Spells (CreateIndex relation attribute kind) (Word KCREATE ∷ Word KINDEX ∷ Name relation ∷ Sign Dot ∷ Name attribute ∷ Word KTYPE ∷ Word (kind_word kind) ∷ [])
  insert : (values : List Value) (relation : List ℕ) (ts : List Token) → ListOf ValueItem values ts → Spells (Insert values relation) (Word KINSERT ∷ Sign LeftBracket ∷ (ts ++ Sign RightBracket ∷ Word KINTO ∷ Name relation ∷ []))
  ask : (query : Query) (ts : List Token) → IsQuery query ts → Spells (Ask query) ts
  aggregate : (list : List (Agg × List ℕ)) (relation : List ℕ) (nodes : List Node) (ts us : List Token) → ListOf AggItem list ts → Where nodes us → Spells (Aggregate list relation nodes) (Word KSELECT ∷ (ts ++ Word KFROM ∷ Name relation ∷ us))
  remove_from : (relation : List ℕ) (nodes : List Node) (us : List Token) → Where nodes us → Spells (RemoveFrom relation nodes) (Word KREMOVE ∷ Word KFROM ∷ Name relation ∷ us)
  remove_relation : (relation : List ℕ) → Spells (RemoveRelation relation) (Word KREMOVE ∷ Word KRELATION ∷ Name relation ∷ [])
  remove_index : (relation attribute : List ℕ) → Spells (RemoveIndex relation attribute) (Word KREMOVE ∷ Word KINDEX ∷ Name relation ∷ Sign Dot ∷ Name attribute ∷ [])
  pack : (relation : List ℕ) → Spells (Pack relation) (Word KPACK ∷ Name relation ∷ [])
  open_cursor : (z : ℤ) (query : Query) (ts : List Token) → IsQuery query ts → Spells (OpenCursor z query) (Word KOPEN ∷ Number z ∷ ts)
  fetch_cursor : (z : ℤ) → Spells (FetchCursor z) (Word KFETCH ∷ Number z ∷ [])
  close_cursor : (z : ℤ) → Spells (CloseCursor z) (Word KCLOSE ∷ Number z ∷ [])
