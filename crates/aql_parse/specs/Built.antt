-- The command of tokens of which it is known that they spell one.
use Rattle.std.specs.Prelude.{ℕ, ℤ, Bool, true, false, List, [], ◌∷◌, length, drop, take, slice_get, Option, Some, None, nat_le, nat_lt, if◌then◌else◌}
use Rattle.std.specs.Option.{option_map, option_and_then}
use Rattle.db_model.specs.Grammar.{minus}
use Rattle.db_model.specs.declared.commands.Agg.{Agg}
use Rattle.db_model.specs.declared.commands.Agg.TheVariants as agg
use Rattle.db_model.specs.declared.commands.Command.{Command}
use Rattle.db_model.specs.declared.commands.Command.TheVariants as command
use Rattle.db_model.specs.declared.commands.Node.{Node}
use Rattle.db_model.specs.declared.commands.Query.{Query}
use Rattle.db_model.specs.declared.commands.Query.TheVariants as query
use Rattle.db_model.specs.declared.schemas.DomainAsked.{DomainAsked}
use Rattle.db_model.specs.declared.schemas.DomainAsked.TheVariants as asked
use Rattle.db_model.specs.declared.schemas.IndexKind.{IndexKind}
use Rattle.db_model.specs.declared.schemas.IndexKind.TheVariants as kind
use Rattle.db_model.specs.declared.tokens.Keyword.TheVariants.{KCREATE, KRELATION, KATTRIBUTE, KINDEX, KINT, KLONG, KSTRING, KIN, KINLINE, KMAXHEAP, KMEMHASH, KINSERT, KINTO, KSELECT, KFROM, KJOIN, KREMOVE, KPACK, KOPEN, KFETCH, KCLOSE, KCOUNT, KSUM, KMIN, KMAX, KMEAN, KMEDIAN}
use Rattle.db_model.specs.declared.tokens.Sign.TheVariants.{Minus}
use Rattle.db_model.specs.declared.tokens.Token.{Token}
use Rattle.db_model.specs.declared.tokens.Token.TheVariants.{Word, Name, Number, Quoted, Sign}
use Rattle.db_model.specs.declared.values.Value.{Value}
use Rattle.db_model.specs.declared.values.Value.TheVariants as value

-- what stands in a place where it was made, None where nothing was
abbrev pub made : {A : Type 0} → Bool → A → Option A
made true x = Some x
made false x = None

-- ---- what single tokens are

abbrev pub token_name : Token → Option (List ℕ)
token_name (Name n) = Some n
token_name _ = None

abbrev pub token_agg : Token → Option Agg
token_agg (Word KCOUNT) = Some agg.Count
token_agg (Word KSUM) = Some agg.Sum
token_agg (Word KMIN) = Some agg.Min
token_agg (Word KMAX) = Some agg.Max
token_agg (Word KMEAN) = Some agg.Mean
token_agg (Word KMEDIAN) = Some agg.Median
token_agg _ = None

abbrev pub token_kind : Token → Option IndexKind
token_kind (Word KINLINE) = Some kind.Inline
token_kind (Word KMAXHEAP) = Some kind.MaxHeap
token_kind (Word KMEMHASH) = Some kind.MemHash
token_kind _ = None

-- a value, after a minus or not
abbrev pub token_value : Bool → Token → Option Value
token_value negative (Number z) = Some (value.Number (if negative then minus z else z))
token_value negative (Quoted bytes) = Some (value.Text bytes)
token_value negative _ = None

abbrev pub is_minus : Token → Bool
is_minus (Sign Minus) = true
is_minus _ = false

abbrev pub is_from : Token → Bool
is_from (Word KFROM) = true
is_from _ = false

-- the words that a relation's name follows, after lists and domains
abbrev pub introduces : Token → Bool
introduces (Word KFROM) = true
introduces (Word KINTO) = true
introduces (Word KIN) = true
introduces _ = false

abbrev pub token_number : Token → Option ℤ
token_number (Number z) = Some z
token_number _ = None

-- the name at a place, the number there, the kind of index there
abbrev pub name_token_at : List Token → ℕ → Option (List ℕ)
name_token_at ts n = option_and_then token_name (slice_get ts n)

abbrev pub number_token_at : List Token → ℕ → Option ℤ
number_token_at ts n = option_and_then token_number (slice_get ts n)

abbrev pub kind_at : List Token → ℕ → Option IndexKind
kind_at ts n = option_and_then token_kind (slice_get ts n)

-- ---- lists

-- the names up to FROM, or to the end
abbrev pub name_tokens : List Token → List (List ℕ)
name_tokens [] = []
name_tokens (t ∷ ts) = elim (is_from t) [ true ↦ [] | false ↦ elim (token_name t) [ Some n ↦ n ∷ name_tokens ts | None ↦ name_tokens ts ] ]

-- the values to the end
abbrev pub values_in : Bool → List Token → List Value
values_in negative [] = []
values_in negative (t ∷ ts) = elim (token_value negative t) [ Some v ↦ v ∷ values_in (is_minus t) ts | None ↦ values_in (is_minus t) ts ]

-- the aggregates up to FROM: after its word and a bracket stands the name of each
abbrev pub aggregates_in : List Token → List (Agg × List ℕ)
aggregates_in [] = []
aggregates_in (t ∷ ts) =
    elim (is_from t) [
      | true ↦ []
      | false ↦ elim (token_agg t) [ Some a ↦ elim (name_token_at ts 1) [ Some n ↦ (a, n) ∷ aggregates_in ts | None ↦ aggregates_in ts ] | None ↦ aggregates_in ts ]
    ]

-- the name after the first FROM, INTO or IN
abbrev pub relation_in : List Token → Option (List ℕ)
relation_in [] = None
relation_in (t ∷ ts) = elim (introduces t) [ true ↦ name_token_at ts 0 | false ↦ relation_in ts ]

-- a list of at most 8
abbrev pub at_most_8 : {A : Type 0} → List A → Option (List A)
at_most_8 xs = if nat_le (length xs) 8 then Some xs else None

-- ---- commands

-- the first tokens: no command has more in front of its condition
abbrev pub first_tokens : List Token → List Token
first_tokens tokens = take 42 tokens

abbrev pub domain_read : List Token → Option DomainAsked
domain_read (Word KINT ∷ ts) = Some asked.Int
domain_read (Word KLONG ∷ ts) = Some asked.Long
domain_read (Name time ∷ ts) = Some asked.Time
domain_read (Word KSTRING ∷ ts) = option_map (λ z. asked.Str z) (number_token_at ts 1)
domain_read _ = None

-- NAME DOMAIN domain IN NAME
abbrev pub attribute_read : List Token → Option Command
attribute_read (name ∷ word ∷ ts) = option_and_then (λ n. option_and_then (λ d. option_map (λ r. command.CreateAttribute n d r) (relation_in ts)) (domain_read ts)) (token_name name)
attribute_read _ = None

-- NAME . NAME TYPE kind
abbrev pub index_of : List Token → Option Command
index_of ts = option_and_then (λ r. option_and_then (λ a. option_map (λ k. command.CreateIndex r a k) (kind_at ts 4)) (name_token_at ts 2)) (name_token_at ts 0)

abbrev pub create_of : List Token → Option Command
create_of (Word KRELATION ∷ ts) = option_map (λ n. command.CreateRelation n) (name_token_at ts 0)
create_of (Word KATTRIBUTE ∷ ts) = attribute_read ts
create_of (Word KINDEX ∷ ts) = index_of ts
create_of _ = None

-- NAME . NAME
abbrev pub unindex_of : List Token → Option Command
unindex_of ts = option_and_then (λ r. option_map (λ a. command.RemoveIndex r a) (name_token_at ts 2)) (name_token_at ts 0)

abbrev pub remove_of : List Token → List Node → Option Command
remove_of (Word KFROM ∷ ts) nodes = option_map (λ r. command.RemoveFrom r nodes) (name_token_at ts 0)
remove_of (Word KRELATION ∷ ts) nodes = option_map (λ r. command.RemoveRelation r) (name_token_at ts 0)
remove_of (Word KINDEX ∷ ts) nodes = unindex_of ts
remove_of _ nodes = None

-- the INSERT of the values among some tokens
abbrev pub built_insert : List Token → List ℕ → Option Command
built_insert ts relation = option_map (λ values. command.Insert values relation) (at_most_8 (values_in false ts))

abbrev pub insert_of : List Token → Option Command
insert_of ts = option_and_then (built_insert ts) (relation_in ts)

abbrev pub select_of : List Token → List Node → Option Query
select_of ts nodes = option_and_then (λ relation. option_map (λ list. query.Select list relation nodes) (at_most_8 (name_tokens ts))) (relation_in ts)

-- the names after PROJECT, which is the sixth token
abbrev pub projected_tokens : List Token → Option (List (List ℕ))
projected_tokens ts = if nat_lt (length ts) 6 then None else at_most_8 (name_tokens (drop 6 ts))

-- NAME , NAME ON NAME PROJECT NAME {, NAME}
abbrev pub join_read : List Token → Option Query
join_read ts = option_and_then (λ l. option_and_then (λ r. option_and_then (λ o. option_map (λ list. query.Join l r o list) (projected_tokens ts)) (name_token_at ts 4)) (name_token_at ts 2)) (name_token_at ts 0)

abbrev pub aggregate_read : List Token → List Node → Option Command
aggregate_read ts nodes = option_and_then (λ relation. option_map (λ list. command.Aggregate list relation nodes) (at_most_8 (aggregates_in ts))) (relation_in ts)

abbrev pub query_of : List Token → List Node → Option Query
query_of (Word KSELECT ∷ ts) nodes = select_of ts nodes
query_of (Word KJOIN ∷ ts) nodes = join_read ts
query_of _ nodes = None

-- names or aggregates
abbrev pub selection_of : List Token → List Node → Option Command
selection_of (Name n ∷ ts) nodes = option_map (λ q. command.Ask q) (select_of (Name n ∷ ts) nodes)
selection_of ts nodes = aggregate_read ts nodes

-- NUMBER query
abbrev pub open_of : List Token → List Node → Option Command
open_of (Number z ∷ ts) nodes = option_map (λ q. command.OpenCursor z q) (query_of ts nodes)
open_of _ nodes = None

abbrev pub joined_of : List Token → Option Command
joined_of ts = option_map (λ q. command.Ask q) (join_read ts)

abbrev pub pack_of : List Token → Option Command
pack_of ts = option_map (λ r. command.Pack r) (name_token_at ts 0)

abbrev pub fetch_of : List Token → Option Command
fetch_of ts = option_map (λ z. command.FetchCursor z) (number_token_at ts 0)

abbrev pub close_of : List Token → Option Command
close_of ts = option_map (λ z. command.CloseCursor z) (number_token_at ts 0)

abbrev pub command_of : List Token → List Node → Option Command
command_of (Word KCREATE ∷ ts) nodes = create_of ts
command_of (Word KINSERT ∷ ts) nodes = insert_of ts
command_of (Word KSELECT ∷ ts) nodes = selection_of ts nodes
command_of (Word KJOIN ∷ ts) nodes = joined_of ts
command_of (Word KREMOVE ∷ ts) nodes = remove_of ts nodes
command_of (Word KPACK ∷ ts) nodes = pack_of ts
command_of (Word KOPEN ∷ ts) nodes = open_of ts nodes
command_of (Word KFETCH ∷ ts) nodes = fetch_of ts
command_of (Word KCLOSE ∷ ts) nodes = close_of ts
command_of _ nodes = None
