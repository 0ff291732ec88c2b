-- What the grammar spells of commands, the machine reads, with the nodes of their conditions.
use Rattle.std.proofs.Common.{◌≡◌, ℕ, zero, suc, ◌≤◌, List, [], ◌∷◌, ◌++◌, length, Option, Some, None, refl, sym, ◌∙◌, ap, append_assoc, append-nil, arith, if◌then◌else◌}
use Rattle.db_model.specs.Cond.{postfix}
use Rattle.db_model.specs.Grammar.{Where, nothing, condition, Listed, one, more, ListOf, NameItem, a_name, ValueItem, number_value, minus_value, text_value, AggItem, an_aggregate, agg_word, IsDomain, int, long, time, string, kind_word, IsQuery, select, join, Spells, create_relation, create_attribute, create_index, insert, ask, aggregate, remove_from, remove_relation, remove_index, pack, open_cursor, fetch_cursor, close_cursor}
use Rattle.db_model.specs.Spelling.{query_nodes, nodes_of}
use Rattle.db_model.specs.declared.commands.Agg.{Agg}
use Rattle.db_model.specs.declared.commands.Agg.TheVariants as agg
use Rattle.db_model.specs.declared.commands.Command.{Command}
use Rattle.db_model.specs.declared.commands.Node.{Node}
use Rattle.db_model.specs.declared.commands.Query.{Query}
use Rattle.db_model.specs.declared.schemas.DomainAsked.{DomainAsked}
use Rattle.db_model.specs.declared.schemas.IndexKind.{IndexKind}
use Rattle.db_model.specs.declared.schemas.IndexKind.TheVariants as kind
use Rattle.db_model.specs.declared.tokens.Keyword.TheVariants.{KIN, KINTO, KFROM, KON, KPROJECT}
use Rattle.db_model.specs.declared.tokens.Sign.TheVariants.{LeftBracket, RightBracket, Comma}
use Rattle.db_model.specs.declared.tokens.Token.{Token}
use Rattle.db_model.specs.declared.tokens.Token.TheVariants.{Word, Name, Sign}
use Rattle.db_model.specs.declared.values.Value.{Value}
use Rattle.aql_parse.specs.Machine.{Move, run, behind_nodes, move, or_else, skip, another, to, select_symbols, joined_query, start}
use Rattle.aql_parse.specs.declared.symbols.Symbol.{Symbol}
use Rattle.aql_parse.specs.declared.symbols.Symbol.TheVariants as want
use Rattle.aql_parse.proofs.Runs.{behind-nil, Refuses, run_pass, run_to, another-suc}
use Rattle.aql_parse.proofs.Complete.{disj_runs}

-- ---- WHERE

where_runs : (nodes : List Node) (ts : List Token) → Where nodes ts → run (want.Where ∷ []) ts ≡ Some nodes
where_runs _ _ nothing = refl
where_runs _ _ (condition c ts p) =
    behind-nil (run (want.Inside 0 ∷ want.Ands ∷ want.Ors ∷ []) ts)
    ∙ ap (run (want.Inside 0 ∷ want.Ands ∷ want.Ors ∷ [])) (sym (append-nil ts))
    ∙ disj_runs c ts p [] [] (record { products = tt; sums = tt }) tt
    ∙ ap (λ ns. Some ns) (append-nil (postfix c))

-- ---- lists

-- how the machine reads the items of a list
record Reads {A : Type 0} (Item : A → List Token → Type 0) (item : Symbol) (more_ : ℕ → Symbol) : Type 0 where
  reads : (a : A) (xs : List Token) → Item a xs → (γ : List Symbol) (rest : List Token) → run (item ∷ γ) (xs ++ rest) ≡ run γ rest
  comma : (n : ℕ) → move (more_ n) (Sign Comma) ≡ another n item more_
  skips : (n : ℕ) → skip (more_ n) ≡ Some []

list_runs : {A : Type 0} {Item : A → List Token → Type 0} {item : Symbol} {more_ : ℕ → Symbol} (r : Reads Item item more_) (list : List A) (ts : List Token) → Listed Item list ts →
    (n : ℕ) → length list ≤ suc n → (γ : List Symbol) (rest : List Token) → ((k : ℕ) → Refuses (more_ k) rest) → run (item ∷ more_ n ∷ γ) (ts ++ rest) ≡ run γ rest
list_runs {more_ = more_} r _ _ (one a ts p) n few γ rest stop = r.reads a ts p (more_ n ∷ γ) rest ∙ run_pass (more_ n) γ rest (r.skips n) (stop n)
list_runs r _ _ (more a _ xs _ p (one b ys q)) zero few γ rest stop = absurd (omega arith)
list_runs r _ _ (more a _ xs _ p (more b _ ys _ q l)) zero few γ rest stop = absurd (omega arith)
list_runs {item = item} {more_ = more_} r _ _ (more a as_ xs ys p l) (suc n) few γ rest stop =
    ap (run (item ∷ more_ (suc n) ∷ γ)) (append_assoc xs (Sign Comma ∷ ys) rest)
    ∙ r.reads a xs p (more_ (suc n) ∷ γ) (Sign Comma ∷ (ys ++ rest))
    ∙ run_to (more_ (suc n)) γ (Sign Comma) (ys ++ rest) (item ∷ more_ n ∷ []) (r.comma (suc n) ∙ another-suc n item more_)
    ∙ list_runs r as_ ys l n (omega arith) γ rest stop

read_name : (n : List ℕ) (xs : List Token) → NameItem n xs → (γ : List Symbol) (rest : List Token) → run (want.Name ∷ γ) (xs ++ rest) ≡ run γ rest
read_name _ _ (a_name n) γ rest = behind-nil (run γ rest)

or_none : (m : Option Move) → or_else m None ≡ m
or_none None = refl
or_none (Some m) = refl

names : Reads NameItem want.Name want.MoreNames
names = record { reads = read_name; comma = λ n. or_none (another n want.Name want.MoreNames); skips = λ n. refl }

nil-nil : (r : Option (List Node)) → behind_nodes [] (behind_nodes [] r) ≡ r
nil-nil r = behind-nil (behind_nodes [] r) ∙ behind-nil r

read_value : (v : Value) (xs : List Token) → ValueItem v xs → (γ : List Symbol) (rest : List Token) → run (want.Value ∷ γ) (xs ++ rest) ≡ run γ rest
read_value _ _ (number_value z) γ rest = behind-nil (run γ rest)
read_value _ _ (minus_value z) γ rest = nil-nil (run γ rest)
read_value _ _ (text_value bytes) γ rest = behind-nil (run γ rest)

values : Reads ValueItem want.Value want.MoreValues
values = record { reads = read_value; comma = λ n. or_none (another n want.Value want.MoreValues); skips = λ n. refl }

-- a word for an aggregate, where one may come
agg_move : (a : Agg) → move want.Aggregate (Word (agg_word a)) ≡ to (want.Opening ∷ want.Name ∷ want.Closing ∷ [])
agg_move agg.Count = refl
agg_move agg.Sum = refl
agg_move agg.Min = refl
agg_move agg.Max = refl
agg_move agg.Mean = refl
agg_move agg.Median = refl

in_brackets : (n : List ℕ) (γ : List Symbol) (rest : List Token) → run (want.Opening ∷ want.Name ∷ want.Closing ∷ γ) (Sign LeftBracket ∷ Name n ∷ Sign RightBracket ∷ rest) ≡ run γ rest
in_brackets n γ rest = nil-nil (behind_nodes [] (run γ rest)) ∙ behind-nil (run γ rest)

read_aggregate : (a : Agg × List ℕ) (xs : List Token) → AggItem a xs → (γ : List Symbol) (rest : List Token) → run (want.Aggregate ∷ γ) (xs ++ rest) ≡ run γ rest
read_aggregate _ _ (an_aggregate a n) γ rest =
    run_to want.Aggregate γ (Word (agg_word a)) (Sign LeftBracket ∷ Name n ∷ Sign RightBracket ∷ rest) (want.Opening ∷ want.Name ∷ want.Closing ∷ []) (agg_move a) ∙ in_brackets n γ rest

aggregates : Reads AggItem want.Aggregate want.MoreAggregates
aggregates = record { reads = read_aggregate; comma = λ n. or_none (another n want.Aggregate want.MoreAggregates); skips = λ n. refl }

-- ---- queries

-- FROM NAME [WHERE cond]
selected_runs : (relation : List ℕ) (nodes : List Node) (us : List Token) → Where nodes us → run select_symbols (Word KFROM ∷ Name relation ∷ us) ≡ Some nodes
selected_runs relation nodes us w = nil-nil (run (want.Where ∷ []) us) ∙ where_runs nodes us w

names_from : (list : List (List ℕ)) (relation : List ℕ) (nodes : List Node) (ts us : List Token) → ListOf NameItem list ts → Where nodes us → run (want.Name ∷ want.MoreNames 7 ∷ select_symbols) (ts ++ Word KFROM ∷ Name relation ∷ us) ≡ Some nodes
names_from list relation nodes ts us l w = list_runs names list ts l.listed 7 (omega (arith, l.few)) select_symbols (Word KFROM ∷ Name relation ∷ us) (λ k. refl) ∙ selected_runs relation nodes us w

-- the names to the end
names_last : (list : List (List ℕ)) (ts : List Token) → ListOf NameItem list ts → run (want.Name ∷ want.MoreNames 7 ∷ []) ts ≡ Some []
names_last list ts l = ap (run (want.Name ∷ want.MoreNames 7 ∷ [])) (sym (append-nil ts)) ∙ list_runs names list ts l.listed 7 (omega (arith, l.few)) [] [] (λ k. tt)

-- NAME , NAME ON NAME PROJECT NAME {, NAME}
joined_runs : (left right on : List ℕ) (list : List (List ℕ)) (ts : List Token) → ListOf NameItem list ts →
    run joined_query (Name left ∷ Sign Comma ∷ Name right ∷ Word KON ∷ Name on ∷ Word KPROJECT ∷ ts) ≡ Some []
joined_runs left right on list ts l =
    let last : Option (List Node) = run (want.Name ∷ want.MoreNames 7 ∷ []) ts in
    nil-nil (behind_nodes [] (behind_nodes [] (behind_nodes [] (behind_nodes [] last)))) ∙ nil-nil (behind_nodes [] (behind_nodes [] last)) ∙ nil-nil last ∙ names_last list ts l

query_runs : (q : Query) (ts : List Token) → IsQuery q ts → run (want.Query ∷ []) ts ≡ Some (query_nodes q)
query_runs _ _ (select list relation nodes ts us l w) = behind-nil (run (want.Name ∷ want.MoreNames 7 ∷ select_symbols) (ts ++ Word KFROM ∷ Name relation ∷ us)) ∙ names_from list relation nodes ts us l w
query_runs _ _ (join left right on list ts l) = behind-nil (run joined_query (Name left ∷ Sign Comma ∷ Name right ∷ Word KON ∷ Name on ∷ Word KPROJECT ∷ ts)) ∙ joined_runs left right on list ts l

-- SELECT is read before it is known whether names or aggregates follow
selection_names : (list : List (List ℕ)) (ts : List Token) → Listed NameItem list ts → (rest : List Token) → run (want.Selection ∷ []) (ts ++ rest) ≡ run (want.Name ∷ want.MoreNames 7 ∷ select_symbols) (ts ++ rest)
selection_names _ _ (one _ _ (a_name n)) rest = refl
selection_names _ _ (more _ as_ _ ys (a_name n) l) rest = refl

selection_move : (a : Agg) → move want.Selection (Word (agg_word a)) ≡ to (want.Opening ∷ want.Name ∷ want.Closing ∷ want.MoreAggregates 7 ∷ select_symbols)
selection_move agg.Count = refl
selection_move agg.Sum = refl
selection_move agg.Min = refl
selection_move agg.Max = refl
selection_move agg.Mean = refl
selection_move agg.Median = refl

selection_first : (a : Agg) (rest : List Token) → run (want.Selection ∷ []) (Word (agg_word a) ∷ rest) ≡ run (want.Aggregate ∷ want.MoreAggregates 7 ∷ select_symbols) (Word (agg_word a) ∷ rest)
selection_first a rest =
    run_to want.Selection [] (Word (agg_word a)) rest (want.Opening ∷ want.Name ∷ want.Closing ∷ want.MoreAggregates 7 ∷ select_symbols) (selection_move a)
    ∙ sym (run_to want.Aggregate (want.MoreAggregates 7 ∷ select_symbols) (Word (agg_word a)) rest (want.Opening ∷ want.Name ∷ want.Closing ∷ []) (agg_move a))

selection_aggregates : (list : List (Agg × List ℕ)) (ts : List Token) → Listed AggItem list ts → (rest : List Token) → run (want.Selection ∷ []) (ts ++ rest) ≡ run (want.Aggregate ∷ want.MoreAggregates 7 ∷ select_symbols) (ts ++ rest)
selection_aggregates _ _ (one _ _ (an_aggregate a n)) rest = selection_first a (Sign LeftBracket ∷ Name n ∷ Sign RightBracket ∷ rest)
selection_aggregates _ _ (more _ as_ _ ys (an_aggregate a n) l) rest = selection_first a (Sign LeftBracket ∷ Name n ∷ Sign RightBracket ∷ Sign Comma ∷ (ys ++ rest))

-- ---- commands

kind_runs : (k : IndexKind) → run (want.Kind ∷ []) (Word (kind_word k) ∷ []) ≡ Some []
kind_runs kind.Inline = refl
kind_runs kind.MaxHeap = refl
kind_runs kind.MemHash = refl

-- four symbols that bring no nodes
nil-four : (r : Option (List Node)) → behind_nodes [] (behind_nodes [] (behind_nodes [] (behind_nodes [] r))) ≡ r
nil-four r = nil-nil (behind_nodes [] (behind_nodes [] r)) ∙ nil-nil r

domain_runs : (d : DomainAsked) (ts : List Token) → IsDomain d ts → (γ : List Symbol) (rest : List Token) → run (want.Domain ∷ γ) (ts ++ rest) ≡ run γ rest
domain_runs _ _ int γ rest = behind-nil (run γ rest)
domain_runs _ _ long γ rest = behind-nil (run γ rest)
domain_runs _ _ (time n yes_) γ rest = run_to want.Domain γ (Name n) rest [] (ap (λ b. or_else None (or_else (if b then to [] else None) None)) yes_)
domain_runs _ _ (string z) γ rest = nil-four (run γ rest)

pub spells_run : (c : Command) (ts : List Token) → Spells c ts → run start ts ≡ Some (nodes_of c)
spells_run _ _ (create_relation n) = refl
spells_run _ _ (create_attribute n domain relation ts p) =
    nil-four (run (want.Domain ∷ want.WordIn ∷ want.Name ∷ []) (ts ++ Word KIN ∷ Name relation ∷ [])) ∙ domain_runs domain ts p (want.WordIn ∷ want.Name ∷ []) (Word KIN ∷ Name relation ∷ [])
spells_run _ _ (create_index relation attribute k) =
    nil-four (behind_nodes [] (behind_nodes [] (run (want.Kind ∷ []) (Word (kind_word k) ∷ [])))) ∙ nil-nil (run (want.Kind ∷ []) (Word (kind_word k) ∷ [])) ∙ kind_runs k
spells_run _ _ (insert list relation ts l) =
    nil-nil (run (want.Value ∷ want.MoreValues 7 ∷ want.Closing ∷ want.WordInto ∷ want.Name ∷ []) (ts ++ Sign RightBracket ∷ Word KINTO ∷ Name relation ∷ []))
    ∙ list_runs values list ts l.listed 7 (omega (arith, l.few)) (want.Closing ∷ want.WordInto ∷ want.Name ∷ []) (Sign RightBracket ∷ Word KINTO ∷ Name relation ∷ []) (λ k. refl)
spells_run _ _ (ask _ _ (select list relation nodes ts us l w)) =
    behind-nil (run (want.Selection ∷ []) (ts ++ Word KFROM ∷ Name relation ∷ us)) ∙ selection_names list ts l.listed (Word KFROM ∷ Name relation ∷ us) ∙ names_from list relation nodes ts us l w
spells_run _ _ (ask _ _ (join left right on list ts l)) =
    behind-nil (run joined_query (Name left ∷ Sign Comma ∷ Name right ∷ Word KON ∷ Name on ∷ Word KPROJECT ∷ ts)) ∙ joined_runs left right on list ts l
spells_run _ _ (aggregate list relation nodes ts us l w) =
    behind-nil (run (want.Selection ∷ []) (ts ++ Word KFROM ∷ Name relation ∷ us)) ∙ selection_aggregates list ts l.listed (Word KFROM ∷ Name relation ∷ us)
    ∙ list_runs aggregates list ts l.listed 7 (omega (arith, l.few)) select_symbols (Word KFROM ∷ Name relation ∷ us) (λ k. refl) ∙ selected_runs relation nodes us w
spells_run _ _ (remove_from relation nodes us w) = nil-nil (behind_nodes [] (run (want.Where ∷ []) us)) ∙ behind-nil (run (want.Where ∷ []) us) ∙ where_runs nodes us w
spells_run _ _ (remove_relation relation) = refl
spells_run _ _ (remove_index relation attribute) = refl
spells_run _ _ (pack relation) = refl
spells_run _ _ (open_cursor z q ts p) = nil-nil (run (want.Query ∷ []) ts) ∙ query_runs q ts p
spells_run _ _ (fetch_cursor z) = refl
spells_run _ _ (close_cursor z) = refl
