-- What the machine reads of commands, the grammar spells.
use Rattle.std.proofs.Common.{◌≡◌, ℕ, suc, ◌≤◌, List, [], ◌∷◌, ◌++◌, length, refl, sym, ◌∙◌, ap, subst, append_assoc, append-nil, arith}
use Rattle.db_model.specs.Cond.{postfix}
use Rattle.db_model.specs.Grammar.{neg, conj, Disj, condition, Listed, one, more, a_name, minus_value, an_aggregate, agg_word, string, IsQuery, select, join, Spells, create_relation, create_attribute, create_index, insert, ask, aggregate, remove_from, remove_relation, remove_index, pack, open_cursor, fetch_cursor, close_cursor}
use Rattle.db_model.specs.declared.commands.Agg.{Agg}
use Rattle.db_model.specs.declared.commands.Command.TheVariants as command
use Rattle.db_model.specs.declared.commands.Node.{Node}
use Rattle.db_model.specs.declared.commands.Query.TheVariants as query
use Rattle.db_model.specs.declared.tokens.Keyword.TheVariants.{KCREATE, KRELATION, KATTRIBUTE, KINDEX, KSTRING, KINSERT, KINTO, KSELECT, KFROM, KWHERE, KJOIN, KON, KPROJECT, KREMOVE, KPACK, KOPEN, KFETCH, KCLOSE}
use Rattle.db_model.specs.declared.tokens.Sign.TheVariants.{LeftBracket, RightBracket, Comma, Minus}
use Rattle.db_model.specs.declared.tokens.Token.{Token}
use Rattle.db_model.specs.declared.tokens.Token.TheVariants.{Word, Name, Number, Sign}
use Rattle.aql_parse.specs.Machine.{select_symbols, joined_query, aggregate_symbols}
use Rattle.aql_parse.specs.declared.symbols.Symbol.TheVariants as want
use Rattle.aql_parse.proofs.Means.{ReadCond, moved_cond, ReadQuery, ReadCommand, moved_command, exactly, item_read, a_number, a_kind, MoreRead, no_more, one_more, WhereRead, where_read, Reads, Means, nil, cons}

-- ---- lists

-- a first item, and those behind commas
record Many {A : Type 0} (Item : A → List Token → Type 0) (n : ℕ) (ts : List Token) (ns : List Node) : Type 0 where
  items : List A
  listed : Listed Item items ts
  few : length items ≤ suc n
  none : ns ≡ []

many : {A : Type 0} {Item : A → List Token → Type 0} (a : A) (xs : List Token) → Item a xs → (n : ℕ) (ts : List Token) (ns : List Node) → MoreRead Item n ts ns → Many Item n (xs ++ ts) ns
many {Item = Item} a xs p n _ _ (no_more _) = record { items = a ∷ []; listed = subst (Listed Item (a ∷ [])) (sym (append-nil xs)) (one a xs p); few = omega arith; none = refl }
many a xs p _ _ _ (one_more n b ys ts ns q m) =
    let rest = many b ys q n ts ns m in
    record { items = a ∷ rest.items; listed = more a rest.items xs (ys ++ ts) p rest.listed; few = omega (arith, rest.few); none = rest.none }

more_sound : {A : Type 0} {Item : A → List Token → Type 0} (n : ℕ) (a : A) (xs : List Token) → Item a xs → (ts : List Token) (ns : List Node) → MoreRead Item n ts ns → MoreRead Item (suc n) (Sign Comma ∷ (xs ++ (ts ++ []))) (ns ++ [])
more_sound {Item = Item} n a xs p ts ns m =
    subst (λ x. MoreRead Item (suc n) (Sign Comma ∷ (xs ++ x)) (ns ++ [])) (sym (append-nil ts)) (subst (MoreRead Item (suc n) (Sign Comma ∷ (xs ++ ts))) (sym (append-nil ns)) (one_more n a xs ts ns p m))

pub more_names_sound : (n : ℕ) (ts : List Token) (ns : List Node) → Means (want.Name ∷ want.MoreNames n ∷ []) ts ns → Reads (want.MoreNames (suc n)) (Sign Comma ∷ ts) ns
more_names_sound n _ _ (cons _ _ _ _ _ _ (item_read a xs p) (cons _ _ ys _ ns _ m nil)) = more_sound n a xs p ys ns m

pub more_values_sound : (n : ℕ) (ts : List Token) (ns : List Node) → Means (want.Value ∷ want.MoreValues n ∷ []) ts ns → Reads (want.MoreValues (suc n)) (Sign Comma ∷ ts) ns
more_values_sound n _ _ (cons _ _ _ _ _ _ (item_read a xs p) (cons _ _ ys _ ns _ m nil)) = more_sound n a xs p ys ns m

pub more_aggregates_sound : (n : ℕ) (ts : List Token) (ns : List Node) → Means (want.Aggregate ∷ want.MoreAggregates n ∷ []) ts ns → Reads (want.MoreAggregates (suc n)) (Sign Comma ∷ ts) ns
more_aggregates_sound n _ _ (cons _ _ _ _ _ _ (item_read a xs p) (cons _ _ ys _ ns _ m nil)) = more_sound n a xs p ys ns m

-- ---- items

pub minus_value_sound : (ts : List Token) (ns : List Node) → Means (want.Number ∷ []) ts ns → Reads want.Value (Sign Minus ∷ ts) ns
minus_value_sound _ _ (cons _ _ _ _ _ _ (item_read _ _ (a_number z)) nil) = item_read _ _ (minus_value z)

pub aggregate_sound : (a : Agg) (ts : List Token) (ns : List Node) → Means (want.Opening ∷ want.Name ∷ want.Closing ∷ []) ts ns → Reads want.Aggregate (Word (agg_word a) ∷ ts) ns
aggregate_sound a _ _ (cons _ _ _ _ _ _ exactly (cons _ _ _ _ _ _ (item_read _ _ (a_name n)) (cons _ _ _ _ _ _ exactly nil))) = item_read _ _ (an_aggregate a n)

pub string_sound : (ts : List Token) (ns : List Node) → Means (want.Opening ∷ want.Number ∷ want.Closing ∷ []) ts ns → Reads want.Domain (Word KSTRING ∷ ts) ns
string_sound _ _ (cons _ _ _ _ _ _ exactly (cons _ _ _ _ _ _ (item_read _ _ (a_number z)) (cons _ _ _ _ _ _ exactly nil))) = item_read _ _ (string z)

pub where_sound : (ts : List Token) (ns : List Node) → Means (want.Inside 0 ∷ want.Ands ∷ want.Ors ∷ []) ts ns → Reads want.Where (Word KWHERE ∷ ts) ns
where_sound _ _ (cons _ _ xs _ ms _ r (cons _ _ ys _ ns _ a (cons _ _ zs _ os _ o nil))) =
    let d = a r.cond xs (neg r.cond xs r.spelt) in
    let e = o d.cond (xs ++ ys) (conj d.cond (xs ++ ys) d.spelt) in
    let f : ReadCond Disj (xs ++ (ys ++ (zs ++ []))) (ms ++ (ns ++ (os ++ []))) = moved_cond e (simp (append_assoc, append-nil)) (ap (λ m. m ++ os) (d.nodes ∙ ap (λ m. m ++ ns) r.nodes) ∙ simp (append_assoc, append-nil)) in
    subst (WhereRead (Word KWHERE ∷ (xs ++ (ys ++ (zs ++ []))))) f.nodes (where_read (postfix f.cond) (Word KWHERE ∷ (xs ++ (ys ++ (zs ++ [])))) (condition f.cond (xs ++ (ys ++ (zs ++ []))) f.spelt))

-- ---- queries

-- a list of names, FROM NAME [WHERE cond]
select_sound : (n : List ℕ) (ts : List Token) (ns : List Node) → Means (want.MoreNames 7 ∷ select_symbols) ts ns → ReadQuery (Word KSELECT ∷ Name n ∷ ts) ns
select_sound n _ _ (cons _ _ ys _ ns _ m (cons _ _ _ _ _ _ exactly (cons _ _ _ _ _ _ (item_read _ _ (a_name r)) (cons _ _ _ _ _ _ (where_read nodes us w) nil)))) =
    let l = many n (Name n ∷ []) (a_name n) 7 ys ns m in
    let spelt = select l.items r nodes (Name n ∷ ys) us (record { listed = l.listed; few = l.few }) w in
    record {
      query = query.Select l.items r nodes;
      spelt = subst (λ x. IsQuery (query.Select l.items r nodes) (Word KSELECT ∷ Name n ∷ (ys ++ Word KFROM ∷ Name r ∷ x))) (sym (append-nil us)) spelt;
      nodes = sym (append-nil nodes) ∙ sym (ap (λ x. x ++ (nodes ++ [])) l.none);
    }

pub query_select_sound : (ts : List Token) (ns : List Node) → Means (want.Name ∷ want.MoreNames 7 ∷ select_symbols) ts ns → Reads want.Query (Word KSELECT ∷ ts) ns
query_select_sound _ _ (cons _ _ _ ys _ ns (item_read _ _ (a_name n)) rest) = select_sound n ys ns rest

pub joined_sound : (ts : List Token) (ns : List Node) → Means joined_query ts ns → Reads want.Query (Word KJOIN ∷ ts) ns
joined_sound _ _ (cons _ _ _ _ _ _ (item_read _ _ (a_name left)) (cons _ _ _ _ _ _ exactly (cons _ _ _ _ _ _ (item_read _ _ (a_name right)) (cons _ _ _ _ _ _ exactly
    (cons _ _ _ _ _ _ (item_read _ _ (a_name on)) (cons _ _ _ _ _ _ exactly (cons _ _ _ _ _ _ (item_read _ _ (a_name n)) (cons _ _ ys _ ns _ m nil)))))))) =
    let l = many n (Name n ∷ []) (a_name n) 7 ys ns m in
    let spelt = join left right on l.items (Name n ∷ ys) (record { listed = l.listed; few = l.few }) in
    record {
      query = query.Join left right on l.items;
      spelt = subst (λ x. IsQuery (query.Join left right on l.items) (Word KJOIN ∷ Name left ∷ Sign Comma ∷ Name right ∷ Word KON ∷ Name on ∷ Word KPROJECT ∷ Name n ∷ x)) (sym (append-nil ys)) spelt;
      nodes = sym (ap (λ x. x ++ []) l.none);
    }

asked_for : (ts : List Token) (ns : List Node) → ReadQuery ts ns → ReadCommand ts ns
asked_for ts ns q = record { command = command.Ask q.query; spelt = ask q.query ts q.spelt; nodes = q.nodes }

pub selection_name_sound : (n : List ℕ) (ts : List Token) (ns : List Node) → Means (want.MoreNames 7 ∷ select_symbols) ts ns → Reads want.Selection (Name n ∷ ts) ns
selection_name_sound n ts ns m = asked_for (Word KSELECT ∷ Name n ∷ ts) ns (select_sound n ts ns m)

pub selection_aggregate_sound : (a : Agg) (ts : List Token) (ns : List Node) → Means aggregate_symbols ts ns → Reads want.Selection (Word (agg_word a) ∷ ts) ns
selection_aggregate_sound a _ _ (cons _ _ _ _ _ _ exactly (cons _ _ _ _ _ _ (item_read _ _ (a_name n)) (cons _ _ _ _ _ _ exactly
    (cons _ _ ys _ ns _ m (cons _ _ _ _ _ _ exactly (cons _ _ _ _ _ _ (item_read _ _ (a_name r)) (cons _ _ _ _ _ _ (where_read nodes us w) nil))))))) =
    let first : List Token = Word (agg_word a) ∷ Sign LeftBracket ∷ Name n ∷ Sign RightBracket ∷ [] in
    let l = many (a, n) first (an_aggregate a n) 7 ys ns m in
    let spelt = aggregate l.items r nodes (first ++ ys) us (record { listed = l.listed; few = l.few }) w in
    record {
      command = command.Aggregate l.items r nodes;
      spelt = subst (λ x. Spells (command.Aggregate l.items r nodes) (Word KSELECT ∷ (first ++ (ys ++ Word KFROM ∷ Name r ∷ x)))) (sym (append-nil us)) spelt;
      nodes = sym (append-nil nodes) ∙ sym (ap (λ x. x ++ (nodes ++ [])) l.none);
    }

-- ---- commands

-- a command of which the last symbol reads all
pub handed_on : (ts : List Token) (ns : List Node) → ReadCommand ts ns → ReadCommand (ts ++ []) (ns ++ [])
handed_on ts ns r = moved_command r (sym (append-nil ts)) (sym (append-nil ns))

pub create_sound : (ts : List Token) (ns : List Node) → Means (want.Create ∷ []) ts ns → Reads want.Command (Word KCREATE ∷ ts) ns
create_sound _ _ (cons _ _ xs _ ms _ r nil) = handed_on (Word KCREATE ∷ xs) ms r

pub remove_sound : (ts : List Token) (ns : List Node) → Means (want.Remove ∷ []) ts ns → Reads want.Command (Word KREMOVE ∷ ts) ns
remove_sound _ _ (cons _ _ xs _ ms _ r nil) = handed_on (Word KREMOVE ∷ xs) ms r

pub selection_sound : (ts : List Token) (ns : List Node) → Means (want.Selection ∷ []) ts ns → Reads want.Command (Word KSELECT ∷ ts) ns
selection_sound _ _ (cons _ _ xs _ ms _ r nil) = handed_on (Word KSELECT ∷ xs) ms r

pub join_sound : (ts : List Token) (ns : List Node) → Means joined_query ts ns → Reads want.Command (Word KJOIN ∷ ts) ns
join_sound ts ns m = asked_for (Word KJOIN ∷ ts) ns (joined_sound ts ns m)

pub insert_sound : (ts : List Token) (ns : List Node) → Means (want.Opening ∷ want.Value ∷ want.MoreValues 7 ∷ want.Closing ∷ want.WordInto ∷ want.Name ∷ []) ts ns → Reads want.Command (Word KINSERT ∷ ts) ns
insert_sound _ _ (cons _ _ _ _ _ _ exactly (cons _ _ _ _ _ _ (item_read v xs p) (cons _ _ ys _ ns _ m (cons _ _ _ _ _ _ exactly (cons _ _ _ _ _ _ exactly (cons _ _ _ _ _ _ (item_read _ _ (a_name r)) nil)))))) =
    let l = many v xs p 7 ys ns m in
    let c : ReadCommand (Word KINSERT ∷ Sign LeftBracket ∷ ((xs ++ ys) ++ Sign RightBracket ∷ Word KINTO ∷ Name r ∷ [])) [] =
    record { command = command.Insert l.items r; spelt = insert l.items r (xs ++ ys) (record { listed = l.listed; few = l.few }); nodes = refl } in
    moved_command c (simp append_assoc) (sym (ap (λ x. x ++ []) l.none))

pub pack_sound : (ts : List Token) (ns : List Node) → Means (want.Name ∷ []) ts ns → Reads want.Command (Word KPACK ∷ ts) ns
pack_sound _ _ (cons _ _ _ _ _ _ (item_read _ _ (a_name r)) nil) = record { command = command.Pack r; spelt = pack r; nodes = refl }

pub open_sound : (ts : List Token) (ns : List Node) → Means (want.Number ∷ want.Query ∷ []) ts ns → Reads want.Command (Word KOPEN ∷ ts) ns
open_sound _ _ (cons _ _ _ _ _ _ (item_read _ _ (a_number z)) (cons _ _ xs _ ms _ q nil)) =
    handed_on (Word KOPEN ∷ Number z ∷ xs) ms (record { command = command.OpenCursor z q.query; spelt = open_cursor z q.query xs q.spelt; nodes = q.nodes })

pub fetch_sound : (ts : List Token) (ns : List Node) → Means (want.Number ∷ []) ts ns → Reads want.Command (Word KFETCH ∷ ts) ns
fetch_sound _ _ (cons _ _ _ _ _ _ (item_read _ _ (a_number z)) nil) = record { command = command.FetchCursor z; spelt = fetch_cursor z; nodes = refl }

pub close_sound : (ts : List Token) (ns : List Node) → Means (want.Number ∷ []) ts ns → Reads want.Command (Word KCLOSE ∷ ts) ns
close_sound _ _ (cons _ _ _ _ _ _ (item_read _ _ (a_number z)) nil) = record { command = command.CloseCursor z; spelt = close_cursor z; nodes = refl }

pub create_relation_sound : (ts : List Token) (ns : List Node) → Means (want.Name ∷ []) ts ns → Reads want.Create (Word KRELATION ∷ ts) ns
create_relation_sound _ _ (cons _ _ _ _ _ _ (item_read _ _ (a_name r)) nil) = record { command = command.CreateRelation r; spelt = create_relation r; nodes = refl }

pub create_attribute_sound : (ts : List Token) (ns : List Node) → Means (want.Name ∷ want.WordDomain ∷ want.Domain ∷ want.WordIn ∷ want.Name ∷ []) ts ns → Reads want.Create (Word KATTRIBUTE ∷ ts) ns
create_attribute_sound _ _ (cons _ _ _ _ _ _ (item_read _ _ (a_name n)) (cons _ _ _ _ _ _ exactly (cons _ _ _ _ _ _ (item_read d xs p) (cons _ _ _ _ _ _ exactly (cons _ _ _ _ _ _ (item_read _ _ (a_name r)) nil))))) =
    record { command = command.CreateAttribute n d r; spelt = create_attribute n d r xs p; nodes = refl }

pub create_index_sound : (ts : List Token) (ns : List Node) → Means (want.Name ∷ want.Dot ∷ want.Name ∷ want.WordType ∷ want.Kind ∷ []) ts ns → Reads want.Create (Word KINDEX ∷ ts) ns
create_index_sound _ _ (cons _ _ _ _ _ _ (item_read _ _ (a_name r)) (cons _ _ _ _ _ _ exactly (cons _ _ _ _ _ _ (item_read _ _ (a_name a)) (cons _ _ _ _ _ _ exactly (cons _ _ _ _ _ _ (item_read _ _ (a_kind k)) nil))))) =
    record { command = command.CreateIndex r a k; spelt = create_index r a k; nodes = refl }

pub remove_from_sound : (ts : List Token) (ns : List Node) → Means (want.Name ∷ want.Where ∷ []) ts ns → Reads want.Remove (Word KFROM ∷ ts) ns
remove_from_sound _ _ (cons _ _ _ _ _ _ (item_read _ _ (a_name r)) (cons _ _ _ _ _ _ (where_read nodes us w) nil)) =
    handed_on (Word KREMOVE ∷ Word KFROM ∷ Name r ∷ us) nodes (record { command = command.RemoveFrom r nodes; spelt = remove_from r nodes us w; nodes = refl })

pub remove_relation_sound : (ts : List Token) (ns : List Node) → Means (want.Name ∷ []) ts ns → Reads want.Remove (Word KRELATION ∷ ts) ns
remove_relation_sound _ _ (cons _ _ _ _ _ _ (item_read _ _ (a_name r)) nil) = record { command = command.RemoveRelation r; spelt = remove_relation r; nodes = refl }

pub remove_index_sound : (ts : List Token) (ns : List Node) → Means (want.Name ∷ want.Dot ∷ want.Name ∷ []) ts ns → Reads want.Remove (Word KINDEX ∷ ts) ns
remove_index_sound _ _ (cons _ _ _ _ _ _ (item_read _ _ (a_name r)) (cons _ _ _ _ _ _ exactly (cons _ _ _ _ _ _ (item_read _ _ (a_name a)) nil))) =
    record { command = command.RemoveIndex r a; spelt = remove_index r a; nodes = refl }
