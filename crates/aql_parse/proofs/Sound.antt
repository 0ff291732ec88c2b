-- Whatever the machine reads to its end, the grammar spells.
use Rattle.std.proofs.Common.{◌≡◌, ℕ, zero, suc, ◌-◌, ◌==◌, Bool, true, false, List, [], ◌∷◌, ◌++◌, Option, Some, None, refl, sym, ◌∙◌, ap, subst, append_assoc, append-nil, if◌then◌else◌}
use Rattle.db_model.specs.Cond.{Number as Constant, Text, Attribute, Tip, postfix, postfix_expr}
use Rattle.db_model.specs.Grammar.{number, negative, quoted, named, Term, Sum, Conj, Disj, nothing, a_name, number_value, text_value, int, long, time, is_time, minus}
use Rattle.db_model.specs.declared.commands.Agg.TheVariants as agg
use Rattle.db_model.specs.declared.commands.Compare.TheVariants as compare
use Rattle.db_model.specs.declared.commands.Node.{Node}
use Rattle.db_model.specs.declared.commands.Node.TheVariants as node
use Rattle.db_model.specs.declared.schemas.DomainAsked.TheVariants as asked
use Rattle.db_model.specs.declared.schemas.IndexKind.TheVariants as kind
use Rattle.db_model.specs.declared.tokens.Keyword.TheVariants.{KCREATE, KRELATION, KATTRIBUTE, KINDEX, KDOMAIN, KINT, KLONG, KSTRING, KIN, KTYPE, KINLINE, KMAXHEAP, KMEMHASH, KINSERT, KINTO, KSELECT, KFROM, KWHERE, KJOIN, KON, KPROJECT, KREMOVE, KPACK, KOPEN, KFETCH, KCLOSE, KAND, KOR, KNOT, KCOUNT, KSUM, KMIN, KMAX, KMEAN, KMEDIAN}
use Rattle.db_model.specs.declared.tokens.Sign.TheVariants.{LeftBracket, RightBracket, Comma, Dot, Plus, Minus, Star, Slash, Equal, Unequal, Less, LessEqual, Greater, GreaterEqual}
use Rattle.db_model.specs.declared.tokens.Token.{Token}
use Rattle.db_model.specs.declared.tokens.Token.TheVariants.{Word, Name, Number, Quoted, Sign}
use Rattle.aql_parse.specs.Machine.{Move, to, operand, or_else, move, skip, read, finish, run, behind_nodes, behind_move, start}
use Rattle.aql_parse.specs.declared.symbols.Joint.TheVariants as joint
use Rattle.aql_parse.specs.declared.symbols.Symbol.{Symbol}
use Rattle.aql_parse.specs.declared.symbols.Symbol.TheVariants as want
use Rattle.aql_parse.proofs.Runs.{less, choose_second}
use Rattle.aql_parse.proofs.Means.{ReadCommand, exactly, item_read, a_number, a_kind, no_more, negative_read, where_read, Reads, Means, nil, cons}
use Rattle.aql_parse.proofs.SoundConditions
use Rattle.aql_parse.proofs.SoundHeads
use Rattle.padded.proofs.Facts.{suc_not_zero}

-- what a symbol makes of a token is right: the token and what follows stand for what the symbol stands for
abbrev Sound : Symbol → Token → Option Move → Type 0
Sound s t None = Unit {0}
Sound s t (Some m) = (ts : List Token) (ns : List Node) → Means m.symbols ts ns → Reads s (t ∷ ts) (m.nodes ++ ns)

-- ---- entries of the table that end a symbol

none_after : (s : Symbol) (t : Token) (ms : List Node) → Reads s (t ∷ []) (ms ++ []) → (ts : List Token) (ns : List Node) → Means [] ts ns → Reads s (t ∷ ts) (ms ++ ns)
none_after s t ms r _ _ nil = r

domain_name : (n : List ℕ) (b : Bool) → is_time n ≡ b → Sound want.Domain (Name n) (or_else None (or_else (if b then to [] else None) None))
domain_name n true e = none_after want.Domain (Name n) [] (item_read asked.Time (Name n ∷ []) (time n e))
domain_name n false e = tt

negative_inside : (n : ℕ) (ts : List Token) (ns : List Node) → Means (want.Negative ∷ operand n) ts ns → Reads (want.Inside n) (Sign Minus ∷ ts) ns
negative_inside n _ _ (cons _ _ _ ys _ ns (negative_read z) m) = SoundConditions.operand_sound n ys ns m (Tip (Constant (minus z))) (Sign Minus ∷ Number z ∷ []) (negative z)

negative_factor : (ts : List Token) (ns : List Node) → Means (want.Negative ∷ []) ts ns → Reads want.Factor (Sign Minus ∷ ts) ns
negative_factor _ _ (cons _ _ _ _ _ _ (negative_read z) nil) = record { expr = Tip (Constant (minus z)); spelt = negative z; nodes = refl }

-- an entry that is there where a number is not 0
not_zero : (s : Symbol) (t : Token) (n : ℕ) (m : ℕ → Option Move) → Sound s t (m n) → Sound s t (or_else (if suc n == 0 then None else m (suc n - 1)) None)
not_zero s t n m h = subst (Sound s t) (sym (ap (λ x. or_else x None) (choose_second (suc n == 0) None (m (suc n - 1)) (suc_not_zero n) ∙ ap m (less n)) ∙ or_none (m n))) h
  where
    or_none : (x : Option Move) → or_else x None ≡ x
    or_none None = refl
    or_none (Some x) = refl

not_zero_last : (s : Symbol) (t : Token) (n : ℕ) (m : ℕ → Option Move) → Sound s t (m n) → Sound s t (if suc n == 0 then None else m (suc n - 1))
not_zero_last s t n m h = subst (Sound s t) (sym (choose_second (suc n == 0) None (m (suc n - 1)) (suc_not_zero n) ∙ ap m (less n))) h

-- ---- the table

move_sound : (s : Symbol) (t : Token) → Sound s t (move s t)
move_sound want.Command (Word KCREATE) = SoundHeads.create_sound
move_sound want.Command (Word KINSERT) = SoundHeads.insert_sound
move_sound want.Command (Word KSELECT) = SoundHeads.selection_sound
move_sound want.Command (Word KJOIN) = SoundHeads.join_sound
move_sound want.Command (Word KREMOVE) = SoundHeads.remove_sound
move_sound want.Command (Word KPACK) = SoundHeads.pack_sound
move_sound want.Command (Word KOPEN) = SoundHeads.open_sound
move_sound want.Command (Word KFETCH) = SoundHeads.fetch_sound
move_sound want.Command (Word KCLOSE) = SoundHeads.close_sound
move_sound want.Create (Word KRELATION) = SoundHeads.create_relation_sound
move_sound want.Create (Word KATTRIBUTE) = SoundHeads.create_attribute_sound
move_sound want.Create (Word KINDEX) = SoundHeads.create_index_sound
move_sound want.Remove (Word KFROM) = SoundHeads.remove_from_sound
move_sound want.Remove (Word KRELATION) = SoundHeads.remove_relation_sound
move_sound want.Remove (Word KINDEX) = SoundHeads.remove_index_sound
move_sound want.Query (Word KSELECT) = SoundHeads.query_select_sound
move_sound want.Query (Word KJOIN) = SoundHeads.joined_sound
move_sound want.Selection (Name n) = SoundHeads.selection_name_sound n
move_sound want.Selection (Word KCOUNT) = SoundHeads.selection_aggregate_sound agg.Count
move_sound want.Selection (Word KSUM) = SoundHeads.selection_aggregate_sound agg.Sum
move_sound want.Selection (Word KMIN) = SoundHeads.selection_aggregate_sound agg.Min
move_sound want.Selection (Word KMAX) = SoundHeads.selection_aggregate_sound agg.Max
move_sound want.Selection (Word KMEAN) = SoundHeads.selection_aggregate_sound agg.Mean
move_sound want.Selection (Word KMEDIAN) = SoundHeads.selection_aggregate_sound agg.Median
move_sound want.Name (Name n) = none_after want.Name (Name n) [] (item_read n (Name n ∷ []) (a_name n))
move_sound want.Number (Number z) = none_after want.Number (Number z) [] (item_read z (Number z ∷ []) (a_number z))
move_sound want.Value (Number z) = none_after want.Value (Number z) [] (item_read _ (Number z ∷ []) (number_value z))
move_sound want.Value (Quoted bytes) = none_after want.Value (Quoted bytes) [] (item_read _ (Quoted bytes ∷ []) (text_value bytes))
move_sound want.Value (Sign Minus) = SoundHeads.minus_value_sound
move_sound want.Aggregate (Word KCOUNT) = SoundHeads.aggregate_sound agg.Count
move_sound want.Aggregate (Word KSUM) = SoundHeads.aggregate_sound agg.Sum
move_sound want.Aggregate (Word KMIN) = SoundHeads.aggregate_sound agg.Min
move_sound want.Aggregate (Word KMAX) = SoundHeads.aggregate_sound agg.Max
move_sound want.Aggregate (Word KMEAN) = SoundHeads.aggregate_sound agg.Mean
move_sound want.Aggregate (Word KMEDIAN) = SoundHeads.aggregate_sound agg.Median
move_sound (want.MoreNames zero) (Sign Comma) = tt
move_sound (want.MoreValues zero) (Sign Comma) = tt
move_sound (want.MoreAggregates zero) (Sign Comma) = tt
move_sound (want.MoreNames (suc n)) (Sign Comma) = not_zero (want.MoreNames (suc n)) (Sign Comma) n (λ k. to (want.Name ∷ want.MoreNames k ∷ [])) (SoundHeads.more_names_sound n)
move_sound (want.MoreValues (suc n)) (Sign Comma) = not_zero (want.MoreValues (suc n)) (Sign Comma) n (λ k. to (want.Value ∷ want.MoreValues k ∷ [])) (SoundHeads.more_values_sound n)
move_sound (want.MoreAggregates (suc n)) (Sign Comma) = not_zero (want.MoreAggregates (suc n)) (Sign Comma) n (λ k. to (want.Aggregate ∷ want.MoreAggregates k ∷ [])) (SoundHeads.more_aggregates_sound n)
move_sound want.Domain (Word KINT) = none_after want.Domain (Word KINT) [] (item_read asked.Int (Word KINT ∷ []) int)
move_sound want.Domain (Word KLONG) = none_after want.Domain (Word KLONG) [] (item_read asked.Long (Word KLONG ∷ []) long)
move_sound want.Domain (Word KSTRING) = SoundHeads.string_sound
move_sound want.Domain (Name n) = domain_name n (is_time n) refl
move_sound want.Kind (Word KINLINE) = none_after want.Kind (Word KINLINE) [] (item_read _ (Word KINLINE ∷ []) (a_kind kind.Inline))
move_sound want.Kind (Word KMAXHEAP) = none_after want.Kind (Word KMAXHEAP) [] (item_read _ (Word KMAXHEAP ∷ []) (a_kind kind.MaxHeap))
move_sound want.Kind (Word KMEMHASH) = none_after want.Kind (Word KMEMHASH) [] (item_read _ (Word KMEMHASH ∷ []) (a_kind kind.MemHash))
move_sound want.WordDomain (Word KDOMAIN) = none_after want.WordDomain (Word KDOMAIN) [] exactly
move_sound want.WordIn (Word KIN) = none_after want.WordIn (Word KIN) [] exactly
move_sound want.WordType (Word KTYPE) = none_after want.WordType (Word KTYPE) [] exactly
move_sound want.WordInto (Word KINTO) = none_after want.WordInto (Word KINTO) [] exactly
move_sound want.WordFrom (Word KFROM) = none_after want.WordFrom (Word KFROM) [] exactly
move_sound want.WordOn (Word KON) = none_after want.WordOn (Word KON) [] exactly
move_sound want.WordProject (Word KPROJECT) = none_after want.WordProject (Word KPROJECT) [] exactly
move_sound want.Opening (Sign LeftBracket) = none_after want.Opening (Sign LeftBracket) [] exactly
move_sound want.Closing (Sign RightBracket) = none_after want.Closing (Sign RightBracket) [] exactly
move_sound want.Comma (Sign Comma) = none_after want.Comma (Sign Comma) [] exactly
move_sound want.Dot (Sign Dot) = none_after want.Dot (Sign Dot) [] exactly
move_sound want.Where (Word KWHERE) = SoundHeads.where_sound
move_sound (want.Inside n) (Sign LeftBracket) = SoundConditions.opening_sound n
move_sound (want.Inside n) (Word KNOT) = SoundConditions.not_sound n
move_sound (want.Inside n) (Number z) = λ ts ns m. SoundConditions.operand_sound n ts ns m (Tip (Constant z)) (Number z ∷ []) (number z)
move_sound (want.Inside n) (Quoted bytes) = λ ts ns m. SoundConditions.operand_sound n ts ns m (Tip (Text bytes)) (Quoted bytes ∷ []) (quoted bytes)
move_sound (want.Inside n) (Name a) = λ ts ns m. SoundConditions.operand_sound n ts ns m (Tip (Attribute a)) (Name a ∷ []) (named a)
move_sound (want.Inside n) (Sign Minus) = negative_inside n
move_sound (want.Behind zero) (Sign RightBracket) = tt
move_sound (want.Behind (suc n)) (Sign RightBracket) = not_zero_last (want.Behind (suc n)) (Sign RightBracket) n (λ k. to (operand k)) (SoundConditions.closing_sound n)
move_sound (want.Behind n) (Sign Equal) = SoundConditions.comparison_sound compare.Eq n
move_sound (want.Behind n) (Sign Unequal) = SoundConditions.comparison_sound compare.Ne n
move_sound (want.Behind n) (Sign Less) = SoundConditions.comparison_sound compare.Lt n
move_sound (want.Behind n) (Sign LessEqual) = SoundConditions.comparison_sound compare.Le n
move_sound (want.Behind n) (Sign Greater) = SoundConditions.comparison_sound compare.Gt n
move_sound (want.Behind n) (Sign GreaterEqual) = SoundConditions.comparison_sound compare.Ge n
move_sound (want.Around zero) (Word KAND) = tt
move_sound (want.Around zero) (Word KOR) = tt
move_sound (want.Around zero) (Sign RightBracket) = tt
move_sound (want.Around (suc n)) (Word KAND) = not_zero_last (want.Around (suc n)) (Word KAND) n (λ _. to (want.Inside 0 ∷ want.Join joint.And ∷ want.Around (suc n) ∷ [])) (SoundConditions.around_and_sound n)
move_sound (want.Around (suc n)) (Word KOR) = not_zero_last (want.Around (suc n)) (Word KOR) n (λ k. to (want.Inside 0 ∷ want.Ands ∷ want.Join joint.Or ∷ want.Ors ∷ want.Closing ∷ want.Around k ∷ [])) (SoundConditions.around_or_sound n)
move_sound (want.Around (suc n)) (Sign RightBracket) = not_zero_last (want.Around (suc n)) (Sign RightBracket) n (λ k. to (want.Around k ∷ [])) (SoundConditions.around_closing_sound n)
move_sound want.Ands (Word KAND) = SoundConditions.ands_sound
move_sound want.Ors (Word KOR) = SoundConditions.ors_sound
move_sound want.Factor (Number z) = SoundConditions.factor_sound (Tip (Constant z)) (Number z ∷ []) (number z)
move_sound want.Factor (Quoted bytes) = SoundConditions.factor_sound (Tip (Text bytes)) (Quoted bytes ∷ []) (quoted bytes)
move_sound want.Factor (Name a) = SoundConditions.factor_sound (Tip (Attribute a)) (Name a ∷ []) (named a)
move_sound want.Factor (Sign Minus) = negative_factor
move_sound want.Factor (Sign LeftBracket) = SoundConditions.grouped_sound
move_sound want.Negative (Number z) = none_after want.Negative (Number z) (node.Number (minus z) ∷ []) (negative_read z)
move_sound want.Products (Sign Star) = SoundConditions.star_sound
move_sound want.Products (Sign Slash) = SoundConditions.slash_sound
move_sound want.Sums (Sign Plus) = SoundConditions.plus_sound
move_sound want.Sums (Sign Minus) = SoundConditions.minus_sound
move_sound _ _ = tt

-- what a symbol that is left out stands for
abbrev SkipSound : Symbol → Option (List Node) → Type 0
SkipSound s None = Unit {0}
SkipSound s (Some ns) = Reads s [] ns

skip_sound : (s : Symbol) → SkipSound s (skip s)
skip_sound (want.MoreNames n) = no_more n
skip_sound (want.MoreValues n) = no_more n
skip_sound (want.MoreAggregates n) = no_more n
skip_sound want.Where = where_read [] [] nothing
skip_sound (want.Around zero) = exactly
skip_sound (want.Around (suc n)) = subst (SkipSound (want.Around (suc n))) (sym (choose_second (suc n == 0) (Some []) None (suc_not_zero n))) tt
skip_sound want.Ands = λ c xs w. record { cond = c; spelt = subst (Conj c) (sym (append-nil xs)) w; nodes = sym (append-nil (postfix c)) }
skip_sound want.Ors = λ c xs w. record { cond = c; spelt = subst (Disj c) (sym (append-nil xs)) w; nodes = sym (append-nil (postfix c)) }
skip_sound want.Products = λ e xs w. record { expr = e; spelt = subst (Term e) (sym (append-nil xs)) w; nodes = sym (append-nil (postfix_expr e)) }
skip_sound want.Sums = λ e xs w. record { expr = e; spelt = subst (Sum e) (sym (append-nil xs)) w; nodes = sym (append-nil (postfix_expr e)) }
skip_sound (want.Join j) = exactly
skip_sound _ = tt

-- ---- stacks

-- a stack in two parts
record Parts (σ γ : List Symbol) (ts : List Token) (ns : List Node) : Type 0 where
  xs : List Token
  ys : List Token
  ms : List Node
  os : List Node
  first : Means σ xs ms
  rest : Means γ ys os
  tokens : xs ++ ys ≡ ts
  nodes : ms ++ os ≡ ns

parts : (σ γ : List Symbol) (ts : List Token) (ns : List Node) → Means (σ ++ γ) ts ns → Parts σ γ ts ns
parts [] γ ts ns m = record { xs = []; ys = ts; ms = []; os = ns; first = nil; rest = m; tokens = refl; nodes = refl }
parts (s ∷ σ) γ _ _ (cons _ _ xs ys ms ns r m) =
    let p = parts σ γ ys ns m in
    record {
      xs = xs ++ p.xs;
      ys = p.ys;
      ms = ms ++ p.ms;
      os = p.os;
      first = cons s σ xs p.xs ms p.ms r p.first;
      rest = p.rest;
      tokens = append_assoc xs p.xs p.ys ∙ ap (λ x. xs ++ x) p.tokens;
      nodes = append_assoc ms p.ms p.os ∙ ap (λ x. ms ++ x) p.nodes;
    }

-- nodes in front, and the rest of an answer
pub record Rest (before : List Node) (r : Option (List Node)) (ns : List Node) : Type 0 where
  pub nodes : List Node
  pub found : r ≡ Some nodes
  pub all : before ++ nodes ≡ ns

pub rest_of : (before : List Node) (r : Option (List Node)) (ns : List Node) → behind_nodes before r ≡ Some ns → Rest before r ns
rest_of before None ns e = cc
rest_of before (Some ms) ns e = record { nodes = ms; found = refl; all = cc }

finish_sound : (γ : List Symbol) (ns : List Node) → finish γ ≡ Some ns → Means γ [] ns
finish_sound [] ns e = let same : [] ≡ ns = cc in subst (Means [] []) same nil
finish_sound (s ∷ γ) ns e = go (skip s) (skip_sound s) e (λ ms h. finish_sound γ ms h)
  where
    go : (k : Option (List Node)) → SkipSound s k → elim k as (λ _. Option (List Node)) [ Some before ↦ behind_nodes before (finish γ) | None ↦ None ] ≡ Some ns →
        ((ms : List Node) → finish γ ≡ Some ms → Means γ [] ms) → Means (s ∷ γ) [] ns
    go None h e rest = cc
    go (Some before) h e rest =
        let r = rest_of before (finish γ) ns e in
        subst (Means (s ∷ γ) []) r.all (cons s γ [] [] before r.nodes h (rest r.nodes r.found))

-- what a stack makes of a token is right
abbrev StackSound : List Symbol → Token → Option Move → Type 0
StackSound γ t None = Unit {0}
StackSound γ t (Some m) = (ts : List Token) (ns : List Node) → Means m.symbols ts ns → Means γ (t ∷ ts) (m.nodes ++ ns)

read_sound : (γ : List Symbol) (t : Token) → StackSound γ t (read γ t)
read_sound [] t = tt
read_sound (s ∷ γ) t = go (move s t) (move_sound s t) (skip s) (skip_sound s) (read γ t) (read_sound γ t)
  where
    passed : (before : List Node) (r : Option Move) → Reads s [] before → StackSound γ t r → StackSound (s ∷ γ) t (behind_move before r)
    passed before None h k = tt
    passed before (Some m) h k = λ ts ns w. subst (Means (s ∷ γ) (t ∷ ts)) (sym (append_assoc before m.nodes ns)) (cons s γ [] (t ∷ ts) before (m.nodes ++ ns) h (k ts ns w))

    taken : (m : Move) → Sound s t (Some m) → StackSound (s ∷ γ) t (Some (record { symbols = m.symbols ++ γ; nodes = m.nodes }))
    taken m h = λ ts ns w.
        let p = parts m.symbols γ ts ns w in
        subst (λ x. Means (s ∷ γ) x (m.nodes ++ ns)) (ap (λ x. t ∷ x) p.tokens)
        (subst (Means (s ∷ γ) (t ∷ (p.xs ++ p.ys))) (append_assoc m.nodes p.ms p.os ∙ ap (λ x. m.nodes ++ x) p.nodes) (cons s γ (t ∷ p.xs) p.ys (m.nodes ++ p.ms) p.os (h p.xs p.ms p.first) p.rest))

    go : (m : Option Move) → Sound s t m → (k : Option (List Node)) → SkipSound s k → (r : Option Move) → StackSound γ t r →
        StackSound (s ∷ γ) t (elim m as (λ _. Option Move) [ Some m ↦ Some (record { symbols = m.symbols ++ γ; nodes = m.nodes }) | None ↦ elim k as (λ _. Option Move) [ Some before ↦ behind_move before r | None ↦ None ] ])
    go (Some m) h k q r z = taken m h
    go None h (Some before) q r z = passed before r q z
    go None h None q r z = tt

pub run_sound : (ts : List Token) (γ : List Symbol) (ns : List Node) → run γ ts ≡ Some ns → Means γ ts ns
run_sound [] γ ns e = finish_sound γ ns e
run_sound (t ∷ ts) γ ns e = go (read γ t) (read_sound γ t) e (λ δ ms h. run_sound ts δ ms h)
  where
    go : (r : Option Move) → StackSound γ t r → elim r as (λ _. Option (List Node)) [ Some m ↦ behind_nodes m.nodes (run m.symbols ts) | None ↦ None ] ≡ Some ns →
        ((δ : List Symbol) (ms : List Node) → run δ ts ≡ Some ms → Means δ ts ms) → Means γ (t ∷ ts) ns
    go None h e rest = cc
    go (Some m) h e rest =
        let r = rest_of m.nodes (run m.symbols ts) ns e in
        subst (Means γ (t ∷ ts)) r.all (h ts r.nodes (rest m.symbols r.nodes r.found))

-- the tokens that the machine reads from its start to the end spell a command with these nodes
pub start_sound : (ts : List Token) (ns : List Node) → run start ts ≡ Some ns → ReadCommand ts ns
start_sound ts ns e = only (run_sound ts start ns e)
  where
    only : {ts : List Token} {ns : List Node} → Means start ts ns → ReadCommand ts ns
    only (cons _ _ xs _ ms _ r nil) = SoundHeads.handed_on xs ms r
