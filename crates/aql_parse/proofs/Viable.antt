-- Every stack can be brought to an end, so what the machine can read begins a command.
use Rattle.std.proofs.Common.{◌≡◌, ℕ, zero, suc, ◌-◌, ◌==◌, ◌≤◌, pos, List, [], ◌∷◌, ◌++◌, length, take, Option, Some, None, refl, ◌∙◌, ap, arith}
use Rattle.db_model.specs.Grammar.{minus}
use Rattle.db_model.specs.Spelling.{IsLongestFront, nodes_of}
use Rattle.db_model.specs.declared.commands.Compare.TheVariants as compare
use Rattle.db_model.specs.declared.commands.Node.{Node}
use Rattle.db_model.specs.declared.commands.Node.TheVariants as node
use Rattle.db_model.specs.declared.tokens.Keyword.TheVariants.{KRELATION, KDOMAIN, KINT, KIN, KTYPE, KINLINE, KINTO, KSELECT, KFROM, KON, KPROJECT, KPACK, KCOUNT}
use Rattle.db_model.specs.declared.tokens.Sign.TheVariants.{LeftBracket, RightBracket, Comma, Dot, Equal}
use Rattle.db_model.specs.declared.tokens.Token.{Token}
use Rattle.db_model.specs.declared.tokens.Token.TheVariants.{Word, Name, Number, Sign}
use Rattle.aql_parse.specs.Machine.{Move, to, with_node, operand, select_symbols, or_else, move, skip, read, run, readable_tokens, behind_nodes, joint_node, start}
use Rattle.aql_parse.specs.declared.symbols.Joint.{Joint}
use Rattle.aql_parse.specs.declared.symbols.Joint.TheVariants as joint
use Rattle.aql_parse.specs.declared.symbols.Symbol.{Symbol}
use Rattle.aql_parse.specs.declared.symbols.Symbol.TheVariants as want
use Rattle.aql_parse.proofs.Runs.{Refuses, run_skip, run_to, run_move, less, choose_second, another-suc, around_none}
use Rattle.aql_parse.proofs.CompleteHeads.{spells_run}
use Rattle.aql_parse.proofs.Sound.{rest_of, start_sound}
use Rattle.padded.proofs.Facts.{suc_not_zero}

-- ---- completions

-- the first token is none that a symbol reads which may be left out
record Harmless (ts : List Token) : Type 0 where
  products : Refuses want.Products ts
  sums : Refuses want.Sums ts
  ands : Refuses want.Ands ts
  ors : Refuses want.Ors ts
  where_ : Refuses want.Where ts

-- tokens with which a stack comes to its end
record Live (γ : List Symbol) : Type 0 where
  ts : List Token
  ns : List Node
  harmless : Harmless ts
  accepted : run γ ts ≡ Some ns

put : (s : Symbol) (γ : List Symbol) (t : Token) (σ : List Symbol) → move s t ≡ to σ → ((ts : List Token) → Harmless (t ∷ ts)) → Live (σ ++ γ) → Live (s ∷ γ)
put s γ t σ e h l = record { ts = t ∷ l.ts; ns = l.ns; harmless = h l.ts; accepted = run_to s γ t l.ts σ e ∙ l.accepted }

put_node : (s : Symbol) (γ : List Symbol) (t : Token) (n : Node) (σ : List Symbol) → move s t ≡ with_node n σ → ((ts : List Token) → Harmless (t ∷ ts)) → Live (σ ++ γ) → Live (s ∷ γ)
put_node s γ t n σ e h l =
    record { ts = t ∷ l.ts; ns = n ∷ l.ns; harmless = h l.ts; accepted = run_move s γ t l.ts (record { symbols = σ; nodes = n ∷ [] }) e ∙ ap (behind_nodes (n ∷ [])) l.accepted }

pass : (s : Symbol) (γ : List Symbol) (before : List Node) → skip s ≡ Some before → (l : Live γ) → Refuses s l.ts → Live (s ∷ γ)
pass s γ before e l r = record { ts = l.ts; ns = before ++ l.ns; harmless = l.harmless; accepted = run_skip s γ l.ts before e r ∙ ap (behind_nodes before) l.accepted }

-- the name of a completion
x : List ℕ
x = 120 ∷ []

name_ : (γ : List Symbol) → Live γ → Live (want.Name ∷ γ)
name_ γ l = put want.Name γ (Name x) [] refl (λ ts. record { products = refl; sums = refl; ands = refl; ors = refl; where_ = refl }) l

no_more_names : (ts : List Token) → Refuses (want.MoreNames 0) ts
no_more_names [] = tt
no_more_names (Sign Comma ∷ ts) = refl
no_more_names (_ ∷ ts) = refl

no_more_values : (ts : List Token) → Refuses (want.MoreValues 0) ts
no_more_values [] = tt
no_more_values (Sign Comma ∷ ts) = refl
no_more_values (_ ∷ ts) = refl

no_more_aggregates : (ts : List Token) → Refuses (want.MoreAggregates 0) ts
no_more_aggregates [] = tt
no_more_aggregates (Sign Comma ∷ ts) = refl
no_more_aggregates (_ ∷ ts) = refl

comma_harmless : (ts : List Token) → Harmless (Sign Comma ∷ ts)
comma_harmless ts = record { products = refl; sums = refl; ands = refl; ors = refl; where_ = refl }

number_harmless : (ts : List Token) → Harmless (Number (pos 0) ∷ ts)
number_harmless ts = record { products = refl; sums = refl; ands = refl; ors = refl; where_ = refl }

more_names : (n : ℕ) (γ : List Symbol) → Live γ → Live (want.MoreNames n ∷ γ)
more_names zero γ l = pass (want.MoreNames 0) γ [] refl l (no_more_names l.ts)
more_names (suc n) γ l =
    put (want.MoreNames (suc n)) γ (Sign Comma) (want.Name ∷ want.MoreNames n ∷ []) (ap (λ m. or_else m None) (another-suc n want.Name want.MoreNames)) comma_harmless
    (name_ (want.MoreNames n ∷ γ) (more_names n γ l))

more_values : (n : ℕ) (γ : List Symbol) → Live γ → Live (want.MoreValues n ∷ γ)
more_values zero γ l = pass (want.MoreValues 0) γ [] refl l (no_more_values l.ts)
more_values (suc n) γ l =
    put (want.MoreValues (suc n)) γ (Sign Comma) (want.Value ∷ want.MoreValues n ∷ []) (ap (λ m. or_else m None) (another-suc n want.Value want.MoreValues)) comma_harmless
    (put want.Value (want.MoreValues n ∷ γ) (Number (pos 0)) [] refl number_harmless (more_values n γ l))

closing : (γ : List Symbol) → Live γ → Live (want.Closing ∷ γ)
closing γ l = put want.Closing γ (Sign RightBracket) [] refl (λ ts. record { products = refl; sums = refl; ands = refl; ors = refl; where_ = refl }) l

opening : (γ : List Symbol) → Live γ → Live (want.Opening ∷ γ)
opening γ l = put want.Opening γ (Sign LeftBracket) [] refl (λ ts. record { products = refl; sums = refl; ands = refl; ors = refl; where_ = refl }) l

aggregate_ : (γ : List Symbol) → Live γ → Live (want.Aggregate ∷ γ)
aggregate_ γ l =
    put want.Aggregate γ (Word KCOUNT) (want.Opening ∷ want.Name ∷ want.Closing ∷ []) refl (λ ts. record { products = refl; sums = refl; ands = refl; ors = refl; where_ = refl })
    (opening (want.Name ∷ want.Closing ∷ γ) (name_ (want.Closing ∷ γ) (closing γ l)))

more_aggregates : (n : ℕ) (γ : List Symbol) → Live γ → Live (want.MoreAggregates n ∷ γ)
more_aggregates zero γ l = pass (want.MoreAggregates 0) γ [] refl l (no_more_aggregates l.ts)
more_aggregates (suc n) γ l =
    put (want.MoreAggregates (suc n)) γ (Sign Comma) (want.Aggregate ∷ want.MoreAggregates n ∷ []) (ap (λ m. or_else m None) (another-suc n want.Aggregate want.MoreAggregates)) comma_harmless
    (aggregate_ (want.MoreAggregates n ∷ γ) (more_aggregates n γ l))

from_ : (γ : List Symbol) → Live γ → Live (want.WordFrom ∷ γ)
from_ γ l = put want.WordFrom γ (Word KFROM) [] refl (λ ts. record { products = refl; sums = refl; ands = refl; ors = refl; where_ = refl }) l

selected_ : (γ : List Symbol) → Live γ → Live (select_symbols ++ γ)
selected_ γ l = from_ (want.Name ∷ want.Where ∷ γ) (name_ (want.Where ∷ γ) (pass want.Where γ [] refl l l.harmless.where_))

products_ : (γ : List Symbol) → Live γ → Live (want.Products ∷ γ)
products_ γ l = pass want.Products γ [] refl l l.harmless.products

sums_ : (γ : List Symbol) → Live γ → Live (want.Sums ∷ γ)
sums_ γ l = pass want.Sums γ [] refl l l.harmless.sums

join_refuses : (j : Joint) (ts : List Token) → Refuses (want.Join j) ts
join_refuses j [] = tt
join_refuses j (t ∷ ts) = refl

join_ : (j : Joint) (γ : List Symbol) → Live γ → Live (want.Join j ∷ γ)
join_ j γ l = pass (want.Join j) γ (joint_node j ∷ []) refl l (join_refuses j l.ts)

around_refuses : (ts : List Token) → Refuses (want.Around 0) ts
around_refuses [] = tt
around_refuses (t ∷ ts) = around_none t

around_ : (n : ℕ) (γ : List Symbol) → Live γ → Live (want.Around n ∷ γ)
around_ zero γ l = pass (want.Around 0) γ [] refl l (around_refuses l.ts)
around_ (suc n) γ l =
    put (want.Around (suc n)) γ (Sign RightBracket) (want.Around n ∷ []) (choose_second (suc n == 0) None (to (want.Around (suc n - 1) ∷ [])) (suc_not_zero n) ∙ ap (λ k. to (want.Around k ∷ [])) (less n))
    (λ ts. record { products = refl; sums = refl; ands = refl; ors = refl; where_ = refl }) (around_ n γ l)

factor_ : (γ : List Symbol) → Live γ → Live (want.Factor ∷ γ)
factor_ γ l = put_node want.Factor γ (Number (pos 0)) (node.Number (pos 0)) [] refl number_harmless l

behind_ : (n : ℕ) (γ : List Symbol) → Live γ → Live (want.Behind n ∷ γ)
behind_ n γ l =
    let equal : Joint = joint.Compare compare.Eq in
    put (want.Behind n) γ (Sign Equal) (want.Factor ∷ want.Products ∷ want.Sums ∷ want.Join equal ∷ want.Around n ∷ []) refl (λ ts. record { products = refl; sums = refl; ands = refl; ors = refl; where_ = refl })
    (factor_ (want.Products ∷ want.Sums ∷ want.Join equal ∷ want.Around n ∷ γ) (products_ (want.Sums ∷ want.Join equal ∷ want.Around n ∷ γ)
    (sums_ (want.Join equal ∷ want.Around n ∷ γ) (join_ equal (want.Around n ∷ γ) (around_ n γ l)))))

one_word : (s : Symbol) (γ : List Symbol) (t : Token) → move s t ≡ to [] → ((ts : List Token) → Harmless (t ∷ ts)) → Live γ → Live (s ∷ γ)
one_word s γ t e h l = put s γ t [] e h l

live : (γ : List Symbol) → Live γ
live [] = record { ts = []; ns = []; harmless = record { products = tt; sums = tt; ands = tt; ors = tt; where_ = tt }; accepted = refl }
live (want.Command ∷ γ) = put want.Command γ (Word KPACK) (want.Name ∷ []) refl (λ ts. record { products = refl; sums = refl; ands = refl; ors = refl; where_ = refl }) (name_ γ (live γ))
live (want.Create ∷ γ) = put want.Create γ (Word KRELATION) (want.Name ∷ []) refl (λ ts. record { products = refl; sums = refl; ands = refl; ors = refl; where_ = refl }) (name_ γ (live γ))
live (want.Remove ∷ γ) = put want.Remove γ (Word KRELATION) (want.Name ∷ []) refl (λ ts. record { products = refl; sums = refl; ands = refl; ors = refl; where_ = refl }) (name_ γ (live γ))
live (want.Query ∷ γ) =
    put want.Query γ (Word KSELECT) (want.Name ∷ want.MoreNames 7 ∷ select_symbols) refl (λ ts. record { products = refl; sums = refl; ands = refl; ors = refl; where_ = refl })
    (name_ (want.MoreNames 7 ∷ (select_symbols ++ γ)) (more_names 7 (select_symbols ++ γ) (selected_ γ (live γ))))
live (want.Selection ∷ γ) =
    put want.Selection γ (Name x) (want.MoreNames 7 ∷ select_symbols) refl (λ ts. record { products = refl; sums = refl; ands = refl; ors = refl; where_ = refl }) (more_names 7 (select_symbols ++ γ) (selected_ γ (live γ)))
live (want.Name ∷ γ) = name_ γ (live γ)
live (want.Number ∷ γ) = one_word want.Number γ (Number (pos 0)) refl number_harmless (live γ)
live (want.Value ∷ γ) = one_word want.Value γ (Number (pos 0)) refl number_harmless (live γ)
live (want.Aggregate ∷ γ) = aggregate_ γ (live γ)
live (want.Domain ∷ γ) = one_word want.Domain γ (Word KINT) refl (λ ts. record { products = refl; sums = refl; ands = refl; ors = refl; where_ = refl }) (live γ)
live (want.Kind ∷ γ) = one_word want.Kind γ (Word KINLINE) refl (λ ts. record { products = refl; sums = refl; ands = refl; ors = refl; where_ = refl }) (live γ)
live (want.WordDomain ∷ γ) = one_word want.WordDomain γ (Word KDOMAIN) refl (λ ts. record { products = refl; sums = refl; ands = refl; ors = refl; where_ = refl }) (live γ)
live (want.WordIn ∷ γ) = one_word want.WordIn γ (Word KIN) refl (λ ts. record { products = refl; sums = refl; ands = refl; ors = refl; where_ = refl }) (live γ)
live (want.WordType ∷ γ) = one_word want.WordType γ (Word KTYPE) refl (λ ts. record { products = refl; sums = refl; ands = refl; ors = refl; where_ = refl }) (live γ)
live (want.WordInto ∷ γ) = one_word want.WordInto γ (Word KINTO) refl (λ ts. record { products = refl; sums = refl; ands = refl; ors = refl; where_ = refl }) (live γ)
live (want.WordFrom ∷ γ) = from_ γ (live γ)
live (want.WordOn ∷ γ) = one_word want.WordOn γ (Word KON) refl (λ ts. record { products = refl; sums = refl; ands = refl; ors = refl; where_ = refl }) (live γ)
live (want.WordProject ∷ γ) = one_word want.WordProject γ (Word KPROJECT) refl (λ ts. record { products = refl; sums = refl; ands = refl; ors = refl; where_ = refl }) (live γ)
live (want.Opening ∷ γ) = opening γ (live γ)
live (want.Closing ∷ γ) = closing γ (live γ)
live (want.Comma ∷ γ) = one_word want.Comma γ (Sign Comma) refl comma_harmless (live γ)
live (want.Dot ∷ γ) = one_word want.Dot γ (Sign Dot) refl (λ ts. record { products = refl; sums = refl; ands = refl; ors = refl; where_ = refl }) (live γ)
live (want.MoreNames n ∷ γ) = more_names n γ (live γ)
live (want.MoreValues n ∷ γ) = more_values n γ (live γ)
live (want.MoreAggregates n ∷ γ) = more_aggregates n γ (live γ)
live (want.Where ∷ γ) = let l = live γ in pass want.Where γ [] refl l l.harmless.where_
live (want.Inside n ∷ γ) =
    put_node (want.Inside n) γ (Number (pos 0)) (node.Number (pos 0)) (operand n) refl number_harmless
    (products_ (want.Sums ∷ want.Behind n ∷ γ) (sums_ (want.Behind n ∷ γ) (behind_ n γ (live γ))))
live (want.Behind n ∷ γ) = behind_ n γ (live γ)
live (want.Around n ∷ γ) = around_ n γ (live γ)
live (want.Ands ∷ γ) = let l = live γ in pass want.Ands γ [] refl l l.harmless.ands
live (want.Ors ∷ γ) = let l = live γ in pass want.Ors γ [] refl l l.harmless.ors
live (want.Factor ∷ γ) = factor_ γ (live γ)
live (want.Negative ∷ γ) = put_node want.Negative γ (Number (pos 0)) (node.Number (minus (pos 0))) [] refl number_harmless (live γ)
live (want.Products ∷ γ) = products_ γ (live γ)
live (want.Sums ∷ γ) = sums_ γ (live γ)
live (want.Join j ∷ γ) = join_ j γ (live γ)

-- ---- fronts

run_read : (γ : List Symbol) (t : Token) (ts : List Token) (m : Move) → read γ t ≡ Some m → run γ (t ∷ ts) ≡ behind_nodes m.nodes (run m.symbols ts)
run_read γ t ts m e = go (read γ t) e
  where
    go : (r : Option Move) → r ≡ Some m → elim r as (λ _. Option (List Node)) [ Some m ↦ behind_nodes m.nodes (run m.symbols ts) | None ↦ None ] ≡ behind_nodes m.nodes (run m.symbols ts)
    go None e = cc
    go (Some k) e = let same : k ≡ m = cc in ap (λ (y : Move). behind_nodes y.nodes (run y.symbols ts)) same

-- what is read begins something that is read to its end
record Ends (γ : List Symbol) (ts : List Token) : Type 0 where
  rest : List Token
  ns : List Node
  accepted : run γ (ts ++ rest) ≡ Some ns

read_ends : (ts : List Token) (γ : List Symbol) → Ends γ (take (readable_tokens γ ts) ts)
read_ends [] γ = let l = live γ in record { rest = l.ts; ns = l.ns; accepted = l.accepted }
read_ends (t ∷ ts) γ = go (read γ t) refl (λ δ. read_ends ts δ)
  where
    go : (r : Option Move) → read γ t ≡ r → ((δ : List Symbol) → Ends δ (take (readable_tokens δ ts) ts)) → Ends γ (take (elim r as (λ _. ℕ) [ Some m ↦ suc (readable_tokens m.symbols ts) | None ↦ 0 ]) (t ∷ ts))
    go None e h = let l = live γ in record { rest = l.ts; ns = l.ns; accepted = l.accepted }
    go (Some m) e h =
        let k = h m.symbols in
        record { rest = k.rest; ns = m.nodes ++ k.ns; accepted = run_read γ t (take (readable_tokens m.symbols ts) ts ++ k.rest) m e ∙ ap (behind_nodes m.nodes) k.accepted }

-- what is read to its end is read from its front on
read_far : (ts : List Token) (γ : List Symbol) (n : ℕ) (rest : List Token) (ns : List Node) → n ≤ length ts → run γ (take n ts ++ rest) ≡ Some ns → n ≤ readable_tokens γ ts
read_far [] γ zero rest ns h e = omega arith
read_far [] γ (suc n) rest ns h e = absurd (omega arith)
read_far (t ∷ ts) γ zero rest ns h e = omega arith
read_far (t ∷ ts) γ (suc n) rest ns h e = go (read γ t) e (λ δ ms k. read_far ts δ n rest ms (omega arith) k)
  where
    go : (r : Option Move) → elim r as (λ _. Option (List Node)) [ Some m ↦ behind_nodes m.nodes (run m.symbols (take n ts ++ rest)) | None ↦ None ] ≡ Some ns →
        ((δ : List Symbol) (ms : List Node) → run δ (take n ts ++ rest) ≡ Some ms → n ≤ readable_tokens δ ts) → suc n ≤ elim r as (λ _. ℕ) [ Some m ↦ suc (readable_tokens m.symbols ts) | None ↦ 0 ]
    go None e h = cc
    go (Some m) e h = let r = rest_of m.nodes (run m.symbols (take n ts ++ rest)) ns e in omega (arith, h m.symbols r.nodes r.found)

reach_fits : (ts : List Token) (γ : List Symbol) → readable_tokens γ ts ≤ length ts
reach_fits [] γ = omega arith
reach_fits (t ∷ ts) γ = go (read γ t) (λ δ. reach_fits ts δ)
  where
    go : (r : Option Move) → ((δ : List Symbol) → readable_tokens δ ts ≤ length ts) → elim r as (λ _. ℕ) [ Some m ↦ suc (readable_tokens m.symbols ts) | None ↦ 0 ] ≤ length (t ∷ ts)
    go None h = omega arith
    go (Some m) h = omega (arith, h m.symbols)

-- how far the machine reads is the longest front that begins a command
pub longest : (ts : List Token) → IsLongestFront ts (readable_tokens start ts)
longest ts =
    let k = read_ends ts start in
    let c = start_sound (take (readable_tokens start ts) ts ++ k.rest) k.ns k.accepted in
    record {
      fits = reach_fits ts start;
      begins = record { rest = k.rest; command = c.command; spelling = c.spelt };
      longest = λ m h b. read_far ts start m b.rest (nodes_of b.command) h (spells_run b.command (take m ts ++ b.rest) b.spelling);
    }
