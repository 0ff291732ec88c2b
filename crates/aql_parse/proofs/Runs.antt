-- How a run goes on, symbol by symbol.
use Rattle.std.proofs.Common.{◌≡◌, ℕ, ◌-◌, ◌==◌, Bool, true, false, List, [], ◌∷◌, ◌++◌, Option, Some, None, refl, ◌∙◌, ap, append_assoc, arith, suc, if◌then◌else◌}
use Rattle.db_model.specs.declared.commands.Node.{Node}
use Rattle.db_model.specs.declared.tokens.Keyword.TheVariants.{KAND, KOR}
use Rattle.db_model.specs.declared.tokens.Sign.TheVariants.{RightBracket}
use Rattle.db_model.specs.declared.tokens.Token.{Token}
use Rattle.db_model.specs.declared.tokens.Token.TheVariants.{Word, Sign}
use Rattle.aql_parse.specs.Machine.{Move, move, skip, read, run, finish, behind_nodes, behind_move, another, to, joint_node}
use Rattle.aql_parse.specs.declared.symbols.Joint.{Joint}
use Rattle.aql_parse.specs.declared.symbols.Symbol.{Symbol}
use Rattle.aql_parse.specs.declared.symbols.Symbol.TheVariants as want
use Rattle.padded.proofs.Facts.{suc_not_zero}

-- ---- nodes in front of an answer

pub behind-nil : (r : Option (List Node)) → behind_nodes [] r ≡ r
behind-nil None = refl
behind-nil (Some ns) = refl

pub behind-append : (xs ys : List Node) (r : Option (List Node)) → behind_nodes (xs ++ ys) r ≡ behind_nodes xs (behind_nodes ys r)
behind-append xs ys None = refl
behind-append xs ys (Some ns) = ap (λ n. Some n) (append_assoc xs ys ns)

pub behind-three : (xs ys zs : List Node) (r : Option (List Node)) → behind_nodes (xs ++ ys ++ zs) r ≡ behind_nodes xs (behind_nodes ys (behind_nodes zs r))
behind-three xs ys zs r = behind-append (xs ++ ys) zs r ∙ behind-append xs ys (behind_nodes zs r)

-- ---- a symbol that is left out

-- the tokens do not begin with one that the symbol reads
abbrev pub Refuses : Symbol → List Token → Type 0
Refuses s [] = Unit {0}
Refuses s (t ∷ ts) = move s t ≡ None

read_skip : (s : Symbol) (γ : List Symbol) (t : Token) (before : List Node) → move s t ≡ None → skip s ≡ Some before → read (s ∷ γ) t ≡ behind_move before (read γ t)
read_skip s γ t before e k = go (move s t) (skip s) e k
  where
    go : (m : Option Move) (k : Option (List Node)) → m ≡ None → k ≡ Some before →
        elim m [ Some m ↦ Some (record { symbols = m.symbols ++ γ; nodes = m.nodes }) | None ↦ elim k [ Some before ↦ behind_move before (read γ t) | None ↦ None ] ] ≡ behind_move before (read γ t)
    go (Some m) k e f = cc
    go None None e f = cc
    go None (Some b) e f = let same : b ≡ before = cc in ap (λ x. behind_move x (read γ t)) same

run_behind : (before : List Node) (m : Option Move) (ts : List Token) →
    elim (behind_move before m) [ Some m ↦ behind_nodes m.nodes (run m.symbols ts) | None ↦ None ] ≡ behind_nodes before (elim m [ Some m ↦ behind_nodes m.nodes (run m.symbols ts) | None ↦ None ])
run_behind before None ts = refl
run_behind before (Some m) ts = behind-append before m.nodes (run m.symbols ts)

finish_skip : (s : Symbol) (γ : List Symbol) (before : List Node) → skip s ≡ Some before → finish (s ∷ γ) ≡ behind_nodes before (finish γ)
finish_skip s γ before e = go (skip s) e
  where
    go : (k : Option (List Node)) → k ≡ Some before → elim k [ Some before ↦ behind_nodes before (finish γ) | None ↦ None ] ≡ behind_nodes before (finish γ)
    go None e = cc
    go (Some b) e = let same : b ≡ before = cc in ap (λ x. behind_nodes x (finish γ)) same

-- a symbol that may be left out is, where the next token is none of its
pub run_skip : (s : Symbol) (γ : List Symbol) (ts : List Token) (before : List Node) → skip s ≡ Some before → Refuses s ts → run (s ∷ γ) ts ≡ behind_nodes before (run γ ts)
run_skip s γ [] before k r = finish_skip s γ before k
run_skip s γ (t ∷ ts) before k r =
    ap (λ x. elim x [ Some m ↦ behind_nodes m.nodes (run m.symbols ts) | None ↦ None ]) (read_skip s γ t before r k) ∙ run_behind before (read γ t) ts

-- one that brings no nodes
pub run_pass : (s : Symbol) (γ : List Symbol) (ts : List Token) → skip s ≡ Some [] → Refuses s ts → run (s ∷ γ) ts ≡ run γ ts
run_pass s γ ts k r = run_skip s γ ts [] k r ∙ behind-nil (run γ ts)

join_refuses : (j : Joint) (ts : List Token) → Refuses (want.Join j) ts
join_refuses j [] = tt
join_refuses j (t ∷ ts) = refl

pub run_join : (j : Joint) (γ : List Symbol) (ts : List Token) → run (want.Join j ∷ γ) ts ≡ behind_nodes (joint_node j ∷ []) (run γ ts)
run_join j γ ts = run_skip (want.Join j) γ ts (joint_node j ∷ []) refl (join_refuses j ts)

-- a symbol that reads the next token
pub run_move : (s : Symbol) (γ : List Symbol) (t : Token) (ts : List Token) (m : Move) → move s t ≡ Some m → run (s ∷ γ) (t ∷ ts) ≡ behind_nodes m.nodes (run (m.symbols ++ γ) ts)
run_move s γ t ts m e = go (move s t) e
  where
    go : (x : Option Move) → x ≡ Some m →
        elim (elim x as (λ _. Option Move) [ Some m ↦ Some (record { symbols = m.symbols ++ γ; nodes = m.nodes }) | None ↦ elim (skip s) [ Some before ↦ behind_move before (read γ t) | None ↦ None ] ])
        as (λ _. Option (List Node)) [ Some m ↦ behind_nodes m.nodes (run m.symbols ts) | None ↦ None ]
        ≡ behind_nodes m.nodes (run (m.symbols ++ γ) ts)
    go None e = cc
    go (Some k) e = let same : k ≡ m = cc in ap (λ (x : Move). behind_nodes x.nodes (run (x.symbols ++ γ) ts)) same

pub run_to : (s : Symbol) (γ : List Symbol) (t : Token) (ts : List Token) (σ : List Symbol) → move s t ≡ to σ → run (s ∷ γ) (t ∷ ts) ≡ run (σ ++ γ) ts
run_to s γ t ts σ e = run_move s γ t ts (record { symbols = σ; nodes = [] }) e ∙ behind-nil (run (σ ++ γ) ts)

-- ---- numbers of a symbol

pub less : (n : ℕ) → suc n - 1 ≡ n
less n = omega arith

pub choose_second : {A : Type 0} (b : Bool) (x y : A) → b ≡ false → (if b then x else y) ≡ y
choose_second true x y e = cc
choose_second false x y e = refl

-- one item more, where one more may come
pub another-suc : (n : ℕ) (item : Symbol) (more : ℕ → Symbol) → another (suc n) item more ≡ to (item ∷ more n ∷ [])
another-suc n item more = choose_second (suc n == 0) None (to (item ∷ more (suc n - 1) ∷ [])) (suc_not_zero n) ∙ ap (λ k. to (item ∷ more k ∷ [])) (less n)

-- around no brackets nothing is read
pub around_none : (t : Token) → move (want.Around 0) t ≡ None
around_none (Word KAND) = refl
around_none (Word KOR) = refl
around_none (Sign RightBracket) = refl
around_none _ = refl

pub run_around_none : (γ : List Symbol) (ts : List Token) → run (want.Around 0 ∷ γ) ts ≡ run γ ts
run_around_none γ [] = run_pass (want.Around 0) γ [] refl tt
run_around_none γ (t ∷ ts) = run_pass (want.Around 0) γ (t ∷ ts) refl (around_none t)
