-- One turn of the loops that read a token and that end a stack.
use Rattle.std.proofs.Common.{◌≡◌, ℕ, suc, ◌+◌, ◌<◌, ◌≤◌, Bool, true, false, List, [], ◌∷◌, ◌++◌, length, Option, Some, None, refl, sym, ◌∙◌, ap, subst, append_assoc, append-nil, add-one, get_or, drop, drop-cons, length-append, ◌*◌, arith, ◌⊎◌, inl, inr, nat_lt, if◌then◌else◌}
use Rattle.std.proofs.Math.ListN.{drop_of_length-le}
use Rattle.std.proofs.lemmas.Bool.Decides.{nat_tests}
use Rattle.db_model.specs.declared.commands.Node.{Node}
use Rattle.db_model.specs.declared.tokens.Token.{Token}
use Rattle.aql_parse.specs.Kept.{kept_one, kept, KeepsNodes, AreKept}
use Rattle.aql_parse.specs.Machine.{Move, move, skip, read, finish, run, readable_tokens, behind_nodes, behind_move, start}
use Rattle.aql_parse.specs.Moves.{Moved, IsKeptByMove, Skipped, HasRead, HasEnded, bulk_all}
use Rattle.aql_parse.specs.declared.nodes.Nodes.{Nodes}
use Rattle.aql_parse.specs.declared.symbols.Symbol.{Symbol}
use Rattle.aql_parse.proofs.Light.{light}
use Rattle.aql_parse.proofs.Runs.{behind-append}

-- ---- nodes that are kept

pub kept-append : (k : Nodes) (xs ys : List Node) → kept k (xs ++ ys) ≡ kept (kept k xs) ys
kept-append k [] ys = refl
kept-append k (x ∷ xs) ys = kept-append (kept_one k x) xs ys

abbrev KeptSo : List Node → Nodes → Type 0
KeptSo all k = ((k.over ≡ false) × (k.first ≡ all)) ⊎ ((k.over ≡ true) × (32 < length all))

abbrev kept_by : Bool → Nodes → Node → Nodes
kept_by b k n = if b then record { first = k.first ++ n ∷ []; over = k.over } else record { first = k.first; over = true }

full : (k : Nodes) → nat_lt (length k.first) 32 ≡ false → 32 ≤ length k.first
full k e = grind (arith, nat_tests)

longer : (all : List Node) (n : Node) → length (all ++ n ∷ []) ≡ length all + 1
longer all n = length-append all (n ∷ [])

kept_step : (all : List Node) (k : Nodes) (n : Node) (b : Bool) → nat_lt (length k.first) 32 ≡ b → KeptSo all k → KeptSo (all ++ n ∷ []) (kept_by b k n)
kept_step all k n true e (inl h) = inl (h.0, ap (λ x. x ++ n ∷ []) h.1)
kept_step all k n false e (inl h) = inr (refl, omega (arith, full k e, longer all n, ap length h.1))
kept_step all k n true e (inr h) = inr (h.0, omega (arith, h.1, longer all n))
kept_step all k n false e (inr h) = inr (refl, omega (arith, h.1, longer all n))

kept_all : (ns all : List Node) (k : Nodes) → KeptSo all k → KeptSo (all ++ ns) (kept k ns)
kept_all [] all k h = subst (λ x. KeptSo x k) (sym (append-nil all)) h
kept_all (n ∷ ns) all k h = subst (λ x. KeptSo x (kept (kept_one k n) ns)) (append_assoc all (n ∷ []) ns) (kept_all ns (all ++ n ∷ []) (kept_one k n) (kept_step all k n (nat_lt (length k.first) 32) refl h))

room : (k : Nodes) → nat_lt (length k.first) 32 ≡ true → length k.first < 32
room k e = grind (arith, nat_tests)

few_step : (k : Nodes) (n : Node) (b : Bool) → nat_lt (length k.first) 32 ≡ b → length k.first ≤ 32 → length (kept_by b k n).first ≤ 32
few_step k n true e h = omega (arith, room k e, longer k.first n)
few_step k n false e h = h

few_all : (ns : List Node) (k : Nodes) → length k.first ≤ 32 → length (kept k ns).first ≤ 32
few_all [] k h = h
few_all (n ∷ ns) k h = few_all ns (kept_one k n) (few_step k n (nat_lt (length k.first) 32) refl h)

-- what is kept where nothing was
pub kept_from_none : (k : Nodes) (ns : List Node) → k.first ≡ [] → k.over ≡ false → KeepsNodes ns (kept k ns)
kept_from_none k ns e f = told (kept k ns) (kept_all ns [] k (inl (f, e))) (few_all ns k (omega (arith, ap length e)))
  where
    told : (m : Nodes) → KeptSo ns m → length m.first ≤ 32 → KeepsNodes ns m
    told m (inl h) few = record { whole = λ _. h.1; more = λ o. cc; few = few }
    told m (inr h) few = record { whole = λ o. cc; more = λ _. h.1; few = few }

-- ---- reading one token

-- what is left of the stack reads the token as all of it does, some nodes having come
pub record Reading (all now : List Symbol) (t : Token) (from nodes : Nodes) : Type 0 where
  pub out : List Node
  pub same : read all t ≡ behind_move out (read now t)
  pub kept : nodes ≡ kept from out
  pub light : bulk_all now ≤ bulk_all all

read_when : (s : Symbol) (γ : List Symbol) (t : Token) (m : Option Move) (k : Option (List Node)) → move s t ≡ m → skip s ≡ k →
    read (s ∷ γ) t ≡ elim m as (λ _. Option Move) [ Some m ↦ Some (record { symbols = m.symbols ++ γ; nodes = m.nodes }) | None ↦ elim k as (λ _. Option Move) [ Some before ↦ behind_move before (read γ t) | None ↦ None ] ]
read_when s γ t m k e f = subst (λ x. read (s ∷ γ) t ≡ elim x as (λ _. Option Move) [ Some m ↦ Some (record { symbols = m.symbols ++ γ; nodes = m.nodes }) | None ↦ elim k as (λ _. Option Move) [ Some before ↦ behind_move before (read γ t) | None ↦ None ] ]) e
    (subst (λ y. read (s ∷ γ) t ≡ elim (move s t) as (λ _. Option Move) [ Some m ↦ Some (record { symbols = m.symbols ++ γ; nodes = m.nodes }) | None ↦ elim y as (λ _. Option Move) [ Some before ↦ behind_move before (read γ t) | None ↦ None ] ]) f refl)

-- where the whole stack's answer is known
told : (all : List Symbol) (t : Token) (stack : List Symbol) (from nodes : Nodes) (done : Bool) (r : Option Move) → read all t ≡ r → HasRead r stack from nodes done → HasRead (read all t) stack from nodes done
told all t stack from nodes done r e h = subst (λ x. HasRead x stack from nodes done) (sym e) h

pub turn_moved : (all γ stack : List Symbol) (s : Symbol) (t : Token) (from before nodes : Nodes) (done : Bool) → Reading all (s ∷ γ) t from before →
    Moved (move s t) γ stack done → IsKeptByMove (move s t) before nodes → done ≡ true → HasRead (read all t) stack from nodes true
turn_moved all γ stack s t from before nodes done r m k d = go (move s t) refl m k
  where
    go : (x : Option Move) → move s t ≡ x → Moved x γ stack done → IsKeptByMove x before nodes → HasRead (read all t) stack from nodes true
    go None e m k = cc
    go (Some x) e m k =
        told all t stack from nodes true (Some (record { symbols = x.symbols ++ γ; nodes = r.out ++ x.nodes }))
        (r.same ∙ ap (behind_move r.out) (read_when s γ t (Some x) (skip s) e refl))
        (refl, m.1, k ∙ ap (λ y. kept y x.nodes) r.kept ∙ sym (kept-append from r.out x.nodes))

pub turn_skipped : (all γ stack : List Symbol) (s : Symbol) (t : Token) (from before mid nodes : Nodes) (done skipped : Bool) → Reading all (s ∷ γ) t from before →
    Moved (move s t) γ stack done → IsKeptByMove (move s t) before mid → done ≡ false → Skipped (skip s) mid nodes skipped → skipped ≡ true → Reading all stack t from nodes
turn_skipped all γ stack s t from before mid nodes done skipped r m k d q w = go (move s t) (skip s) refl refl m k q
  where
    assoc : (r : List Node) (b : List Node) (x : Option Move) → behind_move r (behind_move b x) ≡ behind_move (r ++ b) x
    assoc r b None = refl
    assoc r b (Some x) = ap (λ y. Some (record { symbols = x.symbols; nodes = y })) (sym (append_assoc r b x.nodes))

    go : (x : Option Move) (y : Option (List Node)) → move s t ≡ x → skip s ≡ y → Moved x γ stack done → IsKeptByMove x before mid → Skipped y mid nodes skipped → Reading all stack t from nodes
    go (Some x) y e f m k q = cc
    go None None e f m k q = cc
    go None (Some b) e f m k q =
        let same : read all t ≡ behind_move (r.out ++ b) (read γ t) = r.same ∙ ap (behind_move r.out) (read_when s γ t None (Some b) e f) ∙ assoc r.out b (read γ t) in
        record {
          out = r.out ++ b;
          same = subst (λ y. read all t ≡ behind_move (r.out ++ b) (read y t)) (sym m.1) same;
          kept = q.1 ∙ ap (λ y. kept y b) (k ∙ r.kept) ∙ sym (kept-append from r.out b);
          light = subst (λ y. bulk_all y ≤ bulk_all all) (sym m.1) (omega (arith, r.light));
        }

-- ---- ending a stack

-- what is left of the stack ends as all of it does, some nodes having come
pub record Ending (all now : List Symbol) (from nodes : Nodes) : Type 0 where
  pub out : List Node
  pub same : finish all ≡ behind_nodes out (finish now)
  pub kept : nodes ≡ kept from out

finish_when : (s : Symbol) (γ : List Symbol) (k : Option (List Node)) → skip s ≡ k → finish (s ∷ γ) ≡ elim k as (λ _. Option (List Node)) [ Some before ↦ behind_nodes before (finish γ) | None ↦ None ]
finish_when s γ k f = subst (λ y. finish (s ∷ γ) ≡ elim y as (λ _. Option (List Node)) [ Some before ↦ behind_nodes before (finish γ) | None ↦ None ]) f refl

ended : (all : List Symbol) (from nodes : Nodes) (done : Bool) (r : Option (List Node)) → finish all ≡ r → HasEnded r from nodes done → HasEnded (finish all) from nodes done
ended all from nodes done r e h = subst (λ x. HasEnded x from nodes done) (sym e) h

pub end_skipped : (all γ : List Symbol) (s : Symbol) (from before nodes : Nodes) (skipped : Bool) → Ending all (s ∷ γ) from before → Skipped (skip s) before nodes skipped → skipped ≡ true → Ending all γ from nodes
end_skipped all γ s from before nodes skipped r q w = go (skip s) refl q
  where
    go : (y : Option (List Node)) → skip s ≡ y → Skipped y before nodes skipped → Ending all γ from nodes
    go None f q = cc
    go (Some b) f q =
        record {
          out = r.out ++ b;
          same = r.same ∙ ap (behind_nodes r.out) (finish_when s γ (Some b) f) ∙ sym (behind-append r.out b (finish γ));
          kept = q.1 ∙ ap (λ y. kept y b) r.kept ∙ sym (kept-append from r.out b);
        }

-- ---- all tokens

-- nothing is kept yet
abbrev pub no_nodes : Nodes
no_nodes = record { first = []; over = false }

-- the stack reads the tokens from a place on as the machine reads all of them, some nodes having come
pub record Recognizing (i : ℕ) (tokens : List Token) (stack : List Symbol) (nodes : Nodes) : Type 0 where
  pub out : List Node
  pub same : run start tokens ≡ behind_nodes out (run stack (drop i tokens))
  pub far : readable_tokens start tokens ≡ i + readable_tokens stack (drop i tokens)
  pub kept : nodes ≡ kept no_nodes out
  pub light : bulk_all stack ≤ 8 + 4 * i

pub run_when : (γ : List Symbol) (t : Token) (ts : List Token) (r : Option Move) → read γ t ≡ r → run γ (t ∷ ts) ≡ elim r as (λ _. Option (List Node)) [ Some m ↦ behind_nodes m.nodes (run m.symbols ts) | None ↦ None ]
run_when γ t ts r e = subst (λ y. run γ (t ∷ ts) ≡ elim y as (λ _. Option (List Node)) [ Some m ↦ behind_nodes m.nodes (run m.symbols ts) | None ↦ None ]) e refl

pub reach_when : (γ : List Symbol) (t : Token) (ts : List Token) (r : Option Move) → read γ t ≡ r → readable_tokens γ (t ∷ ts) ≡ elim r as (λ _. ℕ) [ Some m ↦ suc (readable_tokens m.symbols ts) | None ↦ 0 ]
reach_when γ t ts r e = subst (λ y. readable_tokens γ (t ∷ ts) ≡ elim y as (λ _. ℕ) [ Some m ↦ suc (readable_tokens m.symbols ts) | None ↦ 0 ]) e refl

next_token : (i : ℕ) (tokens : List Token) (t : Token) → i < length tokens → t ≡ get_or tokens i t → drop i tokens ≡ t ∷ drop (i + 1) tokens
next_token i tokens t h e = drop-cons tokens i t h ∙ ap (λ x. x ∷ drop (suc i) tokens) (sym e) ∙ ap (λ n. t ∷ drop n tokens) (sym (add-one i))

pub recognizing_more : (i : ℕ) (tokens : List Token) (stack next : List Symbol) (nodes more : Nodes) (t : Token) (done : Bool) → Recognizing i tokens stack nodes → i < length tokens → t ≡ get_or tokens i t →
    HasRead (read stack t) next nodes more done → done ≡ true → Recognizing (i + 1) tokens next more
recognizing_more i tokens stack next nodes more t done r h e k d = go (read stack t) refl k
  where
    rest : drop i tokens ≡ t ∷ drop (i + 1) tokens
    rest = next_token i tokens t h e

    go : (m : Option Move) → read stack t ≡ m → HasRead m next nodes more done → Recognizing (i + 1) tokens next more
    go None f k = cc
    go (Some m) f k =
        let ran : run stack (drop i tokens) ≡ behind_nodes m.nodes (run m.symbols (drop (i + 1) tokens)) = ap (run stack) rest ∙ run_when stack t (drop (i + 1) tokens) (Some m) f in
        let reached : readable_tokens stack (drop i tokens) ≡ suc (readable_tokens m.symbols (drop (i + 1) tokens)) = ap (readable_tokens stack) rest ∙ reach_when stack t (drop (i + 1) tokens) (Some m) f in
        let weight = light stack t m f in
        subst (λ x. Recognizing (i + 1) tokens x more) (sym k.1) (record {
          out = r.out ++ m.nodes;
          same = r.same ∙ ap (behind_nodes r.out) ran ∙ sym (behind-append r.out m.nodes (run m.symbols (drop (i + 1) tokens)));
          far = omega (arith, r.far, reached);
          kept = k.2 ∙ ap (λ y. kept y m.nodes) r.kept ∙ sym (kept-append no_nodes r.out m.nodes);
          light = omega (arith, r.light, weight);
        })

-- nothing is left to read or to come
pub recognizing_ends : (i : ℕ) (tokens : List Token) (stack : List Symbol) (nodes more : Nodes) (done : Bool) → Recognizing i tokens stack nodes → i ≡ length tokens →
    HasEnded (finish stack) nodes more done → done ≡ true → AreKept (run start tokens) more
recognizing_ends i tokens stack nodes more done r h k d = go (finish stack) refl k
  where
    rest : drop i tokens ≡ []
    rest = drop_of_length-le tokens (let all : length tokens ≤ i = omega arith in all)

    go : (x : Option (List Node)) → finish stack ≡ x → HasEnded x nodes more done → AreKept (run start tokens) more
    go None f k = cc
    go (Some ns) f k =
        let ran : run start tokens ≡ Some (r.out ++ ns) = r.same ∙ ap (behind_nodes r.out) (ap (run stack) rest ∙ f) in
        let all : more ≡ kept no_nodes (r.out ++ ns) = k.1 ∙ ap (λ y. kept y ns) r.kept ∙ sym (kept-append no_nodes r.out ns) in
        subst (λ x. AreKept x more) (sym ran) (subst (KeepsNodes (r.out ++ ns)) (sym all) (kept_from_none no_nodes (r.out ++ ns) refl refl))
