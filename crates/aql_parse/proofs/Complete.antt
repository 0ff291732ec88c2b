-- What the grammar spells, the machine reads, with its nodes.
use Rattle.std.proofs.Common.{◌≡◌, ℕ, suc, ◌+◌, ◌-◌, ◌==◌, List, [], ◌∷◌, ◌++◌, Option, None, refl, sym, ◌∙◌, ap, append_assoc, add-one}
use Rattle.db_model.specs.Cond.{Expr, Cond, postfix, postfix_expr}
use Rattle.db_model.specs.Grammar.{Factor, number, negative, quoted, named, grouped, Term, factor, times, over, Sum, term, add, subtract, compare_sign, Neg, denied, nested, compared, Conj, neg, also, Disj, conj, either, minus}
use Rattle.db_model.specs.declared.commands.Compare.{Compare}
use Rattle.db_model.specs.declared.commands.Compare.TheVariants as compare
use Rattle.db_model.specs.declared.commands.Node.{Node}
use Rattle.db_model.specs.declared.commands.Node.TheVariants as node
use Rattle.db_model.specs.declared.tokens.Keyword.TheVariants.{KAND, KOR}
use Rattle.db_model.specs.declared.tokens.Sign.TheVariants.{LeftBracket, RightBracket, Plus, Minus, Star, Slash}
use Rattle.db_model.specs.declared.tokens.Token.{Token}
use Rattle.db_model.specs.declared.tokens.Token.TheVariants.{Word, Sign}
use Rattle.aql_parse.specs.Machine.{run, behind_nodes, move, or_else, to, operand, comparison_move, joint_node}
use Rattle.aql_parse.specs.declared.symbols.Joint.{Joint}
use Rattle.aql_parse.specs.declared.symbols.Joint.TheVariants as joint
use Rattle.aql_parse.specs.declared.symbols.Symbol.{Symbol}
use Rattle.aql_parse.specs.declared.symbols.Symbol.TheVariants as want
use Rattle.aql_parse.proofs.Runs.{behind-nil, behind-append, behind-three, Refuses, run_pass, run_join, run_to, less, choose_second, run_around_none}
use Rattle.padded.proofs.Facts.{suc_not_zero}

-- tokens in front of others
split : (s : List Symbol) (xs : List Token) (t : Token) (ys rest : List Token) → run s ((xs ++ t ∷ ys) ++ rest) ≡ run s (xs ++ t ∷ (ys ++ rest))
split s xs t ys rest = ap (run s) (append_assoc xs (t ∷ ys) rest)

-- a left side, then a token with which its stack goes on, then a right side and what joins them
chain : (s : List Symbol) (xs : List Token) (t : Token) (ys rest : List Token) (pa pb : List Node) (j : Joint) (mid last : Option (List Node)) →
    run s (xs ++ t ∷ (ys ++ rest)) ≡ behind_nodes pa mid → mid ≡ behind_nodes pb (behind_nodes (joint_node j ∷ []) last) →
    run s ((xs ++ t ∷ ys) ++ rest) ≡ behind_nodes (pa ++ pb ++ joint_node j ∷ []) last
chain s xs t ys rest pa pb j mid last e f = split s xs t ys rest ∙ e ∙ ap (behind_nodes pa) f ∙ sym (behind-three pa pb (joint_node j ∷ []) last)

-- ---- expressions

mutual
  pub factor_runs : (e : Expr) (ts : List Token) → Factor e ts → (γ : List Symbol) (rest : List Token) → run (want.Factor ∷ γ) (ts ++ rest) ≡ behind_nodes (postfix_expr e) (run γ rest)
  factor_runs _ _ (number z) γ rest = refl
  factor_runs _ _ (negative z) γ rest = behind-nil (behind_nodes (node.Number (minus z) ∷ []) (run γ rest))
  factor_runs _ _ (quoted bytes) γ rest = refl
  factor_runs _ _ (named name) γ rest = refl
  factor_runs _ _ (grouped e ts p) γ rest =
      behind-nil (run (want.Factor ∷ want.Products ∷ want.Sums ∷ want.Closing ∷ γ) ((ts ++ Sign RightBracket ∷ []) ++ rest))
      ∙ split (want.Factor ∷ want.Products ∷ want.Sums ∷ want.Closing ∷ γ) ts (Sign RightBracket) [] rest
      ∙ sum_runs e ts p (want.Closing ∷ γ) (Sign RightBracket ∷ rest) refl
      ∙ ap (behind_nodes (postfix_expr e)) (run_pass want.Sums (want.Closing ∷ γ) (Sign RightBracket ∷ rest) refl refl ∙ behind-nil (run γ rest))

  pub term_runs : (e : Expr) (ts : List Token) → Term e ts → (γ : List Symbol) (rest : List Token) → run (want.Factor ∷ want.Products ∷ γ) (ts ++ rest) ≡ behind_nodes (postfix_expr e) (run (want.Products ∷ γ) rest)
  term_runs _ _ (factor e ts p) γ rest = factor_runs e ts p (want.Products ∷ γ) rest
  term_runs _ _ (times a b xs ys p q) γ rest =
      chain (want.Factor ∷ want.Products ∷ γ) xs (Sign Star) ys rest (postfix_expr a) (postfix_expr b) joint.Mul _ _
      (term_runs a xs p γ (Sign Star ∷ (ys ++ rest)))
      (behind-nil (run (want.Factor ∷ want.Join joint.Mul ∷ want.Products ∷ γ) (ys ++ rest))
      ∙ factor_runs b ys q (want.Join joint.Mul ∷ want.Products ∷ γ) rest ∙ ap (behind_nodes (postfix_expr b)) (run_join joint.Mul (want.Products ∷ γ) rest))
  term_runs _ _ (over a b xs ys p q) γ rest =
      chain (want.Factor ∷ want.Products ∷ γ) xs (Sign Slash) ys rest (postfix_expr a) (postfix_expr b) joint.Div _ _
      (term_runs a xs p γ (Sign Slash ∷ (ys ++ rest)))
      (behind-nil (run (want.Factor ∷ want.Join joint.Div ∷ want.Products ∷ γ) (ys ++ rest))
      ∙ factor_runs b ys q (want.Join joint.Div ∷ want.Products ∷ γ) rest ∙ ap (behind_nodes (postfix_expr b)) (run_join joint.Div (want.Products ∷ γ) rest))

  pub sum_runs : (e : Expr) (ts : List Token) → Sum e ts → (γ : List Symbol) (rest : List Token) → Refuses want.Products rest → run (want.Factor ∷ want.Products ∷ want.Sums ∷ γ) (ts ++ rest) ≡ behind_nodes (postfix_expr e) (run (want.Sums ∷ γ) rest)
  sum_runs _ _ (term e ts p) γ rest r = term_runs e ts p (want.Sums ∷ γ) rest ∙ ap (behind_nodes (postfix_expr e)) (run_pass want.Products (want.Sums ∷ γ) rest refl r)
  sum_runs _ _ (add a b xs ys p q) γ rest r =
      chain (want.Factor ∷ want.Products ∷ want.Sums ∷ γ) xs (Sign Plus) ys rest (postfix_expr a) (postfix_expr b) joint.Add _ _
      (sum_runs a xs p γ (Sign Plus ∷ (ys ++ rest)) refl)
      (behind-nil (run (want.Factor ∷ want.Products ∷ want.Join joint.Add ∷ want.Sums ∷ γ) (ys ++ rest))
      ∙ term_runs b ys q (want.Join joint.Add ∷ want.Sums ∷ γ) rest
      ∙ ap (behind_nodes (postfix_expr b)) (run_pass want.Products (want.Join joint.Add ∷ want.Sums ∷ γ) rest refl r ∙ run_join joint.Add (want.Sums ∷ γ) rest))
  sum_runs _ _ (subtract a b xs ys p q) γ rest r =
      chain (want.Factor ∷ want.Products ∷ want.Sums ∷ γ) xs (Sign Minus) ys rest (postfix_expr a) (postfix_expr b) joint.Sub _ _
      (sum_runs a xs p γ (Sign Minus ∷ (ys ++ rest)) refl)
      (behind-nil (run (want.Factor ∷ want.Products ∷ want.Join joint.Sub ∷ want.Sums ∷ γ) (ys ++ rest))
      ∙ term_runs b ys q (want.Join joint.Sub ∷ want.Sums ∷ γ) rest
      ∙ ap (behind_nodes (postfix_expr b)) (run_pass want.Products (want.Join joint.Sub ∷ want.Sums ∷ γ) rest refl r ∙ run_join joint.Sub (want.Sums ∷ γ) rest))

-- ---- expressions inside brackets that may be a condition's

-- behind a bracket that turned out to be an expression's
behind_closing : (n : ℕ) (γ : List Symbol) (rest : List Token) → run (want.Behind (suc n) ∷ γ) (Sign RightBracket ∷ rest) ≡ run (want.Products ∷ want.Sums ∷ want.Behind n ∷ γ) rest
behind_closing n γ rest =
    run_to (want.Behind (suc n)) γ (Sign RightBracket) rest (operand n)
    (ap (λ m. or_else None m) (choose_second (suc n == 0) None (to (operand (suc n - 1))) (suc_not_zero n) ∙ ap (λ k. to (operand k)) (less n)))

-- a bracket more
inside_opening : (n : ℕ) (γ : List Symbol) (rest : List Token) → run (want.Inside n ∷ γ) (Sign LeftBracket ∷ rest) ≡ run (want.Inside (suc n) ∷ γ) rest
inside_opening n γ rest = behind-nil (run (want.Inside (n + 1) ∷ γ) rest) ∙ ap (λ k. run (want.Inside k ∷ γ) rest) (add-one n)

mutual
  factor_inside : (e : Expr) (ts : List Token) → Factor e ts → (n : ℕ) (γ : List Symbol) (rest : List Token) → run (want.Inside n ∷ γ) (ts ++ rest) ≡ behind_nodes (postfix_expr e) (run (want.Products ∷ want.Sums ∷ want.Behind n ∷ γ) rest)
  factor_inside _ _ (number z) n γ rest = refl
  factor_inside _ _ (negative z) n γ rest = behind-nil (behind_nodes (node.Number (minus z) ∷ []) (run (want.Products ∷ want.Sums ∷ want.Behind n ∷ γ) rest))
  factor_inside _ _ (quoted bytes) n γ rest = refl
  factor_inside _ _ (named name) n γ rest = refl
  factor_inside _ _ (grouped e ts p) n γ rest =
      inside_opening n γ ((ts ++ Sign RightBracket ∷ []) ++ rest)
      ∙ split (want.Inside (suc n) ∷ γ) ts (Sign RightBracket) [] rest
      ∙ sum_inside e ts p (suc n) γ (Sign RightBracket ∷ rest) refl
      ∙ ap (behind_nodes (postfix_expr e)) (run_pass want.Sums (want.Behind (suc n) ∷ γ) (Sign RightBracket ∷ rest) refl refl ∙ behind_closing n γ rest)

  term_inside : (e : Expr) (ts : List Token) → Term e ts → (n : ℕ) (γ : List Symbol) (rest : List Token) → run (want.Inside n ∷ γ) (ts ++ rest) ≡ behind_nodes (postfix_expr e) (run (want.Products ∷ want.Sums ∷ want.Behind n ∷ γ) rest)
  term_inside _ _ (factor e ts p) n γ rest = factor_inside e ts p n γ rest
  term_inside _ _ (times a b xs ys p q) n γ rest =
      chain (want.Inside n ∷ γ) xs (Sign Star) ys rest (postfix_expr a) (postfix_expr b) joint.Mul _ _
      (term_inside a xs p n γ (Sign Star ∷ (ys ++ rest)))
      (behind-nil (run (want.Factor ∷ want.Join joint.Mul ∷ want.Products ∷ want.Sums ∷ want.Behind n ∷ γ) (ys ++ rest))
      ∙ factor_runs b ys q (want.Join joint.Mul ∷ want.Products ∷ want.Sums ∷ want.Behind n ∷ γ) rest ∙ ap (behind_nodes (postfix_expr b)) (run_join joint.Mul (want.Products ∷ want.Sums ∷ want.Behind n ∷ γ) rest))
  term_inside _ _ (over a b xs ys p q) n γ rest =
      chain (want.Inside n ∷ γ) xs (Sign Slash) ys rest (postfix_expr a) (postfix_expr b) joint.Div _ _
      (term_inside a xs p n γ (Sign Slash ∷ (ys ++ rest)))
      (behind-nil (run (want.Factor ∷ want.Join joint.Div ∷ want.Products ∷ want.Sums ∷ want.Behind n ∷ γ) (ys ++ rest))
      ∙ factor_runs b ys q (want.Join joint.Div ∷ want.Products ∷ want.Sums ∷ want.Behind n ∷ γ) rest ∙ ap (behind_nodes (postfix_expr b)) (run_join joint.Div (want.Products ∷ want.Sums ∷ want.Behind n ∷ γ) rest))

  sum_inside : (e : Expr) (ts : List Token) → Sum e ts → (n : ℕ) (γ : List Symbol) (rest : List Token) → Refuses want.Products rest → run (want.Inside n ∷ γ) (ts ++ rest) ≡ behind_nodes (postfix_expr e) (run (want.Sums ∷ want.Behind n ∷ γ) rest)
  sum_inside _ _ (term e ts p) n γ rest r = term_inside e ts p n γ rest ∙ ap (behind_nodes (postfix_expr e)) (run_pass want.Products (want.Sums ∷ want.Behind n ∷ γ) rest refl r)
  sum_inside _ _ (add a b xs ys p q) n γ rest r =
      chain (want.Inside n ∷ γ) xs (Sign Plus) ys rest (postfix_expr a) (postfix_expr b) joint.Add _ _
      (sum_inside a xs p n γ (Sign Plus ∷ (ys ++ rest)) refl)
      (behind-nil (run (want.Factor ∷ want.Products ∷ want.Join joint.Add ∷ want.Sums ∷ want.Behind n ∷ γ) (ys ++ rest))
      ∙ term_runs b ys q (want.Join joint.Add ∷ want.Sums ∷ want.Behind n ∷ γ) rest
      ∙ ap (behind_nodes (postfix_expr b)) (run_pass want.Products (want.Join joint.Add ∷ want.Sums ∷ want.Behind n ∷ γ) rest refl r ∙ run_join joint.Add (want.Sums ∷ want.Behind n ∷ γ) rest))
  sum_inside _ _ (subtract a b xs ys p q) n γ rest r =
      chain (want.Inside n ∷ γ) xs (Sign Minus) ys rest (postfix_expr a) (postfix_expr b) joint.Sub _ _
      (sum_inside a xs p n γ (Sign Minus ∷ (ys ++ rest)) refl)
      (behind-nil (run (want.Factor ∷ want.Products ∷ want.Join joint.Sub ∷ want.Sums ∷ want.Behind n ∷ γ) (ys ++ rest))
      ∙ term_runs b ys q (want.Join joint.Sub ∷ want.Sums ∷ want.Behind n ∷ γ) rest
      ∙ ap (behind_nodes (postfix_expr b)) (run_pass want.Products (want.Join joint.Sub ∷ want.Sums ∷ want.Behind n ∷ γ) rest refl r ∙ run_join joint.Sub (want.Sums ∷ want.Behind n ∷ γ) rest))

-- ---- conditions

-- neither a sign of an expression comes next
pub record EndsExpression (rest : List Token) : Type 0 where
  pub products : Refuses want.Products rest
  pub sums : Refuses want.Sums rest

-- the sign of a comparison is read behind its left side
behind_sign : (how : Compare) (n : ℕ) → move (want.Behind n) (compare_sign how) ≡ comparison_move n how
behind_sign compare.Eq n = refl
behind_sign compare.Ne n = refl
behind_sign compare.Lt n = refl
behind_sign compare.Le n = refl
behind_sign compare.Gt n = refl
behind_sign compare.Ge n = refl

products_sign : (how : Compare) (ts : List Token) → EndsExpression (compare_sign how ∷ ts)
products_sign compare.Eq ts = record { products = refl; sums = refl }
products_sign compare.Ne ts = record { products = refl; sums = refl }
products_sign compare.Lt ts = record { products = refl; sums = refl }
products_sign compare.Le ts = record { products = refl; sums = refl }
products_sign compare.Gt ts = record { products = refl; sums = refl }
products_sign compare.Ge ts = record { products = refl; sums = refl }

right_side : (how : Compare) (b : Expr) (ys : List Token) → Sum b ys → (n : ℕ) (γ : List Symbol) (rest : List Token) → EndsExpression rest →
    run (want.Sums ∷ want.Behind n ∷ γ) (compare_sign how ∷ (ys ++ rest)) ≡ behind_nodes (postfix_expr b) (behind_nodes (node.Compare how ∷ []) (run (want.Around n ∷ γ) rest))
right_side how b ys q n γ rest r =
    run_pass want.Sums (want.Behind n ∷ γ) (compare_sign how ∷ (ys ++ rest)) refl ((products_sign how (ys ++ rest)).sums)
    ∙ run_to (want.Behind n) γ (compare_sign how) (ys ++ rest) (want.Factor ∷ want.Products ∷ want.Sums ∷ want.Join (joint.Compare how) ∷ want.Around n ∷ []) (behind_sign how n)
    ∙ sum_runs b ys q (want.Join (joint.Compare how) ∷ want.Around n ∷ γ) rest r.products
    ∙ ap (behind_nodes (postfix_expr b)) (run_pass want.Sums (want.Join (joint.Compare how) ∷ want.Around n ∷ γ) rest refl r.sums ∙ run_join (joint.Compare how) (want.Around n ∷ γ) rest)

-- inside brackets of conditions the token OR, and the closing bracket, are read as behind {OR conj}
around_or : (n : ℕ) (γ : List Symbol) (ts : List Token) → run (want.Around (suc n) ∷ γ) (Word KOR ∷ ts) ≡ run (want.Ors ∷ want.Closing ∷ want.Around n ∷ γ) (Word KOR ∷ ts)
around_or n γ ts =
    let after : List Symbol = want.Inside 0 ∷ want.Ands ∷ want.Join joint.Or ∷ want.Ors ∷ want.Closing ∷ want.Around n ∷ [] in
    run_to (want.Around (suc n)) γ (Word KOR) ts after
    (ap (λ m. or_else None m) (choose_second (suc n == 0) None _ (suc_not_zero n) ∙ ap (λ k. to (want.Inside 0 ∷ want.Ands ∷ want.Join joint.Or ∷ want.Ors ∷ want.Closing ∷ want.Around k ∷ [])) (less n)))
    ∙ sym (behind-nil (run (after ++ γ) ts))

around_closing : (n : ℕ) (γ : List Symbol) (ts : List Token) → run (want.Around (suc n) ∷ γ) (Sign RightBracket ∷ ts) ≡ run (want.Around n ∷ γ) ts
around_closing n γ ts =
    run_to (want.Around (suc n)) γ (Sign RightBracket) ts (want.Around n ∷ [])
    (ap (λ m. or_else None m) (choose_second (suc n == 0) None _ (suc_not_zero n) ∙ ap (λ k. to (want.Around k ∷ [])) (less n)))

around_and : (n : ℕ) (γ : List Symbol) (ts : List Token) → run (want.Around (suc n) ∷ γ) (Word KAND ∷ ts) ≡ run (want.Inside 0 ∷ want.Join joint.And ∷ want.Around (suc n) ∷ γ) ts
around_and n γ ts =
    run_to (want.Around (suc n)) γ (Word KAND) ts (want.Inside 0 ∷ want.Join joint.And ∷ want.Around (suc n) ∷ [])
    (ap (λ m. or_else None m) (choose_second (suc n == 0) None _ (suc_not_zero n)))

-- OR and its right side
or_right : (d : Cond) (ys : List Token) (γ : List Symbol) (rest : List Token) → Refuses want.Ands rest →
    run (want.Inside 0 ∷ want.Ands ∷ want.Join joint.Or ∷ want.Ors ∷ γ) (ys ++ rest) ≡ behind_nodes (postfix d) (run (want.Ands ∷ want.Join joint.Or ∷ want.Ors ∷ γ) rest) →
    run (want.Ors ∷ γ) (Word KOR ∷ (ys ++ rest)) ≡ behind_nodes (postfix d) (behind_nodes (node.Or ∷ []) (run (want.Ors ∷ γ) rest))
or_right d ys γ rest a right =
    behind-nil (run (want.Inside 0 ∷ want.Ands ∷ want.Join joint.Or ∷ want.Ors ∷ γ) (ys ++ rest))
    ∙ right
    ∙ ap (behind_nodes (postfix d)) (run_pass want.Ands (want.Join joint.Or ∷ want.Ors ∷ γ) rest refl a ∙ run_join joint.Or (want.Ors ∷ γ) rest)

mutual
  -- a condition without AND and OR, inside n brackets of conditions
  pub neg_inside : (c : Cond) (ts : List Token) → Neg c ts → (n : ℕ) (γ : List Symbol) (rest : List Token) → EndsExpression rest → run (want.Inside n ∷ γ) (ts ++ rest) ≡ behind_nodes (postfix c) (run (want.Around n ∷ γ) rest)
  neg_inside _ _ (denied c ts p) n γ rest r =
      behind-nil (run (want.Inside 0 ∷ want.Join joint.Not ∷ want.Around n ∷ γ) (ts ++ rest))
      ∙ neg_inside c ts p 0 (want.Join joint.Not ∷ want.Around n ∷ γ) rest r
      ∙ ap (behind_nodes (postfix c)) (run_around_none (want.Join joint.Not ∷ want.Around n ∷ γ) rest ∙ run_join joint.Not (want.Around n ∷ γ) rest)
      ∙ sym (behind-append (postfix c) (node.Not ∷ []) (run (want.Around n ∷ γ) rest))
  neg_inside _ _ (nested c ts p) n γ rest r =
      inside_opening n γ ((ts ++ Sign RightBracket ∷ []) ++ rest)
      ∙ split (want.Inside (suc n) ∷ γ) ts (Sign RightBracket) [] rest
      ∙ disj_inside c ts p n γ (Sign RightBracket) rest (record { products = refl; sums = refl }) refl (around_closing n γ rest ∙ sym (run_pass want.Ors (want.Closing ∷ want.Around n ∷ γ) (Sign RightBracket ∷ rest) refl refl ∙ behind-nil (run (want.Around n ∷ γ) rest)))
      ∙ ap (behind_nodes (postfix c)) (run_pass want.Ors (want.Closing ∷ want.Around n ∷ γ) (Sign RightBracket ∷ rest) refl refl ∙ behind-nil (run (want.Around n ∷ γ) rest))
  neg_inside _ _ (compared how a b xs ys p q) n γ rest r =
      chain (want.Inside n ∷ γ) xs (compare_sign how) ys rest (postfix_expr a) (postfix_expr b) (joint.Compare how) _ _
      (sum_inside a xs p n γ (compare_sign how ∷ (ys ++ rest)) ((products_sign how (ys ++ rest)).products))
      (right_side how b ys q n γ rest r)

  -- conditions joined by AND, inside n + 1 brackets
  conj_inside : (c : Cond) (ts : List Token) → Conj c ts → (n : ℕ) (γ : List Symbol) (rest : List Token) → EndsExpression rest → run (want.Inside (suc n) ∷ γ) (ts ++ rest) ≡ behind_nodes (postfix c) (run (want.Around (suc n) ∷ γ) rest)
  conj_inside _ _ (neg c ts p) n γ rest r = neg_inside c ts p (suc n) γ rest r
  conj_inside _ _ (also c d xs ys p q) n γ rest r =
      chain (want.Inside (suc n) ∷ γ) xs (Word KAND) ys rest (postfix c) (postfix d) joint.And _ _
      (conj_inside c xs p n γ (Word KAND ∷ (ys ++ rest)) (record { products = refl; sums = refl }))
      (around_and n γ (ys ++ rest)
      ∙ neg_inside d ys q 0 (want.Join joint.And ∷ want.Around (suc n) ∷ γ) rest r
      ∙ ap (behind_nodes (postfix d)) (run_around_none (want.Join joint.And ∷ want.Around (suc n) ∷ γ) rest ∙ run_join joint.And (want.Around (suc n) ∷ γ) rest))

  -- conditions joined by OR, inside n + 1 brackets, before a token that is read as behind {OR conj}
  disj_inside : (c : Cond) (ts : List Token) → Disj c ts → (n : ℕ) (γ : List Symbol) (t : Token) (rest : List Token) → EndsExpression (t ∷ rest) → Refuses want.Ands (t ∷ rest) →
      run (want.Around (suc n) ∷ γ) (t ∷ rest) ≡ run (want.Ors ∷ want.Closing ∷ want.Around n ∷ γ) (t ∷ rest) →
      run (want.Inside (suc n) ∷ γ) (ts ++ t ∷ rest) ≡ behind_nodes (postfix c) (run (want.Ors ∷ want.Closing ∷ want.Around n ∷ γ) (t ∷ rest))
  disj_inside _ _ (conj c ts p) n γ t rest r a same = conj_inside c ts p n γ (t ∷ rest) r ∙ ap (behind_nodes (postfix c)) same
  disj_inside _ _ (either c d xs ys p q) n γ t rest r a same =
      chain (want.Inside (suc n) ∷ γ) xs (Word KOR) ys (t ∷ rest) (postfix c) (postfix d) joint.Or _ _
      (disj_inside c xs p n γ (Word KOR) (ys ++ t ∷ rest) (record { products = refl; sums = refl }) refl (around_or n γ (ys ++ t ∷ rest)))
      (or_right d ys (want.Closing ∷ want.Around n ∷ γ) (t ∷ rest) a (conj_runs d ys q (want.Join joint.Or ∷ want.Ors ∷ want.Closing ∷ want.Around n ∷ γ) (t ∷ rest) r))

  -- outside of all brackets
  conj_runs : (c : Cond) (ts : List Token) → Conj c ts → (γ : List Symbol) (rest : List Token) → EndsExpression rest → run (want.Inside 0 ∷ want.Ands ∷ γ) (ts ++ rest) ≡ behind_nodes (postfix c) (run (want.Ands ∷ γ) rest)
  conj_runs _ _ (neg c ts p) γ rest r = neg_inside c ts p 0 (want.Ands ∷ γ) rest r ∙ ap (behind_nodes (postfix c)) (run_around_none (want.Ands ∷ γ) rest)
  conj_runs _ _ (also c d xs ys p q) γ rest r =
      chain (want.Inside 0 ∷ want.Ands ∷ γ) xs (Word KAND) ys rest (postfix c) (postfix d) joint.And _ _
      (conj_runs c xs p γ (Word KAND ∷ (ys ++ rest)) (record { products = refl; sums = refl }))
      (behind-nil (run (want.Inside 0 ∷ want.Join joint.And ∷ want.Ands ∷ γ) (ys ++ rest))
      ∙ neg_inside d ys q 0 (want.Join joint.And ∷ want.Ands ∷ γ) rest r
      ∙ ap (behind_nodes (postfix d)) (run_around_none (want.Join joint.And ∷ want.Ands ∷ γ) rest ∙ run_join joint.And (want.Ands ∷ γ) rest))

pub disj_runs : (c : Cond) (ts : List Token) → Disj c ts → (γ : List Symbol) (rest : List Token) → EndsExpression rest → Refuses want.Ands rest → run (want.Inside 0 ∷ want.Ands ∷ want.Ors ∷ γ) (ts ++ rest) ≡ behind_nodes (postfix c) (run (want.Ors ∷ γ) rest)
disj_runs _ _ (conj c ts p) γ rest r a = conj_runs c ts p (want.Ors ∷ γ) rest r ∙ ap (behind_nodes (postfix c)) (run_pass want.Ands (want.Ors ∷ γ) rest refl a)
disj_runs _ _ (either c d xs ys p q) γ rest r a =
    chain (want.Inside 0 ∷ want.Ands ∷ want.Ors ∷ γ) xs (Word KOR) ys rest (postfix c) (postfix d) joint.Or _ _
    (disj_runs c xs p γ (Word KOR ∷ (ys ++ rest)) (record { products = refl; sums = refl }) refl)
    (or_right d ys γ rest a (conj_runs d ys q (want.Join joint.Or ∷ want.Ors ∷ γ) rest r))
