-- What the machine reads of conditions, the grammar spells.
use Rattle.std.proofs.Common.{ℕ, zero, suc, ◌+◌, List, [], ◌∷◌, ◌++◌, refl, sym, ◌∙◌, ap, append_assoc, append-nil, add-one}
use Rattle.db_model.specs.Cond.{Expr, Arith, Cond, Comparison, Not, And, Or, Plus as Add, Minus as Subtract, Times, Over, postfix, postfix_expr}
use Rattle.db_model.specs.Grammar.{Factor, grouped, Term, factor, times, over, Sum, term, add, subtract, compare_sign, Neg, denied, nested, compared, Conj, neg, also, conj, either}
use Rattle.db_model.specs.declared.commands.Compare.{Compare}
use Rattle.db_model.specs.declared.commands.Node.{Node}
use Rattle.db_model.specs.declared.commands.Node.TheVariants as node
use Rattle.db_model.specs.declared.tokens.Keyword.TheVariants.{KAND, KOR, KNOT}
use Rattle.db_model.specs.declared.tokens.Sign.TheVariants.{LeftBracket, RightBracket, Plus, Minus, Star, Slash}
use Rattle.db_model.specs.declared.tokens.Token.{Token}
use Rattle.db_model.specs.declared.tokens.Token.TheVariants.{Word, Sign}
use Rattle.aql_parse.specs.Machine.{operand}
use Rattle.aql_parse.specs.declared.symbols.Joint.TheVariants as joint
use Rattle.aql_parse.specs.declared.symbols.Symbol.TheVariants as want
use Rattle.aql_parse.proofs.Means.{ReadExpr, moved_expr, ReadCond, moved_cond, exactly, opens, AroundRead, Reads, Means, nil, cons}

-- ---- expressions

pub star_sound : (ts : List Token) (ns : List Node) → Means (want.Factor ∷ want.Join joint.Mul ∷ want.Products ∷ []) ts ns → Reads want.Products (Sign Star ∷ ts) ns
star_sound _ _ (cons _ _ xs _ ms _ f (cons _ _ _ _ _ _ exactly (cons _ _ zs _ ns _ p nil))) e ws w =
    let r = p (Arith Times e f.expr) (ws ++ Sign Star ∷ xs) (times e f.expr ws xs w f.spelt) in
    moved_expr r (simp (append_assoc, append-nil)) (ap (λ m. (postfix_expr e ++ m ++ node.Mul ∷ []) ++ ns) f.nodes ∙ simp (append_assoc, append-nil))

pub slash_sound : (ts : List Token) (ns : List Node) → Means (want.Factor ∷ want.Join joint.Div ∷ want.Products ∷ []) ts ns → Reads want.Products (Sign Slash ∷ ts) ns
slash_sound _ _ (cons _ _ xs _ ms _ f (cons _ _ _ _ _ _ exactly (cons _ _ zs _ ns _ p nil))) e ws w =
    let r = p (Arith Over e f.expr) (ws ++ Sign Slash ∷ xs) (over e f.expr ws xs w f.spelt) in
    moved_expr r (simp (append_assoc, append-nil)) (ap (λ m. (postfix_expr e ++ m ++ node.Div ∷ []) ++ ns) f.nodes ∙ simp (append_assoc, append-nil))

-- factor {(* | /) factor}
term_sound : (xs ps : List Token) (ms ns : List Node) → Reads want.Factor xs ms → Reads want.Products ps ns → ReadExpr Term (xs ++ ps) (ms ++ ns)
term_sound xs ps ms ns f p =
    let t = p f.expr xs (factor f.expr xs f.spelt) in
    moved_expr t refl (ap (λ m. m ++ ns) f.nodes)

-- term {(+ | -) term}
sum_sound : (xs ps ss : List Token) (ms ns os : List Node) → Reads want.Factor xs ms → Reads want.Products ps ns → Reads want.Sums ss os → ReadExpr Sum (xs ++ (ps ++ ss)) (ms ++ (ns ++ os))
sum_sound xs ps ss ms ns os f p s =
    let t = term_sound xs ps ms ns f p in
    let u = s t.expr (xs ++ ps) (term t.expr (xs ++ ps) t.spelt) in
    moved_expr u (append_assoc xs ps ss) (ap (λ m. m ++ os) t.nodes ∙ append_assoc ms ns os)

pub plus_sound : (ts : List Token) (ns : List Node) → Means (want.Factor ∷ want.Products ∷ want.Join joint.Add ∷ want.Sums ∷ []) ts ns → Reads want.Sums (Sign Plus ∷ ts) ns
plus_sound _ _ (cons _ _ xs _ ms _ f (cons _ _ ps _ ns _ p (cons _ _ _ _ _ _ exactly (cons _ _ zs _ os _ s nil)))) e ws w =
    let t = term_sound xs ps ms ns f p in
    let r = s (Arith Add e t.expr) (ws ++ Sign Plus ∷ (xs ++ ps)) (add e t.expr ws (xs ++ ps) w t.spelt) in
    moved_expr r (simp (append_assoc, append-nil)) (ap (λ m. (postfix_expr e ++ m ++ node.Add ∷ []) ++ os) t.nodes ∙ simp (append_assoc, append-nil))

pub minus_sound : (ts : List Token) (ns : List Node) → Means (want.Factor ∷ want.Products ∷ want.Join joint.Sub ∷ want.Sums ∷ []) ts ns → Reads want.Sums (Sign Minus ∷ ts) ns
minus_sound _ _ (cons _ _ xs _ ms _ f (cons _ _ ps _ ns _ p (cons _ _ _ _ _ _ exactly (cons _ _ zs _ os _ s nil)))) e ws w =
    let t = term_sound xs ps ms ns f p in
    let r = s (Arith Subtract e t.expr) (ws ++ Sign Minus ∷ (xs ++ ps)) (subtract e t.expr ws (xs ++ ps) w t.spelt) in
    moved_expr r (simp (append_assoc, append-nil)) (ap (λ m. (postfix_expr e ++ m ++ node.Sub ∷ []) ++ os) t.nodes ∙ simp (append_assoc, append-nil))

pub grouped_sound : (ts : List Token) (ns : List Node) → Means (want.Factor ∷ want.Products ∷ want.Sums ∷ want.Closing ∷ []) ts ns → Reads want.Factor (Sign LeftBracket ∷ ts) ns
grouped_sound _ _ (cons _ _ xs _ ms _ f (cons _ _ ps _ ns _ p (cons _ _ ss _ os _ s (cons _ _ _ _ _ _ exactly nil)))) =
    let u = sum_sound xs ps ss ms ns os f p s in
    let r : ReadExpr Factor (Sign LeftBracket ∷ ((xs ++ (ps ++ ss)) ++ Sign RightBracket ∷ [])) (ms ++ (ns ++ os)) = record { expr = u.expr; spelt = grouped u.expr (xs ++ (ps ++ ss)) u.spelt; nodes = u.nodes } in
    moved_expr r (simp (append_assoc, append-nil)) (simp append-nil)

-- a factor behind which nothing follows
pub factor_sound : (e : Expr) (xs : List Token) → Factor e xs → (ts : List Token) (ns : List Node) → Means [] ts ns → ReadExpr Factor (xs ++ ts) (postfix_expr e ++ ns)
factor_sound e xs f _ _ nil =
    let r : ReadExpr Factor xs (postfix_expr e) = record { expr = e; spelt = f; nodes = refl } in
    moved_expr r (sym (append-nil xs)) (sym (append-nil (postfix_expr e)))

-- ---- conditions

-- a condition without AND and OR goes before what stands around it
around_neg : (n : ℕ) (ts : List Token) (ns : List Node) → AroundRead n ts ns → (c : Cond) (xs : List Token) → Neg c xs → ReadCond Neg (opens n (xs ++ ts)) (postfix c ++ ns)
around_neg zero _ _ exactly c xs p =
    let r : ReadCond Neg xs (postfix c) = record { cond = c; spelt = p; nodes = refl } in
    moved_cond r (sym (append-nil xs)) (sym (append-nil (postfix c)))
around_neg (suc n) ts ns h c xs p = h c xs (neg c xs p)

-- an operand, and what makes a condition of it
pub operand_sound : (n : ℕ) (ts : List Token) (ns : List Node) → Means (operand n) ts ns → (e : Expr) (xs : List Token) → Factor e xs → ReadCond Neg (opens n (xs ++ ts)) (postfix_expr e ++ ns)
operand_sound n _ _ (cons _ _ ps _ ms _ p (cons _ _ ss _ ns _ s (cons _ _ rs _ os _ r nil))) e xs f =
    let g : ReadExpr Factor xs (postfix_expr e) = record { expr = e; spelt = f; nodes = refl } in
    let u = sum_sound xs ps ss (postfix_expr e) ms ns g p s in
    let v = r u.expr (xs ++ (ps ++ ss)) u.spelt in
    moved_cond v (ap (opens n) (simp (append_assoc, append-nil))) (ap (λ m. m ++ os) u.nodes ∙ simp (append_assoc, append-nil))

pub closing_sound : (n : ℕ) (ts : List Token) (ns : List Node) → Means (operand n) ts ns → Reads (want.Behind (suc n)) (Sign RightBracket ∷ ts) ns
closing_sound n ts ns m e xs p =
    moved_cond (operand_sound n ts ns m e (Sign LeftBracket ∷ (xs ++ Sign RightBracket ∷ [])) (grouped e xs p)) (ap (opens n) (simp append_assoc)) refl

pub comparison_sound : (how : Compare) (n : ℕ) (ts : List Token) (ns : List Node) → Means (want.Factor ∷ want.Products ∷ want.Sums ∷ want.Join (joint.Compare how) ∷ want.Around n ∷ []) ts ns → Reads (want.Behind n) (compare_sign how ∷ ts) ns
comparison_sound how n _ _ (cons _ _ xs _ ms _ f (cons _ _ ps _ ns _ p (cons _ _ ss _ os _ s (cons _ _ _ _ _ _ exactly (cons _ _ zs _ qs _ a nil))))) e ws w =
    let u = sum_sound xs ps ss ms ns os f p s in
    let r = around_neg n zs qs a (Comparison how e u.expr) (ws ++ compare_sign how ∷ (xs ++ (ps ++ ss))) (compared how e u.expr ws (xs ++ (ps ++ ss)) w u.spelt) in
    moved_cond r (ap (opens n) (simp (append_assoc, append-nil))) (ap (λ m. (postfix_expr e ++ m ++ node.Compare how ∷ []) ++ qs) u.nodes ∙ simp (append_assoc, append-nil))

pub opening_sound : (n : ℕ) (ts : List Token) (ns : List Node) → Means (want.Inside (n + 1) ∷ []) ts ns → Reads (want.Inside n) (Sign LeftBracket ∷ ts) ns
opening_sound n _ _ (cons _ _ xs _ ms _ r nil) =
    moved_cond r (ap (λ k. opens k xs) (add-one n) ∙ ap (λ x. opens n (Sign LeftBracket ∷ x)) (sym (append-nil xs))) (sym (append-nil ms))

pub not_sound : (n : ℕ) (ts : List Token) (ns : List Node) → Means (want.Inside 0 ∷ want.Join joint.Not ∷ want.Around n ∷ []) ts ns → Reads (want.Inside n) (Word KNOT ∷ ts) ns
not_sound n _ _ (cons _ _ xs _ ms _ r (cons _ _ _ _ _ _ exactly (cons _ _ zs _ qs _ a nil))) =
    let d = around_neg n zs qs a (Not r.cond) (Word KNOT ∷ xs) (denied r.cond xs r.spelt) in
    moved_cond d (ap (opens n) (simp append-nil)) (ap (λ m. (m ++ node.Not ∷ []) ++ qs) r.nodes ∙ simp (append_assoc, append-nil))

pub around_and_sound : (n : ℕ) (ts : List Token) (ns : List Node) → Means (want.Inside 0 ∷ want.Join joint.And ∷ want.Around (suc n) ∷ []) ts ns → Reads (want.Around (suc n)) (Word KAND ∷ ts) ns
around_and_sound n _ _ (cons _ _ xs _ ms _ r (cons _ _ _ _ _ _ exactly (cons _ _ zs _ qs _ a nil))) c ws w =
    let d = a (And c r.cond) (ws ++ Word KAND ∷ xs) (also c r.cond ws xs w r.spelt) in
    moved_cond d (ap (opens (suc n)) (simp (append_assoc, append-nil))) (ap (λ m. (postfix c ++ m ++ node.And ∷ []) ++ qs) r.nodes ∙ simp (append_assoc, append-nil))

-- neg {AND neg}
conj_sound : (xs ys : List Token) (ms ns : List Node) → ReadCond Neg xs ms → Reads want.Ands ys ns → ReadCond Conj (xs ++ ys) (ms ++ ns)
conj_sound xs ys ms ns r a =
    let d = a r.cond xs (neg r.cond xs r.spelt) in
    moved_cond d refl (ap (λ m. m ++ ns) r.nodes)

pub ands_sound : (ts : List Token) (ns : List Node) → Means (want.Inside 0 ∷ want.Join joint.And ∷ want.Ands ∷ []) ts ns → Reads want.Ands (Word KAND ∷ ts) ns
ands_sound _ _ (cons _ _ xs _ ms _ r (cons _ _ _ _ _ _ exactly (cons _ _ zs _ qs _ a nil))) c ws w =
    let d = a (And c r.cond) (ws ++ Word KAND ∷ xs) (also c r.cond ws xs w r.spelt) in
    moved_cond d (simp (append_assoc, append-nil)) (ap (λ m. (postfix c ++ m ++ node.And ∷ []) ++ qs) r.nodes ∙ simp (append_assoc, append-nil))

pub ors_sound : (ts : List Token) (ns : List Node) → Means (want.Inside 0 ∷ want.Ands ∷ want.Join joint.Or ∷ want.Ors ∷ []) ts ns → Reads want.Ors (Word KOR ∷ ts) ns
ors_sound _ _ (cons _ _ xs _ ms _ r (cons _ _ ys _ ns _ a (cons _ _ _ _ _ _ exactly (cons _ _ zs _ qs _ o nil)))) c ws w =
    let d = conj_sound xs ys ms ns r a in
    let e = o (Or c d.cond) (ws ++ Word KOR ∷ (xs ++ ys)) (either c d.cond ws (xs ++ ys) w d.spelt) in
    moved_cond e (simp (append_assoc, append-nil)) (ap (λ m. (postfix c ++ m ++ node.Or ∷ []) ++ qs) d.nodes ∙ simp (append_assoc, append-nil))

pub around_or_sound : (n : ℕ) (ts : List Token) (ns : List Node) → Means (want.Inside 0 ∷ want.Ands ∷ want.Join joint.Or ∷ want.Ors ∷ want.Closing ∷ want.Around n ∷ []) ts ns → Reads (want.Around (suc n)) (Word KOR ∷ ts) ns
around_or_sound n _ _ (cons _ _ xs _ ms _ r (cons _ _ ys _ ns _ a (cons _ _ _ _ _ _ exactly (cons _ _ zs _ qs _ o (cons _ _ _ _ _ _ exactly (cons _ _ vs _ us _ b nil)))))) c ws w =
    let d = conj_sound xs ys ms ns r a in
    let all : List Token = (ws ++ Word KOR ∷ (xs ++ ys)) ++ zs in
    let e = o (Or c d.cond) (ws ++ Word KOR ∷ (xs ++ ys)) (either c d.cond ws (xs ++ ys) (conj c ws w) d.spelt) in
    let f = around_neg n vs us b e.cond (Sign LeftBracket ∷ (all ++ Sign RightBracket ∷ [])) (nested e.cond all e.spelt) in
    moved_cond f (ap (opens n) (simp (append_assoc, append-nil)))
    (ap (λ m. m ++ us) (e.nodes ∙ ap (λ m. (postfix c ++ m ++ node.Or ∷ []) ++ qs) d.nodes) ∙ simp (append_assoc, append-nil))

pub around_closing_sound : (n : ℕ) (ts : List Token) (ns : List Node) → Means (want.Around n ∷ []) ts ns → Reads (want.Around (suc n)) (Sign RightBracket ∷ ts) ns
around_closing_sound n _ _ (cons _ _ vs _ us _ b nil) c ws w =
    let f = around_neg n vs us b c (Sign LeftBracket ∷ (ws ++ Sign RightBracket ∷ [])) (nested c ws (conj c ws w)) in
    moved_cond f (ap (opens n) (simp (append_assoc, append-nil))) (simp append-nil)
