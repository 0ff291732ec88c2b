-- Bytes that are no INSERT: what stands there where reading one gives up.
use Rattle.std.proofs.Common.{◌≡◌, ℕ, suc, ◌+◌, ◌≤◌, nat_eq, nat_le, pos, Bool, true, false, cond, ◌&&◌, List, [], ◌∷◌, ◌++◌, length, take, drop, get_or, Option, Some, None, refl, sym, ◌∙◌, ap, subst, append_assoc, length-append, arith}
use Rattle.std.specs.Prelude.{IfNone, IsFalse}
use Rattle.std.proofs.lemmas.Bool.Decides.{nat_tests}
use Rattle.std.specs.Char.{is_ascii_alphabetic, is_ascii_digit}
use Rattle.std.specs.List.{prefix_len}
use Rattle.std.specs.Option.{option_map}
use Rattle.std.specs.Str.Parse.{digits_value}
use Rattle.aql_lex.specs.Lexed.{is_literal}
use Rattle.db_model.specs.Grammar.{minus, Listed, one, more, ListOf, ValueItem, number_value, minus_value, text_value, Spells, insert}
use Rattle.db_model.specs.Keywords.{keyword_of}
use Rattle.db_model.specs.Names.{is_name, is_text, is_text_byte, is_word_byte}
use Rattle.db_model.specs.Spelling.{IsSpelt}
use Rattle.db_model.specs.Tokens.{is_white, token_at, tokens_from, tokens_of, word_at, number_at, quoted_at, sign_at, sign_of, of_length}
use Rattle.db_model.specs.declared.commands.Command.TheVariants as command
use Rattle.db_model.specs.declared.tokens.Keyword.{Keyword}
use Rattle.db_model.specs.declared.tokens.Keyword.TheVariants.{KINTO}
use Rattle.db_model.specs.declared.tokens.Sign.{Sign as Mark}
use Rattle.db_model.specs.declared.tokens.Sign.TheVariants.{LeftBracket, RightBracket, Comma, Dot, Plus, Minus, Star, Slash, Equal, Unequal, Less, LessEqual, Greater, GreaterEqual}
use Rattle.db_model.specs.declared.tokens.Token.{Token}
use Rattle.db_model.specs.declared.tokens.Token.TheVariants.{Word, Name, Number, Quoted, Sign}
use Rattle.db_model.specs.declared.values.Value.{Value}
use Rattle.aql_parse.specs.Inserts.{AreTokens, AreInFront, AreNotInFront, HasNoNumber, HasNoValue, HasNoLiteral, HasNoList, HasNoRelation, IsNoInsert, KeepsList, into, negated, opening}
use Rattle.aql_parse.proofs.Cutting.{placed}

-- ---- the first token

-- a token is behind so many bytes
abbrev IsThereBehind : (bs : List ℕ) (skip : ℕ) (t : Token) → Type 0
IsThereBehind bs skip t = (size : ℕ) × (token_at (drop skip bs) ≡ Some (t, size))

token_behind : (bs : List ℕ) (at : ℕ) (t : Token) (rest : List Token) → (tokens_from at 0 bs).items ≡ t ∷ rest → IsThereBehind bs (prefix_len is_white bs) t
token_behind [] at t rest e = cc
token_behind (b ∷ bs) at t rest e = go (is_white b) (token_at (b ∷ bs)) refl e (λ f. token_behind bs (at + 1) t rest f)
  where
    go : (w : Bool) (r : Option (Token × ℕ)) → token_at (b ∷ bs) ≡ r → (placed at bs w r).items ≡ t ∷ rest →
        ((tokens_from (at + 1) 0 bs).items ≡ t ∷ rest → IsThereBehind bs (prefix_len is_white bs) t) → IsThereBehind (b ∷ bs) (cond w (1 + prefix_len is_white bs) 0) t
    go true r f e next =
        let there = next e in
        let one_more : 1 + prefix_len is_white bs ≡ suc (prefix_len is_white bs) = omega arith in
        (there.0, ap (λ k. token_at (drop k (b ∷ bs))) one_more ∙ there.1)
    go false None f e next = cc
    go false (Some r) f e next =
        let same : r.0 ≡ t = cc in
        (r.1, f ∙ ap (λ x. Some (x, r.1)) same)

-- the first token of the bytes is the one in front of what is left behind white space
pub first_token : (bs front : List ℕ) (t : Token) (rest : List Token) → front ≡ drop (prefix_len is_white bs) bs → AreTokens bs (t ∷ rest) → (size : ℕ) × (token_at front ≡ Some (t, size))
first_token bs front t rest e a = let there = token_behind bs 0 t rest a.items in (there.0, ap token_at e ∙ there.1)

pub no_token : (bs front : List ℕ) (t : Token) (others : List Token) → front ≡ drop (prefix_len is_white bs) bs → ((size : ℕ) → token_at front ≡ Some (t, size) → ⊥) → AreNotInFront (t ∷ others) bs
no_token bs front t others e none rest a = let there = first_token bs front t (others ++ rest) e a in none there.0 there.1

-- ---- a sign

abbrev pub byte_of : Mark → ℕ
byte_of LeftBracket = 40
byte_of RightBracket = 41
byte_of Comma = 44
byte_of Dot = 46
byte_of Plus = 43
byte_of Minus = 45
byte_of Star = 42
byte_of Slash = 47
byte_of Equal = 61
byte_of Unequal = 60
byte_of Less = 60
byte_of LessEqual = 60
byte_of Greater = 62
byte_of GreaterEqual = 62

abbrev first_of : Mark → Option (Mark × ℕ) → Mark
first_of s None = s
first_of s (Some r) = r.0

same_sign : (s t : Mark) (m n b : ℕ) → ◌≡◌ {A = Option (Mark × ℕ)} (Some (t, m)) (Some (s, n)) → b ≡ byte_of t → b ≡ byte_of s
same_sign s t m n b e f = f ∙ ap (λ r. byte_of (first_of s r)) e

first_byte : (b k : ℕ) → nat_eq b k ≡ true → b ≡ k
first_byte b k h = grind (arith, nat_tests)

sign_byte : (b next n : ℕ) (s : Mark) → sign_of b next ≡ Some (s, n) → b ≡ byte_of s
sign_byte b next n s e =
    go (nat_eq b 40) (nat_eq b 41) (nat_eq b 44) (nat_eq b 46) (nat_eq b 43) (nat_eq b 45) (nat_eq b 42) (nat_eq b 47) (nat_eq b 61) (nat_eq b 60) (nat_eq b 62) (nat_eq next 61) (nat_eq next 62)
    (first_byte b 40) (first_byte b 41) (first_byte b 44) (first_byte b 46) (first_byte b 43) (first_byte b 45) (first_byte b 42) (first_byte b 47) (first_byte b 61) (first_byte b 60) (first_byte b 62) e
  where
    go : (x0 x1 x4 x6 x3 x5 x2 x7 y1 y0 y2 z1 z2 : Bool) → (x0 ≡ true → b ≡ 40) → (x1 ≡ true → b ≡ 41) → (x4 ≡ true → b ≡ 44) → (x6 ≡ true → b ≡ 46) → (x3 ≡ true → b ≡ 43) → (x5 ≡ true → b ≡ 45) →
        (x2 ≡ true → b ≡ 42) → (x7 ≡ true → b ≡ 47) → (y1 ≡ true → b ≡ 61) → (y0 ≡ true → b ≡ 60) → (y2 ≡ true → b ≡ 62) →
        cond {A = Option (Mark × ℕ)} x0 (Some (LeftBracket, 1)) (cond x1 (Some (RightBracket, 1)) (cond x4 (Some (Comma, 1)) (cond x6 (Some (Dot, 1)) (cond x3 (Some (Plus, 1)) (cond x5 (Some (Minus, 1))
        (cond x2 (Some (Star, 1)) (cond x7 (Some (Slash, 1)) (cond y1 (Some (Equal, 1)) (cond y0 (cond z1 (Some (LessEqual, 2)) (cond z2 (Some (Unequal, 2)) (Some (Less, 1))))
        (cond y2 (cond z1 (Some (GreaterEqual, 2)) (Some (Greater, 1))) None)))))))))) ≡ Some (s, n) → b ≡ byte_of s
    go true x1 x4 x6 x3 x5 x2 x7 y1 y0 y2 z1 z2 hx0 hx1 hx4 hx6 hx3 hx5 hx2 hx7 hy1 hy0 hy2 e = same_sign s LeftBracket 1 n b e (hx0 refl)
    go false true x4 x6 x3 x5 x2 x7 y1 y0 y2 z1 z2 hx0 hx1 hx4 hx6 hx3 hx5 hx2 hx7 hy1 hy0 hy2 e = same_sign s RightBracket 1 n b e (hx1 refl)
    go false false true x6 x3 x5 x2 x7 y1 y0 y2 z1 z2 hx0 hx1 hx4 hx6 hx3 hx5 hx2 hx7 hy1 hy0 hy2 e = same_sign s Comma 1 n b e (hx4 refl)
    go false false false true x3 x5 x2 x7 y1 y0 y2 z1 z2 hx0 hx1 hx4 hx6 hx3 hx5 hx2 hx7 hy1 hy0 hy2 e = same_sign s Dot 1 n b e (hx6 refl)
    go false false false false true x5 x2 x7 y1 y0 y2 z1 z2 hx0 hx1 hx4 hx6 hx3 hx5 hx2 hx7 hy1 hy0 hy2 e = same_sign s Plus 1 n b e (hx3 refl)
    go false false false false false true x2 x7 y1 y0 y2 z1 z2 hx0 hx1 hx4 hx6 hx3 hx5 hx2 hx7 hy1 hy0 hy2 e = same_sign s Minus 1 n b e (hx5 refl)
    go false false false false false false true x7 y1 y0 y2 z1 z2 hx0 hx1 hx4 hx6 hx3 hx5 hx2 hx7 hy1 hy0 hy2 e = same_sign s Star 1 n b e (hx2 refl)
    go false false false false false false false true y1 y0 y2 z1 z2 hx0 hx1 hx4 hx6 hx3 hx5 hx2 hx7 hy1 hy0 hy2 e = same_sign s Slash 1 n b e (hx7 refl)
    go false false false false false false false false true y0 y2 z1 z2 hx0 hx1 hx4 hx6 hx3 hx5 hx2 hx7 hy1 hy0 hy2 e = same_sign s Equal 1 n b e (hy1 refl)
    go false false false false false false false false false true y2 true z2 hx0 hx1 hx4 hx6 hx3 hx5 hx2 hx7 hy1 hy0 hy2 e = same_sign s LessEqual 2 n b e (hy0 refl)
    go false false false false false false false false false true y2 false true hx0 hx1 hx4 hx6 hx3 hx5 hx2 hx7 hy1 hy0 hy2 e = same_sign s Unequal 2 n b e (hy0 refl)
    go false false false false false false false false false true y2 false false hx0 hx1 hx4 hx6 hx3 hx5 hx2 hx7 hy1 hy0 hy2 e = same_sign s Less 1 n b e (hy0 refl)
    go false false false false false false false false false false true true z2 hx0 hx1 hx4 hx6 hx3 hx5 hx2 hx7 hy1 hy0 hy2 e = same_sign s GreaterEqual 2 n b e (hy2 refl)
    go false false false false false false false false false false true false z2 hx0 hx1 hx4 hx6 hx3 hx5 hx2 hx7 hy1 hy0 hy2 e = same_sign s Greater 1 n b e (hy2 refl)
    go false false false false false false false false false false false z1 z2 hx0 hx1 hx4 hx6 hx3 hx5 hx2 hx7 hy1 hy0 hy2 e = cc

abbrev is_sign_token : Option (Token × ℕ) → Bool
is_sign_token None = false
is_sign_token (Some (Word k, n)) = false
is_sign_token (Some (Name w, n)) = false
is_sign_token (Some (Number z, n)) = false
is_sign_token (Some (Quoted w, n)) = false
is_sign_token (Some (Sign s, n)) = true

no_number : (t : Bool) (z m n : ℕ) (s : Mark) → of_length m (cond t (Some (Number (pos z))) None) ≡ Some (Sign s, n) → ⊥
no_number true z m n s e = let f : false ≡ true = ap is_sign_token e in cc
no_number false z m n s e = let f : false ≡ true = ap is_sign_token e in cc

no_text : (t : Bool) (w : List ℕ) (m n : ℕ) (s : Mark) → cond {A = Option (Token × ℕ)} t (Some (Quoted w, m)) None ≡ Some (Sign s, n) → ⊥
no_text true w m n s e = let f : false ≡ true = ap is_sign_token e in cc
no_text false w m n s e = let f : false ≡ true = ap is_sign_token e in cc

no_word : (r : Option Keyword) (t : Bool) (w : List ℕ) (m n : ℕ) (s : Mark) →
    of_length m (elim r as (λ _. Option Token) [ Some keyword ↦ Some (Word keyword) | None ↦ cond t (Some (Name w)) None ]) ≡ Some (Sign s, n) → ⊥
no_word (Some k) t w m n s e = let f : false ≡ true = ap is_sign_token e in cc
no_word None true w m n s e = let f : false ≡ true = ap is_sign_token e in cc
no_word None false w m n s e = let f : false ≡ true = ap is_sign_token e in cc

abbrev sign_of_token : Option (Token × ℕ) → Option (Mark × ℕ)
sign_of_token None = None
sign_of_token (Some (Word k, n)) = None
sign_of_token (Some (Name w, n)) = None
sign_of_token (Some (Number z, n)) = None
sign_of_token (Some (Quoted w, n)) = None
sign_of_token (Some (Sign s, n)) = Some (s, n)

mapped_sign : (r : Option (Mark × ℕ)) (s : Mark) (n : ℕ) → option_map {U = Token × ℕ} (λ (x : Mark × ℕ). (Sign x.0, x.1)) r ≡ Some (Sign s, n) → r ≡ Some (s, n)
mapped_sign None s n e = cc
mapped_sign (Some (t, m)) s n e = ap sign_of_token e

-- a sign begins with its byte
sign_begins : (b : ℕ) (bs : List ℕ) (s : Mark) (n : ℕ) → token_at (b ∷ bs) ≡ Some (Sign s, n) → b ≡ byte_of s
sign_begins b bs s n e = go (is_ascii_alphabetic b) (is_ascii_digit b) (nat_eq b 39) e
  where
    go : (a d q : Bool) → cond a (word_at (b ∷ bs)) (cond d (number_at (b ∷ bs)) (cond q (quoted_at bs) (sign_at b bs))) ≡ Some (Sign s, n) → b ≡ byte_of s
    go true d q e =
        let w : List ℕ = take (prefix_len is_word_byte (b ∷ bs)) (b ∷ bs) in
        absurd (no_word (keyword_of w) (is_name w) w (prefix_len is_word_byte (b ∷ bs)) n s e)
    go false true q e =
        let digits : List ℕ = take (prefix_len is_ascii_digit (b ∷ bs)) (b ∷ bs) in
        absurd (no_number (nat_le (length digits) 18) (digits_value 10 digits) (prefix_len is_ascii_digit (b ∷ bs)) n s e)
    go false false true e =
        let m : ℕ = prefix_len is_text_byte bs in
        absurd (no_text (is_text (take m bs) && nat_eq (get_or bs m 0) 39) (take m bs) (m + 2) n s e)
    go false false false e = sign_byte b (get_or bs 0 0) n s (mapped_sign (sign_of b (get_or bs 0 0)) s n e)

sign_not_there : (front : List ℕ) (s : Mark) (n : ℕ) → ((behind : List ℕ) → front ≡ byte_of s ∷ behind → ⊥) → token_at front ≡ Some (Sign s, n) → ⊥
sign_not_there [] s n none e = cc
sign_not_there (b ∷ bs) s n none e = none bs (ap (λ x. x ∷ bs) (sign_begins b bs s n e))

-- where its byte is not in front, a sign is not
pub no_sign : (bs front : List ℕ) (s : Mark) (others : List Token) → front ≡ drop (prefix_len is_white bs) bs → ((behind : List ℕ) → front ≡ byte_of s ∷ behind → ⊥) → AreNotInFront (Sign s ∷ others) bs
no_sign bs front s others e none = no_token bs front (Sign s) others e (λ n. sign_not_there front s n none)

-- ---- behind what is in front

cancel : (xs ys zs : List Token) → xs ++ ys ≡ xs ++ zs → ys ≡ zs
cancel [] ys zs e = e
cancel (x ∷ xs) ys zs e = cancel xs ys zs (cc)

pub after : (xs rest : List Token) (bs behind : List ℕ) → AreInFront xs bs behind → AreTokens bs (xs ++ rest) → AreTokens behind rest
after xs rest bs behind f a = record { items = sym (cancel xs rest (tokens_of behind).items (sym a.items ∙ f.items)); whole = sym f.whole ∙ a.whole }

-- ---- a value

pub no_literal : (bs front : List ℕ) → front ≡ drop (prefix_len is_white bs) bs → ((t : Token) (n : ℕ) → token_at front ≡ Some (t, n) → IsFalse (is_literal t)) → HasNoLiteral bs
no_literal bs front e none t is rest a =
    let there = first_token bs front t rest e a in
    let is_none = none t there.0 there.1 in
    cc

pub no_value : (bs front : List ℕ) → front ≡ drop (prefix_len is_white bs) bs → ((behind : List ℕ) → front ≡ 45 ∷ behind → ⊥) → HasNoLiteral bs → HasNoValue bs
no_value bs front e sign none _ _ (number_value z) rest a = none (Number z) (refl) rest a
no_value bs front e sign none _ _ (minus_value z) rest a = no_sign bs front Minus (Number z ∷ []) e sign rest a
no_value bs front e sign none _ _ (text_value bytes) rest a = none (Quoted bytes) (refl) rest a

-- after None, what follows from what None says
pub after_none : {A : Type 0} (r : Option A) (P Q : Type 0) → (P → Q) → IfNone r P → IfNone r Q
after_none None P Q f p = f p
after_none (Some x) P Q f p = p

pub no_negative : (bs behind : List ℕ) → AreInFront (Sign Minus ∷ []) bs behind → HasNoNumber behind → HasNoValue bs
no_negative bs behind f none _ _ (number_value z) rest a = let both = sym a.items ∙ f.items in cc
no_negative bs behind f none _ _ (minus_value z) rest a = none z rest (after (Sign Minus ∷ []) (Number z ∷ rest) bs behind f a)
no_negative bs behind f none _ _ (text_value bytes) rest a = let both = sym a.items ∙ f.items in cc

pub no_number_there : (bs front : List ℕ) → front ≡ drop (prefix_len is_white bs) bs → ((t : Token) (n : ℕ) → token_at front ≡ Some (t, n) → IsFalse (is_literal t)) → HasNoNumber bs
no_number_there bs front e none z = no_literal bs front e none (Number z) (refl)

abbrev token_in : Token → Option (Token × ℕ) → Token
token_in t None = t
token_in t (Some r) = r.0

pub other_literal : (bs front : List ℕ) (t : Token) (n : ℕ) → front ≡ drop (prefix_len is_white bs) bs → token_at front ≡ Some (t, n) → negated t ≡ None → HasNoNumber bs
other_literal bs front t n e found none z rest a =
    let there = first_token bs front (Number z) rest e a in
    let same : t ≡ Number z = ap (token_in t) (sym found ∙ there.1) in
    let negative : Some (Number (minus z)) ≡ None = ap negated (sym same) ∙ none in
    cc

-- what is behind a value is the same, however the value is taken
item_fits : (a b : Value) (xs ys r s : List Token) → ValueItem a xs → ValueItem b ys → xs ++ r ≡ ys ++ s → r ≡ s
item_fits _ _ _ _ r s (number_value y) (number_value z) e = cc
item_fits _ _ _ _ r s (number_value y) (minus_value z) e = cc
item_fits _ _ _ _ r s (number_value y) (text_value z) e = cc
item_fits _ _ _ _ r s (minus_value y) (number_value z) e = cc
item_fits _ _ _ _ r s (minus_value y) (minus_value z) e = cc
item_fits _ _ _ _ r s (minus_value y) (text_value z) e = cc
item_fits _ _ _ _ r s (text_value y) (number_value z) e = cc
item_fits _ _ _ _ r s (text_value y) (minus_value z) e = cc
item_fits _ _ _ _ r s (text_value y) (text_value z) e = cc

-- ---- the list

-- other values are left of a list
pub record OthersAreLeft (left : List ℕ) (kept : List Token) (values : List Value) (rest : List Token) : Type 0 where
  pub others : List Value
  pub tokens : List Token
  pub listed : Listed ValueItem others tokens
  pub are : AreTokens left (tokens ++ Sign RightBracket ∷ rest)
  pub long : length values ≡ length kept + length others

-- of each list of values in front, those that are not kept are left
abbrev pub IsRead : (bs left : List ℕ) (kept : List Token) → Type 0
IsRead bs left kept = (values : List Value) (tokens rest : List Token) → Listed ValueItem values tokens → AreTokens bs (tokens ++ Sign RightBracket ∷ rest) → OthersAreLeft left kept values rest

pub read_begins : (bs : List ℕ) (kept : List Token) → kept ≡ [] → IsRead bs bs kept
read_begins bs kept e values tokens rest l a = record { others = values; tokens = tokens; listed = l; are = a; long = omega (arith, ap length e) }

-- what is left behind a value, however it is taken
behind_item : (v a : Value) (xs us rest : List Token) (left mid : List ℕ) → ValueItem v xs → AreInFront xs left mid → ValueItem a us → AreTokens left (us ++ rest) → AreTokens mid rest
behind_item v a xs us rest left mid i f j t = record {
  items = sym (item_fits a v us xs rest (tokens_of mid).items j i (sym t.items ∙ f.items));
  whole = sym f.whole ∙ t.whole;
}

flat : (us ys rest : List Token) → (us ++ Sign Comma ∷ ys) ++ Sign RightBracket ∷ rest ≡ us ++ (Sign Comma ∷ (ys ++ Sign RightBracket ∷ rest))
flat us ys rest = append_assoc us (Sign Comma ∷ ys) (Sign RightBracket ∷ rest)

pub read_more : (bs left mid next : List ℕ) (kept new : List Token) (t : Token) (v : Value) (xs : List Token) → IsRead bs left kept → new ≡ kept ++ t ∷ [] →
    ValueItem v xs → AreInFront xs left mid → AreInFront (Sign Comma ∷ []) mid next → IsRead bs next new
read_more bs left mid next kept new t v xs read e i f comma values tokens rest l a =
    let o = read values tokens rest l a in
    go o.others o.tokens o.listed o.are o.long
  where
    go : (others : List Value) (ts : List Token) → Listed ValueItem others ts → AreTokens left (ts ++ Sign RightBracket ∷ rest) → length values ≡ length kept + length others → OthersAreLeft next new values rest
    go _ _ (one b us j) are long =
        let last = behind_item v b xs us (Sign RightBracket ∷ rest) left mid i f j are in
        let both : Sign RightBracket ∷ rest ≡ Sign Comma ∷ (tokens_of next).items = sym last.items ∙ comma.items in
        cc
    go _ _ (more b bs_ us ys j m) are long =
        let joined = subst (AreTokens left) (flat us ys rest) are in
        let behind = behind_item v b xs us (Sign Comma ∷ (ys ++ Sign RightBracket ∷ rest)) left mid i f j joined in
        record {
          others = bs_;
          tokens = ys;
          listed = m;
          are = after (Sign Comma ∷ []) (ys ++ Sign RightBracket ∷ rest) mid next comma behind;
          long = omega (arith, long, ap length e, length-append kept (t ∷ []));
        }

some_listed : (values : List Value) (ts : List Token) → Listed ValueItem values ts → 1 ≤ length values
some_listed _ _ (one a ts i) = omega arith
some_listed _ _ (more a as_ xs ys i l) = omega arith

-- where no list goes on, none is in front
no_list_from : (bs left : List ℕ) (kept : List Token) → IsRead bs left kept →
    ((others : List Value) (ts rest : List Token) → length kept + length others ≤ 8 → Listed ValueItem others ts → AreTokens left (ts ++ Sign RightBracket ∷ rest) → ⊥) → HasNoList bs
no_list_from bs left kept read none values tokens l rest a =
    let o = read values tokens rest l.listed (subst (AreTokens bs) (append_assoc tokens (Sign RightBracket ∷ []) rest) a) in
    none o.others o.tokens rest (omega (arith, o.long, l.few)) o.listed o.are

pub no_list_full : (bs left : List ℕ) (kept : List Token) → IsRead bs left kept → length kept ≡ 8 → HasNoList bs
no_list_full bs left kept read full = no_list_from bs left kept read (λ others ts rest few l a. let some = some_listed others ts l in absurd (omega (arith, few, full, some)))

pub no_list_value : (bs left : List ℕ) (kept : List Token) → IsRead bs left kept → HasNoValue left → HasNoList bs
no_list_value bs left kept read none = no_list_from bs left kept read go
  where
    go : (others : List Value) (ts rest : List Token) → length kept + length others ≤ 8 → Listed ValueItem others ts → AreTokens left (ts ++ Sign RightBracket ∷ rest) → ⊥
    go _ _ rest few (one b us j) a = none b us j (Sign RightBracket ∷ rest) a
    go _ _ rest few (more b bs_ us ys j m) a = none b us j (Sign Comma ∷ (ys ++ Sign RightBracket ∷ rest)) (subst (AreTokens left) (flat us ys rest) a)

pub no_list_sign : (bs left mid front : List ℕ) (kept : List Token) (v : Value) (xs : List Token) → IsRead bs left kept → ValueItem v xs → AreInFront xs left mid → front ≡ drop (prefix_len is_white mid) mid →
    ((behind : List ℕ) → front ≡ 41 ∷ behind → ⊥) → ((behind : List ℕ) → front ≡ 44 ∷ behind → ⊥) → HasNoList bs
no_list_sign bs left mid front kept v xs read i f e bracket comma = no_list_from bs left kept read go
  where
    go : (others : List Value) (ts rest : List Token) → length kept + length others ≤ 8 → Listed ValueItem others ts → AreTokens left (ts ++ Sign RightBracket ∷ rest) → ⊥
    go _ _ rest few (one b us j) a = no_sign mid front RightBracket [] e bracket rest (behind_item v b xs us (Sign RightBracket ∷ rest) left mid i f j a)
    go _ _ rest few (more b bs_ us ys j m) a =
        let joined = subst (AreTokens left) (flat us ys rest) a in
        no_sign mid front Comma [] e comma (ys ++ Sign RightBracket ∷ rest) (behind_item v b xs us (Sign Comma ∷ (ys ++ Sign RightBracket ∷ rest)) left mid i f j joined)

-- what is behind a list is the same, however the list is taken
list_fits : (as_ bs : List Value) (xs ys r s : List Token) → Listed ValueItem as_ xs → Listed ValueItem bs ys → xs ++ Sign RightBracket ∷ r ≡ ys ++ Sign RightBracket ∷ s → r ≡ s
list_fits _ _ _ _ r s (one a xs i) (one b ys j) e = let f = item_fits a b xs ys (Sign RightBracket ∷ r) (Sign RightBracket ∷ s) i j e in cc
list_fits _ _ _ _ r s (one a xs i) (more b bs_ us vs j m) e = let f = item_fits a b xs us (Sign RightBracket ∷ r) (Sign Comma ∷ (vs ++ Sign RightBracket ∷ s)) i j (e ∙ flat us vs s) in cc
list_fits _ _ _ _ r s (more a as_ xs ys i l) (one b us j) e = let f = item_fits a b xs us (Sign Comma ∷ (ys ++ Sign RightBracket ∷ r)) (Sign RightBracket ∷ s) i j (sym (flat xs ys r) ∙ e) in cc
list_fits _ _ _ _ r s (more a as_ xs ys i l) (more b bs_ us vs j m) e =
    let f = item_fits a b xs us (Sign Comma ∷ (ys ++ Sign RightBracket ∷ r)) (Sign Comma ∷ (vs ++ Sign RightBracket ∷ s)) i j (sym (flat xs ys r) ∙ e ∙ flat us vs s) in
    list_fits as_ bs_ ys vs r s l m (cc)

-- ---- the command

record IsOfList (values : List Value) (relation : List ℕ) (ts : List Token) : Type 0 where
  tokens : List Token
  list : ListOf ValueItem values tokens
  are : ts ≡ opening ++ (tokens ++ Sign RightBracket ∷ into relation)

of_list : (values : List Value) (relation : List ℕ) (ts : List Token) → Spells (command.Insert values relation) ts → IsOfList values relation ts
of_list _ _ _ (insert values relation ts l) = record { tokens = ts; list = l; are = refl }

spelt_tokens : (values : List Value) (relation : List ℕ) (bs : List ℕ) (is : IsSpelt (command.Insert values relation) bs) → AreTokens bs (opening ++ ((of_list values relation (tokens_of bs).items is.spelling).tokens ++ Sign RightBracket ∷ into relation))
spelt_tokens values relation bs is = record { items = (of_list values relation (tokens_of bs).items is.spelling).are; whole = is.whole }

pub no_opening : (bs : List ℕ) → AreNotInFront opening bs → IsNoInsert bs
no_opening bs none values relation is = let l = of_list values relation (tokens_of bs).items is.spelling in none (l.tokens ++ Sign RightBracket ∷ into relation) (spelt_tokens values relation bs is)

pub no_values : (bs list : List ℕ) → AreInFront opening bs list → HasNoList list → IsNoInsert bs
no_values bs list f none values relation is =
    let l = of_list values relation (tokens_of bs).items is.spelling in
    let behind = after opening (l.tokens ++ Sign RightBracket ∷ into relation) bs list f (spelt_tokens values relation bs is) in
    none values l.tokens l.list (into relation) (subst (AreTokens list) (sym (append_assoc l.tokens (Sign RightBracket ∷ []) (into relation))) behind)

pub no_relation : (bs list end : List ℕ) (kept : List Token) → AreInFront opening bs list → KeepsList kept list end → HasNoRelation end → IsNoInsert bs
no_relation bs list end kept f k none values relation is =
    let l = of_list values relation (tokens_of bs).items is.spelling in
    let behind = after opening (l.tokens ++ Sign RightBracket ∷ into relation) bs list f (spelt_tokens values relation bs is) in
    let front = k.front.items ∙ append_assoc k.tokens (Sign RightBracket ∷ []) (tokens_of end).items in
    let same = list_fits values k.values l.tokens k.tokens (into relation) (tokens_of end).items l.list.listed k.listed (sym behind.items ∙ front) in
    none relation (record { items = sym same; whole = sym k.front.whole ∙ behind.whole })

-- nothing may come behind the relation
ends_white : (bs : List ℕ) (at : ℕ) → (tokens_from at 0 bs).items ≡ [] → (tokens_from at 0 bs).whole ≡ true → drop (prefix_len is_white bs) bs ≡ []
ends_white [] at e f = refl
ends_white (b ∷ bs) at e f = go (is_white b) (token_at (b ∷ bs)) e f (ends_white bs (at + 1))
  where
    go : (w : Bool) (r : Option (Token × ℕ)) → (placed at bs w r).items ≡ [] → (placed at bs w r).whole ≡ true →
        ((tokens_from (at + 1) 0 bs).items ≡ [] → (tokens_from (at + 1) 0 bs).whole ≡ true → drop (prefix_len is_white bs) bs ≡ []) → drop (cond w (1 + prefix_len is_white bs) 0) (b ∷ bs) ≡ []
    go true r e f next =
        let one_more : 1 + prefix_len is_white bs ≡ suc (prefix_len is_white bs) = omega arith in
        ap (λ k. drop k (b ∷ bs)) one_more ∙ next e f
    go false None e f next = cc
    go false (Some r) e f next = cc

no_end : (bs front : List ℕ) → front ≡ drop (prefix_len is_white bs) bs → (length front ≡ 0 → ⊥) → AreTokens bs [] → ⊥
no_end bs front e none a = none (ap length (e ∙ ends_white bs 0 a.items a.whole))

pub more_behind : (bs mid end front : List ℕ) (name : List ℕ) → AreInFront (Word KINTO ∷ []) bs mid → AreInFront (Name name ∷ []) mid end → front ≡ drop (prefix_len is_white end) end → (length front ≡ 0 → ⊥) → HasNoRelation bs
more_behind bs mid end front name f g e some relation a =
    let named = after (Word KINTO ∷ []) (Name relation ∷ []) bs mid f a in
    let both : Name name ∷ (tokens_of end).items ≡ Name relation ∷ [] = sym g.items ∙ named.items in
    let none : (tokens_of end).items ≡ [] = cc in
    no_end end front e some (record { items = none; whole = sym g.whole ∙ named.whole })
