-- Bytes that are tokens, built token by token.
use Rattle.std.proofs.Common.{◌≡◌, refl, sym, ap, subst, ◌∙◌, ℕ, ◌+◌, ◌-◌, ◌<◌, ◌≤◌, Bool, true, false, List, [], ◌∷◌, ◌++◌, length, take, get_or, append_assoc, length-append, ◌^◌, ◌%◌, arith, cond, Option, Some, None, pos, negsuc, suc}
use Rattle.std.specs.Prelude.{decimal, nat_abs, not, IsTrue, is_some, nat_le, ◌&&◌, ◌==◌, if◌then◌else◌}
use Rattle.std.specs.Option.{option_map}
use Rattle.std.specs.Char.{is_ascii_alphabetic, is_ascii_digit}
use Rattle.std.specs.List.{prefix_len, take_while, list_all, AllByRecursion}
use Rattle.std.specs.Str.Parse.{digits_value}
use Rattle.std.proofs.lemmas.Fmt.{decimal_by_steps, decimal_is_IsNumeral, length-decimal-le}
use Rattle.std.proofs.lemmas.List.Folds.{list_all-append}
use Rattle.std.proofs.lemmas.Bool.Decides.{nat_tests}
use Rattle.std.proofs.Math.Seq.{take-append_seam, get_or-append_seam}
use Rattle.db_model.specs.Keywords.{keyword_of, keywords, keyword_text}
use Rattle.db_model.specs.declared.tokens.Keyword.{Keyword}
use Rattle.db_model.specs.declared.tokens.Keyword.TheVariants.{KCREATE}
use Rattle.db_model.specs.declared.tokens.Sign.TheVariants.{LeftBracket, RightBracket, Comma, Dot, Minus}
use Rattle.db_model.specs.Names.{is_name, is_text, is_text_byte, is_word, is_word_byte}
use Rattle.db_model.specs.Tokens.{is_white, word_token, number_token, of_length, quoted_at, sign_of, token_at, tokens_from, token_then, no_tokens, Tokens}
use Rattle.db_model.specs.declared.values.Value.{Value}
use Rattle.db_model.specs.declared.values.Value.TheVariants as value
use Rattle.db_model.specs.Grammar.{ValueItem, number_value, minus_value, text_value, Listed, one, more}
use Rattle.db_model.specs.ReplyText.{value_text}
use Rattle.dump_model.specs.Script.{values_text}
use Rattle.db_model.specs.declared.tokens.Token.{Token}
use Rattle.db_model.specs.declared.tokens.Token.TheVariants.{Word, Name, Number, Quoted, Sign as Signed}

-- the bytes are these tokens to their end
pub record Lexes (bytes : List ℕ) (ts : List Token) : Type 0 where
  pub items : (at : ℕ) → (tokens_from at 0 bytes).items ≡ ts
  pub whole : (at : ℕ) → (tokens_from at 0 bytes).whole ≡ true

pub lexes-nil : Lexes [] []
lexes-nil = record { items = λ at. refl; whole = λ at. refl }

-- white space
pub lexes-space : (bytes : List ℕ) (ts : List Token) → Lexes bytes ts → Lexes (32 ∷ bytes) ts
lexes-space bytes ts h = record { items = λ at. h.items (at + 1); whole = λ at. h.whole (at + 1) }

-- bytes of a token before are passed over
skipped : (at : ℕ) (xs ys : List ℕ) → (place : ℕ) × (tokens_from at (length xs) (xs ++ ys) ≡ tokens_from place 0 ys)
skipped at [] ys = (at, refl)
skipped at (x ∷ xs) ys = skipped (at + 1) xs ys

-- a token in front
record Fronts (t : Token) (old new : Tokens) : Type 0 where
  items : new.items ≡ t ∷ old.items
  whole : new.whole ≡ old.whole

-- what is made of a byte that begins no white space, by the token there
abbrev from_token : Bool → Option (Token × ℕ) → Tokens → (Token × ℕ → Tokens) → Tokens
from_token white token rest made = elim white [ true ↦ rest | false ↦ elim token [ None ↦ no_tokens false | Some t ↦ made t ] ]

front_token : (at b : ℕ) (bs rest : List ℕ) (t : Token) → is_white b ≡ false → token_at (b ∷ (bs ++ rest)) ≡ Some (t, suc (length bs)) → (place : ℕ) × Fronts t (tokens_from place 0 rest) (tokens_from at 0 (b ∷ (bs ++ rest)))
front_token at b bs rest t white token =
    let s = skipped (at + 1) bs rest in
    let n : suc (length bs) - 1 ≡ length bs = omega arith in
    let made : Token × ℕ → Tokens = λ token. token_then token.0 (at + token.1) (tokens_from (at + 1) (token.1 - 1) (bs ++ rest)) in
    let passed : Tokens = tokens_from (at + 1) 0 (bs ++ rest) in
    let is : tokens_from at 0 (b ∷ (bs ++ rest)) ≡ token_then t (at + suc (length bs)) (tokens_from s.0 0 rest) =
    ap (λ w. from_token w (token_at (b ∷ (bs ++ rest))) passed made) white
    ∙ ap (λ found. from_token false found passed made) token
    ∙ ap (λ k. token_then t (at + suc (length bs)) (tokens_from (at + 1) k (bs ++ rest))) n
    ∙ ap (λ us. token_then t (at + suc (length bs)) us) s.1 in
    (s.0, record { items = ap (λ us. us.items) is; whole = ap (λ us. us.whole) is })

pub lexes-token : (b : ℕ) (bs rest : List ℕ) (t : Token) (ts : List Token) → is_white b ≡ false → token_at (b ∷ (bs ++ rest)) ≡ Some (t, suc (length bs)) → Lexes rest ts → Lexes (b ∷ (bs ++ rest)) (t ∷ ts)
lexes-token b bs rest t ts white token h = record {
  items = λ at. let f = front_token at b bs rest t white token in f.1.items ∙ ap (λ us. t ∷ us) (h.items f.0);
  whole = λ at. let f = front_token at b bs rest t white token in f.1.whole ∙ h.whole f.0;
}

-- ---- runs

pub false_true : false ≡ true → ⊥
false_true e = cc

-- a run that passes ends here
abbrev pub stops : (ℕ → Bool) → List ℕ → Bool
stops p [] = true
stops p (b ∷ bs) = not (p b)

prefix_whole : (p : ℕ → Bool) (xs rest : List ℕ) → IsTrue (list_all p xs) → IsTrue (stops p rest) → prefix_len p (xs ++ rest) ≡ length xs
prefix_whole p [] [] all stop = refl
prefix_whole p [] (b ∷ bs) all stop = by_test (p b) stop
  where
    by_test : (t : Bool) → IsTrue (not t) → cond t (1 + prefix_len p bs) 0 ≡ 0
    by_test true h = absurd (false_true h)
    by_test false h = refl
prefix_whole p (x ∷ xs) rest all stop = by_test (p x) all (λ h. prefix_whole p xs rest h stop)
  where
    by_test : (t : Bool) → IsTrue (t && list_all p xs) → (IsTrue (list_all p xs) → prefix_len p (xs ++ rest) ≡ length xs) → cond t (1 + prefix_len p (xs ++ rest)) 0 ≡ length (x ∷ xs)
    by_test true h ih = let e = ih h in omega (arith, e)
    by_test false h ih = absurd (false_true h)

-- the run is these bytes
take_whole : (p : ℕ → Bool) (xs rest : List ℕ) → IsTrue (list_all p xs) → IsTrue (stops p rest) → take_while p (xs ++ rest) ≡ xs
take_whole p xs rest all stop = ap (λ n. take n (xs ++ rest)) (prefix_whole p xs rest all stop) ∙ take-append_seam xs rest

pub and_left : (a b : Bool) → IsTrue (a && b) → IsTrue a
and_left true b h = refl
and_left false b h = h

pub and_right : (a b : Bool) → IsTrue (a && b) → IsTrue b
and_right true b h = h
and_right false b h = absurd (false_true h)

-- ---- words

letter_facts : (b : ℕ) → is_ascii_alphabetic b ≡ true → (is_white b ≡ false) × (is_word_byte b ≡ true)
letter_facts b h = (grind (arith, nat_tests), grind (arith, nat_tests))

-- what another byte than a letter begins
abbrev other_token : ℕ → List ℕ → Option (Token × ℕ)
other_token b bs =
    if is_ascii_digit b then of_length (prefix_len is_ascii_digit (b ∷ bs)) (number_token (take_while is_ascii_digit (b ∷ bs))) else
    if b == 39 then quoted_at bs else
    option_map (λ sign. (Signed sign.0, sign.1)) (sign_of b (get_or bs 0 0))

lexes-word : (w rest : List ℕ) (t : Token) (ts : List Token) → IsTrue (is_word w) → word_token w ≡ Some t → IsTrue (stops is_word_byte rest) → Lexes rest ts → Lexes (w ++ rest) (t ∷ ts)
lexes-word [] rest t ts word token stop h = absurd (false_true word)
lexes-word (b ∷ bs) rest t ts word token stop h =
    let letter = and_right (nat_le (length bs) 14) (is_ascii_alphabetic b) (and_left (nat_le (length bs) 14 && is_ascii_alphabetic b) (list_all is_word_byte bs) word) in
    let others = and_right (nat_le (length bs) 14 && is_ascii_alphabetic b) (list_all is_word_byte bs) word in
    let facts = letter_facts b letter in
    let all : IsTrue (list_all is_word_byte (b ∷ bs)) = rw facts.1 others in
    lexes-token b bs rest t ts facts.0
    (ap (λ l. if l then of_length (prefix_len is_word_byte (b ∷ (bs ++ rest))) (word_token (take_while is_word_byte (b ∷ (bs ++ rest)))) else other_token b (bs ++ rest)) letter
    ∙ ap (λ n. of_length n (word_token (take_while is_word_byte (b ∷ (bs ++ rest))))) (prefix_whole is_word_byte (b ∷ bs) rest all stop)
    ∙ ap (λ w. of_length (length (b ∷ bs)) (word_token w)) (take_whole is_word_byte (b ∷ bs) rest all stop)
    ∙ ap (λ t. of_length (length (b ∷ bs)) t) token)
    h

keyword_read : (k : Keyword) → (word_token (keyword_text k) ≡ Some (Word k)) × IsTrue (is_word (keyword_text k))
unfolding keyword_of keywords
keyword_read KCREATE = (refl, refl)
keyword_read _ = (refl, refl)

pub lexes-keyword : (k : Keyword) (rest : List ℕ) (ts : List Token) → IsTrue (stops is_word_byte rest) → Lexes rest ts → Lexes (keyword_text k ++ rest) (Word k ∷ ts)
lexes-keyword k rest ts stop h = lexes-word (keyword_text k) rest (Word k) ts (keyword_read k).1 (keyword_read k).0 stop h

name_token : (w : List ℕ) → IsTrue (is_name w) → word_token w ≡ Some (Name w)
name_token w h = by_keyword (keyword_of w) (and_right (is_word w) (not (is_some (keyword_of w))) h) h
  where
    by_keyword : (k : Option Keyword) → IsTrue (not (is_some k)) → IsTrue (is_name w) → elim k [ Some keyword ↦ Some (Word keyword) | None ↦ if is_name w then Some (Name w) else None ] ≡ Some (Name w)
    by_keyword None no_keyword name = ap (λ t. if t then Some (Name w) else None) name
    by_keyword (Some k) no_keyword name = absurd (false_true no_keyword)

pub lexes-name : (w rest : List ℕ) (ts : List Token) → IsTrue (is_name w) → IsTrue (stops is_word_byte rest) → Lexes rest ts → Lexes (w ++ rest) (Name w ∷ ts)
lexes-name w rest ts name stop h = lexes-word w rest (Name w) ts (and_left (is_word w) (not (is_some (keyword_of w))) name) (name_token w name) stop h

-- ---- signs

pub lexes-open : (rest : List ℕ) (ts : List Token) → Lexes rest ts → Lexes (40 ∷ rest) (Signed LeftBracket ∷ ts)
lexes-open rest ts h = lexes-token 40 [] rest (Signed LeftBracket) ts refl refl h

pub lexes-close : (rest : List ℕ) (ts : List Token) → Lexes rest ts → Lexes (41 ∷ rest) (Signed RightBracket ∷ ts)
lexes-close rest ts h = lexes-token 41 [] rest (Signed RightBracket) ts refl refl h

pub lexes-comma : (rest : List ℕ) (ts : List Token) → Lexes rest ts → Lexes (44 ∷ rest) (Signed Comma ∷ ts)
lexes-comma rest ts h = lexes-token 44 [] rest (Signed Comma) ts refl refl h

pub lexes-dot : (rest : List ℕ) (ts : List Token) → Lexes rest ts → Lexes (46 ∷ rest) (Signed Dot ∷ ts)
lexes-dot rest ts h = lexes-token 46 [] rest (Signed Dot) ts refl refl h

lexes-minus : (rest : List ℕ) (ts : List Token) → Lexes rest ts → Lexes (45 ∷ rest) (Signed Minus ∷ ts)
lexes-minus rest ts h = lexes-token 45 [] rest (Signed Minus) ts refl refl h

-- ---- numbers

digit_facts : (b : ℕ) → is_ascii_digit b ≡ true → (is_white b ≡ false) × (is_ascii_alphabetic b ≡ false)
digit_facts b h = (grind (arith, nat_tests), grind (arith, nat_tests))

-- the digits of a number
pub record Digits (n : ℕ) (ds : List ℕ) : Type 0 where
  pub some : 0 < length ds
  pub all : IsTrue (list_all is_ascii_digit ds)

digit_passes : (n : ℕ) → n < 10 → is_ascii_digit (48 + n) ≡ true
digit_passes n h = grind (arith, nat_tests)

pub digits : (n : ℕ) → n < 10 ^ 18 → Digits n (decimal n)
digits n small = decimal_by_steps Digits (λ k h. record { some = omega arith; all = rw (digit_passes k h) refl }) (λ k ds h ih. record {
  some = omega (arith, length-append ds ((48 + k % 10) ∷ []), ih.some);
  all = list_all-append is_ascii_digit ds ((48 + k % 10) ∷ []) ∙ rw (ih.all, digit_passes (k % 10) (omega arith)) refl;
}) n (omega arith)

number_read : (n : ℕ) → n < 10 ^ 18 → number_token (decimal n) ≡ Some (Number (pos n))
number_read n small =
    let value = (decimal_is_IsNumeral n (omega arith)).1 in
    let short : length (decimal n) ≤ 18 = length-decimal-le 18 n (omega arith) small (omega arith) in
    let test : nat_le (length (decimal n)) 18 ≡ true = grind (arith, nat_tests) in
    ap (λ t. if t then Some (Number (pos (digits_value 10 (decimal n)))) else None) test ∙ ap (λ v. Some (Number (pos v))) value

lexes-digits : (ds rest : List ℕ) (t : Token) (ts : List Token) → 0 < length ds → IsTrue (list_all is_ascii_digit ds) → number_token ds ≡ Some t → IsTrue (stops is_ascii_digit rest) → Lexes rest ts → Lexes (ds ++ rest) (t ∷ ts)
lexes-digits [] rest t ts some all token stop h = absurd (omega (arith, some))
lexes-digits (b ∷ bs) rest t ts some all token stop h =
    let digit = and_left (is_ascii_digit b) (list_all is_ascii_digit bs) all in
    let facts = digit_facts b digit in
    lexes-token b bs rest t ts facts.0
    (ap (λ l. if l then of_length (prefix_len is_word_byte (b ∷ (bs ++ rest))) (word_token (take_while is_word_byte (b ∷ (bs ++ rest)))) else other_token b (bs ++ rest)) facts.1
    ∙ ap (λ d. if d then of_length (prefix_len is_ascii_digit (b ∷ (bs ++ rest))) (number_token (take_while is_ascii_digit (b ∷ (bs ++ rest)))) else (if b == 39 then quoted_at (bs ++ rest) else option_map (λ sign. (Signed sign.0, sign.1)) (sign_of b (get_or (bs ++ rest) 0 0)))) digit
    ∙ ap (λ n. of_length n (number_token (take_while is_ascii_digit (b ∷ (bs ++ rest))))) (prefix_whole is_ascii_digit (b ∷ bs) rest all stop)
    ∙ ap (λ w. of_length (length (b ∷ bs)) (number_token w)) (take_whole is_ascii_digit (b ∷ bs) rest all stop)
    ∙ ap (λ t. of_length (length (b ∷ bs)) t) token)
    h

pub lexes-number : (n : ℕ) (rest : List ℕ) (ts : List Token) → n < 10 ^ 18 → IsTrue (stops is_ascii_digit rest) → Lexes rest ts → Lexes (decimal n ++ rest) (Number (pos n) ∷ ts)
lexes-number n rest ts small stop h = let d = digits n small in lexes-digits (decimal n) rest (Number (pos n)) ts d.some d.all (number_read n small) stop h

-- ---- texts

-- what stands in quotes
abbrev quoted_by : List ℕ → ℕ → Option (Token × ℕ)
quoted_by bytes n = if is_text (take n bytes) && (get_or bytes n 0 == 39) then Some (Quoted (take n bytes), n + 2) else None

quote_read : (bytes rest : List ℕ) → IsTrue (is_text bytes) → quoted_at (bytes ++ (39 ∷ rest)) ≡ Some (Quoted bytes, suc (length (bytes ++ 39 ∷ [])))
quote_read bytes rest text =
    let all = and_right (nat_le (length bytes) 32) (list_all is_text_byte bytes) text in
    let here = bytes ++ (39 ∷ rest) in
    let front : take (length bytes) here ≡ bytes = take-append_seam bytes (39 ∷ rest) in
    let behind : get_or here (length bytes) 0 ≡ 39 = get_or-append_seam bytes 39 rest 0 in
    let n : length bytes + 2 ≡ suc (length (bytes ++ 39 ∷ [])) = let e = length-append bytes (39 ∷ []) in omega (arith, e) in
    ap (quoted_by here) (prefix_whole is_text_byte bytes (39 ∷ rest) all refl)
    ∙ ap (λ bs. if is_text bs && (get_or here (length bytes) 0 == 39) then Some (Quoted bs, length bytes + 2) else None) front
    ∙ ap (λ b. if is_text bytes && (b == 39) then Some (Quoted bytes, length bytes + 2) else None) behind
    ∙ ap (λ t. if t && (39 == 39) then Some (Quoted bytes, length bytes + 2) else None) text
    ∙ ap (λ k. Some (Quoted bytes, k)) n

pub lexes-quoted : (bytes rest : List ℕ) (ts : List Token) → IsTrue (is_text bytes) → Lexes rest ts → Lexes (39 ∷ (bytes ++ (39 ∷ rest))) (Quoted bytes ∷ ts)
lexes-quoted bytes rest ts text h =
    let same = append_assoc bytes (39 ∷ []) rest in
    subst (λ bs. Lexes (39 ∷ bs) (Quoted bytes ∷ ts)) same (lexes-token 39 (bytes ++ 39 ∷ []) rest (Quoted bytes) ts refl (ap quoted_at same ∙ quote_read bytes rest text) h)

-- ---- values

-- a number of at most 18 digits, or a text
abbrev pub IsPrintedValue : Value → Type 0
IsPrintedValue (value.Number z) = nat_abs z < 10 ^ 18
IsPrintedValue (value.Text bytes) = IsTrue (is_text bytes)

-- the text of a value, and what is behind it
pub record ReadsItem (v : Value) : Type 0 where
  pub tokens : List Token
  pub item : ValueItem v tokens
  pub lexes : (rest : List ℕ) (ts : List Token) → IsTrue (stops is_ascii_digit rest) → Lexes rest ts → Lexes (value_text v ++ rest) (tokens ++ ts)

pub reads_value : (v : Value) → IsPrintedValue v → ReadsItem v
reads_value (value.Number (pos n)) small = record {
  tokens = Number (pos n) ∷ [];
  item = number_value (pos n);
  lexes = λ rest ts stop h. lexes-number n rest ts small stop h;
}
reads_value (value.Number (negsuc n)) small = record {
  tokens = Signed Minus ∷ Number (pos (suc n)) ∷ [];
  item = minus_value (pos (suc n));
  lexes = λ rest ts stop h. lexes-minus (decimal (suc n) ++ rest) (Number (pos (suc n)) ∷ ts) (lexes-number (suc n) rest ts small stop h);
}
reads_value (value.Text bytes) text = record {
  tokens = Quoted bytes ∷ [];
  item = text_value bytes;
  lexes = λ rest ts stop h. subst (λ bs. Lexes (39 ∷ bs) (Quoted bytes ∷ ts)) (sym (append_assoc bytes (39 ∷ []) rest)) (lexes-quoted bytes rest ts text h);
}

pub record ReadsValues (values : List Value) : Type 0 where
  pub tokens : List Token
  pub listed : Listed ValueItem values tokens
  pub lexes : (rest : List ℕ) (ts : List Token) → IsTrue (stops is_ascii_digit rest) → Lexes rest ts → Lexes (values_text values ++ rest) (tokens ++ ts)

pub reads_values : (v : Value) (values : List Value) → IsPrintedValue v → AllByRecursion IsPrintedValue values → ReadsValues (v ∷ values)
reads_values v [] printed all =
    let only = reads_value v printed in
    record { tokens = only.tokens; listed = one v only.tokens only.item; lexes = only.lexes }
reads_values v (w ∷ values) printed all =
    let first = reads_value v printed in
    let others = reads_values w values all.0 all.1 in
    record {
      tokens = first.tokens ++ Signed Comma ∷ others.tokens;
      listed = more v (w ∷ values) first.tokens others.tokens first.item others.listed;
      lexes = λ rest ts stop h.
          subst
          (λ us. Lexes us ((first.tokens ++ Signed Comma ∷ others.tokens) ++ ts))
          (sym (append_assoc (value_text v) (44 ∷ 32 ∷ values_text (w ∷ values)) rest))
          (subst
          (λ us. Lexes (value_text v ++ (44 ∷ 32 ∷ (values_text (w ∷ values) ++ rest))) us)
          (sym (append_assoc first.tokens (Signed Comma ∷ others.tokens) ts))
          (first.lexes (44 ∷ 32 ∷ (values_text (w ∷ values) ++ rest)) (Signed Comma ∷ (others.tokens ++ ts)) refl (lexes-comma (32 ∷ (values_text (w ∷ values) ++ rest)) (others.tokens ++ ts) (lexes-space (values_text (w ∷ values) ++ rest) (others.tokens ++ ts) (others.lexes rest ts stop h)))));
    }
