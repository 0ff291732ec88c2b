-- What is in front of some bytes, and an INSERT that is read so.
use Rattle.std.proofs.Common.{◌≡◌, ℕ, suc, ◌+◌, ◌-◌, ◌<◌, ◌≤◌, false, IsTrue, List, [], ◌∷◌, ◌++◌, length, drop, map, Some, None, nat_le, refl, sym, ◌∙◌, ap, subst, append_assoc, length-append, length-drop, arith, if◌then◌else◌}
use Rattle.std.proofs.lemmas.List.{drop-drop, length-map, map-append}
use Rattle.std.proofs.lemmas.List.Sums.{prefix_len-le-length}
use Rattle.std.specs.List.{prefix_len}
use Rattle.std.specs.Option.{option_map}
use Rattle.aql_lex.proofs.Fronts.{all_pass}
use Rattle.aql_lex.specs.Lexed.{is_literal}
use Rattle.db_model.specs.Grammar.{minus, Listed, one, more, ValueItem, number_value, minus_value, text_value, Spells, insert}
use Rattle.db_model.specs.Spelling.{IsSpelt}
use Rattle.db_model.specs.Tokens.{Tokens, is_white, token_at, tokens_of}
use Rattle.db_model.specs.declared.commands.Command.{Command}
use Rattle.db_model.specs.declared.commands.Command.TheVariants as command
use Rattle.db_model.specs.declared.tokens.Keyword.TheVariants.{KINSERT, KINTO}
use Rattle.db_model.specs.declared.tokens.Sign.TheVariants.{LeftBracket, RightBracket, Comma, Minus}
use Rattle.db_model.specs.declared.tokens.Sign.{Sign as Mark}
use Rattle.db_model.specs.declared.tokens.Token.{Token}
use Rattle.db_model.specs.declared.tokens.Token.TheVariants.{Word, Name, Number, Quoted, Sign}
use Rattle.db_model.specs.declared.values.Value.{Value}
use Rattle.db_model.specs.declared.values.Value.TheVariants as value
use Rattle.aql_parse.specs.Built.{at_most_8, built_insert, values_in}
use Rattle.aql_parse.specs.Inserts.{value_token, AreTokens, AreInFront, KeepsValue, KeepsNegative, KeepsList, KeepsInsert, negated}
use Rattle.aql_parse.proofs.Collecting.{within}
use Rattle.aql_parse.proofs.Cutting.{token_next, white_to_end, same_items, same_whole}

-- ---- one token

-- a token behind white space
pub token_in_front : (bs front behind : List ℕ) (t : Token) (n : ℕ) → front ≡ drop (prefix_len is_white bs) bs → token_at front ≡ Some (t, n) → 0 < n → n ≤ length front → behind ≡ drop n front →
    AreInFront (t ∷ []) bs behind
token_in_front bs front behind t n e found some fits left =
    let w : ℕ = prefix_len is_white bs in
    let m : ℕ = n - 1 in
    let size : n ≡ suc m = omega arith in
    let white = prefix_len-le-length is_white bs in
    let long : length front ≡ length bs - w = ap length e ∙ length-drop w bs in
    let here : token_at (drop w bs) ≡ Some (t, suc m) = ap token_at (sym e) ∙ found ∙ ap (λ k. Some (t, k)) size in
    let fits_there : w + suc m ≤ length bs = omega (arith, size, white, long, fits) in
    let place : w + n ≡ w + suc m = omega (arith, size) in
    let same : behind ≡ drop (w + suc m) bs = left ∙ ap (drop n) e ∙ drop-drop n w bs ∙ ap (λ k. drop k bs) place in
    let cut = token_next bs 0 m t here fits_there in
    record {
      items = ap (λ (x : Tokens). x.items) cut ∙ ap (λ ts. t ∷ ts) (same_items (drop (w + suc m) bs) (0 + (w + suc m)) 0 0 ∙ ap (λ x. (tokens_of x).items) (sym same));
      whole = ap (λ (x : Tokens). x.whole) cut ∙ same_whole (drop (w + suc m) bs) (0 + (w + suc m)) 0 0 ∙ ap (λ x. (tokens_of x).whole) (sym same);
      shorter = omega (arith, ap length left, length-drop n front, long, white, some, fits);
    }

pub sign_in_front : (bs front behind : List ℕ) (b : ℕ) (s : Mark) → front ≡ drop (prefix_len is_white bs) bs → front ≡ b ∷ behind → token_at (b ∷ behind) ≡ Some (Sign s, 1) → AreInFront (Sign s ∷ []) bs behind
sign_in_front bs front behind b s e f found =
    let long : length front ≡ suc (length behind) = ap length f in
    token_in_front bs front behind (Sign s) 1 e (ap token_at f ∙ found) (omega arith) (omega (arith, long)) (sym (ap (drop 1) f))

-- tokens in front of others
pub both_in_front : (xs ys : List Token) (bs mid behind : List ℕ) → AreInFront xs bs mid → AreInFront ys mid behind → AreInFront (xs ++ ys) bs behind
both_in_front xs ys bs mid behind a b =
    record {
      items = a.items ∙ ap (λ ts. xs ++ ts) b.items ∙ sym (append_assoc xs ys (tokens_of behind).items);
      whole = a.whole ∙ b.whole;
      shorter = omega (arith, a.shorter, b.shorter);
    }

pub all_in_front : (xs rest : List Token) (bs behind : List ℕ) → AreInFront xs bs behind → AreTokens behind rest → AreTokens bs (xs ++ rest)
all_in_front xs rest bs behind a b = record { items = a.items ∙ ap (λ ts. xs ++ ts) b.items; whole = a.whole ∙ b.whole }

-- only white space
pub nothing_left : (bs front : List ℕ) → front ≡ drop (prefix_len is_white bs) bs → length front ≡ 0 → AreTokens bs []
nothing_left bs front e none =
    let white = all_pass is_white bs (omega (arith, ap length e, length-drop (prefix_len is_white bs) bs, none)) in
    record {
      items = ap (λ (x : Tokens). x.items) (white_to_end bs 0 white);
      whole = ap (λ (x : Tokens). x.whole) (white_to_end bs 0 white);
    }

-- ---- a value

record IsLiteral (t : Token) : Type 0 where
  value : Value
  kept : t ≡ value_token value
  item : ValueItem value (t ∷ [])

literal_value : (t : Token) → IsTrue (is_literal t) → IsLiteral t
literal_value (Number z) h = record { value = value.Number z; kept = refl; item = number_value z }
literal_value (Quoted bytes) h = record { value = value.Text bytes; kept = refl; item = text_value bytes }
literal_value (Word k) h = cc
literal_value (Name n) h = cc
literal_value (Sign s) h = cc

pub keeps_literal : (old new : List Token) (bs behind : List ℕ) (t : Token) → IsTrue (is_literal t) → new ≡ old ++ t ∷ [] → AreInFront (t ∷ []) bs behind → KeepsValue old new bs behind
keeps_literal old new bs behind t h k f =
    let l = literal_value t h in
    record {
      value = l.value;
      kept = k ∙ ap (λ x. old ++ x ∷ []) l.kept;
      front = record { tokens = t ∷ []; item = l.item; front = f };
    }

pub keeps_negative : (old new : List Token) (bs behind : List ℕ) (t n : Token) → negated t ≡ Some n → new ≡ old ++ n ∷ [] → AreInFront (t ∷ []) bs behind → KeepsNegative old new bs behind
keeps_negative old new bs behind (Number z) n e k f =
    let same : n ≡ Number (minus z) = cc in
    record { number = z; kept = k ∙ ap (λ x. old ++ x ∷ []) same; front = f }
keeps_negative old new bs behind (Word w) n e k f = cc
keeps_negative old new bs behind (Name w) n e k f = cc
keeps_negative old new bs behind (Quoted w) n e k f = cc
keeps_negative old new bs behind (Sign w) n e k f = cc

pub keeps_minus : (old new : List Token) (bs mid behind : List ℕ) → AreInFront (Sign Minus ∷ []) bs mid → KeepsNegative old new mid behind → KeepsValue old new bs behind
keeps_minus old new bs mid behind f n =
    record {
      value = value.Number (minus n.number);
      kept = n.kept;
      front = record { tokens = Sign Minus ∷ Number n.number ∷ []; item = minus_value n.number; front = both_in_front (Sign Minus ∷ []) (Number n.number ∷ []) bs mid behind f n.front };
    }

-- ---- the list

-- a list and its closing bracket
record IsListInFront (values : List Value) (bs behind : List ℕ) : Type 0 where
  tokens : List Token
  listed : Listed ValueItem values tokens
  front : AreInFront (tokens ++ Sign RightBracket ∷ []) bs behind

-- values are kept, and with each list that is left they are one
pub record Listing (bs : List ℕ) (left : List ℕ) (kept : List Token) : Type 0 where
  values : List Value
  kept_are : kept ≡ map value_token values
  few : length values ≤ 8
  goes_on : (others : List Value) (behind : List ℕ) → IsListInFront others left behind → IsListInFront (values ++ others) bs behind

pub listing_begins : (bs : List ℕ) (kept : List Token) → kept ≡ [] → Listing bs bs kept
listing_begins bs kept e = record { values = []; kept_are = e; few = omega arith; goes_on = λ (others : List Value) (behind : List ℕ) (l : IsListInFront others bs behind). l }

pub listing_room : (bs left : List ℕ) (kept : List Token) → Listing bs left kept → length kept ≤ 8
listing_room bs left kept s = omega (arith, ap length s.kept_are, length-map s.values value_token, s.few)

one_more : (kept new : List Token) (values : List Value) (v : Value) → kept ≡ map value_token values → new ≡ kept ++ value_token v ∷ [] → new ≡ map value_token (values ++ v ∷ [])
one_more kept new values v e f = f ∙ ap (λ x. x ++ value_token v ∷ []) e ∙ sym (map-append value_token values (v ∷ []))

few_more : (kept : List Token) (values : List Value) (v : Value) → kept ≡ map value_token values → length values ≤ 8 → (length kept ≡ 8 → ⊥) → length (values ++ v ∷ []) ≤ 8
few_more kept values v e few room =
    let same : length kept ≡ length values = ap length e ∙ length-map values value_token in
    omega (arith, length-append values (v ∷ []), few, same, room)

pub listing_more : (bs left mid behind : List ℕ) (kept new : List Token) → Listing bs left kept → (length kept ≡ 8 → ⊥) → KeepsValue kept new left mid → AreInFront (Sign Comma ∷ []) mid behind → Listing bs behind new
listing_more bs left mid next kept new s room k comma =
    let v = k.value in
    let xs = k.front.tokens in
    record {
      values = s.values ++ v ∷ [];
      kept_are = one_more kept new s.values v s.kept_are k.kept;
      few = few_more kept s.values v s.kept_are s.few room;
      goes_on = λ (others : List Value) (behind : List ℕ) (l : IsListInFront others next behind).
          let two : AreInFront (Sign Comma ∷ (l.tokens ++ Sign RightBracket ∷ [])) mid behind = both_in_front (Sign Comma ∷ []) (l.tokens ++ Sign RightBracket ∷ []) mid next behind comma l.front in
          let all : AreInFront (xs ++ Sign Comma ∷ (l.tokens ++ Sign RightBracket ∷ [])) left behind = both_in_front xs (Sign Comma ∷ (l.tokens ++ Sign RightBracket ∷ [])) left mid behind k.front.front two in
          let joined : AreInFront ((xs ++ Sign Comma ∷ l.tokens) ++ Sign RightBracket ∷ []) left behind = subst (λ ts. AreInFront ts left behind) (sym (append_assoc xs (Sign Comma ∷ l.tokens) (Sign RightBracket ∷ []))) all in
          let list : IsListInFront (v ∷ others) left behind = record { tokens = xs ++ Sign Comma ∷ l.tokens; listed = more v others xs l.tokens k.front.item l.listed; front = joined } in
          subst (λ vs. IsListInFront vs bs behind) (sym (append_assoc s.values (v ∷ []) others)) (s.goes_on (v ∷ others) behind list);
    }

pub listing_ends : (bs left mid behind : List ℕ) (kept new : List Token) → Listing bs left kept → (length kept ≡ 8 → ⊥) → KeepsValue kept new left mid → AreInFront (Sign RightBracket ∷ []) mid behind → KeepsList new bs behind
listing_ends bs left mid behind kept new s room k bracket =
    let v = k.value in
    let xs = k.front.tokens in
    let last : IsListInFront (v ∷ []) left behind = record { tokens = xs; listed = one v xs k.front.item; front = both_in_front xs (Sign RightBracket ∷ []) left mid behind k.front.front bracket } in
    let all = s.goes_on (v ∷ []) behind last in
    record {
      values = s.values ++ v ∷ [];
      kept_are = one_more kept new s.values v s.kept_are k.kept;
      few = few_more kept s.values v s.kept_are s.few room;
      tokens = all.tokens;
      listed = all.listed;
      front = all.front;
    }

-- ---- the command

pub keeps_insert : (bs list into : List ℕ) (kept : List Token) (r : List ℕ) → AreInFront (Word KINSERT ∷ Sign LeftBracket ∷ []) bs list → KeepsList kept list into → AreTokens into (Word KINTO ∷ Name r ∷ []) → KeepsInsert kept r bs
keeps_insert bs list into kept r opening k relation =
    let end : List Token = Word KINTO ∷ Name r ∷ [] in
    let inner : AreTokens list ((k.tokens ++ Sign RightBracket ∷ []) ++ end) = all_in_front (k.tokens ++ Sign RightBracket ∷ []) end list into k.front relation in
    let flat : AreTokens list (k.tokens ++ Sign RightBracket ∷ end) = subst (AreTokens list) (append_assoc k.tokens (Sign RightBracket ∷ []) end) inner in
    let all = all_in_front (Word KINSERT ∷ Sign LeftBracket ∷ []) (k.tokens ++ Sign RightBracket ∷ end) bs list opening flat in
    record {
      values = k.values;
      kept_are = k.kept_are;
      few = k.few;
      spelt = record {
        whole = all.whole;
        spelling = subst (Spells (command.Insert k.values r)) (sym all.items) (insert k.values r k.tokens (record { listed = k.listed; few = k.few }));
      };
    }

-- the values that are kept
values_kept : (vs : List Value) → values_in false (map value_token vs) ≡ vs
values_kept [] = refl
values_kept (value.Number z ∷ vs) = ap (λ x. value.Number z ∷ x) (values_kept vs)
values_kept (value.Text bytes ∷ vs) = ap (λ x. value.Text bytes ∷ x) (values_kept vs)

-- the INSERT that is made of them
pub insert_made : (bs r : List ℕ) (kept : List Token) (k : KeepsInsert kept r bs) → built_insert kept r ≡ Some (command.Insert k.values r)
insert_made bs r kept k =
    let vs = k.values in
    ap (λ ts. option_map (λ values. command.Insert values r) (at_most_8 (values_in false ts))) k.kept_are
    ∙ ap (λ xs. option_map (λ values. command.Insert values r) (at_most_8 xs)) (values_kept vs)
    ∙ ap (λ b. option_map (λ values. command.Insert values r) (if b then Some vs else None)) (within vs (nat_le (length vs) 8) refl k.few)

pub is_never_lost : (bs r : List ℕ) (kept : List Token) → KeepsInsert kept r bs → None ≡ built_insert kept r → ⊥
is_never_lost bs r kept k e =
    let made_is : None ≡ Some (command.Insert k.values r) = e ∙ insert_made bs r kept k in
    cc

pub is_made : (bs r : List ℕ) (kept : List Token) (c : Command) → KeepsInsert kept r bs → Some c ≡ built_insert kept r → IsSpelt c bs
is_made bs r kept c k e =
    let made_is : Some c ≡ Some (command.Insert k.values r) = e ∙ insert_made bs r kept k in
    let same : c ≡ command.Insert k.values r = cc in
    subst (λ (x : Command). IsSpelt x bs) (sym same) k.spelt
