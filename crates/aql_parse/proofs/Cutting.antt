-- The tokens of bytes, one after the other.
use Rattle.std.proofs.Common.{◌≡◌, ℕ, zero, suc, ◌+◌, ◌-◌, ◌<◌, ◌≤◌, Bool, true, false, cond, ◌&&◌, IsTrue, List, [], ◌∷◌, ◌++◌, length, drop, Option, Some, None, refl, sym, ◌∙◌, ap, arith, append_assoc, append-nil, length-append, length-drop}
use Rattle.std.proofs.lemmas.List.{drop-drop}
use Rattle.std.specs.List.{prefix_len, list_all}
use Rattle.db_model.specs.Tokens.{Tokens, is_white, token_at, token_then, no_tokens, tokens_from, tokens_of}
use Rattle.db_model.specs.declared.tokens.Token.{Token}

-- the bytes of a token are passed
passed : (bs : List ℕ) (at n : ℕ) → n ≤ length bs → tokens_from at n bs ≡ tokens_from (at + n) 0 (drop n bs)
passed bs at zero h = let e : at ≡ at + 0 = omega arith in ap (λ k. tokens_from k 0 bs) e
passed [] at (suc n) h = absurd (omega arith)
passed (b ∷ bs) at (suc n) h = let e : at + 1 + n ≡ at + suc n = omega arith in passed bs (at + 1) n (omega arith) ∙ ap (λ k. tokens_from k 0 (drop n bs)) e

-- what a place behind white space leads to
abbrev by_white : (at : ℕ) (b : ℕ) (bs : List ℕ) (w : Bool) → Tokens
by_white at b bs w = elim w [
  | true ↦ tokens_from (at + 1) 0 bs
  | false ↦ elim (token_at (b ∷ bs)) [ None ↦ no_tokens false | Some token ↦ token_then token.0 (at + token.1) (tokens_from (at + 1) (token.1 - 1) bs) ]
]

-- and a token that may be there
abbrev pub placed : (at : ℕ) (bs : List ℕ) (w : Bool) (r : Option (Token × ℕ)) → Tokens
placed at bs w r = elim w [
  | true ↦ tokens_from (at + 1) 0 bs
  | false ↦ elim r [ None ↦ no_tokens false | Some token ↦ token_then token.0 (at + token.1) (tokens_from (at + 1) (token.1 - 1) bs) ]
]

first_of_token : (at m : ℕ) (b : ℕ) (bs : List ℕ) (t : Token) (r : Option (Token × ℕ)) → r ≡ Some (t, suc m) → m ≤ length bs →
    elim r as (λ _. Tokens) [ None ↦ no_tokens false | Some token ↦ token_then token.0 (at + token.1) (tokens_from (at + 1) (token.1 - 1) bs) ] ≡ token_then t (at + suc m) (tokens_from (at + suc m) 0 (drop m bs))
first_of_token at m b bs t None e h = cc
first_of_token at m b bs t (Some r) e h =
    let same : r ≡ (t, suc m) = cc in
    let less : suc m - 1 ≡ m = omega arith in
    let far : at + 1 + m ≡ at + suc m = omega arith in
    ap (λ (x : Token × ℕ). token_then x.0 (at + x.1) (tokens_from (at + 1) (x.1 - 1) bs)) same
    ∙ ap (λ k. token_then t (at + suc m) (tokens_from (at + 1) k bs)) less
    ∙ ap (token_then t (at + suc m)) (passed bs (at + 1) m h ∙ ap (λ k. tokens_from k 0 (drop m bs)) far)

-- white space, and the token behind it
pub token_next : (bs : List ℕ) (at m : ℕ) (t : Token) → token_at (drop (prefix_len is_white bs) bs) ≡ Some (t, suc m) → prefix_len is_white bs + suc m ≤ length bs →
    tokens_from at 0 bs ≡ token_then t (at + (prefix_len is_white bs + suc m)) (tokens_from (at + (prefix_len is_white bs + suc m)) 0 (drop (prefix_len is_white bs + suc m) bs))
token_next [] at m t e within = absurd (omega arith)
token_next (b ∷ bs) at m t e within = go (is_white b) e within (λ k f h. token_next bs (at + 1) k t f h)
  where
    go : (w : Bool) → token_at (drop (cond w (1 + prefix_len is_white bs) 0) (b ∷ bs)) ≡ Some (t, suc m) → cond w (1 + prefix_len is_white bs) 0 + suc m ≤ length (b ∷ bs) →
        ((k : ℕ) → token_at (drop (prefix_len is_white bs) bs) ≡ Some (t, suc k) → prefix_len is_white bs + suc k ≤ length bs →
        tokens_from (at + 1) 0 bs ≡ token_then t (at + 1 + (prefix_len is_white bs + suc k)) (tokens_from (at + 1 + (prefix_len is_white bs + suc k)) 0 (drop (prefix_len is_white bs + suc k) bs))) →
        by_white at b bs w ≡ token_then t (at + (cond w (1 + prefix_len is_white bs) 0 + suc m)) (tokens_from (at + (cond w (1 + prefix_len is_white bs) 0 + suc m)) 0 (drop (cond w (1 + prefix_len is_white bs) 0 + suc m) (b ∷ bs)))
    go true e within next =
        let p : ℕ = prefix_len is_white bs in
        let one : 1 + p ≡ suc p = omega arith in
        let here : token_at (drop p bs) ≡ Some (t, suc m) = ap (λ k. token_at (drop k (b ∷ bs))) (sym one) ∙ e in
        let far : at + 1 + (p + suc m) ≡ at + (1 + p + suc m) = omega arith in
        let all : suc (p + suc m) ≡ 1 + p + suc m = omega arith in
        next m here (omega arith)
        ∙ ap (λ k. token_then t k (tokens_from k 0 (drop (suc (p + suc m)) (b ∷ bs)))) far
        ∙ ap (λ k. token_then t (at + (1 + p + suc m)) (tokens_from (at + (1 + p + suc m)) 0 (drop k (b ∷ bs)))) all
    go false e within next =
        let none : suc m ≡ 0 + suc m = omega arith in
        first_of_token at m b bs t (token_at (b ∷ bs)) e (omega arith) ∙ ap (λ k. token_then t (at + k) (tokens_from (at + k) 0 (drop k (b ∷ bs)))) none

-- ---- the places change no token

pub same_items : (bs : List ℕ) (at other skip : ℕ) → (tokens_from at skip bs).items ≡ (tokens_from other skip bs).items
same_items [] at other skip = refl
same_items (b ∷ bs) at other (suc skip) = same_items bs (at + 1) (other + 1) skip
same_items (b ∷ bs) at other zero = go (is_white b) (token_at (b ∷ bs)) (λ skip. same_items bs (at + 1) (other + 1) skip)
  where
    go : (w : Bool) (r : Option (Token × ℕ)) → ((skip : ℕ) → (tokens_from (at + 1) skip bs).items ≡ (tokens_from (other + 1) skip bs).items) →
        (placed at bs w r).items ≡ (placed other bs w r).items
    go true r rest = rest 0
    go false None rest = refl
    go false (Some token) rest = ap (λ ts. token.0 ∷ ts) (rest (token.1 - 1))

pub same_whole : (bs : List ℕ) (at other skip : ℕ) → (tokens_from at skip bs).whole ≡ (tokens_from other skip bs).whole
same_whole [] at other skip = refl
same_whole (b ∷ bs) at other (suc skip) = same_whole bs (at + 1) (other + 1) skip
same_whole (b ∷ bs) at other zero = go (is_white b) (token_at (b ∷ bs)) (λ skip. same_whole bs (at + 1) (other + 1) skip)
  where
    go : (w : Bool) (r : Option (Token × ℕ)) → ((skip : ℕ) → (tokens_from (at + 1) skip bs).whole ≡ (tokens_from (other + 1) skip bs).whole) →
        (placed at bs w r).whole ≡ (placed other bs w r).whole
    go true r rest = rest 0
    go false None rest = refl
    go false (Some token) rest = rest (token.1 - 1)

-- white space to the end
pub white_to_end : (bs : List ℕ) (at : ℕ) → IsTrue (list_all is_white bs) → tokens_from at 0 bs ≡ no_tokens true
white_to_end [] at h = refl
white_to_end (b ∷ bs) at h = go (is_white b) h (λ k. white_to_end bs (at + 1) k)
  where
    go : (w : Bool) → IsTrue (w && list_all is_white bs) → (IsTrue (list_all is_white bs) → tokens_from (at + 1) 0 bs ≡ no_tokens true) → by_white at b bs w ≡ no_tokens true
    go true h next = next h
    go false h next = cc

-- white space, and bytes that begin no token
pub stuck_next : (bs : List ℕ) (at : ℕ) → token_at (drop (prefix_len is_white bs) bs) ≡ None → prefix_len is_white bs < length bs → tokens_from at 0 bs ≡ no_tokens false
stuck_next [] at e within = absurd (omega arith)
stuck_next (b ∷ bs) at e within = go (is_white b) e within (λ f h. stuck_next bs (at + 1) f h)
  where
    go : (w : Bool) → token_at (drop (cond w (1 + prefix_len is_white bs) 0) (b ∷ bs)) ≡ None → cond w (1 + prefix_len is_white bs) 0 < length (b ∷ bs) →
        (token_at (drop (prefix_len is_white bs) bs) ≡ None → prefix_len is_white bs < length bs → tokens_from (at + 1) 0 bs ≡ no_tokens false) → by_white at b bs w ≡ no_tokens false
    go true e within next =
        let p : ℕ = prefix_len is_white bs in
        let one : 1 + p ≡ suc p = omega arith in
        next (ap (λ k. token_at (drop k (b ∷ bs))) (sym one) ∙ e) (omega arith)
    go false e within next = ap (λ r. elim r as (λ _. Tokens) [ None ↦ no_tokens false | Some token ↦ token_then token.0 (at + token.1) (tokens_from (at + 1) (token.1 - 1) bs) ]) e

-- ---- the loop

-- the tokens so far, and those from a place on, are all
pub record Cutting (bytes : List ℕ) (at : ℕ) (tokens : List Token) (ends : List ℕ) : Type 0 where
  pub items : (tokens_of bytes).items ≡ tokens ++ (tokens_from at 0 (drop at bytes)).items
  pub places : (tokens_of bytes).ends ≡ ends ++ (tokens_from at 0 (drop at bytes)).ends
  pub whole : (tokens_of bytes).whole ≡ (tokens_from at 0 (drop at bytes)).whole
  pub many : length tokens ≤ at
  pub same : length ends ≡ length tokens
  pub within : at ≤ length bytes

pub cutting_more : (bytes : List ℕ) (at from to : ℕ) (tokens : List Token) (ends : List ℕ) (t : Token) → Cutting bytes at tokens ends →
    from ≡ at + prefix_len is_white (drop at bytes) → token_at (drop from bytes) ≡ Some (t, to - from) → from < to → to ≤ length bytes → Cutting bytes to (tokens ++ t ∷ []) (ends ++ to ∷ [])
cutting_more bytes at from to tokens ends t c begin found more within =
    let w : ℕ = prefix_len is_white (drop at bytes) in
    let rest : List ℕ = drop at bytes in
    let m : ℕ = to - from - 1 in
    let long : length rest ≡ length bytes - at = length-drop at bytes in
    let size : to - from ≡ suc m = omega arith in
    let there : drop from bytes ≡ drop w rest = ap (λ k. drop k bytes) begin ∙ sym (drop-drop w at bytes) in
    let here : token_at (drop w rest) ≡ Some (t, suc m) = ap token_at (sym there) ∙ found ∙ ap (λ k. Some (t, k)) size in
    let next = token_next rest at m t here (omega arith) in
    let place : at + (w + suc m) ≡ to = omega (arith, c.within) in
    let behind : drop (w + suc m) rest ≡ drop to bytes = drop-drop (w + suc m) at bytes ∙ ap (λ k. drop k bytes) place in
    let all : tokens_from at 0 rest ≡ token_then t to (tokens_from to 0 (drop to bytes)) =
    next ∙ ap (λ k. token_then t k (tokens_from k 0 (drop (w + suc m) rest))) place ∙ ap (λ x. token_then t to (tokens_from to 0 x)) behind in
    record {
      items = c.items ∙ ap (λ (x : Tokens). tokens ++ x.items) all ∙ sym (append_assoc tokens (t ∷ []) (tokens_from to 0 (drop to bytes)).items);
      places = c.places ∙ ap (λ (x : Tokens). ends ++ x.ends) all ∙ sym (append_assoc ends (to ∷ []) (tokens_from to 0 (drop to bytes)).ends);
      whole = c.whole ∙ ap (λ (x : Tokens). x.whole) all;
      many = omega (arith, length-append tokens (t ∷ []), c.many);
      same = omega (arith, length-append tokens (t ∷ []), length-append ends (to ∷ []), c.same);
      within = within;
    }

-- the tokens are all
pub record AreAll (bytes : List ℕ) (tokens : List Token) (ends : List ℕ) (whole : Bool) : Type 0 where
  pub items : tokens ≡ (tokens_of bytes).items
  pub places : ends ≡ (tokens_of bytes).ends
  pub end : whole ≡ (tokens_of bytes).whole

cutting_stops : (bytes : List ℕ) (at : ℕ) (tokens : List Token) (ends : List ℕ) (whole : Bool) → Cutting bytes at tokens ends → tokens_from at 0 (drop at bytes) ≡ no_tokens whole → AreAll bytes tokens ends whole
cutting_stops bytes at tokens ends whole c e =
    record {
      items = sym (c.items ∙ ap (λ (x : Tokens). tokens ++ x.items) e ∙ append-nil tokens);
      places = sym (c.places ∙ ap (λ (x : Tokens). ends ++ x.ends) e ∙ append-nil ends);
      end = sym (c.whole ∙ ap (λ (x : Tokens). x.whole) e);
    }

pub cutting_ends : (bytes : List ℕ) (at : ℕ) (tokens : List Token) (ends : List ℕ) → Cutting bytes at tokens ends → IsTrue (list_all is_white (drop at bytes)) → AreAll bytes tokens ends true
cutting_ends bytes at tokens ends c h = cutting_stops bytes at tokens ends true c (white_to_end (drop at bytes) at h)

pub cutting_stuck : (bytes : List ℕ) (at : ℕ) (tokens : List Token) (ends : List ℕ) → Cutting bytes at tokens ends →
    token_at (drop (at + prefix_len is_white (drop at bytes)) bytes) ≡ None → at + prefix_len is_white (drop at bytes) < length bytes → AreAll bytes tokens ends false
cutting_stuck bytes at tokens ends c e h =
    let w : ℕ = prefix_len is_white (drop at bytes) in
    cutting_stops bytes at tokens ends false c (stuck_next (drop at bytes) at (ap token_at (drop-drop w at bytes) ∙ e) (omega (arith, length-drop at bytes)))
