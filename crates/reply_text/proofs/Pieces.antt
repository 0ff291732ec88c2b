-- Laws of texts that are written piece by piece.
use Rattle.std.proofs.Common.{◌≡◌, ℕ, ◌+◌, ◌-◌, ◌<◌, ◌≤◌, List, [], ◌∷◌, ◌++◌, length, get_or, take, drop, map, flat_map, refl, ap, sym, subst, ◌∙◌, append_assoc, arith, length-append, length-take-le, Option, Some, None}
use Rattle.std.proofs.lemmas.Grind.{flat_map-append}
use Rattle.std.proofs.lemmas.List.{append-nil, length-map, map-append, map_more, take-append-drop, take_all, take_rest}
use Rattle.std.proofs.lemmas.List.Concat.{flat_map-cons}
use Rattle.std.proofs.Math.Seq.{take-add}
use Rattle.std.specs.Io.KnownBytes.{append_known}
use Rattle.std.specs.List.{join_with_byte}
use Rattle.db_model.specs.ReplyText.{line}
use Rattle.reply_text.specs.Commas.{comma_before}
use Rattle.reply_text.specs.WroteLess.{WroteLess}

-- two pieces, one behind the other
pub append_known-twice : (held : Option (List ℕ)) (xs ys : List ℕ) → append_known (append_known held xs) ys ≡ append_known held (xs ++ ys)
append_known-twice None xs ys = refl
append_known-twice (Some bytes) xs ys = ap (λ t. Some t) (append_assoc bytes xs ys)

-- no bytes more
pub append_known-nil : (held : Option (List ℕ)) → append_known held [] ≡ held
append_known-nil None = refl
append_known-nil (Some bytes) = ap (λ t. Some t) (append-nil bytes)

-- one piece more was written
pub held_more : (h0 h1 h2 : Option (List ℕ)) (front piece all : List ℕ) → h1 ≡ append_known h0 front → h2 ≡ append_known h1 piece → all ≡ front ++ piece → h2 ≡ append_known h0 all
held_more h0 h1 h2 front piece all e f g =
    f ∙ ap (λ h. append_known h piece) e ∙ append_known-twice h0 front piece ∙ ap (λ bytes. append_known h0 bytes) (sym g)

-- what was written so far, and one more piece of the bytes
pub take_piece : (xs : List ℕ) (d n : ℕ) → d ≤ length xs → take d xs ++ take n (take (length xs - d) (drop d xs)) ≡ take (d + n) xs
take_piece xs d n h =
    ap (λ ys. take d xs ++ take n ys) (take_rest xs d) ∙ sym (take-add d n xs)

-- a first piece was not wholly written
pub less_front : (h0 h1 : Option (List ℕ)) (piece rest : List ℕ) → WroteLess h0 h1 piece → WroteLess h0 h1 (piece ++ rest)
less_front h0 h1 piece rest w = record {
  written = w.written;
  left = w.left ++ rest;
  some = omega (arith, w.some, length-append w.left rest);
  whole = ap (λ p. p ++ rest) w.whole ∙ append_assoc w.written w.left rest;
  held = w.held;
}

-- a first piece was written, and the second not wholly
pub less_behind : (h0 h1 h2 : Option (List ℕ)) (front piece : List ℕ) → h1 ≡ append_known h0 front → WroteLess h1 h2 piece → WroteLess h0 h2 (front ++ piece)
less_behind h0 h1 h2 front piece e w = record {
  written = front ++ w.written;
  left = w.left;
  some = w.some;
  whole = ap (λ p. front ++ p) w.whole ∙ sym (append_assoc front w.written w.left);
  held = w.held ∙ ap (λ h. append_known h w.written) e ∙ append_known-twice h0 front w.written;
}

-- two pieces were written, and the third not wholly
pub less_third : (h0 h1 h2 h3 : Option (List ℕ)) (a b c : List ℕ) → h1 ≡ append_known h0 a → h2 ≡ append_known h1 b → WroteLess h2 h3 c → WroteLess h0 h3 (a ++ b ++ c)
less_third h0 h1 h2 h3 a b c e f w =
    less_behind h0 h2 h3 (a ++ b) c (held_more h0 h1 h2 a b (a ++ b) e f refl) w

-- ---- items with commas between them

-- the texts of the items, with a comma between each two
abbrev pub joined : {A : Type 0} → (A → List ℕ) → List A → List ℕ
joined text xs = join_with_byte 44 (map text xs)

-- the texts, with a comma before each
abbrev behind : List (List ℕ) → List ℕ
behind ts = flat_map (λ t. 44 ∷ t) ts

joined_first : (t : List ℕ) (ts : List (List ℕ)) → join_with_byte 44 (t ∷ ts) ≡ t ++ behind ts
joined_first t [] = sym (append-nil t)
joined_first t (u ∷ us) = ap (λ r. t ++ (44 ∷ r)) (joined_first u us) ∙ ap (λ r. t ++ r) (sym (flat_map-cons (λ v. 44 ∷ v) u us))

-- what texts add behind others
abbrev rest_of : List (List ℕ) → List (List ℕ) → List ℕ
rest_of [] us = join_with_byte 44 us
rest_of (t ∷ ts) us = behind us

joined_rest : (ts us : List (List ℕ)) → join_with_byte 44 (ts ++ us) ≡ join_with_byte 44 ts ++ rest_of ts us
joined_rest [] us = refl
joined_rest (t ∷ ts) us =
    joined_first t (ts ++ us) ∙ ap (λ r. t ++ r) (flat_map-append (λ v. 44 ∷ v) ts us) ∙ sym (append_assoc t (behind ts) (behind us)) ∙ ap (λ r. r ++ behind us) (sym (joined_first t ts))

rest_of_one : (ts : List (List ℕ)) (t : List ℕ) → rest_of ts (t ∷ []) ≡ comma_before (length ts) ++ t
rest_of_one [] t = refl
rest_of_one (u ∷ us) t = flat_map-cons (λ v. 44 ∷ v) t [] ∙ append-nil (44 ∷ t)

-- one item more
pub joined_more : {A : Type 0} (text : A → List ℕ) (xs : List A) (i : ℕ) (d : A) → i < length xs → joined text (take (i + 1) xs) ≡ joined text (take i xs) ++ (comma_before i ++ text (get_or xs i d))
joined_more text xs i d h =
    let front = map text (take i xs) in
    let item = text (get_or xs i d) in
    let many : length front ≡ i = length-map (take i xs) text ∙ length-take-le i xs (omega (arith, h)) in
    ap (λ ts. join_with_byte 44 ts) (map_more text xs i d h) ∙ joined_rest front (item ∷ []) ∙ ap (λ r. join_with_byte 44 front ++ r) (rest_of_one front item) ∙ ap (λ n. join_with_byte 44 front ++ (comma_before n ++ item)) many

joined_all : {A : Type 0} (text : A → List ℕ) (xs : List A) (i : ℕ) → joined text xs ≡ joined text (take i xs) ++ rest_of (map text (take i xs)) (map text (drop i xs))
joined_all text xs i =
    ap (λ ys. joined text ys) (sym (take-append-drop i xs)) ∙ ap (λ ts. join_with_byte 44 ts) (map-append text (take i xs) (drop i xs)) ∙ joined_rest (map text (take i xs)) (map text (drop i xs))

-- an item of a line was not wholly written
pub less_item : {A : Type 0} (text : A → List ℕ) (xs : List A) (i : ℕ) (d : A) (h0 h1 h2 : Option (List ℕ)) → i < length xs → h1 ≡ append_known h0 (joined text (take i xs)) → WroteLess h1 h2 (comma_before i ++ text (get_or xs i d)) → WroteLess h0 h2 (line (joined text xs))
less_item text xs i d h0 h1 h2 h e w =
    let front = joined text (take i xs) in
    let item = comma_before i ++ text (get_or xs i d) in
    let rest = rest_of (map text (take (i + 1) xs)) (map text (drop (i + 1) xs)) in
    let whole : line (joined text xs) ≡ (front ++ item) ++ line rest = ap line (joined_all text xs (i + 1)) ∙ ap (λ f. line (f ++ rest)) (joined_more text xs i d h) ∙ append_assoc (front ++ item) rest (10 ∷ []) in
    subst (λ all. WroteLess h0 h2 all) (sym whole) (less_front h0 h2 (front ++ item) (line rest) (less_behind h0 h1 h2 front item e w))

-- the end of a line was written, or not
pub held_line : {A : Type 0} (text : A → List ℕ) (xs : List A) (i : ℕ) (h0 h1 h2 : Option (List ℕ)) → length xs ≤ i → h1 ≡ append_known h0 (joined text (take i xs)) → h2 ≡ append_known h1 (10 ∷ []) → h2 ≡ append_known h0 (line (joined text xs))
held_line text xs i h0 h1 h2 h e f = held_more h0 h1 h2 (joined text (take i xs)) (10 ∷ []) (line (joined text xs)) e f (ap (λ ys. line (joined text ys)) (sym (take_all i xs h)))

pub less_line : {A : Type 0} (text : A → List ℕ) (xs : List A) (i : ℕ) (h0 h1 h2 : Option (List ℕ)) → length xs ≤ i → h1 ≡ append_known h0 (joined text (take i xs)) → WroteLess h1 h2 (10 ∷ []) → WroteLess h0 h2 (line (joined text xs))
less_line text xs i h0 h1 h2 h e w =
    less_behind h0 h1 h2 (joined text xs) (10 ∷ []) (e ∙ ap (λ ys. append_known h0 (joined text ys)) (take_all i xs h)) w
