-- A keyword at the front of some bytes, in any letter case.
use Rattle.std.proofs.Common.{◌≡◌, ℕ, ◌+◌, ◌<◌, ◌≤◌, ◌&&◌, zero, suc, nat_eq, ◌⊎◌, Bool, true, false, cond, IsTrue, List, [], ◌∷◌, length, take, get_or, map, Option, Some, None, refl, sym, ◌∙◌, ap, subst, arith, pos, nat_le, ⊎_elim, length-take-le}
use Rattle.std.specs.Char.{is_ascii_alphabetic, is_ascii_digit, is_ascii_uppercase, to_ascii_lowercase}
use Rattle.std.specs.List.{prefix_len, list_all}
use Rattle.std.specs.Str.{str_eq_ignore_ascii_case, str_to_ascii_lowercase, bytes_eq}
use Rattle.std.proofs.lemmas.Bool.{cases_lt}
use Rattle.std.proofs.lemmas.Bool.Decides.{nat_tests}
use Rattle.std.proofs.lemmas.List.{get_or_past, length-map}
use Rattle.std.proofs.lemmas.List.Sums.{prefix_len-le-length, prefix_len_stops}
use Rattle.std.proofs.lemmas.Slice.Eq.{bytes_eq-Decides}
use Rattle.std.specs.Option.{option_map}
use Rattle.std.specs.Str.Parse.{digits_value}
use Rattle.db_model.specs.Keywords.{keyword_among, keyword_of, keyword_text, keywords}
use Rattle.db_model.specs.Names.{is_name, is_text, is_text_byte, is_word_byte}
use Rattle.db_model.specs.Tokens.{token_at, word_at, number_at, quoted_at, sign_at, sign_of, of_length, word_token}
use Rattle.db_model.specs.declared.tokens.Keyword.{Keyword}
use Rattle.db_model.specs.declared.tokens.Keyword.TheVariants.{KCREATE, KRELATION, KATTRIBUTE, KINDEX, KDOMAIN, KINT, KLONG, KSTRING, KIN, KTYPE, KINLINE, KMAXHEAP, KMEMHASH, KINSERT, KINTO, KSELECT, KFROM, KWHERE, KJOIN, KON, KPROJECT, KREMOVE, KPACK, KOPEN, KFETCH, KCLOSE, KAND, KOR, KNOT, KCOUNT, KSUM, KMIN, KMAX, KMEAN, KMEDIAN}
use Rattle.db_model.specs.declared.tokens.Token.{Token}
use Rattle.db_model.specs.declared.tokens.Token.TheVariants.{Word, Name, Number, Quoted, Sign}
use Rattle.db_model.specs.declared.tokens.Sign.{Sign as Mark}

-- ---- letters in any case

letter : (t b : ℕ) → is_ascii_alphabetic t ≡ true → to_ascii_lowercase b ≡ to_ascii_lowercase t → is_ascii_alphabetic b ≡ true
letter t b h e = grind (arith, nat_tests)

word_letter : (b : ℕ) → is_ascii_alphabetic b ≡ true → is_word_byte b ≡ true
word_letter b h = grind (arith, nat_tests)

both : (a b : Bool) → IsTrue (a && b) → (a ≡ true) × IsTrue b
both true b h = (refl, h)
both false b h = cc

-- bytes that are letters in any case, and no word byte behind them, are a run of as many
run : (ts bs : List ℕ) → IsTrue (list_all is_ascii_alphabetic ts) → map to_ascii_lowercase (take (length ts) bs) ≡ map to_ascii_lowercase ts →
    is_word_byte (get_or bs (length ts) 0) ≡ false → prefix_len is_word_byte bs ≡ length ts
run [] [] h e f = refl
run [] (b ∷ bs) h e f = ap (λ t. cond t (1 + prefix_len is_word_byte bs) 0) f
run (t ∷ ts) [] h e f = cc
run (t ∷ ts) (b ∷ bs) h e f =
    let parts = both (is_ascii_alphabetic t) (list_all is_ascii_alphabetic ts) h in
    let head : to_ascii_lowercase b ≡ to_ascii_lowercase t = cc in
    let tail : map to_ascii_lowercase (take (length ts) bs) ≡ map to_ascii_lowercase ts = cc in
    let word = word_letter b (letter t b parts.0 head) in
    let rest = run ts bs parts.1 tail f in
    ap (λ x. cond x (1 + prefix_len is_word_byte bs) 0) word ∙ omega (arith, rest)

-- a letter in front begins a word
begins : (ts bs : List ℕ) → IsTrue (list_all is_ascii_alphabetic ts) → 1 ≤ length ts → map to_ascii_lowercase (take (length ts) bs) ≡ map to_ascii_lowercase ts → token_at bs ≡ word_at bs
begins [] bs h some e = absurd (omega arith)
begins (t ∷ ts) [] h some e = cc
begins (t ∷ ts) (b ∷ bs) h some e =
    let parts = both (is_ascii_alphabetic t) (list_all is_ascii_alphabetic ts) h in
    let head : to_ascii_lowercase b ≡ to_ascii_lowercase t = cc in
    rw (letter t b parts.0 head) refl

-- ---- keywords

-- letters of one keyword in any case are that keyword
among : (ks : List Keyword) (v w : List ℕ) → str_to_ascii_lowercase v ≡ str_to_ascii_lowercase w → keyword_among ks v ≡ keyword_among ks w
among [] v w e = refl
among (k ∷ ks) v w e =
    ap (λ x. cond (bytes_eq x (str_to_ascii_lowercase (keyword_text k))) (Some k) (keyword_among ks v)) e
    ∙ ap (λ r. cond (str_eq_ignore_ascii_case w (keyword_text k)) (Some k) r) (among ks v w e)

-- what is known of the letters of a keyword
record Spelt (k : Keyword) : Type 0 where
  own : keyword_of (keyword_text k) ≡ Some k
  letters : IsTrue (list_all is_ascii_alphabetic (keyword_text k))
  capitals : IsTrue (list_all is_ascii_uppercase (keyword_text k))
  some : 1 ≤ length (keyword_text k)

spelt : (k : Keyword) → Spelt k
unfolding keyword_of keywords
spelt KCREATE = record { own = refl; letters = refl; capitals = refl; some = omega arith }
spelt KRELATION = record { own = refl; letters = refl; capitals = refl; some = omega arith }
spelt KATTRIBUTE = record { own = refl; letters = refl; capitals = refl; some = omega arith }
spelt KINDEX = record { own = refl; letters = refl; capitals = refl; some = omega arith }
spelt KDOMAIN = record { own = refl; letters = refl; capitals = refl; some = omega arith }
spelt KINT = record { own = refl; letters = refl; capitals = refl; some = omega arith }
spelt KLONG = record { own = refl; letters = refl; capitals = refl; some = omega arith }
spelt KSTRING = record { own = refl; letters = refl; capitals = refl; some = omega arith }
spelt KIN = record { own = refl; letters = refl; capitals = refl; some = omega arith }
spelt KTYPE = record { own = refl; letters = refl; capitals = refl; some = omega arith }
spelt KINLINE = record { own = refl; letters = refl; capitals = refl; some = omega arith }
spelt KMAXHEAP = record { own = refl; letters = refl; capitals = refl; some = omega arith }
spelt KMEMHASH = record { own = refl; letters = refl; capitals = refl; some = omega arith }
spelt KINSERT = record { own = refl; letters = refl; capitals = refl; some = omega arith }
spelt KINTO = record { own = refl; letters = refl; capitals = refl; some = omega arith }
spelt KSELECT = record { own = refl; letters = refl; capitals = refl; some = omega arith }
spelt KFROM = record { own = refl; letters = refl; capitals = refl; some = omega arith }
spelt KWHERE = record { own = refl; letters = refl; capitals = refl; some = omega arith }
spelt KJOIN = record { own = refl; letters = refl; capitals = refl; some = omega arith }
spelt KON = record { own = refl; letters = refl; capitals = refl; some = omega arith }
spelt KPROJECT = record { own = refl; letters = refl; capitals = refl; some = omega arith }
spelt KREMOVE = record { own = refl; letters = refl; capitals = refl; some = omega arith }
spelt KPACK = record { own = refl; letters = refl; capitals = refl; some = omega arith }
spelt KOPEN = record { own = refl; letters = refl; capitals = refl; some = omega arith }
spelt KFETCH = record { own = refl; letters = refl; capitals = refl; some = omega arith }
spelt KCLOSE = record { own = refl; letters = refl; capitals = refl; some = omega arith }
spelt KAND = record { own = refl; letters = refl; capitals = refl; some = omega arith }
spelt KOR = record { own = refl; letters = refl; capitals = refl; some = omega arith }
spelt KNOT = record { own = refl; letters = refl; capitals = refl; some = omega arith }
spelt KCOUNT = record { own = refl; letters = refl; capitals = refl; some = omega arith }
spelt KSUM = record { own = refl; letters = refl; capitals = refl; some = omega arith }
spelt KMIN = record { own = refl; letters = refl; capitals = refl; some = omega arith }
spelt KMAX = record { own = refl; letters = refl; capitals = refl; some = omega arith }
spelt KMEAN = record { own = refl; letters = refl; capitals = refl; some = omega arith }
spelt KMEDIAN = record { own = refl; letters = refl; capitals = refl; some = omega arith }

-- a keyword in any letter case, and no word byte behind it
pub keyword_first : (bs : List ℕ) (k : Keyword) (n : ℕ) → n ≡ length (keyword_text k) → map to_ascii_lowercase (take n bs) ≡ map to_ascii_lowercase (keyword_text k) →
    is_word_byte (get_or bs n 0) ≡ false → token_at bs ≡ Some (Word k, n)
unfolding keyword_of
keyword_first bs k n e same stop =
    let text : List ℕ = keyword_text k in
    let s = spelt k in
    let same_there : map to_ascii_lowercase (take (length text) bs) ≡ map to_ascii_lowercase text = ap (λ m. map to_ascii_lowercase (take m bs)) (sym e) ∙ same in
    let size : prefix_len is_word_byte bs ≡ n = run text bs s.letters same_there (ap (λ m. is_word_byte (get_or bs m 0)) (sym e) ∙ stop) ∙ sym e in
    let found : keyword_of (take n bs) ≡ Some k = among keywords (take n bs) text same ∙ s.own in
    begins text bs s.letters s.some same_there
    ∙ ap (λ m. of_length m (word_token (take m bs))) size
    ∙ ap (λ (r : Option Keyword). of_length n (elim r as (λ _. Option Token) [ Some keyword ↦ Some (Word keyword) | None ↦ cond (is_name (take n bs)) (Some (Name (take n bs))) None ])) found

pub keyword_capitals : (k : Keyword) → IsTrue (list_all is_ascii_uppercase (keyword_text k))
keyword_capitals k = (spelt k).capitals

-- ---- a keyword that is in front

abbrev is_word_token : Option (Token × ℕ) → Bool
is_word_token None = false
is_word_token (Some (Word k, n)) = true
is_word_token (Some (Name w, n)) = false
is_word_token (Some (Number z, n)) = false
is_word_token (Some (Quoted w, n)) = false
is_word_token (Some (Sign s, n)) = false

no_number : (t : Bool) (z : ℕ) (m n : ℕ) (k : Keyword) → of_length m (cond t (Some (Number (pos z))) None) ≡ Some (Word k, n) → ⊥
no_number true z m n k e = let f : false ≡ true = ap is_word_token e in cc
no_number false z m n k e = let f : false ≡ true = ap is_word_token e in cc

no_text : (t : Bool) (w : List ℕ) (m n : ℕ) (k : Keyword) → cond {A = Option (Token × ℕ)} t (Some (Quoted w, m)) None ≡ Some (Word k, n) → ⊥
no_text true w m n k e = let f : false ≡ true = ap is_word_token e in cc
no_text false w m n k e = let f : false ≡ true = ap is_word_token e in cc

no_sign : (r : Option (Mark × ℕ)) (n : ℕ) (k : Keyword) → option_map {U = Token × ℕ} (λ (s : Mark × ℕ). (Sign s.0, s.1)) r ≡ Some (Word k, n) → ⊥
no_sign None n k e = let f : false ≡ true = ap is_word_token e in cc
no_sign (Some s) n k e = let f : false ≡ true = ap is_word_token e in cc

is_word_front : (bs : List ℕ) (k : Keyword) (n : ℕ) → token_at bs ≡ Some (Word k, n) → word_at bs ≡ Some (Word k, n)
is_word_front [] k n e = cc
is_word_front (b ∷ bs) k n e = go (is_ascii_alphabetic b) (is_ascii_digit b) (nat_eq b 39) e
  where
    go : (a d q : Bool) → cond a (word_at (b ∷ bs)) (cond d (number_at (b ∷ bs)) (cond q (quoted_at bs) (sign_at b bs))) ≡ Some (Word k, n) → word_at (b ∷ bs) ≡ Some (Word k, n)
    go true d q e = e
    go false true q e =
        let digits : List ℕ = take (prefix_len is_ascii_digit (b ∷ bs)) (b ∷ bs) in
        absurd (no_number (nat_le (length digits) 18) (digits_value 10 digits) (prefix_len is_ascii_digit (b ∷ bs)) n k e)
    go false false true e =
        let m : ℕ = prefix_len is_text_byte bs in
        absurd (no_text (is_text (take m bs) && nat_eq (get_or bs m 0) 39) (take m bs) (m + 2) n k e)
    go false false false e = absurd (no_sign (sign_of b (get_or bs 0 0)) n k e)

-- the run of word bytes in front, and what it spells
record IsRun (bs : List ℕ) (k : Keyword) (n : ℕ) : Type 0 where
  size : prefix_len is_word_byte bs ≡ n
  found : keyword_of (take (prefix_len is_word_byte bs) bs) ≡ Some k

run_of : (bs : List ℕ) (k : Keyword) (n : ℕ) → word_at bs ≡ Some (Word k, n) → IsRun bs k n
run_of bs k n e = go (keyword_of w) refl e
  where
    p : ℕ
    p = prefix_len is_word_byte bs

    w : List ℕ
    w = take (prefix_len is_word_byte bs) bs

    named : (t : Bool) → of_length (prefix_len is_word_byte bs) (cond t (Some (Name w)) None) ≡ Some (Word k, n) → ⊥
    named true e = let f : false ≡ true = ap is_word_token e in cc
    named false e = let f : false ≡ true = ap is_word_token e in cc

    go : (r : Option Keyword) → keyword_of w ≡ r → of_length (prefix_len is_word_byte bs) (elim r as (λ _. Option Token) [ Some keyword ↦ Some (Word keyword) | None ↦ cond (is_name w) (Some (Name w)) None ]) ≡ Some (Word k, n) → IsRun bs k n
    go None f e = absurd (named (is_name w) e)
    go (Some j) f e =
        let pair : ◌≡◌ {A = Token × ℕ} (Word j, prefix_len is_word_byte bs) (Word k, n) = cc in
        let word : Word j ≡ Word k = ap (λ (x : Token × ℕ). x.0) pair in
        let same : j ≡ k = cc in
        let size : prefix_len is_word_byte bs ≡ n = ap (λ (x : Token × ℕ). x.1) pair in
        record { size = size; found = f ∙ ap (λ x. Some x) same }

spelt_among : (ks : List Keyword) (w : List ℕ) (k : Keyword) → keyword_among ks w ≡ Some k → str_eq_ignore_ascii_case w (keyword_text k) ≡ true
spelt_among [] w k e = cc
spelt_among (j ∷ ks) w k e = go (str_eq_ignore_ascii_case w (keyword_text j)) refl e (spelt_among ks w k)
  where
    go : (t : Bool) → str_eq_ignore_ascii_case w (keyword_text j) ≡ t → cond t (Some j) (keyword_among ks w) ≡ Some k → (keyword_among ks w ≡ Some k → str_eq_ignore_ascii_case w (keyword_text k) ≡ true) →
        str_eq_ignore_ascii_case w (keyword_text k) ≡ true
    go true f e rest = let same : j ≡ k = cc in subst (λ x. str_eq_ignore_ascii_case w (keyword_text x) ≡ true) same f
    go false f e rest = rest e

spelt_of : (w : List ℕ) (k : Keyword) → keyword_of w ≡ Some k → str_eq_ignore_ascii_case w (keyword_text k) ≡ true
unfolding keyword_of
spelt_of w k e = spelt_among keywords w k e

-- its bytes are its letters in any case, and no word byte is behind them
pub record IsKeywordFirst (bs : List ℕ) (k : Keyword) (n : ℕ) : Type 0 where
  pub size : n ≡ length (keyword_text k)
  pub fits : n ≤ length bs
  pub same : map to_ascii_lowercase (take n bs) ≡ map to_ascii_lowercase (keyword_text k)
  pub stops : is_word_byte (get_or bs n 0) ≡ false

run_stops : (bs : List ℕ) → is_word_byte (get_or bs (prefix_len is_word_byte bs) 0) ≡ false
run_stops bs = ⊎_elim (prefix_len_stops is_word_byte bs 0) (λ h. ap is_word_byte (get_or_past bs (prefix_len is_word_byte bs) 0 h)) (cases_lt (prefix_len is_word_byte bs) (length bs))

pub keyword_is_first : (bs : List ℕ) (k : Keyword) (n : ℕ) → token_at bs ≡ Some (Word k, n) → IsKeywordFirst bs k n
keyword_is_first bs k n e =
    let r = run_of bs k n (is_word_front bs k n e) in
    let p : ℕ = prefix_len is_word_byte bs in
    let w : List ℕ = take p bs in
    let fits : p ≤ length bs = prefix_len-le-length is_word_byte bs in
    let same : map to_ascii_lowercase w ≡ map to_ascii_lowercase (keyword_text k) = (bytes_eq-Decides (str_to_ascii_lowercase w) (str_to_ascii_lowercase (keyword_text k))).0 (spelt_of w k r.found) in
    let long : length w ≡ length (keyword_text k) = sym (length-map w to_ascii_lowercase) ∙ ap length same ∙ length-map (keyword_text k) to_ascii_lowercase in
    let whole : length w ≡ p = length-take-le p bs fits in
    record {
      size = sym r.size ∙ sym whole ∙ long;
      fits = omega (arith, fits, r.size);
      same = ap (λ m. map to_ascii_lowercase (take m bs)) (sym r.size) ∙ same;
      stops = ap (λ m. is_word_byte (get_or bs m 0)) (sym r.size) ∙ run_stops bs;
    }

-- a byte that is neither of the two
capital : (t b : ℕ) → is_ascii_uppercase t ≡ true → to_ascii_lowercase b ≡ to_ascii_lowercase t → (b ≡ t) ⊎ (b ≡ to_ascii_lowercase t)
capital t b h e = grind (arith, nat_tests)

pub other_letter : (ts bs : List ℕ) (i : ℕ) → IsTrue (list_all is_ascii_uppercase ts) → i < length ts → length bs ≡ length ts →
    (get_or bs i 0 ≡ get_or ts i 0 → ⊥) → (get_or bs i 0 ≡ to_ascii_lowercase (get_or ts i 0) → ⊥) → map to_ascii_lowercase bs ≡ map to_ascii_lowercase ts → ⊥
other_letter (t ∷ ts) (b ∷ bs) zero all lt same differs apart e =
    let parts = both (is_ascii_uppercase t) (list_all is_ascii_uppercase ts) all in
    let head : to_ascii_lowercase b ≡ to_ascii_lowercase t = cc in
    ⊎_elim differs apart (capital t b parts.0 head)
other_letter (t ∷ ts) (b ∷ bs) (suc i) all lt same differs apart e =
    let parts = both (is_ascii_uppercase t) (list_all is_ascii_uppercase ts) all in
    let tail : map to_ascii_lowercase bs ≡ map to_ascii_lowercase ts = cc in
    other_letter ts bs i parts.1 (omega arith) (omega arith) differs apart tail
other_letter [] bs i all lt same differs apart e = absurd (omega arith)
other_letter (t ∷ ts) [] i all lt same differs apart e = absurd (omega arith)
