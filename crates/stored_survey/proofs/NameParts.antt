-- Parts of a name's field: which names begin or end so.
use Rattle.std.proofs.Common.{◌≡◌, ℕ, zero, suc, ◌+◌, ◌-◌, ◌≤◌, Bool, true, false, ◌&&◌, ◌||◌, not, List, [], ◌∷◌, ◌++◌, length, take, drop, replicate, Option, Some, None, refl, sym, ap, subst, ◌∙◌, arith, append_assoc, length-append}
use Rattle.std.specs.Prelude.{◌==◌, if◌then◌else◌, IfNone, IfSome, IsFalse, IsTrue, is_some, nat_le}
use Rattle.std.specs.List.{list_all}
use Rattle.std.specs.Char.{is_ascii_alphabetic, to_ascii_lowercase}
use Rattle.std.specs.Int.{is_in_range}
use Rattle.std.specs.Str.{str_eq_ignore_ascii_case, str_to_ascii_lowercase}
use Rattle.std.proofs.lemmas.Bool.Decides.{nat_tests}
use Rattle.std.proofs.lemmas.Slice.Eq.{bytes_eq-Decides}
use Rattle.std.proofs.lemmas.List.{drop_at, length-replicate, length-drop, length-map, take-append-drop, take-replicate, take_at}
use Rattle.afl_base.specs.Fields.{put_at}
use Rattle.db_model.proofs.Catalogs.{word_byte-some}
use Rattle.db_model.specs.declared.tokens.Keyword.{Keyword}
use Rattle.db_model.specs.Keywords.{keyword_among, keyword_of, keyword_text, keywords}
use Rattle.db_model.specs.Names.{is_name, is_word, is_word_byte}
use Rattle.db_model.specs.Row.{up_to_zero}
use Rattle.padded.specs.Padded.{padded}
use Rattle.padded.specs.Zeros.{is_zeros}
use Rattle.padded.proofs.Facts.{all_zeros, both_parts, both_true, false_by, le_true, true_le, yes_no}
use Rattle.stored_survey.specs.Parts.{IsNameEnd}
use Rattle.stored_mend.proofs.PutOver.{drop_joined, drop_zeros, zeros_are}

-- ---- bytes of words

letter_is_word_byte : (b : ℕ) → is_ascii_alphabetic b ≡ true → is_word_byte b ≡ true
letter_is_word_byte b e = by_tests (is_in_range 48 57 b) (is_in_range 65 90 b) (is_in_range 97 122 b) (b == 95) e
  where
    by_tests : (d u l o : Bool) → (u || l) ≡ true → (((d || u) || l) || o) ≡ true
    by_tests true u l o e = refl
    by_tests false true l o e = refl
    by_tests false false true o e = refl
    by_tests false false false o e = cc

all_dropped : (n : ℕ) (xs : List ℕ) → list_all is_word_byte xs ≡ true → list_all is_word_byte (drop n xs) ≡ true
all_dropped zero xs e = e
all_dropped (suc n) [] e = refl
all_dropped (suc n) (x ∷ xs) e = all_dropped n xs (both_parts (is_word_byte x) (list_all is_word_byte xs) e).1

pub all_taken : (n : ℕ) (xs : List ℕ) → list_all is_word_byte xs ≡ true → list_all is_word_byte (take n xs) ≡ true
all_taken zero xs e = refl
all_taken (suc n) [] e = refl
all_taken (suc n) (x ∷ xs) e =
    let parts = both_parts (is_word_byte x) (list_all is_word_byte xs) e in
    both_true (is_word_byte x) (list_all is_word_byte (take n xs)) parts.0 (all_taken n xs parts.1)

pub all_joined : (xs ys : List ℕ) → list_all is_word_byte xs ≡ true → list_all is_word_byte ys ≡ true → list_all is_word_byte (xs ++ ys) ≡ true
all_joined [] ys e f = f
all_joined (x ∷ xs) ys e f =
    let parts = both_parts (is_word_byte x) (list_all is_word_byte xs) e in
    both_true (is_word_byte x) (list_all is_word_byte (xs ++ ys)) parts.0 (all_joined xs ys parts.1 f)

pub all_z : (n : ℕ) → list_all is_word_byte (replicate n 122) ≡ true
all_z zero = refl
all_z (suc n) = all_z n

-- the bytes before the zeros
pub cut_word : (bytes : List ℕ) (k : ℕ) → list_all is_word_byte bytes ≡ true → up_to_zero (bytes ++ replicate k 0) ≡ bytes
cut_word [] zero e = refl
cut_word [] (suc k) e = refl
cut_word (b ∷ bytes) k e =
    let parts = both_parts (is_word_byte b) (list_all is_word_byte bytes) e in
    rw (word_byte-some b parts.0, cut_word bytes k parts.1) refl

-- the bytes before the first zero stand in front
pub shown_front : (xs : List ℕ) → take (length (up_to_zero xs)) xs ≡ up_to_zero xs
shown_front [] = refl
shown_front (x ∷ xs) = by_test (x == 0) (shown_front xs)
  where
    by_test : (t : Bool) → take (length (up_to_zero xs)) xs ≡ up_to_zero xs → take (length (if t then [] else x ∷ up_to_zero xs)) (x ∷ xs) ≡ (if t then [] else x ∷ up_to_zero xs)
    by_test true e = refl
    by_test false e = ap (λ (ys : List ℕ). x ∷ ys) e

-- ---- names

-- what a name is: a letter, then bytes of a word, at most 15 in all, and no keyword
pub record IsWord (name : List ℕ) : Type 0 where
  pub some : 1 ≤ length name
  pub short : length name ≤ 15
  pub bytes : list_all is_word_byte name ≡ true

pub word_of : (name : List ℕ) → is_name name ≡ true → IsWord name
word_of [] e = cc
word_of (b ∷ bytes) e =
    let word = both_parts (is_word (b ∷ bytes)) (not (is_some (keyword_of (b ∷ bytes)))) e in
    let front = both_parts (nat_le (length bytes) 14 && is_ascii_alphabetic b) (list_all is_word_byte bytes) word.0 in
    let first = both_parts (nat_le (length bytes) 14) (is_ascii_alphabetic b) front.0 in
    record {
      some = omega arith;
      short = omega (arith, true_le (length bytes) 14 first.0);
      bytes = both_true (is_word_byte b) (list_all is_word_byte bytes) (letter_is_word_byte b first.1) front.1;
    }

pub first_letter : (b : ℕ) (bytes : List ℕ) → is_name (b ∷ bytes) ≡ true → is_ascii_alphabetic b ≡ true
first_letter b bytes e =
    let word = both_parts (is_word (b ∷ bytes)) (not (is_some (keyword_of (b ∷ bytes)))) e in
    let front = both_parts (nat_le (length bytes) 14 && is_ascii_alphabetic b) (list_all is_word_byte bytes) word.0 in
    (both_parts (nat_le (length bytes) 14) (is_ascii_alphabetic b) front.0).1

-- no keyword begins with z
no_z_keyword : (rest : List ℕ) → keyword_of (122 ∷ rest) ≡ None
unfolding keyword_of keywords
no_z_keyword rest = refl

-- a name that begins with z
pub z_name : (rest : List ℕ) → length rest ≤ 14 → list_all is_word_byte rest ≡ true → is_name (122 ∷ rest) ≡ true
z_name rest few all =
    let word : is_word (122 ∷ rest) ≡ true = both_true (nat_le (length rest) 14 && true) (list_all is_word_byte rest) (both_true (nat_le (length rest) 14) true (le_true (length rest) 14 few) refl) all in
    both_true (is_word (122 ∷ rest)) (not (is_some (keyword_of (122 ∷ rest)))) word (ap (λ (o : Option Keyword). not (is_some o)) (no_z_keyword rest))

-- no keyword has 15 letters
same_long : (a b : List ℕ) → str_eq_ignore_ascii_case a b ≡ true → length a ≡ length b
same_long a b e =
    let same : str_to_ascii_lowercase a ≡ str_to_ascii_lowercase b = (bytes_eq-Decides (str_to_ascii_lowercase a) (str_to_ascii_lowercase b)).0 e in
    sym (length-map a to_ascii_lowercase) ∙ ap length same ∙ length-map b to_ascii_lowercase

no_long_among : (ks : List Keyword) (word : List ℕ) → list_all (λ k. not (length (keyword_text k) == length word)) ks ≡ true → keyword_among ks word ≡ None
no_long_among [] word e = refl
no_long_among (k ∷ ks) word e =
    let parts = both_parts (not (length (keyword_text k) == length word)) (list_all (λ k. not (length (keyword_text k) == length word)) ks) e in
    let differs : str_eq_ignore_ascii_case word (keyword_text k) ≡ false = false_by (str_eq_ignore_ascii_case word (keyword_text k)) (λ same. unlike (length (keyword_text k)) (length word) (sym (same_long word (keyword_text k) same)) parts.0) in
    ap (λ (t : Bool). if t then Some k else keyword_among ks word) differs ∙ no_long_among ks word parts.1
  where
    unlike : (a b : ℕ) → a ≡ b → not (a == b) ≡ true → ⊥
    unlike a b same e = grind (arith, nat_tests)

no_long_keyword : (word : List ℕ) → length word ≡ 15 → keyword_of word ≡ None
unfolding keyword_of keywords
no_long_keyword word long = no_long_among keywords word (subst (λ (n : ℕ). list_all (λ k. not (length (keyword_text k) == n)) keywords ≡ true) (sym long) refl)

-- a word of 15 bytes is a name
pub long_name : (b : ℕ) (rest : List ℕ) → length rest ≡ 14 → is_ascii_alphabetic b ≡ true → list_all is_word_byte rest ≡ true → is_name (b ∷ rest) ≡ true
long_name b rest long letter all =
    let word : is_word (b ∷ rest) ≡ true = both_true (nat_le (length rest) 14 && is_ascii_alphabetic b) (list_all is_word_byte rest) (both_true (nat_le (length rest) 14) (is_ascii_alphabetic b) (le_true (length rest) 14 (omega (arith, long))) letter) all in
    let fifteen : length (b ∷ rest) ≡ 15 = omega (arith, long) in
    both_true (is_word (b ∷ rest)) (not (is_some (keyword_of (b ∷ rest)))) word (ap (λ (o : Option Keyword). not (is_some o)) (no_long_keyword (b ∷ rest) fifteen))

-- ---- the end of a name's field

-- fewer zeros stand behind a longer end
end_split : (bytes name : List ℕ) → is_name name ≡ true → bytes ≡ drop (16 - length bytes) (padded 16 name)
    → bytes ≡ drop (16 - length bytes) name ++ replicate (16 - length name - (16 - length bytes - length name)) 0
end_split bytes name e is =
    let h : ℕ = 16 - length bytes in
    is ∙ drop_joined h name (replicate (16 - length name) 0) ∙ ap (λ (zs : List ℕ). drop h name ++ zs) (drop_zeros (h - length name) (16 - length name))

-- what is shown of it is the end of the name
pub end_shown : (bytes name : List ℕ) → is_name name ≡ true → bytes ≡ drop (16 - length bytes) (padded 16 name)
    → (up_to_zero bytes ≡ drop (16 - length bytes) name) × (is_zeros (drop (length (up_to_zero bytes)) bytes) ≡ true)
end_shown bytes name e is =
    let h : ℕ = 16 - length bytes in
    let k : ℕ = 16 - length name - (h - length name) in
    let split : bytes ≡ drop h name ++ replicate k 0 = end_split bytes name e is in
    let shown : up_to_zero bytes ≡ drop h name = ap up_to_zero split ∙ cut_word (drop h name) k (all_dropped h name (word_of name e).bytes) in
    let rest : drop (length (up_to_zero bytes)) bytes ≡ replicate k 0 =
    ap (λ (xs : List ℕ). drop (length xs) bytes) shown ∙ ap (drop (length (drop h name))) split ∙ drop_at (drop h name) (replicate k 0) (length (drop h name)) refl in
    (shown, ap is_zeros rest ∙ all_zeros k)

-- with letters in front that begin no keyword it is a name
pub end_named : (bytes name : List ℕ) → is_name name ≡ true → bytes ≡ drop (16 - length bytes) (padded 16 name) → 1 ≤ length bytes → length bytes ≤ 16
    → is_name (replicate (16 - length bytes) 122 ++ up_to_zero bytes) ≡ true
end_named bytes name e is some most =
    subst (λ (xs : List ℕ). is_name (replicate (16 - length bytes) 122 ++ xs) ≡ true) (sym (end_shown bytes name e is).0) (hidden (16 - length bytes) (omega (arith, some, most)))
  where
    hidden : (h : ℕ) → h ≤ 15 → is_name (replicate h 122 ++ drop h name) ≡ true
    hidden zero few = e
    hidden (suc m) few =
        let front : length (replicate {A = ℕ} m 122) ≡ m = length-replicate {A = ℕ} m 122 in
        let both : length (replicate m 122 ++ drop (suc m) name) ≡ m + (length name - suc m) = length-append (replicate m 122) (drop (suc m) name) ∙ omega (arith, front, length-drop (suc m) name) in
        z_name (replicate m 122 ++ drop (suc m) name) (omega (arith, both, few, (word_of name e).short))
        (all_joined (replicate m 122) (drop (suc m) name) (all_z m) (all_dropped (suc m) name (word_of name e).bytes))

-- the other way round
pub end_made : (bytes : List ℕ) → length bytes ≤ 16 → is_zeros (drop (length (up_to_zero bytes)) bytes) ≡ true
    → bytes ≡ drop (16 - length bytes) (padded 16 (replicate (16 - length bytes) 122 ++ up_to_zero bytes))
end_made bytes most zeros =
    let h : ℕ = 16 - length bytes in
    let s : List ℕ = up_to_zero bytes in
    let rest : List ℕ = drop (length s) bytes in
    let front : length (replicate {A = ℕ} h 122) ≡ h = length-replicate {A = ℕ} h 122 in
    let parts : s ++ rest ≡ bytes = ap (λ (xs : List ℕ). xs ++ rest) (sym (shown_front bytes)) ∙ take-append-drop (length s) bytes in
    let sizes : length s + length rest ≡ length bytes = sym (length-append s rest) ∙ ap length parts in
    let both : length (replicate h 122 ++ s) ≡ h + length s = length-append (replicate h 122) s ∙ omega (arith, front) in
    let many : 16 - length (replicate h 122 ++ s) ≡ length rest = omega (arith, both, sizes, most) in
    sym (ap (drop h) (append_assoc (replicate h 122) s (replicate (16 - length (replicate h 122 ++ s)) 0))
    ∙ drop_at (replicate h 122) (s ++ replicate (16 - length (replicate h 122 ++ s)) 0) h front
    ∙ ap (λ (n : ℕ). s ++ replicate n 0) many
    ∙ ap (λ (xs : List ℕ). s ++ xs) (sym (zeros_are rest zeros))
    ∙ parts)

-- letters z, and what is shown behind them
pub z_written : (h : ℕ) (s : List ℕ) → h + length s ≤ 16 → take (h + length s) (put_at (replicate 16 122) h s) ≡ replicate h 122 ++ s
unfolding put_at
z_written h s few =
    let zs : List ℕ = replicate 16 122 in
    let front : take h zs ≡ replicate h 122 = take-replicate h 16 122 (omega (arith, few)) in
    let long : length (take h zs ++ s) ≡ h + length s = length-append (take h zs) s ∙ omega (arith, ap length front, length-replicate {A = ℕ} h 122) in
    take_at (take h zs ++ s) (drop (h + length s) zs) (h + length s) long ∙ ap (λ (xs : List ℕ). xs ++ s) front

-- what was made of the end of a field is a name that ends so, and only where there is none it is no name
module _ (bytes written : List ℕ) (is : written ≡ replicate (16 - length bytes) 122 ++ up_to_zero bytes) (most : length bytes ≤ 16) where
  pub some_end : (o : Option (List ℕ)) → is_zeros (drop (length (up_to_zero bytes)) bytes) ≡ true
      → IfSome o (λ name. name ≡ written) → IfSome o (λ _. IsTrue (is_name written)) → IfSome o (λ name. IsNameEnd bytes name)
  some_end None zeros same good = tt
  some_end (Some name) zeros same good = (
    ap is_name same ∙ good,
    end_made bytes most zeros ∙ ap (λ (xs : List ℕ). drop (16 - length bytes) (padded 16 xs)) (sym (same ∙ is)),
  )

  pub none_end : (o : Option (List ℕ)) → 1 ≤ length bytes → IfNone o (IsFalse (is_name written)) → IfNone o ((name : List ℕ) → IsNameEnd bytes name → ⊥)
  none_end None some bad = λ name e. yes_no (is_name written) (ap is_name is ∙ end_named bytes name e.0 e.1 some most) bad
  none_end (Some name) some bad = tt

-- a name of one letter
pub x_name : is_name (120 ∷ []) ≡ true
unfolding keyword_of keywords
x_name = refl
