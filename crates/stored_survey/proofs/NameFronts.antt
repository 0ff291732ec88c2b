-- The first bytes of a name's field.
use Rattle.std.proofs.Common.{◌≡◌, ℕ, zero, suc, ◌+◌, ◌-◌, ◌≤◌, ◌<◌, true, List, [], ◌∷◌, ◌++◌, length, take, drop, replicate, Option, Some, None, refl, sym, ap, ◌∙◌, arith, append_assoc, length-append}
use Rattle.std.specs.Prelude.{IfNone, IfSome, IsFalse, IsTrue}
use Rattle.std.specs.List.{list_all}
use Rattle.std.proofs.lemmas.List.{drop_at, length-replicate, length-take, length-take-le, take-append-drop, take_all, take_at}
use Rattle.afl_base.specs.Fields.{put_at}
use Rattle.db_model.specs.Names.{is_name, is_word_byte}
use Rattle.db_model.specs.Row.{up_to_zero}
use Rattle.padded.specs.Padded.{padded}
use Rattle.padded.specs.Zeros.{is_zeros}
use Rattle.padded.proofs.Facts.{all_zeros, both_parts, yes_no}
use Rattle.stored_mend.proofs.PutOver.{take_joined, take_zeros, zeros_are}
use Rattle.stored_survey.specs.Parts.{IsNameFront}
use Rattle.stored_survey.proofs.NameParts.{all_joined, all_taken, all_z, cut_word, first_letter, long_name, shown_front, word_of, z_name}

-- the name, as far as it goes, and zeros behind it
front_split : (bytes name : List ℕ) → length bytes ≤ 16 → IsNameFront bytes name → bytes ≡ take (length bytes) name ++ replicate (length bytes - length name) 0
front_split bytes name most e =
    let n : ℕ = length bytes in
    e.1 ∙ take_joined n name (replicate (16 - length name) 0) ∙ ap (λ (zs : List ℕ). take n name ++ zs) (take_zeros (n - length name) (16 - length name) (omega (arith, most)))

pub front_shown : (bytes name : List ℕ) → length bytes ≤ 16 → IsNameFront bytes name → (up_to_zero bytes ≡ take (length bytes) name) × (is_zeros (drop (length (up_to_zero bytes)) bytes) ≡ true)
front_shown bytes name most e =
    let n : ℕ = length bytes in
    let k : ℕ = n - length name in
    let split : bytes ≡ take n name ++ replicate k 0 = front_split bytes name most e in
    let shown : up_to_zero bytes ≡ take n name = ap up_to_zero split ∙ cut_word (take n name) k (all_taken n name (word_of name e.0).bytes) in
    let rest : drop (length (up_to_zero bytes)) bytes ≡ replicate k 0 =
    ap (λ (xs : List ℕ). drop (length xs) bytes) shown ∙ ap (drop (length (take n name))) split ∙ drop_at (take n name) (replicate k 0) (length (take n name)) refl in
    (shown, ap is_zeros rest ∙ all_zeros k)

-- a name goes on at will
begun_name : (n : ℕ) (name : List ℕ) → is_name name ≡ true → n ≤ length name → is_name (take n name ++ replicate (15 - n) 122) ≡ true
begun_name zero name e few = z_name (replicate 14 122) (omega (arith, length-replicate {A = ℕ} 14 122)) (all_z 14)
begun_name (suc m) [] e few = absurd (omega (arith, few))
begun_name (suc m) (b ∷ rest) e few =
    let word = word_of (b ∷ rest) e in
    let inside : m ≤ length rest = omega (arith, few) in
    let short : suc (length rest) ≤ 15 = word.short in
    let front : length (take m rest) ≡ m = length-take-le m rest inside in
    let behind : length (replicate {A = ℕ} (15 - suc m) 122) ≡ 15 - suc m = length-replicate {A = ℕ} (15 - suc m) 122 in
    long_name b (take m rest ++ replicate (15 - suc m) 122) (length-append (take m rest) (replicate (15 - suc m) 122) ∙ omega (arith, front, behind, inside, short)) (first_letter b rest e)
    (all_joined (take m rest) (replicate (15 - suc m) 122) (all_taken m rest (rest_of b rest word.bytes)) (all_z (15 - suc m)))
  where
    rest_of : (b : ℕ) (rest : List ℕ) → list_all is_word_byte (b ∷ rest) ≡ true → list_all is_word_byte rest ≡ true
    rest_of b rest e = (both_parts (is_word_byte b) (list_all is_word_byte rest) e).1

-- ---- what was found

module _ (bytes front : List ℕ) (most : length bytes ≤ 16) (is : front ≡ up_to_zero bytes) where
  -- a name that ends in front
  pub some_whole : (o : Option (List ℕ)) → is_zeros (drop (length front) bytes) ≡ true
      → IfSome o (λ name. name ≡ front) → IfSome o (λ _. IsTrue (is_name front)) → IfSome o (λ name. IsNameFront bytes name)
  some_whole None zeros same good = tt
  some_whole (Some name) zeros same good =
      let rest : List ℕ = drop (length front) bytes in
      let parts : front ++ rest ≡ bytes =
      ap (λ (xs : List ℕ). xs ++ drop (length front) bytes) (is ∙ sym (shown_front bytes) ∙ ap (λ (xs : List ℕ). take (length xs) bytes) (sym is)) ∙ take-append-drop (length front) bytes in
      let sizes : length front + length rest ≡ length bytes = sym (length-append front rest) ∙ ap length parts in
      let gap : length bytes - length front ≡ length rest = omega (arith, sizes) in (
        ap is_name same ∙ good,
        sym (ap (λ (xs : List ℕ). take (length bytes) (padded 16 xs)) same
            ∙ take_joined (length bytes) front (replicate (16 - length front) 0)
            ∙ ap (λ (xs : List ℕ). xs ++ take (length bytes - length front) (replicate (16 - length front) 0)) (take_all (length bytes) front (omega (arith, sizes)))
            ∙ ap (λ (xs : List ℕ). front ++ xs)
            (take_zeros (length bytes - length front) (16 - length front) (omega (arith, most)) ∙ ap (λ (n : ℕ). replicate {A = ℕ} n 0) gap ∙ sym (zeros_are rest zeros))
            ∙ parts),
      )

  pub none_whole : (o : Option (List ℕ)) → length front < length bytes → IfNone o (IsFalse (is_name front)) → IfNone o ((name : List ℕ) → IsNameFront bytes name → ⊥)
  none_whole (Some name) less bad = tt
  none_whole None less bad = λ name e.
      let shown : front ≡ take (length bytes) name = is ∙ (front_shown bytes name most e).0 in
      let size : length front ≡ length (take (length bytes) name) = ap length shown in
      let whole : take (length bytes) name ≡ name = take_all (length bytes) name (omega (arith, size, less, length-take (length bytes) name)) in
      yes_no (is_name front) (ap is_name (shown ∙ whole) ∙ e.0) bad

  -- no name is so long
  pub none_long : 15 < length front → (name : List ℕ) → IsNameFront bytes name → ⊥
  none_long long name e =
      let size : length front ≡ length (take (length bytes) name) = ap length (is ∙ (front_shown bytes name most e).0) in
      let word = word_of name e.0 in
      absurd (omega (arith, size, long, length-take (length bytes) name, word.short))

  -- a name that goes on
  module _ (past : length bytes ≤ length front) (short : length front ≤ 15) (longest : List ℕ) (made : longest ≡ put_at (replicate 15 122) 0 front) where
    all_shown : front ≡ bytes
    all_shown = is ∙ sym (shown_front bytes) ∙ ap (λ (xs : List ℕ). take (length xs) bytes) (sym is) ∙ take_all (length front) bytes past

    long_is : longest ≡ front ++ replicate (15 - length front) 122
    unfolding put_at
    long_is = made ∙ ap (λ (xs : List ℕ). front ++ xs) (drop_letters (length front) 15)
      where
        drop_letters : (n k : ℕ) → drop (0 + n) (replicate {A = ℕ} k 122) ≡ replicate (k - n) 122
        drop_letters n k = let e : 0 + n ≡ n = omega arith in ap (λ (m : ℕ). drop m (replicate {A = ℕ} k 122)) e ∙ by_number n k
          where
            by_number : (n k : ℕ) → drop n (replicate {A = ℕ} k 122) ≡ replicate (k - n) 122
            by_number zero k = let e : k - 0 ≡ k = omega arith in ap (λ (m : ℕ). replicate {A = ℕ} m 122) (sym e)
            by_number (suc n) zero = let e : 0 - suc n ≡ 0 = omega arith in ap (λ (m : ℕ). replicate {A = ℕ} m 122) (sym e)
            by_number (suc n) (suc k) = let e : suc k - suc n ≡ k - n = omega arith in by_number n k ∙ ap (λ (m : ℕ). replicate {A = ℕ} m 122) (sym e)

    pub some_long : (o : Option (List ℕ)) → IfSome o (λ name. name ≡ longest) → IfSome o (λ _. IsTrue (is_name longest)) → IfSome o (λ name. IsNameFront bytes name)
    some_long None same good = tt
    some_long (Some name) same good =
        let z : List ℕ = replicate (15 - length front) 122 in
        let zeros : List ℕ = replicate (16 - length (bytes ++ z)) 0 in
        let written : name ≡ bytes ++ z = same ∙ long_is ∙ ap (λ (xs : List ℕ). xs ++ z) all_shown in (
          ap is_name same ∙ good,
          sym (ap (λ (xs : List ℕ). take (length bytes) (padded 16 xs)) written ∙ ap (take (length bytes)) (append_assoc bytes z zeros) ∙ take_at bytes (z ++ zeros) (length bytes) refl),
        )

    pub none_begun : (o : Option (List ℕ)) → IfNone o (IsFalse (is_name longest)) → IfNone o ((name : List ℕ) → IsNameFront bytes name → ⊥)
    none_begun (Some name) bad = tt
    none_begun None bad = λ name e.
        let n : ℕ = length bytes in
        let shown : front ≡ take n name = is ∙ (front_shown bytes name most e).0 in
        let size : length front ≡ length (take n name) = ap length shown in
        let same : length front ≡ length bytes = ap length all_shown in
        let inside : n ≤ length name = omega (arith, size, same, length-take n name) in
        let named : is_name longest ≡ true =
        ap is_name (long_is ∙ ap (λ (k : ℕ). front ++ replicate (15 - k) 122) same ∙ ap (λ (xs : List ℕ). xs ++ replicate (15 - n) 122) shown) ∙ begun_name n name e.0 inside in
        yes_no (is_name longest) named bad
