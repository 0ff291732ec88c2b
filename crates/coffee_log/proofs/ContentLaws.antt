-- The bytes of a file before and after a change, and what is read of them.
use Rattle.std.proofs.Common.{◌≡◌, ◌≢◌, ℕ, ◌+◌, ◌-◌, ◌*◌, ◌≤◌, ◌<◌, List, ◌++◌, length, take, drop, get_or, slice_range, Option, refl, ap, sym, subst, ◌∙◌, arith, ⊎_elim}
use Rattle.std.proofs.lemmas.Bool.{cases_lt}
use Rattle.std.proofs.lemmas.List.{ext_get_or, get_or-append_right, get_or-take, get_or_append_left, length-append, length-take-le}
use Rattle.afl_base.specs.Fields.{put_at}
use Rattle.afl_base.specs.declared.ids.PageId.{PageId}
use Rattle.afl_base.proofs.FieldLaws.{length-put_at}
use Rattle.afl_base.proofs.Images.{length_range, range_at}
use Rattle.flash_range.specs.Range.{Outside}
use Rattle.coffee_layout.specs.FileBytes.{ListsValues, file_byte, file_bytes}
use Rattle.coffee_layout.proofs.Spelling.{spells_file, spelt_file}
use Rattle.coffee_log.specs.FileChanges.{Puts}
use Rattle.afl_base.proofs.PutLaws.{put_at_here, put_at_behind}

-- bytes behind the end are added to the list
spells-append : (old new : ℕ → ℕ) (n : ℕ) (xs bytes : List ℕ) → ListsValues old n xs → Puts old new n (length xs) bytes → length xs + length bytes ≤ n → (1 ≤ length bytes → get_or bytes (length bytes - 1) 0 ≢ 0) → ListsValues new n (xs ++ bytes)
spells-append old new n xs bytes s put fits ends =
    let long : length (xs ++ bytes) ≡ length xs + length bytes = length-append xs bytes in
    record {
      short = omega arith;
      here = λ p low.
          ⊎_elim
          (λ (a : p < length xs). put.others p (omega arith) (λ x y. omega arith) ∙ s.here p a ∙ sym (get_or_append_left xs bytes 0 p a))
          (λ (a : length xs ≤ p).
          let back : length xs + (p - length xs) ≡ p = omega arith in
          ap new (sym back) ∙ put.here (p - length xs) (omega arith) ∙ sym (get_or-append_right xs bytes (length xs) p 0 refl a))
          (cases_lt p (length xs));
      after = λ p from to. put.others p to (λ x y. omega arith) ∙ s.after p (omega arith) to;
      last = λ some z.
          ⊎_elim
          (λ (a : length bytes < 1).
          let here : length (xs ++ bytes) - 1 ≡ length xs - 1 = omega arith in
          s.last (omega arith) (sym (get_or_append_left xs bytes 0 (length xs - 1) (omega arith)) ∙ ap (λ k. get_or (xs ++ bytes) k 0) (sym here) ∙ z))
          (λ (a : 1 ≤ length bytes).
          let here : length (xs ++ bytes) - 1 - length xs ≡ length bytes - 1 = omega arith in
          ends a (ap (λ k. get_or bytes k 0) (sym here) ∙ sym (get_or-append_right xs bytes (length xs) (length (xs ++ bytes) - 1) 0 refl (omega arith)) ∙ z))
          (cases_lt (length bytes) 1);
    }

-- the bytes of a list in which others were put

put_front : (xs bytes : List ℕ) (at : ℕ) → at + length bytes ≤ length xs → length (take at xs ++ bytes) ≡ at + length bytes
put_front xs bytes at fits = omega (arith, length-append (take at xs) bytes, length-take-le at xs (let l : at ≤ length xs = omega arith in l))

put_at_before : (xs bytes : List ℕ) (at p : ℕ) → at + length bytes ≤ length xs → p < at → get_or (put_at xs at bytes) p 0 ≡ get_or xs p 0
unfolding put_at
put_at_before xs bytes at p fits low =
    let front = put_front xs bytes at fits in
    let here : length (take at xs) ≡ at = length-take-le at xs (omega arith) in
    get_or_append_left (take at xs ++ bytes) (drop (at + length bytes) xs) 0 p (omega arith) ∙ get_or_append_left (take at xs) bytes 0 p (omega arith) ∙ get_or-take at xs p 0 low

pub put_at_outside : (xs bytes : List ℕ) (at p : ℕ) → at + length bytes ≤ length xs → Outside at (length bytes) p → get_or (put_at xs at bytes) p 0 ≡ get_or xs p 0
put_at_outside xs bytes at p fits out =
    ⊎_elim
    (λ (a : p < at). put_at_before xs bytes at p fits a)
    (λ (a : at ≤ p). ⊎_elim (λ (b : p < at + length bytes). absurd (out a b)) (λ (b : at + length bytes ≤ p). put_at_behind xs bytes at p fits b) (cases_lt p (at + length bytes)))
    (cases_lt p at)

-- the same of a list that is known by an equation
pub put_here : (old new bytes : List ℕ) (at k : ℕ) → new ≡ put_at old at bytes → at + length bytes ≤ length old → k < length bytes → get_or new (at + k) 0 ≡ get_or bytes k 0
put_here old new bytes at k is fits low = ap (λ xs. get_or xs (at + k) 0) is ∙ put_at_here old bytes at k fits low

pub put_outside : (old new bytes : List ℕ) (at p : ℕ) → new ≡ put_at old at bytes → at + length bytes ≤ length old → Outside at (length bytes) p → get_or new p 0 ≡ get_or old p 0
put_outside old new bytes at p is fits out = ap (λ xs. get_or xs p 0) is ∙ put_at_outside old bytes at p fits out

-- a byte of the list is a given one, or stays
put_at_is : (old new : ℕ → ℕ) (n : ℕ) (xs bytes : List ℕ) (at p : ℕ) → ListsValues old n xs → Puts old new n at bytes → at + length bytes ≤ length xs → p < length xs → new p ≡ get_or (put_at xs at bytes) p 0
put_at_is old new n xs bytes at p s put fits low =
    let short = s.short in
    ⊎_elim
    (λ (a : p < at). put.others p (omega arith) (λ x y. omega arith) ∙ s.here p low ∙ sym (put_at_before xs bytes at p fits a))
    (λ (a : at ≤ p). ⊎_elim
    (λ (b : p < at + length bytes).
    let back : at + (p - at) ≡ p = omega arith in
    ap new (sym back) ∙ put.here (p - at) (omega arith) ∙ sym (put_at_here xs bytes at (p - at) fits (omega arith)) ∙ ap (λ k. get_or (put_at xs at bytes) k 0) back)
    (λ (b : at + length bytes ≤ p). put.others p (omega arith) (λ x y. omega arith) ∙ s.here p low ∙ sym (put_at_behind xs bytes at p fits b))
    (cases_lt p (at + length bytes)))
    (cases_lt p at)

-- bytes inside are put into the list
spells-put : (old new : ℕ → ℕ) (n : ℕ) (xs bytes : List ℕ) (at : ℕ) → ListsValues old n xs → Puts old new n at bytes → at + length bytes ≤ length xs → (1 ≤ length bytes → at + length bytes ≡ length xs → get_or bytes (length bytes - 1) 0 ≢ 0)
    → ListsValues new n (put_at xs at bytes)
spells-put old new n xs bytes at s put fits ends =
    let long : length (put_at xs at bytes) ≡ length xs = length-put_at xs bytes at fits in
    let short = s.short in
    record {
      short = omega arith;
      here = λ p low. put_at_is old new n xs bytes at p s put fits (omega arith);
      after = λ p from to. put.others p to (λ x y. omega arith) ∙ s.after p (omega arith) to;
      last = λ some z.
          let end : length (put_at xs at bytes) - 1 ≡ length xs - 1 = omega arith in
          let zero_ : get_or (put_at xs at bytes) (length xs - 1) 0 ≡ 0 = ap (λ k. get_or (put_at xs at bytes) k 0) (sym end) ∙ z in
          ⊎_elim
          (λ (a : at + length bytes < length xs). s.last (omega arith) (sym (put_at_outside xs bytes at (length xs - 1) fits (λ x y. omega arith)) ∙ zero_))
          (λ (a : length xs ≤ at + length bytes). ⊎_elim
          (λ (b : length bytes < 1). s.last (omega arith) (sym (put_at_outside xs bytes at (length xs - 1) fits (λ x y. omega arith)) ∙ zero_))
          (λ (b : 1 ≤ length bytes).
          let there : at + (length bytes - 1) ≡ length xs - 1 = omega arith in
          ends b (omega arith) (sym (put_at_here xs bytes at (length bytes - 1) fits (omega arith)) ∙ ap (λ k. get_or (put_at xs at bytes) k 0) there ∙ zero_))
          (cases_lt (length bytes) 1))
          (cases_lt (at + length bytes) (length xs));
    }

-- FILES

-- an append adds the bytes to the file's
pub appended_bytes : (old new : List ℕ) (page pages : ℕ) (log : Option PageId) (at : ℕ) (bytes : List ℕ) → Puts (file_byte old page log) (file_byte new page log) (256 * pages - 32) at bytes → at ≡ length (file_bytes old page pages log)
    → at + length bytes + 32 ≤ 256 * pages → (1 ≤ length bytes → get_or bytes (length bytes - 1) 0 ≢ 0) → file_bytes new page pages log ≡ file_bytes old page pages log ++ bytes
appended_bytes old new page pages log at bytes put end fits last =
    spelt_file new page pages log (file_bytes old page pages log ++ bytes)
    (spells-append (file_byte old page log) (file_byte new page log) (256 * pages - 32) (file_bytes old page pages log) bytes (spells_file old page pages log)
    (subst (λ k. Puts (file_byte old page log) (file_byte new page log) (256 * pages - 32) k bytes) end put) (omega arith) last)

-- an overwrite puts the bytes into the file's
pub overwritten_bytes : (old new : List ℕ) (page pages : ℕ) (log : Option PageId) (at : ℕ) (bytes : List ℕ) → Puts (file_byte old page log) (file_byte new page log) (256 * pages - 32) at bytes → at + length bytes ≤ length (file_bytes old page pages log)
    → (1 ≤ length bytes → at + length bytes ≡ length (file_bytes old page pages log) → get_or bytes (length bytes - 1) 0 ≢ 0) → file_bytes new page pages log ≡ put_at (file_bytes old page pages log) at bytes
overwritten_bytes old new page pages log at bytes put fits last =
    spelt_file new page pages log (put_at (file_bytes old page pages log) at bytes)
    (spells-put (file_byte old page log) (file_byte new page log) (256 * pages - 32) (file_bytes old page pages log) bytes at (spells_file old page pages log) put fits last)

-- what was read byte by byte is a part of the file's bytes
pub read_bytes : (image : List ℕ) (page pages : ℕ) (log : Option PageId) (at : ℕ) (into : List ℕ) → at + length into ≤ length (file_bytes image page pages log) → ((k : ℕ) → k < length into → get_or into k 0 ≡ file_byte image page log (at + k))
    → into ≡ slice_range (file_bytes image page pages log) at (at + length into)
read_bytes image page pages log at into fits is =
    let s = spells_file image page pages log in
    let long : length (slice_range (file_bytes image page pages log) at (at + length into)) ≡ at + length into - at = length_range (file_bytes image page pages log) at (at + length into) fits in
    ext_get_or 0 into (slice_range (file_bytes image page pages log) at (at + length into)) (omega arith)
    (λ k low. is k low ∙ s.here (at + k) (omega arith) ∙ sym (range_at (file_bytes image page pages log) at (at + length into) k (omega arith)))
