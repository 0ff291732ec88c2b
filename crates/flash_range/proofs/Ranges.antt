-- Laws of ranges of bytes that may cross pages.
use Rattle.std.proofs.Common.{bit_or, ◌≡◌, ℕ, zero, suc, ◌+◌, ◌-◌, ◌%◌, ◌≤◌, ◌<◌, ◌⊎◌, inl, inr, min, List, [], ◌∷◌, ◌++◌, length, take, drop, get_or, refl, ap, sym, ◌∙◌, arith, append_assoc, ⊎_elim}
use Rattle.std.proofs.lemmas.Bool.{cases_lt}
use Rattle.std.proofs.lemmas.List.{take-append-drop, drop-drop, drop_at, take_at, append_cancel_right, length-drop, get_or_append_left, get_or-append_right, get_or-take, length-take-le}
use borrow.Rule.Slice.PartMut.{put_mid}
use Rattle.afl_base.proofs.Images.{or_at_before, or_at_inside, or_at_behind}
use Rattle.afl_base.specs.Image.{or_at, or_front}
use Rattle.flash_range.specs.Range.{IsCutRange, Outside, pages_touched}
use Rattle.padded.proofs.Facts.{zero_or_more}

-- a piece that ends with its page, or with the range, touches one page more
pub touched_more : (place done n len : ℕ) → n ≡ min (len - done) (256 - (place + done) % 256) → done < len → (0 < done → done < len → (place + done) % 256 ≡ 0) → pages_touched place (done + n) ≡ pages_touched place done + 1
touched_more place zero n len e l turn = omega arith
touched_more place (suc d) n len e l turn =
    let t : (place + suc d) % 256 ≡ 0 = turn (omega arith) l in
    omega arith

-- behind such a piece a page begins, or the range ends
pub turn_more : (place done n len : ℕ) → n ≡ min (len - done) (256 - (place + done) % 256) → done + n < len → (place + (done + n)) % 256 ≡ 0
turn_more place done n len e l = omega arith

-- a piece that was read behind a front part makes it longer
pub read_more : (into piece image : List ℕ) (place done n k : ℕ) → ((j : ℕ) → j < done → get_or into j 0 ≡ get_or image (place + j) 0) → ((j : ℕ) → j < n → get_or piece j 0 ≡ get_or image (place + done + j) 0) → done ≤ length into → n ≤ length piece → (i : ℕ) → i < done + n → get_or (put_mid done k into piece) i 0 ≡ get_or image (place + i) 0
read_more into piece image place done n k front here fits some i l =
    let size : length (take done into) ≡ done = length-take-le done into fits in
    ⊎_elim
    (λ (b : i < done). get_or_append_left (take done into) _ 0 i (omega arith) ∙ get_or-take done into i 0 b ∙ front i b)
    (λ (b : done ≤ i).
    let same : place + done + (i - done) ≡ place + i = omega arith in
    get_or-append_right (take done into) _ done i 0 size b
    ∙ get_or_append_left piece _ 0 (i - done) (omega arith)
    ∙ here (i - done) (omega arith)
    ∙ ap (λ p. get_or image p 0) same)
    (cases_lt i done)

-- a byte outside of a programmed range stays
pub or_outside : (image : List ℕ) (place : ℕ) (bytes : List ℕ) (k : ℕ) → Outside place (length bytes) k → get_or (or_at image place bytes) k 0 ≡ get_or image k 0
or_outside image place bytes k outside =
    ⊎_elim
    (λ (b : k < place). or_at_before image place bytes k b)
    (λ (b : place ≤ k). ⊎_elim
    (λ (l : k < place + length bytes). absurd (outside b l))
    (λ (l : place + length bytes ≤ k). or_at_behind image place bytes k l)
    (cases_lt k (place + length bytes)))
    (cases_lt k place)

-- a byte that is programmed where a zero stood is the given one
pub or_on_zero : (image : List ℕ) (place : ℕ) (bytes : List ℕ) (k : ℕ) → k < length bytes → place + length bytes ≤ length image → get_or image (place + k) 0 ≡ 0 → get_or (or_at image place bytes) (place + k) 0 ≡ get_or bytes k 0
or_on_zero image place bytes k here fits was =
    or_at_inside image place bytes k (omega arith) here ∙ ap (λ x. bit_or x (get_or bytes k 0)) was

or_front-next : (zs xs ys : List ℕ) → length xs ≤ length zs → or_front zs (xs ++ ys) ≡ take (length xs) (or_front zs xs) ++ or_front (drop (length xs) (or_front zs xs)) ys
or_front-next [] [] ys h = refl
or_front-next [] (x ∷ xs) ys h = absurd (omega arith)
or_front-next (z ∷ zs) [] ys h = refl
or_front-next (z ∷ zs) (x ∷ xs) ys h = rw (or_front-next zs xs ys (omega arith))

-- a front part is a shorter one and what follows it
pub take_add : (xs : List ℕ) (m n : ℕ) → take (m + n) xs ≡ take m xs ++ take n (drop m xs)
take_add xs m n =
    append_cancel_right (take (m + n) xs) (take m xs ++ take n (drop m xs)) (drop (m + n) xs)
    (take-append-drop (m + n) xs
    ∙ sym (take-append-drop m xs)
    ∙ ap (λ t. take m xs ++ t) (sym (take-append-drop n (drop m xs)))
    ∙ sym (append_assoc (take m xs) (take n (drop m xs)) (drop n (drop m xs)))
    ∙ ap (λ t. take m xs ++ take n (drop m xs) ++ t) (drop-drop n m xs))

-- two programs side by side are one
pub or_at-next : (image : List ℕ) (at n : ℕ) (xs ys : List ℕ) → n ≡ length xs → at + n ≤ length image → or_at (or_at image at xs) (at + n) ys ≡ or_at image at (xs ++ ys)
unfolding or_at
or_at-next image at n xs ys e h =
    let a = take at image in
    let fs = or_front (drop at image) xs in
    let size : length (take at image) ≡ at = length-take-le at image (omega arith) in
    let rest : drop at (a ++ fs) ≡ fs = drop_at a fs at size in
    let behind : drop (at + n) (a ++ fs) ≡ drop n fs = sym (drop-drop n at (a ++ fs)) ∙ ap (λ t. drop n t) rest in
    let before : take (at + n) (a ++ fs) ≡ a ++ take n fs =
    take_add (a ++ fs) at n ∙ ap (λ t. t ++ take n (drop at (a ++ fs))) (take_at a fs at size) ∙ ap (λ t. a ++ take n t) rest in
    let joined : or_front (drop at image) (xs ++ ys) ≡ take n fs ++ or_front (drop n fs) ys = rw e (or_front-next (drop at image) xs ys (omega (arith, length-drop at image))) in
    ap (λ t. t ++ or_front (drop (at + n) (a ++ fs)) ys) before
    ∙ ap (λ t. a ++ take n fs ++ or_front t ys) behind
    ∙ append_assoc a (take n fs) (or_front (drop n fs) ys)
    ∙ ap (λ t. a ++ t) (sym joined)

-- a program goes on with the next piece
pub program_more : (image bytes : List ℕ) (place done n : ℕ) → place + length bytes ≤ length image → done + n ≤ length bytes → or_at (or_at image place (take done bytes)) (place + done) (take n (drop done bytes)) ≡ or_at image place (take (done + n) bytes)
program_more image bytes place done n h l =
    or_at-next image place done (take done bytes) (take n (drop done bytes)) (sym (length-take-le done bytes (omega arith))) (omega arith)
    ∙ ap (λ t. or_at image place t) (sym (take_add bytes done n))

-- cuts

-- a cut behind pieces that are done is a cut in the range
pub cut_more : (image mid new bytes rest : List ℕ) (place from done : ℕ) → mid ≡ or_at image place (take done bytes) → IsCutRange mid new from rest → from ≡ place + done → rest ≡ drop done bytes
    → place + length bytes ≤ length image → done < length bytes → (0 < done → (place + done) % 256 ≡ 0) → IsCutRange image new place bytes
cut_more image mid new bytes rest place from done front cut here is fits low turn =
    let long : length rest ≡ length bytes - done = ap (λ xs. length xs) is ∙ length-drop done bytes in
    let within = cut.within in
    record {
      done = done + cut.done;
      within = omega arith;
      whole = λ few one. ⊎_elim
          (λ (z : done ≡ 0). ⊎_elim (λ (n : cut.done ≡ 0). inl (omega arith)) (λ (a : cut.done ≡ length rest). inr (omega arith)) (cut.whole (omega arith) (omega arith)))
          (λ (s : 0 < done). let t = turn s in absurd (omega arith))
          (zero_or_more done);
      is = cut.is ∙ ap (λ m. or_at m from (take cut.done rest)) front ∙ ap (λ p. or_at (or_at image place (take done bytes)) p (take cut.done rest)) here
          ∙ ap (λ xs. or_at (or_at image place (take done bytes)) (place + done) (take cut.done xs)) is
          ∙ program_more image bytes place done cut.done fits (omega arith);
    }
