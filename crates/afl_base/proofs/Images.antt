-- What programming and erasing leave of an image: its length, its bytes, its pages and its sectors.
use Rattle.std.proofs.Common.{◌≡◌, ◌≢◌, ℕ, ◌+◌, ◌-◌, ◌*◌, ◌/◌, ◌%◌, ◌<◌, ◌≤◌, ◌⊎◌, inl, inr, suc, zero, List, [], ◌∷◌, ◌++◌, length, take, drop, replicate, get_or, slice_range, bit_or, refl, sym, ap, ◌∙◌, arith, ⊎_elim}
use Rattle.std.proofs.lemmas.List.{ext_get_or, length-append, length-take, length-drop, length-replicate, get_or-take, get_or-drop, get_or_append_left, get_or-append_right, get_or-replicate, get_or_past}
use Rattle.std.proofs.lemmas.Bool.{cases_lt}
use Rattle.afl_base.specs.Image.{or_front, or_at, zeros_at, page_bytes, sector_bytes}

-- a part of a list

pub length_range : (xs : List ℕ) (a b : ℕ) → b ≤ length xs → length (slice_range xs a b) ≡ b - a
length_range xs a b fits = omega (arith, length-take (b - a) (drop a xs), length-drop a xs)

pub range_at : (xs : List ℕ) (a b k : ℕ) → a + k < b → get_or (slice_range xs a b) k 0 ≡ get_or xs (a + k) 0
range_at xs a b k within = get_or-take (b - a) (drop a xs) k 0 (omega arith) ∙ get_or-drop a xs k 0

-- parts of two lists of one length are the same where the bytes in them are
pub range_same : (xs ys : List ℕ) (a b : ℕ) → length xs ≡ length ys → ((k : ℕ) → a ≤ k → k < b → get_or xs k 0 ≡ get_or ys k 0) → slice_range xs a b ≡ slice_range ys a b
range_same xs ys a b long same =
    ext_get_or 0 (slice_range xs a b) (slice_range ys a b) (omega (arith, length-take (b - a) (drop a xs), length-drop a xs, length-take (b - a) (drop a ys), length-drop a ys)) (λ k h.
    let within : a + k < b = omega (arith, length-take (b - a) (drop a xs)) in
    range_at xs a b k within ∙ same (a + k) (omega arith) within ∙ sym (range_at ys a b k within))

-- programming

pub length_or_front : (xs bs : List ℕ) → length (or_front xs bs) ≡ length xs
length_or_front [] bs = refl
length_or_front (x ∷ xs) [] = refl
length_or_front (x ∷ xs) (b ∷ bs) = ap suc (length_or_front xs bs)

pub or_front_inside : (xs bs : List ℕ) (k : ℕ) → k < length xs → k < length bs → get_or (or_front xs bs) k 0 ≡ bit_or (get_or xs k 0) (get_or bs k 0)
or_front_inside [] bs k within given = absurd (omega arith)
or_front_inside (x ∷ xs) [] k within given = absurd (omega arith)
or_front_inside (x ∷ xs) (b ∷ bs) zero within given = refl
or_front_inside (x ∷ xs) (b ∷ bs) (suc k) within given = or_front_inside xs bs k (omega arith) (omega arith)

pub or_front_behind : (xs bs : List ℕ) (k : ℕ) → length bs ≤ k → get_or (or_front xs bs) k 0 ≡ get_or xs k 0
or_front_behind [] bs k behind = refl
or_front_behind (x ∷ xs) [] k behind = refl
or_front_behind (x ∷ xs) (b ∷ bs) zero behind = absurd (omega arith)
or_front_behind (x ∷ xs) (b ∷ bs) (suc k) behind = or_front_behind xs bs k (omega arith)

pub length_or_at : (image : List ℕ) (at : ℕ) (bytes : List ℕ) → length (or_at image at bytes) ≡ length image
unfolding or_at
length_or_at image at bytes =
    omega (arith, length-append (take at image) (or_front (drop at image) bytes), length-take at image, length_or_front (drop at image) bytes, length-drop at image)

pub or_at_before : (image : List ℕ) (at : ℕ) (bytes : List ℕ) (k : ℕ) → k < at → get_or (or_at image at bytes) k 0 ≡ get_or image k 0
unfolding or_at
or_at_before image at bytes k before =
    ⊎_elim
    (λ (w : k < length image).
    let here : k < length (take at image) = omega (arith, length-take at image) in
    get_or_append_left (take at image) (or_front (drop at image) bytes) 0 k here ∙ get_or-take at image k 0 before)
    (λ (w : length image ≤ k).
    get_or_past (or_at image at bytes) k 0 (omega (arith, length_or_at image at bytes)) ∙ sym (get_or_past image k 0 w))
    (cases_lt k (length image))

pub or_at_inside : (image : List ℕ) (at : ℕ) (bytes : List ℕ) (k : ℕ) → at + k < length image → k < length bytes → get_or (or_at image at bytes) (at + k) 0 ≡ bit_or (get_or image (at + k) 0) (get_or bytes k 0)
unfolding or_at
or_at_inside image at bytes k within given =
    get_or-append_right (take at image) (or_front (drop at image) bytes) at (at + k) 0 (omega (arith, length-take at image)) (omega arith)
    ∙ (let e : at + k - at ≡ k = omega arith in rw e refl)
    ∙ or_front_inside (drop at image) bytes k (omega (arith, length-drop at image)) given
    ∙ ap (λ x. bit_or x (get_or bytes k 0)) (get_or-drop at image k 0)

pub or_at_behind : (image : List ℕ) (at : ℕ) (bytes : List ℕ) (k : ℕ) → at + length bytes ≤ k → get_or (or_at image at bytes) k 0 ≡ get_or image k 0
unfolding or_at
or_at_behind image at bytes k behind =
    ⊎_elim
    (λ (w : k < length image).
    let e : at + (k - at) ≡ k = omega arith in
    get_or-append_right (take at image) (or_front (drop at image) bytes) at k 0 (omega (arith, length-take at image)) (omega arith)
    ∙ or_front_behind (drop at image) bytes (k - at) (omega arith)
    ∙ get_or-drop at image (k - at) 0 ∙ ap (λ i. get_or image i 0) e)
    (λ (w : length image ≤ k).
    get_or_past (or_at image at bytes) k 0 (omega (arith, length_or_at image at bytes)) ∙ sym (get_or_past image k 0 w))
    (cases_lt k (length image))

-- a part of the image that was not programmed stays
pub or_at_range : (image : List ℕ) (at : ℕ) (bytes : List ℕ) (a b : ℕ) → (b ≤ at) ⊎ (at + length bytes ≤ a) → slice_range (or_at image at bytes) a b ≡ slice_range image a b
or_at_range image at bytes a b apart =
    range_same (or_at image at bytes) image a b (length_or_at image at bytes) (λ k from to.
    ⊎_elim
    (λ (w : b ≤ at). or_at_before image at bytes k (omega arith))
    (λ (w : at + length bytes ≤ a). or_at_behind image at bytes k (omega arith))
    apart)

-- the page that was programmed
pub or_at_page : (image : List ℕ) (page at : ℕ) (bytes : List ℕ) → 256 * page + 256 ≤ length image → at + length bytes ≤ 256 → page_bytes (or_at image (256 * page + at) bytes) page ≡ or_at (page_bytes image page) at bytes
or_at_page image page at bytes exists fits =
    let place : ℕ = 256 * page + at in
    let new : List ℕ = or_at image (256 * page + at) bytes in
    let long : length (page_bytes image page) ≡ 256 = omega (arith, length_range image (256 * page) (256 * page + 256) exists) in
    let long_new : length (page_bytes new page) ≡ 256 = omega (arith, length_range new (256 * page) (256 * page + 256) (omega (arith, length_or_at image (256 * page + at) bytes))) in
    ext_get_or 0 (page_bytes new page) (or_at (page_bytes image page) at bytes) (omega (arith, length_or_at (page_bytes image page) at bytes)) (λ k h.
    let within : 256 * page + k < 256 * page + 256 = omega arith in
    let old : get_or (page_bytes image page) k 0 ≡ get_or image (256 * page + k) 0 = range_at image (256 * page) (256 * page + 256) k within in
    range_at new (256 * page) (256 * page + 256) k within
    ∙ ⊎_elim
    (λ (before : k < at).
    or_at_before image (256 * page + at) bytes (256 * page + k) (omega arith) ∙ sym old ∙ sym (or_at_before (page_bytes image page) at bytes k before))
    (λ (from : at ≤ k). ⊎_elim
    (λ (w : k < at + length bytes).
    let i : ℕ = k - at in
    let e : 256 * page + at + (k - at) ≡ 256 * page + k = omega arith in
    let f : at + (k - at) ≡ k = omega arith in
    ap (λ j. get_or new j 0) (sym e)
    ∙ or_at_inside image (256 * page + at) bytes (k - at) (omega arith) (omega arith)
    ∙ ap (λ j. bit_or (get_or image j 0) (get_or bytes (k - at) 0)) e
    ∙ ap (λ x. bit_or x (get_or bytes (k - at) 0)) (sym old ∙ ap (λ j. get_or (page_bytes image page) j 0) (sym f))
    ∙ sym (or_at_inside (page_bytes image page) at bytes (k - at) (omega arith) (omega arith))
    ∙ ap (λ j. get_or (or_at (page_bytes image page) at bytes) j 0) f)
    (λ (w : at + length bytes ≤ k).
    or_at_behind image (256 * page + at) bytes (256 * page + k) (omega arith) ∙ sym old ∙ sym (or_at_behind (page_bytes image page) at bytes k w))
    (cases_lt k (at + length bytes)))
    (cases_lt k at))

pub or_at_other_page : (image : List ℕ) (page at : ℕ) (bytes : List ℕ) (p : ℕ) → at + length bytes ≤ 256 → p ≢ page → page_bytes (or_at image (256 * page + at) bytes) p ≡ page_bytes image p
or_at_other_page image page at bytes p fits other =
    or_at_range image (256 * page + at) bytes (256 * p) (256 * p + 256)
    (⊎_elim (λ (w : p < page). inl (omega arith)) (λ (w : page ≤ p). let less : page < p = omega arith in inr (omega arith)) (cases_lt p page))

pub or_at_other_sector : (image : List ℕ) (page at : ℕ) (bytes : List ℕ) (s : ℕ) → at + length bytes ≤ 256 → s ≢ page / 16 → sector_bytes (or_at image (256 * page + at) bytes) s ≡ sector_bytes image s
or_at_other_sector image page at bytes s fits other =
    or_at_range image (256 * page + at) bytes (4096 * s) (4096 * s + 4096)
    (⊎_elim (λ (w : s < page / 16). inl (omega arith)) (λ (w : page / 16 ≤ s). let less : page / 16 < s = omega arith in inr (omega arith)) (cases_lt s (page / 16)))

-- erasing

pub length_zeros_at : (image : List ℕ) (at n : ℕ) → at + n ≤ length image → length (zeros_at image at n) ≡ length image
unfolding zeros_at
length_zeros_at image at n fits =
    omega (arith, length-append (take at image ++ replicate n 0) (drop (at + n) image), length-append (take at image) (replicate n 0), length-take at image, length-replicate {A = ℕ} n 0, length-drop (at + n) image)

front_long : (image : List ℕ) (at n : ℕ) → at + n ≤ length image → length (take at image ++ replicate n 0) ≡ at + n
front_long image at n fits = omega (arith, length-append (take at image) (replicate n 0), length-take at image, length-replicate {A = ℕ} n 0)

pub zeros_at_before : (image : List ℕ) (at n k : ℕ) → at + n ≤ length image → k < at → get_or (zeros_at image at n) k 0 ≡ get_or image k 0
unfolding zeros_at
zeros_at_before image at n k fits before =
    get_or_append_left (take at image ++ replicate n 0) (drop (at + n) image) 0 k (omega (arith, front_long image at n fits))
    ∙ get_or_append_left (take at image) (replicate n 0) 0 k (omega (arith, length-take at image))
    ∙ get_or-take at image k 0 before

pub zeros_at_inside : (image : List ℕ) (at n k : ℕ) → at + n ≤ length image → at ≤ k → k < at + n → get_or (zeros_at image at n) k 0 ≡ 0
unfolding zeros_at
zeros_at_inside image at n k fits from to =
    get_or_append_left (take at image ++ replicate n 0) (drop (at + n) image) 0 k (omega (arith, front_long image at n fits))
    ∙ get_or-append_right (take at image) (replicate n 0) at k 0 (omega (arith, length-take at image)) from
    ∙ get_or-replicate n (k - at) 0 0 (omega arith)

pub zeros_at_behind : (image : List ℕ) (at n k : ℕ) → at + n ≤ length image → at + n ≤ k → get_or (zeros_at image at n) k 0 ≡ get_or image k 0
unfolding zeros_at
zeros_at_behind image at n k fits behind =
    let e : at + n + (k - (at + n)) ≡ k = omega arith in
    get_or-append_right (take at image ++ replicate n 0) (drop (at + n) image) (at + n) k 0 (front_long image at n fits) behind
    ∙ get_or-drop (at + n) image (k - (at + n)) 0
    ∙ ap (λ i. get_or image i 0) e

-- a part of the image that was not erased stays
pub zeros_at_range : (image : List ℕ) (at n a b : ℕ) → at + n ≤ length image → (b ≤ at) ⊎ (at + n ≤ a) → slice_range (zeros_at image at n) a b ≡ slice_range image a b
zeros_at_range image at n a b fits apart =
    range_same (zeros_at image at n) image a b (length_zeros_at image at n fits) (λ k from to.
    ⊎_elim
    (λ (w : b ≤ at). zeros_at_before image at n k fits (omega arith))
    (λ (w : at + n ≤ a). zeros_at_behind image at n k fits (omega arith))
    apart)

-- a part of the image that was erased is zeros
pub zeros_at_zeros : (image : List ℕ) (at n a b : ℕ) → at + n ≤ length image → at ≤ a → b ≤ at + n → slice_range (zeros_at image at n) a b ≡ replicate (b - a) 0
zeros_at_zeros image at n a b fits from to =
    let new : List ℕ = zeros_at image at n in
    let long : length (slice_range new a b) ≡ b - a = length_range new a b (omega (arith, length_zeros_at image at n fits)) in
    ext_get_or 0 (slice_range new a b) (replicate (b - a) 0) (omega (arith, length-replicate {A = ℕ} (b - a) 0)) (λ k h.
    range_at new a b k (omega arith)
    ∙ zeros_at_inside image at n (a + k) fits (omega arith) (omega arith)
    ∙ sym (get_or-replicate (b - a) k 0 0 (omega arith)))

pub erased_sector : (image : List ℕ) (sector : ℕ) → 4096 * sector + 4096 ≤ length image → sector_bytes (zeros_at image (4096 * sector) 4096) sector ≡ replicate 4096 0
erased_sector image sector exists =
    let e : 4096 * sector + 4096 - 4096 * sector ≡ 4096 = omega arith in
    zeros_at_zeros image (4096 * sector) 4096 (4096 * sector) (4096 * sector + 4096) exists (omega arith) (omega arith) ∙ ap (λ n. replicate n 0) e

pub erased_other_sector : (image : List ℕ) (sector s : ℕ) → 4096 * sector + 4096 ≤ length image → s ≢ sector → sector_bytes (zeros_at image (4096 * sector) 4096) s ≡ sector_bytes image s
erased_other_sector image sector s exists other =
    zeros_at_range image (4096 * sector) 4096 (4096 * s) (4096 * s + 4096) exists
    (⊎_elim (λ (w : s < sector). inl (omega arith)) (λ (w : sector ≤ s). let less : sector < s = omega arith in inr (omega arith)) (cases_lt s sector))

pub erased_page : (image : List ℕ) (sector p : ℕ) → 4096 * sector + 4096 ≤ length image → p / 16 ≡ sector → page_bytes (zeros_at image (4096 * sector) 4096) p ≡ replicate 256 0
erased_page image sector p exists here =
    let e : 256 * p + 256 - 256 * p ≡ 256 = omega arith in
    zeros_at_zeros image (4096 * sector) 4096 (256 * p) (256 * p + 256) exists (omega arith) (omega arith) ∙ ap (λ n. replicate n 0) e

pub erased_other_page : (image : List ℕ) (sector p : ℕ) → 4096 * sector + 4096 ≤ length image → p / 16 ≢ sector → page_bytes (zeros_at image (4096 * sector) 4096) p ≡ page_bytes image p
erased_other_page image sector p exists other =
    zeros_at_range image (4096 * sector) 4096 (256 * p) (256 * p + 256) exists
    (⊎_elim (λ (w : p / 16 < sector). inl (omega arith)) (λ (w : sector ≤ p / 16). let less : sector < p / 16 = omega arith in inr (omega arith)) (cases_lt (p / 16) sector))

-- pages and sectors

-- a byte lies in its page
pub byte_in_page : (image : List ℕ) (k : ℕ) → get_or image k 0 ≡ get_or (page_bytes image (k / 256)) (k % 256) 0
byte_in_page image k =
    let e : 256 * (k / 256) + k % 256 ≡ k = omega arith in
    ap (λ i. get_or image i 0) (sym e) ∙ sym (range_at image (256 * (k / 256)) (256 * (k / 256) + 256) (k % 256) (omega arith))

-- what is read from a page lies in the page
pub range_in_page : (image : List ℕ) (page a b : ℕ) → a ≤ b → b ≤ 256 → 256 * page + 256 ≤ length image → slice_range image (256 * page + a) (256 * page + b) ≡ slice_range (page_bytes image page) a b
range_in_page image page a b order fits exists =
    let long : length (page_bytes image page) ≡ 256 = omega (arith, length_range image (256 * page) (256 * page + 256) exists) in
    let l : length (slice_range image (256 * page + a) (256 * page + b)) ≡ b - a = omega (arith, length_range image (256 * page + a) (256 * page + b) (omega arith)) in
    let m : length (slice_range (page_bytes image page) a b) ≡ b - a = length_range (page_bytes image page) a b (omega arith) in
    ext_get_or 0 (slice_range image (256 * page + a) (256 * page + b)) (slice_range (page_bytes image page) a b) (omega arith) (λ k h.
    let e : 256 * page + a + k ≡ 256 * page + (a + k) = omega arith in
    range_at image (256 * page + a) (256 * page + b) k (omega arith)
    ∙ ap (λ i. get_or image i 0) e
    ∙ sym (range_at image (256 * page) (256 * page + 256) (a + k) (omega arith))
    ∙ sym (range_at (page_bytes image page) a b k (omega arith)))

-- a byte that is the same in two lists is the same once both are programmed
pub or_alike : (xs ys : List ℕ) (at : ℕ) (bytes : List ℕ) (k : ℕ) → k < length xs → k < length ys → get_or xs k 0 ≡ get_or ys k 0 → get_or (or_at xs at bytes) k 0 ≡ get_or (or_at ys at bytes) k 0
or_alike xs ys at bytes k less few same =
    ⊎_elim
    (λ (l : k < at). or_at_before xs at bytes k l ∙ same ∙ sym (or_at_before ys at bytes k l))
    (λ (l : at ≤ k). ⊎_elim
    (λ (h : k < at + length bytes).
    let e : at + (k - at) ≡ k = omega (arith, l) in
    ap (λ j. get_or (or_at xs at bytes) j 0) (sym e)
    ∙ or_at_inside xs at bytes (k - at) (omega (arith, e, less)) (omega (arith, l, h))
    ∙ ap (λ j. bit_or (get_or xs j 0) (get_or bytes (k - at) 0)) e
    ∙ ap (λ b. bit_or b (get_or bytes (k - at) 0)) same
    ∙ ap (λ j. bit_or (get_or ys j 0) (get_or bytes (k - at) 0)) (sym e)
    ∙ sym (or_at_inside ys at bytes (k - at) (omega (arith, e, few)) (omega (arith, l, h)))
    ∙ ap (λ j. get_or (or_at ys at bytes) j 0) e)
    (λ (h : at + length bytes ≤ k). or_at_behind xs at bytes k h ∙ same ∙ sym (or_at_behind ys at bytes k h))
    (cases_lt k (at + length bytes)))
    (cases_lt k at)
