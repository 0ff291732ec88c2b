-- Rows that wait for the draft: what is written, and what stands behind it.
use Rattle.std.proofs.Common.{◌≡◌, ◌≢◌, sym, ap, ◌∙◌, ℕ, min, ◌+◌, ◌-◌, ◌≤◌, List, [], ◌++◌, length, take, drop, replicate, arith}
use Rattle.std.proofs.lemmas.List.{drop-drop, drop-replicate, length-append, length-drop, length-replicate, length-take, take_all, take-append-drop}
use Rattle.afl_base.specs.Fields.{put_at}
use Rattle.afl_base.proofs.FieldLaws.{length-put_at}
use Rattle.afl_base.proofs.PutLaws.{put_at-put_at, put_at_nothing}
use Rattle.tuple_file.proofs.Puts.{behind-put_at}

-- a draft with zeros from a place on has them behind what is written there
pub free_behind : (draft after bytes : List ℕ) (at n : ℕ) → drop at draft ≡ replicate (length draft - at) 0 → at + length bytes ≤ length draft → n ≡ length bytes → after ≡ put_at draft at bytes
    → drop (at + n) after ≡ replicate (length after - (at + n)) 0
free_behind draft after bytes at n free inside is written =
    let long : length after ≡ length draft = ap (λ xs. length xs) written ∙ length-put_at draft bytes at inside in
    let rest : length draft - at - n ≡ length after - (at + n) = omega (arith, long) in
    ap (drop (at + n)) written
    ∙ behind-put_at draft bytes at (at + n) (omega (arith, is)) (omega (arith, inside))
    ∙ sym (drop-drop n at draft)
    ∙ ap (drop n) free
    ∙ drop-replicate n (length draft - at) 0
    ∙ ap (λ k. replicate k 0) rest

-- what waited is written: the draft is what it was to be
pub written_all : (draft waited waits : List ℕ) (at : ℕ) → waits ≡ [] → draft ≡ waited → put_at draft at waits ≡ waited
written_all draft waited waits at none is = ap (put_at draft at) none ∙ put_at_nothing draft at ∙ is

-- some bytes more wait
pub put_behind_waiting : (draft waits more all whole : List ℕ) (at to next : ℕ) → to ≡ at → all ≡ waits ++ more → at + length waits ≡ next → next ≤ length draft → put_at draft at waits ≡ whole
    → put_at draft to all ≡ put_at whole next more
put_behind_waiting draft waits more all whole at to next here is end inside same =
    ap (λ n. put_at draft n all) here ∙ ap (put_at draft at) is
    ∙ sym (put_at-put_at draft waits more at next (sym end) inside)
    ∙ ap (λ d. put_at d next more) same

-- a row waits whole, where all of it fits its page
pub put_in_page : (draft waits row all whole : List ℕ) (at to next fits : ℕ) → to ≡ at → all ≡ waits ++ take fits row → length row ≤ fits → at + length waits ≡ next → next ≤ length draft → put_at draft at waits ≡ whole
    → put_at draft to all ≡ put_at whole next row
put_in_page draft waits row all whole at to next fits here is long end inside same =
    put_behind_waiting draft waits row all whole at to next here (is ∙ ap (λ xs. waits ++ xs) (take_all fits row long)) end inside same

-- it does, where its front leaves room in the page
pub fits_in_page : (waits row all : List ℕ) (room left page fits : ℕ) → all ≡ waits ++ take fits row → fits ≡ min (length row) room → room + length waits ≡ page → left + length all ≡ page → left ≢ 0 → length row ≤ fits
fits_in_page waits row all room left page fits is least before behind some =
    omega (arith, least, before, behind, some, ap (λ xs. length xs) is, length-append waits (take fits row), length-take fits row)

-- else its front goes out with the page, and the rest waits
pub put_over_page : (draft waits row all whole written none rest : List ℕ) (at to next fits end from : ℕ) → to ≡ at → all ≡ waits ++ take fits row → at + length waits ≡ next → next + length row ≤ length draft → put_at draft at waits ≡ whole
    → written ≡ put_at draft to all → end ≡ to + length all → from ≡ end → none ≡ [] → rest ≡ none ++ take (length row - fits) (drop fits row) → length whole ≡ length draft
    → put_at written from rest ≡ put_at whole next row
put_over_page draft waits row all whole written none rest at to next fits end from here is upto inside same out ends goes empty left size =
    let front : List ℕ = take fits row in
    let part : length front ≡ min fits (length row) = length-take fits row in
    let first : written ≡ put_at whole next front = out ∙ put_behind_waiting draft waits front all whole at to next here is upto (omega (arith, inside)) same in
    let behind : rest ≡ drop fits row = left ∙ ap (λ xs. xs ++ take (length row - fits) (drop fits row)) empty ∙ take_all (length row - fits) (drop fits row) (omega (arith, length-drop fits row)) in
    let many : length all ≡ length waits + length front = ap (λ xs. length xs) is ∙ length-append waits front in
    let place : from ≡ next + length front = omega (arith, goes, ends, here, upto, many) in
    ap (λ d. put_at d from rest) first
    ∙ ap (put_at (put_at whole next front) from) behind
    ∙ put_at-put_at whole front (drop fits row) next from place (omega (arith, inside, size, place, part))
    ∙ ap (put_at whole next) (take-append-drop fits row)

-- ---- before the first row

pub free_none : (draft : List ℕ) (n at : ℕ) → draft ≡ replicate n 0 → drop at draft ≡ replicate (length draft - at) 0
free_none draft n at is =
    let long : n ≡ length draft = sym (length-replicate n 0) ∙ sym (ap (λ xs. length xs) is) in
    ap (drop at) is ∙ drop-replicate at n 0 ∙ ap (λ k. replicate (k - at) 0) long

pub gathered_none : (draft waits zeros : List ℕ) (at : ℕ) → waits ≡ [] → draft ≡ zeros → put_at draft at waits ≡ zeros
gathered_none draft waits zeros at none is = written_all draft zeros waits at none is
