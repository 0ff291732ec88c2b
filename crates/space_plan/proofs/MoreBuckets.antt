-- Each key more takes at most one bucket more.
use Rattle.std.proofs.Common.{◌≡◌, ℕ, ℤ, zero, suc, ◌+◌, ◌<◌, ◌≤◌, ⊎_elim, Bool, true, false, cond, ◌==◌, List, [], ◌∷◌, ◌++◌, length, drop, ap, sym, ◌∙◌, arith, append_assoc}
use Rattle.std.specs.Prelude.{filter}
use Rattle.std.proofs.lemmas.Bool.{cases_lt}
use Rattle.std.proofs.lemmas.List.{append-nil, drop-append-le, drop_all, length-append}
use Rattle.std.proofs.lemmas.List.Elements.{filter-append}
use Rattle.db_model.specs.HashTree.{digit, onward, buckets_at, buckets}
use Rattle.db_model.proofs.Buckets.{more, one, one_of_four}

-- what goes on by a digit has at most this key more
record OneMore (level d : ℕ) (keys : List ℤ) (key : ℤ) : Type 0 where
  comes : Bool
  same : onward level d (keys ++ key ∷ []) ≡ onward level d keys ++ cond comes (key ∷ []) []
  few : one comes ≤ one (digit key level == d)

one_more : (level d : ℕ) (keys : List ℤ) (key : ℤ) → OneMore level d keys key
unfolding one
one_more level d keys key = ⊎_elim
    (λ (short : length keys < 32).
    record {
      comes = false;
      same = ap (filter (λ k. digit k level == d)) (drop_all 32 (keys ++ key ∷ []) (omega (arith, short, length-append keys (key ∷ []))) ∙ sym (drop_all 32 keys (omega (arith, short))))
          ∙ sym (append-nil (onward level d keys));
      few = omega arith;
    })
    (λ (long : 32 ≤ length keys).
    record {
      comes = digit key level == d;
      same = ap (filter (λ k. digit k level == d)) (drop-append-le 32 keys (key ∷ []) long) ∙ filter-append (λ k. digit k level == d) (drop 32 keys) (key ∷ []);
      few = omega arith;
    })
    (cases_lt (length keys) 32)

-- the same of an optional key
grown_by : (b : Bool) (above level : ℕ) (keys : List ℤ) (key : ℤ) → buckets_at above level (keys ++ key ∷ []) ≤ buckets_at above level keys + 1 → buckets_at above level (keys ++ cond b (key ∷ []) []) ≤ buckets_at above level keys + one b
unfolding one
grown_by true above level keys key h = h
grown_by false above level keys key h = rw (append-nil keys) (omega arith)

-- what a child has more
by_digit : (above level : ℕ) (all : List ℤ) (key : ℤ) (d : ℕ) → ((xs : List ℤ) → buckets_at above (level + 1) (xs ++ key ∷ []) ≤ buckets_at above (level + 1) xs + 1)
    → buckets_at above (level + 1) (onward level d (all ++ key ∷ [])) ≤ buckets_at above (level + 1) (onward level d all) + one (digit key level == d)
by_digit above level all key d child =
    let m = one_more level d all key in
    let few = m.few in
    let g = grown_by m.comes above (level + 1) (onward level d all) key (child (onward level d all)) in
    rw m.same (omega (arith, few, g))

bucket_more : (above level : ℕ) (keys : List ℤ) (key : ℤ) → buckets_at above level (keys ++ key ∷ []) ≤ buckets_at above level keys + 1
bucket_more zero level keys key = let e = length-append keys (key ∷ []) in omega (arith, e)
bucket_more (suc zero) level [] key = omega arith
bucket_more (suc (suc above)) level [] key = omega arith
bucket_more (suc above) level (k ∷ keys) key =
    let all : List ℤ = k ∷ keys in
    let a = by_digit above level all key 0 (λ xs. bucket_more above (level + 1) xs key) in
    let b = by_digit above level all key 1 (λ xs. bucket_more above (level + 1) xs key) in
    let c = by_digit above level all key 2 (λ xs. bucket_more above (level + 1) xs key) in
    let d = by_digit above level all key 3 (λ xs. bucket_more above (level + 1) xs key) in
    let four = one_of_four (digit key level) in
    omega (arith, a, b, c, d, four)

buckets_more : (keys : List ℤ) (key : ℤ) → buckets (keys ++ key ∷ []) ≤ buckets keys + 1
buckets_more keys key = bucket_more 4 0 keys key

-- the same of several keys
pub buckets-append : (keys more : List ℤ) → buckets (keys ++ more) ≤ buckets keys + length more
buckets-append keys [] = rw (append-nil keys) (omega arith)
buckets-append keys (key ∷ more) =
    let rest = buckets-append (keys ++ key ∷ []) more in
    let one = buckets_more keys key in
    rw (← (append_assoc keys (key ∷ []) more)) (omega (arith, rest, one))
