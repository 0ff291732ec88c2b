-- A hash table that no index has, and how many indexes are hash tables.
use Rattle.std.proofs.Common.{◌≡◌, ◌≢◌, ℕ, zero, suc, ◌+◌, ◌<◌, ◌≤◌, ◌⊎◌, inl, inr, Bool, true, false, ◌&&◌, cond, List, [], ◌∷◌, length, map, filter, get_or, Option, Some, None, refl, sym, subst, arith}
use Rattle.std.specs.Prelude.{nat_le, nat_lt, not, option_map}
use Rattle.std.proofs.Math.Logic.{⊎_elim}
use Rattle.std.proofs.lemmas.Bool.{cases_lt}
use Rattle.std.proofs.lemmas.Bool.Decides.{nat_tests}
use Rattle.db_model.specs.Catalog.{Index}
use Rattle.db_model.specs.Database.{is_hash_table, most_tables, used_things}
use Rattle.index_set.specs.declared.info.Access.{Access}
use Rattle.index_set.specs.declared.info.Access.TheVariants.{Order, Tree, Table}
use Rattle.index_set.specs.declared.info.TableId.{TableId}
use Rattle.index_set.specs.declared.info.TableId.TheVariants.{First, Second}
use Rattle.index_set.specs.Inserts.{IsElsewhere}
use Rattle.index_set.specs.Plans.{access_kind}
use Rattle.index_set.specs.Tables.{HasTable, IsTable, number}
use Rattle.session_model.specs.declared.held.Indexed.{Indexed}
use Rattle.session_model.specs.Indexed.{index_known}
use Rattle.session_indexes.specs.Made.{AreElsewhere, HaveTables, IsNobodys}
use Rattle.session_indexes.specs.Sites.{free_table, is_this_table, is_table_free, is_table_taken}
use Rattle.padded.proofs.Facts.{true_or_false}

-- how many indexes of a list have a table
one : TableId → Access → ℕ
one First (Table First) = 1
one Second (Table Second) = 1
one number _ = 0

count : TableId → List (Option Indexed) → ℕ
count number [] = 0
count number (None ∷ xs) = count number xs
count number (Some x ∷ xs) = one number x.access + count number xs

tables_in : List (Option Indexed) → ℕ
tables_in xs = length (filter is_hash_table (used_things (map (option_map index_known) xs)))

sum_at : (access : Access) (r a : ℕ) (rest : List Index)
    → length (filter is_hash_table (record { kind = access_kind access; relation = r; attribute = a } ∷ rest)) ≡ (one First access + one Second access) + length (filter is_hash_table rest)
unfolding one
sum_at Order r a rest = omega arith
sum_at (Tree file) r a rest = omega arith
sum_at (Table First) r a rest = omega arith
sum_at (Table Second) r a rest = omega arith

sum : (xs : List (Option Indexed)) → tables_in xs ≡ count First xs + count Second xs
unfolding tables_in count
sum [] = refl
sum (None ∷ xs) = sum xs
sum (Some x ∷ xs) = let head = sum_at x.access x.relation x.attribute (used_things (map (option_map index_known) xs)) in let rest = sum xs in omega (arith, head, rest)

-- ---- one table

elsewhere_of : (number : TableId) (access : Access) → is_this_table number access ≡ false → IsElsewhere (Table number) access
elsewhere_of number Order e = tt
elsewhere_of number (Tree file) e = tt
elsewhere_of First (Table First) e = absurd (cc)
elsewhere_of First (Table Second) e = tt
elsewhere_of Second (Table First) e = tt
elsewhere_of Second (Table Second) e = absurd (cc)

none_of : (number : TableId) (access : Access) → is_this_table number access ≡ false → one number access ≡ 0
unfolding one
none_of number Order e = elim number as (λ n. one n Order ≡ 0) [ First ↦ refl | Second ↦ refl ]
none_of number (Tree file) e = elim number as (λ n. one n (Tree file) ≡ 0) [ First ↦ refl | Second ↦ refl ]
none_of First (Table First) e = absurd (cc)
none_of First (Table Second) e = refl
none_of Second (Table First) e = refl
none_of Second (Table Second) e = absurd (cc)

some_of : (number : TableId) (access : Access) → is_this_table number access ≡ true → one number access ≡ 1
unfolding one
some_of First Order e = absurd (cc)
some_of Second Order e = absurd (cc)
some_of First (Tree file) e = absurd (cc)
some_of Second (Tree file) e = absurd (cc)
some_of First (Table First) e = refl
some_of First (Table Second) e = absurd (cc)
some_of Second (Table First) e = absurd (cc)
some_of Second (Table Second) e = refl

-- an index of the table, and one elsewhere
other_of : (number : TableId) (a b : Access) → is_this_table number a ≡ true → IsElsewhere a b → is_this_table number b ≡ false
other_of First Order b e h = absurd (cc)
other_of Second Order b e h = absurd (cc)
other_of First (Tree file) b e h = absurd (cc)
other_of Second (Tree file) b e h = absurd (cc)
other_of First (Table Second) b e h = absurd (cc)
other_of Second (Table First) b e h = absurd (cc)
other_of First (Table First) Order e h = refl
other_of First (Table First) (Tree file) e h = refl
other_of First (Table First) (Table First) e h = absurd h
other_of First (Table First) (Table Second) e h = refl
other_of Second (Table Second) Order e h = refl
other_of Second (Table Second) (Tree file) e h = refl
other_of Second (Table Second) (Table First) e h = refl
other_of Second (Table Second) (Table Second) e h = absurd h

-- ---- the lists

-- of a search that finds nothing
not_taken : (b rest : Bool) → cond b true rest ≡ false → (b ≡ false) × (rest ≡ false)
not_taken true rest e = absurd (cc)
not_taken false rest e = (refl, e)

some_taken : (b rest : Bool) → cond b true rest ≡ true → (b ≡ true) ⊎ (rest ≡ true)
some_taken true rest e = inl refl
some_taken false rest e = inr e

same_index : (x y : Indexed) → Some x ≡ Some y → x ≡ y
same_index x y e = cc

none_counted : (number : TableId) (xs : List (Option Indexed)) → is_table_taken number xs ≡ false → count number xs ≡ 0
unfolding count
none_counted number [] e = refl
none_counted number (None ∷ xs) e = none_counted number xs e
none_counted number (Some x ∷ xs) e =
    let parts = not_taken (is_this_table number x.access) (is_table_taken number xs) e in
    let head = none_of number x.access parts.0 in
    let rest = none_counted number xs parts.1 in
    omega (arith, head, rest)

some_counted : (number : TableId) (xs : List (Option Indexed)) → is_table_taken number xs ≡ true → 1 ≤ count number xs
unfolding count
some_counted number [] e = absurd (cc)
some_counted number (None ∷ xs) e = some_counted number xs e
some_counted number (Some x ∷ xs) e =
    ⊎_elim
    (λ here. let head = some_of number x.access here in omega (arith, head))
    (λ behind. let rest = some_counted number xs behind in omega (arith, rest))
    (some_taken (is_this_table number x.access) (is_table_taken number xs) e)

-- where no two have one table, at most one has it
away_taken : (number : TableId) (xs : List (Option Indexed)) → ((j : ℕ) (y : Indexed) → get_or xs j None ≡ Some y → is_this_table number y.access ≡ false) → is_table_taken number xs ≡ false
away_taken number [] h = refl
away_taken number (None ∷ xs) h = away_taken number xs (λ j y e. h (suc j) y e)
away_taken number (Some x ∷ xs) h = let head = h zero x refl in let rest = away_taken number xs (λ j y e. h (suc j) y e) in rw (head, rest) refl

one_counted : (number : TableId) (xs : List (Option Indexed)) → AreElsewhere xs → count number xs ≤ 1
unfolding count
one_counted number [] h = omega arith
one_counted number (None ∷ xs) h = one_counted number xs (λ i j x y other a b. h (suc i) (suc j) x y (λ e. other (omega (arith, e))) a b)
one_counted number (Some x ∷ xs) h =
    ⊎_elim
    (λ here.
    let head = some_of number x.access here in
    let rest = none_counted number xs (away_taken number xs (λ j y e. other_of number x.access y.access here (h zero (suc j) x y (λ z. absurd (omega (arith, z))) refl e))) in
    omega (arith, head, rest))
    (λ not_here.
    let head = none_of number x.access not_here in
    let rest = one_counted number xs (λ i j y z other a b. h (suc i) (suc j) y z (λ e. other (omega (arith, e))) a b) in
    omega (arith, head, rest))
    (true_or_false (is_this_table number x.access))

nobodys : (number : TableId) (xs : List (Option Indexed)) → is_table_taken number xs ≡ false → IsNobodys number xs
nobodys number [] e j y there = absurd (cc)
nobodys number (None ∷ xs) e zero y there = absurd (cc)
nobodys number (None ∷ xs) e (suc j) y there = nobodys number xs e j y there
nobodys number (Some x ∷ xs) e zero y there =
    let parts = not_taken (is_this_table number x.access) (is_table_taken number xs) e in
    subst (λ (z : Indexed). IsElsewhere (Table number) z.access) (same_index x y there) (elsewhere_of number x.access parts.0)
nobodys number (Some x ∷ xs) e (suc j) y there = nobodys number xs (not_taken (is_this_table number x.access) (is_table_taken number xs) e).1 j y there

-- where some index has the table, the table is there
has_table : (n : TableId) (access : Access) → is_this_table n access ≡ true → HasTable access → IsTable n
has_table First Order e h = absurd (cc)
has_table Second Order e h = absurd (cc)
has_table First (Tree file) e h = absurd (cc)
has_table Second (Tree file) e h = absurd (cc)
has_table First (Table First) e h = h
has_table First (Table Second) e h = absurd (cc)
has_table Second (Table First) e h = absurd (cc)
has_table Second (Table Second) e h = h

counted_there : (n : TableId) (xs : List (Option Indexed)) → HaveTables xs → 1 ≤ count n xs → IsTable n
unfolding count
counted_there n [] there some = absurd (omega (arith, some))
counted_there n (None ∷ xs) there some = counted_there n xs (λ i x e. there (suc i) x e) some
counted_there n (Some x ∷ xs) there some =
    ⊎_elim
    (λ here. has_table n x.access here (there zero x refl))
    (λ not_here. let head = none_of n x.access not_here in counted_there n xs (λ i y e. there (suc i) y e) (omega (arith, some, head)))
    (true_or_false (is_this_table n x.access))

-- ---- the free one

free_by : (a b : Bool) (n : TableId) → cond a (Some First) (cond b (Some Second) None) ≡ Some n → ((a ≡ true) × (n ≡ First)) ⊎ ((b ≡ true) × (n ≡ Second))
free_by true b n e = inl (refl, cc)
free_by false true n e = inr (refl, cc)
free_by false false n e = absurd (cc)

none_by : (a b : Bool) → cond a (Some First) (cond b (Some Second) None) ≡ None → (a ≡ false) × (b ≡ false)
none_by true b e = absurd (cc)
none_by false true e = absurd (cc)
none_by false false e = (refl, refl)

free_parts : (there taken : Bool) → (there && not taken) ≡ true → (there ≡ true) × (taken ≡ false)
free_parts true false e = (refl, refl)
free_parts true true e = absurd (cc)
free_parts false taken e = absurd (cc)

taken_by : (there taken : Bool) → (there && not taken) ≡ false → there ≡ true → taken ≡ true
taken_by true true e h = refl
taken_by true false e h = absurd (cc)
taken_by false taken e h = absurd (cc)

is_free : (xs : List (Option Indexed)) (n : TableId) → free_table xs ≡ Some n → is_table_free n xs ≡ true
is_free xs n e =
    ⊎_elim
    (λ first. subst (λ (m : TableId). is_table_free m xs ≡ true) (sym first.1) first.0)
    (λ second. subst (λ (m : TableId). is_table_free m xs ≡ true) (sym second.1) second.0)
    (free_by (is_table_free First xs) (is_table_free Second xs) n e)

free_is : (xs : List (Option Indexed)) (n : TableId) → free_table xs ≡ Some n → is_table_taken n xs ≡ false
free_is xs n e = (free_parts (nat_lt (number n) most_tables) (is_table_taken n xs) (is_free xs n e)).1

less_by : (a b : ℕ) → nat_lt a b ≡ true → a < b
less_by a b e = grind (arith, nat_tests)

by_less : (a b : ℕ) → a < b → nat_lt a b ≡ true
by_less a b h = grind (arith, nat_tests)

pub free_there : (xs : List (Option Indexed)) (n : TableId) → free_table xs ≡ Some n → IsTable n
free_there xs n e = less_by (number n) most_tables (free_parts (nat_lt (number n) most_tables) (is_table_taken n xs) (is_free xs n e)).0

pub free_nobodys : (xs : List (Option Indexed)) (n : TableId) → free_table xs ≡ Some n → IsNobodys n xs
free_nobodys xs n e = nobodys n xs (free_is xs n e)

few_of : (most n : ℕ) → n < most → nat_le most n ≡ false
few_of most n h = grind (arith, nat_tests)

many_of : (most n : ℕ) → most ≤ n → nat_le most n ≡ true
many_of most n h = grind (arith, nat_tests)

less_most : (n : TableId) (xs : List (Option Indexed)) → IsTable n → is_table_taken n xs ≡ false → HaveTables xs → AreElsewhere xs → count First xs + count Second xs < most_tables
less_most First xs there e have h =
    let a = none_counted First xs e in
    let b = one_counted Second xs h in
    ⊎_elim
    (λ (some : 0 < count Second xs). let second = counted_there Second xs have (omega (arith, some)) in omega (arith, a, b, second))
    (λ (none : count Second xs ≤ 0). omega (arith, a, none, there))
    (cases_lt 0 (count Second xs))
less_most Second xs there e have h = let a = one_counted First xs h in let b = none_counted Second xs e in omega (arith, a, b, there)

pub tables_few : (xs : List (Option Indexed)) (n : TableId) → free_table xs ≡ Some n → HaveTables xs → AreElsewhere xs
    → nat_le most_tables (length (filter is_hash_table (used_things (map (option_map index_known) xs)))) ≡ false
unfolding tables_in
tables_few xs n e have h =
    let all = sum xs in
    let less = less_most n xs (free_there xs n e) (free_is xs n e) have h in
    few_of most_tables (tables_in xs) (omega (arith, all, less))

-- what there is has an index each
counted_full : (n : TableId) (xs : List (Option Indexed)) → is_table_free n xs ≡ false → number n < most_tables → 1 ≤ count n xs
counted_full n xs e there = some_counted n xs (taken_by (nat_lt (number n) most_tables) (is_table_taken n xs) e (by_less (number n) most_tables there))

all_counted : (most a b : ℕ) → most ≤ 2 → (0 < most → 1 ≤ a) → (1 < most → 1 ≤ b) → most ≤ a + b
all_counted zero a b few first second = omega arith
all_counted (suc zero) a b few first second = let one = first (omega arith) in omega (arith, one)
all_counted (suc (suc m)) a b few first second = let one = first (omega arith) in let other = second (omega arith) in omega (arith, few, one, other)

pub tables_full : (xs : List (Option Indexed)) → free_table xs ≡ None → nat_le most_tables (length (filter is_hash_table (used_things (map (option_map index_known) xs)))) ≡ true
unfolding tables_in
tables_full xs e =
    let both = none_by (is_table_free First xs) (is_table_free Second xs) e in
    let all = sum xs in
    let full = all_counted most_tables (count First xs) (count Second xs) (omega arith) (counted_full First xs both.0) (counted_full Second xs both.1) in
    many_of most_tables (tables_in xs) (omega (arith, all, full))
