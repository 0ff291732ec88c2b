-- What stands in slots once one of them is set, and what is found in them.
use Rattle.std.proofs.Common.{◌≡◌, refl, sym, ap, subst, ◌∙◌, ℕ, zero, suc, ◌+◌, ◌≤◌, Bool, true, false, List, [], ◌∷◌, length, set, get_or, filter, replicate, cond, Option, Some, None, arith}
use Rattle.std.specs.Prelude.{◌||◌, is_some}
use Rattle.std.specs.List.{list_any, AllByRecursion}
use Rattle.std.specs.Str.{bytes_eq}
use Rattle.std.proofs.lemmas.Slice.Eq.{bytes_eq-Decides}
use Rattle.db_model.specs.Catalog.{Index}
use Rattle.db_model.specs.Database.{Relation, Cursor, used_things, free_from, relation_from, index_from, is_on, is_among, reader_from}
use Rattle.db_model.specs.Sound.{StandsIn}
use Rattle.padded.proofs.Facts.{never_some, some_alike, neither}

pub false_true : false ≡ true → ⊥
false_true e = cc

pub same_or_other : {P : Type 0} (a b : ℕ) → (a ≡ b → P) → ((a ≡ b → ⊥) → P) → P
same_or_other zero zero same other = same refl
same_or_other zero (suc b) same other = other (λ e. omega (arith, e))
same_or_other (suc a) zero same other = other (λ e. omega (arith, e))
same_or_other (suc a) (suc b) same other = same_or_other a b (λ e. same (ap suc e)) (λ n. other (λ e. n (omega (arith, e))))

-- ---- one slot is set

-- what stands in a slot then is what it was set to, or stood there before in another slot
pub stands_either : {A P : Type 0} (slots : List (Option A)) (k j : ℕ) (v : Option A) (x : A) → StandsIn (set slots k v) j x → (j ≡ k → v ≡ Some x → P) → ((j ≡ k → ⊥) → StandsIn slots j x → P) → P
stands_either [] k j v x e same other = absurd (never_some e)
stands_either (y ∷ slots) zero zero v x e same other = same refl e
stands_either (y ∷ slots) zero (suc j) v x e same other = other (λ i. omega (arith, i)) e
stands_either (y ∷ slots) (suc k) zero v x e same other = other (λ i. omega (arith, i)) e
stands_either (y ∷ slots) (suc k) (suc j) v x e same other =
    stands_either slots k j v x e (λ i s. same (ap suc i) s) (λ n s. other (λ i. n (omega (arith, i))) s)

pub stands_other : {A : Type 0} (slots : List (Option A)) (k j : ℕ) (v : Option A) (x : A) → (j ≡ k → ⊥) → StandsIn slots j x → StandsIn (set slots k v) j x
stands_other [] k j v x n e = e
stands_other (y ∷ slots) zero zero v x n e = absurd (n refl)
stands_other (y ∷ slots) zero (suc j) v x n e = e
stands_other (y ∷ slots) (suc k) zero v x n e = e
stands_other (y ∷ slots) (suc k) (suc j) v x n e = stands_other slots k j v x (λ i. n (ap suc i)) e

-- a slot in which something stood holds what it was set to
pub stands_set : {A : Type 0} (slots : List (Option A)) (k : ℕ) (x y : A) → StandsIn slots k x → StandsIn (set slots k (Some y)) k y
stands_set [] k x y e = absurd (never_some e)
stands_set (z ∷ slots) zero x y e = refl
stands_set (z ∷ slots) (suc k) x y e = stands_set slots k x y e

pub stands_once : {A : Type 0} (slots : List (Option A)) (k : ℕ) (x y : A) → StandsIn slots k x → StandsIn slots k y → x ≡ y
stands_once slots k x y e f = some_alike (sym e ∙ f)

pub nothing_stands : {A : Type 0} (n k : ℕ) (x : A) → StandsIn (replicate n None) k x → ⊥
nothing_stands zero k x e = never_some e
nothing_stands (suc n) zero x e = never_some e
nothing_stands (suc n) (suc k) x e = nothing_stands n k x e

-- the first unused slot, the list's first being slot n
pub record IsFree {A : Type 0} (n : ℕ) (slots : List (Option A)) (k : ℕ) : Type 0 where
  pub slot : ℕ
  pub number : k ≡ n + slot
  pub free : get_or slots slot None ≡ None

pub free_is : {A : Type 0} (n k : ℕ) (slots : List (Option A)) → free_from n slots ≡ Some k → IsFree n slots k
free_is n k [] e = absurd (never_some e)
free_is n k (None ∷ slots) e = let same : n ≡ k = some_alike e in record { slot = zero; number = omega (arith, same); free = refl }
free_is n k (Some x ∷ slots) e =
    let f = free_is (n + 1) k slots e in
    let number = f.number in
    record { slot = suc f.slot; number = omega (arith, number); free = f.free }

pub nothing_free : {A : Type 0} (slots : List (Option A)) (slot : ℕ) → free_from 0 slots ≡ Some slot → get_or slots slot None ≡ None
nothing_free slots slot e =
    let free = free_is 0 slot slots e in
    let number = free.number in
    let same : free.slot ≡ slot = omega (arith, number) in
    ap (λ k. get_or slots k None) (sym same) ∙ free.free

-- ---- tests over what the slots hold

-- 1 for true
abbrev pub one : Bool → ℕ
one true = 1
one false = 0

pub none_of : {A : Type 0} (test : A → Bool) (slots : List (Option A)) (k : ℕ) (x : A) → length (filter test (used_things slots)) ≡ 0 → StandsIn slots k x → test x ≡ false
none_of test [] k x none e = absurd (never_some e)
none_of test (None ∷ slots) zero x none e = absurd (never_some e)
none_of test (None ∷ slots) (suc k) x none e = none_of test slots k x none e
none_of test (Some y ∷ slots) k x none e = by_test (test y) refl none (λ many j d. none_of test slots j x many d)
  where
    here : (k : ℕ) → test y ≡ false → StandsIn (Some y ∷ slots) k x → ((j : ℕ) → StandsIn slots j x → test x ≡ false) → test x ≡ false
    here zero f e rest = let same : y ≡ x = some_alike e in ap test (sym same) ∙ f
    here (suc k) f e rest = rest k e

    by_test : (t : Bool) → test y ≡ t → length (cond t (y ∷ filter test (used_things slots)) (filter test (used_things slots))) ≡ 0
        → (length (filter test (used_things slots)) ≡ 0 → (j : ℕ) → StandsIn slots j x → test x ≡ false) → test x ≡ false
    by_test true f many rest = absurd (omega (arith, many))
    by_test false f many rest = here k f e (rest many)

pub any_of : {A : Type 0} (test among : A → Bool) (slots : List (Option A)) (k : ℕ) (x : A) → StandsIn slots k x → among x ≡ true → test x ≡ true → list_any test (filter among (used_things slots)) ≡ true
any_of test among [] k x e a t = absurd (never_some e)
any_of test among (None ∷ slots) zero x e a t = absurd (never_some e)
any_of test among (None ∷ slots) (suc k) x e a t = any_of test among slots k x e a t
any_of test among (Some y ∷ slots) zero x e a t =
    let same : y ≡ x = some_alike e in
    ap (λ b. list_any test (cond b (y ∷ filter among (used_things slots)) (filter among (used_things slots)))) (ap among same ∙ a)
    ∙ ap (λ b. b || list_any test (filter among (used_things slots))) (ap test same ∙ t)
any_of test among (Some y ∷ slots) (suc k) x e a t = by_test (among y) (test y) (any_of test among slots k x e a t)
  where
    by_test : (b c : Bool) → list_any test (filter among (used_things slots)) ≡ true → list_any test (cond b (y ∷ filter among (used_things slots)) (filter among (used_things slots))) ≡ true
    by_test false c h = h
    by_test true c h = neither (test y)
      where
        neither : (c : Bool) → (c || list_any test (filter among (used_things slots))) ≡ true
        neither true = refl
        neither false = h

count_both : {A : Type 0} (b : Bool) (y : A) (xs ys : List A) (n : ℕ) → length xs ≤ n + length ys → length (cond b (y ∷ xs) xs) ≤ n + length (cond b (y ∷ ys) ys)
count_both true y xs ys n h = omega (arith, h)
count_both false y xs ys n h = h

-- one more at most, where something is put into an unused slot
pub count_put : {A : Type 0} (test : A → Bool) (slots : List (Option A)) (k : ℕ) (x : A) → get_or slots k None ≡ None → length (filter test (used_things (set slots k (Some x)))) ≤ one (test x) + length (filter test (used_things slots))
count_put test [] k x e = omega arith
count_put test (None ∷ slots) zero x e = by_test (test x)
  where
    by_test : (b : Bool) → length (cond b (x ∷ filter test (used_things slots)) (filter test (used_things slots))) ≤ one b + length (filter test (used_things slots))
    by_test true = omega arith
    by_test false = omega arith
count_put test (Some y ∷ slots) zero x e = absurd (never_some (sym e))
count_put test (None ∷ slots) (suc k) x e = count_put test slots k x e
count_put test (Some y ∷ slots) (suc k) x e =
    count_both (test y) y (filter test (used_things (set slots k (Some x)))) (filter test (used_things slots)) (one (test x)) (count_put test slots k x e)

pub count_out : {A : Type 0} (test : A → Bool) (slots : List (Option A)) (k : ℕ) → length (filter test (used_things (set slots k None))) ≤ length (filter test (used_things slots))
count_out test [] k = omega arith
count_out test (None ∷ slots) zero = omega arith
count_out test (Some y ∷ slots) zero = by_test (test y)
  where
    by_test : (b : Bool) → length (filter test (used_things slots)) ≤ length (cond b (y ∷ filter test (used_things slots)) (filter test (used_things slots)))
    by_test true = omega arith
    by_test false = omega arith
count_out test (None ∷ slots) (suc k) = count_out test slots k
count_out test (Some y ∷ slots) (suc k) =
    let h = count_out test slots k in
    let e = count_both (test y) y (filter test (used_things (set slots k None))) (filter test (used_things slots)) 0 (omega (arith, h)) in
    omega (arith, e)

-- ---- relations by name

-- what is found by name stands in its slot, the list's first being slot n
pub record IsFound (name : List ℕ) (n : ℕ) (slots : List (Option Relation)) (found : ℕ × Relation) : Type 0 where
  pub slot : ℕ
  pub number : found.0 ≡ n + slot
  pub stands : StandsIn slots slot found.1
  pub named : found.1.schema.name ≡ name

found_behind : (name : List ℕ) (n : ℕ) (o : Option Relation) (slots : List (Option Relation)) (found : ℕ × Relation) → IsFound name (n + 1) slots found → IsFound name n (o ∷ slots) found
found_behind name n o slots found f =
    let number = f.number in
    record { slot = suc f.slot; number = omega (arith, number); stands = f.stands; named = f.named }

pub found_from : (name : List ℕ) (n : ℕ) (slots : List (Option Relation)) (found : ℕ × Relation) → relation_from name n slots ≡ Some found → IsFound name n slots found
found_from name n [] found e = absurd (never_some e)
found_from name n (None ∷ slots) found e = found_behind name n None slots found (found_from name (n + 1) slots found e)
found_from name n (Some r ∷ slots) found e = by_test (bytes_eq r.schema.name name) refl e (λ f. found_behind name n (Some r) slots found (found_from name (n + 1) slots found f))
  where
    here : (t : ℕ × Relation) → (n, r) ≡ t → bytes_eq r.schema.name name ≡ true → IsFound name n (Some r ∷ slots) t
    here t same h =
        subst (IsFound name n (Some r ∷ slots)) same
        (record { slot = zero; number = omega arith; stands = refl; named = (bytes_eq-Decides r.schema.name name).0 h })

    by_test : (b : Bool) → bytes_eq r.schema.name name ≡ b → cond b (Some (n, r)) (relation_from name (n + 1) slots) ≡ Some found
        → (relation_from name (n + 1) slots ≡ Some found → IsFound name n (Some r ∷ slots) found) → IsFound name n (Some r ∷ slots) found
    by_test true h f rest = here found (some_alike f) h
    by_test false h f rest = rest f

-- what stands in a slot is found by its name, or another of that name before it
pub found_of : (name : List ℕ) (n k : ℕ) (slots : List (Option Relation)) (r : Relation) → StandsIn slots k r → r.schema.name ≡ name → is_some (relation_from name n slots) ≡ true
found_of name n k [] r e same = absurd (never_some e)
found_of name n zero (None ∷ slots) r e same = absurd (never_some e)
found_of name n (suc k) (None ∷ slots) r e same = found_of name (n + 1) k slots r e same
found_of name n zero (Some q ∷ slots) r e same =
    let is : q ≡ r = some_alike e in
    ap (λ b. is_some (cond b (Some (n, q)) (relation_from name (n + 1) slots))) ((bytes_eq-Decides q.schema.name name).1 (ap (λ r. r.schema.name) is ∙ same))
found_of name n (suc k) (Some q ∷ slots) r e same = by_test (bytes_eq q.schema.name name) (found_of name (n + 1) k slots r e same)
  where
    by_test : (b : Bool) → is_some (relation_from name (n + 1) slots) ≡ true → is_some (cond b (Some (n, q)) (relation_from name (n + 1) slots)) ≡ true
    by_test true h = refl
    by_test false h = h

-- ---- indexes by place, cursors by relation

pub not_on : (relation attribute n k : ℕ) (slots : List (Option Index)) (index : Index) → index_from relation attribute n slots ≡ None → StandsIn slots k index → is_on relation attribute index ≡ false
not_on relation attribute n k [] index none e = absurd (never_some e)
not_on relation attribute n zero (None ∷ slots) index none e = absurd (never_some e)
not_on relation attribute n (suc k) (None ∷ slots) index none e = not_on relation attribute (n + 1) k slots index none e
not_on relation attribute n k (Some other ∷ slots) index none e = by_test (is_on relation attribute other) refl none (λ f j d. not_on relation attribute (n + 1) j slots index f d)
  where
    here : (k : ℕ) → is_on relation attribute other ≡ false → StandsIn (Some other ∷ slots) k index → ((j : ℕ) → StandsIn slots j index → is_on relation attribute index ≡ false) → is_on relation attribute index ≡ false
    here zero f e rest = let same : other ≡ index = some_alike e in ap (is_on relation attribute) (sym same) ∙ f
    here (suc k) f e rest = rest k e

    by_test : (b : Bool) → is_on relation attribute other ≡ b → cond b (Some n) (index_from relation attribute (n + 1) slots) ≡ None
        → (index_from relation attribute (n + 1) slots ≡ None → (j : ℕ) → StandsIn slots j index → is_on relation attribute index ≡ false) → is_on relation attribute index ≡ false
    by_test true f none rest = absurd (never_some (sym none))
    by_test false f none rest = here k f e (rest none)

pub not_read : (name : List ℕ) (n k : ℕ) (cursors : List (Option Cursor)) (cursor : Cursor) → reader_from name n cursors ≡ None → StandsIn cursors k cursor → is_among name cursor.reads ≡ false
not_read name n k [] cursor none e = absurd (never_some e)
not_read name n zero (None ∷ cursors) cursor none e = absurd (never_some e)
not_read name n (suc k) (None ∷ cursors) cursor none e = not_read name (n + 1) k cursors cursor none e
not_read name n k (Some other ∷ cursors) cursor none e = by_test (is_among name other.reads) refl none (λ f j d. not_read name (n + 1) j cursors cursor f d)
  where
    here : (k : ℕ) → is_among name other.reads ≡ false → StandsIn (Some other ∷ cursors) k cursor → ((j : ℕ) → StandsIn cursors j cursor → is_among name cursor.reads ≡ false) → is_among name cursor.reads ≡ false
    here zero f e rest = let same : other ≡ cursor = some_alike e in ap (λ c. is_among name c.reads) (sym same) ∙ f
    here (suc k) f e rest = rest k e

    by_test : (b : Bool) → is_among name other.reads ≡ b → cond b (Some n) (reader_from name (n + 1) cursors) ≡ None
        → (reader_from name (n + 1) cursors ≡ None → (j : ℕ) → StandsIn cursors j cursor → is_among name cursor.reads ≡ false) → is_among name cursor.reads ≡ false
    by_test true f none rest = absurd (never_some (sym none))
    by_test false f none rest = here k f e (rest none)

-- what holds of each of some names holds of them by another fact, but for one name that is not among them
pub all_others : (P Q : List ℕ → Type 0) (name : List ℕ) (names : List (List ℕ)) → is_among name names ≡ false → ((other : List ℕ) → bytes_eq other name ≡ false → P other → Q other) → AllByRecursion P names → AllByRecursion Q names
all_others P Q name [] none turn h = tt
all_others P Q name (other ∷ others) none turn h =
    let apart = neither (bytes_eq other name) (is_among name others) none in (turn other apart.0 h.0, all_others P Q name others apart.1 turn h.1)

pub all_same : {A : Type 0} (P Q : A → Type 0) (xs : List A) → ((x : A) → P x → Q x) → AllByRecursion P xs → AllByRecursion Q xs
all_same P Q [] turn h = tt
all_same P Q (x ∷ xs) turn h = (turn x h.0, all_same P Q xs turn h.1)
