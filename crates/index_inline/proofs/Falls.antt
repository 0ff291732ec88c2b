-- Keys that do not fall.
use Rattle.std.proofs.Common.{◌≡◌, ◌≤◌, ◌<◌, ◌+◌, ◌-◌, ◌++◌, ◌∷◌, [], List, length, get_or, map, take, drop, ℕ, zero, suc, ℤ, pos, negsuc, Bool, true, false, Option, Some, None, cond, max, ⊎_elim, arith, refl, ap, ◌∙◌, sym, subst}
use Rattle.std.specs.Prelude.{FitsSigned, int_lt, int_le}
use Rattle.std.specs.Int.{w64}
use Rattle.std.specs.List.{range_with_len}
use Rattle.std.proofs.lemmas.Bool.{cases_lt}
use Rattle.std.proofs.lemmas.Int.{ints}
use Rattle.std.proofs.lemmas.List.FromFn.{get_or-map-range_with_len, length-map-range_with_len, map-range_with_len_more, take-map-range_with_len}
use Rattle.std.proofs.lemmas.List.{take-append-drop, append_assoc}
use Rattle.db_model.specs.declared.schemas.Range.{Range}
use Rattle.db_model.specs.declared.schemas.Range.TheVariants.{Empty, Between}
use Rattle.db_model.specs.Plan.{lies_in}
use Rattle.db_model.specs.Step.{first_fall}
use Rattle.index_inline.specs.Span.{AreAround, IsEndFrom, IsSpan, IsSpanTo, KeysRise, passes_end, is_below, is_above}

-- ---- lists

-- a list that does not fall has no fall at its front, and none behind it
pub not_first : (b : Bool) (a : ℤ) (rest : Option ℤ) → cond b (Some a) rest ≡ None → b ≡ false
not_first true a rest e = cc
not_first false a rest e = refl

pub none_behind : (b : Bool) (a : ℤ) (rest : Option ℤ) → cond b (Some a) rest ≡ None → rest ≡ None
none_behind true a rest e = cc
none_behind false a rest e = e

least_first : (a : ℤ) (zs : List ℤ) → first_fall (a ∷ zs) ≡ None → (j : ℕ) → j < length (a ∷ zs) → int_le a (get_or (a ∷ zs) j (pos 0)) ≡ true
least_first a zs e zero h = grind (arith, ints)
least_first a [] e (suc j) h = absurd (omega arith)
least_first a (b ∷ zs) e (suc j) h =
    let here = not_first (int_lt b a) a (first_fall (b ∷ zs)) e in
    let deep = least_first b zs (none_behind (int_lt b a) a (first_fall (b ∷ zs)) e) j (omega arith) in
    grind (arith, ints)

list_rises : (zs : List ℤ) → first_fall zs ≡ None → (i j : ℕ) → i ≤ j → j < length zs → int_le (get_or zs i (pos 0)) (get_or zs j (pos 0)) ≡ true
list_rises [] e i j h k = absurd (omega arith)
list_rises (a ∷ zs) e zero j h k = least_first a zs e j k
list_rises (a ∷ zs) e (suc i) zero h k = absurd (omega arith)
list_rises (a ∷ []) e (suc i) (suc j) h k = absurd (omega arith)
list_rises (a ∷ b ∷ zs) e (suc i) (suc j) h k = list_rises (b ∷ zs) (none_behind (int_lt b a) a (first_fall (b ∷ zs)) e) i j (omega arith) (omega arith)

pub rises : (key : ℕ → ℤ) (slots : ℕ) → first_fall (map key (range_with_len 0 slots)) ≡ None → KeysRise key slots
rises key slots e i j h k =
    let first : get_or (map key (range_with_len 0 slots)) i (pos 0) ≡ key i = get_or-map-range_with_len key 0 slots i i (pos 0) (omega arith) (omega arith) in
    let second : get_or (map key (range_with_len 0 slots)) j (pos 0) ≡ key j = get_or-map-range_with_len key 0 slots j j (pos 0) (omega arith) (omega arith) in
    let size = length-map-range_with_len key 0 slots in
    let both = list_rises (map key (range_with_len 0 slots)) e i j h (omega (arith, size)) in
    subst (λ (a : ℤ). int_le a (key j) ≡ true) first (subst (λ (b : ℤ). int_le (get_or (map key (range_with_len 0 slots)) i (pos 0)) b ≡ true) second both)

-- ---- halving

passes_below : (upper : Bool) (within : Range) (a b : ℤ) → int_le a b ≡ true → passes_end upper within b ≡ true → passes_end upper within a ≡ true
passes_below upper Empty a b h k = k
passes_below true (Between lo hi) a b h k = grind (arith, ints)
passes_below false (Between lo hi) a b h k = grind (arith, ints)

pub passes_up_to : (key : ℕ → ℤ) (slots middle : ℕ) (upper : Bool) (within : Range) → KeysRise key slots → middle < slots → passes_end upper within (key middle) ≡ true → (slot : ℕ) → slot < middle + 1 → passes_end upper within (key slot) ≡ true
passes_up_to key slots middle upper within rises below passed slot h = passes_below upper within (key slot) (key middle) (rises slot middle (omega arith) below) passed

pub fails_from : (key : ℕ → ℤ) (slots middle : ℕ) (upper : Bool) (within : Range) → KeysRise key slots → passes_end upper within (key middle) ≡ false → (slot : ℕ) → middle ≤ slot → slot < slots → passes_end upper within (key slot) ≡ false
fails_from key slots middle upper within rises failed slot h below =
    elim (passes_end upper within (key slot)) as (λ b. passes_end upper within (key slot) ≡ b → b ≡ false) [ true ↦ (λ e. let up = passes_below upper within (key middle) (key slot) (rises middle slot h below) e in cc) | false ↦ (λ e. refl) ] refl

-- ---- keys read one by one

not_here : (b : Bool) (a : ℤ) (rest other : Option ℤ) → cond b (Some a) rest ≡ None → cond b (Some a) other ≡ other
not_here true a rest other e = cc
not_here false a rest other e = refl

fall_next : (zs : List ℤ) (a b : ℤ) → first_fall (zs ++ a ∷ []) ≡ None → first_fall (zs ++ a ∷ b ∷ []) ≡ cond (int_lt b a) (Some a) None
fall_next [] a b e = refl
fall_next (x ∷ []) a b e = not_here (int_lt a x) x (first_fall (a ∷ [])) (first_fall (a ∷ b ∷ [])) e
fall_next (x ∷ y ∷ zs) a b e =
    not_here (int_lt y x) x (first_fall (y ∷ zs ++ a ∷ [])) (first_fall (y ∷ zs ++ a ∷ b ∷ [])) e
    ∙ fall_next (y ∷ zs) a b (none_behind (int_lt y x) x (first_fall (y ∷ zs ++ a ∷ [])) e)

still_here : (b : Bool) (a k : ℤ) (rest other : Option ℤ) → (rest ≡ Some k → other ≡ Some k) → cond b (Some a) rest ≡ Some k → cond b (Some a) other ≡ Some k
still_here true a k rest other deep e = e
still_here false a k rest other deep e = deep e

fall_stays : (zs ws : List ℤ) (k : ℤ) → first_fall zs ≡ Some k → first_fall (zs ++ ws) ≡ Some k
fall_stays [] ws k e = cc
fall_stays (x ∷ []) ws k e = cc
fall_stays (x ∷ y ∷ zs) ws k e = still_here (int_lt y x) x k (first_fall (y ∷ zs)) (first_fall (y ∷ zs ++ ws)) (fall_stays (y ∷ zs) ws k) e

-- the keys up to one, and the next
two_more : (key : ℕ → ℤ) (at : ℕ) → map key (range_with_len 0 (at + 2)) ≡ map key (range_with_len 0 at) ++ key at ∷ key (at + 1) ∷ []
two_more key at =
    let e : at + 2 ≡ at + 1 + 1 = omega arith in
    rw e (map-range_with_len_more key 0 (at + 1) (at + 1) (omega arith) ∙ ap (λ (zs : List ℤ). zs ++ key (at + 1) ∷ []) (map-range_with_len_more key 0 at at (omega arith)) ∙ append_assoc (map key (range_with_len 0 at)) (key at ∷ []) (key (at + 1) ∷ []))

next_is : (key : ℕ → ℤ) (at : ℕ) → first_fall (map key (range_with_len 0 (at + 1))) ≡ None → first_fall (map key (range_with_len 0 (at + 2))) ≡ cond (int_lt (key (at + 1)) (key at)) (Some (key at)) None
next_is key at e =
    let front = sym (ap first_fall (map-range_with_len_more key 0 at at (omega arith))) ∙ e in
    ap first_fall (two_more key at) ∙ fall_next (map key (range_with_len 0 at)) (key at) (key (at + 1)) front

rises_next : (key : ℕ → ℤ) (at : ℕ) → first_fall (map key (range_with_len 0 at)) ≡ None → (0 < at → int_lt (key at) (key (at - 1)) ≡ false) → first_fall (map key (range_with_len 0 (at + 1))) ≡ None
rises_next key zero e test = refl
rises_next key (suc n) e test =
    let back : suc n - 1 ≡ n = omega arith in
    let one : suc n ≡ n + 1 = omega arith in
    let level : first_fall (map key (range_with_len 0 (n + 1))) ≡ None = subst (λ (m : ℕ). first_fall (map key (range_with_len 0 m)) ≡ None) one e in
    let test_is : int_lt (key (n + 1)) (key n) ≡ false = subst (λ (m : ℕ). int_lt (key m) (key n) ≡ false) one (subst (λ (m : ℕ). int_lt (key (suc n)) (key m) ≡ false) back (test (omega arith))) in
    let two : suc n + 1 ≡ n + 2 = omega arith in
    rw two (next_is key n level ∙ ap (λ (b : Bool). cond b (Some (key n)) None) test_is)

falls_next : (key : ℕ → ℤ) (slots n : ℕ) → first_fall (map key (range_with_len 0 (n + 1))) ≡ None → int_lt (key (n + 1)) (key n) ≡ true → n + 1 < slots → first_fall (map key (range_with_len 0 slots)) ≡ Some (key n)
falls_next key slots n e test h =
    let front : first_fall (map key (range_with_len 0 (n + 2))) ≡ Some (key n) = next_is key n e ∙ ap (λ (b : Bool). cond b (Some (key n)) None) test in
    let taken : take (n + 2) (map key (range_with_len 0 slots)) ≡ map key (range_with_len 0 (n + 2)) = take-map-range_with_len key 0 slots (n + 2) (omega arith) in
    subst (λ (zs : List ℤ). first_fall zs ≡ Some (key n)) (take-append-drop (n + 2) (map key (range_with_len 0 slots)))
    (fall_stays (take (n + 2) (map key (range_with_len 0 slots))) (drop (n + 2) (map key (range_with_len 0 slots))) (key n) (ap first_fall taken ∙ front))

-- ---- the same over what a loop has at hand: the key before, or the least of all where there is none, and the next key

pub falls_at : (key : ℕ → ℤ) (slots at : ℕ) (k last : ℤ) → first_fall (map key (range_with_len 0 at)) ≡ None → (0 < at → last ≡ key (at - 1)) → (at ≡ 0 → last ≡ negsuc 9223372036854775807) → FitsSigned w64 k
    → k ≡ key at → int_lt k last ≡ true → at < slots → Some last ≡ first_fall (map key (range_with_len 0 slots))
falls_at key slots zero k last level before least fits is falls h =
    let low = subst (λ (z : ℤ). int_lt k z ≡ true) (least refl) falls in
    absurd (grind (arith, ints))
falls_at key slots (suc n) k last level before least fits is falls h =
    let back : suc n - 1 ≡ n = omega arith in
    let last_is : last ≡ key n = subst (λ (m : ℕ). last ≡ key m) back (before (omega arith)) in
    let one : suc n ≡ n + 1 = omega arith in
    let front : first_fall (map key (range_with_len 0 (n + 1))) ≡ None = subst (λ (m : ℕ). first_fall (map key (range_with_len 0 m)) ≡ None) one level in
    let test : int_lt (key (n + 1)) (key n) ≡ true = subst (λ (m : ℕ). int_lt (key m) (key n) ≡ true) one (subst (λ (z : ℤ). int_lt z (key n) ≡ true) is (subst (λ (z : ℤ). int_lt k z ≡ true) last_is falls)) in
    let below : n + 1 < slots = omega arith in
    (ap (λ (z : ℤ). Some z) last_is ∙ sym (falls_next key slots n front test below))

pub rises_at : (key : ℕ → ℤ) (at : ℕ) (k last : ℤ) → first_fall (map key (range_with_len 0 at)) ≡ None → (0 < at → last ≡ key (at - 1)) → k ≡ key at → int_lt k last ≡ false
    → first_fall (map key (range_with_len 0 (at + 1))) ≡ None
rises_at key at k last level before is test = rises_next key at level (λ some. subst (λ (z : ℤ). int_lt z (key (at - 1)) ≡ false) is (subst (λ (z : ℤ). int_lt k z ≡ false) (before some) test))

-- ---- both ends of a range

is_before : (within : Range) (k : ℤ) → passes_end false within k ≡ true → is_below within k ≡ true
is_before Empty k e = e
is_before (Between lo hi) k e = e

is_between : (within : Range) (k : ℤ) → passes_end false within k ≡ false → passes_end true within k ≡ true → lies_in within k ≡ true
is_between Empty k from to = to
is_between (Between lo hi) k from to = rw to (grind (arith, ints))

is_behind : (within : Range) (k : ℤ) → passes_end true within k ≡ false → is_above within k ≡ true
is_behind Empty k e = refl
is_behind (Between lo hi) k e = grind (arith, ints)

pub span_found : (within : Range) (key : ℕ → ℤ) (slots from to behind end : ℕ) → from ≤ to → to ≤ end → end ≤ behind → IsSpanTo within key slots from to behind → IsEndFrom within key to behind end → IsSpan within key slots from end
span_found within key slots from to behind end first second third near far =
    let last = near.end in
    record {
      order = omega arith;
      end = omega (arith, last, third);
      below = λ slot h. is_before within (key slot) (near.below slot h);
      inside = λ slot h k. is_between within (key slot) (near.reached slot h (omega (arith, last, third, k)))
          (⊎_elim (λ l. near.inside slot h l) (λ l. far.passed slot l k) (cases_lt slot to));
      above = λ slot h k. is_behind within (key slot)
          (⊎_elim (λ l. far.failed slot h l) (λ l. near.above slot l k) (cases_lt slot behind));
    }

-- ---- the slots around both ends, and a look at one of them

pub low_raised : (within : Range) (key : ℕ → ℤ) (slots low high behind middle : ℕ) → KeysRise key slots → middle < high → high ≤ behind → passes_end false within (key middle) ≡ true
    → AreAround within key slots low high behind → AreAround within key slots (middle + 1) high behind
low_raised within key slots low high behind middle rises h k passed around =
    let last = around.end in
    record {
      end = last;
      below = λ slot l. passes_up_to key slots middle false within rises (omega (arith, last)) passed slot l;
      reached = around.reached;
      above = around.above;
    }

pub high_lowered : (within : Range) (key : ℕ → ℤ) (slots low high behind middle : ℕ) → KeysRise key slots → passes_end false within (key middle) ≡ false
    → AreAround within key slots low high behind → AreAround within key slots low middle behind
high_lowered within key slots low high behind middle rises failed around =
    record {
      end = around.end;
      below = around.below;
      reached = fails_from key slots middle false within rises failed;
      above = around.above;
    }

pub behind_lowered : (within : Range) (key : ℕ → ℤ) (slots low high behind middle : ℕ) → KeysRise key slots → middle ≤ behind → passes_end true within (key middle) ≡ false
    → AreAround within key slots low high behind → AreAround within key slots low high middle
behind_lowered within key slots low high behind middle rises h failed around =
    let last = around.end in
    record {
      end = omega (arith, last);
      below = around.below;
      reached = around.reached;
      above = fails_from key slots middle true within rises failed;
    }
